use Rattle.std.proofs.Common.{◌≡◌, ◌∙◌, ap, sym, refl, map, length, Some, arith}
use Rattle.std.proofs.lemmas.Bool.Decides.{nat_tests}
use Rattle.std.specs.Prelude.{slice_get}
use Rattle.std.specs.Arc.{arc_value}
use Rattle.std.proofs.lemmas.Option.{slice_get_past, slice_get_read}
use Rattle.machine_cells.specs.Cells.{state_or}
use Rattle.machine_cells.proofs.Rows.{get_or_missing}
use Rattle.machine_cells.proofs.scratch.near_or.Goals as goal

pub returns-in-None-state_at : goal.returns-in-None-state_at
returns-in-None-state_at c =
    let S = map arc_value c.args.row.now in
    let own = c.args.own.now in
    let near = c.args.near.now in
    let number = c.in-Some.number.now in
    let found : slice_get near c.args.place ≡ Some number = slice_get_read near (length near) c.args.place number refl (grind (arith, nat_tests, c.in-Some.ensures.lookup.0)) c.in-Some.ensures.lookup.1 in
    sym (get_or_missing S number own (sym c.in-None-state_at.ensures)) ∙ ap (λ o. state_or S o own) (sym found)

pub returns-in-None : goal.returns-in-None
returns-in-None c =
    let near = c.args.near.now in
    ap (λ o. state_or (map arc_value c.args.row.now) o c.args.own.now) (sym (slice_get_past near c.args.place (grind (arith, nat_tests, c.in-None.ensures.lookup.0))))
