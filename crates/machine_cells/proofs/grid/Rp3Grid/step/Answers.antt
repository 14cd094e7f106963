use Rattle.std.proofs.Common.{◌≡◌, ◌∙◌, ap, sym, refl, map, length, Some, arith}
use Rattle.std.proofs.lemmas.Bool.Decides.{nat_tests}
use Rattle.std.proofs.lemmas.Option.{slice_get-map, slice_get_read}
use Rattle.std.specs.Prelude.{option_map}
use Rattle.std.specs.Arc.{arc_value}
use Rattle.omega_net.specs.Numbers.{component_of}
use Rattle.machine_cells.specs.Cells.{pulled}
use Rattle.machine_cells.specs.GridRules.{next_state}
use Rattle.machine_cells.proofs.Rows.{if_ok, pulled_next}
use Rattle.machine_cells.proofs.grid.Rp3Grid.step.Goals as goal

pub returns-in-Some : goal.returns-in-Some
returns-in-Some c =
    let P = c.args.s.now in
    let N = map arc_value c.args.near.now in
    let x = c.component_at-component.result in
    let own = arc_value c.in-Some.own.now in
    let first = slice_get_read c.args.near.now (length c.args.near.now) 0 c.in-Some.own.now refl (grind (arith, nat_tests, c.in-Some.ensures.item.0)) c.in-Some.ensures.item.1 in
    let is = sym (ap (λ k. component_of k c.args.c) c.shape-shape.ensures) ∙ c.component_at-component.ensures.is in
    if_ok (λ s. arc_value s ≡ pulled P N (Some x) own) (λ s. arc_value s ≡ next_state P N c.args.c) (λ s e. e ∙ pulled_next P N c.args.c x own (slice_get-map arc_value c.args.near.now 0 ∙ ap (option_map arc_value) first) is) c.pulled.result c.pulled.ensures
