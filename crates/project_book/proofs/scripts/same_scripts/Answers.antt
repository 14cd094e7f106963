use Rattle.std.proofs.Common.{◌≡◌, ◌≤◌, length, map, arith, refl}
use Rattle.std.specs.Arc.{arc_value}
use Rattle.std.proofs.lemmas.List.{length-map}
use Rattle.project_book.proofs.Same.{same_lists}
use Rattle.project_book.proofs.scripts.same_scripts.Goals as goal

pub returns : goal.returns
returns c =
    let own : length (map arc_value c.args.scripts.now) ≡ length c.args.scripts.now = length-map c.args.scripts.now arc_value in
    let other : length (map arc_value c.args.others.now) ≡ length c.args.others.now = length-map c.args.others.now arc_value in
    let many : length (map arc_value c.args.scripts.now) ≡ length (map arc_value c.args.others.now) = omega (arith, own, other) in
    let most : length (map arc_value c.args.scripts.now) ≤ c.loop-proc.proc = omega (arith, own) in
    (λ h. same_lists (map arc_value c.args.scripts.now) (map arc_value c.args.others.now) c.loop-proc.proc many most c.loop-proc.invariant.each, λ e. refl)
