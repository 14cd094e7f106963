use Rattle.std.proofs.Common.{◌≡◌, ◌∷◌, ◌++◌, drop}
use Rattle.std.specs.List.{flat_map}
use Rattle.lab_shell.proofs.json.add_later.Given as goal

abbrev pub invariant-loop-item : goal.invariant-loop-item
invariant-loop-item g l =
    l.out.items ++ flat_map (λ x. 44 ∷ g.T.Item.text x) (drop l.item-index l.items) ≡ l.initial.out.items ++ flat_map (λ x. 44 ∷ g.T.Item.text x) l.items
