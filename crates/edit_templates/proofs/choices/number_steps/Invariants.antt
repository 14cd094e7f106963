use Rattle.std.proofs.Common.{◌≡◌, ◌+◌, ◌∷◌, [], map, decimal}
use Rattle.omega_net.specs.Wires.{below}
use Rattle.edit_templates.proofs.choices.number_steps.Given as goal

abbrev pub invariant-loop-more : goal.invariant-loop-more
invariant-loop-more l = l.steps.items ≡ map (λ word. (word ∷ [], [])) (map (λ i. decimal (l.span.from + i)) (below l.more))
