use Rattle.std.proofs.Common.{◌≡◌, ◌∷◌, [], map, take}
use Rattle.edit_templates.proofs.choices.word_steps.Given as goal

abbrev pub invariant-loop-word : goal.invariant-loop-word
invariant-loop-word l = l.steps.items ≡ map (λ word. (word ∷ [], [])) (map (λ word. word.now) (take l.word-index l.words))
