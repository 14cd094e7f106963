-- The steps of a sweep.
use Rattle.std.specs.Prelude.{ℕ, List, [], ◌∷◌, ◌++◌, length, map, slice_index_or}
use Rattle.std.specs.List.{flat_map}
use Rattle.omega_net.specs.Wires.{below}
use Rattle.project_book.specs.declared.edit.Edit.{Edit}
use Rattle.edit_templates.specs.Templates.{Brace}

-- a step: the words that are put in, and the edits that come of it
abbrev pub Step : Type 0
Step = List (List ℕ) × List Edit

-- one step and then another one; none; all of some
abbrev pub followed : Step → Step → Step
followed a b = (a.0 ++ b.0, a.1 ++ b.1)

abbrev pub no_step : Step
no_step = ([], [])

abbrev pub together : List Step → Step
together [] = no_step
together (step ∷ steps) = followed step (together steps)

-- each step of the first axis with each of the others, in that order
abbrev pub each : List (List Step) → List Step
each [] = no_step ∷ []
each (axis ∷ others) = flat_map (λ step. map (followed step) (each others)) axis

-- the first steps of all axes, then the second ones, and so on for as many as the first axis has
abbrev pub first_length : List (List Step) → ℕ
first_length [] = 0
first_length (axis ∷ others) = length axis

abbrev pub steps_at : List (List Step) → ℕ → Step
steps_at axes place = together (map (λ axis. slice_index_or axis place no_step) axes)

abbrev pub in_turn : List (List Step) → List Step
in_turn axes = map (steps_at axes) (below (first_length axes))

-- what may be put in for a brace, each as a step without edits
abbrev pub puts_of : Brace → List Step
puts_of brace = map (λ word. (word ∷ [], [])) brace.0
