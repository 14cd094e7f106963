use Rattle.std.proofs.Common.{◌≡◌, ◌++◌, ◌==◌, length, map, IsUtf8}
use Rattle.std.specs.List.{slice_split}
use Rattle.edit_templates.proofs.parts.parts.Given as goal

abbrev pub invariant-parts : goal.invariant-parts
invariant-parts l = (map (λ w. w.now) l.parts.items ++ slice_split (λ b. b == l.at) l.rest ≡ slice_split (λ b. b == l.at) l.text) × IsUtf8 l.rest

abbrev pub decreases-parts : goal.decreases-parts
decreases-parts l = length l.rest
