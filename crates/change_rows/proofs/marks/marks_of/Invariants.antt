use Rattle.std.proofs.Common.{◌≡◌, ℕ, ◌<◌, ◌≤◌, true}
use Rattle.change_rows.specs.Marks.{is_one, is_set}
use Rattle.change_rows.proofs.marks.marks_of.Given as goal

abbrev pub invariant-loop-u : goal.invariant-loop-u
invariant-loop-u l = (v k : ℕ) → l.from ≤ v → v < l.u → is_set l.words v k ≡ true → is_one l.word k ≡ true
