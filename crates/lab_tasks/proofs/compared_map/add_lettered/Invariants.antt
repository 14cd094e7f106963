use Rattle.std.proofs.Common.{◌≡◌, ◌++◌, map, take}
use Rattle.lab_tasks.proofs.compared_map.add_lettered.Given as goal

abbrev pub invariant-loop-note : goal.invariant-loop-note
invariant-loop-note l = l.notes.items ≡ l.initial.notes.items ++ map (λ note. l.letter ++ note) (take l.note-index l.own)
