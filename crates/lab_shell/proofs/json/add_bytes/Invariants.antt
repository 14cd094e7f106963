use Rattle.std.proofs.Common.{◌≡◌, ◌++◌, drop}
use Rattle.std.specs.List.{flat_map}
use Rattle.lab_shell.specs.Json.{escaped_byte}
use Rattle.lab_shell.proofs.json.add_bytes.Given as goal

abbrev pub invariant-loop-byte : goal.invariant-loop-byte
invariant-loop-byte l = l.out.items ++ flat_map escaped_byte (drop l.byte-index l.text) ≡ l.initial.out.items ++ flat_map escaped_byte l.text
