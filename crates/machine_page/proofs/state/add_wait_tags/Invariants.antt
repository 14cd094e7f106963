use Rattle.std.proofs.Common.{◌≡◌, ◌++◌, take, string_bytes}
use Rattle.machine_page.specs.States.{wait_tags}
use Rattle.machine_page.proofs.state.add_wait_tags.Given as goal

abbrev pub invariant-loop-entry : goal.invariant-loop-entry
invariant-loop-entry l = string_bytes l.text ≡ string_bytes l.initial.text ++ wait_tags (take l.entry-index l.entries)
