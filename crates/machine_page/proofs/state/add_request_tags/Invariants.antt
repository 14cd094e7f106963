use Rattle.std.proofs.Common.{◌≡◌, ◌++◌, take, string_bytes}
use Rattle.machine_page.specs.States.{request_tags}
use Rattle.machine_page.proofs.state.add_request_tags.Given as goal

abbrev pub invariant-loop-request : goal.invariant-loop-request
invariant-loop-request l = string_bytes l.text ≡ string_bytes l.initial.text ++ request_tags (take l.request-index l.requests)
