use Rattle.std.proofs.Common.{◌≡◌, ◌++◌, take, string_bytes}
use Rattle.machine_page.specs.States.{reply_tags}
use Rattle.machine_page.proofs.state.add_reply_tags.Given as goal

abbrev pub invariant-loop-reply : goal.invariant-loop-reply
invariant-loop-reply l = string_bytes l.text ≡ string_bytes l.initial.text ++ reply_tags (take l.reply-index l.replies)
