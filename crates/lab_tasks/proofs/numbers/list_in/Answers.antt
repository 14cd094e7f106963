use Rattle.std.proofs.Common.{sym, rules}
use Rattle.lab_tasks.proofs.Lists.{part-refused, part-read, last-refused, last-read}
use Rattle.lab_tasks.proofs.numbers.list_in.Goals as goal

pub returns-in-None : goal.returns-in-None
returns-in-None c = sym (part-refused c.args.text.now c.parts.numbers.items c.parts.rest.now c.in-Some.first.now c.in-Some.behind.now c.parts.invariant (search rules) (search rules))

pub parts-preserved : goal.parts-preserved
parts-preserved c =
    rw c.in_ok-push-in-Some-number.ensures.items
    (part-read c.args.text.now c.parts.numbers.items c.parts.rest.now c.in-Some.first.now c.in-Some.behind.now c.in-Some-number.value c.parts.invariant (search rules) (search rules))

pub returns-in-None-number : goal.returns-in-None-number
returns-in-None-number c = sym (last-refused c.args.text.now c.parts.numbers.items c.parts.rest.now c.parts.invariant (search rules) (search rules))

pub returns : goal.returns
returns c =
    rw c.in_ok-push-in-Some-number-2.ensures.items
    (sym (last-read c.args.text.now c.parts.numbers.items c.parts.rest.now c.in-Some-number-2.value c.parts.invariant (search rules) (search rules)))
