use Rattle.lab_shell.proofs.Reading.{whole_line, cut_line}
use Rattle.lab_shell.proofs.session.without_end.Goals as goal

pub returns-then-last-eq10 : goal.returns-then-last-eq10
returns-then-last-eq10 c = whole_line c.args.line.now c.in-Some.front.now c.in-Some.last.now c.in-Some.ensures.cases c.requires.one c.if-last-eq10.true

pub returns-else-last-eq10 : goal.returns-else-last-eq10
returns-else-last-eq10 c = cut_line c.args.line.now c.in-Some.front.now c.in-Some.last.now c.in-Some.ensures.cases c.requires.one c.if-last-eq10.false
