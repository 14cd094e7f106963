use Rattle.flat_row.proofs.Blank.{nothing_waits, blank_has_all}
use Rattle.flat_row.proofs.next.beside.Beside.new.Goals as goal

pub invariant_of-result : goal.invariant_of-result
invariant_of-result c = blank_has_all _ _ _ _ _ c.plain_rule.ensures c.plain_rule-2.ensures c.in_ok-requests.ensures c.in_ok-replies.ensures c.in_ok-entries.ensures

pub returns : goal.returns
returns c = nothing_waits _ _ _ _ _ c.plain_rule.ensures c.plain_rule-2.ensures c.in_ok-requests.ensures c.in_ok-replies.ensures c.in_ok-entries.ensures
