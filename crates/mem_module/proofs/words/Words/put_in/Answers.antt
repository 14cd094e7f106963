use Rattle.std.proofs.Common.{IfOk, IfErr, subst}
use Rattle.mem_module.specs.Memory.{IsAt, IsGapFor}
use Rattle.mem_module.proofs.Rows.{put_removed, put_written, put_nothing, put_inserted, with_ascends, word_absent}
use Rattle.mem_module.proofs.words.Words.put_in.Goals as goal

-- the row was there, and has another word
pub returns-in-Ok-Some-clause-ok : goal.returns-in-Ok-Some-clause-ok
returns-in-Ok-Some-clause-ok c =
    rw (← c.self.view_is) (put_written _ _ _ _ _ c.self.invariant (rw c.self.view_is (subst (λ r. IfOk r (IsAt c.args.self.now c.args.row)) c.in-Ok-Some.is-0 c.requires.found)) c.in-Ok-Some.ensures)

pub invariant_of-self : goal.invariant_of-self
invariant_of-self c =
    rw (put_written c.args.row c.self.inside.stored.items c.in-Ok-Some.at c.args.word c.in-Ok-Some.stored c.self.invariant (rw c.self.view_is (subst (λ r. IfOk r (IsAt c.args.self.now c.args.row)) c.in-Ok-Some.is-0 c.requires.found)) c.in-Ok-Some.ensures) (with_ascends _ _ _ c.self.invariant)

-- the row was there, and goes
pub returns-in-Ok-None-clause-ok : goal.returns-in-Ok-None-clause-ok
returns-in-Ok-None-clause-ok c =
    rw (c.remove.ensures.items, ← c.self.view_is) (put_removed _ _ _ _ c.self.invariant (rw c.self.view_is (subst (λ r. IfOk r (IsAt c.args.self.now c.args.row)) c.in-Ok-None.is-0 c.requires.found)) c.in-Ok-None.ensures)

pub invariant_of-self-in-Ok-None : goal.invariant_of-self-in-Ok-None
invariant_of-self-in-Ok-None c =
    rw (c.remove.ensures.items, put_removed c.args.row c.self.inside.stored.items c.in-Ok-None.at c.args.word c.self.invariant (rw c.self.view_is (subst (λ r. IfOk r (IsAt c.args.self.now c.args.row)) c.in-Ok-None.is-0 c.requires.found)) c.in-Ok-None.ensures) (with_ascends _ _ _ c.self.invariant)

-- the row comes into the gap
pub returns-in_ok-insert-in-Err-Some-clause-ok : goal.returns-in_ok-insert-in-Err-Some-clause-ok
returns-in_ok-insert-in-Err-Some-clause-ok c =
    rw (c.in_ok-insert-in-Err-Some.ensures.items, ← c.self.view_is) (put_inserted _ _ _ _ _ (rw c.self.view_is (subst (λ r. IfErr r (IsGapFor c.args.self.now c.args.row)) c.in-Err-Some.is-0 c.requires.absent)) c.in-Err-Some.ensures)

pub invariant_of-self-in-Continue-1 : goal.invariant_of-self-in-Continue-1
invariant_of-self-in-Continue-1 c =
    rw (c.in_ok-insert-in-Err-Some.ensures.items, put_inserted c.args.row c.self.inside.stored.items c.in-Err-Some.at c.args.word c.in-Err-Some.stored (rw c.self.view_is (subst (λ r. IfErr r (IsGapFor c.args.self.now c.args.row)) c.in-Err-Some.is-0 c.requires.absent)) c.in-Err-Some.ensures) (with_ascends _ _ _ c.self.invariant)

-- the row wasn't there, and isn't
pub returns-in-Err-None-clause-ok : goal.returns-in-Err-None-clause-ok
returns-in-Err-None-clause-ok c = put_nothing _ _ _ _ (subst (λ r. IfErr r (IsGapFor c.args.self.now c.args.row)) c.in-Err-None.is-0 c.requires.absent) c.in-Err-None.ensures

-- memory is wanted only for a row that wasn't there
pub returns-in_err-insert-in-Err-Some-clause-kept_row : goal.returns-in_err-insert-in-Err-Some-clause-kept_row
returns-in_err-insert-in-Err-Some-clause-kept_row c some = absurd (some (word_absent _ _ _ (subst (λ r. IfErr r (IsGapFor c.args.self.now c.args.row)) c.in-Err-Some.is-0 c.requires.absent)))
