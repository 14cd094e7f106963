use Rattle.std.proofs.Common.{refl, sym, subst, arith, IfOk, IfErr}
use Rattle.std.proofs.lemmas.List.{get_or_default}
use Rattle.mem_module.specs.Memory.{IsAscending, IsAt, IsGapFor}
use Rattle.mem_module.proofs.Rows.{blank, word_here, word_absent, with_same, put_nothing}
use Rattle.mem_module.proofs.words.Words.word_in.Goals as goal

-- the row is at its place, and the word there is the one that was read
pub returns-in-Ok-clause-value : goal.returns-in-Ok-clause-value
returns-in-Ok-clause-value c =
    let found = subst (λ r. IfOk r (IsAt c.args.self.now c.args.row)) c.in-Ok.is c.requires.found in
    let value = word_here c.args.row _ _ (subst IsAscending c.self.view_is c.self.invariant) found in
    let read = get_or_default _ _ c.index.result.now blank found.in_range in
    grind (arith, c.self.view_is)

pub returns-in-Ok-clause-kept : goal.returns-in-Ok-clause-kept
returns-in-Ok-clause-kept c =
    rw (returns-in-Ok-clause-value c) (with_same c.args.row 0 _ (subst IsAscending c.self.view_is c.self.invariant))

-- the row isn't there
pub returns-in-Err-clause-value : goal.returns-in-Err-clause-value
returns-in-Err-clause-value c = sym (word_absent _ _ _ (subst (λ r. IfErr r (IsGapFor c.args.self.now c.args.row)) c.in-Err.is c.requires.absent))

pub returns-in-Err-clause-kept : goal.returns-in-Err-clause-kept
returns-in-Err-clause-kept c = sym (put_nothing _ _ _ 0 (subst (λ r. IfErr r (IsGapFor c.args.self.now c.args.row)) c.in-Err.is c.requires.absent) refl)
