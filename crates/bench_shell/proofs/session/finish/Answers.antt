use Rattle.std.proofs.Common.{true, ◌≡◌, sym, refl, subst, ℕ, List, [], ◌∷◌, ◌∙◌, ◌<◌, ◌≤◌, length, append-nil, arith}
use Rattle.std.proofs.lemmas.Result.{on_ok_weaker, on_err_weaker}
use Rattle.bench_shell.specs.Text.{line_text}
use Rattle.bench_shell.specs.declared.answer.Answer.TheVariants.{BadLine, BadCut}
use Rattle.bench_shell.proofs.Lines.{zero_lt}
use Rattle.bench_shell.proofs.Steps.{cut_answered, long_cut_answered, cut_one_line, no_body}
use Rattle.bench_shell.proofs.session.finish.Goals as goal

pub returns-then-held-clause-ok : goal.returns-then-held-clause-ok
returns-then-held-clause-ok g c =
    let held = c.args.held.now in
    on_ok_weaker c.tell.result
    (λ q. (
      line_text BadLine,
      q,
      (λ line p s. long_cut_answered held.is_long held.bytes.items line s c.if-held.true p),
      (BadLine ∷ [], sym (append-nil (line_text BadLine)), refl, λ line p. let long = p.long c.if-held.true in sym (cut_one_line line p.no_lf (omega arith))),
    )) c.tell.ensures.ok

pub returns-then-held-clause-err : goal.returns-then-held-clause-err
returns-then-held-clause-err g c =
    let held = c.args.held.now in
    on_err_weaker c.tell.result (λ q. (q.0, q.2, λ line p s. (q.1, long_cut_answered held.is_long held.bytes.items line s c.if-held.true p ∙ q.3))) c.tell.ensures.err

pub returns-clause-ok : goal.returns-clause-ok
returns-clause-ok g c =
    let held = c.args.held.now in
    let h = held.bytes.items in
    let fits : length h ≤ 4096 = rw (← c.as_slice.ensures.value) c.as_slice.ensures.fits in
    let some : 0 < length h = rw (← c.as_slice.ensures.value) (zero_lt c.as_slice.result.now (sym c.is_empty.ensures ∙ c.if-is_empty.false)) in
    on_ok_weaker c.tell-2.result
    (λ q. (
      line_text BadCut,
      q,
      (λ line p s. cut_answered held.is_long h line s c.if-held.false some fits p),
      (BadCut ∷ [], sym (append-nil (line_text BadCut)), refl, λ line p. sym (cut_one_line line p.no_lf (subst (λ (l : List ℕ). 0 < length l) (sym (p.short c.if-held.false)) some))),
    )) c.tell-2.ensures.ok

pub returns-clause-err : goal.returns-clause-err
returns-clause-err g c =
    let held = c.args.held.now in
    let h = held.bytes.items in
    let fits : length h ≤ 4096 = rw (← c.as_slice.ensures.value) c.as_slice.ensures.fits in
    let some : 0 < length h = rw (← c.as_slice.ensures.value) (zero_lt c.as_slice.result.now (sym c.is_empty.ensures ∙ c.if-is_empty.false)) in
    on_err_weaker c.tell-2.result (λ q. (q.0, q.2, λ line p s. (q.1, cut_answered held.is_long h line s c.if-held.false some fits p ∙ q.3))) c.tell-2.ensures.err

pub returns-then-held-clause-cause : goal.returns-then-held-clause-cause
returns-then-held-clause-cause g c = no_body c.tell.result _ _ (λ h. absurd cc) c.tell.ensures.cause

pub returns-clause-cause : goal.returns-clause-cause
returns-clause-cause g c = no_body c.tell-2.result _ _ (λ h. absurd cc) c.tell-2.ensures.cause
