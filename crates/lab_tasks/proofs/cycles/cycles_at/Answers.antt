use Rattle.std.proofs.Common.{◌≡◌, ℕ, List, [], Option, Some, None, inl, inr, refl, ap, ◌∙◌, subst, rules, codes, Bor}
use Rattle.std.specs.Prelude.{unwrap_or}
use Rattle.std.proofs.lemmas.Result.{err_from_is_err_and}
use Rattle.lab_tasks.specs.declared.end.End.{End}
use Rattle.lab_tasks.specs.Numbers.{IsTold, IsUntold}
use Rattle.lab_tasks.specs.Words.{text_of}
use Rattle.lab_tasks.proofs.cycles.cycles_at.Goals as goal

-- a word is refused for the same limits
untold_at : (word : Option (List ℕ)) (m n : ℕ) (end : End) → m ≡ n → IsUntold (codes "--to") word 0 m end → IsUntold (codes "--to") word 0 n end
untold_at word m n end same h = subst (λ most. IsUntold (codes "--to") word 0 most end) same h

pub returns-in_err-last-clause-refused : goal.returns-in_err-last-clause-refused
returns-in_err-last-clause-refused c =
    let p = err_from_is_err_and c.from_residual-in_err-last.result c.from_residual-in_err-last.ensures.1 in
    let horizon : c.horizon-horizon.result ≡ c.args.project.now.horizon = search rules in
    let from = subst (λ m. IsTold (text_of c.args.from) 0 0 m c.in_ok-first.first) horizon c.in_ok-first.ensures.told in
    let to = untold_at (text_of c.args.to) _ _ _ horizon c.in_err-last.ensures.untold in
    rw (p.1, p.2) (inr (c.in_ok-first.first, from, inl to))

-- the text of a word, or none
word_text : (word : Option (Bor (List ℕ))) (none given : Bor (List ℕ)) → given ≡ unwrap_or word none → none.now ≡ []
    → given.now ≡ unwrap_or (text_of word) []
word_text None none given is empty = ap (λ w. w.now) is ∙ empty
word_text (Some word) none given is empty = ap (λ w. w.now) is

pub returns-then-last-first-clause-refused : goal.returns-then-last-first-clause-refused
returns-then-last-first-clause-refused c =
    let word = word_text c.args.to _ c.unwrap_or.result c.unwrap_or.ensures refl in
    let horizon : c.horizon-horizon.result ≡ c.args.project.now.horizon = search rules in
    let from = subst (λ m. IsTold (text_of c.args.from) 0 0 m c.in_ok-first.first) horizon c.in_ok-first.ensures.told in
    let to = subst (λ m. IsTold (text_of c.args.to) m 0 m c.in_ok-last.last) horizon c.in_ok-last.ensures.told in
    inr (c.in_ok-first.first, from, inr (c.in_ok-last.last, to, (c.if-last-first.true, (refl, word, refl, refl))))
