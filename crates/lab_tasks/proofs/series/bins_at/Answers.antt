use Rattle.std.proofs.Common.{◌≡◌, ◌+◌, ◌<◌, ℕ, List, [], Option, Some, None, inl, inr, refl, ap, ◌∙◌, subst, rules, arith, codes, Bor}
use Rattle.std.specs.Prelude.{unwrap_or}
use Rattle.std.proofs.lemmas.Result.{err_from_is_err_and}
use Rattle.lab_tasks.specs.declared.end.End.{End}
use Rattle.lab_tasks.specs.Numbers.{IsTold, IsUntold}
use Rattle.lab_tasks.specs.Words.{text_of}
use Rattle.lab_tasks.proofs.series.bins_at.Goals as goal

-- a word is refused for the same limits
untold_at : (word : Option (List ℕ)) (m n : ℕ) (end : End) → m ≡ n → IsUntold (codes "--to") word 0 m end → IsUntold (codes "--to") word 0 n end
untold_at word m n end same h = subst (λ most. IsUntold (codes "--to") word 0 most end) same h

pub returns-in_err-to-clause-refused : goal.returns-in_err-to-clause-refused
returns-in_err-to-clause-refused c =
    let p = err_from_is_err_and c.from_residual-in_err-to.result c.from_residual-in_err-to.ensures.1 in
    let words = c.args.words.now in
    let horizon : c.horizon-horizon.result ≡ c.args.project.now.horizon = search rules in
    let size = subst (λ m. IsTold (text_of words.bin) 1 1 (m + 1) c.in_ok-size.size) horizon c.in_ok-size.ensures.told in
    let from = subst (λ m. IsTold (text_of words.from) 0 0 m c.in_ok-from.from) horizon c.in_ok-from.ensures.told in
    let to = untold_at (text_of words.to) _ _ _ horizon c.in_err-to.ensures.untold in
    rw (p.1, p.2) (inr (c.in_ok-size.size, size, inr (c.in_ok-from.from, from, inl to)))

-- the text of a word, or none
word_text : (word : Option (Bor (List ℕ))) (none given : Bor (List ℕ)) → given ≡ unwrap_or word none → none.now ≡ []
    → given.now ≡ unwrap_or (text_of word) []
word_text None none given is empty = ap (λ w. w.now) is ∙ empty
word_text (Some word) none given is empty = ap (λ w. w.now) is

pub returns-then-to-from-clause-refused : goal.returns-then-to-from-clause-refused
returns-then-to-from-clause-refused c =
    let words = c.args.words.now in
    let word = word_text words.to _ c.unwrap_or.result c.unwrap_or.ensures refl in
    let horizon : c.horizon-horizon.result ≡ c.args.project.now.horizon = search rules in
    let size = subst (λ m. IsTold (text_of words.bin) 1 1 (m + 1) c.in_ok-size.size) horizon c.in_ok-size.ensures.told in
    let from = subst (λ m. IsTold (text_of words.from) 0 0 m c.in_ok-from.from) horizon c.in_ok-from.ensures.told in
    let to = subst (λ m. IsTold (text_of words.to) m 0 m c.in_ok-to.to) horizon c.in_ok-to.ensures.told in
    inr (c.in_ok-size.size, size, inr (c.in_ok-from.from, from, inr (c.in_ok-to.to, to, (c.if-to-from.true, (refl, word, refl, refl)))))

-- a bin has a cycle
at_least_one : (word : Option (List ℕ)) (most n : ℕ) → IsTold word 1 1 most n → 0 < n
at_least_one None most n h = omega (arith, h)
at_least_one (Some word) most n h = omega (arith, h.1)

pub returns-clause-size : goal.returns-clause-size
returns-clause-size c = at_least_one (text_of c.args.words.now.bin) _ c.in_ok-size.size c.in_ok-size.ensures.told
