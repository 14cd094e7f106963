use Rattle.std.proofs.Common.{◌≡◌, ◌-◌, ℕ, List, [], Option, Some, None, inl, inr, refl, ap, ◌∙◌, subst, rules, Bor}
use Rattle.std.specs.Prelude.{unwrap_or}
use Rattle.std.proofs.lemmas.Result.{err_from_is_err_and}
use Rattle.omega_net.specs.Numbers.{lines}
use Rattle.lab_tasks.specs.Numbers.{IsTold}
use Rattle.lab_tasks.specs.Words.{text_of}
use Rattle.lab_tasks.proofs.plan.place_at.Goals as goal

pub returns-in_err-to-clause-refused : goal.returns-in_err-to-clause-refused
returns-in_err-to-clause-refused c =
    let p = err_from_is_err_and c.from_residual-in_err-to.result c.from_residual-in_err-to.ensures.1 in
    let words = c.args.words.now in
    let last : c.saturating_sub-most.result ≡ lines c.args.shape - 1 = search rules in
    let number = subst (λ m. IsTold (text_of words.module) 0 0 m c.in_ok-module.module) last c.in_ok-module.ensures.told in
    let from = c.in_ok-from.ensures.told in
    rw (p.1, p.2) (inr (c.in_ok-module.module, number, inr (c.in_ok-from.from, from, inl c.in_err-to.ensures.untold)))

-- the text of a word, or none
word_text : (word : Option (Bor (List ℕ))) (none given : Bor (List ℕ)) → given ≡ unwrap_or word none → none.now ≡ []
    → given.now ≡ unwrap_or (text_of word) []
word_text None none given is empty = ap (λ w. w.now) is ∙ empty
word_text (Some word) none given is empty = ap (λ w. w.now) is

pub returns-then-to-from-clause-refused : goal.returns-then-to-from-clause-refused
returns-then-to-from-clause-refused c =
    let words = c.args.words.now in
    let word = word_text words.to _ c.unwrap_or.result c.unwrap_or.ensures refl in
    let last : c.saturating_sub-most.result ≡ lines c.args.shape - 1 = search rules in
    let number = subst (λ m. IsTold (text_of words.module) 0 0 m c.in_ok-module.module) last c.in_ok-module.ensures.told in
    let from = c.in_ok-from.ensures.told in
    let to = c.in_ok-to.ensures.told in
    inr (c.in_ok-module.module, number, inr (c.in_ok-from.from, from, inr (c.in_ok-to.to, to, (c.if-to-from.true, (refl, word, refl, refl)))))
