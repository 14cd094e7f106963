use Rattle.std.proofs.Common.{◌≡◌, ◌<◌, ◌⊎◌, ℕ, ◌∙◌, sym, subst}
use Rattle.lab_tasks.specs.declared.hot.Parts.TheVariants.{Words}
use Rattle.lab_tasks.specs.Counts.{hot_of, is_of, references, referrers, Hotter}
use Rattle.lab_tasks.proofs.Hottest.{hottest_is}
use Rattle.lab_tasks.proofs.hot.hottest_word.Goals as goal

pub returns-in-Some : goal.returns-in-Some
returns-in-Some c =
    let P = c.args.project.now in
    let is = hottest_is (λ n. referrers P (is_of P Words n)) (λ n. references P (is_of P Words n)) c.in_ok-counts.counts.processors.items c.in_ok-counts.counts.references.items
    c.in-Some.hot c.in_ok-counts.ensures.each c.in_ok-counts.ensures.times c.in-Some.ensures.most in
    subst
    (λ w. (0 < (hot_of P Words w).processors) × ((n : ℕ) → 0 < (hot_of P Words n).processors → (n ≡ w) ⊎ Hotter (hot_of P Words w) (hot_of P Words n)))
    (sym c.address_of.ensures) is

pub returns : goal.returns
returns c = λ n. sym (c.in_ok-counts.ensures.each n) ∙ c.in-None.ensures.none n
