use Rattle.std.proofs.Common.{◌≡◌, ◌+◌, ◌-◌, ◌%◌, suc, sym, ap, ◌∙◌, arith}
use Rattle.std.proofs.lemmas.Bool.{le-ltb, lt-ltb}
use Rattle.project_book.specs.Limits.{max_times}
use Rattle.drawn_scripts.specs.Draws.{gap}
use Rattle.drawn_scripts.proofs.Drawing.{behind, gap_ends, gap_goes, gap_over, one_behind}
use Rattle.drawn_scripts.proofs.draw.gap.Goals as goal

pub returns-then-number-rate-clause-gap : goal.returns-then-number-rate-clause-gap
returns-then-number-rate-clause-gap c =
    let rate = c.args.rate in
    let n = max_times - (c.cycles.cycles + 1) in
    let left : max_times - c.cycles.cycles ≡ suc n = omega arith in
    let none : c.cycles.cycles + 0 ≡ c.cycles.cycles = omega arith in
    let h = c.next_word-number.new.self in
    sym
    (
    c.cycles.invariant.1
    ∙ ap (λ m. behind c.cycles.cycles (gap rate m c.cycles.offers)) left
    ∙ ap (behind c.cycles.cycles) (gap_ends rate n c.cycles.offers h c.next_word-number.result c.next_word-number.ensures (lt-ltb (c.next_word-number.result % 100) rate c.if-number-rate.true))
    ∙ ap (λ m. (m, h)) none
    )

pub cycles-preserved : goal.cycles-preserved
cycles-preserved c =
    let rate = c.args.rate in
    let n = max_times - (c.cycles.cycles + 1) in
    let left : max_times - c.cycles.cycles ≡ suc n = omega arith in
    let h = c.next_word-number.new.self in (
      omega arith,
      c.cycles.invariant.1
          ∙ ap (λ m. behind c.cycles.cycles (gap rate m c.cycles.offers)) left
          ∙ ap (behind c.cycles.cycles) (gap_goes rate n c.cycles.offers h c.next_word-number.result c.next_word-number.ensures (le-ltb (c.next_word-number.result % 100) rate c.if-number-rate.false))
          ∙ one_behind c.cycles.cycles (gap rate n h),
    )

pub returns-clause-gap : goal.returns-clause-gap
returns-clause-gap c =
    let rate = c.args.rate in
    let left : max_times - c.cycles.cycles ≡ 0 = omega arith in
    let none : c.cycles.cycles + 0 ≡ c.cycles.cycles = omega arith in
    sym
    (
    c.cycles.invariant.1
    ∙ ap (λ m. behind c.cycles.cycles (gap rate m c.cycles.offers)) left
    ∙ ap (behind c.cycles.cycles) (gap_over rate c.cycles.offers)
    ∙ ap (λ m. (m, c.cycles.offers)) none
    )
