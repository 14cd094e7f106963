use Rattle.std.proofs.Common.{◌≡◌, ◌+◌, ◌<◌, ◌∙◌, sym, arith, length}
use Rattle.std.proofs.lemmas.Bool.{false≢true}
use Rattle.change_rows.specs.Cells.{component_at}
use Rattle.change_rows.proofs.Finding.{ascends, found_past}
use Rattle.change_rows.proofs.Merging.{taken_end}
use Rattle.change_rows.proofs.Laying.{split_here, split_none, first_here, rest_found}
use Rattle.change_rows.proofs.merge.behind.Goals as goal

pub overflow_add-result : goal.overflow_add-result
overflow_add-result c =
    let here : (c.args.place < length c.args.cells.now) × (component_at c.args.cells.now c.args.place ≡ c.args.c) = c.is_at.ensures.is.0 c.if-is_at.true in
    omega (arith, here.0, c.is_at.ensures.len)

pub returns-then-is_at-clause-low : goal.returns-then-is_at-clause-low
returns-then-is_at-clause-low c =
    let cells = c.args.cells.now in
    let n = c.args.place in
    let here : (n < length cells) × (component_at cells n ≡ c.args.c) = c.is_at.ensures.is.0 c.if-is_at.true in
    omega (arith, taken_end cells n here.0, here.1, c.requires.below)

pub returns-then-is_at-clause-high : goal.returns-then-is_at-clause-high
returns-then-is_at-clause-high c = λ l.
    let cells = c.args.cells.now in
    let n = c.args.place in
    let here : (n < length cells) × (component_at cells n ≡ c.args.c) = c.is_at.ensures.is.0 c.if-is_at.true in
    let step : component_at cells n < component_at cells (n + 1) = ascends cells c.is_at.ensures.ascending n (n + 1) (omega arith) l in
    omega (arith, step, here.1)

pub returns-then-is_at-clause-here : goal.returns-then-is_at-clause-here
returns-then-is_at-clause-here c =
    let cells = c.args.cells.now in
    let n = c.args.place in
    let here : (n < length cells) × (component_at cells n ≡ c.args.c) = c.is_at.ensures.is.0 c.if-is_at.true in
    first_here cells c.args.c n c.requires here.0 here.1 ∙ sym (split_here cells c.args.c n c.is_at.ensures.ascending c.requires here.0 here.1)

pub returns-then-is_at-clause-others : goal.returns-then-is_at-clause-others
returns-then-is_at-clause-others c = λ d other.
    let cells = c.args.cells.now in
    let n = c.args.place in
    let here : (n < length cells) × (component_at cells n ≡ c.args.c) = c.is_at.ensures.is.0 c.if-is_at.true in
    rest_found cells n d here.0 (λ e. other (e ∙ here.1))

pub returns-else-is_at-clause-high : goal.returns-else-is_at-clause-high
returns-else-is_at-clause-high c = λ h.
    let other : component_at c.args.cells.now c.args.place ≡ c.args.c → ⊥ = λ e. false≢true (sym c.if-is_at.false ∙ c.is_at.ensures.is.1 (h, e)) in
    omega (arith, other, c.requires.above h)

pub returns-else-is_at-clause-here : goal.returns-else-is_at-clause-here
returns-else-is_at-clause-here c =
    found_past _ c.args.c c.requires.below
    ∙ sym (split_none c.args.cells.now c.args.c c.args.place c.is_at.ensures.ascending c.requires (λ h e. false≢true (sym c.if-is_at.false ∙ c.is_at.ensures.is.1 (h, e))))
