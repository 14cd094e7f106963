use Rattle.std.proofs.Common.{◌≡◌, ℕ, ◌<◌, ◌∙◌, sym, ap, arith, ◌⊎◌, inl, inr, length, get_or}
use Rattle.cell_states.proofs.Rooms.{lent_at, lent_room, list_here, other_row}
use Rattle.cell_states.proofs.versions.give_in.Goals as goal

pub returns-clause-row : goal.returns-clause-row
returns-clause-row c =
    let rows = c.args.rows.now.items in
    other_row rows c.args.t c.requires.cycle c.give.new.self (c.give.ensures.len ∙ ap length (lent_at rows c.args.t c.requires.cycle c.index_mut-row.result.now _ c.index_mut-row.ensures.value))

pub returns-clause-given : goal.returns-clause-given
returns-clause-given c = λ d h.
    ap (λ vs. get_or vs d 0) (list_here c.args.rows.now.items c.args.t c.requires.cycle c.give.new.self) ∙ c.give.ensures.given d h

pub returns-clause-others : goal.returns-clause-others
returns-clause-others c = λ room d h.
    let rows = c.args.rows.now.items in
    let was = c.index_mut-row.result.now in
    let lent = lent_at rows c.args.t c.requires.cycle was _ c.index_mut-row.ensures.value in
    ap (λ vs. get_or vs d 0) (list_here rows c.args.t c.requires.cycle c.give.new.self)
    ∙ c.give.ensures.others (omega (arith, room, ap length lent, lent_room rows c.args.t c.requires.cycle was _ c.index_mut-row.ensures.value)) d h
    ∙ ap (λ vs. get_or vs d 0) lent

pub returns-clause-either : goal.returns-clause-either
returns-clause-either c = λ d h.
    let rows = c.args.rows.now.items in
    let lent = lent_at rows c.args.t c.requires.cycle c.index_mut-row.result.now _ c.index_mut-row.ensures.value in
    let here = ap (λ vs. get_or vs d 0) (list_here rows c.args.t c.requires.cycle c.give.new.self) in
    by_case d here (ap (λ vs. get_or vs d 0) lent) (c.give.ensures.either d (omega (arith, h, ap length lent)))
  where
    by_case : (d : ℕ) {x y z w v : ℕ} → x ≡ y → z ≡ w → (y ≡ z) ⊎ (y ≡ v) → (x ≡ w) ⊎ (x ≡ v)
    by_case d e f (inl same) = inl (e ∙ same ∙ f)
    by_case d e f (inr given) = inr (e ∙ given)
