use Rattle.std.proofs.Common.{◌≡◌, ◌∙◌, ◌||◌, sym, ap, arith, true, false, length}
use Rattle.std.specs.Arc.{arc_value}
use Rattle.std.specs.List.{list_any}
use Rattle.std.proofs.lemmas.List.{get_or-replicate}
use Rattle.cell_states.specs.Filling.{is_awake}
use Rattle.cell_states.specs.Near.{has, near_at}
use Rattle.due_cells.specs.Readers.{readers_at}
use Rattle.cell_states.specs.Versions.{any_changes}
use Rattle.due_cells.proofs.Noted.{any_read}
use Rattle.due_cells.proofs.Gathered.{all_counted, any_of_one}
use Rattle.due_cells.proofs.Others.{any_or_itself}
use Rattle.due_cells.proofs.readers.Readers.gather.Goals as goal

pub returns-clause-reached : goal.returns-clause-reached
returns-clause-reached c = λ k h near same own.
    let i = c.self.inside in
    let masks = c.self.invariant.0 in
    let lists = c.args.self.now in
    let len : length i.lists.items ≡ length lists = ap length c.self.view_is in
    c.gather.ensures.marks k (omega (arith, h, c.requires.reached))
    ∙ any_read c.args.changes.now i.masks near k (length c.args.changes.now) (λ d l. (
    masks.same d k (omega (arith, l, len, c.requires.width)) (omega (arith, h, len))
    ∙ ap (λ ms. has (readers_at ms d) k) c.self.view_is
    ∙ same d (omega (arith, l, c.requires.width))
    ))
    ∙ ap (any_changes c.args.changes.now near) c.requires.width

pub returns-then-count-len-clause-reached : goal.returns-then-count-len-clause-reached
returns-then-count-len-clause-reached c = λ k h near same own.
    let changes = c.args.changes.now in
    let n = length c.args.self.now in
    let wide : length changes ≡ n = c.requires.width in
    ap (λ row. is_awake row k) c.mark_all.ensures
    ∙ get_or-replicate (length c.args.reached.now) k true false (omega (arith, h, c.requires.reached))
    ∙ sym (any_of_one changes near k n h (all_counted changes k (sym c.count.ensures ∙ c.if-count-len.true ∙ c.len.ensures) (omega (arith, h, wide))) own)

pub returns-then-count-len-2-clause-reached : goal.returns-then-count-len-2-clause-reached
returns-then-count-len-2-clause-reached c = λ k h near same own.
    let i = c.self.inside in
    let n = length c.args.self.now in
    let len : length i.lists.items ≡ n = ap length c.self.view_is in
    c.gather_others.ensures.at k (omega (arith, h, c.requires.reached))
    ∙ ap (λ ms. is_awake c.args.changes.now k || list_any (is_awake c.args.changes.now) (near_at ms k)) c.deref.ensures
    ∙ any_or_itself c.args.changes.now near (near_at (arc_value i.near) k) k n c.requires.width h (λ d l. (
    c.self.invariant.1 d k (omega (arith, l, len)) (omega (arith, h, len))
    ∙ ap (λ ms. has (readers_at ms d) k) c.self.view_is
    ∙ same d l
    )) own
