use Rattle.std.proofs.Common.{◌+◌, ◌*◌, ◌<◌, ◌≤◌, ◌&&◌, ◌∙◌, nat_le, nat_lt, sym, ap, subst, All, w64, arith, length}
use Rattle.std.specs.Int.{trailing_zeros}
use Rattle.std.proofs.lemmas.List.Elements.{All-push}
use Rattle.std.proofs.lemmas.Nat.Bits.{bit_at-trailing_zeros}
use Rattle.cell_marks.proofs.Taken.{less_left, first_left, none_after, none_left}
use Rattle.due_cells.specs.Ranges.{is_marked, IsWithin}
use Rattle.due_cells.proofs.Ranging.{none_between, one_more}
use Rattle.due_cells.proofs.ranges.add_word.Goals as goal

pub overflow_mul-component : goal.overflow_mul-component
overflow_mul-component c = omega (arith, c.requires.word, c.len-count.ensures, c.len-count.type_inv)

pub overflow_add-component : goal.overflow_add-component
overflow_add-component c =
    let z = bit_at-trailing_zeros w64 c.loop-rest.rest (omega (arith, c.loop-rest-test.true)) (omega (arith, c.loop-rest.auto.rest-fits)) in
    omega (arith, c.requires.word, c.len-count.ensures, c.len-count.type_inv, z.0)

pub returns-then-component-count-clause-marked : goal.returns-then-component-count-clause-marked
returns-then-component-count-clause-marked c = λ t d.
    let first = 64 * c.args.word in
    let rest = c.loop-rest.rest in
    let i = c.loop-rest.invariant in
    let z = bit_at-trailing_zeros w64 rest (omega (arith, c.loop-rest-test.true)) (omega (arith, c.loop-rest.auto.rest-fits)) in
    let past : length c.args.changes.now ≤ first + trailing_zeros w64 rest = omega (arith, c.if-component-count.true, c.len-count.ensures) in
    i.marked t d
    ∙ ap (λ b. b && (nat_le c.args.from t && nat_lt t c.args.to))
    (sym (none_between c.args.changes.now i.next (first + 64) i.left.end (λ e above below. none_after c.args.changes.now first i.next rest i.left _ z.0 z.1 z.2 past e above) d))

pub push_reserved-requires : goal.push_reserved-requires
push_reserved-requires c =
    let rest = c.loop-rest.rest in
    let i = c.loop-rest.invariant in
    let z = bit_at-trailing_zeros w64 rest (omega (arith, c.loop-rest-test.true)) (omega (arith, c.loop-rest.auto.rest-fits)) in
    let there : 64 * c.args.word + trailing_zeros w64 rest < length c.args.changes.now = omega (arith, c.if-component-count.false, c.len-count.ensures) in
    omega (arith, i.room, there, (first_left c.args.changes.now (64 * c.args.word) i.next rest i.left _ z.0 z.1 z.2 there).0)

pub loop-rest-preserved : goal.loop-rest-preserved
loop-rest-preserved c =
    let marks = c.args.changes.now in
    let first = 64 * c.args.word in
    let rest = c.loop-rest.rest in
    let i = c.loop-rest.invariant in
    let at = trailing_zeros w64 rest in
    let z = bit_at-trailing_zeros w64 rest (omega (arith, c.loop-rest-test.true)) (omega (arith, c.loop-rest.auto.rest-fits)) in
    let there : first + at < length marks = omega (arith, c.if-component-count.false, c.len-count.ensures) in
    let found = first_left marks first i.next rest i.left at z.0 z.1 z.2 there in
    let pushed = c.push_reserved.ensures in
    record {
      next = first + at + 1;
      left = less_left marks first i.next rest i.left at z.0 z.1 z.2;
      room = omega (arith, i.room, found.0, pushed.len, pushed.capacity);
      within = subst (All (IsWithin c.args.to (length marks))) (sym pushed.items) (All-push (IsWithin c.args.to (length marks)) c.loop-rest.ranges.items _ i.within (c.requires.order, omega arith, there));
      marked = λ t d. ap (λ xs. is_marked xs t d) pushed.items ∙ one_more marks c.loop-rest.ranges.items i.next (first + at) c.args.from c.args.to found t d (i.marked t d);
    }

pub returns-clause-marked : goal.returns-clause-marked
returns-clause-marked c = λ t d.
    let i = c.loop-rest.invariant in
    i.marked t d
    ∙ ap (λ b. b && (nat_le c.args.from t && nat_lt t c.args.to))
    (sym (none_between c.args.changes.now i.next (64 * c.args.word + 64) i.left.end (none_left c.args.changes.now (64 * c.args.word) i.next c.loop-rest.rest i.left c.loop-rest-test.false) d))
