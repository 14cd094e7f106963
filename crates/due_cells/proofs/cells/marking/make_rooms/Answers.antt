use Rattle.std.proofs.Common.{◌≡◌, ℕ, ◌∙◌, sym, subst, arith, ◌⊎◌, inl, inr}
use Rattle.std.proofs.lemmas.Bool.{cases_eq}
use Rattle.due_cells.specs.Marking.{IsReady}
use Rattle.due_cells.proofs.MarkedCells.{same_over, ready_over}
use Rattle.due_cells.proofs.cells.marking.make_rooms.Goals as goal

pub loop-t-preserved : goal.loop-t-preserved
loop-t-preserved c =
    let inv = c.loop-t.invariant in
    let one = c.in_ok-make_room.ensures in
    let due = c.args.due.now in
    let olds = c.loop-t.versions.items in
    let news = c.make_room.new.versions.items in
    record {
      len = one.row.len ∙ inv.len;
      lens = λ u. one.row.lens u ∙ inv.lens u;
      same = λ u d. same_over olds news c.loop-t.t one.row one.same u d ∙ inv.same u d;
      ready = λ v u low high. by_cycle (λ i. IsReady v due news i) u c.loop-t.t (cases_eq u c.loop-t.t) (one.ready v) (λ ne. ready_over v due olds news c.loop-t.t u one.row ne (inv.ready v u low (omega (arith, high, ne))));
    }
  where
    by_cycle : (P : ℕ → Type 0) (u t : ℕ) → (u ≡ t) ⊎ (u ≡ t → ⊥) → P t → ((u ≡ t → ⊥) → P u) → P u
    by_cycle P u t (inl e) here over = subst P (sym e) here
    by_cycle P u t (inr ne) here over = over ne

pub returns-clause-ready : goal.returns-clause-ready
returns-clause-ready c = λ v t low high. c.loop-t.invariant.ready v t low (omega (arith, c.loop-t-test.false, high))
