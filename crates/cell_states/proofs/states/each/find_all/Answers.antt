use Rattle.std.proofs.Common.{◌≡◌, ℕ, ◌+◌, ◌<◌, ◌∙◌, sym, ap, arith, true, false}
use Rattle.std.proofs.lemmas.Bool.{true≢false}
use Rattle.grid_law.specs.Run.{run}
use Rattle.cell_states.specs.Filling.{is_awake}
use Rattle.cell_states.specs.Found.{IsFound}
use Rattle.cell_states.proofs.Cases.{at_or_other}
use Rattle.cell_states.proofs.ChangedRows.{below, reached}
use Rattle.cell_states.proofs.Next.{before_along}
use Rattle.cell_states.proofs.Readied.{found_along, found_to}
use Rattle.cell_states.proofs.states.each.find_all.Goals as goal

pub find_one-requires-clause-run : goal.find_one-requires-clause-run
find_one-requires-clause-run g c =
    before_along g.G.Grid.rules g.G.Grid.codec c.args.slots.now c.args.rows.now.rows c.args.memories.now c.loop-component.memories c.args.cycle c.loop-component.invariant.same c.requires.run

pub find_one-requires-clause-so_far : goal.find_one-requires-clause-so_far
find_one-requires-clause-so_far g c =
    let inv = c.loop-component.invariant in
    found_to (g.G.Grid.rules.components c.args.slots.now) c.loop-component.draft c.loop-component.draft c.loop-component.memories c.loop-component.ready.items c.loop-component.changes c.loop-component.next c.in-Some.component inv.so_far c.in-Some.ensures.0.0
    (omega (arith, inv.so_far.drafted, c.in-Some.ensures.0.0))

pub loop-component-preserved : goal.loop-component-preserved
loop-component-preserved g c =
    let inv = c.loop-component.invariant in
    let e = c.find_one.ensures in
    let at_cur = c.in-Some.ensures in
    let cur = c.in-Some.component in
    let t = c.args.cycle in
    let C = g.G.Grid.codec in
    let states = run g.G.Grid.rules c.args.slots.now t in
    let set = c.args.set.now in
    let rows = c.args.rows.now.rows in
    let draft = c.loop-component.draft in
    let draft1 = c.find_one.new.draft in
    let m = c.loop-component.memories in
    let m1 = c.find_one.new.memories in
    let r = c.loop-component.ready.items in
    let r1 = c.find_one.new.ready.items in
    let marks = c.loop-component.changes in
    let marks1 = c.find_one.new.changes in
    let not_cur = λ (d : ℕ) (a : is_awake set d ≡ false) (p : d ≡ cur). absurd (true≢false (sym at_cur.0.1 ∙ ap (is_awake set) (sym p) ∙ a)) in
    record {
      within = omega (arith, at_cur.1);
      so_far = e.so_far;
      held = e.held;
      same = λ d. e.one.others.same d ∙ inv.same d;
      each = λ d. at_or_other (λ d. d < cur + 1 → is_awake set d ≡ true → IsFound C rows draft1 m1 r1 marks1 t d (states d)) cur d (λ h a. c.in_ok-find_one.ensures.found)
          (λ n h a. found_along cur m m1 r r1 marks marks1 e.one.others C rows draft draft1 t d (states d) n (e.one.words d n) (inv.each d (below c.loop-component.next cur d set n h a at_cur.0.2) a));
      no_words = λ d a. e.one.words d (not_cur d a) ∙ inv.no_words d a;
      unmarked = λ d a. e.one.others.marked d (not_cur d a) ∙ inv.unmarked d a;
    }

pub returns-clause-found : goal.returns-clause-found
returns-clause-found g c =
    let inv = c.loop-component.invariant in record {
      within = omega (arith, inv.so_far.drafted, inv.within);
      each = λ d a. inv.each d (reached c.loop-component.next d c.args.set.now a (c.in_default.ensures d)) a;
      no_words = inv.no_words;
      unmarked = inv.unmarked;
    }
