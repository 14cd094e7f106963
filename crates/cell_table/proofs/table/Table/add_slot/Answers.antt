use Rattle.std.proofs.Common.{ℕ, ◌≡◌, ◌+◌, false, get_or, ◌∙◌, ◌&&◌, ◌||◌, List, drop, [], sym, ap}
use Rattle.std.specs.List.{list_any}
use Rattle.std.proofs.lemmas.List.{drop_all, drop_more}
use Rattle.grid_law.specs.declared.reader.Reader.{Reader}
use Rattle.cell_table.specs.Reads.{is_reader}
use Rattle.due_cells.specs.Ranges.{is_marked}
use Rattle.cell_table.specs.Touches.{cell_reads_one}
use Rattle.std.proofs.Math.Bool.{or-false}
use Rattle.cell_table.proofs.Asking.{reader_more, of_reader, readers_all}
use Rattle.cell_table.proofs.table.Table.add_slot.Goals as goal

pub loop-reader-preserved : goal.loop-reader-preserved
loop-reader-preserved g c =
    let R = g.G.Grid.rules in
    let s = c.args.self.now.slots in
    let rows = c.args.self.now.rows in
    let slot = c.args.slot.now in
    let items = c.as_slice-reader-items.result.now in
    let i = c.loop-reader.reader-index in
    let none : Reader = record { component = 0; first = false } in
    let r : Reader = get_or items i none in
    record {
      within = c.in_ok-add_reader.ensures.within;
      at = λ t d h.
          let m = is_marked c.loop-reader.ranges.items t d in
          let one = λ (k : ℕ). cell_reads_one R s rows slot t k in
          let rest = list_any (λ r. is_reader r t d) (drop (i + 1) items) in
          ap (λ b. b || (rest && one d)) (c.in_ok-add_reader.ensures.at t d h)
          ∙ reader_more m (is_reader r t d) rest (one d) (one r.component) (λ e. ap one (of_reader R r t d e))
          ∙ sym (ap (λ (rs : List Reader). m || (list_any (λ r. is_reader r t d) rs && one d)) (drop_more items i none c.loop-reader-test.true))
          ∙ c.loop-reader.invariant.at t d h;
    }

pub returns-clause-at : goal.returns-clause-at
returns-clause-at g c = λ t d h k.
    let R = g.G.Grid.rules in
    let s = c.args.self.now.slots in
    let rows = c.args.self.now.rows in
    let slot = c.args.slot.now in
    let items = c.as_slice-reader-items.result.now in
    let m = is_marked c.loop-reader.ranges.items t d in
    let old = is_marked c.args.ranges.now.items t d in
    let one = cell_reads_one R s rows slot t d in
    let left : drop c.loop-reader.reader-index items ≡ [] = drop_all c.loop-reader.reader-index items c.loop-reader-test.false in
    let listed : items ≡ R.readers s slot = c.as_slice-reader-items.ensures.value ∙ (rw (← c.self.view_is) c.in_ok-readers.ensures) in
    sym (ap (λ (rs : List Reader). m || (list_any (λ r. is_reader r t d) rs && one)) left ∙ or-false m)
    ∙ c.loop-reader.invariant.at t d h
    ∙ ap (λ (rs : List Reader). old || (list_any (λ r. is_reader r t d) rs && one)) listed
    ∙ ap (λ b. old || b) (readers_all R g.G.Grid.laws s rows slot t d k)
