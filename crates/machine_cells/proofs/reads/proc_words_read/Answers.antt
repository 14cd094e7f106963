use Rattle.std.proofs.Common.{◌∙◌, ap, sym}
use Rattle.std.specs.Prelude.{drop}
use Rattle.project_book.specs.Project.{entry_at}
use Rattle.machine_cells.specs.Reads.{is_listed, entry_reads}
use Rattle.machine_cells.proofs.Telling.{other_words_read}
use Rattle.machine_cells.proofs.ByHead.{entry_by_head, by_entry, no_depth_by_head}
use Rattle.machine_cells.proofs.reads.proc_words_read.Goals as goal

pub returns-then-head-ne0 : goal.returns-then-head-ne0
returns-then-head-ne0 c = λ memory. other_words_read c.args.project.now c.args.proc c.args.words.now memory c.args.slot c.split_first-head.result.0 c.split_first-head.ensures.first c.if-head-ne0.true

pub returns-in-Entry : goal.returns-in-Entry
returns-in-Entry c = λ memory.
    c.index_reads.ensures
    ∙ entry_by_head c.args.project.now c.args.proc c.args.words.now memory c.split_first-head.result.0 c.split_first-head.ensures.first c.if-head-ne0.false
    c.index_in-index.result (c.index_in-index.ensures (drop 1 c.args.words.now)) c.args.slot c.in-Entry.field-0 c.in-Entry.field-1 c.in-Entry.is

pub returns-in-Page : goal.returns-in-Page
returns-in-Page c = λ memory.
    c.entry_reads.ensures
    ∙ ap (λ e. is_listed (entry_reads e) c.args.slot) (c.entry.ensures.entry ∙ ap (λ p. entry_at c.args.project.now p c.from-in-Page.result) c.from.ensures)
    ∙ by_entry c.args.project.now c.args.proc c.args.words.now memory c.split_first-head.result.0 c.split_first-head.ensures.first c.if-head-ne0.false
    c.from-in-Page.result (c.from-in-Page.ensures ∙ c.index_in-index.ensures (drop 1 c.args.words.now)) c.args.slot c.in-Page.is

pub returns-in-Depth : goal.returns-in-Depth
returns-in-Depth c = λ memory.
    no_depth_by_head c.args.project.now c.args.proc c.args.words.now memory c.split_first-head.result.0 c.split_first-head.ensures.first c.if-head-ne0.false
    (sym (c.shows_in.ensures (drop 1 c.args.words.now)) ∙ c.if-not-shows_in.true) c.args.slot c.in-Depth.field-0 c.in-Depth.is
