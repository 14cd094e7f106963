-- What a pass stands for as a desk.
use Rattle.std.specs.Prelude.{◌≡◌, ℕ, ◌≤◌, List, ◌++◌, length, map}
use Rattle.bench_core.specs.declared.noted.Noted.{Noted}
use Rattle.shared_bench.specs.Legal.{Receipt, noted}
use Rattle.shared_bench.specs.Known.{Known}
use Rattle.shared_bench.specs.Answers.{project_at}
use Rattle.bench_shell.specs.Store.{Store}

-- the edits of these receipts as entries of a journal, under this number
abbrev pub entries_of : ℕ → List Receipt → List Noted
entries_of number receipts = map (λ r. noted number r.1) receipts

-- the journal of the opening with the pass's own edits, and no others
abbrev pub own_journal : Known → List Noted
own_journal p = p.opened ++ entries_of p.number p.receipts

-- the project of the opening with the pass's own edits, and that journal
abbrev pub seated_store : Known → Store
seated_store p = record { project = project_at p.project p.opened (own_journal p); author = p.number; journal = own_journal p }

-- the pass has seen no fewer entries than its own and those of the opening; and where it has seen no more, it has seen these
pub record IsSeated (p : Known) : Type 0 where
  pub whole : length (own_journal p) ≤ length p.seen
  pub exact : length p.seen ≡ length (own_journal p) → p.seen ≡ own_journal p
