use Rattle.std.proofs.Common.{◌≡◌, ℕ, ◌<◌}
use Rattle.project_book.specs.Project.{page_of}
use Rattle.machine_cells.proofs.agree.same_pages.Given as goal

abbrev pub invariant-loop-page : goal.invariant-loop-page
invariant-loop-page l = (g : ℕ) → g < l.page → page_of l.a g ≡ page_of l.b g
