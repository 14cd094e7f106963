-- First words put into a module, row by row.
use Rattle.std.specs.Prelude.{◌≡◌, ℕ, ◌+◌, ◌-◌, ◌^◌, ◌<◌, ◌≤◌, ◌&&◌, nat_le, nat_lt, if◌then◌else◌, List, Option, None, Some}
use Rattle.page_map.specs.Places.{Page}
use Rattle.mem_module.specs.declared.words.Stored.{Stored}
use Rattle.mem_module.specs.Memory.{word_at}
use Rattle.project_book.specs.Project.{Project}
use Rattle.machine_cells.specs.Run.{words_in}
use Rattle.machine_cells.specs.laws.Starts.{From}

-- the rows below one hold what stands in the module, and the others nothing yet
pub record IsPut (P : Project) (m row : ℕ) (ws : List Stored) : Type 0 where
  pub ordered : From 0 ws
  pub done : (r : ℕ) → r < row → word_at ws r ≡ word_at (words_in P m P.words) r
  pub blank : (r : ℕ) → row ≤ r → word_at ws r ≡ 0

-- the offset of a page's first word that stands in a module, and how far it is to the next one
abbrev pub lane : Page → ℕ → Option (ℕ × ℕ)
lane page m = if nat_le page.base m && nat_lt m (page.base + 2 ^ page.amount) then Some (m - page.base, 2 ^ page.amount) else None
