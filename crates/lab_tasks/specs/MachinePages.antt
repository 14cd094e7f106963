-- Which page `page` makes, and why it doesn't.
use Rattle.std.specs.Prelude.{◌≡◌, ◌⊎◌, ℕ, Bool, true, false, nat_le, List, codes}
use Rattle.project_book.specs.Project.{Project}
use Rattle.machine_page.specs.Limits.{most_states, states_in}
use Rattle.machine_page.specs.Pages.{page_text}
use Rattle.experiments.specs.declared.map.Window.{Window}
use Rattle.lab_tasks.specs.declared.end.End.{End}
use Rattle.lab_tasks.specs.declared.order.OrderWords.{OrderWords}
use Rattle.lab_tasks.specs.Ends.{RefusesForm}
use Rattle.lab_tasks.specs.Orders.{IsNoOrder, IsWindow}

-- whether a page shows the cycles of a window
abbrev pub is_short : Project → Window → Bool
is_short P window = nat_le (states_in P.k window.from window.to) most_states

-- the window that the words name, where a page shows it
abbrev pub IsPageWindow : Project → OrderWords → Window → Type 0
IsPageWindow P words window = IsWindow P words window × (is_short P window ≡ true)

-- why there is none: a word that is refused, or too many cycles
abbrev pub IsTooLong : Project → OrderWords → End → Type 0
IsTooLong P words end =
    (window : Window) × IsWindow P words window × (is_short P window ≡ false)
    × RefusesForm (codes "FILE") words.file.now (codes "within the 200000 states of components that a page shows; --from and --to take fewer cycles") end

abbrev pub IsNoPage : Project → OrderWords → End → Type 0
IsNoPage P words end = IsNoOrder P words end ⊎ IsTooLong P words end

-- the page of that window of the run
abbrev pub IsPageText : OrderWords → Project → List ℕ → Type 0
IsPageText words P text = (window : Window) × IsPageWindow P words window × (text ≡ page_text P window.from window.to)
