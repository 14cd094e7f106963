-- What `order` tabulates and draws, and why it doesn't.
use Rattle.std.specs.Prelude.{◌≡◌, ◌≤◌, ◌<◌, ℕ, List, [], ◌∷◌, ◌++◌, Option, None, Some, codes, decimal, unwrap_or}
use Rattle.project_book.specs.Project.{Project}
use Rattle.omega_net.specs.Numbers.{lines}
use Rattle.omega_net.specs.Texts.{tag_text}
use Rattle.machine_cells.specs.Run.{run}
use Rattle.machine_cells.specs.Runs.{state_in}
use Rattle.run_queries.specs.declared.body.Received.{Received}
use Rattle.experiments.specs.declared.map.Window.{Window}
use Rattle.experiments.specs.declared.order.Issue.{Issue}
use Rattle.experiments.specs.declared.order.OrderRow.{OrderRow}
use Rattle.experiments.specs.Orders.{order_rows, rows_shown}
use Rattle.lab_tasks.specs.declared.end.End.{End}
use Rattle.lab_tasks.specs.declared.order.OrderWords.{OrderWords}
use Rattle.lab_tasks.specs.Ends.{RefusesBackwards}
use Rattle.lab_tasks.specs.Numbers.{IsTold, IsUntold}
use Rattle.lab_tasks.specs.OrderPictures.{IsPicture}
use Rattle.lab_tasks.specs.Plans.{InTurn}
use Rattle.lab_tasks.specs.Tables.{table_text}
use Rattle.lab_tasks.specs.Words.{text_of}

-- the first and the last cycle that the words name of a project
abbrev pub IsFirst : Project → OrderWords → ℕ → Type 0
IsFirst P words n = IsTold (text_of words.from) 0 0 P.horizon n

abbrev pub IsLast : Project → OrderWords → ℕ → Type 0
IsLast P words n = IsTold (text_of words.to) P.horizon 0 P.horizon n

-- the window that they name, which doesn't end before it begins
pub record IsWindow (P : Project) (words : OrderWords) (window : Window) : Type 0 where
  pub from : IsFirst P words window.from
  pub to : IsLast P words window.to
  pub forward : window.from ≤ window.to

-- why they name none: the first word in this order that is refused, and last a window whose two words are told
abbrev pub IsNoOrder : Project → OrderWords → End → Type 0
IsNoOrder P words end =
    InTurn (IsUntold (codes "--from") (text_of words.from) 0 P.horizon end) (IsFirst P words) (λ from.
    InTurn (IsUntold (codes "--to") (text_of words.to) 0 P.horizon end) (IsLast P words) (λ to.
    (to < from) × RefusesBackwards (codes "--to") (unwrap_or (text_of words.to) []) end))

-- the references that waited in a window of the run, in the one order
abbrev pub rows_in : Project → Window → List OrderRow
rows_in P window = rows_shown window.from window.to (order_rows P (state_in (run P)))

-- the address and the cycle of an issue, and the cycle and the word of a reply; two empty fields where there is none
abbrev pub issue_text : Option Issue → List ℕ
issue_text None = codes ","
issue_text (Some i) = decimal i.address ++ (codes "," ++ decimal i.cycle)

abbrev pub reply_text : Option Received → List ℕ
reply_text None = codes ","
reply_text (Some y) = decimal y.cycle ++ (codes "," ++ decimal y.word)

-- a row of the table
abbrev pub order_row : OrderRow → List ℕ
order_row r =
    decimal r.number ++ (codes "," ++ (tag_text r.tag ++ (codes "," ++ (issue_text r.issue ++ (codes "," ++ (decimal r.served ++ (codes "," ++ reply_text r.reply)))))))

abbrev pub order_header : List ℕ
order_header = codes "number,reference,word,issued,served,answered,old_word" ++ 10 ∷ []

-- the table of some references; a diagram where a file is named for it
abbrev pub IsTableOrPicture : Option (List ℕ) → Project → Window → List OrderRow → List ℕ → Type 0
IsTableOrPicture None P window rows text = text ≡ table_text order_header order_row rows
IsTableOrPicture (Some name) P window rows text = IsPicture (lines P.k) window rows text

-- that of the window that the words name
abbrev pub IsOrderText : OrderWords → Project → List ℕ → Type 0
IsOrderText words P text = (window : Window) × IsWindow P words window × IsTableOrPicture (text_of words.out) P window (rows_in P window) text
