-- The columns of an answer: one, or one for each of its numbers.
use Rattle.std.specs.Prelude.{ℕ, Bool, ◌+◌, ◌==◌, if◌then◌else◌, List, [], ◌++◌, map, slice_get, slice_index, Option, None, Some, codes, decimal}
use Rattle.omega_net.specs.Wires.{below}
use Rattle.svg_plots.specs.Lists.{each}
use Rattle.machine_cells.specs.Texts.{state_text}
use Rattle.project_book.specs.Project.{Project}
use Rattle.run_queries.specs.Queries.{number_name, numbers_of}
use Rattle.run_queries.specs.declared.body.Body.{Body}
use Rattle.run_queries.specs.declared.body.Body.TheVariants.{Reply, State, Word, Count, Profile, Tree, Level, Fraction, Place, Order}
use Rattle.run_queries.specs.Texts.{body_text}
use Rattle.serial_order.specs.Texts.{order_text}
use Rattle.lab_tasks.specs.declared.answered.Form.{Form}
use Rattle.lab_tasks.specs.declared.answered.Says.{Says}
use Rattle.lab_tasks.specs.declared.answered.Says.TheVariants as says
use Rattle.lab_tasks.specs.declared.asking.Asking.{Asking}
use Rattle.lab_tasks.specs.declared.asking.Asking.TheVariants as asking
use Rattle.lab_tasks.specs.ReportFigures.{done_figure, done_line, done_name, full_figure, full_line, full_name, latency_figure, latency_line, latency_name}

-- whether each number has a column, for a machine of a project
abbrev pub form_of : Project → Bool → Form
form_of P numbers = record { numbers = numbers; k = P.k }

-- ---- the names of the columns

-- how many numbers a question's answer or a report has
abbrev pub figures_of : ℕ → Asking → ℕ
figures_of k (asking.Query q) = numbers_of k q
figures_of k (asking.Latency ask) = 8
figures_of k asking.Done = 8
figures_of k asking.Full = 4

-- how many columns it has
abbrev pub width_of : Form → Asking → ℕ
width_of form what = if form.numbers then figures_of form.k what else 1

-- the first of two texts, or the other one
abbrev pub one_of : List ℕ → List ℕ → ℕ → List ℕ
one_of first other i = if i == 0 then first else other

-- what stands behind a question or a report in the name of a number's column: nothing where there is one column alone
abbrev pub figure_name : Asking → ℕ → List ℕ
figure_name (asking.Query q) i = number_name q i
figure_name (asking.Latency ask) i = latency_name i
figure_name asking.Done i = done_name i
figure_name asking.Full i = full_name i

abbrev pub column_name : Form → List ℕ → Asking → ℕ → List ℕ
column_name form ask what i = if form.numbers then ask ++ figure_name what i else ask

-- the columns of a question or a report, as it was asked, and those of all
abbrev pub question_columns : Form → List ℕ → Asking → List (List ℕ)
question_columns form ask what = map (column_name form ask what) (below (width_of form what))

abbrev pub columns_for : Form → List ℕ → Option Asking → List (List ℕ)
columns_for form ask None = []
columns_for form ask (Some what) = question_columns form ask what

abbrev pub columns_at : Form → List Asking → ℕ → List ℕ → List (List ℕ)
columns_at form askings i ask = columns_for form ask (slice_get askings i)

abbrev pub asked_columns : Form → List Asking → List (List ℕ) → List (List ℕ)
asked_columns form askings asks = each (columns_at form askings) asks

-- ---- what stands in them

-- a text that stands in the first of several columns alone
abbrev pub in_first : List ℕ → ℕ → List ℕ
in_first text i = one_of text [] i

-- the first cycle of a level, and nothing where no cycle has it
abbrev pub first_text : Option (Option ℕ) → List ℕ
first_text None = []
first_text (Some None) = []
first_text (Some (Some t)) = decimal t

-- the number of an answer at a place; the text of one that has none stands at the first place
abbrev pub number_at : Body → ℕ → Option (List ℕ)
number_at (Reply None) i = Some (in_first (codes "none") i)
number_at (Reply (Some r)) i = Some (one_of (decimal r.cycle) (decimal r.word) i)
number_at (State s) i = state_text s
number_at (Word w) i = Some (decimal w)
number_at (Count n) i = Some (decimal n)
number_at (Profile ns) i = Some (decimal (slice_index ns i))
number_at (Tree tree) i = Some (first_text (slice_get tree.first.items i))
number_at (Level n) i = Some (decimal n)
number_at (Fraction n d) i = Some (one_of (decimal n) (decimal d) i)
number_at (Place p) i = Some (one_of (decimal p.«module») (decimal p.row) i)
number_at (Order tags) i = Some (order_text tags)

-- what is said, as text: the answer to a question, the figures of a report in a line, or `bad N` with the number of the reason why
-- there is none
abbrev pub bad_text : ℕ → List ℕ
bad_text n = codes "bad " ++ decimal n

abbrev pub shown : Says → Option (List ℕ)
shown (says.Body body) = body_text body
shown (says.Bad n) = Some (bad_text n)
shown (says.Latency s) = Some (latency_line s)
shown (says.Done replies ends) = Some (done_line replies ends)
shown (says.Full fulls queues) = Some (full_line fulls queues)

abbrev pub number_shown : Says → ℕ → Option (List ℕ)
number_shown (says.Body body) i = number_at body i
number_shown (says.Bad n) i = Some (in_first (bad_text n) i)
number_shown (says.Latency s) i = Some (latency_figure s i)
number_shown (says.Done replies ends) i = Some (done_figure replies ends i)
number_shown (says.Full fulls queues) i = Some (full_figure fulls queues i)

-- what stands in one of its columns
abbrev pub cell_at : Form → Says → ℕ → Option (List ℕ)
cell_at form said i = if form.numbers then number_shown said i else shown said

abbrev pub cells_of : Form → Asking → Says → List (Option (List ℕ))
cells_of form what said = map (cell_at form said) (below (width_of form what))

-- where an edit is refused `refused N` stands in the first of them
abbrev pub refused_text : ℕ → List ℕ
refused_text n = codes "refused " ++ decimal n

abbrev pub refused_cell : ℕ → ℕ → Option (List ℕ)
refused_cell n i = Some (in_first (refused_text n) i)

abbrev pub refused_cells : Form → ℕ → Asking → List (Option (List ℕ))
refused_cells form n what = map (refused_cell n) (below (width_of form what))
