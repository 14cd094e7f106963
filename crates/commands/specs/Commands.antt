-- The command that the words of a line are: its keyword, and what stands behind that.
use Rattle.std.specs.Prelude.{ℕ, Bool, true, false, if◌then◌else◌, List, [], ◌∷◌, Option, None, Some, option_map, find, bytes_eq, codes}
use Rattle.line_words.specs.Numbers.{number_of}
use Rattle.project_book.specs.EntryTexts.{entry_of}
use Rattle.commands.specs.Queues.{queue_named}
use Rattle.project_book.specs.declared.edit.Edit.{Edit}
use Rattle.project_book.specs.declared.edit.Edit.TheVariants as edit
use Rattle.run_queries.specs.declared.query.Query.{Query}
use Rattle.run_queries.specs.declared.query.Query.TheVariants as query
use Rattle.commands.specs.declared.command.Command.{Command}
use Rattle.commands.specs.declared.command.Command.TheVariants as command
use Rattle.commands.specs.declared.keyword.Keyword.{Keyword}
use Rattle.commands.specs.declared.keyword.Keyword.TheVariants.{Entry, Cut, Word, Page, Depth, Wait, Combine, Window, Horizon, Reply, State, Memory, Counter, Profile, Tree, Level, Bound, Place, Order}
use Rattle.commands.specs.Numbers.{both, one_number, two_numbers, three_numbers}
use Rattle.commands.specs.Components.{component_named}
use Rattle.commands.specs.Reports.{counter_query, in_net, level_query}

-- the first word of each command
abbrev pub keyword_name : Keyword → List ℕ
keyword_name Entry = codes "entry"
keyword_name Cut = codes "cut"
keyword_name Word = codes "word"
keyword_name Page = codes "page"
keyword_name Depth = codes "depth"
keyword_name Wait = codes "wait"
keyword_name Combine = codes "combine"
keyword_name Window = codes "window"
keyword_name Horizon = codes "horizon"
keyword_name Reply = codes "reply"
keyword_name State = codes "state"
keyword_name Memory = codes "memory"
keyword_name Counter = codes "counter"
keyword_name Profile = codes "profile"
keyword_name Tree = codes "tree"
keyword_name Level = codes "level"
keyword_name Bound = codes "bound"
keyword_name Place = codes "place"
keyword_name Order = codes "order"

abbrev pub keywords : List Keyword
keywords = Entry ∷ Cut ∷ Word ∷ Page ∷ Depth ∷ Wait ∷ Combine ∷ Window ∷ Horizon ∷ Reply ∷ State ∷ Memory ∷ Counter ∷ Profile ∷ Tree ∷ Level ∷ Bound ∷ Place ∷ Order ∷ []

-- the keyword that a word is, if it is one
abbrev pub keyword_of : List ℕ → Option Keyword
keyword_of word = find (λ keyword. bytes_eq (keyword_name keyword) word) keywords

-- whether its command is a query
abbrev pub is_query : Keyword → Bool
is_query Reply = true
is_query State = true
is_query Memory = true
is_query Counter = true
is_query Profile = true
is_query Tree = true
is_query Level = true
is_query Bound = true
is_query Place = true
is_query Order = true
is_query _ = false

-- on or off
abbrev pub switch_named : List ℕ → Option Bool
switch_named word = if bytes_eq word (codes "on") then Some true else if bytes_eq word (codes "off") then Some false else None

-- `entry P I ENTRY`
abbrev pub entry_edit : List (List ℕ) → Option Edit
entry_edit (p ∷ i ∷ words) = option_map (λ x. edit.Entry x.0.0 x.0.1 x.1) (both (both (number_of p) (number_of i)) (entry_of words))
entry_edit _ = None

-- `page G AMOUNT BASE`
abbrev pub page_edit : List (List ℕ) → Option Edit
page_edit words = option_map (λ x. edit.Page x.0 x.1.0 x.1.1) (three_numbers words)

-- `depth Q D`
abbrev pub depth_edit : List (List ℕ) → Option Edit
depth_edit (q ∷ d ∷ []) = option_map (λ x. edit.Depth x.0 x.1) (both (queue_named q) (number_of d))
depth_edit _ = None

-- `combine S on` and `combine S off`
abbrev pub combine_edit : List (List ℕ) → Option Edit
combine_edit (s ∷ o ∷ []) = option_map (λ x. edit.Combine x.0 x.1) (both (number_of s) (switch_named o))
combine_edit _ = None

-- `state C T`
abbrev pub state_query : ℕ → List (List ℕ) → Option Query
state_query k (c ∷ t ∷ []) = option_map (λ x. query.State x.0 x.1) (both (component_named k c) (number_of t))
state_query k _ = None

-- the edit, or the query, of a keyword and the words behind it
abbrev pub edit_of : Keyword → List (List ℕ) → Option Edit
edit_of Entry words = entry_edit words
edit_of Cut words = option_map (λ x. edit.Cut x.0 x.1) (two_numbers words)
edit_of Word words = option_map (λ x. edit.Word x.0 x.1) (two_numbers words)
edit_of Page words = page_edit words
edit_of Depth words = depth_edit words
edit_of Wait words = option_map edit.WaitDepth (one_number words)
edit_of Combine words = combine_edit words
edit_of Window words = option_map edit.Window (one_number words)
edit_of Horizon words = option_map edit.Horizon (one_number words)
edit_of _ words = None

abbrev pub query_of : ℕ → Keyword → List (List ℕ) → Option Query
query_of k Reply words = option_map (λ x. query.Reply x.0 x.1) (two_numbers words)
query_of k State words = state_query k words
query_of k Memory words = option_map (λ x. query.Memory x.0 x.1) (two_numbers words)
query_of k Counter words = counter_query k words
query_of k Profile words = option_map (λ x. query.Profile x.0 x.1) (in_net words)
query_of k Tree words = option_map (λ x. query.Tree x.0 x.1) (in_net words)
query_of k Level words = level_query words
query_of k Bound words = option_map (λ x. query.Bound x.0 x.1.0 x.1.1) (three_numbers words)
query_of k Place words = option_map query.Place (one_number words)
query_of k Order words = option_map query.Order (one_number words)
query_of k _ words = None

-- the command of a keyword and the words behind it: a query or an edit
abbrev pub command_for : ℕ → Keyword → List (List ℕ) → Option Command
command_for k keyword words =
    if is_query keyword then option_map command.Query (query_of k keyword words)
    else option_map command.Edit (edit_of keyword words)

abbrev pub command_at : ℕ → Option Keyword → List (List ℕ) → Option Command
command_at k None words = None
command_at k (Some keyword) words = command_for k keyword words

-- the command that the words are in a machine of 2^k processors, if they are one
abbrev pub command_of : ℕ → List (List ℕ) → Option Command
command_of k [] = None
command_of k (word ∷ words) = command_at k (keyword_of word) words
