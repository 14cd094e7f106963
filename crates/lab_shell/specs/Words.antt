-- The shell's own words.
use Rattle.std.specs.Prelude.{ℕ, Bool, ◌&&◌, List, [], ◌∷◌, Option, None, Some, option_map, bytes_eq, codes, if◌then◌else◌}
use Rattle.std.specs.Option.{option_or}
use Rattle.lab_shell.specs.declared.word.ShellWord.{ShellWord}
use Rattle.lab_shell.specs.declared.word.ShellWord.TheVariants.{Quit, Help, HelpOn, Show, Script, Save, Undo, Latency, Done, Trace, Full, Busy, Series, OrderAll}

-- what a word asks for that stands alone, and one with one more behind it; `quit` is a word only where people type
abbrev pub alone : Bool → List ℕ → Option ShellWord
alone people word =
    if people && bytes_eq word (codes "quit") then Some Quit
    else if bytes_eq word (codes "help") then Some Help
    else if bytes_eq word (codes "show") then Some Show
    else if bytes_eq word (codes "undo") then Some Undo
    else None

abbrev pub with_one : List ℕ → Option ShellWord
with_one word =
    if bytes_eq word (codes "help") then Some HelpOn
    else if bytes_eq word (codes "script") then Some Script
    else if bytes_eq word (codes "save") then Some Save
    else None

-- the report of a name, which may have any words behind it
abbrev pub report_named : List ℕ → Option ShellWord
report_named word =
    if bytes_eq word (codes "latency") then Some Latency
    else if bytes_eq word (codes "done") then Some Done
    else if bytes_eq word (codes "trace") then Some Trace
    else if bytes_eq word (codes "full") then Some Full
    else if bytes_eq word (codes "busy") then Some Busy
    else if bytes_eq word (codes "series") then Some Series
    else None

abbrev pub is_order_all : List ℕ → List ℕ → Bool
is_order_all word argument = bytes_eq word (codes "order") && bytes_eq argument (codes "all")

-- what a word asks for that is no report, with these words behind it
abbrev pub asked_by : Bool → List ℕ → List (List ℕ) → Option ShellWord
asked_by people word [] = alone people word
asked_by people word (argument ∷ []) = if is_order_all word argument then Some OrderAll else with_one word
asked_by people word behind = None

abbrev pub word_of : Bool → List ℕ → List (List ℕ) → Option ShellWord
word_of people word behind = option_or (report_named word) (asked_by people word behind)

-- what the words of a line ask for, with those behind the first one
abbrev pub request_of : Bool → List (List ℕ) → Option (ShellWord × List (List ℕ))
request_of people [] = None
request_of people (word ∷ behind) = option_map (λ w. (w, behind)) (word_of people word behind)

-- the first of some words; an empty one where there is none
abbrev pub first_word : List (List ℕ) → List ℕ
first_word [] = []
first_word (word ∷ words) = word
