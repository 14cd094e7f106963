-- A project as the text of a file of format 2: what is as usual is left out, and keys are in the order in which people write them.
use Rattle.std.specs.Prelude.{ℕ, ◌^◌, ◌%◌, ◌==◌, ◌&&◌, Bool, if◌then◌else◌, List, [], ◌++◌, Option, None, Some, codes, decimal}
use Rattle.std.specs.List.{flat_map, list_any}
use Rattle.omega_net.specs.Wires.{below}
use Rattle.omega_net.specs.declared.script.ScriptEntry.{ScriptEntry}
use Rattle.page_map.specs.Limits.{address_count, page_count}
use Rattle.project_book.specs.EntryTexts.{entry_text}
use Rattle.project_book.specs.Project.{Project, combines_at, depth_of, entry_at, length_at, page_of, word_of}
use Rattle.project_book.specs.Queues.{usual_depths, usual_wait}
use Rattle.project_file.specs.Formats.{format_of}
use Rattle.project_book.specs.declared.edit.Depths.TheVariants.{LowForward, LowReverse, CombForward, CombReverse, ModuleQueue}

-- a key with its number, and the same left out where the number is the usual one
abbrev pub setting : List ℕ → ℕ → List ℕ
setting key n = key ++ (codes " = " ++ (decimal n ++ codes "\n"))

unfoldable pub unusual : List ℕ → ℕ → ℕ → List ℕ
unusual key usual n = if n == usual then [] else setting key n

-- what each file has
unfoldable pub size_text : Project → List ℕ
size_text P = setting (codes "format") (format_of P.scale) ++ (setting (codes "k") P.k ++ setting (codes "horizon") P.horizon)

-- whether the switches of each stage combine, where those of any do
abbrev pub flag_text : Bool → List ℕ
flag_text on = if on then codes "true" else codes "false"

abbrev pub comma : ℕ → List ℕ
comma n = if n == 0 then [] else codes ", "

unfoldable pub combine_line : Project → List ℕ
combine_line P = codes "combine = [" ++ (flat_map (λ stage. comma stage ++ flag_text (combines_at P stage)) (below P.k) ++ codes "]\n")

unfoldable pub combine_text : Project → List ℕ
combine_text P = if list_any (combines_at P) (below P.k) then combine_line P else []

-- the depths that aren't usual, below their header where there are any
unfoldable pub depth_lines : Project → List ℕ
depth_lines P =
    unusual (codes "low_forward") usual_depths.low_forward (depth_of P LowForward)
    ++ (unusual (codes "low_reverse") usual_depths.low_reverse (depth_of P LowReverse)
    ++ (unusual (codes "comb_forward") usual_depths.comb_forward (depth_of P CombForward)
    ++ (unusual (codes "comb_reverse") usual_depths.comb_reverse (depth_of P CombReverse)
    ++ (unusual (codes "module") usual_depths.module_queue (depth_of P ModuleQueue)
    ++ unusual (codes "wait") usual_wait P.wait))))

abbrev pub under_depths : List ℕ → List ℕ
under_depths [] = []
under_depths lines = codes "\n[depths]\n" ++ lines

-- a page, and none that is spread over all modules
unfoldable pub page_lines : ℕ → ℕ → ℕ → List ℕ
page_lines g amount base = codes "\n[[page]]\n" ++ (setting (codes "number") g ++ (setting (codes "amount") amount ++ setting (codes "base") base))

unfoldable pub page_text : Project → ℕ → List ℕ
page_text P g =
    if ((page_of P g).amount == P.k) && ((page_of P g).base == 0) then []
    else page_lines g (page_of P g).amount (page_of P g).base

-- a first word, and none that is 0
unfoldable pub word_lines : ℕ → ℕ → List ℕ
word_lines a w = codes "\n[[word]]\n" ++ (setting (codes "address") a ++ setting (codes "value") w)

unfoldable pub word_text : Project → ℕ → List ℕ
word_text P a = if word_of P a == 0 then [] else word_lines a (word_of P a)

-- a script that has entries, eight of them on a line
abbrev pub entry_start : ℕ → List ℕ
entry_start i = if i == 0 then [] else (if i % 8 == 0 then codes ",\n    " else codes ", ")

abbrev pub quoted : Option ScriptEntry → List ℕ
quoted None = []
quoted (Some entry) = codes "\"" ++ (entry_text entry ++ codes "\"")

unfoldable pub item_text : Project → ℕ → ℕ → List ℕ
item_text P p i = entry_start i ++ quoted (entry_at P p i)

abbrev pub entries_text : Project → ℕ → List ℕ
entries_text P p = flat_map (item_text P p) (below (length_at P p))

unfoldable pub script_lines : Project → ℕ → List ℕ
script_lines P p = codes "\n[[script]]\n" ++ (setting (codes "processor") p ++ (codes "entries = [" ++ (entries_text P p ++ codes "]\n")))

unfoldable pub script_text : Project → ℕ → List ℕ
script_text P p = if length_at P p == 0 then [] else script_lines P p

-- the pages, the first words and the scripts whose numbers are below this one, upwards
unfoldable pub pages_text : Project → ℕ → List ℕ
pages_text P n = flat_map (page_text P) (below n)

unfoldable pub words_text : Project → ℕ → List ℕ
words_text P n = flat_map (word_text P) (below n)

unfoldable pub scripts_text : Project → ℕ → List ℕ
scripts_text P n = flat_map (script_text P) (below n)

abbrev pub project_text : Project → List ℕ
project_text P =
    size_text P ++ (unusual (codes "window") 1 P.window ++ (combine_text P ++ (under_depths (depth_lines P)
    ++ (pages_text P page_count ++ (words_text P address_count ++ scripts_text P (2 ^ P.k))))))
