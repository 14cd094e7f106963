-- The reasons behind refusals, as people read them.
use Rattle.std.specs.Prelude.{ℕ, ◌==◌, Bool, List, [], ◌∷◌, ◌++◌, Option, Some, codes, if◌then◌else◌}
use Rattle.std.specs.Option.{unwrap_or}
use Rattle.std.specs.Fmt.{◌++?◌}
use Rattle.bench_shell.specs.Text.{text_of, line_text}
use Rattle.bench_shell.specs.declared.answer.Answer.{Answer}
use Rattle.bench_shell.specs.declared.answer.Answer.TheVariants.{Accepted, Refused, Told, Bad, BadLine, BadCut, BadCommand}

-- by the number of a refused edit, and of a query that has no answer
abbrev pub refused_reason : ℕ → List ℕ
refused_reason n =
    if n == 1 then codes "the journal holds 65535 edits"
    else if n == 2 then codes "there is no such processor"
    else if n == 3 then codes "there is no such entry, and it isn't the next one"
    else if n == 4 then codes "a script has at most 256 entries, of a project of format 3 4096"
    else if n == 5 then codes "an address is below 16384"
    else if n == 6 then codes "a page is below 64"
    else if n == 7 then codes "a page goes to 2^AMOUNT modules, from a multiple of that on, all of which are there"
    else if n == 8 then codes "there is no such stage"
    else if n == 9 then codes "a depth is 2 to 16, of comb-reverse 4 to 16, of wait 1 to 16"
    else if n == 10 then codes "a window is 1 to 8"
    else if n == 11 then codes "times and turns are 1 to 1000"
    else if n == 12 then codes "a horizon is at most 2000, of a project of format 3 20000"
    else []

abbrev pub bad_reason : ℕ → List ℕ
bad_reason n =
    if n == 1 then codes "there is no such processor, module, component or stage"
    else if n == 2 then codes "the cycle is past the horizon"
    else if n == 3 then codes "an address is below 16384"
    else if n == 4 then codes "the processor issues no such reference by the horizon"
    else if n == 5 then codes "the last cycle is before the first"
    else if n == 6 then codes "the fraction isn't within 0 to 1"
    else []

-- of an answer
abbrev pub reason_of : Answer → List ℕ
reason_of (Accepted v) = []
reason_of (Told v body) = []
reason_of (Refused n) = refused_reason n
reason_of (Bad n) = bad_reason n
reason_of BadLine = codes "a line has at most 4096 bytes"
reason_of BadCut = codes "the input ends within the line"
reason_of BadCommand = codes "there is no such command; help lists them"

-- a reason behind a text, where there is one
abbrev pub behind : Option (List ℕ) → List ℕ → Option (List ℕ)
behind text [] = text
behind text (b ∷ bs) = text ++? Some (codes ": ") ++? Some (b ∷ bs)

-- an answer as people read it
abbrev pub reasoned_text : Answer → Option (List ℕ)
reasoned_text a = behind (text_of a) (reason_of a)

-- an answer's line, for people with the reason behind it
abbrev pub told_line : Bool → Answer → List ℕ
told_line people a = if people then unwrap_or (reasoned_text a) [] ++ 10 ∷ [] else line_text a
