-- Answers as objects of JSON (RFC 8259).
use Rattle.std.specs.Prelude.{ℕ, ◌+◌, ◌/◌, ◌%◌, ◌==◌, nat_lt, List, [], ◌∷◌, ◌++◌, Option, None, Some, codes, decimal, if◌then◌else◌}
use Rattle.std.specs.Option.{unwrap_or}
use Rattle.std.specs.List.{flat_map}
use Rattle.omega_net.specs.declared.message.Tag.{Tag}
use Rattle.machine_cells.specs.Texts.{state_text}
use Rattle.run_queries.specs.declared.body.Body.{Body}
use Rattle.run_queries.specs.declared.body.Body.TheVariants.{Reply, State, Word, Count, Profile, Tree, Level, Fraction, Place, Order}
use Rattle.bench_shell.specs.declared.answer.Answer.{Answer}
use Rattle.bench_shell.specs.declared.answer.Answer.TheVariants.{Accepted, Refused, Told, Bad, BadLine, BadCut, BadCommand}
use Rattle.lab_shell.specs.declared.manner.Seat.{Seat}
use Rattle.lab_shell.specs.declared.manner.Seat.TheVariants.{Alone, First, Later}
use Rattle.lab_shell.specs.Reasons.{refused_reason, bad_reason, reason_of}

-- a digit in base 16
abbrev pub hex_digit : ℕ → ℕ
hex_digit n = if nat_lt n 10 then 48 + n else 87 + n

-- a byte within a string: a quote, a backslash and what is no sign are escaped
abbrev pub escaped_byte : ℕ → List ℕ
escaped_byte b =
    if b == 34 then codes "\\\""
    else if b == 92 then codes "\\\\"
    else if b == 10 then codes "\\n"
    else if nat_lt b 32 then codes "\\u00" ++ (48 + b / 16) ∷ hex_digit (b % 16) ∷ []
    else b ∷ []

-- a text as a string
abbrev pub quoted : List ℕ → List ℕ
quoted text = 34 ∷ (flat_map escaped_byte text ++ 34 ∷ [])

-- an object of such fields; a field of a name and a value, and two of them
abbrev pub object : List ℕ → List ℕ
object fields = 123 ∷ (fields ++ 125 ∷ [])

abbrev pub field : List ℕ → List ℕ → List ℕ
field name value = 34 ∷ (name ++ (codes "\":" ++ value))

abbrev pub fields : List ℕ → List ℕ → List ℕ
fields one other = one ++ 44 ∷ other

-- a list of these, each with its text
abbrev pub array : {T : Type 0} → (T → List ℕ) → List T → List ℕ
array text [] = codes "[]"
array text (x ∷ xs) = 91 ∷ (text x ++ (flat_map (λ y. 44 ∷ text y) xs ++ 93 ∷ []))

abbrev pub or_null : Option ℕ → List ℕ
or_null None = codes "null"
or_null (Some n) = decimal n

-- a reference: its processor, and which one of that it is, from 0
abbrev pub tag_object : Tag → List ℕ
tag_object t = object (fields (field (codes "processor") (decimal t.proc)) (field (codes "reference") (decimal t.issue)))

-- what a question is answered: a reply that wasn't received has nulls, a tree the first cycle of each level or null
abbrev pub body_fields : Body → List ℕ
body_fields (Reply None) = fields (field (codes "cycle") (codes "null")) (field (codes "word") (codes "null"))
body_fields (Reply (Some r)) = fields (field (codes "cycle") (decimal r.cycle)) (field (codes "word") (decimal r.word))
body_fields (State s) = field (codes "state") (quoted (unwrap_or (state_text s) []))
body_fields (Word w) = field (codes "word") (decimal w)
body_fields (Count n) = field (codes "count") (decimal n)
body_fields (Profile ns) = field (codes "profile") (array decimal ns)
body_fields (Tree tree) = field (codes "first") (array or_null tree.first.items)
body_fields (Level n) = field (codes "level") (decimal n)
body_fields (Fraction n d) = fields (field (codes "numerator") (decimal n)) (field (codes "denominator") (decimal d))
body_fields (Place p) = fields (field (codes "module") (decimal p.module)) (field (codes "row") (decimal p.row))
body_fields (Order tags) = field (codes "order") (array tag_object tags)

-- a refusal, with its number or its word, and why
abbrev pub refusal : List ℕ → List ℕ → List ℕ → List ℕ
refusal name value why = object (fields (field name value) (field (codes "why") (quoted why)))

-- AN ANSWER as an object
abbrev pub answer_object : Answer → List ℕ
answer_object (Accepted v) = object (field (codes "ok") (decimal v))
answer_object (Told v body) = object (fields (field (codes "ok") (decimal v)) (body_fields body))
answer_object (Refused n) = refusal (codes "refused") (decimal n) (refused_reason n)
answer_object (Bad n) = refusal (codes "bad") (decimal n) (bad_reason n)
answer_object BadLine = refusal (codes "bad") (quoted (codes "line")) (reason_of BadLine)
answer_object BadCut = refusal (codes "bad") (quoted (codes "cut")) (reason_of BadCut)
answer_object BadCommand = refusal (codes "bad") (quoted (codes "command")) (reason_of BadCommand)

-- one that is alone has a line of its own; of several each later one stands behind a comma
abbrev pub seated : Seat → List ℕ → List ℕ
seated Alone text = text ++ 10 ∷ []
seated First text = text
seated Later text = 44 ∷ text

-- a text that is said to a line
abbrev pub text_object : List ℕ → List ℕ
text_object text = object (field (codes "text") (quoted text)) ++ 10 ∷ []
