-- The texts of script entries.
use Rattle.std.specs.Prelude.{ℕ, ◌<◌, ◌^◌, ◌==◌, Bool, true, false, List, [], ◌∷◌, ◌++◌, Option, None, Some, if◌then◌else◌, option_and_then, codes, bytes_eq}
use Rattle.std.specs.Fmt.{decimal}
use Rattle.std.specs.Option.{option_map}
use Rattle.line_words.specs.Numbers.{number_of}
use Rattle.project_book.specs.Limits.{usual_tries}
use Rattle.word_ops.specs.Words.{kind_name, kind_named}
use Rattle.omega_net.specs.declared.script.ScriptEntry.{ScriptEntry}
use Rattle.omega_net.specs.declared.script.ScriptEntry.TheVariants.{Reference, Until, Fence, Idle}

-- how a reference begins, by its network
abbrev pub network_name : Bool → List ℕ
network_name true = codes "sync"
network_name false = codes "plain"

-- how often an entry is issued, left out where it's as often as usual
abbrev pub times_text : ℕ → ℕ → List ℕ
times_text usual times = if times == usual then [] else codes " " ++ decimal times

-- the text of an entry
abbrev pub entry_text : ScriptEntry → List ℕ
entry_text (Reference sync op address times) =
    network_name sync ++ codes " " ++ kind_name op.kind ++ codes " " ++ decimal address ++ codes " " ++ decimal op.operand ++ times_text 1 times
entry_text (Until sync op address value times) =
    codes "until " ++ network_name sync ++ codes " " ++ kind_name op.kind ++ codes " " ++ decimal address ++ codes " " ++ decimal op.operand ++ codes " " ++ decimal value
    ++ times_text usual_tries times
entry_text Fence = codes "fence"
entry_text (Idle turns) = codes "idle " ++ decimal turns

-- how often, by the words behind all others
abbrev pub times_of : ℕ → List (List ℕ) → Option ℕ
times_of usual [] = Some usual
times_of usual (times ∷ []) = number_of times
times_of usual (times ∷ word ∷ words) = None

-- a reference, by the words behind its network
abbrev pub reference_of : Bool → List (List ℕ) → Option ScriptEntry
reference_of sync (kind ∷ address ∷ operand ∷ words) =
    option_and_then (λ k. option_and_then (λ a. option_and_then (λ v. option_map (λ t. Reference sync (record { kind = k; operand = v }) a t) (times_of 1 words)) (number_of operand)) (number_of address)) (kind_named kind)
reference_of sync _ = None

-- the network of a name
abbrev pub network_named : List ℕ → Option Bool
network_named word = if bytes_eq word (codes "sync") then Some true else (if bytes_eq word (codes "plain") then Some false else None)

-- an entry that waits for a word, by the words behind `until`
abbrev pub until_of : List (List ℕ) → Option ScriptEntry
until_of (network ∷ kind ∷ address ∷ operand ∷ value ∷ words) =
    option_and_then (λ s. option_and_then (λ k. option_and_then (λ a. option_and_then (λ v. option_and_then (λ w. option_map (λ t. Until s (record { kind = k; operand = v }) a w t) (times_of usual_tries words)) (number_of value)) (number_of operand)) (number_of address)) (kind_named kind)) (network_named network)
until_of _ = None

abbrev pub fence_of : List (List ℕ) → Option ScriptEntry
fence_of [] = Some Fence
fence_of (word ∷ words) = None

abbrev pub idle_of : List (List ℕ) → Option ScriptEntry
idle_of [] = None
idle_of (turns ∷ []) = option_map (λ t. Idle t) (number_of turns)
idle_of (turns ∷ word ∷ words) = None

-- the entry that words are, if they are one
abbrev pub entry_of : List (List ℕ) → Option ScriptEntry
entry_of [] = None
entry_of (word ∷ words) =
    if bytes_eq word (codes "sync")
    then reference_of true words
    else (if bytes_eq word (codes "plain")
    then reference_of false words
    else (if bytes_eq word (codes "until")
    then until_of words
    else (if bytes_eq word (codes "fence") then fence_of words else (if bytes_eq word (codes "idle") then idle_of words else None))))

-- an entry's numbers are of 32 bits
abbrev pub IsNumbered : ScriptEntry → Type 0
IsNumbered (Reference sync op address times) = (op.operand < 2 ^ 32) × (address < 2 ^ 32) × (times < 2 ^ 32)
IsNumbered (Until sync op address value times) = (op.operand < 2 ^ 32) × (address < 2 ^ 32) × (value < 2 ^ 32) × (times < 2 ^ 32)
IsNumbered Fence = Unit {0}
IsNumbered (Idle turns) = turns < 2 ^ 32
