-- Which words `delays` takes with a file, and which without one.
use Rattle.std.specs.Prelude.{ℕ, List, Option, None, Some, option_map, codes}
use Rattle.lab_tasks.specs.declared.either.Told.{Told}
use Rattle.lab_tasks.specs.declared.end.End.{End}
use Rattle.lab_tasks.specs.declared.latency.LatencyWords.{LatencyWords}
use Rattle.lab_tasks.specs.declared.words.CurveWords.{CurveWords}
use Rattle.lab_tasks.specs.declared.words.DelayWords.{DelayWords}
use Rattle.lab_tasks.specs.Ends.{RefusesForm}
use Rattle.lab_tasks.specs.Words.{text_of}

-- an option and its word, as their texts
abbrev pub told_of : Option Told → Option (List ℕ × List ℕ)
told_of told = option_map (λ t. (t.option.now, t.word.now)) told

-- an option that has a word, with it, else the one behind
abbrev pub told_in : List ℕ → Option (List ℕ) → Option (List ℕ × List ℕ) → Option (List ℕ × List ℕ)
told_in option None behind = behind
told_in option (Some word) behind = Some (option, word)

-- the first word that says what is measured, and the first one that says which references of a file are drawn
abbrev pub measured_told : CurveWords → Option (List ℕ × List ℕ)
measured_told w =
    told_in (codes "--k") (text_of w.k) (told_in (codes "--hot") (text_of w.hot) (told_in (codes "--cycles") (text_of w.cycles)
    (told_in (codes "--seed") (text_of w.seed) (told_in (codes "--csv") (text_of w.csv) (told_in (codes "--keep") (text_of w.keep) None)))))

abbrev pub drawn_told : LatencyWords → Option (List ℕ × List ℕ)
drawn_told w =
    told_in (codes "--processor") (text_of w.processor) (told_in (codes "--network") (text_of w.network)
    (told_in (codes "--from") (text_of w.from) (told_in (codes "--to") (text_of w.to) None)))

-- the first word that isn't taken: with a file none of those that say what is measured, without one none of those that say what is drawn
abbrev pub other_told : Option (List ℕ) → DelayWords → Option (List ℕ × List ℕ)
other_told None w = drawn_told w.latency
other_told (Some file) w = measured_told w.curves

abbrev pub taken : Option (List ℕ) → List ℕ
taken None = codes "taken without FILE"
taken (Some file) = codes "taken with FILE"

abbrev pub RefusesOther : Option (List ℕ × List ℕ) → List ℕ → End → Type 0
RefusesOther None wanted end = ⊥
RefusesOther (Some other) wanted end = RefusesForm other.0 other.1 wanted end

-- why words are refused: one of them isn't taken
abbrev pub IsOther : DelayWords → End → Type 0
IsOther words end = RefusesOther (other_told (text_of words.file) words) (taken (text_of words.file)) end
