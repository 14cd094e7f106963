-- How far a session is, for the contracts inside this crate. No public clause cites it, so nothing here needs believing.
use Rattle.std.specs.Prelude.{◌≡◌, ◌⊎◌, ℕ, ◌<◌, Bool, true, false, length, List, [], ◌∷◌, ◌++◌, Option, None, Some}
use Rattle.std.specs.Io.KnownBytes.{Appends, Consumes}
use Rattle.bench_shell.specs.Lines.{Line, lines_of}
use Rattle.bench_shell.specs.Steps.{has_lf, Splits}
use Rattle.lab_shell.specs.declared.manner.Manner.{Manner}
use Rattle.lab_shell.specs.declared.manner.Ended.{Ended}
use Rattle.lab_shell.specs.declared.manner.Ended.TheVariants as ended
use Rattle.lab_shell.specs.Sessions.{Session}
use Rattle.lab_shell.specs.Talks.{Says, One, Goes, Talks, IsAllRead, prompt}

-- the bytes of a line, and whether it ended with LF
pub record IsLine (text bytes : List ℕ) (is_whole : Bool) : Type 0 where
  pub no_lf : has_lf bytes ≡ false
  pub whole : is_whole ≡ true → text ≡ bytes ++ 10 ∷ []
  pub cut : is_whole ≡ false → text ≡ bytes
  pub some : is_whole ≡ false → 0 < length bytes

-- lines were read and answered, none of which ended the session
pub record Reached (says : Says) (m : Manner) (reader reader' writer writer' : Option (List ℕ)) (s t : Session) : Type 0 where
  pub text : List ℕ
  pub first : List ℕ
  pub is_read : Consumes reader reader' text
  pub splits : Splits text
  pub is_written : Appends writer writer' first
  pub goes : Goes says m s (lines_of text) first t

-- one line more was read and answered
pub record Line1 (says : Says) (m : Manner) (s : Session) (read written : List ℕ) (t : Session) (stop : Option Ended) : Type 0 where
  pub line : Line
  pub answer : List ℕ
  pub is_line : lines_of read ≡ line ∷ []
  pub is_written : written ≡ prompt m.voice ++ answer
  pub one : One says m s line answer t stop

-- what one turn did that went on, and one that ended the session so
abbrev pub TurnOf : Says → Manner → Option (List ℕ) → Option (List ℕ) → Session → List ℕ → List ℕ → Session → Option Ended → Type 0
TurnOf says m reader reader' s read written t None = Splits read × Line1 says m s read written t None
TurnOf says m reader reader' s read written t (Some how) =
    ((how ≡ ended.Input) × (read ≡ []) × (written ≡ prompt m.voice) × (t ≡ s) × IsAllRead how reader reader')
    ⊎ (Line1 says m s read written t (Some how) × IsAllRead how reader reader')

abbrev pub Turned : Says → Manner → Option (List ℕ) → Option (List ℕ) → Option (List ℕ) → Option (List ℕ) → Session → Session → Option Ended → Type 0
Turned says m reader reader' writer writer' s t stop =
    (read written : List ℕ) × Consumes reader reader' read × Appends writer writer' written × TurnOf says m reader reader' s read written t stop

-- a part was read and answered, and the session ended so
abbrev pub TalkedOver : Says → Manner → Option (List ℕ) → Option (List ℕ) → Option (List ℕ) → Option (List ℕ) → Session → Session → Ended → Type 0
TalkedOver says m reader reader' writer writer' s t how =
    (read written : List ℕ) × Consumes reader reader' read × IsAllRead how reader reader' × Appends writer writer' written × Talks says m s read written t how
