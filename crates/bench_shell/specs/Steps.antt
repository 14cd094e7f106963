-- What a run has done so far, for the contracts inside this crate. No public clause cites it, so nothing here needs believing.
use Rattle.std.specs.Prelude.{◌≡◌, ◌⊎◌, ℕ, ◌<◌, ◌≤◌, Bool, true, false, ◌||◌, List, [], ◌∷◌, ◌++◌, length, Option, Some, ◌==◌}
use Rattle.std.specs.Io.KnownBytes.{Appends}
use Rattle.bench_shell.specs.Lines.{Whole, lines_of}
use Rattle.bench_shell.specs.Store.{Store, edited_store}
use Rattle.bench_shell.specs.Text.{line_text}
use Rattle.bench_shell.specs.Output.{output, store_after, none_ok, lines_text, MayStop, StopsBy}
use Rattle.bench_shell.specs.Own.{edit_in, AreAsked, edited_by}
use Rattle.bench_shell.specs.declared.fault.RunFault.{RunFault}
use Rattle.project_book.specs.declared.edit.Edit.{Edit}
use Rattle.bench_shell.specs.declared.answer.Answer.{Answer}

-- some byte is LF
abbrev pub has_lf : List ℕ → Bool
has_lf [] = false
has_lf (b ∷ bs) = (b == 10) || has_lf bs

-- what is held of a line that has begun: all of it, or that it is too long
pub record Holds (is_long : Bool) (bytes line : List ℕ) : Type 0 where
  pub no_lf : has_lf line ≡ false
  pub short : is_long ≡ false → line ≡ bytes
  pub long : is_long ≡ true → 4096 < length line

-- the text ends where a line does
abbrev pub Splits : List ℕ → Type 0
Splits text = (more : List ℕ) → lines_of (text ++ more) ≡ lines_of text ++ lines_of more

-- the answer to a line that has ended, and the store after it
abbrev pub AnswersLine : Store → List ℕ → Answer → Store → Type 0
AnswersLine s line a t = (output s (line ++ 10 ∷ []) ≡ line_text a) × (t ≡ store_after s (line ++ 10 ∷ []))

-- the text is lines that were answered, and one that has begun and is held
pub record Reaches (s : Store) (text written : List ℕ) (t : Store) (is_long : Bool) (bytes : List ℕ) : Type 0 where
  pub before : List ℕ
  pub line : List ℕ
  pub is_text : text ≡ before ++ line
  pub splits : Splits before
  pub is_written : written ≡ output s before
  pub is_store : t ≡ store_after s before
  pub holds : Holds is_long bytes line

-- the run has stopped within the text, at the end of a line
pub record StopsWithin (spent : Type 0) (fault : RunFault) (s : Store) (text written : List ℕ) (t : Store) : Type 0 where
  pub before : List ℕ
  pub line : List ℕ
  pub rest : List ℕ
  pub part : List ℕ
  pub missing : List ℕ
  pub is_text : text ≡ before ++ (line ++ rest)
  pub splits : Splits before
  pub line_splits : Splits line
  pub one_line : length (lines_of line) ≤ 1
  pub is_written : written ≡ output s before ++ part
  pub answer : output (store_after s before) line ≡ part ++ missing
  pub is_store : t ≡ store_after (store_after s before) line
  pub why : StopsBy spent fault (store_after s before) line rest

-- from a line that is held, by more bytes, to another that is
abbrev pub Moves : Store → Bool → List ℕ → List ℕ → List ℕ → Store → Bool → List ℕ → Type 0
Moves s is_long bytes more written t is_long' bytes' =
    (line : List ℕ) → Holds is_long bytes line → Reaches s (line ++ more) written t is_long' bytes'

-- and the same, stopped within them
abbrev pub Fails : Type 0 → RunFault → Store → Bool → List ℕ → List ℕ → List ℕ → Store → Type 0
Fails spent fault s is_long bytes more written t = (line : List ℕ) → Holds is_long bytes line → StopsWithin spent fault s (line ++ more) written t

-- from a line that is held, by more bytes, where others may edit too: lines that were answered as by a desk alone (A: it was
-- alone at the start), then lines whose answers are no `ok ..`, and one that has begun and is held
pub record Goes (A : Type 0) (s : Store) (text written : List ℕ) (is_long : Bool) (bytes : List ℕ) : Type 0 where
  pub before : List ℕ
  pub rest : List ℕ
  pub line : List ℕ
  pub answers : List Answer
  pub is_text : text ≡ before ++ (rest ++ line)
  pub splits : Splits before
  pub rest_splits : Splits rest
  pub is_written : written ≡ output s before ++ lines_text answers
  pub no_ok : none_ok answers ≡ true
  pub one_each : length answers ≡ length (lines_of rest)
  pub holds : Holds is_long bytes line
  pub begun : (before ≡ []) ⊎ A

-- the writer gained what was written, whoever edits (A and B: the desk is alone at the start and at the end)
abbrev pub GoesOn : Option (List ℕ) → Option (List ℕ) → Type 0 → Type 0 → Store → Bool → List ℕ → List ℕ → Store → Bool → List ℕ → Type 0
GoesOn writer writer' A B s is_long bytes more t is_long' bytes' =
    (written : List ℕ) × Appends writer writer' written
    × ((line : List ℕ) → Holds is_long bytes line → Goes A s (line ++ more) written is_long' bytes')
    × (B → Moves s is_long bytes more written t is_long' bytes')

-- the same, stopped within a line
abbrev pub FailsOn : Type 0 → RunFault → Option (List ℕ) → Option (List ℕ) → Store → Bool → List ℕ → List ℕ → Store → Type 0
FailsOn spent fault writer writer' s is_long bytes more t =
    (written : List ℕ) × Appends writer writer' written × Fails spent fault s is_long bytes more written t

-- the store is as it was, or has the edit that the line asks for
abbrev pub EditsLine : Store → List ℕ → Store → Type 0
EditsLine s line t = (t ≡ s) ⊎ ((e : Edit) × (edit_in s.project.k (Whole line) ≡ Some e) × (t ≡ edited_store s e))

-- the store has the edits of some of the text's lines, in their order
pub record HasEdits (s : Store) (text : List ℕ) (t : Store) : Type 0 where
  pub edits : List Edit
  pub asked : AreAsked s.project.k (lines_of text) edits
  pub is_store : t ≡ edited_by s edits

-- where a text of several lines is read: those that have ended were looked at, and the rest may follow
pub record EditsWithin (s : Store) (text : List ℕ) (t : Store) : Type 0 where
  pub before : List ℕ
  pub rest : List ℕ
  pub is_text : text ≡ before ++ rest
  pub splits : Splits before
  pub edits : HasEdits s before t

-- from a line that is held, by more bytes, to another that is, whoever edits
abbrev pub EditsOn : Store → Bool → List ℕ → List ℕ → Store → Bool → List ℕ → Type 0
EditsOn s is_long bytes more t is_long' bytes' = (line : List ℕ) → Holds is_long bytes line → (m : EditsWithin s (line ++ more) t) × Holds is_long' bytes' m.rest

-- and the same, stopped within them
abbrev pub EditsIn : Store → Bool → List ℕ → List ℕ → Store → Type 0
EditsIn s is_long bytes more t = (line : List ℕ) → Holds is_long bytes line → EditsWithin s (line ++ more) t
