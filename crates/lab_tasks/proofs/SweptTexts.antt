-- The text of a sweep, of depths alone or of depths and edits.
use Rattle.std.proofs.Common.{◌≡◌, ℕ, ◌<◌, List, [], ◌∷◌, Bor, length, refl, sym, subst, inl, inr, arith}
use Rattle.std.specs.Prelude.{Result, Ok, Err, IfOk, IfErr}
use Rattle.std.proofs.lemmas.List.{length-map}
use Rattle.project_book.specs.Project.{Project}
use Rattle.lab_tasks.specs.declared.end.End.{End}
use Rattle.lab_tasks.specs.declared.words.SweepWords.{SweepWords}
use Rattle.lab_tasks.specs.Words.{text_of, texts_of}
use Rattle.lab_tasks.specs.Done.{IsSweptTable, IsSweepTable, IsNoSwept, IsNoPlotted, IsNoSweep, IsNoSweepOrPlot, IsNoSweepText, IsNoSweepTable, has_numbers}
use Rattle.lab_tasks.specs.SetUps.{IsSetUp}
use Rattle.lab_tasks.specs.SweepTables.{IsTable, IsNoTable, OrMemory, OrStop}
use Rattle.lab_tasks.specs.EditSweeps.{IsEditTable, IsNoEditTable}
use Rattle.lab_tasks.proofs.Stops.{or_stop_by, or_stop_memory}

pub none_of : (words : List (Bor (List ℕ))) → length words ≡ 0 → texts_of words ≡ []
none_of [] none = refl
none_of (word ∷ words) none = absurd (omega (arith, none))

pub some_of : (words : List (Bor (List ℕ))) → 0 < length words → 0 < length (texts_of words)
some_of words some = subst (λ n. 0 < n) (sym (length-map words (λ (word : Bor (List ℕ)). word.now))) some

module _ {T : Type 0} (view : T → List (List (List ℕ))) (words : SweepWords) (P Q : Project) where
  pub swept-plain : (r : Result T End) → IsSetUp P (texts_of words.setups.items) Q → texts_of words.edits.items ≡ []
      → IfOk r (λ table. IsTable Q (has_numbers words) (texts_of words.depths.items) (texts_of words.asks.items) (view table)) → IfOk r (λ table. IsSweepTable words P (view table))
  swept-plain (Err e) set none h = tt
  swept-plain (Ok table) set none h = (Q, set, subst (λ (es : List (List ℕ)). IsSweptTable words es Q (view table)) (sym none) h)

  edits-table : (edits : List (List ℕ)) (table : T) → 0 < length edits
      → IsEditTable Q (has_numbers words) words.zip (texts_of words.depths.items) edits (texts_of words.asks.items) (view table) → IsSweptTable words edits Q (view table)
  edits-table [] table some h = absurd (omega arith)
  edits-table (edit ∷ edits) table some h = h

  pub swept-edits : (r : Result T End) → IsSetUp P (texts_of words.setups.items) Q → 0 < length (texts_of words.edits.items)
      → IfOk r (λ table. IsEditTable Q (has_numbers words) words.zip (texts_of words.depths.items) (texts_of words.edits.items) (texts_of words.asks.items) (view table))
      → IfOk r (λ table. IsSweepTable words P (view table))
  swept-edits (Err e) set some h = tt
  swept-edits (Ok table) set some h = (Q, set, edits-table (texts_of words.edits.items) table some h)

  pub unswept-plain : (r : Result T End) → IsSetUp P (texts_of words.setups.items) Q → texts_of words.edits.items ≡ []
      → IfErr r (OrStop (IsNoTable Q (texts_of words.depths.items) (texts_of words.asks.items))) → IfErr r (λ end. IsNoSweepTable words end P)
  unswept-plain (Ok text) set none h = tt
  unswept-plain (Err e) set none h =
      or_stop_by (IsNoTable Q (texts_of words.depths.items) (texts_of words.asks.items)) (IsNoSweepText words P) e
      (λ refused. inr (Q, set, subst (λ (es : List (List ℕ)). IsNoSwept words es Q e) (sym none) refused)) h

  edits-end : (edits : List (List ℕ)) (e : End) → 0 < length edits
      → IsNoEditTable Q words.zip (texts_of words.depths.items) edits (texts_of words.asks.items) e → IsNoSwept words edits Q e
  edits-end [] e some h = absurd (omega arith)
  edits-end (edit ∷ edits) e some h = h

  pub unswept-edits : (r : Result T End) → IsSetUp P (texts_of words.setups.items) Q → 0 < length (texts_of words.edits.items)
      → IfErr r (OrStop (IsNoEditTable Q words.zip (texts_of words.depths.items) (texts_of words.edits.items) (texts_of words.asks.items))) → IfErr r (λ end. IsNoSweepTable words end P)
  unswept-edits (Ok text) set some h = tt
  unswept-edits (Err e) set some h =
      or_stop_by (IsNoEditTable Q words.zip (texts_of words.depths.items) (texts_of words.edits.items) (texts_of words.asks.items)) (IsNoSweepText words P) e
      (λ refused. inr (Q, set, edits-end (texts_of words.edits.items) e some refused)) h

-- why there is no sweep: no table, or behind the table no picture
pub not_swept : (words : SweepWords) (P : Project) (e : End) → IsNoSweepTable words e P → IsNoSweep words e P
not_swept words P e h = or_stop_by (IsNoSweepText words P) (IsNoSweepOrPlot words P) e (λ refused. inl refused) h

pub not_plotted : (words : SweepWords) (P : Project) (table : List (List (List ℕ))) (e : End) → IsSweepTable words P table
    → OrMemory (IsNoPlotted words (text_of words.plot) table) e → IsNoSweep words e P
not_plotted words P table e made h =
    or_stop_memory (IsNoPlotted words (text_of words.plot) table) (IsNoSweepOrPlot words P) e (λ refused. inr (table, made, refused)) h
