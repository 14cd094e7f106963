-- Lemmas on reasons behind answers, and on texts that print.
use Rattle.std.proofs.Common.{◌≡◌, ℕ, List, [], ◌∷◌, ◌++◌, refl, sym, ap, ◌∙◌}
use Rattle.std.specs.Prelude.{Option, None, Some, IfSome, codes}
use Rattle.std.specs.Option.{unwrap_or}
use Rattle.std.specs.Fmt.{◌++?◌}
use Rattle.bench_shell.specs.declared.answer.Answer.{Answer}
use Rattle.bench_shell.specs.declared.answer.Answer.TheVariants.{BadCommand}
use Rattle.run_queries.proofs.Printing.{Shows, both}
use Rattle.lab_shell.specs.Reasons.{behind, reason_of}
use Rattle.lab_shell.specs.Json.{answer_object, quoted, refusal}

pub behind_shows : (text : Option (List ℕ)) (reason : List ℕ) → Shows text → Shows (behind text reason)
behind_shows text [] shows = shows
behind_shows text (b ∷ bs) shows = both text (Some (codes ": " ++ b ∷ bs)) shows (codes ": " ++ b ∷ bs, refl)

-- the bytes that are written of a text
pub written : (o : Option (List ℕ)) (bytes : List ℕ) → Shows o → IfSome o (λ bs. bytes ≡ bs) → bytes ≡ unwrap_or o []
written (Some t) bytes p h = h
written None bytes p h = let e = p.1 in cc

pub no_command : (a : Answer) (why : List ℕ) → a ≡ BadCommand → why ≡ reason_of a → refusal (codes "bad") (quoted (codes "command")) why ≡ answer_object a
no_command a why is reason = ap (refusal (codes "bad") (quoted (codes "command"))) (reason ∙ ap reason_of is) ∙ sym (ap answer_object is)
