-- Every answer prints.
use Rattle.std.proofs.Common.{◌≡◌, ℕ, List, [], ◌∷◌, ◌++◌}
use Rattle.std.specs.Prelude.{Option, Some, None, IfSome, codes, decimal}
use Rattle.std.specs.Option.{unwrap_or}
use Rattle.std.specs.Fmt.{◌++?◌}
use Rattle.run_queries.proofs.Printing.{Shows, some, after, body_shows}
use Rattle.bench_shell.specs.declared.answer.Answer.{Answer}
use Rattle.bench_shell.specs.declared.answer.Answer.TheVariants.{Accepted, Refused, Told, Bad, BadLine, BadCut, BadCommand}
use Rattle.bench_shell.specs.Text.{text_of}

pub answer_shows : (a : Answer) → Shows (text_of a)
answer_shows (Accepted v) = some _
answer_shows (Refused n) = some _
answer_shows (Told v b) = after (codes "ok ") _ (after (decimal v) _ (after (codes " ") _ (body_shows b)))
answer_shows (Bad n) = some _
answer_shows BadLine = some _
answer_shows BadCut = some _
answer_shows BadCommand = some _

-- the bytes that are written of a text with its LF
pub with_lf : (o : Option (List ℕ)) (bytes : List ℕ) → Shows o → IfSome (o ++? Some (10 ∷ [])) (λ bs. bytes ≡ bs) → bytes ≡ unwrap_or o [] ++ 10 ∷ []
with_lf (Some t) bytes p h = h
with_lf None bytes p h = let e = p.1 in cc
