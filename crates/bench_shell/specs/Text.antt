-- The text of an answer line.
use Rattle.std.specs.Prelude.{ℕ, List, [], ◌∷◌, ◌++◌, Option, Some, codes, decimal}
use Rattle.std.specs.Option.{unwrap_or}
use Rattle.std.specs.Fmt.{◌++?◌}
use Rattle.run_queries.specs.Texts.{body_text}
use Rattle.bench_shell.specs.declared.answer.Answer.{Answer}
use Rattle.bench_shell.specs.declared.answer.Answer.TheVariants.{Accepted, Refused, Told, Bad, BadLine, BadCut, BadCommand}

abbrev pub text_of : Answer → Option (List ℕ)
text_of (Accepted v) = Some (codes "ok " ++ decimal v)
text_of (Refused n) = Some (codes "refused " ++ decimal n)
text_of (Told v b) = Some (codes "ok ") ++? Some (decimal v) ++? Some (codes " ") ++? body_text b
text_of (Bad n) = Some (codes "bad " ++ decimal n)
text_of BadLine = Some (codes "bad line")
text_of BadCut = Some (codes "bad cut")
text_of BadCommand = Some (codes "bad command")

-- with its LF
abbrev pub line_text : Answer → List ℕ
line_text a = unwrap_or (text_of a) [] ++ 10 ∷ []
