-- What is given stands whatever is told beside it.
use Rattle.std.proofs.Common.{List, ℕ, Option, None, Some}
use Rattle.omega_net.specs.declared.component.Net.{Net}
use Rattle.lab_tasks.specs.declared.outcome.Outcome.{Outcome}
use Rattle.lab_tasks.specs.Outcomes.{IsGiven}

pub given_beside : (name : Option (List ℕ)) (bytes : List ℕ) (o : Outcome) (e : Option Net) → IsGiven name bytes o → IsGiven name bytes (record o { elsewhere = e })
given_beside None bytes o e h = h
given_beside (Some name) bytes o e h = h
