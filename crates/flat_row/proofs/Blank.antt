-- Queues and wait buffers beside a row, in which nothing waits.
use Rattle.std.proofs.Common.{◌≡◌, List, replicate, ap, sym, ◌∙◌, subst}
use Rattle.std.proofs.lemmas.List.{length-replicate}
use Rattle.arrayvec.specs.ArrayVec.{ArrayVec}
use Rattle.omega_net.specs.declared.message.Request.{Request}
use Rattle.omega_net.specs.declared.message.Reply.{Reply}
use Rattle.omega_net.specs.Ports.{empty}
use Rattle.comb_switch.specs.declared.waiting.Waiting.{Waiting}
use Rattle.flat_row.specs.declared.marks.Rule.{Rule}
use Rattle.flat_row.specs.Queues.{Queues}
use Rattle.flat_row.specs.Next.{Aside, HasAll, nothing_aside, plain_rule}

abbrev blank : {T : Type 0} → Rule → Queues T
blank rule = record { queues = replicate 64 empty; rule = rule }

abbrev made : Queues Request → Queues Reply → List (ArrayVec Waiting) → Aside
made requests replies entries = record { requests = requests; replies = replies; waits = record { entries = entries; once = 0; twice = 0 } }

pub nothing_waits : (requests : Queues Request) (replies : Queues Reply) (entries : List (ArrayVec Waiting)) (r s : Rule) → r ≡ plain_rule → s ≡ plain_rule
    → requests ≡ blank r → replies ≡ blank s → entries ≡ replicate 64 empty → made requests replies entries ≡ nothing_aside
nothing_waits requests replies entries r s r_is s_is requests_are replies_are entries_are =
    ap (λ q. made q replies entries) (requests_are ∙ ap (λ (r : Rule). blank {T = Request} r) r_is)
    ∙ ap (λ q. made (blank plain_rule) q entries) (replies_are ∙ ap (λ (r : Rule). blank {T = Reply} r) s_is)
    ∙ ap (made (blank plain_rule) (blank plain_rule)) entries_are

all_there : HasAll nothing_aside
all_there = record {
  requests = length-replicate 64 (empty {T = Request});
  replies = length-replicate 64 (empty {T = Reply});
  entries = length-replicate 64 (empty {T = Waiting});
}

pub blank_has_all : (requests : Queues Request) (replies : Queues Reply) (entries : List (ArrayVec Waiting)) (r s : Rule) → r ≡ plain_rule → s ≡ plain_rule
    → requests ≡ blank r → replies ≡ blank s → entries ≡ replicate 64 empty → HasAll (made requests replies entries)
blank_has_all requests replies entries r s r_is s_is requests_are replies_are entries_are =
    subst HasAll (sym (nothing_waits requests replies entries r s r_is s_is requests_are replies_are entries_are)) all_there
