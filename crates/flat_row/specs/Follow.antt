-- A row under another project: the same queues, which are asked by other rules.
use Rattle.std.specs.Prelude.{◌≡◌, ℕ, ◌<◌, List, length}
use Rattle.omega_net.specs.declared.component.Net.{Net}
use Rattle.project_book.specs.Project.{Project}
use Rattle.flat_row.specs.declared.marks.Rule.{Rule}
use Rattle.flat_row.specs.Queues.{Queues}
use Rattle.flat_row.specs.Row.{Network, level_at, reply_rule, request_rule}

-- levels of the same queues, each asked by the rule of its number
pub record Follows {T : Type 0} (rule : ℕ → Rule) (old new : List (Queues T)) : Type 0 where
  pub many : length new ≡ length old
  pub each : (l : ℕ) → l < length old → level_at new l ≡ record (level_at old l) { rule = rule l }

-- the same network, where levels ask what the machine of a project asks
pub record NetworkFollows (P : Project) (net : Net) (old new : Network) : Type 0 where
  pub requests : Follows (request_rule P net) old.requests new.requests
  pub replies : Follows (reply_rule P net) old.replies new.replies
  pub turns : new.turns ≡ old.turns
  pub back_turns : new.back_turns ≡ old.back_turns
