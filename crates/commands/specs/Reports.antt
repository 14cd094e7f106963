-- The words of counters and reports.
use Rattle.std.specs.Prelude.{ℕ, if◌then◌else◌, List, ◌∷◌, Option, None, Some, option_map, bytes_eq, codes}
use Rattle.omega_net.specs.declared.component.Net.{Net}
use Rattle.omega_net.specs.declared.component.Net.TheVariants.{Low as LowNet, Comb as CombNet}
use Rattle.monitor_sums.specs.Counts.{counter_named}
use Rattle.run_queries.specs.declared.query.Query.{Query}
use Rattle.run_queries.specs.declared.query.Query.TheVariants as query
use Rattle.commands.specs.Numbers.{both, one_number, two_numbers}
use Rattle.commands.specs.Components.{component_named}

-- `low` or `comb`
abbrev pub net_named : List ℕ → Option Net
net_named word = if bytes_eq word (codes "low") then Some LowNet else if bytes_eq word (codes "comb") then Some CombNet else None

-- `all`, or the component that a word names
abbrev pub who_named : ℕ → List ℕ → Option (Option ℕ)
who_named k word = if bytes_eq word (codes "all") then Some None else option_map Some (component_named k word)

-- `counter NAME WHO T0 T1`
abbrev pub counter_query : ℕ → List (List ℕ) → Option Query
counter_query k (name ∷ who ∷ words) = option_map (λ x. query.Counter x.0.0 x.0.1 x.1.0 x.1.1) (both (both (counter_named name) (who_named k who)) (two_numbers words))
counter_query k _ = None

-- a network and a number
abbrev pub in_net : List (List ℕ) → Option (Net × ℕ)
in_net (net ∷ words) = both (net_named net) (one_number words)
in_net _ = None

-- `level NET M T`
abbrev pub level_query : List (List ℕ) → Option Query
level_query (net ∷ words) = option_map (λ x. query.Level x.0 x.1.0 x.1.1) (both (net_named net) (two_numbers words))
level_query _ = None
