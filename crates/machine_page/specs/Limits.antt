-- How much a page shows.
use Rattle.std.specs.Prelude.{ℕ, ◌+◌, ◌-◌, ◌*◌}
use Rattle.omega_net.specs.Numbers.{components}

-- how many states of components at most
abbrev pub most_states : ℕ
most_states = 200000

-- how many the cycles from one to another have, on a machine of 2^k processors
abbrev pub states_in : ℕ → ℕ → ℕ → ℕ
states_in k from to = (to - from + 1) * components k
