-- A query: the reasons against it that its numbers alone give, how far its answer looks, and the numbers of that.
use Rattle.std.specs.Prelude.{ℕ, Bool, true, ◌+◌, ◌==◌, nat_le, nat_lt, ◌&&◌, is_some, if◌then◌else◌, Option, None, Some, List, [], ◌++◌, codes, decimal}
use Rattle.page_map.specs.Limits.{address_count}
use Rattle.omega_net.specs.Numbers.{lines, components}
use Rattle.saturation.specs.Bound.{bound}
use Rattle.project_book.specs.Project.{Project}
use Rattle.run_queries.specs.declared.query.Query.{Query}
use Rattle.run_queries.specs.declared.query.Query.TheVariants.{Reply, State, Memory, Counter, Profile, Tree, Level, Bound, Place, Order}
use Rattle.run_queries.specs.declared.query.Reach.{Reach}
use Rattle.run_queries.specs.declared.query.Reach.TheVariants as reached

-- all components, or one that is there
abbrev pub is_who : ℕ → Option ℕ → Bool
is_who k None = true
is_who k (Some c) = nat_lt c (components k)

-- both cycles are up to the horizon, else 2; the first isn't after the second, else 5
abbrev pub bad_window : ℕ → ℕ → ℕ → Option ℕ
bad_window horizon from to = if nat_le from horizon && nat_le to horizon then (if nat_le from to then None else Some 5) else Some 2

-- the first reason: 1 no such component, network stage, processor or module, 2 a cycle past the horizon, 3 no such
-- address, 5 an empty window, 6 no such fraction
abbrev pub bad_query : Project → Query → Option ℕ
bad_query P (Reply p n) = if nat_lt p (lines P.k) then None else Some 1
bad_query P (State c t) = if nat_lt c (components P.k) then (if nat_le t P.horizon then None else Some 2) else Some 1
bad_query P (Memory a t) = if nat_le t P.horizon then (if nat_lt a address_count then None else Some 3) else Some 2
bad_query P (Counter counter who from to) = if is_who P.k who then bad_window P.horizon from to else Some 1
bad_query P (Profile net s) = if nat_lt s P.k then None else Some 1
bad_query P (Tree net m) = if nat_lt m (lines P.k) then None else Some 1
bad_query P (Level net m t) = if nat_lt m (lines P.k) then (if nat_le t P.horizon then None else Some 2) else Some 1
bad_query P (Bound a b p) = if is_some (bound a b p) then None else Some 6
bad_query P (Place a) = if nat_lt a address_count then None else Some 3
bad_query P (Order a) = if nat_lt a address_count then None else Some 3

-- the cells that the answer to a query looks at: that of the component or of the word's module for a state or a word; those up to
-- its last cycle for a counter or a level; all of the run for a reply, a profile, a tree or an order; none for what doesn't look at
-- the run
abbrev pub reach : Project → Query → Reach
reach P (Reply p n) = reached.To P.horizon
reach P (State c t) = reached.State c t
reach P (Memory a t) = reached.Word a t
reach P (Counter counter who from to) = reached.To to
reach P (Profile net s) = reached.To P.horizon
reach P (Tree net m) = reached.To P.horizon
reach P (Level net m t) = reached.To t
reach P (Bound a b p) = reached.Nothing
reach P (Place a) = reached.Nothing
reach P (Order a) = reached.To P.horizon

-- the last cycle of these cells, where there are any
abbrev pub last_of : Reach → Option ℕ
last_of reached.Nothing = None
last_of (reached.State c t) = Some t
last_of (reached.Word a t) = Some t
last_of (reached.To t) = Some t

-- how many numbers the answer has; a state and an order are texts, and count as one
abbrev pub numbers_of : ℕ → Query → ℕ
numbers_of k (Reply p n) = 2
numbers_of k (State c t) = 1
numbers_of k (Memory a t) = 1
numbers_of k (Counter counter who from to) = 1
numbers_of k (Profile net s) = 17
numbers_of k (Tree net m) = k
numbers_of k (Level net m t) = 1
numbers_of k (Bound a b p) = 2
numbers_of k (Place a) = 2
numbers_of k (Order a) = 1

-- what tells the number at a place from the others: nothing where there is one alone
abbrev pub number_name : Query → ℕ → List ℕ
number_name (Reply p n) i = if i == 0 then codes " cycle" else codes " word"
number_name (State c t) i = []
number_name (Memory a t) i = []
number_name (Counter counter who from to) i = []
number_name (Profile net s) i = codes " length " ++ decimal i
number_name (Tree net m) i = codes " level " ++ decimal (i + 1)
number_name (Level net m t) i = []
number_name (Bound a b p) i = if i == 0 then codes " numerator" else codes " denominator"
number_name (Place a) i = if i == 0 then codes " module" else codes " row"
number_name (Order a) i = []
