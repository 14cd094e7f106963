-- The room of a queue.
use Rattle.std.specs.Prelude.{ℕ}

-- how many messages a queue can hold; each queue of a machine has a depth, which is no greater
abbrev pub queue_places : ℕ
queue_places = 16
