-- The limits of a project, beside those of its page map.
use Rattle.std.specs.Prelude.{ℕ}

-- the last cycle that a horizon may name, and that of a project of the usual scale
abbrev pub max_horizon : ℕ
max_horizon = 20000

abbrev pub usual_horizon : ℕ
usual_horizon = 2000

-- how many entries a script may have, and those of a project of the usual scale
abbrev pub script_entries : ℕ
script_entries = 4096

abbrev pub usual_entries : ℕ
usual_entries = 256

-- how often a reference may be issued, and how long an idle may last, each from 1 on
abbrev pub max_times : ℕ
max_times = 1000

-- how often an entry that waits for a word is issued at most, where its text doesn't say
abbrev pub usual_tries : ℕ
usual_tries = 1000

-- how many references of a processor may be unanswered at once, from 1 on
abbrev pub max_window : ℕ
max_window = 8

-- how many places a queue has at least, and a reverse queue of a combining switch, and a wait buffer
abbrev pub min_depth : ℕ
min_depth = 2

abbrev pub min_comb_reverse : ℕ
min_comb_reverse = 4

abbrev pub min_wait : ℕ
min_wait = 1

-- how many places each of these has at most
abbrev pub max_depth : ℕ
max_depth = 16

-- how many edits a bench accepts
abbrev pub max_edits : ℕ
max_edits = 65535
