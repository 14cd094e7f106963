-- Scripts that are drawn from a seed: references of which a share is hot, offered at a rate.
use Rattle.std.specs.Prelude.{ℕ, zero, suc, ◌+◌, ◌*◌, ◌<◌, ◌≤◌, ◌%◌, ◌==◌, nat_lt, if◌then◌else◌, List, [], ◌∷◌, ◌++◌}
use Rattle.rand_pcg.specs.Lcg.{Lcg, started, increment_of}
use Rattle.rand_pcg.specs.Pcg.{multiplier_64, pcg32}
use Rattle.word_ops.specs.declared.kind.Kind.TheVariants.{Load, Add}
use Rattle.omega_net.specs.declared.script.ScriptEntry.{ScriptEntry}
use Rattle.omega_net.specs.declared.script.ScriptEntry.TheVariants.{Reference, Idle}
use Rattle.page_map.specs.Limits.{address_count, page_count, page_words}
use Rattle.project_book.specs.Limits.{max_times, script_entries}
use Rattle.drawn_scripts.specs.declared.mix.Mix.{Mix}
use Rattle.drawn_scripts.specs.declared.draw.Draw.{Draw}

-- the word and the page are there
pub record IsMix (m : Mix) : Type 0 where
  pub addressed : m.word < address_count
  pub paged : m.page < page_count

-- the reference that two numbers make: where the first is one of the `hot` of a hundred it adds 1 to the hot word, else it loads a
-- word of the page
abbrev pub reference : Mix → ℕ → ℕ → ScriptEntry
reference m first second =
    if nat_lt (first % 100) m.hot
    then Reference m.sync (record { kind = Add; operand = 1 }) m.word 1
    else Reference m.sync (record { kind = Load; operand = 0 }) (m.page * page_words + second % page_words) 1

-- the one that the next two numbers of a generator make, and the generator behind them
abbrev pub next_reference : Mix → Lcg → ScriptEntry
next_reference m g = reference m (pcg32 g).0 (pcg32 (pcg32 g).1).0

abbrev pub later : Lcg → Lcg
later g = (pcg32 (pcg32 g).1).1

-- n references
unfoldable pub next_references : Mix → ℕ → Lcg → List ScriptEntry
next_references m zero g = []
next_references m (suc n) g = next_reference m g ∷ next_references m n (later g)

-- how many cycles pass before one in which a reference is offered, each told by the next number of a generator, so many at most; and the
-- generator behind them
abbrev pub longer : ℕ × Lcg → ℕ × Lcg
longer x = (suc x.0, x.1)

unfoldable pub gap : ℕ → ℕ → Lcg → ℕ × Lcg
gap rate zero g = (0, g)
gap rate (suc most) g = if nat_lt ((pcg32 g).0 % 100) rate then (0, (pcg32 g).1) else longer (gap rate most (pcg32 g).1)

-- an idle of so many turns, where there are some
abbrev pub idle : ℕ → List ScriptEntry
idle turns = if turns == 0 then [] else Idle turns ∷ []

-- n references by one generator, each behind the cycles in which none is offered by another one
unfoldable pub next_offered : Mix → ℕ → ℕ → Lcg → Lcg → List ScriptEntry
next_offered m rate zero g offers = []
next_offered m rate (suc n) g offers =
    idle (gap rate max_times offers).0 ++ next_reference m g ∷ next_offered m rate n (later g) (gap rate max_times offers).1

-- THE SCRIPT OF A PROCESSOR: its references by the stream of its number, offered by a stream 64 behind that
abbrev pub stream : ℕ → ℕ → Lcg
stream seed number = started 64 multiplier_64 seed (increment_of 64 number)

abbrev pub script_drawn : Draw → ℕ → List ScriptEntry
script_drawn d p = next_offered d.mix d.rate d.references (stream d.seed p) (stream d.seed (64 + p))

-- a script has room for it
pub record IsDraw (d : Draw) : Type 0 where
  pub mix : IsMix d.mix
  pub few : 2 * d.references ≤ script_entries
