-- Offered loads: scripts in which a share of the cycles offers a reference.
use Rattle.std.specs.Prelude.{ℕ, ◌+◌, ◌%◌, ◌^◌, nat_lt, if◌then◌else◌, List, [], ◌∷◌, map}
use Rattle.rand_pcg.specs.Lcg.{Lcg}
use Rattle.rand_pcg.specs.Pcg.{pcg32}
use Rattle.drawn_scripts.specs.Draws.{stream}
use Rattle.omega_net.specs.declared.script.ScriptEntry.{ScriptEntry}
use Rattle.omega_net.specs.declared.script.ScriptEntry.TheVariants.{Idle}
use Rattle.omega_net.specs.Wires.{below}
use Rattle.project_book.specs.Project.{Project}
use Rattle.experiments.specs.declared.offer.Offer.{Offer}
use Rattle.experiments.specs.Loads.{loaded, script_drawn}

-- what a number makes of a reference: `rate` of a hundred offer it, the others nothing, which is an idle of one turn
abbrev pub offered : ℕ → ℕ → ScriptEntry → ScriptEntry
offered rate number reference = if nat_lt (number % 100) rate then reference else Idle 1

-- so for each of some references, by the next number of a generator
unfoldable pub next_offered : ℕ → Lcg → List ScriptEntry → List ScriptEntry
next_offered rate g [] = []
next_offered rate g (reference ∷ others) = offered rate (pcg32 g).0 reference ∷ next_offered rate (pcg32 g).1 others

-- a processor's script: that of the load, of which each reference is offered or not by a stream of its own, 64 behind that of the references
abbrev pub script_offered : Offer → ℕ → List ScriptEntry
script_offered o p =
    next_offered o.rate (stream o.load.seed (64 + p)) (script_drawn o.load p)

-- THE PROJECT OF AN OFFERED LOAD: that of the load, but for the scripts
abbrev pub project_offered : Offer → Project
project_offered o = record (loaded o.load) { scripts = map (script_offered o) (below (2 ^ o.load.k)) }
