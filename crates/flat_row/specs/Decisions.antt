-- What a stage decides in a cycle, label by label: which heads leave the queues on one side of it for those on the other.
use Rattle.std.specs.Prelude.{◌≡◌, ℕ, ◌<◌, ◌==◌, ◌&&◌, ◌||◌, Bool, Option}
use Rattle.omega_net.specs.declared.component.Net.{Net}
use Rattle.omega_net.specs.Wires.{bit}
use Rattle.omega_net.specs.Queues.{turn_after}
use Rattle.mem_module.specs.MemModule.{chosen, turn_from}
use Rattle.ref_proc.specs.RefProc.{net_for}
use Rattle.flat_row.specs.declared.decide.Heads.{Heads}
use Rattle.flat_row.specs.declared.decide.Room.{Room}
use Rattle.flat_row.specs.Labels.{port}
use Rattle.flat_row.specs.Masks.{has}

-- the port that the head at label x asks for
abbrev pub asks : Heads → ℕ → ℕ
asks heads x = bit x heads.ones

-- whether the queue at label y takes a message from port i: it has room for two, or for one at its turn
abbrev pub takes_from : Room → ℕ → ℕ → ℕ → Bool
takes_from room turn i y = has room.two y || (has room.one y && (bit y turn == i))

-- whether the head of port i comes to the queue at label y, where the stage decides by bit b
abbrev pub comes : ℕ → Heads → Room → ℕ → ℕ → ℕ → Bool
comes b heads room turn i y = has heads.any (port b i y) && (asks heads (port b i y) == bit b y) && takes_from room turn i y

-- whether the head at label x leaves: the queue that it asks for takes it
abbrev pub leaves : ℕ → Heads → Room → ℕ → ℕ → Bool
leaves b heads room turn x = has heads.any x && takes_from room turn (bit b x) (port b (asks heads x) x)

-- the turns one cycle later, by the marks of what came from port 0 and from port 1
abbrev pub TurnsAfter : ℕ → (ℕ → Bool) → (ℕ → Bool) → ℕ → Type 0
TurnsAfter turn from_0 from_1 next = (y : ℕ) → y < 64 → bit y next ≡ turn_after (bit y turn) (from_0 y) (from_1 y)

-- whether a switch, which has label x, takes a message from side i, where what comes may go to both of its queues: both have room
abbrev pub takes_both : ℕ → Room → ℕ → ℕ → ℕ → Bool
takes_both b room turn i x =
    (has room.two (port b 0 x) && has room.two (port b 1 x))
    || ((has room.one (port b 0 x) && has room.one (port b 1 x)) && (bit (port b 0 x) turn == i))

-- whether the head at label x leaves for such a switch, and whether the head of side i comes to the one that has label x
abbrev pub leaves_both : ℕ → ℕ → Room → ℕ → ℕ → Bool
leaves_both b any room turn x = has any x && takes_both b room turn (bit b x) x

abbrev pub comes_both : ℕ → ℕ → Room → ℕ → ℕ → ℕ → Bool
comes_both b any room turn i x = (bit b x == 0) && (has any (port b i x) && takes_both b room turn i x)

-- what a module serves, where the networks that it can serve, and the turns of the combining one, are sets of labels
abbrev pub served_at : ℕ → ℕ → ℕ → ℕ → Option Net
served_at low comb turn x = chosen (has low x) (has comb x) (net_for (has turn x))

-- the turns of the modules one cycle later
abbrev pub NetsAfter : ℕ → ℕ → ℕ → ℕ → Type 0
NetsAfter low comb turn next = (x : ℕ) → x < 64 → net_for (has next x) ≡ turn_from (net_for (has turn x)) (served_at low comb turn x)
