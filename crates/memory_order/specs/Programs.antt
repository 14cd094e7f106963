-- Program order and sequential consistency: the result is as if the references of all processors were done one after another in some
-- order, in which those of each processor stand in the order of its program (Lamport 1979, "How to make a multiprocessor computer that
-- correctly executes multiprocess programs").
use Rattle.std.specs.Prelude.{◌≡◌, ◌<◌, List}
use Rattle.omega_net.specs.declared.message.Tag.{Tag}
use Rattle.project_book.specs.Project.{Project}
use Rattle.serial_order.specs.References.{Reference, WasIssued, In}
use Rattle.serial_order.specs.RealTime.{Before, Precedes}
use Rattle.memory_order.specs.Linearizable.{Linearizes}

-- program order: one processor issued g, and in a later cycle h
pub record InProgram (P : Project) (g h : Reference) : Type 0 where
  pub first : WasIssued P g
  pub second : WasIssued P h
  pub one_processor : first.proc ≡ second.proc
  pub before : first.cycle < second.cycle

-- a list of tags keeps the order of the programs: what was issued before a reference in it, by the same processor, stands before it
abbrev pub KeepsPrograms : Project → List Tag → Type 0
KeepsPrograms P L = (g h : Reference) → InProgram P g h → In h.request.tag L → Before g.request.tag h.request.tag L

-- the run is sequentially consistent by this list: it is one order of all references, and keeps the order of the programs
pub record IsSequential (P : Project) (L : List Tag) : Type 0 where
  pub order : Linearizes P L
  pub programs : KeepsPrograms P L

-- each processor has the reply to what it issued by when it issues the next
abbrev pub OneAtATime : Project → Type 0
OneAtATime P = (g h : Reference) → InProgram P g h → Precedes P g h
