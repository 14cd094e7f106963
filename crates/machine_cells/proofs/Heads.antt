-- What goes over a wire is the head that its sender shows there.
use Rattle.std.proofs.Common.{◌≡◌, ◌<◌, ◌≤◌, ◌^◌, Bool, true, false, cond, List, sym, refl, ◌∙◌, Option, None, Some}
use Rattle.omega_net.specs.declared.wire.Wire.{Wire}
use Rattle.omega_net.specs.declared.message.Request.{Request}
use Rattle.omega_net.specs.declared.message.Reply.{Reply}
use Rattle.machine_cells.specs.declared.state.MachineState.{MachineState}
use Rattle.project_book.specs.Project.{Project}
use Rattle.machine_cells.specs.Moves.{moves, moved_request, moved_reply, request_between, reply_between, at_ends, if_taken, takes_request, takes_reply, request_on, reply_on, upper_state, lower_state}
use Rattle.machine_cells.proofs.Parts.{request_moved, reply_moved}

taken_is : {T : Type 0} (takes : T → Bool) (o : Option T) (m : T) → if_taken takes o ≡ Some m → o ≡ Some m
taken_is takes None m e = cc
taken_is takes (Some q) m e = by_test (takes q) e
  where
    by_test : (b : Bool) → cond b (Some q) None ≡ Some m → Some q ≡ Some m
    by_test true e = e
    by_test false e = cc

upper_shows : (P : Project) (w : Wire) (u l : Option MachineState) (r : Request) → at_ends (request_between P w) u l ≡ Some r
    → (s : MachineState) × (u ≡ Some s) × (request_on w s ≡ Some r)
upper_shows P w (Some s) (Some t) r e = (s, refl, taken_is (λ q. takes_request P w q t) (request_on w s) r e)
upper_shows P w (Some s) None r e = cc
upper_shows P w None l r e = cc

lower_shows : (P : Project) (w : Wire) (u l : Option MachineState) (y : Reply) → at_ends (reply_between P w) u l ≡ Some y
    → (s : MachineState) × (l ≡ Some s) × (reply_on P.k w s ≡ Some y)
lower_shows P w (Some t) (Some s) y e = (s, refl, taken_is (λ q. takes_reply P w q t) (reply_on P.k w s) y e)
lower_shows P w (Some t) None y e = cc
lower_shows P w None l y e = cc

-- the request that moves over a wire, at its end towards the processors
pub moved_shows : (P : Project) (S : List MachineState) (w : Wire) (r : Request) → w.stage ≤ P.k → w.line < 2 ^ P.k → moved_request (moves P S) w ≡ Some r
    → (s : MachineState) × (upper_state P S w ≡ Some s) × (request_on w s ≡ Some r)
moved_shows P S w r a b e = upper_shows P w (upper_state P S w) (lower_state P S w) r (sym (request_moved P S w a b) ∙ e)

-- the reply that moves over a wire, at its end towards the modules
pub moved_back_shows : (P : Project) (S : List MachineState) (w : Wire) (y : Reply) → w.stage ≤ P.k → w.line < 2 ^ P.k → moved_reply (moves P S) w ≡ Some y
    → (s : MachineState) × (lower_state P S w ≡ Some s) × (reply_on P.k w s ≡ Some y)
moved_back_shows P S w y a b e = lower_shows P w (upper_state P S w) (lower_state P S w) y (sym (reply_moved P S w a b) ∙ e)
