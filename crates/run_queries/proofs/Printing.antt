-- Every answer has a text.
use Rattle.std.proofs.Common.{◌≡◌, ℕ, List, [], ◌∷◌, ◌++◌, refl}
use Rattle.std.specs.Prelude.{Option, Some, None, codes}
use Rattle.std.specs.Fmt.{◌++?◌}
use Rattle.omega_net.specs.Texts.{later_items_text, listed_text, request_text, reply_text}
use Rattle.omega_net.specs.Ports.{queue_at}
use Rattle.low_switch.specs.declared.state.LowState.{LowState}
use Rattle.low_switch.specs.Texts.{low_text, low_forward_text, low_reverse_text}
use Rattle.comb_switch.specs.declared.state.CombState.{CombState}
use Rattle.comb_switch.specs.Texts.{comb_text, comb_forward_text, comb_reverse_text, waiting_text as entry_text}
use Rattle.mem_module.specs.declared.state.ModuleState.{ModuleState}
use Rattle.mem_module.specs.Texts.{module_text, waiting_text, stored_text, turn_text, flag_text}
use Rattle.machine_cells.specs.declared.state.MachineState.{MachineState}
use Rattle.machine_cells.specs.declared.state.MachineState.TheVariants.{Proc, Module, Low, Comb}
use Rattle.machine_cells.specs.Texts.{state_text}
use Rattle.run_queries.specs.declared.body.Body.{Body}
use Rattle.run_queries.specs.declared.body.Body.TheVariants as body
use Rattle.run_queries.specs.Texts.{body_text}

abbrev pub Shows : Option (List ℕ) → Type 0
Shows o = (t : List ℕ) × (o ≡ Some t)

pub some : (t : List ℕ) → Shows (Some t)
some t = (t, refl)

-- two texts in a row
pub both : (a b : Option (List ℕ)) → Shows a → Shows b → Shows (a ++? b)
both (Some x) (Some y) p q = (x ++ y, refl)
both (Some x) None p q = let e = q.1 in cc
both None b p q = let e = p.1 in cc

-- a text, and then more
pub after : (t : List ℕ) (b : Option (List ℕ)) → Shows b → Shows (Some t ++? b)
after t b q = both (Some t) b (some t) q

later : {T : Type 0} (g : T → List ℕ) (xs : List T) → Shows (later_items_text (λ x. Some (g x)) xs)
later g [] = some []
later g (x ∷ xs) =
    after (codes ",") (Some (g x) ++? later_items_text (λ y. Some (g y)) xs)
    (after (g x) (later_items_text (λ y. Some (g y)) xs) (later g xs))

listed : {T : Type 0} (g : T → List ℕ) (xs : List T) → Shows (listed_text (λ x. Some (g x)) xs)
listed g [] = some (codes "[]")
listed g (x ∷ xs) =
    let rest : Option (List ℕ) = later_items_text (λ y. Some (g y)) xs ++? Some (codes "]") in
    after (codes "[") (Some (g x) ++? rest) (after (g x) rest (both (later_items_text (λ y. Some (g y)) xs) (Some (codes "]")) (later g xs) (some (codes "]"))))

-- a list, and then more
then : {T : Type 0} (g : T → List ℕ) (xs : List T) (b : Option (List ℕ)) → Shows b → Shows (listed_text (λ x. Some (g x)) xs ++? b)
then g xs b q = both (listed_text (λ x. Some (g x)) xs) b (listed g xs) q

low_shows : (s : LowState) → Shows (low_text s)
low_shows s = both (low_forward_text s) (low_reverse_text s)
    (after (codes "low f0 ") _ (then request_text (queue_at s.fwd 0).items _ (after (codes " f1 ") _ (then request_text (queue_at s.fwd 1).items _ (some _)))))
    (after (codes " r0 ") _ (then reply_text (queue_at s.rev 0).items _ (after (codes " r1 ") _ (then reply_text (queue_at s.rev 1).items _ (some _)))))

comb_shows : (s : CombState) → Shows (comb_text s)
comb_shows s = both (comb_forward_text s) _
    (after (codes "comb f0 ") _ (then request_text (queue_at s.fwd 0).items _ (after (codes " f1 ") _ (then request_text (queue_at s.fwd 1).items _ (some _)))))
    (both (comb_reverse_text s) _
    (after (codes " r0 ") _ (then reply_text (queue_at s.rev 0).items _ (after (codes " r1 ") _ (then reply_text (queue_at s.rev 1).items _ (some _)))))
    (after (codes " wait ") _ (then entry_text s.wait.items _ (some _))))

waiting_shows : (s : ModuleState) → Shows (waiting_text s)
waiting_shows s =
    after (codes "q0 ") _ (then request_text (queue_at s.requests 0).items _ (after (codes " q1 ") _ (then request_text (queue_at s.requests 1).items _
    (after (codes " a0 ") _ (then reply_text (queue_at s.replies 0).items _ (after (codes " a1 ") _ (listed reply_text (queue_at s.replies 1).items)))))))

module_shows : (s : ModuleState) → Shows (module_text s)
module_shows s =
    after (codes "mod ") _ (both (waiting_text s) _ (waiting_shows s)
    (after (codes " ") _ (after (codes "turn " ++ turn_text s.turn ++ codes " served " ++ flag_text s.served ++ codes " mem ") _ (listed stored_text s.words))))

pub state_shows : (s : MachineState) → Shows (state_text s)
state_shows (Proc s) = some _
state_shows (Module s) = module_shows s
state_shows (Low s) = low_shows s
state_shows (Comb s) = comb_shows s

pub body_shows : (b : Body) → Shows (body_text b)
body_shows (body.Reply None) = some _
body_shows (body.Reply (Some r)) = some _
body_shows (body.State s) = state_shows s
body_shows (body.Word w) = some _
body_shows (body.Count n) = some _
body_shows (body.Profile ns) = some _
body_shows (body.Tree tree) = some _
body_shows (body.Level n) = some _
body_shows (body.Fraction n d) = some _
body_shows (body.Place p) = some _
body_shows (body.Order tags) = some _
