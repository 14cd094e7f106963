-- A combining switch that is taken one cycle further beside the row.
use Rattle.std.proofs.Common.{◌≡◌, ℕ, ◌-◌, ◌^◌, ◌<◌, ◌≤◌, Bool, List, [], ◌∷◌, ap, sym, subst, refl, ◌∙◌, arith}
use Rattle.std.specs.Prelude.{is_some, slice_index}
use Rattle.arrayvec.specs.ArrayVec.{ArrayVec}
use Rattle.omega_net.specs.declared.message.Request.{Request}
use Rattle.omega_net.specs.declared.message.Reply.{Reply}
use Rattle.omega_net.specs.declared.message.Traffic.{Traffic}
use Rattle.omega_net.specs.Queues.{without_head, turn_after}
use Rattle.omega_net.specs.Ports.{empty, queue_at, mark_at, message_at}
use Rattle.omega_net.specs.Numbers.{half}
use Rattle.omega_net.specs.Wires.{bit}
use Rattle.comb_switch.specs.declared.waiting.Waiting.{Waiting}
use Rattle.comb_switch.specs.declared.state.CombState.{CombState}
use Rattle.comb_switch.specs.declared.settings.CombSettings.{CombSettings}
use Rattle.comb_switch.specs.CombSwitch.{arrives, returns_to, comb_turn_after, requests_in, replies_in, comb_after}
use Rattle.project_book.specs.Project.{Project}
use Rattle.machine_cells.specs.declared.state.MachineState.TheVariants.{Comb}
use Rattle.state_words.specs.Fits.{IsRequest, IsReply, IsWaiting, IsQueue, AreQueues, IsComb}
use Rattle.state_words.specs.Words.{bytes}
use Rattle.machine_cells.specs.Words.{words_of}
use Rattle.flat_row.specs.Combining.{core, meeting, splitting}
use Rattle.flat_row.specs.Labels.{port}
use Rattle.flat_row.specs.Next.{Aside}
use Rattle.flat_row.specs.Parts.{parts_words}
use Rattle.flat_row.specs.Queues.{Queues}
use Rattle.flat_row.specs.Row.{Network, port_label, queue_of, turn_of, wait_of, combined_of}
use Rattle.flat_row.proofs.Carrying.{port_bit}
use Rattle.flat_row.proofs.Mixing.{arrives_back, returns_forth}
use Rattle.flat_row.proofs.Showing.{StandsAt}
use Rattle.flat_row.proofs.Telling.{combined_fit, turn_later}
use Rattle.flat_row.proofs.Turning.{stands}

abbrev made : List (ArrayVec Request) → List (ArrayVec Reply) → ArrayVec Waiting → List ℕ → ℕ → ℕ → CombState
made fwd rev wait turn rturn combined = record { fwd = fwd; rev = rev; wait = wait; turn = turn; rturn = rturn; combined = combined }

pub parts_same : (kind : ℕ) (a f b g : List Request) (c u d v : List Reply) (e w : List Waiting) (m n : ℕ) → a ≡ f → b ≡ g → c ≡ u → d ≡ v → e ≡ w → m ≡ n → parts_words kind a b c d e m ≡ parts_words kind f g u v w n
parts_same kind a f b g c u d v e w m n ae be ce de ee me =
    ap (λ x. parts_words kind x b c d e m) ae ∙ ap (λ x. parts_words kind f x c d e m) be ∙ ap (λ x. parts_words kind f g x d e m) ce
    ∙ ap (λ x. parts_words kind f g u x e m) de ∙ ap (λ x. parts_words kind f g u v x m) ee ∙ ap (λ x. parts_words kind f g u v w x) me

module _ (settings : CombSettings) (t : Traffic) (a : CombState) where
  abbrev fwd_left : ℕ → ArrayVec Request
  fwd_left o = without_head (mark_at t.requests_leave o) (queue_at a.fwd o)

  abbrev rev_left : ℕ → ArrayVec Reply
  rev_left i = without_head (mark_at t.replies_leave i) (queue_at a.rev i)

  abbrev revs : List (ArrayVec Reply)
  revs = rev_left 0 ∷ rev_left 1 ∷ []

  abbrev started : CombState
  started = core (fwd_left 0 ∷ fwd_left 1 ∷ []) (empty ∷ empty ∷ []) a.wait 0

  abbrev met : CombState
  met = requests_in settings t started

  abbrev returning : CombState
  returning = core (empty ∷ empty ∷ []) revs met.wait met.combined

  abbrev returned : CombState
  returned = replies_in settings t returning

  abbrev turns : List ℕ
  turns = comb_turn_after settings t a 0 ∷ comb_turn_after settings t a 1 ∷ []

  abbrev back_turn : ℕ
  back_turn = turn_after a.rturn (is_some (message_at t.replies 0)) (is_some (message_at t.replies 1))

  -- requests meet by the queues of requests alone, and replies by those of replies
  comb_parts : comb_after settings t a ≡ made met.fwd returned.rev returned.wait turns back_turn returned.combined
  comb_parts =
      ap (λ s. replies_in settings t s) (
      ap (arrives settings (message_at t.requests 1)) (arrives_back settings (message_at t.requests 0) started revs turns back_turn)
      ∙ arrives_back settings (message_at t.requests 1) (arrives settings (message_at t.requests 0) started) revs turns back_turn)
      ∙ ap (returns_to settings (message_at t.replies 1)) (returns_forth settings (message_at t.replies 0) returning met.fwd turns back_turn)
      ∙ returns_forth settings (message_at t.replies 1) (returns_to settings (message_at t.replies 0) returning) met.fwd turns back_turn

  module _ (x y : ℕ) (p0 : port settings.bit 0 x ≡ x) (p1 : port settings.bit 1 x ≡ y) (B C D : Aside)
      (f0 : queue_at B.requests.queues x ≡ fwd_left 0) (f1 : queue_at B.requests.queues y ≡ fwd_left 1) (r0 : queue_at B.replies.queues x ≡ rev_left 0) (r1 : queue_at B.replies.queues y ≡ rev_left 1)
      (waits : wait_of B.waits x ≡ a.wait) (none : combined_of B.waits x ≡ 0)
      (meets : meeting settings.bit (queue_at C.requests.queues) C.waits x ≡ requests_in settings t (meeting settings.bit (queue_at B.requests.queues) B.waits x)) (replies_kept : C.replies ≡ B.replies)
      (splits : splitting settings.bit (queue_at D.replies.queues) D.waits x ≡ replies_in settings t (splitting settings.bit (queue_at C.replies.queues) C.waits x)) (requests_kept : D.requests ≡ C.requests) where
    started_is : meeting settings.bit (queue_at B.requests.queues) B.waits x ≡ started
    started_is =
        ap (λ q. core (q ∷ queue_at B.requests.queues (port settings.bit 1 x) ∷ []) (empty ∷ empty ∷ []) (wait_of B.waits x) (combined_of B.waits x)) (ap (queue_at B.requests.queues) p0 ∙ f0)
        ∙ ap (λ q. core (fwd_left 0 ∷ q ∷ []) (empty ∷ empty ∷ []) (wait_of B.waits x) (combined_of B.waits x)) (ap (queue_at B.requests.queues) p1 ∙ f1)
        ∙ ap (λ w. core (fwd_left 0 ∷ fwd_left 1 ∷ []) (empty ∷ empty ∷ []) w (combined_of B.waits x)) waits
        ∙ ap (core (fwd_left 0 ∷ fwd_left 1 ∷ []) (empty ∷ empty ∷ []) a.wait) none

    met_is : meeting settings.bit (queue_at C.requests.queues) C.waits x ≡ met
    met_is = meets ∙ ap (λ s. requests_in settings t s) started_is

    returning_is : splitting settings.bit (queue_at C.replies.queues) C.waits x ≡ returning
    returning_is =
        ap (λ q. core (empty ∷ empty ∷ []) (q ∷ queue_at C.replies.queues (port settings.bit 1 x) ∷ []) (wait_of C.waits x) (combined_of C.waits x)) (ap (queue_at C.replies.queues) p0 ∙ ap (λ (l : Queues Reply). queue_at l.queues x) replies_kept ∙ r0)
        ∙ ap (λ q. core (empty ∷ empty ∷ []) (rev_left 0 ∷ q ∷ []) (wait_of C.waits x) (combined_of C.waits x)) (ap (queue_at C.replies.queues) p1 ∙ ap (λ (l : Queues Reply). queue_at l.queues y) replies_kept ∙ r1)
        ∙ ap (λ w. core (empty ∷ empty ∷ []) revs w (combined_of C.waits x)) (ap (λ (s : CombState). s.wait) met_is)
        ∙ ap (core (empty ∷ empty ∷ []) revs met.wait) (ap (λ (s : CombState). s.combined) met_is)

    returned_is : splitting settings.bit (queue_at D.replies.queues) D.waits x ≡ returned
    returned_is = splits ∙ ap (λ s. replies_in settings t s) returning_is

    pub comb_told : (u v w small : ℕ) → u ≡ comb_turn_after settings t a 0 → v ≡ comb_turn_after settings t a 1 → w ≡ back_turn → small ≡ bytes u v w (combined_of D.waits x)
        → parts_words 3 (queue_at D.requests.queues x).items (queue_at D.requests.queues y).items (queue_at D.replies.queues x).items (queue_at D.replies.queues y).items (wait_of D.waits x).items small
        ≡ words_of (Comb (comb_after settings t a))
    comb_told u v w small ue ve we se =
        parts_same 3 _ (queue_at met.fwd 0).items _ (queue_at met.fwd 1).items _ (queue_at returned.rev 0).items _ (queue_at returned.rev 1).items _ returned.wait.items small _
        (ap (λ (l : Queues Request). (queue_at l.queues x).items) requests_kept ∙ ap (λ z. (queue_at C.requests.queues z).items) (sym p0) ∙ ap (λ (s : CombState). (queue_at s.fwd 0).items) met_is)
        (ap (λ (l : Queues Request). (queue_at l.queues y).items) requests_kept ∙ ap (λ z. (queue_at C.requests.queues z).items) (sym p1) ∙ ap (λ (s : CombState). (queue_at s.fwd 1).items) met_is)
        (ap (λ z. (queue_at D.replies.queues z).items) (sym p0) ∙ ap (λ (s : CombState). (queue_at s.rev 0).items) returned_is)
        (ap (λ z. (queue_at D.replies.queues z).items) (sym p1) ∙ ap (λ (s : CombState). (queue_at s.rev 1).items) returned_is)
        (ap (λ (s : CombState). s.wait.items) returned_is)
        (se ∙ ap (λ i. bytes i v w (combined_of D.waits x)) ue ∙ ap (λ i. bytes (comb_turn_after settings t a 0) i w (combined_of D.waits x)) ve
        ∙ ap (λ i. bytes (comb_turn_after settings t a 0) (comb_turn_after settings t a 1) i (combined_of D.waits x)) we
        ∙ ap (bytes (comb_turn_after settings t a 0) (comb_turn_after settings t a 1) back_turn) (ap (λ (s : CombState). s.combined) returned_is))
        ∙ sym (ap (λ s. words_of (Comb s)) comb_parts)

    pub comb_fits : IsQueue IsRequest (queue_at D.requests.queues x) → IsQueue IsRequest (queue_at D.requests.queues y) → IsQueue IsReply (queue_at D.replies.queues x) → IsQueue IsReply (queue_at D.replies.queues y)
        → IsQueue IsWaiting (wait_of D.waits x) → slice_index a.turn 0 < 2 ^ 8 → slice_index a.turn 1 < 2 ^ 8 → a.rturn < 2 ^ 8 → IsComb (comb_after settings t a)
    comb_fits f0 f1 b0 b1 w t0 t1 r = subst IsComb (sym comb_parts) (record {
      fwd = subst (AreQueues IsRequest) (ap (λ (s : CombState). s.fwd) met_is) (record {
        two = refl;
        first = subst (IsQueue IsRequest) (ap (λ (l : Queues Request). queue_at l.queues x) requests_kept ∙ ap (queue_at C.requests.queues) (sym p0)) f0;
        second = subst (IsQueue IsRequest) (ap (λ (l : Queues Request). queue_at l.queues y) requests_kept ∙ ap (queue_at C.requests.queues) (sym p1)) f1;
      });
      rev = subst (AreQueues IsReply) (ap (λ (s : CombState). s.rev) returned_is) (record {
        two = refl;
        first = subst (IsQueue IsReply) (ap (queue_at D.replies.queues) (sym p0)) b0;
        second = subst (IsQueue IsReply) (ap (queue_at D.replies.queues) (sym p1)) b1;
      });
      wait = subst (IsQueue IsWaiting) (ap (λ (s : CombState). s.wait) returned_is) w;
      turn = record { two = refl; first = turn_later (slice_index a.turn 0) _ _ t0; second = turn_later (slice_index a.turn 1) _ _ t1 };
      rturn = turn_later a.rturn _ _ r;
      combined = subst (λ n. n < 2 ^ 8) (ap (λ (s : CombState). s.combined) returned_is) (combined_fit D.waits x);
    })

-- the labels of a switch's ports
pub comb_ports : (P : Project) → P.k ≤ 6 → (s j : ℕ) → s < P.k → j < half P.k → (b x y : ℕ) → b ≡ P.k - 1 - s → x ≡ port_label P.k s j 0 → y ≡ port_label P.k s j 1
    → ((port b 0 x ≡ x) × (port b 1 x ≡ y)) × ((bit b x ≡ 0) × (b < 6))
comb_ports P few s j lt small b x y b_is x_is y_is =
    let none : 0 < 2 = omega arith in
    let at : StandsAt P.k s j 0 (port_label P.k s j 0) = stands P few s j lt small 0 none in
    let below : b < 6 = omega (arith, b_is, few, lt) in (
      (ap (λ c. port c 0 x) b_is ∙ ap (port (P.k - 1 - s) 0) x_is ∙ at.ports 0 ∙ sym x_is, ap (λ c. port c 1 x) b_is ∙ ap (port (P.k - 1 - s) 1) x_is ∙ at.ports 1 ∙ sym y_is),
      (ap (λ c. bit c x) b_is ∙ ap (bit (P.k - 1 - s)) x_is ∙ at.own, below),
    )

-- which are two
pub ports_apart : (b x y : ℕ) → b < 6 → x < 64 → port b 1 x ≡ y → bit b x ≡ 0 → x ≡ y → ⊥
ports_apart b x y few small second first e =
    let one : 1 < 2 = omega arith in
    let so : 0 ≡ 1 = sym first ∙ ap (bit b) e ∙ sym (ap (bit b) second) ∙ port_bit b x 1 few small one in
    omega (arith, so)

-- a queue of these messages
abbrev holding : {T : Type 0} → List T → ArrayVec T
holding xs = record { items = xs }

-- a queue that holds what is left of one of the row's
pub queue_left : {T : Type 0} (q : ArrayVec T) (levels own : List (Queues T)) → levels ≡ own → (l r x y : ℕ) → l ≡ r → x ≡ y → (leaves : Bool) (ms new : List T)
    → ms ≡ (queue_of levels l x).items → new ≡ (without_head leaves (holding ms)).items → q ≡ holding new → q ≡ without_head leaves (queue_of own r y)
queue_left {T} q levels own same l r x y level label leaves ms new there left held =
    held ∙ ap (λ (xs : List T). holding xs) left ∙ ap (λ (xs : List T). without_head leaves (holding xs)) there ∙ ap (λ (ls : List (Queues T)). without_head leaves (queue_of ls l x)) same
    ∙ ap (λ m. without_head leaves (queue_of own m x)) level ∙ ap (λ z. without_head leaves (queue_of own r z)) label

-- the turns of the row's own network
pub turn_own : (N own : Network) → N ≡ own → (s x y n : ℕ) → x ≡ y → n ≡ turn_of N.turns s x → n ≡ turn_of own.turns s y
turn_own N own same s x y n label there = there ∙ ap (λ (m : Network). turn_of m.turns s x) same ∙ ap (turn_of own.turns s) label

pub back_turn_own : (N own : Network) → N ≡ own → (s x y n : ℕ) → x ≡ y → n ≡ turn_of N.back_turns s x → n ≡ turn_of own.back_turns s y
back_turn_own N own same s x y n label there = there ∙ ap (λ (m : Network). turn_of m.back_turns s x) same ∙ ap (turn_of own.back_turns s) label
