-- Messages that come to the queues of one combining switch.
use Rattle.std.proofs.Common.{◌≡◌, ℕ, zero, suc, ◌+◌, ◌<◌, Bool, true, false, cond, List, [], ◌∷◌, length, get_or, refl, ap, sym, ◌∙◌, Option, None, Some, arith}
use Rattle.std.proofs.Math.ListN.{set, length-set}
use Rattle.std.proofs.lemmas.List.{get_or-set_same, get_or-set_other, get_or_default}
use Rattle.std.specs.Prelude.{◌&&◌, not, nat_lt, is_some, remove, position}
use Rattle.std.specs.List.{list_any}
use Rattle.arrayvec.specs.ArrayVec.{ArrayVec}
use Rattle.word_ops.specs.declared.op.Op.{Op}
use Rattle.word_ops.specs.Words.{then_op}
use Rattle.omega_net.specs.declared.message.Request.{Request}
use Rattle.omega_net.specs.declared.message.Reply.{Reply}
use Rattle.omega_net.specs.Wires.{bit}
use Rattle.omega_net.specs.Queues.{joined}
use Rattle.omega_net.specs.Ports.{queue_at, empty, same_tag}
use Rattle.comb_switch.specs.declared.waiting.Waiting.{Waiting}
use Rattle.comb_switch.specs.declared.state.CombState.{CombState}
use Rattle.comb_switch.specs.declared.settings.CombSettings.{CombSettings}
use Rattle.comb_switch.specs.CombSwitch.{youngest_for, combines, both, waiting_for, last_in, combined_in, meets, arrives, sent_back, entry_at, first_answer, second_answer, splits, returns_to}
use Rattle.flat_row.specs.Labels.{port}
use Rattle.flat_row.specs.Queues.{Queues, with_queue}
use Rattle.flat_row.specs.Row.{Buffers, wait_of, combined_of}
use Rattle.flat_row.specs.Combining.{core, at_ports, meeting, splitting, with_wait, OnlyAt, SameLevel}
use Rattle.flat_row.proofs.Masking.{ports_of, ArePorts, same_first}

not_one : (p q : ℕ) → p ≡ 0 → q ≡ 1 → p ≡ q → ⊥
not_one p q e f g = omega (arith, e, f, g)

-- another queue at a port of a switch
module _ {T : Type 0} (b x : ℕ) (few : b < 6) (small : x < 64) (first : bit b x ≡ 0) (queues : List (ArrayVec T)) (y o : ℕ) (at : y ≡ port b o x) (oh : o < 2) (there : y < length queues) where
  ports : ArePorts b x
  ports = ports_of b x few small

  apart : port b 0 x ≡ port b 1 x → ⊥
  apart e = not_one (bit b (port b 0 x)) (bit b (port b 1 x)) ports.bit_0 ports.bit_1 (ap (bit b) e)

  pub port_get : queue_at (at_ports b (queue_at queues) x) o ≡ queue_at queues y
  port_get = by_port o at oh
    where
      by_port : (o : ℕ) → y ≡ port b o x → o < 2 → queue_at (at_ports b (queue_at queues) x) o ≡ queue_at queues y
      by_port zero e h = ap (queue_at queues) (sym e)
      by_port (suc zero) e h = ap (queue_at queues) (sym e)
      by_port (suc (suc o)) e h = absurd (omega arith)

  pub port_set : (q : ArrayVec T) → at_ports b (queue_at (set queues y q)) x ≡ set (at_ports b (queue_at queues) x) o q
  port_set q = by_port o at oh
    where
      two : ArrayVec T → ArrayVec T → List (ArrayVec T)
      two p r = p ∷ r ∷ []

      same : (z : ℕ) → y ≡ z → queue_at (set queues y q) z ≡ q
      same z e = ap (queue_at (set queues y q)) (sym e) ∙ get_or-set_same queues y q empty there

      other : (z : ℕ) → (z ≡ y → ⊥) → queue_at (set queues y q) z ≡ queue_at queues z
      other z ne = get_or-set_other queues y z q empty ne

      by_port : (o : ℕ) → y ≡ port b o x → o < 2 → at_ports b (queue_at (set queues y q)) x ≡ set (at_ports b (queue_at queues) x) o q
      by_port zero e h =
          ap (λ p. two p (queue_at (set queues y q) (port b 1 x))) (same (port b 0 x) e)
          ∙ ap (λ p. two q p) (other (port b 1 x) (λ g. apart (sym (g ∙ e))))
      by_port (suc zero) e h =
          ap (λ p. two p (queue_at (set queues y q) (port b 1 x))) (other (port b 0 x) (λ g. apart (g ∙ e)))
          ∙ ap (λ p. two (queue_at queues (port b 0 x)) p) (same (port b 1 x) e)
      by_port (suc (suc o)) e h = absurd (omega arith)

  pub port_other : (q : ArrayVec T) (z : ℕ) → (port b 0 z ≡ x → ⊥) → queue_at (set queues y q) z ≡ queue_at queues z
  port_other q z ne = get_or-set_other queues y z q empty (λ g. ne (ap (port b 0) (g ∙ at) ∙ again o oh ∙ same_first b x first))
    where
      again : (o : ℕ) → o < 2 → port b 0 (port b o x) ≡ port b 0 x
      again zero h = ports.again_00
      again (suc zero) h = ports.again_01
      again (suc (suc o)) h = absurd (omega arith)

-- a level with another queue at that port
module _ {T : Type 0} (b x : ℕ) (few : b < 6) (small : x < 64) (first : bit b x ≡ 0) (old new : Queues T) (y o : ℕ) (at : y ≡ port b o x) (oh : o < 2) (there : y < length old.queues)
    (q : ArrayVec T) (changed : new ≡ with_queue old y q) where
  pub level_same : SameLevel old new
  level_same = record { many = ap (λ l. length l.queues) changed ∙ length-set old.queues y q; rule = ap (λ l. l.rule) changed }

  pub level_ports : at_ports b (queue_at new.queues) x ≡ set (at_ports b (queue_at old.queues) x) o q
  level_ports = ap (λ l. at_ports b (queue_at l.queues) x) changed ∙ port_set b x few small first old.queues y o at oh there q

  pub level_other : (z : ℕ) → (port b 0 z ≡ x → ⊥) → queue_at new.queues z ≡ queue_at old.queues z
  level_other z ne = ap (λ l. queue_at l.queues z) changed ∙ port_other b x few small first old.queues y o at oh there q z ne

  pub level_only : (w : Buffers) → OnlyAt b x (queue_at old.queues) (queue_at new.queues) w w
  level_only w = record { queues = λ z h ne. level_other z ne; entries = refl; buffers = λ z ne. refl; counts = λ z h ne. refl }

-- a message goes last
module _ {T : Type 0} (b x : ℕ) (few : b < 6) (small : x < 64) (first : bit b x ≡ 0) (old new : Queues T) (y o : ℕ) (at : y ≡ port b o x) (oh : o < 2) (there : y < length old.queues)
    (m : T) (changed : new ≡ with_queue old y (joined (queue_at old.queues y) (Some m))) where
  pub last_ports : at_ports b (queue_at new.queues) x ≡ set (at_ports b (queue_at old.queues) x) o (joined (queue_at (at_ports b (queue_at old.queues) x) o) (Some m))
  last_ports =
      level_ports b x few small first old new y o at oh there (joined (queue_at old.queues y) (Some m)) changed
      ∙ ap (λ p. set (at_ports b (queue_at old.queues) x) o (joined p (Some m))) (sym (port_get b x few small first old.queues y o at oh there))

-- a request goes last, and a reply
pub last_in_is : (b x : ℕ) (few : b < 6) (small : x < 64) (first : bit b x ≡ 0) (old new : Queues Request) (y o : ℕ) (at : y ≡ port b o x) (oh : o < 2) (there : y < length old.queues)
    (r : Request) (changed : new ≡ with_queue old y (joined (queue_at old.queues y) (Some r))) (w : Buffers)
    → meeting b (queue_at new.queues) w x ≡ last_in r o (meeting b (queue_at old.queues) w x)
last_in_is b x few small first old new y o at oh there r changed w =
    ap (λ f. core f (empty ∷ empty ∷ []) (wait_of w x) (combined_of w x)) (last_ports b x few small first old new y o at oh there r changed)

pub sent_back_is : (settings : CombSettings) (x : ℕ) (few : settings.bit < 6) (small : x < 64) (first : bit settings.bit x ≡ 0) (old new : Queues Reply) (y o : ℕ) (at : y ≡ port settings.bit o x) (oh : o < 2) (there : y < length old.queues)
    (m : Reply) (goes : o ≡ bit settings.bit m.tag.proc) (changed : new ≡ with_queue old y (joined (queue_at old.queues y) (Some m))) (w : Buffers)
    → splitting settings.bit (queue_at new.queues) w x ≡ sent_back settings m (splitting settings.bit (queue_at old.queues) w x)
sent_back_is settings x few small first old new y o at oh there m goes changed w =
    let b = settings.bit in
    ap (λ f. core (empty ∷ empty ∷ []) f (wait_of w x) (combined_of w x))
    (last_ports b x few small first old new y o at oh there m changed ∙ ap (λ i. set (at_ports b (queue_at old.queues) x) i (joined (queue_at (at_ports b (queue_at old.queues) x) i) (Some m))) goes)

-- a request combines
module _ (b x : ℕ) (few : b < 6) (small : x < 64) (first : bit b x ≡ 0) (old new : Queues Request) (y o : ℕ) (at : y ≡ port b o x) (oh : o < 2) (there : y < length old.queues)
    (i : ℕ) (queued r m : Request) (changed : new ≡ with_queue old y (record { items = set (queue_at old.queues y).items i m })) (does : m ≡ both queued r)
    (w v u : Buffers) (waiting : Waiting) (waits : waiting ≡ waiting_for queued r) (joins : v ≡ with_wait w x (joined (wait_of w x) (Some waiting))) (entries : u.entries ≡ v.entries)
    (counts : combined_of u x ≡ combined_of v x + 1) (place : x < length w.entries) where
  pub combined_is : meeting b (queue_at new.queues) u x ≡ combined_in r o i queued (meeting b (queue_at old.queues) w x)
  combined_is =
      let q : ArrayVec Request = record { items = set (queue_at old.queues y).items i m } in
      let fwd = at_ports b (queue_at old.queues) x in
      ap (λ f. core f (empty ∷ empty ∷ []) (wait_of u x) (combined_of u x)) (level_ports b x few small first old new y o at oh there q changed)
      ∙ ap (λ p. core (set fwd o (record { items = set p.items i m })) (empty ∷ empty ∷ []) (wait_of u x) (combined_of u x)) (sym (port_get b x few small first old.queues y o at oh there))
      ∙ ap (λ n. core (set fwd o (record { items = set (queue_at fwd o).items i n })) (empty ∷ empty ∷ []) (wait_of u x) (combined_of u x)) does
      ∙ ap (λ p. core (set fwd o (record { items = set (queue_at fwd o).items i (both queued r) })) (empty ∷ empty ∷ []) p (combined_of u x)) waits_so
      ∙ ap (λ n. core (set fwd o (record { items = set (queue_at fwd o).items i (both queued r) })) (empty ∷ empty ∷ []) (joined (wait_of w x) (Some (waiting_for queued r))) n) (counts ∙ ap (λ s. combined_of s x + 1) joins)
    where
      waits_so : wait_of u x ≡ joined (wait_of w x) (Some (waiting_for queued r))
      waits_so =
          ap (λ es. queue_at es x) (entries ∙ ap (λ s. s.entries) joins) ∙ get_or-set_same w.entries x (joined (wait_of w x) (Some waiting)) empty place
          ∙ ap (λ e. joined (wait_of w x) (Some e)) waits

  pub combined_only : ((z : ℕ) → z < 64 → (z ≡ x → ⊥) → combined_of u z ≡ combined_of v z) → OnlyAt b x (queue_at old.queues) (queue_at new.queues) w u
  combined_only others = record {
    queues = λ z h ne. level_other b x few small first old new y o at oh there (record { items = set (queue_at old.queues y).items i m }) changed z ne;
    entries = ap length (entries ∙ ap (λ s. s.entries) joins) ∙ length-set w.entries x (joined (wait_of w x) (Some waiting));
    buffers = λ z ne. ap (λ es. queue_at es z) (entries ∙ ap (λ s. s.entries) joins) ∙ get_or-set_other w.entries x z (joined (wait_of w x) (Some waiting)) empty ne;
    counts = λ z h ne. others z h ne ∙ ap (λ s. combined_of s z) joins;
  }

-- whether it combines
some_none : {T : Type 0} (m : T) → Some m ≡ None → ⊥
some_none m e = cc

pub meets_combined : (settings : CombSettings) (r queued : Request) (o i : ℕ) (a : CombState) (op : Op) → queued ≡ get_or (queue_at a.fwd o).items i r
    → Some op ≡ cond (combines settings a.wait queued r) (then_op queued.op r.op) None → combined_in r o i queued a ≡ meets settings r o (Some i) a
meets_combined settings r queued o i a op e made =
    by_test (combines settings a.wait queued r) refl ∙ ap (λ n. cond (combines settings a.wait n r) (combined_in r o i n a) (last_in r o a)) e
  where
    by_test : (t : Bool) → combines settings a.wait queued r ≡ t → combined_in r o i queued a ≡ cond (combines settings a.wait queued r) (combined_in r o i queued a) (last_in r o a)
    by_test true g = sym (ap (λ t. cond t (combined_in r o i queued a) (last_in r o a)) g)
    by_test false g = absurd (some_none op (made ∙ ap (λ t. cond t (then_op queued.op r.op) None) g))

pub does_both : (settings : CombSettings) (r queued : Request) (wait : ArrayVec Waiting) (op : Op) → Some op ≡ cond (combines settings wait queued r) (then_op queued.op r.op) None → Some op ≡ then_op queued.op r.op
does_both settings r queued wait op made = by_test (combines settings wait queued r) made
  where
    by_test : (t : Bool) → Some op ≡ cond t (then_op queued.op r.op) None → Some op ≡ then_op queued.op r.op
    by_test true g = g
    by_test false g = absurd (some_none op g)

pub meets_last : (settings : CombSettings) (r queued : Request) (o i : ℕ) (a : CombState) → queued ≡ get_or (queue_at a.fwd o).items i r
    → None ≡ cond (combines settings a.wait queued r) (then_op queued.op r.op) None → last_in r o a ≡ meets settings r o (Some i) a
meets_last settings r queued o i a e made =
    sym (ap (λ t. cond t (combined_in r o i queued a) (last_in r o a)) (none (then_op queued.op r.op) refl)) ∙ ap (λ n. cond (combines settings a.wait n r) (combined_in r o i n a) (last_in r o a)) e
  where
    others : Bool
    others = not (list_any (λ w. same_tag w.first queued.tag) a.wait.items)

    and_false : (t : Bool) → (t && false) ≡ false
    and_false true = refl
    and_false false = refl

    none : (n : Option Op) → then_op queued.op r.op ≡ n → combines settings a.wait queued r ≡ false
    none None g =
        ap (λ n. ((settings.combine && is_some n) && not (list_any (λ w. same_tag w.first queued.tag) a.wait.items)) && nat_lt (length a.wait.items) settings.wait) g
        ∙ ap (λ t. (t && not (list_any (λ w. same_tag w.first queued.tag) a.wait.items)) && nat_lt (length a.wait.items) settings.wait) (and_false settings.combine)
    none (Some op) g = by_test (combines settings a.wait queued r) refl
      where
        by_test : (t : Bool) → combines settings a.wait queued r ≡ t → t ≡ false
        by_test true c = absurd (some_none op (sym (made ∙ ap (λ t. cond t (then_op queued.op r.op) None) c ∙ g)))
        by_test false c = refl

-- what it meets
pub arrives_by : (settings : CombSettings) (r : Request) (a : CombState) (o : ℕ) (found : Option ℕ) (items : List Request) → o ≡ bit settings.bit r.place.«module»
    → found ≡ youngest_for r.place items → items ≡ (queue_at a.fwd o).items → meets settings r o found a ≡ arrives settings (Some r) a
arrives_by settings r a o found items goes is there =
    ap (λ f. meets settings r o f a) (is ∙ ap (youngest_for r.place) there)
    ∙ ap (λ n. meets settings r n (youngest_for r.place (queue_at a.fwd n).items) a) goes

-- a request arrives
pub arrives_is : (settings : CombSettings) (x : ℕ) (few : settings.bit < 6) (small : x < 64) (first : bit settings.bit x ≡ 0) (old : Queues Request) (y o : ℕ) (at : y ≡ port settings.bit o x) (oh : o < 2) (there : y < length old.queues)
    (r : Request) (w : Buffers) (found : Option ℕ) (items : List Request) (new : CombState) → o ≡ bit settings.bit r.place.«module» → found ≡ youngest_for r.place items → items ≡ (queue_at old.queues y).items
    → new ≡ meets settings r o found (meeting settings.bit (queue_at old.queues) w x) → new ≡ arrives settings (Some r) (meeting settings.bit (queue_at old.queues) w x)
arrives_is settings x few small first old y o at oh there r w found items new goes is has_it met =
    met ∙ arrives_by settings r (meeting settings.bit (queue_at old.queues) w x) o found items goes is (has_it ∙ ap (λ q. q.items) (sym (port_get settings.bit x few small first old.queues y o at oh there)))

-- the request that waits at an index is met
module _ (settings : CombSettings) (x : ℕ) (few : settings.bit < 6) (small : x < 64) (first : bit settings.bit x ≡ 0) (old : Queues Request) (y o : ℕ) (at : y ≡ port settings.bit o x) (oh : o < 2) (there : y < length old.queues)
    (items : List Request) (i : ℕ) (d r : Request) (entries : List Waiting) (w : Buffers) (has_it : items ≡ (queue_at old.queues y).items) (within : i < length items) (waits : entries ≡ (wait_of w x).items) where
  abbrev met_with : Request
  met_with = get_or items i d

  abbrev before : CombState
  before = meeting settings.bit (queue_at old.queues) w x

  queued_is : met_with ≡ get_or (queue_at before.fwd o).items i r
  queued_is = get_or_default items i d r within ∙ ap (λ l. get_or l i r) (has_it ∙ ap (λ q. q.items) (sym (port_get settings.bit x few small first old.queues y o at oh there)))

  abbrev joint : List Waiting → Option Op
  joint es = cond (combines settings (record { items = es }) met_with r) (then_op met_with.op r.op) None

  pub meets_some : (op : Op) (new : CombState) → Some op ≡ joint entries → new ≡ combined_in r o i met_with before → new ≡ meets settings r o (Some i) before
  meets_some op new made met = met ∙ meets_combined settings r met_with o i before op queued_is (made ∙ ap joint waits)

  pub meets_does : (op : Op) → Some op ≡ joint entries → Some op ≡ then_op met_with.op r.op
  meets_does op made = does_both settings r met_with (record { items = entries }) op made

  pub meets_none : (new : CombState) → None ≡ joint entries → new ≡ last_in r o before → new ≡ meets settings r o (Some i) before
  meets_none new made met = met ∙ meets_last settings r met_with o i before queued_is (made ∙ ap joint waits)

-- a reply returns
pub returns_is : (settings : CombSettings) (y : Reply) (x : ℕ) (old : Queues Reply) (w : Buffers) (found : Option ℕ) (entries : List Waiting) (new : CombState)
    → found ≡ position (λ e. same_tag e.first y.tag) entries → entries ≡ (wait_of w x).items → new ≡ splits settings y found (splitting settings.bit (queue_at old.queues) w x)
    → new ≡ returns_to settings (Some y) (splitting settings.bit (queue_at old.queues) w x)
returns_is settings y x old w found entries new is waits met =
    met ∙ ap (λ f. splits settings y f (splitting settings.bit (queue_at old.queues) w x)) (is ∙ ap (position (λ e. same_tag e.first y.tag)) waits)

-- a reply splits
module _ (settings : CombSettings) (x : ℕ) (old new last : Queues Reply) (w v : Buffers) (y first second : Reply) (waiting : Waiting) (i : ℕ)
    (taken : waiting ≡ get_or (wait_of w x).items i waiting) (within : i < length (wait_of w x).items) (place : x < length w.entries)
    (left : v ≡ with_wait w x (record { items = remove (wait_of w x).items i }))
    (one : first ≡ first_answer waiting y) (two : second ≡ second_answer waiting y)
    (met : splitting settings.bit (queue_at new.queues) v x ≡ sent_back settings first (splitting settings.bit (queue_at old.queues) v x))
    (again : splitting settings.bit (queue_at last.queues) v x ≡ sent_back settings second (splitting settings.bit (queue_at new.queues) v x)) where
  abbrev a : CombState
  a = splitting settings.bit (queue_at old.queues) w x

  entry : waiting ≡ entry_at a.wait y i
  entry = taken ∙ get_or_default (wait_of w x).items i waiting _ within

  without : splitting settings.bit (queue_at old.queues) v x ≡ record a { wait = record { items = remove a.wait.items i } }
  without =
      ap (λ s. splitting settings.bit (queue_at old.queues) s x) left
      ∙ ap (λ q. core (empty ∷ empty ∷ []) (at_ports settings.bit (queue_at old.queues) x) q (combined_of w x)) (get_or-set_same w.entries x (record { items = remove (wait_of w x).items i }) empty place)

  pub splits_is : splitting settings.bit (queue_at last.queues) v x ≡ splits settings y (Some i) a
  splits_is =
      again ∙ ap (λ m. sent_back settings m (splitting settings.bit (queue_at new.queues) v x)) (two ∙ ap (λ e. second_answer e y) entry)
      ∙ ap (λ s. sent_back settings (second_answer (entry_at a.wait y i) y) s)
      (met ∙ ap (λ m. sent_back settings m (splitting settings.bit (queue_at old.queues) v x)) (one ∙ ap (λ e. first_answer e y) entry)
      ∙ ap (sent_back settings (first_answer (entry_at a.wait y i) y)) without)

  pub splits_only : OnlyAt settings.bit x (queue_at old.queues) (queue_at new.queues) v v → OnlyAt settings.bit x (queue_at new.queues) (queue_at last.queues) v v
      → OnlyAt settings.bit x (queue_at old.queues) (queue_at last.queues) w v
  splits_only p q = record {
    queues = λ z h ne. q.queues z h ne ∙ p.queues z h ne;
    entries = ap (λ s. length s.entries) left ∙ length-set w.entries x (record { items = remove (wait_of w x).items i });
    buffers = λ z ne. ap (λ s. wait_of s z) left ∙ get_or-set_other w.entries x z (record { items = remove (wait_of w x).items i }) empty ne;
    counts = λ z h ne. ap (λ s. combined_of s z) left;
  }

pub same_twice : {T : Type 0} (a b c : Queues T) → SameLevel a b → SameLevel b c → SameLevel a c
same_twice a b c p q = record { many = q.many ∙ p.many; rule = q.rule ∙ p.rule }
