-- What processors do in a cycle, one after another.
use Rattle.std.proofs.Common.{◌≡◌, ℕ, ◌+◌, ◌^◌, ◌<◌, ◌≤◌, Bool, true, false, cond, List, [], ◌∷◌, length, refl, ap, sym, ◌∙◌, subst, ◌⊎◌, inl, inr, Option, None, Some, arith}
use Rattle.std.specs.Prelude.{◌==◌, ◌&&◌, ◌||◌, not, nat_lt, nat_le, is_none, slice_get}
use Rattle.std.proofs.Math.ListN.{set}
use Rattle.std.proofs.Math.Pow.{pow_mono}
use Rattle.std.proofs.lemmas.List.{get_or-set_same, get_or-set_other}
use Rattle.std.proofs.lemmas.Bool.{cases_lt, eqb-true, eq-eqb}
use Rattle.arrayvec.specs.ArrayVec.{ArrayVec}
use Rattle.word_ops.specs.declared.op.Op.{Op}
use Rattle.omega_net.specs.declared.component.Net.TheVariants.{Low as LowNet, Comb as CombNet}
use Rattle.omega_net.specs.declared.message.Request.{Request}
use Rattle.omega_net.specs.declared.message.Reply.{Reply}
use Rattle.omega_net.specs.declared.script.ScriptEntry.{ScriptEntry}
use Rattle.omega_net.specs.declared.script.ScriptEntry.TheVariants.{Reference, Until, Fence, Idle}
use Rattle.omega_net.specs.Queues.{head, joined}
use Rattle.omega_net.specs.Numbers.{lines}
use Rattle.omega_net.specs.Ports.{queue_at}
use Rattle.ref_proc.specs.declared.state.Outgoing.{Outgoing}
use Rattle.ref_proc.specs.declared.state.ProcState.{ProcState}
use Rattle.ref_proc.specs.declared.step.ProcSettings.{ProcSettings}
use Rattle.ref_proc.specs.RefProc.{proc_start, taking, acting, referring, issuing, tries, has_brought, next_entry, on_after, spending}
use Rattle.project_book.specs.Project.{Project}
use Rattle.flat_row.specs.Queues.{Queues}
use Rattle.flat_row.specs.Row.{out_from, Rests}
use Rattle.flat_row.specs.Masks.{has, IsSetOf}
use Rattle.flat_row.specs.declared.acting.Replies.{Replies}
use Rattle.flat_row.specs.Combining.{SameLevel}
use Rattle.flat_row.specs.Ends.{HasIssued, Stays, reply_at, got_at, shown_with, acted, ShowsOne, proc_at}
use Rattle.flat_row.proofs.Ending.{level_twice, same_level}

false_true : false ≡ true → ⊥
false_true e = cc

-- where neither of two is so
pub neither : (a b : Bool) → (a || b) ≡ false → (a ≡ false) × (b ≡ false)
neither false b e = (refl, e)
neither true b e = absurd (false_true (sym e))

pub not_false : (t : Bool) → not t ≡ false → t ≡ true
not_false true e = refl
not_false false e = absurd (false_true (sym e))

pub not_true : (t : Bool) → not t ≡ true → t ≡ false
not_true true e = absurd (false_true e)
not_true false e = refl

-- a processor's label is below 64
pub label_small : {k p : ℕ} → k ≤ 6 → p < lines k → p < 64
label_small {k} {p} few within =
    let most : 2 ^ k ≤ 64 = pow_mono few in
    omega (arith, within, most)

-- a processor that shows something else
abbrev pub with_out : ProcState → Option Outgoing → ProcState
with_out s o = record s { out = o }

-- what an entry does to a processor that hasn't issued yet
still_so : (s : ProcState) → s.sent ≡ false → HasIssued s.out s
still_so s e = record { still = λ f. refl; issued = λ f. absurd (false_true (sym e ∙ f)) }

entry_on : (s t : ProcState) → t.sent ≡ s.sent → t.out ≡ s.out → (o : Option Outgoing) → HasIssued o s → HasIssued o t
entry_on s t e f o h = record { still = λ g. f ∙ h.still (sym e ∙ g); issued = λ g. let i = h.issued (sym e ∙ g) in (i.0, (i.1.0, f ∙ i.1.1)) }

passed_on : (turns : ℕ) (s : ProcState) (o : Option Outgoing) → HasIssued o s → HasIssued o (on_after turns s)
passed_on turns s o h = by_test (nat_le turns s.spent)
  where
    by_test : (t : Bool) → HasIssued o (cond t (next_entry s) s)
    by_test true = entry_on s (next_entry s) refl refl o h
    by_test false = h

no_out : (o : Option Outgoing) (t : Bool) → (is_none o && t) ≡ true → o ≡ None
no_out None t e = refl
no_out (Some x) t e = absurd (false_true e)

refers : (settings : ProcSettings) (sync : Bool) (op : Op) (s : ProcState) → s.sent ≡ false → HasIssued s.out (referring settings sync op s)
refers settings sync op s e = by_test (is_none s.out && nat_lt s.pending settings.window) refl
  where
    by_test : (t : Bool) → (is_none s.out && nat_lt s.pending settings.window) ≡ t → HasIssued s.out (cond t (issuing settings sync op s) s)
    by_test true f = record { still = λ g. absurd (false_true (sym g)); issued = λ g. (no_out s.out (nat_lt s.pending settings.window) f, (_, refl)) }
    by_test false f = still_so s e

acts : (settings : ProcSettings) (entry : Option ScriptEntry) (s : ProcState) → s.sent ≡ false → HasIssued s.out (acting settings entry s)
acts settings None s e = still_so s e
acts settings (Some (Reference sync op address times)) s e = passed_on times (referring settings sync op s) s.out (refers settings sync op s e)
acts settings (Some (Until sync op address value times)) s e = by_test (tries value times s)
  where
    waits : (t : Bool) → HasIssued s.out (cond t (next_entry s) s)
    waits true = entry_on s (next_entry s) refl refl s.out (still_so s e)
    waits false = still_so s e

    by_test : (t : Bool) → HasIssued s.out (cond t (referring settings sync op s) (cond (has_brought value s || nat_le times s.spent) (next_entry s) s))
    by_test true = refers settings sync op s e
    by_test false = waits (has_brought value s || nat_le times s.spent)
acts settings (Some Fence) s e = by_test ((s.pending == 0) && is_none s.out)
  where
    by_test : (t : Bool) → HasIssued s.out (cond t (next_entry s) s)
    by_test true = entry_on s (next_entry s) refl refl s.out (still_so s e)
    by_test false = still_so s e
acts settings (Some (Idle turns)) s e = passed_on turns (spending s) s.out (entry_on s (spending s) refl refl s.out (still_so s e))

pub has_issued : (settings : ProcSettings) (replies : List (Option Reply)) (s n : ProcState) → n ≡ acting settings settings.entry (taking (record { replies = replies; request_leaves = false }) s) → HasIssued s.out n
has_issued settings replies s n e = subst (λ m. HasIssued s.out m) (sym e) (acts settings settings.entry (taking (record { replies = replies; request_leaves = false }) s) refl)

-- a processor that shows nothing, and what it shows then
none_low : (a b : Option Request) → out_from a b ≡ None → a ≡ None
none_low None b e = refl
none_low (Some r) b e = cc

none_comb : (a b : Option Request) → out_from a b ≡ None → b ≡ None
none_comb None None e = refl
none_comb None (Some r) e = cc
none_comb (Some r) b e = cc

no_items : {T : Type 0} (xs : List T) → slice_get xs 0 ≡ None → xs ≡ []
no_items [] e = refl
no_items (x ∷ xs) e = cc

pub joins_alone : {T : Type 0} (q : ArrayVec T) (m : T) → head q ≡ None → joined q (Some m) ≡ record { items = m ∷ [] }
joins_alone q m e = ap (λ xs. joined (record { items = xs }) (Some m)) (no_items q.items e)

pub waits_none : {T : Type 0} (q : ArrayVec T) → head q ≡ None → length q.items ≡ 0
waits_none q e = ap length (no_items q.items e)

-- the request that a processor has issued is shown on its network
module _ (low comb low_new comb_new : ArrayVec Request) (s : ProcState) (o : Outgoing) (h : HasIssued (out_from (head low) (head comb)) s) (is : Some o ≡ cond s.sent s.out None) where
  was_sent : (t : Bool) → s.sent ≡ t → s.sent ≡ true
  was_sent true e = e
  was_sent false e = absurd (none_some (is ∙ ap (λ b. cond b s.out None) e))
    where
      none_some : Some o ≡ None → ⊥
      none_some g = cc

  sent : s.sent ≡ true
  sent = was_sent s.sent refl

  out_is : Some o ≡ s.out
  out_is = is ∙ ap (λ b. cond b s.out None) sent

  nothing : out_from (head low) (head comb) ≡ None
  nothing = (h.issued sent).0

  low_none : head low ≡ None
  low_none = none_low (head low) (head comb) nothing

  comb_none : head comb ≡ None
  comb_none = none_comb (head low) (head comb) nothing

  pub shows_low : o.net ≡ LowNet → low_new ≡ joined low (Some o.request) → comb_new ≡ comb → out_from (head low_new) (head comb_new) ≡ s.out
  shows_low net e f =
      ap (λ q. out_from (head q) (head comb_new)) (e ∙ joins_alone low o.request low_none)
      ∙ ap (λ n. Some (record { net = n; request = o.request })) (sym net) ∙ out_is

  pub shows_comb : o.net ≡ CombNet → low_new ≡ low → comb_new ≡ joined comb (Some o.request) → out_from (head low_new) (head comb_new) ≡ s.out
  shows_comb net e f =
      ap (λ q. out_from (head q) (head comb_new)) e ∙ ap (λ a. out_from a (head comb_new)) low_none
      ∙ ap (λ q. out_from None (head q)) (f ∙ joins_alone comb o.request comb_none)
      ∙ ap (λ n. Some (record { net = n; request = o.request })) (sym net) ∙ out_is

  pub one_low : low_new ≡ joined low (Some o.request) → comb_new ≡ comb → length low_new.items + length comb_new.items ≤ 1
  one_low e f =
      let a : length low_new.items ≡ 1 = ap (λ q. length q.items) (e ∙ joins_alone low o.request low_none) in
      let b : length comb_new.items ≡ 0 = ap (λ q. length q.items) f ∙ waits_none comb comb_none in
      omega (arith, a, b)

  pub one_comb : low_new ≡ low → comb_new ≡ joined comb (Some o.request) → length low_new.items + length comb_new.items ≤ 1
  one_comb e f =
      let a : length low_new.items ≡ 0 = ap (λ q. length q.items) e ∙ waits_none low low_none in
      let b : length comb_new.items ≡ 1 = ap (λ q. length q.items) (f ∙ joins_alone comb o.request comb_none) in
      omega (arith, a, b)

-- and without one it shows what it showed
pub shows_still : (before : Option Outgoing) (s : ProcState) → HasIssued before s → None ≡ cond s.sent s.out None → before ≡ s.out
shows_still before s h is = by_test s.sent refl
  where
    none_some : (o : Outgoing) → None ≡ Some o → ⊥
    none_some o g = cc

    by_test : (t : Bool) → s.sent ≡ t → before ≡ s.out
    by_test false e = sym (h.still e)
    by_test true e = let i = h.issued e in absurd (none_some i.1.0 (is ∙ ap (λ b. cond b s.out None) e ∙ i.1.1))

-- processors below n have acted, those of a set; and those of another set are as they were, and rest
pub record PartlyActed (P : Project) (n : ℕ) (low_got comb_got : Replies) (rests : ℕ) (old now : List ProcState) (low low_now comb comb_now : Queues Request) : Type 0 where
  pub many : length now ≡ length old
  pub low_same : SameLevel low low_now
  pub comb_same : SameLevel comb comb_now
  pub one : (p : ℕ) → ShowsOne low_now comb_now p
  pub done : (p : ℕ) → p < n → p < lines P.k → shown_with now low_now comb_now p ≡ acted P p (got_at low_got p) (got_at comb_got p) (shown_with old low comb p)
  pub still : (p : ℕ) → n ≤ p → shown_with now low_now comb_now p ≡ shown_with old low comb p
  pub stay : (p : ℕ) → p < 64 → p < lines P.k → has rests p ≡ true → shown_with now low_now comb_now p ≡ shown_with old low comb p
  pub rest : (p : ℕ) → p < 64 → p < lines P.k → has rests p ≡ true → Rests P p (shown_with now low_now comb_now p)

-- a processor that isn't asked to act is as if it had acted
pub as_acted : (P : Project) (low_got comb_got : Replies) (s : ProcState) (p : ℕ) → Stays P low_got comb_got s p → s ≡ acted P p (got_at low_got p) (got_at comb_got p) s
as_acted P low_got comb_got s p stays =
    sym (ap (λ t. acted P p (cond t (Some (reply_at low_got.at p)) None) (got_at comb_got p) s) stays.low_none
    ∙ ap (λ t. acted P p None (cond t (Some (reply_at comb_got.at p)) None) s) stays.comb_none
    ∙ stays.rests)

module _ (P : Project) (low_got comb_got : Replies) (active : ℕ) (old : List ProcState) (low comb : Queues Request)
    (others : (p : ℕ) → p < lines P.k → has active p ≡ false → Stays P low_got comb_got (shown_with old low comb p) p) where
  pub none_acted : ((p : ℕ) → ShowsOne low comb p) → (rests : ℕ) → ((p : ℕ) → p < 64 → has rests p ≡ true → has active p ≡ false) → PartlyActed P 0 low_got comb_got rests old old low low comb comb
  none_acted one rests none = record {
    many = refl;
    low_same = same_level low;
    comb_same = same_level comb;
    one = one;
    done = λ p h within. absurd (omega arith);
    still = λ p h. refl;
    stay = λ p small within so. refl;
    rest = λ p small within so. (others p within (none p small so)).rests;
  }

  module _ (n : ℕ) (rests : ℕ) (now : List ProcState) (low_now comb_now : Queues Request) (partly : PartlyActed P n low_got comb_got rests old now low low_now comb comb_now) where
    -- so far those that aren't asked to act are as if they had acted
    not_asked : (p : ℕ) → n ≤ p → p < lines P.k → has active p ≡ false → shown_with now low_now comb_now p ≡ acted P p (got_at low_got p) (got_at comb_got p) (shown_with old low comb p)
    not_asked p le within out = partly.still p le ∙ as_acted P low_got comb_got (shown_with old low comb p) p (others p within out)

    -- up to a place, where none is asked from n on
    up_to : (x : ℕ) → ((y : ℕ) → n ≤ y → y < x → y < lines P.k → has active y ≡ false) → (p : ℕ) → p < x → p < lines P.k → shown_with now low_now comb_now p ≡ acted P p (got_at low_got p) (got_at comb_got p) (shown_with old low comb p)
    up_to x none p h within = elim (cases_lt p n) [
      | inl g ↦ partly.done p g within
      | inr g ↦ not_asked p g within (none p g h within)
    ]

    pub all_acted : ((y : ℕ) → n ≤ y → y < 64 → has active y ≡ false) → P.k ≤ 6 → (p : ℕ) → p < lines P.k → shown_with now low_now comb_now p ≡ acted P p (got_at low_got p) (got_at comb_got p) (shown_with old low comb p)
    all_acted none few p within = up_to 64 (λ y le s w. none y le s) p (label_small few within) within

    module _ (x : ℕ) (small : x < 64) (le : n ≤ x) (none : (y : ℕ) → n ≤ y → y < x → has active y ≡ false) where
      -- at a place where there is no processor nothing is done, and its label is marked
      pub none_there : lines P.k ≤ x → (later : ℕ) → IsSetOf (λ y. cond (y == x) true (has rests y)) later → PartlyActed P (x + 1) low_got comb_got later old now low low_now comb comb_now
      none_there past later marked = record {
        many = partly.many;
        low_same = partly.low_same;
        comb_same = partly.comb_same;
        one = partly.one;
        done = λ p h within. up_to x (λ y l s w. none y l s) p (omega (arith, within, past)) within;
        still = λ p h. partly.still p (omega (arith, h, le));
        stay = λ p s within so. partly.stay p s within (elsewhere p s within so (p == x) refl);
        rest = λ p s within so. partly.rest p s within (elsewhere p s within so (p == x) refl);
      }
        where
          elsewhere : (p : ℕ) → p < 64 → p < lines P.k → has later p ≡ true → (t : Bool) → (p == x) ≡ t → has rests p ≡ true
          elsewhere p s within so true e = let is : p ≡ x = eqb-true p x e in absurd (omega (arith, is, within, past))
          elsewhere p s within so false e = ap (λ b. cond b true (has rests p)) (sym e) ∙ sym (marked p s) ∙ so

      module _ (new : List ProcState) (low_new comb_new : Queues Request) (later : ℕ) (mark : Bool)
          (many : length new ≡ length now) (low_kept : SameLevel low_now low_new) (comb_kept : SameLevel comb_now comb_new) (one : ShowsOne low_new comb_new x)
          (acts_so : shown_with new low_new comb_new x ≡ acted P x (got_at low_got x) (got_at comb_got x) (shown_with now low_now comb_now x))
          (stays_so : mark ≡ true → shown_with new low_new comb_new x ≡ shown_with now low_now comb_now x)
          (rests_so : mark ≡ true → Rests P x (shown_with new low_new comb_new x))
          (others_so : (q : ℕ) → (q ≡ x → ⊥) → proc_at new q ≡ proc_at now q) (low_others : (q : ℕ) → (q ≡ x → ⊥) → queue_at low_new.queues q ≡ queue_at low_now.queues q)
          (comb_others : (q : ℕ) → (q ≡ x → ⊥) → queue_at comb_new.queues q ≡ queue_at comb_now.queues q)
          (marked : IsSetOf (λ y. cond (y == x) mark (has rests y)) later) where
        alike : (q : ℕ) → (q ≡ x → ⊥) → shown_with new low_new comb_new q ≡ shown_with now low_now comb_now q
        alike q ne =
            ap (λ s. with_out s (out_from (head (queue_at low_new.queues q)) (head (queue_at comb_new.queues q)))) (others_so q ne)
            ∙ ap (λ v. with_out (proc_at now q) (out_from (head v) (head (queue_at comb_new.queues q)))) (low_others q ne)
            ∙ ap (λ v. with_out (proc_at now q) (out_from (head (queue_at low_now.queues q)) (head v))) (comb_others q ne)

        ne : (p : ℕ) → (p == x) ≡ false → p ≡ x → ⊥
        ne p e g = false_true (sym e ∙ eq-eqb p x g)

        by_one : (p : ℕ) (t : Bool) → (p == x) ≡ t → ShowsOne low_new comb_new p
        by_one p true e = subst (λ q. ShowsOne low_new comb_new q) (sym (eqb-true p x e)) one
        by_one p false e =
            let a : length (queue_at low_new.queues p).items ≡ length (queue_at low_now.queues p).items = ap (λ v. length v.items) (low_others p (ne p e)) in
            let b : length (queue_at comb_new.queues p).items ≡ length (queue_at comb_now.queues p).items = ap (λ v. length v.items) (comb_others p (ne p e)) in
            let c : length (queue_at low_now.queues p).items + length (queue_at comb_now.queues p).items ≤ 1 = partly.one p in
            omega (arith, a, b, c)

        by_done : (p : ℕ) → p < x + 1 → p < lines P.k → (t : Bool) → (p == x) ≡ t → shown_with new low_new comb_new p ≡ acted P p (got_at low_got p) (got_at comb_got p) (shown_with old low comb p)
        by_done p h within true e =
            let is : p ≡ x = eqb-true p x e in
            ap (shown_with new low_new comb_new) is ∙ acts_so ∙ ap (acted P x (got_at low_got x) (got_at comb_got x)) (partly.still x le)
            ∙ ap (λ q. acted P q (got_at low_got q) (got_at comb_got q) (shown_with old low comb q)) (sym is)
        by_done p h within false e = alike p (ne p e) ∙ up_to x (λ y l s w. none y l s) p (before (cases_lt p x)) within
          where
            before : (p < x) ⊎ (x ≤ p) → p < x
            before (inl g) = g
            before (inr g) = absurd (ne p e (omega (arith, g, h)))

        mark_is : (p : ℕ) → p < 64 → (t : Bool) → (p == x) ≡ t → has later p ≡ true → cond t mark (has rests p) ≡ true
        mark_is p s t e so = ap (λ b. cond b mark (has rests p)) (sym e) ∙ sym (marked p s) ∙ so

        by_stay : (p : ℕ) → p < 64 → p < lines P.k → has later p ≡ true → (t : Bool) → (p == x) ≡ t → shown_with new low_new comb_new p ≡ shown_with old low comb p
        by_stay p s within so true e =
            let is : p ≡ x = eqb-true p x e in
            ap (shown_with new low_new comb_new) is ∙ stays_so (mark_is p s true e so) ∙ partly.still x le ∙ ap (shown_with old low comb) (sym is)
        by_stay p s within so false e = alike p (ne p e) ∙ partly.stay p s within (mark_is p s false e so)

        by_rest : (p : ℕ) → p < 64 → p < lines P.k → has later p ≡ true → (t : Bool) → (p == x) ≡ t → Rests P p (shown_with new low_new comb_new p)
        by_rest p s within so true e = subst (λ q. Rests P q (shown_with new low_new comb_new q)) (sym (eqb-true p x e)) (rests_so (mark_is p s true e so))
        by_rest p s within so false e = subst (λ v. Rests P p v) (sym (alike p (ne p e))) (partly.rest p s within (mark_is p s false e so))

        pub one_acted : PartlyActed P (x + 1) low_got comb_got later old new low low_new comb comb_new
        one_acted = record {
          many = many ∙ partly.many;
          low_same = level_twice low low_now low_new partly.low_same low_kept;
          comb_same = level_twice comb comb_now comb_new partly.comb_same comb_kept;
          one = λ p. by_one p (p == x) refl;
          done = λ p h within. by_done p h within (p == x) refl;
          still = λ p h. alike p (λ e. omega (arith, e, h)) ∙ partly.still p (omega (arith, h, le));
          stay = λ p s within so. by_stay p s within so (p == x) refl;
          rest = λ p s within so. by_rest p s within so (p == x) refl;
        }

-- the processor that is put back shows what the levels show
module _ (procs : List ProcState) (low comb : Queues Request) (p : ℕ) (there : p < length procs) (n : ProcState) (shown : out_from (head (queue_at low.queues p)) (head (queue_at comb.queues p)) ≡ n.out) where
  pub put_acted : shown_with (set procs p n) low comb p ≡ n
  put_acted =
      ap (λ s. with_out s (out_from (head (queue_at low.queues p)) (head (queue_at comb.queues p)))) (get_or-set_same procs p n proc_start there)
      ∙ ap (with_out n) shown

  pub put_others : (q : ℕ) → (q ≡ p → ⊥) → proc_at (set procs p n) q ≡ proc_at procs q
  put_others q ne = get_or-set_other procs p q n proc_start ne

-- a processor that got no reply, and is as it was, rests
pub rests_then : (P : Project) (p : ℕ) (low comb : Option Reply) (own next : ProcState) → next ≡ acted P p low comb own → low ≡ None → comb ≡ None → next ≡ own → Rests P p next
rests_then P p low comb own next acts a b same =
    ap (acted P p None None) same ∙ ap (λ y. acted P p y None own) (sym a) ∙ ap (λ y. acted P p low y own) (sym b) ∙ sym acts
