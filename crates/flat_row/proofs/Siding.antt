-- One network in a step.
use Rattle.std.proofs.Common.{◌≡◌, ℕ, suc, ◌<◌, ◌≤◌, List, length, get_or, refl, ap, sym, ◌∙◌, subst, None, Some, true, cond, arith}
use Rattle.std.proofs.Math.ListN.{set}
use Rattle.std.proofs.lemmas.List.{get_or-set_same, get_or-set_other}
use Rattle.std.specs.Prelude.{◌-◌, slice_index_or}
use Rattle.std.proofs.lemmas.Bool.{le-ltb}
use Rattle.mem_module.specs.MemModule.{words_after, answer_to}
use Rattle.omega_net.specs.declared.message.Request.{Request}
use Rattle.omega_net.specs.declared.message.Reply.{Reply}
use Rattle.omega_net.specs.Numbers.{lines}
use Rattle.omega_net.specs.Queues.{head, without_head, joined}
use Rattle.omega_net.specs.Ports.{queue_at}
use Rattle.mem_module.specs.declared.words.Stored.{Stored}
use Rattle.ref_proc.specs.declared.state.ProcState.{ProcState}
use Rattle.project_book.specs.Project.{Project}
use Rattle.flat_row.specs.Masks.{has}
use Rattle.flat_row.specs.Queues.{Queues}
use Rattle.flat_row.specs.Row.{Network, Buffers, Rests, no_queues, level_at, queue_of}
use Rattle.flat_row.specs.Rows.{if_leaves}
use Rattle.flat_row.specs.Combining.{SameLevel}
use Rattle.flat_row.specs.declared.acting.Replies.{Replies}
use Rattle.flat_row.specs.Ends.{reply_at, got_at, AllServed, AreAnswered, AllReceived, ShowsOne, shown_with, acted}
use Rattle.flat_row.specs.Labels.{port}
use Rattle.flat_row.specs.Stages.{CombBack, buffers_in}
use Rattle.flat_row.specs.Moving.{SameShape, arrival, left_back, back_after}
use Rattle.flat_row.specs.Step.{OnlyModules, NetReceived, NetAnswered, OnlyRequests, OnlyReplies, BothActed, BothServed, Departed, Returned, CombsReturned}
use Rattle.flat_row.proofs.Passing.{level_found, shape_with, shape_same, shape_twice}
use Rattle.flat_row.proofs.Crossed.{splitting_local}

-- a network of these parts
abbrev pub net_of : List (Queues Request) → List (Queues Reply) → List ℕ → List ℕ → Network
net_of requests replies turns back_turns = record { requests = requests; replies = replies; turns = turns; back_turns = back_turns }

-- a level in the place of another one
module _ {T : Type 0} (levels : List (Queues T)) (at : ℕ) (level new : Queues T) (there : at < length levels) (q_is : level ≡ get_or levels at level) where
  pub level_is : level ≡ level_at levels at
  level_is = level_found levels at level q_is there

  pub put_shape : SameLevel level new → SameShape levels (set levels at new)
  put_shape same = shape_with levels at new there (same.many ∙ ap (λ v. length v.queues) level_is) (same.rule ∙ ap (λ v. v.rule) level_is)

  pub level_put : level_at (set levels at new) at ≡ new
  level_put = get_or-set_same levels at new no_queues there

  pub level_rest : (l z : ℕ) → (l ≡ at → ⊥) → queue_of (set levels at new) l z ≡ queue_of levels l z
  level_rest l z ne = ap (λ v. queue_at v.queues z) (get_or-set_other levels at l new no_queues ne)

module _ (now : Network) (requests : List (Queues Request)) (replies : List (Queues Reply)) (turns back : List ℕ) (is : net_of requests replies turns back ≡ now) where
  pub answered_in : (k at modules : ℕ) (answers : List Reply) (level new : Queues Reply) → at ≡ k → at < length replies → level ≡ get_or replies at level → SameLevel level new → AreAnswered modules answers level new
      → NetAnswered k modules answers now (net_of requests (set replies at new) turns back)
  answered_in k at modules answers level new e there q same answered = subst (λ n. NetAnswered k modules answers n (net_of requests (set replies at new) turns back)) is (record {
    requests = refl;
    turns = refl;
    back_turns = refl;
    shape = put_shape replies at level new there q same;
    last = λ z small.
        ap (λ n. queue_of (set replies at new) n z) (sym e) ∙ ap (λ v. queue_at v.queues z) (level_put replies at level new there q) ∙ answered z small
        ∙ ap (λ v. joined (queue_at v.queues z) (cond (has modules z) (Some (reply_at answers z)) None)) (level_is replies at level new there q)
        ∙ ap (λ n. joined (queue_of replies n z) (cond (has modules z) (Some (reply_at answers z)) None)) e;
    rest = λ l z ne. level_rest replies at level new there q l z (λ f. ne (f ∙ e));
  })

  pub received_in : (those : ℕ) (got : Replies) (level new : Queues Reply) → 0 < length replies → level ≡ get_or replies 0 level → SameLevel level new → AllReceived those level new got
      → NetReceived those now (net_of requests (set replies 0 new) turns back) got
  received_in those got level new there q same received = subst (λ n. NetReceived those n (net_of requests (set replies 0 new) turns back) got) is (record {
    requests = refl;
    turns = refl;
    back_turns = refl;
    shape = put_shape replies 0 level new there q same;
    took = λ z small. ap (λ v. queue_at v.queues z) (level_put replies 0 level new there q) ∙ received.queues z small ∙ ap (λ v. without_head (has those z) (queue_at v.queues z)) (level_is replies 0 level new there q);
    rest = λ l z h. level_rest replies 0 level new there q l z (λ f. omega (arith, f, h));
    messages = λ p small. received.messages p small ∙ ap (λ v. if_leaves (has those p) (queue_at v.queues p)) (level_is replies 0 level new there q);
  })

  pub served_only : (k at : ℕ) (level new : Queues Request) → at ≡ suc k → at < length requests → level ≡ get_or requests at level → SameLevel level new
      → OnlyModules k now (net_of (set requests at new) replies turns back)
  served_only k at level new e there q same = subst (λ n. OnlyModules k n (net_of (set requests at new) replies turns back)) is (record {
    replies = refl;
    turns = refl;
    back_turns = refl;
    shape = put_shape requests at level new there q same;
    others = λ l z ne. level_rest requests at level new there q l z (λ f. ne (f ∙ e));
  })

  pub served_in : (k at modules : ℕ) (level new : Queues Request) (words next : List (List Stored)) (answers : List Reply) → at ≡ suc k → at < length requests → level ≡ get_or requests at level
      → AllServed modules level new words next answers → AllServed modules (level_at now.requests (suc k)) (level_at (set requests at new) (suc k)) words next answers
  served_in k at modules level new words next answers e there q served =
      subst (λ n. AllServed modules (level_at n.requests (suc k)) (level_at (set requests at new) (suc k)) words next answers) is
      (subst (λ l. AllServed modules (level_at requests l) (level_at (set requests at new) l) words next answers) e
      (subst (λ v. AllServed modules v (level_at (set requests at new) at) words next answers) (level_is requests at level new there q)
      (subst (λ v. AllServed modules level v words next answers) (sym (level_put requests at level new there q)) served)))

  pub requests_only : (new : List (Queues Request)) → SameShape requests new → OnlyRequests now (net_of new replies turns back)
  requests_only new shape = subst (λ n. OnlyRequests n (net_of new replies turns back)) is (record { replies = refl; turns = refl; back_turns = refl; shape = shape })

  pub replies_only : (new : List (Queues Reply)) → SameShape replies new → OnlyReplies now (net_of requests new turns back)
  replies_only new shape = subst (λ n. OnlyReplies n (net_of requests new turns back)) is (record { requests = refl; turns = refl; back_turns = refl; shape = shape })

-- processors act on both networks
pub acted_in : (P : Project) (low comb : Network) (la : List (Queues Request)) (lb : List (Queues Reply)) (lc ld : List ℕ) (ca : List (Queues Request)) (cb : List (Queues Reply)) (cc cd : List ℕ)
    → net_of la lb lc ld ≡ low → net_of ca cb cc cd ≡ comb
    → (low_level low_new comb_level comb_new : Queues Request) → 0 < length la → 0 < length ca → low_level ≡ get_or la 0 low_level → comb_level ≡ get_or ca 0 comb_level
    → SameLevel low_level low_new → SameLevel comb_level comb_new → (low_got comb_got : Replies) (rests : ℕ) (procs next : List ProcState) → length next ≡ length procs
    → ((p : ℕ) → ShowsOne low_new comb_new p)
    → ((p : ℕ) → p < lines P.k → shown_with next low_new comb_new p ≡ acted P p (got_at low_got p) (got_at comb_got p) (shown_with procs low_level comb_level p))
    → ((p : ℕ) → p < lines P.k → has rests p ≡ true → shown_with next low_new comb_new p ≡ shown_with procs low_level comb_level p)
    → ((p : ℕ) → p < lines P.k → has rests p ≡ true → Rests P p (shown_with next low_new comb_new p))
    → BothActed P low_got comb_got rests low (net_of (set la 0 low_new) lb lc ld) comb (net_of (set ca 0 comb_new) cb cc cd) procs next
acted_in P low comb la lb lc ld ca cb cc cd low_is comb_is low_level low_new comb_level comb_new low_there comb_there low_q comb_q low_same comb_same low_got comb_got rests procs next many one acts stay rest = record {
  low_only = requests_only low la lb lc ld low_is (set la 0 low_new) (put_shape la 0 low_level low_new low_there low_q low_same);
  comb_only = requests_only comb ca cb cc cd comb_is (set ca 0 comb_new) (put_shape ca 0 comb_level comb_new comb_there comb_q comb_same);
  many = many;
  low_others = λ l z h. level_rest la 0 low_level low_new low_there low_q l z (λ f. omega (arith, f, h)) ∙ ap (λ n. queue_of n.requests l z) low_is;
  comb_others = λ l z h. level_rest ca 0 comb_level comb_new comb_there comb_q l z (λ f. omega (arith, f, h)) ∙ ap (λ n. queue_of n.requests l z) comb_is;
  one = λ p. subst (λ v. ShowsOne v (level_at (set ca 0 comb_new) 0) p) (sym low_put) (subst (λ v. ShowsOne low_new v p) (sym comb_put) (one p));
  acts = λ p within.
      ap (λ v. shown_with next v (level_at (set ca 0 comb_new) 0) p) low_put ∙ ap (λ v. shown_with next low_new v p) comb_put ∙ acts p within
      ∙ ap (λ v. acted P p (got_at low_got p) (got_at comb_got p) (shown_with procs v comb_level p)) low_was
      ∙ ap (λ v. acted P p (got_at low_got p) (got_at comb_got p) (shown_with procs (level_at low.requests 0) v p)) comb_was;
  stay = λ p within so.
      ap (λ v. shown_with next v (level_at (set ca 0 comb_new) 0) p) low_put ∙ ap (λ v. shown_with next low_new v p) comb_put ∙ stay p within so
      ∙ ap (λ v. shown_with procs v comb_level p) low_was ∙ ap (λ v. shown_with procs (level_at low.requests 0) v p) comb_was;
  rest = λ p within so. subst (λ v. Rests P p (shown_with next v (level_at (set ca 0 comb_new) 0) p)) (sym low_put) (subst (λ v. Rests P p (shown_with next low_new v p)) (sym comb_put) (rest p within so));
}
  where
    low_put : level_at (set la 0 low_new) 0 ≡ low_new
    low_put = level_put la 0 low_level low_new low_there low_q

    comb_put : level_at (set ca 0 comb_new) 0 ≡ comb_new
    comb_put = level_put ca 0 comb_level comb_new comb_there comb_q

    low_was : low_level ≡ level_at low.requests 0
    low_was = level_is la 0 low_level low_new low_there low_q ∙ ap (λ n. level_at n.requests 0) low_is

    comb_was : comb_level ≡ level_at comb.requests 0
    comb_was = level_is ca 0 comb_level comb_new comb_there comb_q ∙ ap (λ n. level_at n.requests 0) comb_is

-- a network is as it was
pub only_same : (k : ℕ) (n : Network) → OnlyModules k n n
only_same k n = record { replies = refl; turns = refl; back_turns = refl; shape = shape_same n.requests; others = λ l z ne. refl }

-- both networks are served, one after the other
pub both_served : (k low comb : ℕ) (low_old low_new comb_old comb_new : Network) (words among next : List (List Stored)) (low_answers comb_answers : List Reply)
    → AllServed low (level_at low_old.requests (suc k)) (level_at low_new.requests (suc k)) words among low_answers
    → AllServed comb (level_at comb_old.requests (suc k)) (level_at comb_new.requests (suc k)) among next comb_answers
    → BothServed k low comb low_old low_new comb_old comb_new words next low_answers comb_answers
both_served k low comb low_old low_new comb_old comb_new words among next low_answers comb_answers a b = record {
  low_queues = a.queues;
  comb_queues = b.queues;
  stored = λ m small. b.stored m small ∙ ap (λ w. words_after w (if_leaves (has comb m) (queue_of comb_old.requests (suc k) m))) (a.stored m small);
  low_made = a.made;
  comb_made = λ m small has_it. b.made m small has_it ∙ ap (λ w. answer_to w (head (queue_of comb_old.requests (suc k) m))) (a.stored m small);
}

-- requests move, then processors receive
pub departed_by : (those : ℕ) (old mid new : Network) (got : Replies) → OnlyRequests old mid → NetReceived those mid new got → Departed those old new got
departed_by those old mid new got o r = record {
  turns = r.turns ∙ o.turns;
  back_turns = r.back_turns ∙ o.back_turns;
  requests_shape = subst (λ rs. SameShape old.requests rs) (sym r.requests) o.shape;
  replies_shape = subst (λ rs. SameShape rs new.replies) o.replies r.shape;
  took = λ z small. r.took z small ∙ ap (λ rs. without_head (has those z) (queue_of rs 0 z)) o.replies;
  rest = λ l z h. r.rest l z h ∙ ap (λ rs. queue_of rs l z) o.replies;
  messages = λ p small. r.messages p small ∙ ap (λ rs. if_leaves (has those p) (queue_of rs 0 p)) o.replies;
}

-- replies move, then modules answer, then the turns go on
pub returned_by : (k : ℕ) (back : List ℕ) (modules : ℕ) (answers : List Reply) (turns back_turns : List ℕ) (old mid last new : Network) → OnlyReplies old mid → NetAnswered k modules answers mid last
    → ((z : ℕ) → z < 64 → queue_of mid.replies k z ≡ left_back back old.replies k z)
    → new.requests ≡ last.requests → new.replies ≡ last.replies → new.turns ≡ turns → new.back_turns ≡ back_turns → Returned k back modules answers turns back_turns old new
returned_by k back modules answers turns back_turns old mid last new o a at requests replies t b = record {
  requests = requests ∙ a.requests ∙ o.requests;
  shape = subst (λ rs. SameShape old.replies rs) (sym replies) (shape_twice old.replies mid.replies last.replies o.shape a.shape);
  turns_so = t;
  back_turns_so = b;
  last = λ z small. ap (λ rs. queue_of rs k z) replies ∙ a.last z small ∙ ap (λ q. joined q (cond (has modules z) (Some (reply_at answers z)) None)) (at z small);
}

-- at the modules nothing comes from a stage behind
pub back_end : {T : Type 0} (route : T → ℕ) (k : ℕ) (back : List ℕ) (levels : List (Queues T)) (z : ℕ) → back_after route k back levels k z ≡ left_back back levels k z
back_end route k back levels z =
    ap (λ t. cond t (joined (joined (left_back back levels k z) (arrival route (k - 1 - k) (has (slice_index_or back k 0)) levels (suc k) 0 z)) (arrival route (k - 1 - k) (has (slice_index_or back k 0)) levels (suc k) 1 z)) (left_back back levels k z))
    (le-ltb k k (omega arith))

-- the combining network's replies have come back
pub combs_by : (P : Project) → P.k ≤ 6 → (back : List ℕ) (modules : ℕ) (answers : List Reply) (old mid last new : Network) (waits next : List Buffers) → CombBack P back old.replies mid.replies waits next
    → NetAnswered P.k modules answers mid last → new.replies ≡ last.replies → CombsReturned P back old new waits next
combs_by P few back modules answers old mid last new waits next crossed a replies = record {
  buffers = crossed.buffers;
  switches = λ s x lt small first.
      let alike : (z : ℕ) → queue_of new.replies s z ≡ queue_of mid.replies s z = (λ z. ap (λ rs. queue_of rs s z) replies ∙ a.rest s z (λ e. omega (arith, e, lt))) in
      splitting_local (P.k - 1 - s) (queue_of new.replies s) (queue_of mid.replies s) (buffers_in next s) (buffers_in next s) x (alike (port (P.k - 1 - s) 0 x)) (alike (port (P.k - 1 - s) 1 x)) refl refl
      ∙ crossed.switches s x lt small first;
}
