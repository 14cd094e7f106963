-- What modules and processors do in a cycle, one label after another.
use Rattle.std.proofs.Common.{◌≡◌, ℕ, ◌+◌, ◌<◌, ◌≤◌, Bool, true, false, cond, List, [], length, refl, ap, sym, ◌∙◌, subst, ◌⊎◌, inl, inr, Option, None, Some, arith}
use Rattle.std.proofs.Math.ListN.{set, length-set}
use Rattle.std.proofs.lemmas.List.{get_or-set_same, get_or-set_other, get_or_past}
use Rattle.std.proofs.lemmas.Bool.{cases_lt, eqb-true, eq-eqb, ne_eqb, lt-ltb, le-ltb}
use Rattle.std.specs.Prelude.{◌==◌, ◌&&◌, IsSome}
use Rattle.arrayvec.specs.ArrayVec.{ArrayVec}
use Rattle.omega_net.specs.declared.message.Request.{Request}
use Rattle.omega_net.specs.declared.message.Reply.{Reply}
use Rattle.omega_net.specs.Queues.{head, without_head, joined}
use Rattle.omega_net.specs.Ports.{queue_at, empty}
use Rattle.mem_module.specs.declared.words.Stored.{Stored}
use Rattle.mem_module.specs.MemModule.{answer_to, words_after}
use Rattle.flat_row.specs.Masks.{has, IsSetOf}
use Rattle.flat_row.specs.Queues.{Queues, with_queue}
use Rattle.flat_row.specs.Rows.{if_leaves}
use Rattle.flat_row.specs.Combining.{SameLevel}
use Rattle.flat_row.specs.declared.acting.Replies.{Replies}
use Rattle.flat_row.specs.Ends.{no_reply, reply_at, words_of, AllServed, AreAnswered, AllReceived, Wrote}
use Rattle.flat_row.proofs.Starting.{none_in}
use Rattle.flat_row.proofs.Carrying.{upto, upto_other, upto_here, upto_later, upto_none, false_true}

-- a queue in which something waits is there
pub some_within : {T : Type 0} (queues : List (ArrayVec T)) (x : ℕ) → IsSome (head (queue_at queues x)) → x < length queues
some_within queues x some = elim (cases_lt x (length queues)) [
  | inl h ↦ h
  | inr h ↦ absurd (false_true (subst (λ q. IsSome (head q)) (get_or_past queues x empty h) some))
]

pub same_level : {T : Type 0} (q : Queues T) → SameLevel q q
same_level q = record { many = refl; rule = refl }

pub level_twice : {T : Type 0} (a b c : Queues T) → SameLevel a b → SameLevel b c → SameLevel a c
level_twice a b c p q = record { many = q.many ∙ p.many; rule = q.rule ∙ p.rule }

-- another queue in a level
module _ {T : Type 0} (old new : Queues T) (x : ℕ) (q : ArrayVec T) (changed : new ≡ with_queue old x q) where
  pub changed_same : SameLevel old new
  changed_same = record { many = ap (λ l. length l.queues) changed ∙ length-set old.queues x q; rule = ap (λ l. l.rule) changed }

  pub changed_here : x < length old.queues → queue_at new.queues x ≡ q
  changed_here there = ap (λ l. queue_at l.queues x) changed ∙ get_or-set_same old.queues x q empty there

  pub changed_other : (z : ℕ) → (z ≡ x → ⊥) → queue_at new.queues z ≡ queue_at old.queues z
  changed_other z ne = ap (λ l. queue_at l.queues z) changed ∙ get_or-set_other old.queues x z q empty ne

-- all that is in a set was below n
pub upto_all : (set n z : ℕ) → z < 64 → ((y : ℕ) → n ≤ y → y < 64 → has set y ≡ false) → upto set n z ≡ has set z
upto_all set n z small none = by_place (cases_lt z n)
  where
    by_place : (z < n) ⊎ (n ≤ z) → upto set n z ≡ has set z
    by_place (inl g) = ap (λ t. t && has set z) (lt-ltb z n g)
    by_place (inr g) = ap (λ t. t && has set z) (le-ltb z n g) ∙ sym (none z g small)

-- modules below n have served
pub record PartlyServed (modules n : ℕ) (old now : Queues Request) (words among : List (List Stored)) (after : List Reply) : Type 0 where
  pub same : SameLevel old now
  pub many : length among ≡ length words
  pub places : length after ≡ 64
  pub queues : (m : ℕ) → m < 64 → queue_at now.queues m ≡ without_head (upto modules n m) (queue_at old.queues m)
  pub stored : (m : ℕ) → m < 64 → words_of among m ≡ words_after (words_of words m) (if_leaves (upto modules n m) (queue_at old.queues m))
  pub answers : (m : ℕ) → m < 64 → upto modules n m ≡ true → Some (reply_at after m) ≡ answer_to (words_of words m) (head (queue_at old.queues m))

pub none_wrote : (words : List (List Stored)) → Wrote 0 words words
none_wrote words = record { same = λ m s out. refl; other = λ m s told alike. none_in m told }

pub none_within : (modules m : ℕ) → m < 64 → has 0 m ≡ true → has modules m ≡ true
none_within modules m s told = absurd (none_in m told)

module _ (modules : ℕ) (old : Queues Request) (words : List (List Stored)) where
  pub none_served : (answers : List Reply) → length answers ≡ 64 → PartlyServed modules 0 old old words words answers
  none_served answers long = record {
    same = same_level old;
    many = refl;
    places = long;
    queues = λ m small. sym (ap (λ t. without_head t (queue_at old.queues m)) (upto_none modules m));
    stored = λ m small. sym (ap (λ t. words_after (words_of words m) (if_leaves t (queue_at old.queues m))) (upto_none modules m));
    answers = λ m small e. absurd (false_true (sym (upto_none modules m) ∙ e));
  }

  module _ (n : ℕ) (now : Queues Request) (among : List (List Stored)) (after : List Reply) (partly : PartlyServed modules n old now words among after) where
    pub all_served : ((y : ℕ) → n ≤ y → y < 64 → has modules y ≡ false) → AllServed modules old now words among after
    all_served none = record {
      queues = λ m small. partly.queues m small ∙ ap (λ t. without_head t (queue_at old.queues m)) (upto_all modules n m small none);
      stored = λ m small. partly.stored m small ∙ ap (λ t. words_after (words_of words m) (if_leaves t (queue_at old.queues m))) (upto_all modules n m small none);
      made = λ m small e. partly.answers m small (upto_all modules n m small none ∙ e);
    }

    module _ (x : ℕ) (small : x < 64) (le : n ≤ x) (none : (y : ℕ) → n ≤ y → y < x → has modules y ≡ false) (here : has modules x ≡ true) where
      not_yet : upto modules n x ≡ false
      not_yet = upto_later modules n x le

      pub queue_there : queue_at now.queues x ≡ queue_at old.queues x
      queue_there = partly.queues x small ∙ ap (λ t. without_head t (queue_at old.queues x)) not_yet

      pub words_there : words_of among x ≡ words_of words x
      words_there = partly.stored x small ∙ ap (λ t. words_after (words_of words x) (if_leaves t (queue_at old.queues x))) not_yet

      pub some_served : ((m : ℕ) → m < 64 → has modules m ≡ true → IsSome (head (queue_at old.queues m))) → IsSome (head (queue_at now.queues x))
      some_served some = subst (λ q. IsSome (head q)) (sym queue_there) (some x small here)

      pub within_now : ((m : ℕ) → m < 64 → has modules m ≡ true → IsSome (head (queue_at old.queues m))) → x < length now.queues
      within_now some = some_within now.queues x (some_served some)

      pub within_words : ((m : ℕ) → m < 64 → has modules m ≡ true → IsSome (head (queue_at old.queues m))) → length old.queues ≤ length words → x < length among
      within_words some le_words = omega (arith, within_now some, partly.same.many, partly.many, le_words)

      -- and what is written
      module _ (wrote later : ℕ) (next : List (List Stored)) (w : List Stored) (writes : Bool) (words_in : x < length among) (put : next ≡ set among x w)
          (same : writes ≡ false → w ≡ words_of among x) (other : writes ≡ true → w ≡ words_of among x → ⊥)
          (is : IsSetOf (λ y. cond (y == x) writes (has wrote y)) later) where
        at_or_not : (m : ℕ) → (m ≡ x) ⊎ (m ≡ x → ⊥)
        at_or_not m = by_test (m == x) refl
          where
            by_test : (t : Bool) → (m == x) ≡ t → (m ≡ x) ⊎ (m ≡ x → ⊥)
            by_test true e = inl (eqb-true m x e)
            by_test false e = inr (λ g. false_true (sym e ∙ eq-eqb m x g))

        words_here : words_of next x ≡ w
        words_here = ap (λ ws. words_of ws x) put ∙ get_or-set_same among x w [] words_in

        words_other : (m : ℕ) → (m ≡ x → ⊥) → words_of next m ≡ words_of among m
        words_other m ne = ap (λ ws. words_of ws m) put ∙ get_or-set_other among x m w [] ne

        told_here : has later x ≡ writes
        told_here = is x small ∙ ap (λ t. cond t writes (has wrote x)) (eq-eqb x x refl)

        told_other : (m : ℕ) → m < 64 → (m ≡ x → ⊥) → has later m ≡ has wrote m
        told_other m s ne = is m s ∙ ap (λ t. cond t writes (has wrote m)) (ne_eqb m x ne)

        pub one_wrote : Wrote wrote words among → Wrote later words next
        one_wrote before = record { same = same_now; other = other_now }
          where
            same_now : (m : ℕ) → m < 64 → has later m ≡ false → words_of next m ≡ words_of words m
            same_now m s out = elim (at_or_not m) [
              | inl e ↦ subst (λ y. words_of next y ≡ words_of words y) (sym e) (words_here ∙ same (sym told_here ∙ ap (has later) (sym e) ∙ out) ∙ words_there)
              | inr ne ↦ words_other m ne ∙ before.same m s (sym (told_other m s ne) ∙ out)
            ]

            other_now : (m : ℕ) → m < 64 → has later m ≡ true → words_of next m ≡ words_of words m → ⊥
            other_now m s told alike = elim (at_or_not m) [
              | inl e ↦ other (sym told_here ∙ ap (has later) (sym e) ∙ told) (sym words_here ∙ subst (λ y. words_of next y ≡ words_of words y) e alike ∙ sym words_there)
              | inr ne ↦ before.other m s (sym (told_other m s ne) ∙ told) (sym (words_other m ne) ∙ alike)
            ]

        pub one_within : ((m : ℕ) → m < 64 → has wrote m ≡ true → has modules m ≡ true) → (m : ℕ) → m < 64 → has later m ≡ true → has modules m ≡ true
        one_within before m s told = elim (at_or_not m) [
          | inl e ↦ ap (has modules) e ∙ here
          | inr ne ↦ before m s (sym (told_other m s ne) ∙ told)
        ]

      module _ (new : Queues Request) (next : List (List Stored)) (later : List Reply) (request : Request) (w : List Stored) (r : Reply)
          (there : x < length now.queues) (words_in : x < length among)
          (shown : head (queue_at now.queues x) ≡ Some request) (taken : new ≡ with_queue now x (without_head true (queue_at now.queues x)))
          (done : w ≡ words_after (words_of among x) (Some request)) (put : next ≡ set among x w)
          (said : Some r ≡ answer_to (words_of among x) (Some request)) (kept : later ≡ set after x r) where
        request_is : head (queue_at old.queues x) ≡ Some request
        request_is = ap head (sym queue_there) ∙ shown

        pub one_served : PartlyServed modules (x + 1) old new words next later
        one_served = record {
          same = level_twice old now new partly.same (changed_same now new x (without_head true (queue_at now.queues x)) taken);
          many = ap length put ∙ length-set among x w ∙ partly.many;
          places = ap length kept ∙ length-set after x r ∙ partly.places;
          queues = λ m s. by_queue m s (m == x) refl;
          stored = λ m s. by_words m s (m == x) refl;
          answers = λ m s e. by_answer m s e (m == x) refl;
        }
          where
            ne : (m : ℕ) → (m == x) ≡ false → m ≡ x → ⊥
            ne m e g = false_true (sym e ∙ eq-eqb m x g)

            other : (m : ℕ) → (m == x) ≡ false → upto modules (x + 1) m ≡ upto modules n m
            other m e = upto_other modules n x m le none (ne m e)

            by_queue : (m : ℕ) → m < 64 → (t : Bool) → (m == x) ≡ t → queue_at new.queues m ≡ without_head (upto modules (x + 1) m) (queue_at old.queues m)
            by_queue m s true e =
                let is : m ≡ x = eqb-true m x e in
                ap (queue_at new.queues) is ∙ changed_here now new x (without_head true (queue_at now.queues x)) taken there ∙ ap (without_head true) queue_there
                ∙ sym (ap (λ t. without_head t (queue_at old.queues x)) (upto_here modules x here)) ∙ ap (λ y. without_head (upto modules (x + 1) y) (queue_at old.queues y)) (sym is)
            by_queue m s false e =
                changed_other now new x (without_head true (queue_at now.queues x)) taken m (ne m e) ∙ partly.queues m s ∙ ap (λ t. without_head t (queue_at old.queues m)) (sym (other m e))

            by_words : (m : ℕ) → m < 64 → (t : Bool) → (m == x) ≡ t → words_of next m ≡ words_after (words_of words m) (if_leaves (upto modules (x + 1) m) (queue_at old.queues m))
            by_words m s true e =
                let is : m ≡ x = eqb-true m x e in
                ap (words_of next) is ∙ ap (λ ws. words_of ws x) put ∙ get_or-set_same among x w [] words_in ∙ done
                ∙ ap (λ v. words_after v (Some request)) words_there ∙ ap (words_after (words_of words x)) (sym request_is)
                ∙ sym (ap (λ t. words_after (words_of words x) (if_leaves t (queue_at old.queues x))) (upto_here modules x here))
                ∙ ap (λ y. words_after (words_of words y) (if_leaves (upto modules (x + 1) y) (queue_at old.queues y))) (sym is)
            by_words m s false e =
                ap (λ ws. words_of ws m) put ∙ get_or-set_other among x m w [] (ne m e) ∙ partly.stored m s
                ∙ ap (λ t. words_after (words_of words m) (if_leaves t (queue_at old.queues m))) (sym (other m e))

            by_answer : (m : ℕ) → m < 64 → upto modules (x + 1) m ≡ true → (t : Bool) → (m == x) ≡ t → Some (reply_at later m) ≡ answer_to (words_of words m) (head (queue_at old.queues m))
            by_answer m s u true e =
                let is : m ≡ x = eqb-true m x e in
                ap (λ y. Some (reply_at later y)) is ∙ ap (λ rs. Some (reply_at rs x)) kept ∙ ap (λ y. Some y) (get_or-set_same after x r no_reply (omega (arith, small, partly.places))) ∙ said
                ∙ ap (λ v. answer_to v (Some request)) words_there ∙ ap (answer_to (words_of words x)) (sym request_is)
                ∙ ap (λ y. answer_to (words_of words y) (head (queue_at old.queues y))) (sym is)
            by_answer m s u false e = ap (λ rs. Some (reply_at rs m)) kept ∙ ap (λ y. Some y) (get_or-set_other after x m r no_reply (ne m e)) ∙ partly.answers m s (sym (other m e) ∙ u)

-- answers below n wait
pub record PartlyAnswered (modules n : ℕ) (answers : List Reply) (old now : Queues Reply) : Type 0 where
  pub same : SameLevel old now
  pub queues : (m : ℕ) → m < 64 → queue_at now.queues m ≡ joined (queue_at old.queues m) (cond (upto modules n m) (Some (reply_at answers m)) None)

module _ (modules : ℕ) (answers : List Reply) (old : Queues Reply) where
  pub none_answered : PartlyAnswered modules 0 answers old old
  none_answered = record {
    same = same_level old;
    queues = λ m small. sym (ap (λ t. joined (queue_at old.queues m) (cond t (Some (reply_at answers m)) None)) (upto_none modules m));
  }

  module _ (n : ℕ) (now : Queues Reply) (partly : PartlyAnswered modules n answers old now) where
    pub all_answered : ((y : ℕ) → n ≤ y → y < 64 → has modules y ≡ false) → AreAnswered modules answers old now
    all_answered none m small = partly.queues m small ∙ ap (λ t. joined (queue_at old.queues m) (cond t (Some (reply_at answers m)) None)) (upto_all modules n m small none)

    module _ (x : ℕ) (small : x < 64) (le : n ≤ x) (none : (y : ℕ) → n ≤ y → y < x → has modules y ≡ false) (here : has modules x ≡ true)
        (new : Queues Reply) (r : Reply) (is_reply : r ≡ reply_at answers x) (there : x < length now.queues) (given : new ≡ with_queue now x (joined (queue_at now.queues x) (Some r))) where
      pub one_answered : PartlyAnswered modules (x + 1) answers old new
      one_answered = record {
        same = level_twice old now new partly.same (changed_same now new x (joined (queue_at now.queues x) (Some r)) given);
        queues = λ m s. by_queue m s (m == x) refl;
      }
        where
          ne : (m : ℕ) → (m == x) ≡ false → m ≡ x → ⊥
          ne m e g = false_true (sym e ∙ eq-eqb m x g)

          by_queue : (m : ℕ) → m < 64 → (t : Bool) → (m == x) ≡ t → queue_at new.queues m ≡ joined (queue_at old.queues m) (cond (upto modules (x + 1) m) (Some (reply_at answers m)) None)
          by_queue m s true e =
              let is : m ≡ x = eqb-true m x e in
              ap (queue_at new.queues) is ∙ changed_here now new x (joined (queue_at now.queues x) (Some r)) given there
              ∙ ap (λ q. joined q (Some r)) (partly.queues x small ∙ ap (λ t. joined (queue_at old.queues x) (cond t (Some (reply_at answers x)) None)) (upto_later modules n x le))
              ∙ ap (λ y. joined (queue_at old.queues x) (Some y)) is_reply
              ∙ sym (ap (λ t. joined (queue_at old.queues x) (cond t (Some (reply_at answers x)) None)) (upto_here modules x here))
              ∙ ap (λ y. joined (queue_at old.queues y) (cond (upto modules (x + 1) y) (Some (reply_at answers y)) None)) (sym is)
          by_queue m s false e =
              changed_other now new x (joined (queue_at now.queues x) (Some r)) given m (ne m e) ∙ partly.queues m s
              ∙ ap (λ t. joined (queue_at old.queues m) (cond t (Some (reply_at answers m)) None)) (sym (upto_other modules n x m le none (ne m e)))

-- processors below n have received
pub record PartlyReceived (set n : ℕ) (old now : Queues Reply) (got : Replies) : Type 0 where
  pub same : SameLevel old now
  pub set_is : got.set ≡ set
  pub places : length got.at ≡ 64
  pub queues : (p : ℕ) → p < 64 → queue_at now.queues p ≡ without_head (upto set n p) (queue_at old.queues p)
  pub messages : (p : ℕ) → p < 64 → upto set n p ≡ true → Some (reply_at got.at p) ≡ head (queue_at old.queues p)

where_true : {T : Type 0} (t : Bool) (a b : Option T) → (t ≡ true → a ≡ b) → cond t a None ≡ cond t b None
where_true true a b h = h refl
where_true false a b h = refl

module _ (those : ℕ) (old : Queues Reply) where
  pub none_received : (got : Replies) → got.set ≡ those → length got.at ≡ 64 → PartlyReceived those 0 old old got
  none_received got set_is long = record {
    same = same_level old;
    set_is = set_is;
    places = long;
    queues = λ p small. sym (ap (λ t. without_head t (queue_at old.queues p)) (upto_none those p));
    messages = λ p small e. absurd (false_true (sym (upto_none those p) ∙ e));
  }

  module _ (n : ℕ) (now : Queues Reply) (got : Replies) (partly : PartlyReceived those n old now got) where
    pub all_received : ((y : ℕ) → n ≤ y → y < 64 → has those y ≡ false) → AllReceived those old now got
    all_received none = record {
      queues = λ p small. partly.queues p small ∙ ap (λ t. without_head t (queue_at old.queues p)) (upto_all those n p small none);
      messages = λ p small.
          ap (λ v. cond (has v p) (Some (reply_at got.at p)) None) partly.set_is
          ∙ where_true (has those p) (Some (reply_at got.at p)) (head (queue_at old.queues p)) (λ e. partly.messages p small (upto_all those n p small none ∙ e));
    }

    module _ (x : ℕ) (small : x < 64) (le : n ≤ x) (none : (y : ℕ) → n ≤ y → y < x → has those y ≡ false) (here : has those x ≡ true) where
      reply_there : queue_at now.queues x ≡ queue_at old.queues x
      reply_there = partly.queues x small ∙ ap (λ t. without_head t (queue_at old.queues x)) (upto_later those n x le)

      pub some_received : ((p : ℕ) → p < 64 → has those p ≡ true → IsSome (head (queue_at old.queues p))) → IsSome (head (queue_at now.queues x))
      some_received some = subst (λ q. IsSome (head q)) (sym reply_there) (some x small here)

      module _ (new : Queues Reply) (later : Replies) (reply : Reply) (there : x < length now.queues)
          (shown : head (queue_at now.queues x) ≡ Some reply) (taken : new ≡ with_queue now x (without_head true (queue_at now.queues x)))
          (set_kept : later.set ≡ got.set) (kept : later.at ≡ set got.at x reply) where
        pub one_received : PartlyReceived those (x + 1) old new later
        one_received = record {
          same = level_twice old now new partly.same (changed_same now new x (without_head true (queue_at now.queues x)) taken);
          set_is = set_kept ∙ partly.set_is;
          places = ap length kept ∙ length-set got.at x reply ∙ partly.places;
          queues = λ p s. by_queue p s (p == x) refl;
          messages = λ p s u. by_got p s u (p == x) refl;
        }
          where
            ne : (p : ℕ) → (p == x) ≡ false → p ≡ x → ⊥
            ne p e g = false_true (sym e ∙ eq-eqb p x g)

            by_queue : (p : ℕ) → p < 64 → (t : Bool) → (p == x) ≡ t → queue_at new.queues p ≡ without_head (upto those (x + 1) p) (queue_at old.queues p)
            by_queue p s true e =
                let is : p ≡ x = eqb-true p x e in
                ap (queue_at new.queues) is ∙ changed_here now new x (without_head true (queue_at now.queues x)) taken there ∙ ap (without_head true) reply_there
                ∙ sym (ap (λ t. without_head t (queue_at old.queues x)) (upto_here those x here)) ∙ ap (λ y. without_head (upto those (x + 1) y) (queue_at old.queues y)) (sym is)
            by_queue p s false e =
                changed_other now new x (without_head true (queue_at now.queues x)) taken p (ne p e) ∙ partly.queues p s ∙ ap (λ t. without_head t (queue_at old.queues p)) (sym (upto_other those n x p le none (ne p e)))

            by_got : (p : ℕ) → p < 64 → upto those (x + 1) p ≡ true → (t : Bool) → (p == x) ≡ t → Some (reply_at later.at p) ≡ head (queue_at old.queues p)
            by_got p s u true e =
                let is : p ≡ x = eqb-true p x e in
                ap (λ y. Some (reply_at later.at y)) is ∙ ap (λ ms. Some (reply_at ms x)) kept ∙ ap (λ y. Some y) (get_or-set_same got.at x reply no_reply (omega (arith, small, partly.places))) ∙ sym shown ∙ ap head reply_there
                ∙ ap (λ y. head (queue_at old.queues y)) (sym is)
            by_got p s u false e =
                ap (λ ms. Some (reply_at ms p)) kept ∙ ap (λ y. Some y) (get_or-set_other got.at x p reply no_reply (ne p e)) ∙ partly.messages p s (sym (upto_other those n x p le none (ne p e)) ∙ u)
