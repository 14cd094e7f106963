-- One head that moves from one level to another.
use Rattle.std.proofs.Common.{◌≡◌, ℕ, ◌<◌, Bool, true, false, cond, List, length, get_or, refl, ap, sym, subst, ◌∙◌, inl, inr, Option, None, Some}
use Rattle.std.proofs.Math.ListN.{set, length-set}
use Rattle.std.proofs.lemmas.List.{get_or-set_same, get_or-set_other, get_or_default, get_or_past}
use Rattle.std.specs.Prelude.{◌==◌, ◌&&◌, IsSome}
use Rattle.std.proofs.lemmas.Bool.{cases_lt, eqb-true, eq-eqb}
use Rattle.arrayvec.specs.ArrayVec.{ArrayVec}
use Rattle.omega_net.specs.Queues.{head, without_head, joined}
use Rattle.omega_net.specs.Ports.{queue_at, empty}
use Rattle.flat_row.specs.Queues.{Queues, with_queue}
use Rattle.flat_row.specs.Row.{no_queues, level_at, queue_of}
use Rattle.flat_row.specs.Moving.{SameShape, label_to, passed, passed_straight}

false_true : false ≡ true → ⊥
false_true e = cc

module _ {T : Type 0} where
  -- the level that is found is the one there
  pub level_found : (levels : List (Queues T)) (l : ℕ) (q : Queues T) → q ≡ get_or levels l q → l < length levels → q ≡ level_at levels l
  level_found levels l q e h = e ∙ get_or_default levels l q no_queues h

  -- another queue in a level
  module _ (levels : List (Queues T)) (at x : ℕ) (q : ArrayVec T) (there : at < length levels) (label : x < length (level_at levels at).queues) where
    abbrev changed : List (Queues T)
    changed = set levels at (with_queue (level_at levels at) x q)

    here : level_at changed at ≡ with_queue (level_at levels at) x q
    here = get_or-set_same levels at (with_queue (level_at levels at) x q) no_queues there

    elsewhere : (l : ℕ) → (l ≡ at → ⊥) → level_at changed l ≡ level_at levels l
    elsewhere l ne = get_or-set_other levels at l (with_queue (level_at levels at) x q) no_queues ne

    pub shape_kept : SameShape levels changed
    shape_kept = record {
      many = length-set levels at (with_queue (level_at levels at) x q);
      queues = λ l. by_level l (l == at) refl;
      rules = λ l. by_rule l (l == at) refl;
    }
      where
        by_level : (l : ℕ) (t : Bool) → (l == at) ≡ t → length (level_at changed l).queues ≡ length (level_at levels l).queues
        by_level l true e =
            let same : l ≡ at = eqb-true l at e in
            ap (λ n. length (level_at changed n).queues) same ∙ ap (λ v. length v.queues) here ∙ length-set (level_at levels at).queues x q ∙ ap (λ n. length (level_at levels n).queues) (sym same)
        by_level l false e = ap (λ v. length v.queues) (elsewhere l (λ same. false_true (sym e ∙ eq-eqb l at same)))

        by_rule : (l : ℕ) (t : Bool) → (l == at) ≡ t → (level_at changed l).rule ≡ (level_at levels l).rule
        by_rule l true e =
            let same : l ≡ at = eqb-true l at e in
            ap (λ n. (level_at changed n).rule) same ∙ ap (λ v. v.rule) here ∙ ap (λ n. (level_at levels n).rule) (sym same)
        by_rule l false e = ap (λ v. v.rule) (elsewhere l (λ same. false_true (sym e ∙ eq-eqb l at same)))

    pub queue_changed : (l z : ℕ) → queue_of changed l z ≡ cond ((l == at) && (z == x)) q (queue_of levels l z)
    queue_changed l z = by_tests (l == at) (z == x) refl refl
      where
        by_tests : (s t : Bool) → (l == at) ≡ s → (z == x) ≡ t → queue_of changed l z ≡ cond (s && t) q (queue_of levels l z)
        by_tests true true e f =
            ap (λ n. queue_of changed n z) (eqb-true l at e) ∙ ap (λ v. queue_at v.queues z) here ∙ ap (queue_at (set (level_at levels at).queues x q)) (eqb-true z x f)
            ∙ get_or-set_same (level_at levels at).queues x q empty label
        by_tests true false e f =
            ap (λ n. queue_of changed n z) (eqb-true l at e) ∙ ap (λ v. queue_at v.queues z) here
            ∙ get_or-set_other (level_at levels at).queues x z q empty (λ same. false_true (sym f ∙ eq-eqb z x same))
            ∙ ap (λ n. queue_of levels n z) (sym (eqb-true l at e))
        by_tests false t e f = ap (λ v. queue_at v.queues z) (elsewhere l (λ same. false_true (sym e ∙ eq-eqb l at same)))

  pub shape_twice : (a b c : List (Queues T)) → SameShape a b → SameShape b c → SameShape a c
  shape_twice a b c e f = record { many = f.many ∙ e.many; queues = λ l. f.queues l ∙ e.queues l; rules = λ l. f.rules l ∙ e.rules l }

  pub shape_same : (a : List (Queues T)) → SameShape a a
  shape_same a = record { many = refl; queues = λ l. refl; rules = λ l. refl }

  -- a head is taken out of one level and put into another
  module _ (route : T → ℕ) (b from to x y : ℕ) (levels : List (Queues T)) (m : T) (apart : from ≡ to → ⊥)
      (from_there : from < length levels) (x_there : x < length (level_at levels from).queues) (shown : head (queue_of levels from x) ≡ Some m) (goes : y ≡ label_to route b x (Some m)) where
    abbrev taken : List (Queues T)
    taken = set levels from (with_queue (level_at levels from) x (without_head true (queue_of levels from x)))

    abbrev given : List (Queues T)
    given = set taken to (with_queue (level_at taken to) y (joined (queue_of taken to y) (Some m)))

    module _ (to_there : to < length taken) (y_there : y < length (level_at taken to).queues) where
      pub passes_shape : SameShape levels given
      passes_shape =
          shape_twice levels taken given (shape_kept levels from x (without_head true (queue_of levels from x)) from_there x_there)
          (shape_kept taken to y (joined (queue_of taken to y) (Some m)) to_there y_there)

      pub passes : (l z : ℕ) → queue_of given l z ≡ passed route b from to x levels l z
      passes l z =
          queue_changed taken to y (joined (queue_of taken to y) (Some m)) to_there y_there l z
          ∙ ap (λ q. cond ((l == to) && (z == y)) (joined (queue_of taken to y) (Some m)) q) (queue_changed levels from x (without_head true (queue_of levels from x)) from_there x_there l z)
          ∙ ap (λ n. cond ((l == to) && (z == n)) (joined (queue_of taken to n) (Some m)) (cond ((l == from) && (z == x)) (without_head true (queue_of levels from x)) (queue_of levels l z))) goes
          ∙ by_tests (l == from) (l == to) (z == label_to route b x (Some m)) refl refl refl
          ∙ ap (λ o. cond ((l == from) && (z == x)) (without_head true (queue_of levels from x)) (cond ((l == to) && (z == label_to route b x o)) (joined (queue_of levels to z) o) (queue_of levels l z))) (sym shown)
        where
          y1 : ℕ
          y1 = label_to route b x (Some m)

          not_from : (to == from) ≡ false
          not_from = by_test (to == from) refl
            where
              by_test : (t : Bool) → (to == from) ≡ t → t ≡ false
              by_test false e = refl
              by_test true e = absurd (apart (sym (eqb-true to from e)))

          still : (n : ℕ) → queue_of taken to n ≡ queue_of levels to n
          still n =
              queue_changed levels from x (without_head true (queue_of levels from x)) from_there x_there to n
              ∙ ap (λ t. cond (t && (n == x)) (without_head true (queue_of levels from x)) (queue_of levels to n)) not_from

          by_tests : (f t s : Bool) → (l == from) ≡ f → (l == to) ≡ t → (z == label_to route b x (Some m)) ≡ s
              → cond (t && s) (joined (queue_of taken to (label_to route b x (Some m))) (Some m)) (cond (f && (z == x)) (without_head true (queue_of levels from x)) (queue_of levels l z))
              ≡ cond (f && (z == x)) (without_head true (queue_of levels from x)) (cond (t && s) (joined (queue_of levels to z) (Some m)) (queue_of levels l z))
          by_tests true true s e c g = absurd (apart (sym (eqb-true l from e) ∙ eqb-true l to c))
          by_tests true false s e c g = refl
          by_tests false true true e c g =
              ap (λ q. joined q (Some m)) (still (label_to route b x (Some m))) ∙ ap (λ n. joined (queue_of levels to n) (Some m)) (sym (eqb-true z (label_to route b x (Some m)) g))
          by_tests false true false e c g = refl
          by_tests false false s e c g = refl

  -- a head is taken out of one level and put into the queue of the same label in another
  module _ (from to x : ℕ) (levels : List (Queues T)) (m : T) (apart : from ≡ to → ⊥)
      (from_there : from < length levels) (x_there : x < length (level_at levels from).queues) (shown : head (queue_of levels from x) ≡ Some m) where
    abbrev left : List (Queues T)
    left = set levels from (with_queue (level_at levels from) x (without_head true (queue_of levels from x)))

    abbrev come : List (Queues T)
    come = set left to (with_queue (level_at left to) x (joined (queue_of left to x) (Some m)))

    module _ (to_there : to < length left) (there : x < length (level_at left to).queues) where
      pub straight_shape : SameShape levels come
      straight_shape =
          shape_twice levels left come (shape_kept levels from x (without_head true (queue_of levels from x)) from_there x_there)
          (shape_kept left to x (joined (queue_of left to x) (Some m)) to_there there)

      pub straight : (l z : ℕ) → queue_of come l z ≡ passed_straight from to x levels l z
      straight l z =
          queue_changed left to x (joined (queue_of left to x) (Some m)) to_there there l z
          ∙ ap (λ q. cond ((l == to) && (z == x)) (joined (queue_of left to x) (Some m)) q) (queue_changed levels from x (without_head true (queue_of levels from x)) from_there x_there l z)
          ∙ ap (λ q. cond ((l == to) && (z == x)) (joined q (Some m)) (cond ((l == from) && (z == x)) (without_head true (queue_of levels from x)) (queue_of levels l z))) unmoved
          ∙ by_tests (l == from) (l == to) (z == x) refl refl
          ∙ ap (λ o. cond ((l == from) && (z == x)) (without_head true (queue_of levels from x)) (cond ((l == to) && (z == x)) (joined (queue_of levels to x) o) (queue_of levels l z))) (sym shown)
        where
          other_level : (to == from) ≡ false
          other_level = by_test (to == from) refl
            where
              by_test : (t : Bool) → (to == from) ≡ t → t ≡ false
              by_test false e = refl
              by_test true e = absurd (apart (sym (eqb-true to from e)))

          unmoved : queue_of left to x ≡ queue_of levels to x
          unmoved =
              queue_changed levels from x (without_head true (queue_of levels from x)) from_there x_there to x
              ∙ ap (λ t. cond (t && (x == x)) (without_head true (queue_of levels from x)) (queue_of levels to x)) other_level

          by_tests : (f t s : Bool) → (l == from) ≡ f → (l == to) ≡ t
              → cond (t && s) (joined (queue_of levels to x) (Some m)) (cond (f && s) (without_head true (queue_of levels from x)) (queue_of levels l z))
              ≡ cond (f && s) (without_head true (queue_of levels from x)) (cond (t && s) (joined (queue_of levels to x) (Some m)) (queue_of levels l z))
          by_tests true true s e c = absurd (apart (sym (eqb-true l from e) ∙ eqb-true l to c))
          by_tests true false true e c = refl
          by_tests true false false e c = refl
          by_tests false true true e c = refl
          by_tests false true false e c = refl
          by_tests false false s e c = refl

-- a head that waits at a level is in one of its queues
pub level_within : {T : Type 0} (levels : List (Queues T)) (l x : ℕ) → IsSome (head (queue_of levels l x)) → x < length (level_at levels l).queues
level_within levels l x some = elim (cases_lt x (length (level_at levels l).queues)) [
  | inl h ↦ h
  | inr h ↦ absurd (false_true (subst (λ q. IsSome (head q)) (get_or_past (level_at levels l).queues x empty h) some))
]

-- what waits
pub waiting : {T : Type 0} (o : Option T) → IsSome o → (m : T) × (o ≡ Some m)
waiting (Some m) h = (m, refl)
waiting None h = absurd (false_true h)

-- the same, by the levels that the code finds and leaves
module _ {T : Type 0} (levels : List (Queues T)) (from to : ℕ) (q gone p new : Queues T) (from_there : from < length levels) (to_there : to < length levels) (apart : from ≡ to → ⊥)
    (q_is : q ≡ get_or levels from q) (p_is : p ≡ get_or (set levels from gone) to p) where
  pub found_before : q ≡ level_at levels from
  found_before = level_found levels from q q_is from_there

  behind_same : level_at (set levels from gone) to ≡ level_at levels to
  behind_same = get_or-set_other levels from to gone no_queues (λ e. apart (sym e))

  to_still : to < length (set levels from gone)
  to_still = subst (λ n. to < n) (sym (length-set levels from gone)) to_there

  found_there : p ≡ level_at (set levels from gone) to
  found_there = level_found (set levels from gone) to p p_is to_still

  pub found_behind : p ≡ level_at levels to
  found_behind = found_there ∙ behind_same

  module _ (x y : ℕ) (m : T) (shown : head (queue_at q.queues x) ≡ Some m) (x_there : x < length (level_at levels from).queues) (y_there : y < length (level_at levels to).queues)
      (taken_so : gone ≡ with_queue q x (without_head true (queue_at q.queues x))) (given_so : new ≡ with_queue p y (joined (queue_at p.queues y) (Some m))) where
    gone_is : gone ≡ with_queue (level_at levels from) x (without_head true (queue_of levels from x))
    gone_is = taken_so ∙ ap (λ v. with_queue v x (without_head true (queue_at v.queues x))) found_before

    shown_there : head (queue_of levels from x) ≡ Some m
    shown_there = sym (ap (λ v. head (queue_at v.queues x)) found_before) ∙ shown

    abbrev first_taken : List (Queues T)
    first_taken = set levels from (with_queue (level_at levels from) x (without_head true (queue_of levels from x)))

    new_is : new ≡ with_queue (level_at (set levels from gone) to) y (joined (queue_of (set levels from gone) to y) (Some m))
    new_is = given_so ∙ ap (λ v. with_queue v y (joined (queue_at v.queues y) (Some m))) found_there

    left_so : set (set levels from gone) to new ≡ set first_taken to (with_queue (level_at first_taken to) y (joined (queue_of first_taken to y) (Some m)))
    left_so =
        ap (λ v. set (set levels from gone) to v) new_is
        ∙ ap (λ g. set (set levels from g) to (with_queue (level_at (set levels from g) to) y (joined (queue_of (set levels from g) to y) (Some m)))) gone_is

    still_there : to < length first_taken
    still_there = subst (λ n. to < n) (sym (length-set levels from (with_queue (level_at levels from) x (without_head true (queue_of levels from x))))) to_there

    y_still : y < length (level_at first_taken to).queues
    y_still = subst (λ v. y < length v.queues) (sym (get_or-set_other levels from to (with_queue (level_at levels from) x (without_head true (queue_of levels from x))) no_queues (λ e. apart (sym e)))) y_there

    pub pass_shape : (route : T → ℕ) (b : ℕ) → y ≡ label_to route b x (Some m) → SameShape levels (set (set levels from gone) to new)
    pass_shape route b goes = subst (λ ls. SameShape levels ls) (sym left_so) (passes_shape route b from to x y levels m apart from_there x_there shown_there goes still_there y_still)

    pub pass_queues : (route : T → ℕ) (b : ℕ) → y ≡ label_to route b x (Some m) → (l z : ℕ) → queue_of (set (set levels from gone) to new) l z ≡ passed route b from to x levels l z
    pass_queues route b goes l z = ap (λ ls. queue_of ls l z) left_so ∙ passes route b from to x y levels m apart from_there x_there shown_there goes still_there y_still l z

  module _ (x : ℕ) (m : T) (shown : head (queue_at q.queues x) ≡ Some m) (x_there : x < length (level_at levels from).queues) (there : x < length (level_at levels to).queues)
      (taken_so : gone ≡ with_queue q x (without_head true (queue_at q.queues x))) (given_so : new ≡ with_queue p x (joined (queue_at p.queues x) (Some m))) where
    gone_straight : gone ≡ with_queue (level_at levels from) x (without_head true (queue_of levels from x))
    gone_straight = taken_so ∙ ap (λ v. with_queue v x (without_head true (queue_at v.queues x))) found_before

    shown_straight : head (queue_of levels from x) ≡ Some m
    shown_straight = sym (ap (λ v. head (queue_at v.queues x)) found_before) ∙ shown

    abbrev straight_taken : List (Queues T)
    straight_taken = set levels from (with_queue (level_at levels from) x (without_head true (queue_of levels from x)))

    new_straight : new ≡ with_queue (level_at (set levels from gone) to) x (joined (queue_of (set levels from gone) to x) (Some m))
    new_straight = given_so ∙ ap (λ v. with_queue v x (joined (queue_at v.queues x) (Some m))) found_there

    straight_so : set (set levels from gone) to new ≡ set straight_taken to (with_queue (level_at straight_taken to) x (joined (queue_of straight_taken to x) (Some m)))
    straight_so =
        ap (λ v. set (set levels from gone) to v) new_straight
        ∙ ap (λ g. set (set levels from g) to (with_queue (level_at (set levels from g) to) x (joined (queue_of (set levels from g) to x) (Some m)))) gone_straight

    straight_still : to < length straight_taken
    straight_still = subst (λ n. to < n) (sym (length-set levels from (with_queue (level_at levels from) x (without_head true (queue_of levels from x))))) to_there

    there_still : x < length (level_at straight_taken to).queues
    there_still = subst (λ v. x < length v.queues) (sym (get_or-set_other levels from to (with_queue (level_at levels from) x (without_head true (queue_of levels from x))) no_queues (λ e. apart (sym e)))) there

    pub pass_straight_shape : SameShape levels (set (set levels from gone) to new)
    pass_straight_shape = subst (λ ls. SameShape levels ls) (sym straight_so) (straight_shape from to x levels m apart from_there x_there shown_straight straight_still there_still)

    pub pass_straight_queues : (l z : ℕ) → queue_of (set (set levels from gone) to new) l z ≡ passed_straight from to x levels l z
    pass_straight_queues l z = ap (λ ls. queue_of ls l z) straight_so ∙ straight from to x levels m apart from_there x_there shown_straight straight_still there_still l z

-- another level of as many queues and the same rule
pub shape_with : {T : Type 0} (levels : List (Queues T)) (at : ℕ) (v : Queues T) → at < length levels → length v.queues ≡ length (level_at levels at).queues → v.rule ≡ (level_at levels at).rule → SameShape levels (set levels at v)
shape_with levels at v there many rule = record {
  many = length-set levels at v;
  queues = λ l. by_many l (l == at) refl;
  rules = λ l. by_rule l (l == at) refl;
}
  where
    by_many : (l : ℕ) (t : Bool) → (l == at) ≡ t → length (level_at (set levels at v) l).queues ≡ length (level_at levels l).queues
    by_many l true e =
        let same : l ≡ at = eqb-true l at e in
        ap (λ n. length (level_at (set levels at v) n).queues) same ∙ ap (λ q. length q.queues) (get_or-set_same levels at v no_queues there) ∙ many ∙ ap (λ n. length (level_at levels n).queues) (sym same)
    by_many l false e = ap (λ q. length q.queues) (get_or-set_other levels at l v no_queues (λ same. false_true (sym e ∙ eq-eqb l at same)))

    by_rule : (l : ℕ) (t : Bool) → (l == at) ≡ t → (level_at (set levels at v) l).rule ≡ (level_at levels l).rule
    by_rule l true e =
        let same : l ≡ at = eqb-true l at e in
        ap (λ n. (level_at (set levels at v) n).rule) same ∙ ap (λ q. q.rule) (get_or-set_same levels at v no_queues there) ∙ rule ∙ ap (λ n. (level_at levels n).rule) (sym same)
    by_rule l false e = ap (λ q. q.rule) (get_or-set_other levels at l v no_queues (λ same. false_true (sym e ∙ eq-eqb l at same)))
