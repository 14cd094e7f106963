-- Sums and lists over the numbers below one more.
use Rattle.std.proofs.Common.{◌≡◌, ◌||◌, ℕ, ◌+◌, Bool, true, false, List, [], ◌∷◌, ◌++◌, sum_by, refl, sym, ap, ◌∙◌, add-one, arith, append_assoc}
use Rattle.std.specs.Prelude.{Result, Ok, Err, OnOk, if◌then◌else◌, map}
use Rattle.std.specs.Result.{is_ok}
use Rattle.std.specs.List.{flat_map, list_any}
use Rattle.std.proofs.lemmas.List.{append-nil, map-append}
use Rattle.std.proofs.lemmas.List.Folds.{list_any-append}
use Rattle.std.proofs.lemmas.List.Sums.{sum_by-append}
use Rattle.std.proofs.lemmas.Grind.{flat_map-append}
use Rattle.std.proofs.lemmas.Result.{on_ok_weaker}
use Rattle.omega_net.specs.Wires.{below}

pub flat_next : {X : Type 0} (f : ℕ → List X) (n : ℕ) → flat_map f (below (n + 1)) ≡ flat_map f (below n) ++ f n
flat_next f n = rw add-one (flat_map-append f (below n) (n ∷ []) ∙ ap (λ ys. flat_map f (below n) ++ ys) (append-nil (f n)))

pub sum_next : (f : ℕ → ℕ) (n : ℕ) → sum_by f (below (n + 1)) ≡ sum_by f (below n) + f n
sum_next f n =
    let split : sum_by f (below n ++ n ∷ []) ≡ sum_by f (below n) + (0 + f n) = sum_by-append f (below n) (n ∷ []) in
    rw add-one (omega (arith, split))

pub any_next : (f : ℕ → Bool) (n : ℕ) → list_any f (below (n + 1)) ≡ (list_any f (below n) || f n)
any_next f n = rw add-one (list_any-append f (below n) (n ∷ []) ∙ ap (λ b. list_any f (below n) || b) (alone (f n)))
  where
    alone : (b : Bool) → (b || false) ≡ b
    alone true = refl
    alone false = refl

-- a text, one piece after another
after : (a b c x y : List ℕ) → b ≡ a ++ x → c ≡ b ++ y → c ≡ a ++ (x ++ y)
after a b c x y p q = q ∙ (ap (λ (t : List ℕ). t ++ y) p ∙ append_assoc a x y)

pub on_after : {T E : Type 0} (r : Result T E) (a b c x y : List ℕ) → b ≡ a ++ x → OnOk r (c ≡ b ++ y) → OnOk r (c ≡ a ++ (x ++ y))
on_after r a b c x y p q = on_ok_weaker r (after a b c x y p) q

-- what a list is either way, where it went well
pub on_told : {T E : Type 0} (r : Result T E) (c x y : List ℕ) → c ≡ (if is_ok r then x else y) → OnOk r (c ≡ x)
on_told (Ok v) c x y h = h
on_told (Err e) c x y h = tt

pub flat_after : (f : ℕ → List ℕ) (n : ℕ) (a b c : List ℕ) → b ≡ a ++ flat_map f (below n) → c ≡ b ++ f n → c ≡ a ++ flat_map f (below (n + 1))
flat_after f n a b c p q = after a b c (flat_map f (below n)) (f n) p q ∙ ap (λ (t : List ℕ). a ++ t) (sym (flat_next f n))

-- five pieces, behind nothing
pub five_pieces : (t a b c d e m p q s h : List ℕ) → t ≡ [] → a ≡ t ++ m → b ≡ a ++ p → c ≡ b ++ q → d ≡ c ++ s → e ≡ d ++ h
    → e ≡ m ++ (p ++ (q ++ (s ++ h)))
five_pieces t a b c d e m p q s h none one two three four five =
    after t a e m (p ++ (q ++ (s ++ h))) one (after a b e p (q ++ (s ++ h)) two (after b c e q (s ++ h) three (after c d e s h four five)))
    ∙ ap (λ (u : List ℕ). u ++ (m ++ (p ++ (q ++ (s ++ h))))) none

-- one element more, behind others
pub map_after : {X : Type 0} (f : ℕ → X) (n : ℕ) (a b d : List X) (x : X) → b ≡ a ++ map f (below n) → d ≡ b ++ x ∷ [] → x ≡ f n
    → d ≡ a ++ map f (below (n + 1))
map_after {X} f n a b d x before pushed is =
    let next : map f (below (n + 1)) ≡ map f (below n) ++ f n ∷ [] = rw add-one (map-append f (below n) (n ∷ [])) in
    pushed ∙ (ap (λ (xs : List X). xs ++ x ∷ []) before ∙ (append_assoc a (map f (below n)) (x ∷ [])
    ∙ (ap (λ (y : X). a ++ (map f (below n) ++ y ∷ [])) is ∙ ap (λ (xs : List X). a ++ xs) (sym next))))
