-- Lemmas on the bytes of a line.
use Rattle.std.proofs.Common.{◌≡◌, ◌≢◌, ℕ, suc, ◌-◌, Bool, true, false, ◌||◌, cond, List, [], ◌∷◌, ◌++◌, length, take, refl, sym, ap, ◌∙◌, subst, arith}
use Rattle.std.proofs.Math.Seq.{take-append_seam}
use Rattle.std.proofs.lemmas.Bool.Decides.{nat_tests}
use Rattle.std.specs.Prelude.{◌==◌, IfSome, Option, None, Some, All}
use Rattle.std.specs.Io.{StopsAt}
use Rattle.std.specs.List.{IsLastAndRest}
use Rattle.std.specs.Io.KnownBytes.{IsAtEnd}
use Rattle.std.specs.Io.BufRead.{take_through, drop_through, DropsThrough}
use Rattle.bench_shell.specs.Steps.{has_lf}
use Rattle.bench_shell.proofs.Lines.{has_lf-snoc}
use Rattle.lab_shell.specs.Steps.{IsLine}
use Rattle.lab_shell.specs.Talks.{IsDrained}

through_step : (t : Bool) (x : ℕ) (xs : List ℕ) → (x == 10) ≡ t → (has_lf (take_through 10 xs) ≡ false → drop_through 10 xs ≡ [])
    → has_lf (cond t (x ∷ []) (x ∷ take_through 10 xs)) ≡ false → cond t xs (drop_through 10 xs) ≡ []
through_step true x xs e ih h =
    let f : (x == 10) || false ≡ false = h in
    let g : true || false ≡ false = subst (λ t. t || false ≡ false) e f in
    absurd cc
through_step false x xs e ih h =
    let f : (x == 10) || has_lf (take_through 10 xs) ≡ false = h in
    let g : false || has_lf (take_through 10 xs) ≡ false = subst (λ t. t || has_lf (take_through 10 xs) ≡ false) e f in
    ih g

-- where no LF was found there was none
through_all : (xs : List ℕ) → has_lf (take_through 10 xs) ≡ false → drop_through 10 xs ≡ []
through_all [] h = refl
through_all (x ∷ xs) h = through_step (x == 10) x xs refl (through_all xs) h

pub drained : (old new : Option (List ℕ)) (before items : List ℕ) → before ≡ [] → IfSome old (λ xs. items ≡ before ++ take_through 10 xs)
    → DropsThrough old new 10 → has_lf items ≡ false → IsDrained old new
drained None new before items e b r h = tt
drained (Some xs) new before items e b r h =
    let f : items ≡ take_through 10 xs = b ∙ ap (λ l. l ++ take_through 10 xs) e in
    subst IsAtEnd (sym r) (through_all xs (sym (ap has_lf f) ∙ h))

or_both : (a b : Bool) → a ≡ false → b ≡ false → a || b ≡ false
or_both a b p q = rw (p, q) refl

is_not : (x : ℕ) → x ≢ 10 → (x == 10) ≡ false
is_not x h = grind (arith, nat_tests)

-- a list without LF
no_lf : (xs : List ℕ) → All (λ x. x ≢ 10) xs → has_lf xs ≡ false
no_lf [] h = refl
no_lf (x ∷ xs) h = or_both (x == 10) (has_lf xs) (is_not x (h 0 x (omega arith))) (no_lf xs (λ k d q. h (suc k) d (omega arith)))

front_no_lf : (xs front : List ℕ) (last : ℕ) → IsLastAndRest xs last front → StopsAt xs 10 → has_lf front ≡ false
front_no_lf xs front last e h =
    let n : length xs - 1 ≡ length front = omega (arith, e.1) in
    let f : take (length xs - 1) xs ≡ front = ap (λ l. take (length xs - 1) l) e.0 ∙ ap (λ k. take k (front ++ last ∷ [])) n ∙ take-append_seam front (last ∷ []) in
    no_lf front (subst (All (λ x. x ≢ 10)) f h)

pub whole_line : (xs front : List ℕ) (last : ℕ) → IsLastAndRest xs last front → StopsAt xs 10 → last ≡ 10 → IsLine xs front true
whole_line xs front last e h is = record {
  no_lf = front_no_lf xs front last e h;
  whole = λ _. e.0 ∙ ap (λ x. front ++ x ∷ []) is;
  cut = λ f. absurd cc;
  some = λ f. absurd cc;
}

pub cut_line : (xs front : List ℕ) (last : ℕ) → IsLastAndRest xs last front → StopsAt xs 10 → last ≢ 10 → IsLine xs xs false
cut_line xs front last e h is = record {
  no_lf = ap has_lf e.0 ∙ has_lf-snoc front last (front_no_lf xs front last e h) (is_not last is);
  whole = λ f. absurd cc;
  cut = λ _. refl;
  some = λ _. omega (arith, e.1);
}
