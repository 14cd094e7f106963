-- Lemmas on a text of which a part is written.
use Rattle.std.proofs.Common.{◌≡◌, ℕ, List, [], ◌++◌, take, drop, ap, sym, subst, ◌∙◌, append_assoc, take-append-drop, append-nil}
use Rattle.std.specs.Prelude.{Option, Some, None, Result, Ok, Err, OnOk, OnErr}
use Rattle.std.specs.Io.KnownBytes.{Appends, Keeps}
use Rattle.std.proofs.KnownBytes.{Appends-trans}

-- a part of a text is written
abbrev pub Part : Option (List ℕ) → Option (List ℕ) → List ℕ → Type 0
Part a b text = (told later : List ℕ) × Appends a b told × (text ≡ told ++ later)

pub Appends-same : (a b : Option (List ℕ)) (x y : List ℕ) → x ≡ y → Appends a b x → Appends a b y
Appends-same a b x y e p =
    let P : List ℕ → Type 0 = λ t. Appends a b t in
    subst P e p

pub Part-same : (a b : Option (List ℕ)) (x y : List ℕ) → x ≡ y → Part a b x → Part a b y
Part-same a b x y e p = (p.0, p.1, p.2, sym e ∙ p.3)

-- all of it is
pub Part-whole : (a b : Option (List ℕ)) (x : List ℕ) → Appends a b x → Part a b x
Part-whole a b x p = (x, [], p, sym (append-nil x))

pub Appends-kept : (a b c : Option (List ℕ)) (x : List ℕ) → Appends a b x → Keeps b c → Appends a c x
Appends-kept None b c x p q = tt
Appends-kept (Some l) None c x p q = absurd p
Appends-kept (Some l) (Some m) None x p q = absurd q
Appends-kept (Some l) (Some m) (Some n) x p q = q ∙ p

-- a write of the first n bytes of the rest
pub written_more : (a b c : Option (List ℕ)) (bytes rest : List ℕ) (n : ℕ)
    → (told : List ℕ) × Appends a b told × (bytes ≡ told ++ rest) → Appends b c (take n rest)
    → (told : List ℕ) × Appends a c told × (bytes ≡ told ++ drop n rest)
written_more a b c bytes rest n w p = (
  w.0 ++ take n rest,
  Appends-trans a b c w.0 (take n rest) w.1 p,
  w.2 ∙ ap (λ l. w.0 ++ l) (sym (take-append-drop n rest)) ∙ sym (append_assoc w.0 (take n rest) (drop n rest)),
)

-- what holds in any case holds at Ok, and at Err
pub kept_ok : {T E P : Type 0} (r : Result T E) → P → OnOk r P
kept_ok (Ok x) p = p
kept_ok (Err e) p = tt

pub kept_err : {T E P : Type 0} (r : Result T E) → P → OnErr r P
kept_err (Ok x) p = tt
kept_err (Err e) p = p
