-- Items that are made for the parts of a list in turn.
use Rattle.std.proofs.Common.{◌≡◌, ℕ, ◌+◌, ◌<◌, ◌⊎◌, inl, inr, List, [], ◌∷◌, ◌++◌, length, get_or, take, refl, sym, ap, ◌∙◌, subst, arith, append_assoc}
use Rattle.std.specs.List.{AllZip}
use Rattle.std.proofs.lemmas.List.{append-nil, take_more}
use Rattle.std.proofs.lemmas.Slice.Zip.{all_zipped_more}
use Rattle.lab_tasks.specs.Added.{Adds}

module _ {A B : Type 0} (R : A → B → Type 0) where
  pub zip-append : (xs others : List A) (ys more : List B) → AllZip R xs ys → AllZip R others more → AllZip R (xs ++ others) (ys ++ more)
  zip-append [] others [] more h rest = rest
  zip-append [] others (y ∷ ys) more h rest = absurd h
  zip-append (x ∷ xs) others [] more h rest = absurd h
  zip-append (x ∷ xs) others (y ∷ ys) more h rest = (h.0, zip-append xs others ys more h.1 rest)

  -- whatever is made for the rest, with what was made before, is made for all
  abbrev pub Awaits : List A → List A → List B → Type 0
  Awaits all rest made = (more : List B) → AllZip R rest more → AllZip R all (made ++ more)

  pub awaits-begin : (all rest : List A) (made : List B) → rest ≡ all → made ≡ [] → Awaits all rest made
  awaits-begin all rest made same none more h = rw none (subst (λ l. AllZip R l more) same h)

  pub awaits-next : (all rest part left : List A) (made items next : List B) → Awaits all rest made → rest ≡ part ++ left
      → next ≡ made ++ items → AllZip R part items → Awaits all left next
  awaits-next all rest part left made items next awaits cut added h more later =
      let whole : AllZip R rest (items ++ more) = rw cut (zip-append part left items more h later) in
      subst (λ l. AllZip R all l) (sym (ap (λ l. l ++ more) added ∙ append_assoc made items more)) (awaits (items ++ more) whole)

  pub awaits-end : (all rest : List A) (made : List B) → Awaits all rest made → length rest ≡ 0 → AllZip R all made
  awaits-end all [] made awaits e = subst (λ l. AllZip R all l) (append-nil made) (awaits [] tt)
  awaits-end all (x ∷ rest) made awaits e = absurd (omega arith)

  -- one item more for the next one of a list
  pub adds-next : (xs : List A) (i : ℕ) (d : A) (y : B) (old new next : List B) → i < length xs → Adds R (take i xs) old new
      → next ≡ new ++ y ∷ [] → R (get_or xs i d) y → Adds R (take (i + 1) xs) old next
  adds-next xs i d y old new next lt so pushed h = (
    so.0 ++ y ∷ [],
    pushed ∙ ap (λ l. l ++ y ∷ []) so.1 ∙ append_assoc old so.0 (y ∷ []),
    subst (λ l. AllZip R l (so.0 ++ y ∷ [])) (sym (take_more xs i d lt)) (all_zipped_more R (take i xs) so.0 (get_or xs i d) y so.2 h),
  )

-- items are added for the parts of a list, each with the help of something that is given for the part
module _ {A B C : Type 0} (R : A → B → Type 0) (Q : A → C → Type 0) where
  pub record Adding (all rest : List A) (given : List C) (old new : List B) : Type 0 where
    pub so : List B
    pub added : new ≡ old ++ so
    pub awaits : Awaits R all rest so
    pub with : AllZip Q rest given

  pub adding-begin : (all rest : List A) (given gives : List C) (old new : List B) → rest ≡ all → gives ≡ given → new ≡ old
      → AllZip Q all given → Adding all rest gives old new
  adding-begin all rest given gives old new same alike none h = record {
    so = [];
    added = none ∙ sym (append-nil old);
    awaits = awaits-begin R all rest [] same refl;
    with = rw (same, alike) h;
  }

  pub adding-next : (all rest left : List A) (given gives : List C) (old new next : List B) (x : A) (y : B) (z : C)
      → Adding all rest given old new → rest ≡ x ∷ left → given ≡ z ∷ gives → next ≡ new ++ y ∷ [] → R x y → Adding all left gives old next
  adding-next all rest left given gives old new next x y z adding at is pushed h =
      let both : AllZip Q (x ∷ left) (z ∷ gives) = subst (λ l. AllZip Q (x ∷ left) l) is (subst (λ l. AllZip Q l given) at adding.with) in
      record {
        so = adding.so ++ y ∷ [];
        added = pushed ∙ ap (λ l. l ++ y ∷ []) adding.added ∙ append_assoc old adding.so (y ∷ []);
        awaits = awaits-next R all rest (x ∷ []) left adding.so (y ∷ []) (adding.so ++ y ∷ []) adding.awaits at refl (h, tt);
        with = both.1;
      }

  pub adding-end : (all rest : List A) (given : List C) (old new : List B) → Adding all rest given old new → (rest ≡ []) ⊎ (given ≡ [])
      → Adds R all old new
  adding-end all rest given old new adding none =
      (adding.so, adding.added, awaits-end R all rest adding.so adding.awaits (ends rest given adding.with none))
    where
      ends : (rest : List A) (given : List C) → AllZip Q rest given → (rest ≡ []) ⊎ (given ≡ []) → length rest ≡ 0
      ends [] given h none = refl
      ends (x ∷ rest) [] h none = absurd h
      ends (x ∷ rest) (z ∷ given) h none = elim none [ inl e ↦ cc | inr e ↦ cc ]
