-- Words that are told one after another.
use Rattle.std.proofs.Common.{◌≡◌, ℕ, ◌+◌, ◌<◌, List, [], ◌∷◌, ◌++◌, length, map, take, get_or, sym, subst, arith, Bor}
use Rattle.std.specs.List.{AllZip}
use Rattle.std.proofs.lemmas.List.{take-map, map_more, get_or-map, length-map}
use Rattle.lab_tasks.specs.declared.end.End.{End}
use Rattle.lab_tasks.specs.declared.end.End.TheVariants.{Memory}
use Rattle.lab_tasks.specs.SweepTables.{RefusesFirst, OrMemory}

-- one pair more
pub zip-push : {A B : Type 0} (R : A → B → Type 0) (xs : List A) (ys : List B) (x : A) (y : B) → AllZip R xs ys → R x y → AllZip R (xs ++ x ∷ []) (ys ++ y ∷ [])
zip-push R [] [] x y h r = (r, tt)
zip-push R [] (b ∷ ys) x y h r = absurd h
zip-push R (a ∷ xs) [] x y h r = absurd h
zip-push R (a ∷ xs) (b ∷ ys) x y h r = (h.0, zip-push R xs ys x y h.1 r)

abbrev pub blank : Bor (List ℕ)
blank = record { ref_ptr = (0, 0); now = [] }

abbrev pub texts : List (Bor (List ℕ)) → List (List ℕ)
texts words = map (λ word. word.now) words

-- one word more says something
pub zip-more : {T : Type 0} (Says : List ℕ → T → Type 0) (words : List (Bor (List ℕ))) (i : ℕ) (said more : List T) (t : T)
    → i < length words → AllZip Says (texts (take i words)) said → Says (get_or words i blank).now t → more ≡ said ++ t ∷ [] → AllZip Says (texts (take (i + 1) words)) more
zip-more {T} Says words i said more t lt h s pushed =
    let both : AllZip Says (texts (take i words) ++ (get_or words i blank).now ∷ []) (said ++ t ∷ []) = zip-push Says (texts (take i words)) said (get_or words i blank).now t h s in
    let next : texts (take (i + 1) words) ≡ texts (take i words) ++ (get_or words i blank).now ∷ [] = map_more (λ (word : Bor (List ℕ)). word.now) words i blank lt in
    subst (λ (ws : List (List ℕ)). AllZip Says ws more) (sym next) (subst (AllZip Says (texts (take i words) ++ (get_or words i blank).now ∷ [])) (sym pushed) both)

-- the next word is refused
pub first-refused : {T : Type 0} (Says : List ℕ → T → Type 0) (Refuses : List ℕ → Type 0) (words : List (Bor (List ℕ))) (i : ℕ) (said : List T)
    → i < length words → AllZip Says (texts (take i words)) said → Refuses (get_or words i blank).now → RefusesFirst Says Refuses (texts words)
first-refused Says Refuses words i said lt h r =
    let many : length (texts words) ≡ length words = length-map words (λ word. word.now) in (
      i,
      omega (arith, many),
      (said, subst (λ (ws : List (List ℕ)). AllZip Says ws said) (sym (take-map (λ (word : Bor (List ℕ)). word.now) i words)) h),
      subst Refuses (sym (get_or-map (λ (word : Bor (List ℕ)). word.now) words i blank [] lt)) r,
    )

pub or-memory : (Reason : End → Type 0) (end : End) → Reason end → OrMemory Reason end
or-memory Reason Memory h = tt
or-memory Reason end h = h

-- by a reason that follows from another one
pub or-memory-by : (R S : End → Type 0) (end : End) → (R end → S end) → OrMemory R end → OrMemory S end
or-memory-by R S Memory f h = tt
or-memory-by R S end f h = f h
