-- Texts that are cut at a byte.
use Rattle.std.proofs.Common.{◌≡◌, ◌≢◌, ℕ, zero, suc, ◌<◌, ◌==◌, Bool, true, false, List, [], ◌∷◌, ◌++◌, length, get_or, refl, sym, ap, ◌∙◌, arith, Bor, map, append_assoc}
use Rattle.std.specs.Prelude.{Option, Some, None, option_map, MatchOption}
use Rattle.std.specs.List.{slice_split, onto_first}
use Rattle.std.proofs.lemmas.Bool.{ne_eqb}
use Rattle.std.proofs.lemmas.Bool.Decides.{nat_tests}
use Rattle.std.proofs.lemmas.List.{map_push}
use Rattle.edit_templates.specs.Braces.{cut_at}

-- a byte doesn't stand in a text
abbrev pub Lacks : ℕ → List ℕ → Type 0
Lacks c bs = (i : ℕ) → i < length bs → get_or bs i 0 ≢ c

lacks_first : (c b : ℕ) (bs : List ℕ) → Lacks c (b ∷ bs) → (b == c) ≡ false
lacks_first c b bs h = ne_eqb b c (h zero (omega arith))

lacks_more : (c b : ℕ) (bs : List ℕ) → Lacks c (b ∷ bs) → Lacks c bs
lacks_more c b bs h = λ i lt. h (suc i) (omega arith)

cut_none : (c : ℕ) (bs : List ℕ) → Lacks c bs → cut_at c bs ≡ None
cut_none c [] h = refl
cut_none c (b ∷ bs) h = rw (lacks_first c b bs h, cut_none c bs (lacks_more c b bs h)) refl

same_byte : (c : ℕ) → (c == c) ≡ true
same_byte c = grind (arith, nat_tests)

cut_there : (c : ℕ) (xs ys : List ℕ) → Lacks c xs → cut_at c (xs ++ c ∷ ys) ≡ Some (xs, ys)
cut_there c [] ys h = rw (same_byte c) refl
cut_there c (x ∷ xs) ys h = rw (lacks_first c x xs h, cut_there c xs ys (lacks_more c x xs h)) refl

-- what `split_once` at a byte gives
pub cut_is : (c : ℕ) (bs : List ℕ) (r : Option (Bor (List ℕ) × Bor (List ℕ)))
    → MatchOption r (Lacks c bs) (λ x. (bs ≡ x.0.now ++ (c ∷ x.1.now)) × Lacks c x.0.now)
    → option_map (λ p. (p.0.now, p.1.now)) r ≡ cut_at c bs
cut_is c bs None h = sym (cut_none c bs h)
cut_is c bs (Some x) h = sym (ap (cut_at c) h.0 ∙ cut_there c x.0.now x.1.now h.1)

-- ---- the parts between, by the cut

abbrev split : ℕ → List ℕ → List (List ℕ)
split c text = slice_split (λ b. b == c) text

abbrev parts_by : ℕ → List ℕ → Option (List ℕ × List ℕ) → List (List ℕ)
parts_by c text None = text ∷ []
parts_by c text (Some parts) = parts.0 ∷ split c parts.1

onto : (b : ℕ) (c : ℕ) (bs : List ℕ) (o : Option (List ℕ × List ℕ))
    → onto_first b (parts_by c bs o) ≡ parts_by c (b ∷ bs) (option_map (λ parts. (b ∷ parts.0, parts.1)) o)
onto b c bs None = refl
onto b c bs (Some parts) = refl

split_step : (c b : ℕ) (bs : List ℕ) → split c bs ≡ parts_by c bs (cut_at c bs) → split c (b ∷ bs) ≡ parts_by c (b ∷ bs) (cut_at c (b ∷ bs))
split_step c b bs before = by_test (b == c) refl
  where
    by_test : (t : Bool) → (b == c) ≡ t → split c (b ∷ bs) ≡ parts_by c (b ∷ bs) (cut_at c (b ∷ bs))
    by_test true e = rw e refl
    by_test false e = rw (e, before) (onto b c bs (cut_at c bs))

split_by : (c : ℕ) (text : List ℕ) → split c text ≡ parts_by c text (cut_at c text)
split_by c [] = refl
split_by c (b ∷ bs) = split_step c b bs (split_by c bs)

pub split_last : (c : ℕ) (text : List ℕ) → cut_at c text ≡ None → split c text ≡ text ∷ []
split_last c text e = split_by c text ∙ ap (parts_by c text) e

pub split_more : (c : ℕ) (text first behind : List ℕ) → cut_at c text ≡ Some (first, behind) → split c text ≡ first ∷ split c behind
split_more c text first behind e = split_by c text ∙ ap (parts_by c text) e

-- a part more
pub parts-next : (c : ℕ) (items more : List (Bor (List ℕ))) (first behind : Bor (List ℕ)) (rest text : List ℕ) → map (λ w. w.now) items ++ split c rest ≡ split c text
    → cut_at c rest ≡ Some (first.now, behind.now) → more ≡ items ++ first ∷ [] → map (λ w. w.now) more ++ split c behind.now ≡ split c text
parts-next c items more first behind rest text so at pushed =
    let now : Bor (List ℕ) → List ℕ = λ w. w.now in
    ap (λ (ws : List (Bor (List ℕ))). map (λ w. w.now) ws ++ split c behind.now) pushed
    ∙ ap (λ ws. ws ++ split c behind.now) (map_push now items first)
    ∙ append_assoc (map now items) (first.now ∷ []) (split c behind.now)
    ∙ ap (λ ws. map now items ++ ws) (sym (split_more c rest first.now behind.now at)) ∙ so

pub parts-last : (c : ℕ) (items more : List (Bor (List ℕ))) (last : Bor (List ℕ)) (text : List ℕ) → map (λ w. w.now) items ++ split c last.now ≡ split c text
    → cut_at c last.now ≡ None → more ≡ items ++ last ∷ [] → map (λ w. w.now) more ≡ split c text
parts-last c items more last text so none pushed =
    let now : Bor (List ℕ) → List ℕ = λ w. w.now in
    ap (map now) pushed ∙ map_push now items last ∙ ap (λ ws. map now items ++ ws) (sym (split_last c last.now none)) ∙ so

-- what is left is shorter
none_some : {p : List ℕ × List ℕ} → None ≡ Some p → ⊥
none_some e = cc

abbrev back_of : Option (List ℕ × List ℕ) → List ℕ
back_of None = []
back_of (Some parts) = parts.1

shorter_by : (c b : ℕ) (bs : List ℕ) (first behind : List ℕ) (t : Bool) (o : Option (List ℕ × List ℕ)) → (b == c) ≡ t → cut_at c bs ≡ o
    → ((f h : List ℕ) → o ≡ Some (f, h) → length h < length bs) → cut_at c (b ∷ bs) ≡ Some (first, behind) → length behind < suc (length bs)
shorter_by c b bs first behind true o e at before is =
    let found : Some ([], bs) ≡ Some (first, behind) = rw e at is in
    let same : bs ≡ behind = ap back_of found in
    let long = ap length same in
    omega arith
shorter_by c b bs first behind false None e at before is =
    let never : None ≡ Some (first, behind) = rw (e, at) at is in
    absurd (none_some never)
shorter_by c b bs first behind false (Some parts) e at before is =
    let found : Some (b ∷ parts.0, parts.1) ≡ Some (first, behind) = rw (e, at) at is in
    let same : parts.1 ≡ behind = ap back_of found in
    let less : length parts.1 < length bs = before parts.0 parts.1 refl in
    let long = ap length same in
    omega arith

pub cut_shorter : (c : ℕ) (text first behind : List ℕ) → cut_at c text ≡ Some (first, behind) → length behind < length text
cut_shorter c [] first behind is = cc
cut_shorter c (b ∷ bs) first behind is = shorter_by c b bs first behind (b == c) (cut_at c bs) refl refl (λ f h e. cut_shorter c bs f h e) is
