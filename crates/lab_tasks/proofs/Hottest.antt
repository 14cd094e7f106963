-- The words or modules that are hottest, found one after another.
use Rattle.std.proofs.Common.{◌≡◌, ◌≢◌, ℕ, ◌+◌, ◌<◌, ◌≤◌, ◌⊎◌, inl, inr, List, [], ◌∷◌, ◌++◌, length, min, set, map, All, AllPairs, Contains, sum_by, sym, ap, ◌∙◌, subst, refl, get_or, arith, get_or-set_same, get_or-set_other}
use Rattle.std.specs.Prelude.{slice_index}
use Rattle.std.proofs.lemmas.Bool.{cases_eq}
use Rattle.std.proofs.lemmas.List.{map-append}
use Rattle.std.proofs.lemmas.List.Elements.{All-push, Contains-append_left, Contains-push}
use Rattle.std.proofs.lemmas.List.Quantifiers.{all_pairs_push}
use Rattle.omega_net.specs.Wires.{below}
use Rattle.lab_tasks.specs.declared.hot.Hot.{Hot}
use Rattle.lab_tasks.specs.Counts.{AreHottest, Hotter, IsHottest}
use Rattle.lab_tasks.proofs.Listing.{sum_next}

-- one number more, of those that are 1 or 0
pub one_more : (f : ℕ → ℕ) (n : ℕ) → sum_by (λ p. min (f p) 1) (below (n + 1)) ≡ sum_by (λ p. min (f p) 1) (below n) + min (f n) 1
one_more f n = sum_next (λ p. min (f p) 1) n

abbrev pub from : ℕ → ℕ → ℕ → Hot
from n p r = record { number = n; processors = p; references = r }

abbrev pub with_counts : (ℕ → ℕ) → (ℕ → ℕ) → ℕ → Hot
with_counts p r n = from n (p n) (r n)

same_hot : (h : Hot) (p r : ℕ) → h.processors ≡ p → h.references ≡ r → h ≡ from h.number p r
same_hot h p r e f = let all : from h.number h.processors h.references ≡ from h.number p r = rw (e, f) refl in all

hotter_by : (h : Hot) (n a b c d : ℕ) → a ≡ c → b ≡ d → Hotter h (from n a b) → Hotter h (from n c d)
hotter_by h n a b c d e f hotter = rw (← e, ← f) hotter

abbrev pub numbers : List Hot → List ℕ
numbers hots = map (λ h. h.number) hots

-- these were found, which are of no processor from then on
pub record Naming (p r : ℕ → ℕ) (ps rs : List ℕ) (hots : List Hot) : Type 0 where
  pub told : All (λ h. (h ≡ with_counts p r h.number) × (0 < h.processors)) hots
  pub ordered : AllPairs Hotter hots
  pub references : (n : ℕ) → slice_index rs n ≡ r n
  pub left : (n : ℕ) → (slice_index ps n ≡ p n) ⊎ (Contains (numbers hots) n × (slice_index ps n ≡ 0))
  pub last : All (λ h. (n : ℕ) → 0 < slice_index ps n → Hotter h (with_counts p r n)) hots

none_yet : (p r : ℕ → ℕ) (ps rs : List ℕ) → ((n : ℕ) → slice_index ps n ≡ p n) → ((n : ℕ) → slice_index rs n ≡ r n) → Naming p r ps rs []
none_yet p r ps rs each times = record {
  told = λ k d lt. absurd (omega arith);
  ordered = λ i j d lt within. absurd (omega arith);
  references = times;
  left = λ n. inl (each n);
  last = λ k d lt. absurd (omega arith);
}

pub naming-none : (p r : ℕ → ℕ) (ps rs : List ℕ) (hots : List Hot) → ((n : ℕ) → slice_index ps n ≡ p n) → ((n : ℕ) → slice_index rs n ≡ r n) → hots ≡ [] → Naming p r ps rs hots
naming-none p r ps rs hots each times none = rw none (none_yet p r ps rs each times)

-- what is still counted has its number of processors
count_of : (p r : ℕ → ℕ) (ps rs : List ℕ) (hots : List Hot) (n : ℕ) → Naming p r ps rs hots → 0 < slice_index ps n → slice_index ps n ≡ p n
count_of p r ps rs hots n named some = elim (named.left n) [ inl same ↦ same | inr taken ↦ absurd (omega (arith, taken.1)) ]

-- the counts where one is 0
pub record Taken (ps left : List ℕ) (a : ℕ) : Type 0 where
  pub gone : slice_index left a ≡ 0
  pub others : (b : ℕ) → b ≢ a → slice_index left b ≡ slice_index ps b

pub taken : (ps : List ℕ) (a : ℕ) → a < length ps → Taken ps (set ps a 0) a
taken ps a lt = record {
  gone = get_or-set_same ps a 0 0 lt;
  others = λ b other. get_or-set_other ps a b 0 0 other;
}

-- the one that was found is told as it is
told_step : (p r : ℕ → ℕ) (ps rs : List ℕ) (hots : List Hot) (h : Hot) → Naming p r ps rs hots → IsHottest ps rs h → h ≡ with_counts p r h.number
told_step p r ps rs hots h named most =
    let some : 0 < slice_index ps h.number = omega (arith, most.1, most.3) in
    same_hot h (p h.number) (r h.number) (most.1 ∙ count_of p r ps rs hots h.number named some) (most.2 ∙ named.references h.number)

some_of : (ps rs : List ℕ) (h : Hot) → IsHottest ps rs h → 0 < slice_index ps h.number
some_of ps rs h most = omega (arith, most.1, most.3)

last_step : (p r : ℕ → ℕ) (ps rs left : List ℕ) (hots : List Hot) (h : Hot) → Naming p r ps rs hots → IsHottest ps rs h → Taken ps left h.number
    → All (λ g. (n : ℕ) → 0 < slice_index left n → Hotter g (with_counts p r n)) (hots ++ h ∷ [])
last_step p r ps rs left hots h named most t =
    All-push (λ g. (n : ℕ) → 0 < slice_index left n → Hotter g (with_counts p r n)) hots h
    (λ k d lt n some. named.last k d lt n (still n some))
    (λ n some. elim (most.4 n (still n some)) [
      | inl same ↦ absurd (other n some same)
      | inr hotter ↦ hotter_by h n (slice_index ps n) (slice_index rs n) (p n) (r n) (count_of p r ps rs hots n named (still n some)) (named.references n) hotter
    ])
  where
    other : (n : ℕ) → 0 < slice_index left n → n ≢ h.number
    other n some e = let gone = t.gone in let at : slice_index left n ≡ slice_index left h.number = ap (slice_index left) e in omega arith

    still : (n : ℕ) → 0 < slice_index left n → 0 < slice_index ps n
    still n some = let same = t.others n (other n some) in omega arith

left_step : (p r : ℕ → ℕ) (ps rs left : List ℕ) (hots : List Hot) (h : Hot) → Naming p r ps rs hots → Taken ps left h.number → (n : ℕ)
    → (slice_index left n ≡ p n) ⊎ (Contains (numbers (hots ++ h ∷ [])) n × (slice_index left n ≡ 0))
left_step p r ps rs left hots h named t n =
    rw (map-append (λ (g : Hot). g.number) hots (h ∷ []))
    (elim (cases_eq n h.number) [
      | inl same ↦ inr (subst (Contains (numbers hots ++ h.number ∷ [])) (sym same) (Contains-push (numbers hots) h.number), ap (slice_index left) same ∙ t.gone)
      | inr other ↦ elim (named.left n) [
        | inl kept ↦ inl (t.others n other ∙ kept)
        | inr gone ↦ inr (Contains-append_left (numbers hots) (h.number ∷ []) n gone.0, t.others n other ∙ gone.1)
      ]
    ])

naming-next : (p r : ℕ → ℕ) (ps rs left : List ℕ) (hots : List Hot) (h : Hot) → Naming p r ps rs hots → IsHottest ps rs h → Taken ps left h.number
    → Naming p r left rs (hots ++ h ∷ [])
naming-next p r ps rs left hots h named most t =
    let told : h ≡ with_counts p r h.number = told_step p r ps rs hots h named most in
    record {
      told = All-push (λ g. (g ≡ with_counts p r g.number) × (0 < g.processors)) hots h named.told (told, most.3);
      ordered = all_pairs_push Hotter hots h named.ordered (λ k d lt. before k d lt told);
      references = named.references;
      left = left_step p r ps rs left hots h named t;
      last = last_step p r ps rs left hots h named most t;
    }
  where
    before : (k : ℕ) (d : Hot) (lt : k < length hots) → h ≡ with_counts p r h.number → Hotter (get_or hots k d) h
    before k d lt told = subst (Hotter (get_or hots k d)) (sym told) (named.last k d lt h.number (some_of ps rs h most))

pub naming-taken : (p r : ℕ → ℕ) (ps rs left still : List ℕ) (hots more : List Hot) (h : Hot) → Naming p r ps rs hots → IsHottest ps rs h
    → left ≡ set ps h.number 0 → still ≡ rs → more ≡ hots ++ h ∷ [] → Naming p r left still more
naming-taken p r ps rs left still hots more h named most gone same pushed =
    let next : Naming p r (set ps h.number 0) rs (hots ++ h ∷ []) = naming-next p r ps rs (set ps h.number 0) hots h named most (taken ps h.number most.0) in
    rw (pushed, same, gone) next

-- eight were found
pub hottest-eight : (p r : ℕ → ℕ) (ps rs : List ℕ) (hots : List Hot) → length hots ≡ 8 → Naming p r ps rs hots → AreHottest (with_counts p r) hots
hottest-eight p r ps rs hots many named =
    record {
      few = omega arith;
      told = named.told;
      ordered = named.ordered;
      others = λ n some. elim (named.left n) [
        | inl same ↦ inr (many, λ k d lt. named.last k d lt n (omega arith))
        | inr gone ↦ inl gone.0
      ];
    }

-- none is left
pub hottest-all : (p r : ℕ → ℕ) (ps rs : List ℕ) (hots : List Hot) → length hots ≤ 8 → Naming p r ps rs hots → ((n : ℕ) → slice_index ps n ≡ 0) → AreHottest (with_counts p r) hots
hottest-all p r ps rs hots le named none =
    record {
      few = omega arith;
      told = named.told;
      ordered = named.ordered;
      others = λ n some. elim (named.left n) [
        | inl same ↦ let zero : slice_index ps n ≡ 0 = none n in absurd (omega arith)
        | inr gone ↦ inl gone.0
      ];
    }

-- the hottest of all that are counted
pub hottest_is : (p r : ℕ → ℕ) (ps rs : List ℕ) (h : Hot) → ((n : ℕ) → slice_index ps n ≡ p n) → ((n : ℕ) → slice_index rs n ≡ r n) → IsHottest ps rs h
    → (0 < p h.number) × ((n : ℕ) → 0 < p n → (n ≡ h.number) ⊎ Hotter (with_counts p r h.number) (with_counts p r n))
hottest_is p r ps rs h each times most = (
  some,
  λ n more. elim (most.4 n (counted n more)) [
    | inl same ↦ inl same
    | inr hotter ↦ inr (subst (λ g. Hotter g (with_counts p r n)) told (hotter_by h n (slice_index ps n) (slice_index rs n) (p n) (r n) (each n) (times n) hotter))
  ],
)
  where
    told : h ≡ with_counts p r h.number
    told = same_hot h (p h.number) (r h.number) (most.1 ∙ each h.number) (most.2 ∙ times h.number)

    some : 0 < p h.number
    some = let own = each h.number in omega (arith, most.1, most.3)

    counted : (n : ℕ) → 0 < p n → 0 < slice_index ps n
    counted n more = let own = each n in omega arith
