-- A row of which nothing is known.
use Rattle.std.proofs.Common.{◌≡◌, ℕ, suc, ◌<◌, ◌≤◌, ◌∙◌, ◌⊎◌, inl, inr, sym, ap, arith, List, length, replicate, get_or}
use Rattle.std.proofs.lemmas.Bool.{cases_lt}
use Rattle.std.proofs.lemmas.List.{get_or-replicate, get_or_past, length-replicate}
use Rattle.grid_law.specs.Rules.{Rules}
use Rattle.grid_law.specs.Codec.{Codec}
use Rattle.cell_states.specs.declared.near.Near.{Near}
use Rattle.cell_states.specs.NextWords.{HoldsWords}

abbrev zeros : ℕ → List ℕ
zeros n = replicate n 0

-- each is 0, and so is what is read behind them
none_there : (n d : ℕ) → get_or (zeros n) d 0 ≡ 0
none_there n d = by_place (cases_lt d n)
  where
    by_place : (d < n) ⊎ (n ≤ d) → get_or (zeros n) d 0 ≡ 0
    by_place (inl h) = get_or-replicate n d 0 0 h
    by_place (inr h) = let long : length (zeros n) ≡ n = length-replicate n 0 in get_or_past (zeros n) d 0 (omega (arith, h, long))

module _ {State Slots Slot Memory : Type 0} (R : Rules State Slots Slot) (C : Codec State Memory) {Whole : Type 0} (stands : Whole → Slots → Type 0) (state : Whole → ℕ → State) where
  pub nothing_known : (s : Slots) (near : Near Whole) (n : ℕ) → stands near.row s → n ≡ R.components s → near.at.items ≡ zeros n → HoldsWords R C stands state s near
  nothing_known s near n so many none = let long : length (zeros n) ≡ n = length-replicate n 0 in record {
    stands_so = so;
    each = ap length none ∙ long ∙ many;
    words = λ d t h at. absurd (let zero_is : 0 ≡ suc t = sym (ap (λ xs. get_or xs d 0) none ∙ none_there n d) ∙ at in omega (arith, zero_is));
  }
