-- How many items an array has, and which processors there may be; the keys behind a place.
use Rattle.std.proofs.Common.{◌≡◌, ℕ, ◌+◌, ◌^◌, ◌<◌, ◌≤◌, suc, Bool, ◌||◌, List, [], ◌∷◌, length, map, get_or, drop, All, Bor, arith, ap, refl}
use Rattle.std.specs.List.{list_any}
use Rattle.std.proofs.lemmas.List.{drop_more}
use Rattle.std.proofs.lemmas.List.Elements.{All-same, All-weaker}
use Rattle.std.proofs.Math.Pow.{pow_mono}
use Rattle.toml.specs.declared.value.Value.{Value}
use Rattle.toml.specs.View.{items_view}
use Rattle.page_map.specs.Limits.{max_k}
use Rattle.project_file.specs.Fields.{count}

pub count_view : (vs : List Value) → count (items_view vs) ≡ length vs
count_view [] = refl
count_view (v ∷ vs) = ap suc (count_view vs)

below_most : (k p : ℕ) → k ≤ max_k → p < 2 ^ k → p < 2 ^ max_k
below_most k p small low = let most : 2 ^ k ≤ 2 ^ max_k = pow_mono small in omega arith

pub all_below_most : (k : ℕ) (ps qs : List ℕ) → k ≤ max_k → qs ≡ ps → All (λ p. p < 2 ^ k) ps → All (λ p. p < 2 ^ max_k) qs
all_below_most k ps qs small same low =
    All-same (λ p. p < 2 ^ max_k) qs ps same (All-weaker (λ p. p < 2 ^ k) (λ p. p < 2 ^ max_k) (λ p. below_most k p small) ps low)

pub any_drop : (test : List ℕ → Bool) (keys : List (Bor (List ℕ))) (i : ℕ) (d : Bor (List ℕ)) → i < length keys
    → list_any test (map (λ k. k.now) (drop i keys)) ≡ (test (get_or keys i d).now || list_any test (map (λ k. k.now) (drop (i + 1) keys)))
any_drop test keys i d there = rw (drop_more keys i d there)
