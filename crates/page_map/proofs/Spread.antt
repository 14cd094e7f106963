-- Pages that are spread within the modules, and the maps made of them.
use Rattle.std.proofs.Common.{◌≡◌, ℕ, ◌+◌, ◌-◌, ◌*◌, ◌/◌, ◌%◌, ◌^◌, ◌<◌, ◌≤◌, length, replicate, refl, ◌∙◌, ap, arith, IsTrue, get_or}
use Rattle.std.proofs.lemmas.Nat.{pow-add, pow_pos, shr_split, div_below, mul-le}
use Rattle.std.proofs.lemmas.Bool.{and_parts, leb-true, ltb-true, eqb-true, and_from, le-leb, lt-ltb, eq-eqb}
use Rattle.std.proofs.lemmas.Option.{unwrap_or-slice_get}
use Rattle.std.proofs.lemmas.List.{get_or-replicate, get_or_default}
use Rattle.page_map.specs.Limits.{max_k, page_count}
use Rattle.page_map.specs.Places.{Page}
use Rattle.page_map.specs.Pages.{Pages, page_of, is_spread, IsPageMap}

-- from a multiple of 2^a below 2^k on there is room for 2^a
room_after : (k a b : ℕ) → a ≤ k → b < 2 ^ k → b % 2 ^ a ≡ 0 → b + 2 ^ a ≤ 2 ^ k
room_after k a b low below whole =
    let parts : 2 ^ k ≡ 2 ^ (k - a) * 2 ^ a = (let e : k ≡ k - a + a = omega arith in ap (λ n. 2 ^ n) e ∙ pow-add 2 (k - a) a) in
    let turns : b ≡ b / 2 ^ a * 2 ^ a = omega (arith, shr_split b a) in
    let few : b / 2 ^ a < 2 ^ (k - a) = div_below b (2 ^ a) (2 ^ (k - a)) (pow_pos a) (rw (← parts) below) in
    let fits : (b / 2 ^ a + 1) * 2 ^ a ≤ 2 ^ (k - a) * 2 ^ a = mul-le (b / 2 ^ a + 1) (2 ^ a) (2 ^ (k - a)) (2 ^ a) (omega arith) (omega arith) in
    omega arith

-- what the test of a page says
pub spread_room : (k a b : ℕ) → IsTrue (is_spread k a b) → b + 2 ^ a ≤ 2 ^ k
spread_room k a b h =
    let parts = and_parts _ _ h in
    let later = and_parts _ _ parts.1 in
    room_after k a b (leb-true _ _ parts.0) (ltb-true _ _ later.0) (eqb-true _ _ later.1)

-- a page from module 0 on
from_zero : (k a : ℕ) → a ≤ k → IsTrue (is_spread k a 0)
from_zero k a low = and_from _ _ (le-leb a k low) (and_from _ _ (lt-ltb 0 (2 ^ k) (pow_pos k)) (eq-eqb (0 % 2 ^ a) 0 (omega arith)))

-- the look-up of a page that is there
pub page_of_is : (M : Pages) (g : ℕ) → g < page_count → page_of M g ≡ get_or M.pages g (record { amount = 0; base = 0 })
page_of_is M g below = rw (lt-ltb g page_count below) (unwrap_or-slice_get M.pages g (record { amount = 0; base = 0 }))

-- a map whose pages are all spread one way, from module 0 on
pub even_map : (k : ℕ) (p : Page) → k ≤ max_k → p.amount ≤ k → p.base ≡ 0 → IsPageMap (record { k = k; pages = replicate page_count p })
even_map k p small low base = record {
  small = small;
  whole = refl;
  spread = λ g below.
      rw (page_of_is (record { k = k; pages = replicate page_count p }) g below, get_or-replicate page_count g p (record { amount = 0; base = 0 }) below, base) (from_zero k p.amount low);
}

-- a page that is there is within the modules
pub room_at : (M : Pages) (g : ℕ) (d : Page) → IsPageMap M → g < page_count → (get_or M.pages g d).base + 2 ^ (get_or M.pages g d).amount ≤ 2 ^ M.k
room_at M g d known below =
    let there : g < length M.pages = omega (arith, known.whole) in
    let same : page_of M g ≡ get_or M.pages g d = page_of_is M g below ∙ get_or_default M.pages g (record { amount = 0; base = 0 }) d there in
    rw (← same) (spread_room M.k (page_of M g).amount (page_of M g).base (known.spread g below))
