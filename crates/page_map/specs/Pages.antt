-- The map from addresses to places: how each page is spread over 2^k modules.
use Rattle.std.specs.Prelude.{◌≡◌, ℕ, ◌/◌, ◌%◌, ◌^◌, ◌<◌, ◌≤◌, ◌==◌, ◌&&◌, Bool, List, length, replicate, nat_le, nat_lt, if◌then◌else◌, Option, None, Some, unwrap_or, slice_get, slice_set, IsTrue}
use Rattle.page_map.specs.Places.{Page, place_on}
use Rattle.page_map.specs.Limits.{max_k, page_count, page_words, address_count}
use Rattle.page_map.specs.declared.place.Place.{Place}
use Rattle.page_map.specs.declared.fault.PageFault.{PageFault}
use Rattle.page_map.specs.declared.fault.PageFault.TheVariants.{BadPage, BadInterleave}

-- a machine's modules, 2^k of them, and its pages in order
pub record Pages : Type 0 where
  pub k : ℕ
  pub pages : List Page

-- page g; none where there are no more than that many
abbrev pub page_in : Pages → ℕ → Option Page
page_in M g = if nat_lt g page_count then slice_get M.pages g else None

-- page g; one that isn't there stands on module 0
abbrev pub page_of : Pages → ℕ → Page
page_of M g = unwrap_or (page_in M g) (record { amount = 0; base = 0 })

-- `place`: where address a stands; none where there are no more than that many addresses
abbrev pub place_in : Pages → ℕ → Option Place
place_in M a = if nat_lt a address_count then Some (place_on (page_of M (a / page_words)) a) else None

-- whether a page may have this amount and base: 2^amount of the 2^k modules, from a multiple of 2^amount on
abbrev pub is_spread : ℕ → ℕ → ℕ → Bool
is_spread k amount base = nat_le amount k && (nat_lt base (2 ^ k) && (base % 2 ^ amount == 0))

-- the first fault of setting page g to this amount and base
abbrev pub page_fault : Pages → ℕ → ℕ → ℕ → Option PageFault
page_fault M g amount base =
    if nat_lt g page_count
    then (if is_spread M.k amount base then None else Some BadInterleave)
    else Some BadPage

-- the map with page g set
abbrev pub with_page : Pages → ℕ → Page → Pages
with_page M g page = record { k = M.k; pages = slice_set M.pages g page }

-- the map whose pages are all spread over the 2^k modules
abbrev pub whole_pages : ℕ → Pages
whole_pages k = record { k = k; pages = replicate page_count (record { amount = k; base = 0 }) }

-- what each map of a machine is: k at most max_k, and as many pages as there are, which are spread within the modules
pub record IsPageMap (M : Pages) : Type 0 where
  pub small : M.k ≤ max_k
  pub whole : length M.pages ≡ page_count
  pub spread : (g : ℕ) → g < page_count → IsTrue (is_spread M.k (page_of M g).amount (page_of M g).base)
