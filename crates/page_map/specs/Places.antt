-- Where an address stands: its page's words are spread over 2^amount modules from the base on
-- (interleaving chosen by software: Pfister and others 1985).
use Rattle.std.specs.Prelude.{ℕ, ◌+◌, ◌*◌, ◌/◌, ◌%◌, ◌^◌}
use Rattle.page_map.specs.Limits.{page_words}
use Rattle.page_map.specs.declared.place.Place.{Place}

-- how a page is spread
pub record Page : Type 0 where
  pub amount : ℕ
  pub base : ℕ

-- `place`, of an address on this page
abbrev pub place_on : Page → ℕ → Place
place_on page a = record {
  «module» = page.base + a % page_words % 2 ^ page.amount;
  row = page_words * (a / page_words) + a % page_words / 2 ^ page.amount;
}
