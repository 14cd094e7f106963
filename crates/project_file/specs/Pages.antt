-- The key `page`: how pages are spread, each given at most once.
use Rattle.std.specs.Prelude.{ℕ, ◌-◌, not, true, false, List, [], ◌∷◌, replicate, Result, Ok, codes, is_none, slice_index_or, slice_set}
use Rattle.toml.specs.Data.{Data, Members}
use Rattle.page_map.specs.Limits.{page_count}
use Rattle.page_map.specs.Pages.{Pages, page_fault, with_page, whole_pages}
use Rattle.project_file.specs.declared.fault.ProjectFault.{ProjectFault}
use Rattle.project_file.specs.declared.pages.GivenPages.{GivenPages}
use Rattle.project_file.specs.declared.fault.ProjectFault.TheVariants.{Range, Twice}
use Rattle.project_file.specs.Fields.{◌>>=◌, check, walk, tables_in, table_in, known, number_at}

abbrev pub page_keys : List (List ℕ)
page_keys = codes "number" ∷ codes "amount" ∷ codes "base" ∷ []

-- the pages, and which of them were given, after one more item
abbrev pub with_page_of : GivenPages → Members → Result GivenPages ProjectFault
with_page_of P ms = do
  g ← number_at (codes "number") 0 (page_count - 1) ms
  _ ← check (not (slice_index_or P.given g false)) Twice
  amount ← number_at (codes "amount") 0 4294967295 ms
  base ← number_at (codes "base") 0 4294967295 ms
  _ ← check (is_none (page_fault P.pages g amount base)) Range
  Ok (record { given = slice_set P.given g true; pages = with_page P.pages g (record { amount = amount; base = base }) })

abbrev pub with_page_item : GivenPages → Data → Result GivenPages ProjectFault
with_page_item P d = do
  ms ← table_in d
  _ ← known page_keys ms
  with_page_of P ms

-- the pages of a machine of 2^k modules
unfoldable pub no_pages : ℕ → GivenPages
no_pages k = record { given = replicate page_count false; pages = whole_pages k }

abbrev pub pages_in : ℕ → Data → Result Pages ProjectFault
pages_in k d = do
  ds ← tables_in d
  P ← walk with_page_item (no_pages k) ds
  Ok P.pages
