-- The project files that are kept of loads.
use Rattle.std.specs.Prelude.{◌≡◌, ℕ, ◌-◌, Bool, true, false, if◌then◌else◌, List, ◌++◌, Option, None, Some, Ok, codes, decimal, replicate}
use Rattle.page_map.specs.Limits.{max_k}
use Rattle.project_book.specs.Project.{Project}
use Rattle.project_file.specs.Filed.{filed}
use Rattle.experiments.specs.declared.load.Load.{Load}
use Rattle.experiments.specs.declared.offer.Offer.{Offer}
use Rattle.experiments.specs.Loads.{loaded}
use Rattle.experiments.specs.Offers.{project_offered}
use Rattle.lab_tasks.specs.declared.outcome.Outcome.{Outcome}
use Rattle.lab_tasks.specs.Added.{Adds}
use Rattle.lab_tasks.specs.Outcomes.{files_of, folder_of}

-- the project that is kept of a load: where that combines, each stage that its machine has does, and no other
abbrev pub kept_of : Load → Project
kept_of load = record (loaded load) { combine = replicate load.k load.combine ++ replicate (max_k - load.k) false }

-- the name of its file
abbrev pub net_text : Bool → Bool → List ℕ
net_text false combine = codes "low"
net_text true combine = if combine then codes "on" else codes "off"

abbrev pub load_name : Load → List ℕ
load_name load =
    codes "k" ++ decimal load.k ++ codes "-hot" ++ decimal load.hot ++ codes "-" ++ net_text load.sync load.combine ++ codes "-seed" ++ decimal load.seed
    ++ codes ".toml"

abbrev pub name_text : List ℕ → Load → List ℕ
name_text folder load = folder ++ codes "/" ++ load_name load

-- a file by name and bytes is that of a load
abbrev pub IsKept : List ℕ → Load → List ℕ × List ℕ → Type 0
IsKept folder load file = (file.0 ≡ name_text folder load) × (filed file.1 ≡ Ok (kept_of load))

-- the files of some loads behind those of an outcome, where a folder for them is named
abbrev pub IsWithKept : Option (List ℕ) → List Load → Outcome → Outcome → Type 0
IsWithKept None loads before after =
    (after.printed.items ≡ before.printed.items) × (files_of after ≡ files_of before) × (folder_of after ≡ folder_of before)
IsWithKept (Some folder) loads before after =
    (after.printed.items ≡ before.printed.items) × Adds (IsKept folder) loads (files_of before) (files_of after)
    × (folder_of after ≡ Some folder)

-- the same of offered loads: the project, the name, the file, and the files of some of them behind those of an outcome
abbrev pub kept_offer : Offer → Project
kept_offer o =
    record (project_offered o) { combine = replicate o.load.k o.load.combine ++ replicate (max_k - o.load.k) false }

abbrev pub rate_name : Offer → List ℕ
rate_name o = codes "k" ++ decimal o.load.k ++ codes "-hot" ++ decimal o.load.hot ++ codes "-rate" ++ decimal o.rate

abbrev pub offer_name : Offer → List ℕ
offer_name o =
    rate_name o ++ codes "-" ++ net_text o.load.sync o.load.combine ++ codes "-seed" ++ decimal o.load.seed ++ codes ".toml"

abbrev pub offer_path : List ℕ → Offer → List ℕ
offer_path folder o = folder ++ codes "/" ++ offer_name o

abbrev pub IsKeptOffer : List ℕ → Offer → List ℕ × List ℕ → Type 0
IsKeptOffer folder o file = (file.0 ≡ offer_path folder o) × (filed file.1 ≡ Ok (kept_offer o))

abbrev pub IsWithOffers : Option (List ℕ) → List Offer → Outcome → Outcome → Type 0
IsWithOffers None offers before after =
    (after.printed.items ≡ before.printed.items) × (files_of after ≡ files_of before) × (folder_of after ≡ folder_of before)
IsWithOffers (Some folder) offers before after =
    (after.printed.items ≡ before.printed.items) × Adds (IsKeptOffer folder) offers (files_of before) (files_of after)
    × (folder_of after ≡ Some folder)
