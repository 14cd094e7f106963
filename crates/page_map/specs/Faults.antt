-- The texts of the faults.
use Rattle.std.specs.Prelude.{ℕ, List, codes}
use Rattle.page_map.specs.declared.fault.PageFault.{PageFault}
use Rattle.page_map.specs.declared.fault.PageFault.TheVariants.{BadPage, BadInterleave}

-- the text of a fault
abbrev pub fault_text : PageFault → List ℕ
fault_text BadPage = codes "no such page"
fault_text BadInterleave = codes "no such interleaving"
