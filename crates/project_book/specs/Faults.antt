-- The numbers and texts of the faults.
use Rattle.std.specs.Prelude.{ℕ, List, codes}
use Rattle.project_book.specs.declared.fault.EditFault.{EditFault}
use Rattle.project_book.specs.declared.fault.EditFault.TheVariants.{JournalFull, BadProcessor, BadEntry, ScriptFull, BadAddress, BadPage, BadInterleave, BadStage, BadDepth, BadWindow, BadTimes, BadHorizon, ClockSpent, Memory}

-- the number by which a fault is printed
abbrev pub number_of : EditFault → ℕ
number_of JournalFull = 1
number_of BadProcessor = 2
number_of BadEntry = 3
number_of ScriptFull = 4
number_of BadAddress = 5
number_of BadPage = 6
number_of BadInterleave = 7
number_of BadStage = 8
number_of BadDepth = 9
number_of BadWindow = 10
number_of BadTimes = 11
number_of BadHorizon = 12
number_of ClockSpent = 13
number_of Memory = 14

-- the text of a fault
abbrev pub fault_text : EditFault → List ℕ
fault_text JournalFull = codes "the journal is full"
fault_text BadProcessor = codes "no such processor"
fault_text BadEntry = codes "no such entry"
fault_text ScriptFull = codes "the script is full"
fault_text BadAddress = codes "no such address"
fault_text BadPage = codes "no such page"
fault_text BadInterleave = codes "no such interleaving"
fault_text BadStage = codes "no such stage"
fault_text BadDepth = codes "no such depth"
fault_text BadWindow = codes "no such window"
fault_text BadTimes = codes "no such number of times"
fault_text BadHorizon = codes "no such horizon"
fault_text ClockSpent = codes "the clock is spent"
fault_text Memory = codes "no memory"
