-- The numbers and texts of the faults.
use Rattle.std.specs.Prelude.{ℕ, List, codes}
use Rattle.project_file.specs.declared.fault.ProjectFault.{ProjectFault}
use Rattle.project_file.specs.declared.fault.ProjectFault.TheVariants.{TooLong, Text, Format, UnknownKey, Missing, WrongType, Range, Entry, Twice, Memory}

-- the number by which a fault is printed
abbrev pub number_of : ProjectFault → ℕ
number_of TooLong = 1
number_of Text = 2
number_of Format = 3
number_of UnknownKey = 4
number_of Missing = 5
number_of WrongType = 6
number_of Range = 7
number_of Entry = 8
number_of Twice = 9
number_of Memory = 10

-- the text of a fault
abbrev pub fault_text : ProjectFault → List ℕ
fault_text TooLong = codes "the file is longer than 4,194,304 bytes"
fault_text Text = codes "the file is not a TOML document"
fault_text Format = codes "the key format is none of 1, 2 and 3"
fault_text UnknownKey = codes "a key is not known"
fault_text Missing = codes "a key is missing"
fault_text WrongType = codes "a value is of the wrong type"
fault_text Range = codes "a value is outside its limits"
fault_text Entry = codes "a text is not a script entry"
fault_text Twice = codes "a page, an address or a processor is given twice"
fault_text Memory = codes "no memory"
