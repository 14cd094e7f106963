-- The numbers and texts of the faults of writing.
use Rattle.std.specs.Prelude.{ℕ, List, codes}
use Rattle.project_file.specs.declared.write_fault.WriteFault.{WriteFault}
use Rattle.project_file.specs.declared.write_fault.WriteFault.TheVariants.{TooLong, Memory, Unread}

-- the number of a fault
abbrev pub number_of : WriteFault → ℕ
number_of TooLong = 1
number_of Memory = 2
number_of Unread = 3

-- the text of a fault
abbrev pub fault_text : WriteFault → List ℕ
fault_text TooLong = codes "the file would be longer than 4,194,304 bytes"
fault_text Memory = codes "no memory"
fault_text Unread = codes "the file is not read as the project"
