-- Items that are made one by one.
use Rattle.std.specs.Prelude.{◌≡◌, List, ◌++◌}
use Rattle.std.specs.List.{AllZip}

-- a list has one item more for each of some others, in their order, which it is in relation to
abbrev pub Adds : {A B : Type 0} → (A → B → Type 0) → List A → List B → List B → Type 0
Adds {A} {B} R others old new = (more : List B) × (new ≡ old ++ more) × AllZip R others more
