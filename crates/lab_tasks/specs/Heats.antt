-- The texts of hot words and modules.
use Rattle.std.specs.Prelude.{ℕ, List, [], ◌∷◌, ◌++◌, codes, decimal}
use Rattle.std.specs.List.{flat_map}
use Rattle.lab_tasks.specs.declared.hot.Hot.{Hot}

-- its number, its processors and its references
abbrev pub hot_text : Hot → List ℕ
hot_text h = decimal h.number ++ (codes " (" ++ (decimal h.processors ++ (codes ", " ++ (decimal h.references ++ codes ")"))))

-- several of them, with commas between
abbrev pub hots_text : List Hot → List ℕ
hots_text [] = codes "none"
hots_text (h ∷ hs) = hot_text h ++ flat_map (λ g. codes ", " ++ hot_text g) hs

abbrev pub hot_lines : List Hot → List Hot → List ℕ
hot_lines words modules =
    codes "hot words, by processors and references: " ++ (hots_text words
    ++ (codes "\nhot modules, by processors and references: " ++ (hots_text modules ++ codes "\n")))
