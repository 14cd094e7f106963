-- What stands for a character that can't stand in the text of a document.
use Rattle.std.specs.Prelude.{ℕ, ◌==◌, if◌then◌else◌, List, Option, None, Some, codes}

-- 38 is &, 60 <, 62 >, 34 " and 39 '
abbrev pub entity_of : ℕ → Option (List ℕ)
entity_of c =
    if c == 38 then Some (codes "&amp;")
    else (if c == 60 then Some (codes "&lt;")
    else (if c == 62 then Some (codes "&gt;")
    else (if c == 34 then Some (codes "&quot;")
    else (if c == 39 then Some (codes "&#39;") else None))))
