-- Fields, one character or one field more.
use Rattle.std.proofs.Common.{◌≡◌, ℕ, ◌+◌, ◌<◌, ◌==◌, arith, take, get_or, List, [], ◌∷◌, ◌++◌, length, map, refl, sym, ap, ◌∙◌, append-nil, append_assoc, codes}
use Rattle.std.specs.Prelude.{if◌then◌else◌}
use Rattle.std.specs.List.{flat_map}
use Rattle.std.proofs.lemmas.Bool.{ne_eqb}
use Rattle.std.proofs.lemmas.List.{length-map, length-take-le, map_more, take_more}
use Rattle.std.proofs.lemmas.Grind.{flat_map-append}
use Rattle.lab_tasks.specs.Tables.{doubled_char, field_text, fields_text}

pub doubled_next : (cs : List ℕ) (c : ℕ) → flat_map doubled_char (cs ++ c ∷ []) ≡ flat_map doubled_char cs ++ doubled_char c
doubled_next cs c = flat_map-append doubled_char cs (c ∷ []) ∙ ap (λ text. flat_map doubled_char cs ++ text) (append-nil (doubled_char c))

-- what stands before the field at a place
abbrev pub before : ℕ → List ℕ
before place = if place == 0 then [] else codes ","

before-later : (place : ℕ) → 0 < place → before place ≡ codes ","
before-later place some = rw (ne_eqb place 0 (λ e. absurd (omega arith))) refl

later_push : (first : List ℕ) (texts : List (List ℕ)) (text : List ℕ) → fields_text ((first ∷ texts) ++ text ∷ []) ≡ fields_text (first ∷ texts) ++ (44 ∷ field_text text)
later_push first [] text = refl
later_push first (second ∷ texts) text =
    ap (λ more. field_text first ++ (44 ∷ more)) (later_push second texts text)
    ∙ sym (append_assoc (field_text first) (44 ∷ fields_text (second ∷ texts)) (44 ∷ field_text text))

pub fields_push : (texts : List (List ℕ)) (text : List ℕ) → fields_text (texts ++ text ∷ []) ≡ fields_text texts ++ (before (length texts) ++ field_text text)
fields_push [] text = refl
fields_push (first ∷ texts) text =
    later_push first texts text
    ∙ ap (λ between. fields_text (first ∷ texts) ++ (between ++ field_text text)) (sym (before-later (length (first ∷ texts)) (omega arith)))

-- one field more behind a text
pub fields-next : (texts : List (List ℕ)) (text begin old new : List ℕ) (place : ℕ) → length texts ≡ place → old ≡ begin ++ fields_text texts
    → new ≡ old ++ (before place ++ field_text text) → new ≡ begin ++ fields_text (texts ++ text ∷ [])
fields-next texts text begin old new place at so written =
    written ∙ ap (λ done. done ++ (before place ++ field_text text)) so ∙ append_assoc begin (fields_text texts) (before place ++ field_text text)
    ∙ ap (λ n. begin ++ (fields_text texts ++ (before n ++ field_text text))) (sym at) ∙ ap (λ all. begin ++ all) (sym (fields_push texts text))

pub field-more : {X : Type 0} (text : X → List ℕ) (xs : List X) (i : ℕ) (d : X) (begin old new : List ℕ) → i < length xs → old ≡ begin ++ fields_text (map text (take i xs))
    → new ≡ old ++ (before i ++ field_text (text (get_or xs i d))) → new ≡ begin ++ fields_text (map text (take (i + 1) xs))
field-more text xs i d begin old new lt so written =
    let many : length (map text (take i xs)) ≡ i = length-map (take i xs) text ∙ length-take-le i xs (omega arith) in
    fields-next (map text (take i xs)) (text (get_or xs i d)) begin old new i many so written
    ∙ ap (λ texts. begin ++ fields_text texts) (sym (map_more text xs i d lt))

-- one cell more
pub field-next : (cells : List (List ℕ)) (i : ℕ) (d cell begin old new : List ℕ) → i < length cells → cell ≡ get_or cells i d → old ≡ begin ++ fields_text (take i cells)
    → new ≡ old ++ (before i ++ field_text cell) → new ≡ begin ++ fields_text (take (i + 1) cells)
field-next cells i d cell begin old new lt is so written =
    let many : length (take i cells) ≡ i = length-take-le i cells (omega arith) in
    fields-next (take i cells) cell begin old new i many so written
    ∙ ap (λ texts. begin ++ fields_text texts) (ap (λ c. take i cells ++ c ∷ []) is ∙ sym (take_more cells i d lt))
