-- A printed name is read back.
use Rattle.std.proofs.Common.{◌≡◌, ℕ, ◌+◌, ◌^◌, ◌<◌, ◌≤◌, Bool, true, false, cond, List, [], ◌∷◌, ◌++◌, length, take, drop, refl, ap, ◌∙◌, None, Some, arith, rules, append_assoc, length-append, decimal, codes}
use Rattle.std.specs.Prelude.{nat_lt, nat_le, ◌&&◌, position, option_map}
use Rattle.std.specs.List.{list_all, position_or_len}
use Rattle.std.specs.Char.{is_ascii_digit}
use Rattle.std.proofs.lemmas.Bool.{lt-ltb, le-leb, and_parts}
use Rattle.std.proofs.lemmas.Bool.Decides.{nat_tests}
use Rattle.std.proofs.lemmas.Fmt.{digits_decimal, digits_value-decimal, decimal_nonempty, length-decimal-le}
use Rattle.std.proofs.lemmas.Str.Parse.{IsNumeralModel, numerals_by_fold}
use Rattle.std.proofs.Math.Seq.{take-append_seam, drop-append-add}
use Rattle.line_words.specs.Numbers.{number_of, value_after}
use Rattle.omega_net.specs.declared.component.Net.{Net}
use Rattle.omega_net.specs.declared.component.Net.TheVariants.{Low, Comb}
use Rattle.omega_net.specs.declared.name.Name.TheVariants.{Proc, Module, Switch}
use Rattle.omega_net.specs.Names.{is_dot, switch_of, switch_split, switch_named, NamesAreReadBack}

own : IsNumeralModel (λ ds. list_all is_ascii_digit ds ≡ true) (value_after 0)
own = numerals_by_fold _ (search rules) value_after (search rules)

-- a number that is printed is read back
read_if : (len v n : ℕ) (d : Bool) → 0 < len → len ≤ 10 → d ≡ true → v ≡ n → n ≤ 4294967295
    → cond (nat_lt 0 len && nat_le len 10 && d && nat_le v 4294967295) (Some v) None ≡ Some n
read_if len v n d some few digits is small =
    rw (lt-ltb 0 len some, le-leb len 10 few, digits, is, le-leb n 4294967295 small)

number_read : (n : ℕ) → n < 2 ^ 32 → number_of (decimal n) ≡ Some n
number_read n small =
    let wide : n < 2 ^ 64 = omega arith in
    read_if (length (decimal n)) (value_after 0 (decimal n)) n (list_all is_ascii_digit (decimal n))
    (decimal_nonempty n wide) (length-decimal-le 10 n (omega arith) (omega arith) wide)
    (digits_decimal own n wide) (digits_value-decimal own n wide) (omega arith)

-- digits have no dot
not_dot : (d : ℕ) → is_ascii_digit d ≡ true → is_dot d ≡ false
not_dot d e = grind (arith, nat_tests)

before_dot : (ds rest : List ℕ) → list_all is_ascii_digit ds ≡ true → position_or_len is_dot (ds ++ 46 ∷ rest) ≡ length ds
before_dot [] rest e = refl
before_dot (d ∷ ds) rest e =
    let parts = and_parts (is_ascii_digit d) (list_all is_ascii_digit ds) e in
    rw (not_dot d parts.0, before_dot ds rest parts.1) (omega arith)

dot_found : (ds rest : List ℕ) → list_all is_ascii_digit ds ≡ true → position is_dot (ds ++ 46 ∷ rest) ≡ Some (length ds)
dot_found ds rest e =
    let within : nat_lt (length ds) (length (ds ++ 46 ∷ rest)) ≡ true = lt-ltb _ _ (omega (arith, length-append ds (46 ∷ rest))) in
    let at = before_dot ds rest e in
    ap (λ n. cond (nat_lt n (length (ds ++ 46 ∷ rest))) (Some n) None) at ∙ ap (λ t. cond t (Some (length ds)) None) within

-- two printed numbers with a dot between them are read back
switch_read : (net : Net) (s j : ℕ) → s < 2 ^ 32 → j < 2 ^ 32 → switch_named net ((decimal s ++ codes ".") ++ decimal j) ≡ Some (Switch net s j)
switch_read net s j a b =
    let wide : s < 2 ^ 64 = omega arith in
    let dotted : List ℕ = decimal s ++ 46 ∷ decimal j in
    let front : take (length (decimal s)) dotted ≡ decimal s = take-append_seam (decimal s) (46 ∷ decimal j) in
    let back : drop (length (decimal s) + 1) dotted ≡ decimal j = drop-append-add (decimal s) (46 ∷ decimal j) 1 in
    ap (switch_named net) (append_assoc (decimal s) (codes ".") (decimal j))
    ∙ ap (switch_split net dotted) (dot_found (decimal s) (decimal j) (digits_decimal own s wide))
    ∙ ap (λ t. switch_of net (number_of t) (number_of (drop (length (decimal s) + 1) dotted))) front
    ∙ ap (λ t. switch_of net (number_of (decimal s)) (number_of t)) back
    ∙ ap (λ o. switch_of net o (number_of (decimal j))) (number_read s a)
    ∙ ap (λ o. switch_of net (Some s) o) (number_read j b)

pub names_read_back : NamesAreReadBack
names_read_back (Proc n) small = ap (option_map (λ n. Proc n)) (number_read n small)
names_read_back (Module n) small = ap (option_map (λ n. Module n)) (number_read n small)
names_read_back (Switch Low s j) small = switch_read Low s j small.0 small.1
names_read_back (Switch Comb s j) small = switch_read Comb s j small.0 small.1
