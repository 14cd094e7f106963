-- An entry's text is read as that entry.
use Rattle.std.proofs.Common.{◌≡◌, ℕ, ◌^◌, ◌<◌, ◌≤◌, ◌==◌, Bool, true, false, not, cond, List, [], ◌∷◌, ◌++◌, filter, length, Some, codes, arith, rules, refl, ap, sym, ◌∙◌, lt-ltb}
use Rattle.std.specs.Fmt.{decimal}
use Rattle.std.specs.List.{list_all, slice_split}
use Rattle.std.specs.Char.{is_ascii_digit, is_ascii_graphic}
use Rattle.std.specs.Option.{option_map}
use Rattle.std.proofs.lemmas.Bool.{and_parts, and_from, not-true, le-leb, eqb-true}
use Rattle.std.proofs.lemmas.Bool.Decides.{nat_tests}
use Rattle.std.proofs.lemmas.List.{append-nil}
use Rattle.std.proofs.lemmas.Fmt.{digits_decimal, digits_value-decimal, decimal_nonempty, length-decimal-le}
use Rattle.std.proofs.lemmas.Str.Parse.{IsNumeralModel, numerals_by_fold}
use mathlib.Core.List.{append_assoc}
use Rattle.line_words.specs.Words.{is_separator, is_nonempty, words_of}
use Rattle.line_words.specs.Numbers.{value_after, is_number, number_of}
use Rattle.word_ops.specs.declared.kind.Kind.{Kind}
use Rattle.word_ops.specs.declared.op.Op.{Op}
use Rattle.word_ops.specs.Words.{kind_name, kind_named}
use Rattle.word_ops.proofs.Known.{known}
use Rattle.omega_net.specs.declared.script.ScriptEntry.{ScriptEntry}
use Rattle.omega_net.specs.declared.script.ScriptEntry.TheVariants.{Reference, Until, Fence, Idle}
use Rattle.project_book.specs.Limits.{usual_tries}
use Rattle.project_book.specs.EntryTexts.{network_name, times_text, entry_text, times_of, reference_of, network_named, until_of, entry_of, IsNumbered}

-- bytes among which no separator is
abbrev is_plain : List ℕ → Bool
is_plain w = list_all (λ b. not (is_separator b)) w

record IsWord (w : List ℕ) : Type 0 where
  some : 0 < length w
  plain : is_plain w ≡ true

split_on : (b : ℕ) (rest w : List ℕ) (parts : List (List ℕ)) → is_separator b ≡ false → slice_split is_separator rest ≡ w ∷ parts → slice_split is_separator (b ∷ rest) ≡ (b ∷ w) ∷ parts
split_on b rest w parts e h = rw (e, h) refl

split_first : (w rest : List ℕ) → is_plain w ≡ true → slice_split is_separator (w ++ 32 ∷ rest) ≡ w ∷ slice_split is_separator rest
split_first [] rest e = refl
split_first (b ∷ w) rest e =
    let parts = and_parts (not (is_separator b)) (is_plain w) e in
    split_on b (w ++ 32 ∷ rest) w _ (not-true _ parts.0) (split_first w rest parts.1)

split_last : (w : List ℕ) → is_plain w ≡ true → slice_split is_separator w ≡ w ∷ []
split_last [] e = refl
split_last (b ∷ w) e =
    let parts = and_parts (not (is_separator b)) (is_plain w) e in
    split_on b w w _ (not-true _ parts.0) (split_last w parts.1)

kept : (w : List ℕ) (parts : List (List ℕ)) → 0 < length w → filter is_nonempty (w ∷ parts) ≡ w ∷ filter is_nonempty parts
kept w parts h = rw (lt-ltb 0 (length w) h) refl

-- a word up to a space, and one up to the end
first_word : (w rest : List ℕ) → IsWord w → words_of (w ++ 32 ∷ rest) ≡ w ∷ words_of rest
first_word w rest h =
    ap (filter is_nonempty) (split_first w rest h.plain) ∙ kept w (slice_split is_separator rest) h.some

last_word : (w : List ℕ) → IsWord w → words_of w ≡ w ∷ []
last_word w h = ap (filter is_nonempty) (split_last w h.plain) ∙ kept w [] h.some

-- what is seen is no separator
plain_byte : (b : ℕ) → is_ascii_graphic b ≡ true → not (is_separator b) ≡ true
plain_byte b e = grind (arith, nat_tests)

plain_seen : (w : List ℕ) → list_all is_ascii_graphic w ≡ true → is_plain w ≡ true
plain_seen [] e = refl
plain_seen (b ∷ w) e =
    let parts = and_parts (is_ascii_graphic b) (list_all is_ascii_graphic w) e in
    and_from (not (is_separator b)) (is_plain w) (plain_byte b parts.0) (plain_seen w parts.1)

word_kind : (kind : Kind) → IsWord (kind_name kind)
word_kind kind = record { some = (known kind).some; plain = plain_seen (kind_name kind) ((known kind).seen) }

-- decimal digits
own : IsNumeralModel (λ ds. list_all is_ascii_digit ds ≡ true) (value_after 0)
own = numerals_by_fold _ (search rules) value_after (search rules)

plain_digit : (b : ℕ) → is_ascii_digit b ≡ true → not (is_separator b) ≡ true
plain_digit b e = grind (arith, nat_tests)

plain_digits : (w : List ℕ) → list_all is_ascii_digit w ≡ true → is_plain w ≡ true
plain_digits [] e = refl
plain_digits (b ∷ w) e =
    let parts = and_parts (is_ascii_digit b) (list_all is_ascii_digit w) e in
    and_from (not (is_separator b)) (is_plain w) (plain_digit b parts.0) (plain_digits w parts.1)

number_read : (w : List ℕ) (n : ℕ) → list_all is_ascii_digit w ≡ true → value_after 0 w ≡ n → 0 < length w → length w ≤ 10 → n < 2 ^ 32 → number_of w ≡ Some n
number_read w n digits value some short small =
    let tests : is_number w ≡ true = and_from _ _ (and_from _ _ (and_from _ _ (lt-ltb 0 (length w) some) (le-leb (length w) 10 short)) digits) (le-leb (value_after 0 w) 4294967295 (omega arith)) in
    rw tests (ap (λ (k : ℕ). Some k) value)

number_decimal : (n : ℕ) → n < 2 ^ 32 → number_of (decimal n) ≡ Some n
number_decimal n h =
    let wide : n < 2 ^ 64 = omega arith in
    number_read (decimal n) n (digits_decimal own n wide) (digits_value-decimal own n wide) (decimal_nonempty n wide) (length-decimal-le 10 n (omega arith) (omega arith) wide) h

word_decimal : (n : ℕ) → n < 2 ^ 32 → IsWord (decimal n)
word_decimal n h =
    let wide : n < 2 ^ 64 = omega arith in
    record { some = decimal_nonempty n wide; plain = plain_digits (decimal n) (digits_decimal own n wide) }

-- an operand and the times behind it
record ReadsTimes (usual v times : ℕ) (words : List (List ℕ)) : Type 0 where
  more : List (List ℕ)
  are : words ≡ decimal v ∷ more
  read : times_of usual more ≡ Some times

reads_times : (usual v times : ℕ) → v < 2 ^ 32 → times < 2 ^ 32 → ReadsTimes usual v times (words_of (decimal v ++ times_text usual times))
reads_times usual v times hv ht = by_once (times == usual) refl
  where
    by_once : (once : Bool) → (times == usual) ≡ once → ReadsTimes usual v times (words_of (decimal v ++ cond once [] (codes " " ++ decimal times)))
    by_once true e =
        record { more = []; are = ap words_of (append-nil (decimal v)) ∙ last_word (decimal v) (word_decimal v hv); read = ap (λ (k : ℕ). Some k) (sym (eqb-true times usual e)) }
    by_once false e =
        record { more = decimal times ∷ []; are = first_word (decimal v) (decimal times) (word_decimal v hv) ∙ ap (λ ws. decimal v ∷ ws) (last_word (decimal times) (word_decimal times ht)); read = number_decimal times ht }

reference_read : (sync : Bool) (kind : Kind) (a v times : ℕ) (name address operand : List ℕ) (more : List (List ℕ)) → kind_named name ≡ Some kind → number_of address ≡ Some a → number_of operand ≡ Some v → times_of 1 more ≡ Some times → reference_of sync (name ∷ address ∷ operand ∷ more) ≡ Some (Reference sync (record { kind = kind; operand = v }) a times)
reference_read sync kind a v times name address operand more k m o t = rw (k, m, o, t) refl

-- the words behind a reference's network
behind_read : (sync : Bool) (op : Op) (a times : ℕ) → op.operand < 2 ^ 32 → a < 2 ^ 32 → times < 2 ^ 32 → reference_of sync (words_of (kind_name op.kind ++ 32 ∷ (decimal a ++ 32 ∷ (decimal op.operand ++ times_text 1 times)))) ≡ Some (Reference sync op a times)
behind_read sync op a times hv ha ht =
    let last = reads_times 1 op.operand times hv ht in
    let address = first_word (decimal a) (decimal op.operand ++ times_text 1 times) (word_decimal a ha) in
    let kind = first_word (kind_name op.kind) (decimal a ++ 32 ∷ (decimal op.operand ++ times_text 1 times)) (word_kind op.kind) in
    rw (kind, address, last.are) (reference_read sync op.kind a op.operand times (kind_name op.kind) (decimal a) (decimal op.operand) last.more ((known op.kind).named) (number_decimal a ha) (number_decimal op.operand hv) last.read)

network_read : (sync : Bool) → network_named (network_name sync) ≡ Some sync
network_read true = refl
network_read false = refl

word_network : (sync : Bool) → IsWord (network_name sync)
word_network true = record { some = omega arith; plain = refl }
word_network false = record { some = omega arith; plain = refl }

until_reads : (sync : Bool) (kind : Kind) (a v w times : ℕ) (network name address operand value : List ℕ) (more : List (List ℕ)) → network_named network ≡ Some sync → kind_named name ≡ Some kind → number_of address ≡ Some a → number_of operand ≡ Some v → number_of value ≡ Some w → times_of usual_tries more ≡ Some times → until_of (network ∷ name ∷ address ∷ operand ∷ value ∷ more) ≡ Some (Until sync (record { kind = kind; operand = v }) a w times)
until_reads sync kind a v w times network name address operand value more n k m o p t = rw (n, k, m, o, p, t) refl

-- the words behind `until`
until_read : (sync : Bool) (op : Op) (a w times : ℕ) → op.operand < 2 ^ 32 → a < 2 ^ 32 → w < 2 ^ 32 → times < 2 ^ 32
    → until_of (words_of (network_name sync ++ 32 ∷ (kind_name op.kind ++ 32 ∷ (decimal a ++ 32 ∷ (decimal op.operand ++ 32 ∷ (decimal w ++ times_text usual_tries times)))))) ≡ Some (Until sync op a w times)
until_read sync op a w times hv ha hw ht =
    let last = reads_times usual_tries w times hw ht in
    let operand = first_word (decimal op.operand) (decimal w ++ times_text usual_tries times) (word_decimal op.operand hv) in
    let address = first_word (decimal a) (decimal op.operand ++ 32 ∷ (decimal w ++ times_text usual_tries times)) (word_decimal a ha) in
    let kind = first_word (kind_name op.kind) (decimal a ++ 32 ∷ (decimal op.operand ++ 32 ∷ (decimal w ++ times_text usual_tries times))) (word_kind op.kind) in
    let network = first_word (network_name sync) (kind_name op.kind ++ 32 ∷ (decimal a ++ 32 ∷ (decimal op.operand ++ 32 ∷ (decimal w ++ times_text usual_tries times)))) (word_network sync) in
    rw (network, kind, address, operand, last.are) (until_reads sync op.kind a op.operand w times (network_name sync) (kind_name op.kind) (decimal a) (decimal op.operand) (decimal w) last.more (network_read sync) ((known op.kind).named) (number_decimal a ha) (number_decimal op.operand hv) (number_decimal w hw) last.read)

regroup_until : (u n k a v w t : List ℕ) → (((((((((u ++ 32 ∷ []) ++ n) ++ 32 ∷ []) ++ k) ++ 32 ∷ []) ++ a) ++ 32 ∷ []) ++ v) ++ 32 ∷ []) ++ w ++ t ≡ u ++ 32 ∷ (n ++ 32 ∷ (k ++ 32 ∷ (a ++ 32 ∷ (v ++ 32 ∷ (w ++ t)))))
regroup_until u n k a v w t = simp append_assoc

regroup : (n k a v t : List ℕ) → ((((((n ++ 32 ∷ []) ++ k) ++ 32 ∷ []) ++ a) ++ 32 ∷ []) ++ v) ++ t ≡ n ++ 32 ∷ (k ++ 32 ∷ (a ++ 32 ∷ (v ++ t)))
regroup n k a v t = simp append_assoc

pub entry_read : (entry : ScriptEntry) → IsNumbered entry → entry_of (words_of (entry_text entry)) ≡ Some entry
entry_read (Reference true op a times) h =
    ap (λ text. entry_of (words_of text)) (regroup (codes "sync") (kind_name op.kind) (decimal a) (decimal op.operand) (times_text 1 times)) ∙ ap entry_of (first_word (codes "sync") (kind_name op.kind ++ 32 ∷ (decimal a ++ 32 ∷ (decimal op.operand ++ times_text 1 times))) (record { some = omega arith; plain = refl })) ∙ behind_read true op a times h.0 h.1 h.2
entry_read (Reference false op a times) h =
    ap (λ text. entry_of (words_of text)) (regroup (codes "plain") (kind_name op.kind) (decimal a) (decimal op.operand) (times_text 1 times)) ∙ ap entry_of (first_word (codes "plain") (kind_name op.kind ++ 32 ∷ (decimal a ++ 32 ∷ (decimal op.operand ++ times_text 1 times))) (record { some = omega arith; plain = refl })) ∙ behind_read false op a times h.0 h.1 h.2
entry_read (Until sync op a w times) h =
    ap (λ text. entry_of (words_of text)) (regroup_until (codes "until") (network_name sync) (kind_name op.kind) (decimal a) (decimal op.operand) (decimal w) (times_text usual_tries times))
    ∙ ap entry_of (first_word (codes "until") (network_name sync ++ 32 ∷ (kind_name op.kind ++ 32 ∷ (decimal a ++ 32 ∷ (decimal op.operand ++ 32 ∷ (decimal w ++ times_text usual_tries times))))) (record { some = omega arith; plain = refl }))
    ∙ until_read sync op a w times h.0 h.1 h.2 h.3
entry_read Fence h = refl
entry_read (Idle turns) h =
    ap entry_of (first_word (codes "idle") (decimal turns) (record { some = omega arith; plain = refl }) ∙ ap (λ ws. codes "idle" ∷ ws) (last_word (decimal turns) (word_decimal turns h))) ∙ ap (λ o. option_map (λ t. Idle t) o) (number_decimal turns h)
