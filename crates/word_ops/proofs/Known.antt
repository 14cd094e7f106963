-- What holds of each kind: its name and its number are read back as it, and to do one operation and then another of its kind is to do
-- the one that combines them.
use Rattle.std.proofs.Common.{◌≡◌, ℕ, ◌+◌, ◌%◌, ◌^◌, ◌<◌, true, length, Some, bit_or, refl, sym, ◌∙◌, ap, arith, add_assoc}
use Rattle.std.specs.List.{list_all}
use Rattle.std.specs.Char.{is_ascii_graphic}
use Rattle.std.proofs.Math.Nat.{add-mod-mod, mod-add-mod}
use Rattle.std.proofs.lemmas.Nat.{and_assoc}
use Rattle.std.proofs.lemmas.Nat.Bits.{same_from_bits, bit_at_or}
use Rattle.std.proofs.lemmas.Bool.{eqb-true}
use Rattle.std.proofs.lemmas.Bool.Decides.{nat_tests}
use Rattle.word_ops.specs.declared.kind.Kind.{Kind}
use Rattle.word_ops.specs.declared.kind.Kind.TheVariants.{Load, Add, And, Or, Min, Max, Store, StoreIfZero}
use Rattle.word_ops.specs.Words.{kind_name, kind_named, kind_number, kind_bits, kind_of_number, same_kind, left_by, both_of}

-- a kind's name is a word of characters that are seen, and is read as that kind; so is its number, which fits its bits
pub record IsKnown (kind : Kind) : Type 0 where
  pub named : kind_named (kind_name kind) ≡ Some kind
  pub some : 0 < length (kind_name kind)
  pub seen : list_all is_ascii_graphic (kind_name kind) ≡ true
  pub numbered : kind_of_number (kind_number kind) ≡ kind
  pub small : kind_number kind < 2 ^ kind_bits

pub known : (kind : Kind) → IsKnown kind
known Load = record { named = refl; some = omega arith; seen = refl; numbered = refl; small = omega arith }
known Add = record { named = refl; some = omega arith; seen = refl; numbered = refl; small = omega arith }
known And = record { named = refl; some = omega arith; seen = refl; numbered = refl; small = omega arith }
known Or = record { named = refl; some = omega arith; seen = refl; numbered = refl; small = omega arith }
known Min = record { named = refl; some = omega arith; seen = refl; numbered = refl; small = omega arith }
known Max = record { named = refl; some = omega arith; seen = refl; numbered = refl; small = omega arith }
known Store = record { named = refl; some = omega arith; seen = refl; numbered = refl; small = omega arith }
known StoreIfZero = record { named = refl; some = omega arith; seen = refl; numbered = refl; small = omega arith }

-- kinds of one number are one kind
pub kinds_equal : (a b : Kind) → same_kind a b ≡ true → a ≡ b
kinds_equal a b h = sym ((known a).numbered) ∙ ap kind_of_number (eqb-true (kind_number a) (kind_number b) h) ∙ (known b).numbered

-- the order of two `|` is free
or_assoc : (a b c : ℕ) → bit_or (bit_or a b) c ≡ bit_or a (bit_or b c)
or_assoc a b c = same_from_bits _ _ (λ i. omega (arith, bit_at_or (bit_or a b) c i, bit_at_or a b i, bit_at_or a (bit_or b c) i, bit_at_or b c i))

-- the order of two sums is free, where each wraps at m
sum_assoc : (a b c m : ℕ) → (a + (b + c) % m) % m ≡ ((a + b) % m + c) % m
sum_assoc a b c m = add-mod-mod a (b + c) m ∙ ap (λ n. n % m) (sym (add_assoc a b c)) ∙ sym (mod-add-mod (a + b) m c)

-- the first operand that isn't 0 stays
stored_once : (e f x : ℕ) → left_by StoreIfZero (both_of StoreIfZero e f) x ≡ left_by StoreIfZero f (left_by StoreIfZero e x)
stored_once e f x = grind (arith, nat_tests)

-- for each kind and every word
pub composed : (kind : Kind) (e f x : ℕ) → left_by kind (both_of kind e f) x ≡ left_by kind f (left_by kind e x)
composed Load e f x = refl
composed Add e f x = sum_assoc x e f (2 ^ 32)
composed And e f x = sym (and_assoc f x e)
composed Or e f x = sym (or_assoc x e f)
composed Min e f x = omega arith
composed Max e f x = omega arith
composed Store e f x = refl
composed StoreIfZero e f x = stored_once e f x

-- so of two operations of kinds with one number
pub composed_same : (a b : Kind) (e f x : ℕ) → same_kind a b ≡ true → left_by a (both_of a e f) x ≡ left_by b f (left_by a e x)
composed_same a b e f x h = composed a e f x ∙ ap (λ kind. left_by kind f (left_by a e x)) (kinds_equal a b h)
