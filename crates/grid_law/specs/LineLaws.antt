-- The laws of a grid, for a line.
use Rattle.std.proofs.Common.{◌≡◌, ℕ, ◌+◌, ◌-◌, ◌%◌, ◌^◌, ◌<◌, ◌≤◌, ◌∙◌, ap, refl, arith, rules, Bool, true, false, cond, List, [], ◌∷◌, ◌++◌, length, All, None, Some, eqb, ltb, sum, slice_get, not, ◌||◌, lit≤, lit<, eq-eqb}
use Rattle.std.specs.List.{Contains}
use Rattle.std.proofs.lemmas.Bool.Decides.{nat_tests}
use Rattle.std.proofs.lemmas.Bool.{false≢true, eqb-true, ltb-true, lt-ltb, and_parts, and_from}
use Rattle.std.proofs.lemmas.List.Elements.{All-cons, All-append, All-nil}
use Rattle.grid_law.specs.declared.numbers.Number.{Number}
use Rattle.grid_law.specs.declared.numbers.LineSlot.{LineSlot}
use Rattle.grid_law.specs.declared.numbers.LineSlot.TheVariants.{Seed, Add}
use Rattle.grid_law.specs.declared.reader.Reader.{Reader}
use Rattle.grid_law.specs.Rules.{Laws, Agrees, IsBefore, IsAscending, reader_at, result_of, is_first}
use Rattle.grid_law.specs.Codec.{CodecLaws}
use Rattle.grid_law.specs.Line.{line_rules, line_codec, line_near, left_of, right_of, line_reads, reader_of, line_readers, line_step, is_odd, same_read}
use Rattle.grid_law.specs.Numbers.{number_at, place_of, slot_value}

-- a neighbour is a place of the line
left_within : (n c : ℕ) → c < n → All (λ m. m < n) (left_of c)
left_within n c h =
    elim (eqb c 0) as (λ v. All (λ m. m < n) (cond v [] ((c - 1) ∷ []))) [ true ↦ All-nil (λ m. m < n) | false ↦ All-cons (λ m. m < n) (c - 1) [] (omega arith) (All-nil (λ m. m < n)) ]

right_within : (n c : ℕ) → All (λ m. m < n) (right_of n c)
right_within n c = right_cases n c (ltb (c + 1) n) refl
  where
    right_cases : (n c : ℕ) (v : Bool) → ltb (c + 1) n ≡ v → All (λ m. m < n) (cond v ((c + 1) ∷ []) [])
    right_cases n c false e = All-nil (λ m. m < n)
    right_cases n c true e = All-cons (λ m. m < n) (c + 1) [] (grind (arith, nat_tests)) (All-nil (λ m. m < n))

near_within : (n c : ℕ) → c < n → All (λ m. m < n) (line_near n c)
near_within n c h =
    All-cons (λ m. m < n) c (left_of c ++ right_of n c) h (All-append (λ m. m < n) (left_of c) (right_of n c) (left_within n c h) (right_within n c))

near_few : (n c : ℕ) → length (line_near n c) ≤ 5
near_few n c = few_in (eqb c 0) (ltb (c + 1) n)
  where
    few_in : (v w : Bool) → length (c ∷ (cond v [] ((c - 1) ∷ []) ++ cond w ((c + 1) ∷ []) [])) ≤ 5
    few_in true true = lit≤ tt
    few_in true false = lit≤ tt
    few_in false true = lit≤ tt
    few_in false false = lit≤ tt

-- what c reads has the same value in both, so c gets the same state
same_start : (a b : List Number) (c : ℕ) → Agrees line_rules a b [] c → (number_at a c).seed ≡ (number_at b c).seed
same_start a b c h = h.slots (Seed c) (search rules)

same_step : (a b : List Number) (own : ℕ) (others : List ℕ) (c : ℕ) → Agrees line_rules a b (own ∷ others) c → line_step a (own ∷ others) c ≡ line_step b (own ∷ others) c
same_step a b own others c h = by_parity (is_odd own) refl
  where
    by_parity : (v : Bool) → is_odd own ≡ v → cond v ((own + (number_at a c).add) % 2 ^ 32) (sum (own ∷ others) % 2 ^ 32) ≡ cond v ((own + (number_at b c).add) % 2 ^ 32) (sum (own ∷ others) % 2 ^ 32)
    by_parity false e = refl
    by_parity true e = ap (λ n. (own + n) % 2 ^ 32) (h.slots (Add c) (and_from (eqb c c) (is_odd own) (eq-eqb c c refl) e))

follows_from : (o e : Bool) → (not o || e) ≡ true → o ≡ true → e ≡ true
follows_from true e h r = h
follows_from false e h r = absurd (false≢true r)

implied : (o e : Bool) → (o ≡ true → e ≡ true) → (not o || e) ≡ true
implied true e f = f refl
implied false e f = refl

-- the test answers whether the two agree there
pub agrees_from_test : (a b : List Number) (near : List ℕ) (c : ℕ) → length a ≡ length b → same_read (number_at a c) (number_at b c) (slice_get near 0) ≡ true → Agrees line_rules a b near c
agrees_from_test a b [] c l h = record { shape = l; slots = seeds }
  where
    seeds : (slot : LineSlot) → line_reads None c slot ≡ true → slot_value a slot ≡ slot_value b slot
    seeds (Seed k) r = rw (eqb-true k c r) (eqb-true _ _ h)
    seeds (Add k) r = absurd (false≢true r)
agrees_from_test a b (own ∷ others) c l h = record { shape = l; slots = adds }
  where
    adds : (slot : LineSlot) → line_reads (Some own) c slot ≡ true → slot_value a slot ≡ slot_value b slot
    adds (Seed k) r = absurd (false≢true r)
    adds (Add k) r =
        let parts = and_parts (eqb k c) (is_odd own) r in
        rw (eqb-true k c parts.0) (eqb-true _ _ (follows_from (is_odd own) _ h parts.1))

pub test_from_agrees : (a b : List Number) (near : List ℕ) (c : ℕ) → Agrees line_rules a b near c → same_read (number_at a c) (number_at b c) (slice_get near 0) ≡ true
test_from_agrees a b [] c h = eq-eqb _ _ (same_start a b c h)
test_from_agrees a b (own ∷ others) c h =
    implied (is_odd own) _ (λ odd. eq-eqb _ _ (h.slots (Add c) (and_from (eqb c c) (is_odd own) (eq-eqb c c refl) odd)))

same_line_result : (a b : List Number) (near : List ℕ) (c : ℕ) → Agrees line_rules a b near c → result_of line_rules a near c ≡ result_of line_rules b near c
same_line_result a b [] c h = same_start a b c h
same_line_result a b (own ∷ others) c h = same_step a b own others c h

component_within : (n : ℕ) (slot : LineSlot) → place_of slot < n → (reader_of slot).component < n
component_within n (Seed k) h = h
component_within n (Add k) h = h

-- the one reader of a slot, where the line has its place
all_within : (n : ℕ) (slot : LineSlot) → All (λ r. r.component < n) (line_readers n slot)
all_within n slot = by_test (ltb (place_of slot) n) refl
  where
    by_test : (v : Bool) → ltb (place_of slot) n ≡ v → All (λ r. r.component < n) (cond v (reader_of slot ∷ []) [])
    by_test false e = All-nil (λ r. r.component < n)
    by_test true e = All-cons (λ r. r.component < n) (reader_of slot) [] (component_within n slot (ltb-true _ _ e)) (All-nil (λ r. r.component < n))

alone_ascends : (r : Reader) (v : Bool) → IsAscending (cond v (r ∷ []) [])
alone_ascends r false = tt
alone_ascends r true = (All-nil (λ q. IsBefore r q), tt)

contains_it : (n : ℕ) (slot : LineSlot) (r : Reader) → place_of slot < n → reader_of slot ≡ r → Contains (line_readers n slot) r
contains_it n slot r h e = rw (lt-ltb _ _ h) (0, lit< tt, e)

line_reads_readers : (n : ℕ) (near : List ℕ) (c : ℕ) (slot : LineSlot) → c < n → line_reads (slice_get near 0) c slot ≡ true → Contains (line_readers n slot) (reader_at c (is_first near))
line_reads_readers n [] c (Seed k) h r = let e = eqb-true k c r in contains_it n (Seed k) _ (rw e h) (ap (λ m. reader_at m true) e)
line_reads_readers n [] c (Add k) h r = absurd (false≢true r)
line_reads_readers n (own ∷ others) c (Seed k) h r = absurd (false≢true r)
line_reads_readers n (own ∷ others) c (Add k) h r = let e = eqb-true k c (and_parts (eqb k c) (is_odd own) r).0 in contains_it n (Add k) _ (rw e h) (ap (λ m. reader_at m false) e)

pub line_laws : Laws line_rules
line_laws = record {
  shape_itself = λ s. refl;
  shape_along = λ a b c h k. h ∙ k;
  shape_components = λ a b h. h;
  shape_near = λ a b c h. ap (λ n. line_near n c) h;
  at_itself = λ s slot. refl;
  at_along = λ a b c slot h k. h ∙ k;
  near_first = λ s c. (left_of c ++ right_of (length s) c, refl);
  near_within = λ s c h. near_within (length s) c h;
  near_few = λ s c. near_few (length s) c;
  same_reads = λ a b near c h slot. refl;
  same_result = same_line_result;
  reads_own = λ s own others c slot. refl;
  always_reads = λ s own others c slot e. absurd (false≢true e);
  readers = λ s near c slot h r. line_reads_readers (length s) near c slot h r;
  readers_exist = λ s slot. all_within (length s) slot;
  readers_ascend = λ s slot. alone_ascends (reader_of slot) (ltb (place_of slot) (length s));
}

pub line_codec_laws : CodecLaws line_codec
line_codec_laws = record {
  some = λ x e. search rules;
  alone = λ ws m n e. refl;
}
