-- Marks of components, by what a step has changed.
use Rattle.std.proofs.Common.{◌≡◌, ℕ, suc, ◌+◌, ◌-◌, ◌*◌, ◌%◌, ◌<◌, ◌≤◌, Bool, true, false, List, length, refl, ap, sym, subst, ◌∙◌, ◌⊎◌, inl, inr, Some, replicate, arith}
use Rattle.std.specs.Prelude.{◌||◌, not, slice_index_or}
use Rattle.std.proofs.Math.Nat.{mul-le-mul}
use Rattle.std.proofs.lemmas.Bool.{cases_lt}
use Rattle.std.proofs.lemmas.List.{get_or-replicate, length-replicate}
use Rattle.std.proofs.lemmas.Nat.{div-mul-add, mod-mul-add}
use Rattle.omega_net.specs.declared.component.Net.TheVariants.{Low as LowNet, Comb as CombNet}
use Rattle.omega_net.specs.declared.component.Component.{Component}
use Rattle.omega_net.specs.declared.component.Component.TheVariants.{Proc as ProcAt, Module as ModuleAt, Switch}
use Rattle.omega_net.specs.Numbers.{components, component_of, half, lines, number_of, Exists}
use Rattle.omega_net.proofs.Numbering.{component_has, half_twice, switch_within}
use Rattle.flat_row.specs.declared.changed.Changed.{Changed}
use Rattle.flat_row.specs.Changed.{has_changed}
use Rattle.flat_row.specs.Masks.{has}
use Rattle.cell_states.specs.Filling.{is_awake}
use Rattle.whole_rows.specs.Among.{is_among, in_stage, in_stages}
use Rattle.whole_rows.specs.Rows.{is_outside, wrote_in}
use Rattle.whole_rows.proofs.Placing.{inside, outside, half_in_word}

-- none is marked at first
pub none_awake : (n c : ℕ) → c < n → is_awake (replicate n false) c ≡ false
none_awake n c h = get_or-replicate n c false false h

-- the switches of a network begin where those of each stage lie within a word
pub low_in_word : (k s : ℕ) → k ≤ 6 → s < k → (2 * lines k + s * half k) % 64 + half k ≤ 64
low_in_word k s few there =
    let first : 2 * lines k + s * half k ≡ (4 + s) * half k = omega (arith, half_twice k s there) in
    subst (λ n. n % 64 + half k ≤ 64) (sym first) (half_in_word k (4 + s) few)

pub comb_in_word : (k s : ℕ) → k ≤ 6 → s < k → (2 * lines k + k * half k + s * half k) % 64 + half k ≤ 64
comb_in_word k s few there =
    let first : 2 * lines k + k * half k + s * half k ≡ (4 + k + s) * half k = omega (arith, half_twice k s there) in
    subst (λ n. n % 64 + half k ≤ 64) (sym first) (half_in_word k (4 + k + s) few)

pub stage_fits : (k s : ℕ) → s < k → s * half k + half k ≤ k * half k
stage_fits k s h = let both : suc s * half k ≤ k * half k = mul-le-mul h (le_self (half k)) in omega (arith, both)
  where
    le_self : (n : ℕ) → n ≤ n
    le_self n = omega arith

-- one stage more
module _ (k first s c : ℕ) (sets : List ℕ) where
  abbrev h : ℕ
  h = half k

  abbrev so_far : Bool
  so_far = is_among first (s * h) (in_stages k sets) c

  abbrev this : Bool
  this = is_among (first + s * h) h (in_stage k s (slice_index_or sets s 0)) c

  abbrev then : Bool
  then = is_among first ((s + 1) * h) (in_stages k sets) c

  none_yet : is_among first (0 * h) (in_stages k sets) c ≡ false
  none_yet = outside first (0 * h) c (in_stages k sets) (λ above below. omega (arith, above, below))

  or_false : (a : Bool) → (a || false) ≡ a
  or_false true = refl
  or_false false = refl

  one_on : (s + 1) * h ≡ s * h + h
  one_on = omega arith

  past : first + s * h ≤ c → so_far ≡ false
  past le = outside first (s * h) c (in_stages k sets) (λ above below. omega (arith, le, below))

  pub stage_more : (so_far || this) ≡ then
  stage_more = by_begin (cases_lt c (first + s * h))
    where
      by_low : c < first + s * h → (c < first) ⊎ (first ≤ c) → so_far ≡ then
      by_low lt (inl early) = outside first (s * h) c (in_stages k sets) (λ above below. omega (arith, above, early)) ∙ sym (outside first ((s + 1) * h) c (in_stages k sets) (λ above below. omega (arith, above, early)))
      by_low lt (inr le) = inside first (s * h) c (in_stages k sets) le lt ∙ sym (inside first ((s + 1) * h) c (in_stages k sets) le (omega (arith, lt, one_on)))

      by_end : first + s * h ≤ c → (c < first + s * h + h) ⊎ (first + s * h + h ≤ c) → this ≡ then
      by_end le (inl lt) =
          let j : c - first ≡ s * h + (c - (first + s * h)) = omega (arith, le) in
          let small : c - (first + s * h) < h = omega (arith, le, lt) in
          inside (first + s * h) h c (in_stage k s (slice_index_or sets s 0)) le lt
          ∙ sym (inside first ((s + 1) * h) c (in_stages k sets) (omega (arith, le)) (omega (arith, lt, one_on))
          ∙ ap (in_stages k sets) j
          ∙ ap (λ d. in_stage k d (slice_index_or sets d 0) ((s * h + (c - (first + s * h))) % h)) (div-mul-add s h (c - (first + s * h)) small)
          ∙ ap (in_stage k s (slice_index_or sets s 0)) (mod-mul-add s h (c - (first + s * h)) small))
      by_end le (inr ge) =
          outside (first + s * h) h c (in_stage k s (slice_index_or sets s 0)) (λ above below. omega (arith, below, ge))
          ∙ sym (outside first ((s + 1) * h) c (in_stages k sets) (λ above below. omega (arith, below, ge, one_on)))

      by_begin : (c < first + s * h) ⊎ (first + s * h ≤ c) → (so_far || this) ≡ then
      by_begin (inl lt) =
          ap (λ b. so_far || b) (outside (first + s * h) h c (in_stage k s (slice_index_or sets s 0)) (λ above below. omega (arith, lt, above)))
          ∙ or_false so_far ∙ by_low lt (cases_lt c first)
      by_begin (inr le) = ap (λ b. b || this) (past le) ∙ by_end le (cases_lt c (first + s * h + h))

pub none_more : (k first c : ℕ) (sets : List ℕ) (b : Bool) → b ≡ (b || is_among first (0 * half k) (in_stages k sets) c)
none_more k first c sets b = sym (ap (λ a. b || a) (none_yet k first 0 c sets) ∙ or_false k first 0 c sets b)

pub stage_joins : (k first s c : ℕ) (sets : List ℕ) (before now next : Bool) → now ≡ (before || is_among first (s * half k) (in_stages k sets) c)
    → next ≡ (now || is_among (first + s * half k) (half k) (in_stage k s (slice_index_or sets s 0)) c) → next ≡ (before || is_among first ((s + 1) * half k) (in_stages k sets) c)
stage_joins k first s c sets before now next e f =
    f ∙ ap (λ b. b || this k first s c sets) e ∙ regroup before (so_far k first s c sets) (this k first s c sets) ∙ ap (λ b. before || b) (stage_more k first s c sets)
  where
    regroup : (a b d : Bool) → ((a || b) || d) ≡ (a || (b || d))
    regroup true b d = refl
    regroup false b d = refl

-- all kinds together
module _ (k : ℕ) (step : Changed) (c : ℕ) where
  abbrev of_procs : Bool
  of_procs = is_among 0 (lines k) (has step.procs) c

  abbrev of_modules : Bool
  of_modules = is_among (lines k) (lines k) (has step.modules) c

  abbrev of_low : Bool
  of_low = is_among (2 * lines k) (k * half k) (in_stages k step.low) c

  abbrev of_comb : Bool
  of_comb = is_among (2 * lines k + k * half k) (k * half k) (in_stages k step.comb) c

  four : (a b d e p q r s : Bool) → a ≡ p → b ≡ q → d ≡ r → e ≡ s → ((((false || a) || b) || d) || e) ≡ ((((false || p) || q) || r) || s)
  four a b d e p q r s ea eb ed ee = rw (ea, eb, ed, ee)

  only_first : (v : Bool) → ((((false || v) || false) || false) || false) ≡ v
  only_first true = refl
  only_first false = refl

  only_second : (v : Bool) → ((((false || false) || v) || false) || false) ≡ v
  only_second true = refl
  only_second false = refl

  only_third : (v : Bool) → ((((false || false) || false) || v) || false) ≡ v
  only_third true = refl
  only_third false = refl

  no_proc : lines k ≤ c → of_procs ≡ false
  no_proc le = outside 0 (lines k) c (has step.procs) (λ above below. omega (arith, below, le))

  no_module : (c < lines k) ⊎ (2 * lines k ≤ c) → of_modules ≡ false
  no_module (inl lt) = outside (lines k) (lines k) c (has step.modules) (λ above below. omega (arith, above, lt))
  no_module (inr le) = outside (lines k) (lines k) c (has step.modules) (λ above below. omega (arith, below, le))

  no_low : (c < 2 * lines k) ⊎ (2 * lines k + k * half k ≤ c) → of_low ≡ false
  no_low (inl lt) = outside (2 * lines k) (k * half k) c (in_stages k step.low) (λ above below. omega (arith, above, lt))
  no_low (inr le) = outside (2 * lines k) (k * half k) c (in_stages k step.low) (λ above below. omega (arith, below, le))

  no_comb : c < 2 * lines k + k * half k → of_comb ≡ false
  no_comb lt = outside (2 * lines k + k * half k) (k * half k) c (in_stages k step.comb) (λ above below. omega (arith, above, lt))

  switch_in : (first s j : ℕ) (sets : List ℕ) → first + s * half k + j ≡ c → s < k → j < half k
      → is_among first (k * half k) (in_stages k sets) c ≡ in_stage k s (slice_index_or sets s 0) j
  switch_in first s j sets number there within =
      let place : c - first ≡ s * half k + j = omega (arith, number) in
      inside first (k * half k) c (in_stages k sets) (omega (arith, number)) (omega (arith, number, switch_within k s j there within))
      ∙ ap (in_stages k sets) place
      ∙ ap (λ d. in_stage k d (slice_index_or sets d 0) ((s * half k + j) % half k)) (div-mul-add s (half k) j within)
      ∙ ap (in_stage k s (slice_index_or sets s 0)) (mod-mul-add s (half k) j within)

  moved_at : (x : Component) → number_of k x ≡ c → Exists k x → ((((false || of_procs) || of_modules) || of_low) || of_comb) ≡ has_changed k step x
  moved_at (ProcAt p) number there =
      let place : c - 0 ≡ p = omega (arith, number) in
      four of_procs of_modules of_low of_comb (has step.procs p) false false false
      (inside 0 (lines k) c (has step.procs) (omega arith) (omega (arith, number, there)) ∙ ap (has step.procs) place)
      (no_module (inl (omega (arith, number, there)))) (no_low (inl (omega (arith, number, there)))) (no_comb (omega (arith, number, there)))
      ∙ only_first (has step.procs p)
  moved_at (ModuleAt m) number there =
      let place : c - lines k ≡ m = omega (arith, number) in
      four of_procs of_modules of_low of_comb false (has step.modules m) false false (no_proc (omega (arith, number)))
      (inside (lines k) (lines k) c (has step.modules) (omega (arith, number)) (omega (arith, number, there)) ∙ ap (has step.modules) place)
      (no_low (inl (omega (arith, number, there)))) (no_comb (omega (arith, number, there)))
      ∙ only_second (has step.modules m)
  moved_at (Switch LowNet s j) number there =
      let changed = has_changed k step (Switch LowNet s j) in
      four of_procs of_modules of_low of_comb false false changed false (no_proc (omega (arith, number))) (no_module (inr (omega (arith, number))))
      (switch_in (2 * lines k) s j step.low number there.0 there.1) (no_comb (omega (arith, number, switch_within k s j there.0 there.1)))
      ∙ only_third changed
  moved_at (Switch CombNet s j) number there =
      let changed = has_changed k step (Switch CombNet s j) in
      four of_procs of_modules of_low of_comb false false false changed (no_proc (omega (arith, number))) (no_module (inr (omega (arith, number)))) (no_low (inr (omega (arith, number))))
      (switch_in (2 * lines k + k * half k) s j step.comb number there.0 there.1)

  not_not : (b : Bool) → b ≡ not (not b)
  not_not true = refl
  not_not false = refl

  pub moved_is : c < components k → ((((false || of_procs) || of_modules) || of_low) || of_comb) ≡ not (is_outside k step (component_of k c))
  moved_is h =
      let has = component_has k c h in
      moved_at has.0 has.1.number has.1.there ∙ not_not (has_changed k step has.0) ∙ ap (λ o. not (is_outside k step o)) (sym has.1.is)

  -- modules that wrote
  wrote_at : (x : Component) → number_of k x ≡ c → Exists k x → (false || is_among (lines k) (lines k) (has step.wrote) c) ≡ wrote_in step (Some x)
  wrote_at (ProcAt p) number there = outside (lines k) (lines k) c (has step.wrote) (λ above below. omega (arith, above, number, there))
  wrote_at (ModuleAt m) number there =
      let place : c - lines k ≡ m = omega (arith, number) in
      inside (lines k) (lines k) c (has step.wrote) (omega (arith, number)) (omega (arith, number, there)) ∙ ap (has step.wrote) place
  wrote_at (Switch LowNet s j) number there = outside (lines k) (lines k) c (has step.wrote) (λ above below. omega (arith, below, number))
  wrote_at (Switch CombNet s j) number there = outside (lines k) (lines k) c (has step.wrote) (λ above below. omega (arith, below, number))

  pub wrote_is : c < components k → (false || is_among (lines k) (lines k) (has step.wrote) c) ≡ wrote_in step (component_of k c)
  wrote_is h =
      let has = component_has k c h in
      wrote_at has.0 has.1.number has.1.there ∙ ap (wrote_in step) (sym has.1.is)

-- marks that are written in turn, out of none
module _ (k : ℕ) (step : Changed) (c n first : ℕ) (none next : List Bool) (blank : none ≡ replicate n false) (width : n ≡ components k) (line : first ≡ lines k) (h : c < components k) where
  starts : is_awake none c ≡ false
  starts = ap (λ (m : List Bool). is_awake m c) blank ∙ none_awake n c (omega (arith, width, h))

  there : c < length none
  there = let long : length none ≡ n = ap length blank ∙ length-replicate n false in omega (arith, long, width, h)

  pub written_is : ((d : ℕ) → d < length none → is_awake next d ≡ (is_awake none d || is_among first (lines k) (has step.wrote) d)) → is_awake next c ≡ wrote_in step (component_of k c)
  written_is each =
      each c there
      ∙ ap (λ b. b || is_among first (lines k) (has step.wrote) c) starts
      ∙ ap (λ f. false || is_among f (lines k) (has step.wrote) c) line
      ∙ wrote_is k step c h

  pub all_moved : (second third fourth : List Bool) (low_first comb_first : ℕ) → low_first ≡ 2 * lines k → comb_first ≡ 2 * lines k + k * half k → length next ≡ length none
      → ((d : ℕ) → d < length none → is_awake next d ≡ (is_awake none d || is_among 0 (lines k) (has step.procs) d))
      → ((d : ℕ) → d < length next → is_awake second d ≡ (is_awake next d || is_among first (lines k) (has step.modules) d))
      → ((d : ℕ) → d < components k → is_awake third d ≡ (is_awake second d || is_among low_first (k * half k) (in_stages k step.low) d))
      → ((d : ℕ) → d < components k → is_awake fourth d ≡ (is_awake third d || is_among comb_first (k * half k) (in_stages k step.comb) d))
      → is_awake fourth c ≡ not (is_outside k step (component_of k c))
  all_moved second third fourth low_first comb_first low_is comb_is same procs modules low comb =
      comb c h
      ∙ ap (λ b. b || is_among comb_first (k * half k) (in_stages k step.comb) c) (
      low c h
      ∙ ap (λ b. b || is_among low_first (k * half k) (in_stages k step.low) c) (
      modules c (omega (arith, same, there))
      ∙ ap (λ b. b || is_among first (lines k) (has step.modules) c) (procs c there ∙ ap (λ b. b || is_among 0 (lines k) (has step.procs) c) starts)
      ∙ ap (λ f. (false || is_among 0 (lines k) (has step.procs) c) || is_among f (lines k) (has step.modules) c) line)
      ∙ ap (λ f. ((false || of_procs k step c) || of_modules k step c) || is_among f (k * half k) (in_stages k step.low) c) low_is)
      ∙ ap (λ f. (((false || of_procs k step c) || of_modules k step c) || of_low k step c) || is_among f (k * half k) (in_stages k step.comb) c) comb_is
      ∙ moved_is k step c h
