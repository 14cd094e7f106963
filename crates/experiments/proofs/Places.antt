-- Where what is listed of a number stands in the list of all.
use Rattle.std.proofs.Common.{◌≡◌, ℕ, zero, suc, ◌+◌, ◌-◌, ◌*◌, ◌^◌, ◌<◌, ◌≤◌, Bool, true, false, List, ◌++◌, length, get_or, map, take, drop, refl, sym, ap, ◌∙◌, subst, arith, pow-suc}
use Rattle.std.specs.Prelude.{◌==◌, option_map}
use Rattle.std.specs.List.{flat_map}
use Rattle.std.proofs.Math.Nat.{mul-suc, mul-zero}
use Rattle.std.proofs.lemmas.Bool.{eqb-true}
use Rattle.std.proofs.lemmas.Bool.Decides.{nat_tests}
use Rattle.std.proofs.lemmas.List.{ext_get_or, get_or-append-add, get_or-drop, get_or-take, get_or_append_left, length-append, length-drop, length-map, length-take-le}
use Rattle.std.proofs.lemmas.Option.{get_or_from_slice_get, slice_get-map}
use Rattle.omega_net.specs.declared.component.Net.{Net}
use Rattle.omega_net.specs.Wires.{below}
use Rattle.machine_cells.specs.declared.state.MachineState.{MachineState}
use Rattle.machine_cells.proofs.Runs.{length-below, below-get}
use Rattle.experiments.specs.Lengths.{all_lengths, length_there, lengths_now, stage_now}
use Rattle.saturation.specs.Towards.{queues_at}
use Rattle.experiments.proofs.Waits.{flat-next}
use Rattle.std.specs.Prelude.{Option}

-- the value at a place
pub value_at : {X : Type 0} (f : ℕ → X) (n i : ℕ) (d : X) → i < n → get_or (map f (below n)) i d ≡ f i
value_at f n i d lt = get_or_from_slice_get (map f (below n)) i (f i) d (slice_get-map f (below n) i ∙ ap (option_map f) (below-get n i lt))

-- those of a window
pub window_is : {X : Type 0} (f : ℕ → X) (n a m : ℕ) → a + m ≤ n → take m (drop a (map f (below n))) ≡ map (λ i. f (i + a)) (below m)
window_is {X} f n a m within =
    ext_get_or (f 0) (take m (drop a (map f (below n)))) (map g (below m)) (long ∙ sym size)
    (λ i lt.
    let low : i < m = omega (arith, lt, long) in
    let turned : a + i ≡ i + a = omega arith in
    get_or-take m (drop a (map f (below n))) i (f 0) low
    ∙ get_or-drop a (map f (below n)) i (f 0)
    ∙ value_at f n (a + i) (f 0) (omega arith)
    ∙ ap f turned
    ∙ sym (value_at g m i (f 0) low))
  where
    g : ℕ → X
    g i = f (i + a)

    size : length (map g (below m)) ≡ m
    size = length-map (below m) g ∙ length-below m

    long : length (take m (drop a (map f (below n)))) ≡ m
    long = length-take-le m (drop a (map f (below n))) (omega (arith, length-drop a (map f (below n)), length-map (below n) f, length-below n))

-- a piece stands behind the pieces before it
module _ {X : Type 0} (f : ℕ → List X) where
  pub record Stands (n i j : ℕ) (d : X) : Type 0 where
    pub within : length (flat_map f (below i)) + j < length (flat_map f (below n))
    pub value : get_or (flat_map f (below n)) (length (flat_map f (below i)) + j) d ≡ get_or (f i) j d

  pub piece_stands : (n i j : ℕ) (d : X) → i < n → j < length (f i) → Stands n i j d
  piece_stands zero i j d lt low = absurd (omega arith)
  piece_stands (suc n) i j d lt low = by_test (i == n) refl (piece_stands n i j d)
    where
      more : suc n ≡ n + 1
      more = omega arith

      next : flat_map f (below (suc n)) ≡ flat_map f (below n) ++ f n
      next = ap (λ m. flat_map f (below m)) more ∙ flat-next f n

      longer : length (flat_map f (below (suc n))) ≡ length (flat_map f (below n)) + length (f n)
      longer = ap length next ∙ length-append (flat_map f (below n)) (f n)

      by_test : (t : Bool) → (i == n) ≡ t → (i < n → j < length (f i) → Stands n i j d) → Stands (suc n) i j d
      by_test true e ih =
          let same : i ≡ n = eqb-true i n e in
          let own : j < length (f n) = subst (λ m. j < length (f m)) same low in
          record {
            within = omega (arith, longer, own, ap (λ m. length (flat_map f (below m))) same);
            value = ap (λ xs. get_or xs (length (flat_map f (below i)) + j) d) next
                ∙ ap (λ m. get_or (flat_map f (below n) ++ f n) (length (flat_map f (below m)) + j) d) same
                ∙ get_or-append-add (flat_map f (below n)) (f n) j d
                ∙ ap (λ m. get_or (f m) j d) (sym same);
          }
      by_test false e ih =
          let less : i < n = grind (arith, nat_tests) in
          let before = ih less low in
          record {
            within = omega (arith, longer, before.within);
            value = ap (λ xs. get_or xs (length (flat_map f (below i)) + j) d) next
                ∙ get_or_append_left (flat_map f (below n)) (f n) d (length (flat_map f (below i)) + j) before.within
                ∙ before.value;
          }

  -- as many pieces of one length
  pub pieces_size : (n size : ℕ) → ((i : ℕ) → length (f i) ≡ size) → length (flat_map f (below n)) ≡ n * size
  pieces_size zero size each = omega (arith, mul-zero size)
  pieces_size (suc n) size each =
      let more : suc n ≡ n + 1 = omega arith in
      let rest : length (flat_map f (below n)) ≡ n * size = pieces_size n size each in
      ap (λ m. length (flat_map f (below m))) more
      ∙ ap length (flat-next f n)
      ∙ length-append (flat_map f (below n)) (f n)
      ∙ omega (arith, rest, each n, mul-suc n size)

module _ (k : ℕ) (net : Net) (m : ℕ) where
  -- how many queues of the last stages lead to a module
  stage_size : (at : ℕ → Option MachineState) (back : ℕ) → back < k → length (stage_now k net m at (k - 1 - back)) ≡ 2 ^ back
  stage_size at back low =
      let turned : k - 1 - (k - 1 - back) ≡ back = omega arith in
      length-map (below (queues_at k (k - 1 - back))) (length_there k net m at (k - 1 - back)) ∙ length-below (queues_at k (k - 1 - back)) ∙ ap (λ n. 2 ^ n) turned

  stages_size : (at : ℕ → Option MachineState) (n : ℕ) → n ≤ k → length (lengths_now k net m at n) + 1 ≡ 2 ^ n
  stages_size at zero low = refl
  stages_size at (suc n) low =
      let more : suc n ≡ n + 1 = omega arith in
      let rest : length (lengths_now k net m at n) + 1 ≡ 2 ^ n = stages_size at n (omega arith) in
      let stage : length (stage_now k net m at (k - 1 - n)) ≡ 2 ^ n = stage_size at n (omega arith) in
      let both : length (lengths_now k net m at (suc n)) ≡ length (lengths_now k net m at n) + length (stage_now k net m at (k - 1 - n)) =
      ap (λ j. length (lengths_now k net m at j)) more
      ∙ ap length (flat-next (λ back. stage_now k net m at (k - 1 - back)) n)
      ∙ length-append (lengths_now k net m at n) (stage_now k net m at (k - 1 - n)) in
      omega (arith, both, rest, stage, pow-suc 2 n)

  -- the length of a queue at a cycle stands where it should
  pub record LengthStands (at : ℕ → ℕ → Option MachineState) (cycles cycle stage place index : ℕ) : Type 0 where
    pub within : index < length (all_lengths k net m at cycles)
    pub value : (d : ℕ) → get_or (all_lengths k net m at cycles) index d ≡ length_there k net m (at cycle) stage place

  pub length_stands : (at : ℕ → ℕ → Option MachineState) (cycles cycle stage place all behind : ℕ) → cycle < cycles → stage < k → place < queues_at k stage
      → all + 1 ≡ 2 ^ k → behind + 1 ≡ queues_at k stage → LengthStands at cycles cycle stage place (cycle * all + behind + place)
  length_stands at cycles cycle stage place all behind early there low is_all is_behind = record {
    within = subst (λ i. i < length (all_lengths k net m at cycles)) whole (outer 0).within;
    value = λ d.
        ap (λ i. get_or (all_lengths k net m at cycles) i d) (sym whole)
        ∙ (outer d).value
        ∙ (inner d).value
        ∙ ap (λ s. get_or (stage_now k net m (at cycle) s) place d) turned
        ∙ value_at (length_there k net m (at cycle) stage) (queues_at k stage) place d low;
  }
    where
      back : ℕ
      back = k - 1 - stage

      turned : k - 1 - (k - 1 - stage) ≡ stage
      turned = omega arith

      pieces : ℕ → List ℕ
      pieces u = lengths_now k net m (at u) k

      stages : ℕ → List ℕ
      stages b = stage_now k net m (at cycle) (k - 1 - b)

      own : place < length (stages back)
      own = omega (arith, stage_size (at cycle) back (omega arith), low)

      inner : (d : ℕ) → Stands stages k back place d
      inner d = piece_stands stages k back place d (omega arith) own

      before : length (flat_map stages (below back)) ≡ behind
      before = omega (arith, stages_size (at cycle) back (omega arith), is_behind)

      outer : (d : ℕ) → Stands pieces cycles cycle (length (flat_map stages (below back)) + place) d
      outer d = piece_stands pieces cycles cycle (length (flat_map stages (below back)) + place) d early (inner d).within

      cycles_before : length (flat_map pieces (below cycle)) ≡ cycle * all
      cycles_before = pieces_size pieces cycle all (λ u. omega (arith, stages_size (at u) k (omega arith), is_all))

      whole : length (flat_map pieces (below cycle)) + (length (flat_map stages (below back)) + place) ≡ cycle * all + behind + place
      whole = omega (arith, cycles_before, before)

pub windowed : {X : Type 0} (f : ℕ → X) (n from to : ℕ) (all some : List X) → all ≡ map f (below n) → to < n → from ≤ to
    → some ≡ take (to + 1 - from) (drop from all) → some ≡ map (λ i. f (i + from)) (below (to + 1 - from))
windowed f n from to all some made within order cut =
    cut ∙ ap (λ xs. take (to + 1 - from) (drop from xs)) made ∙ window_is f n from (to + 1 - from) (omega arith)
