-- Sums over the cells of components and cycles.
use Rattle.std.proofs.Common.{◌≡◌, ℕ, zero, suc, ◌+◌, ◌-◌, ◌*◌, ◌^◌, ◌<◌, ◌≤◌, refl, ap, ◌∙◌, arith, Option, None, Some}
use Rattle.std.specs.Option.{ForSome}
use Rattle.page_map.specs.Limits.{max_k}
use Rattle.omega_net.specs.Numbers.{components}
use Rattle.project_book.specs.Limits.{max_horizon}
use Rattle.monitor_sums.specs.Adding.{sum_below}
use Rattle.monitor_sums.specs.Sums.{sum_over}
use Rattle.monitor_sums.specs.Whole.{sum_before}
use Rattle.monitor_sums.proofs.Adding.{sum_none, sum_more, sum_below-same, sum_below-change, sum_below-le, sum_below-all, sum_below-part, sum_below-cut, sum_below-split, sum_below-plus}
use Rattle.monitor_sums.specs.Limits.{max_components}

-- a component's sum over the cycles from `from` on and before `end`
abbrev pub over_cycles : (ℕ → ℕ → ℕ) → ℕ → ℕ → ℕ → ℕ
over_cycles f from end c = sum_below (λ i. f (i + from) c) (end - from)

-- a machine of 2^k processors has at most max_components components
pub components_few : (k : ℕ) → k ≤ max_k → components k ≤ max_components
components_few zero h = omega arith
components_few (suc zero) h = omega arith
components_few (suc (suc zero)) h = omega arith
components_few (suc (suc (suc zero))) h = omega arith
components_few (suc (suc (suc (suc zero)))) h = omega arith
components_few (suc (suc (suc (suc (suc zero))))) h = omega arith
components_few (suc (suc (suc (suc (suc (suc zero)))))) h = omega arith
components_few (suc (suc (suc (suc (suc (suc (suc k))))))) h = absurd (omega arith)

-- the cycles to `to` are those before the next
pub over_before : (k : ℕ) (f : ℕ → ℕ → ℕ) (who : Option ℕ) (from to : ℕ) → sum_over k f who from to ≡ sum_before k f who from (to + 1)
over_before k f (Some c) from to = refl
over_before k f None from to = refl

-- sums of the same
pub same_cycles : (f g : ℕ → ℕ → ℕ) (from end c : ℕ) → ((t : ℕ) → from ≤ t → t < end → f t c ≡ g t c) → over_cycles f from end c ≡ over_cycles g from end c
same_cycles f g from end c same = sum_below-same (λ i. f (i + from) c) (λ i. g (i + from) c) (end - from) (λ i b. same (i + from) (omega arith) (omega (arith, b)))

pub same_before : (k : ℕ) (f g : ℕ → ℕ → ℕ) (who : Option ℕ) (from end : ℕ) → ForSome who (λ c. c < components k)
    → ((t c : ℕ) → from ≤ t → t < end → c < components k → f t c ≡ g t c) → sum_before k f who from end ≡ sum_before k g who from end
same_before k f g (Some c) from end asked same = same_cycles f g from end c (λ t a b. same t c a b (asked c refl))
same_before k f g None from end asked same =
    sum_below-same (over_cycles f from end) (over_cycles g from end) (components k) (λ c there. same_cycles f g from end c (λ t a b. same t c a b there))

pub same_over : (k : ℕ) (f g : ℕ → ℕ → ℕ) (who : Option ℕ) (from to : ℕ) → ForSome who (λ c. c < components k)
    → ((t c : ℕ) → t ≤ to → c < components k → f t c ≡ g t c) → sum_over k f who from to ≡ sum_over k g who from to
same_over k f g (Some c) from to asked same = same_before k f g (Some c) from (to + 1) asked (λ t d a b there. same t d (omega (arith, b)) there)
same_over k f g None from to asked same = same_before k f g None from (to + 1) asked (λ t d a b there. same t d (omega (arith, b)) there)

-- where the cells past h have nothing, they can be left out
pub cut_over : (k : ℕ) (f : ℕ → ℕ → ℕ) (who : Option ℕ) (h to : ℕ) → ForSome who (λ c. c < components k) → h ≤ to
    → ((t c : ℕ) → h < t → t ≤ to → c < components k → f t c ≡ 0) → sum_over k f who 0 to ≡ sum_over k f who 0 h
cut_over k f (Some c) h to asked le none =
    sum_below-cut (λ i. f (i + 0) c) (h + 1 - 0) (to + 1 - 0) (omega arith) (λ i a b. none (i + 0) c (omega arith) (omega arith) (asked c refl))
cut_over k f None h to asked le none =
    sum_below-same (over_cycles f 0 (to + 1)) (over_cycles f 0 (h + 1)) (components k)
    (λ c there. sum_below-cut (λ i. f (i + 0) c) (h + 1 - 0) (to + 1 - 0) (omega arith) (λ i a b. none (i + 0) c (omega arith) (omega arith) there))

-- parts that fit a byte have small sums
pub small_cycles : (f : ℕ → ℕ → ℕ) (from end c : ℕ) → ((t : ℕ) → f t c < 256) → over_cycles f from end c ≤ 256 * (end - from)
small_cycles f from end c small = sum_below-le (λ i. f (i + from) c) 256 (end - from) (λ i b. let one : f (i + from) c < 256 = small (i + from) in omega arith)

pub small_before : (k : ℕ) (f : ℕ → ℕ → ℕ) (who : Option ℕ) (from end : ℕ) → k ≤ max_k → end ≤ max_horizon + 1 → ((t c : ℕ) → f t c < 256) → sum_before k f who from end < 2 ^ 32
small_before k f (Some c) from end few within small =
    let most : over_cycles f from end c ≤ 256 * (end - from) = small_cycles f from end c (λ t. small t c) in
    omega (arith, most, within)
small_before k f None from end few within small =
    let most : sum_before k f None from end ≤ (256 * (max_horizon + 1)) * components k =
    sum_below-le (over_cycles f from end) (256 * (max_horizon + 1)) (components k)
    (λ c there. let one : over_cycles f from end c ≤ 256 * (end - from) = small_cycles f from end c (λ t. small t c) in omega (arith, one, within)) in
    omega (arith, components_few k few)

-- where every cell has nothing, so have the sums
none_cycles : (f : ℕ → ℕ → ℕ) (from end c : ℕ) → ((t c : ℕ) → f t c ≡ 0) → over_cycles f from end c ≡ 0
none_cycles f from end c none =
    let least : over_cycles f from end c ≤ 0 * (end - from) =
    sum_below-le (λ i. f (i + from) c) 0 (end - from) (λ i b. let nil : f (i + from) c ≡ 0 = none (i + from) c in omega arith) in
    omega arith

pub none_before : (k : ℕ) (f : ℕ → ℕ → ℕ) (who : Option ℕ) (from end : ℕ) → ((t c : ℕ) → f t c ≡ 0) → sum_before k f who from end ≡ 0
none_before k f (Some c) from end none = none_cycles f from end c none
none_before k f None from end none =
    let least : sum_before k f None from end ≤ 0 * components k =
    sum_below-le (over_cycles f from end) 0 (components k) (λ c there. let nil : over_cycles f from end c ≡ 0 = none_cycles f from end c none in omega arith) in
    omega arith

-- the sum over no cycle, and over one more
pub cycles_none : (f : ℕ → ℕ → ℕ) (from c : ℕ) → sum_below (λ i. f (i + from) c) (from - from) ≡ 0
cycles_none f from c = let nil : from - from ≡ 0 = omega arith in ap (sum_below (λ i. f (i + from) c)) nil ∙ sum_none (λ i. f (i + from) c)

pub cycles_more : (f : ℕ → ℕ → ℕ) (from t c : ℕ) → from ≤ t
    → sum_below (λ i. f (i + from) c) (t + 1 - from) ≡ sum_below (λ i. f (i + from) c) (t - from) + f t c
cycles_more f from t c le =
    let count : t + 1 - from ≡ t - from + 1 = omega arith in
    let last : t - from + from ≡ t = omega arith in
    ap (sum_below (λ i. f (i + from) c)) count ∙ sum_more (λ i. f (i + from) c) (t - from)
    ∙ ap (λ n. sum_below (λ i. f (i + from) c) (t - from) + f n c) last

-- the sum over no cycle of all, and over cycles in two parts
pub before_none : (k : ℕ) (f : ℕ → ℕ → ℕ) (who : Option ℕ) (from : ℕ) → sum_before k f who from from ≡ 0
before_none k f (Some c) from = cycles_none f from c
before_none k f None from =
    let least : sum_before k f None from from ≤ 0 * components k =
    sum_below-le (over_cycles f from from) 0 (components k) (λ c there. let nil : over_cycles f from from c ≡ 0 = cycles_none f from c in omega arith) in
    omega arith

cycles_split : (f : ℕ → ℕ → ℕ) (from mid end c : ℕ) → from ≤ mid → mid ≤ end → over_cycles f from end c ≡ over_cycles f from mid c + over_cycles f mid end c
cycles_split f from mid end c le before =
    let size : end - from ≡ (mid - from) + (end - mid) = omega (arith, le, before) in
    let parts : sum_below (λ i. f (i + from) c) ((mid - from) + (end - mid)) ≡ over_cycles f from mid c + sum_below (λ i. f (i + (mid - from) + from) c) (end - mid) =
    sum_below-split (λ i. f (i + from) c) (mid - from) (end - mid) in
    let later : sum_below (λ i. f (i + (mid - from) + from) c) (end - mid) ≡ over_cycles f mid end c =
    sum_below-same (λ i. f (i + (mid - from) + from) c) (λ i. f (i + mid) c) (end - mid)
    (λ i b. let at : i + (mid - from) + from ≡ i + mid = omega (arith, le) in ap (λ n. f n c) at) in
    ap (sum_below (λ i. f (i + from) c)) size ∙ parts ∙ ap (λ n. over_cycles f from mid c + n) later

pub before_split : (k : ℕ) (f : ℕ → ℕ → ℕ) (who : Option ℕ) (from mid end : ℕ) → from ≤ mid → mid ≤ end
    → sum_before k f who from end ≡ sum_before k f who from mid + sum_before k f who mid end
before_split k f (Some c) from mid end le before = cycles_split f from mid end c le before
before_split k f None from mid end le before =
    sum_below-same (over_cycles f from end) (λ c. over_cycles f from mid c + over_cycles f mid end c) (components k) (λ c there. cycles_split f from mid end c le before)
    ∙ sum_below-plus (over_cycles f from mid) (over_cycles f mid end) (components k)

-- cells of a component that have the same part
all_cycles : (f : ℕ → ℕ → ℕ) (from to c y : ℕ) → ((t : ℕ) → from ≤ t → t < to → f t c ≡ y) → over_cycles f from to c ≡ y * (to - from)
all_cycles f from to c y is = sum_below-all (λ i. f (i + from) c) y (to - from) (λ i b. is (i + from) (omega arith) (omega (arith, b)))

-- so many cycles of a component within others
cycles_within : (f : ℕ → ℕ → ℕ) (began from to end c : ℕ) → began ≤ from → from ≤ to → to ≤ end
    → over_cycles f began end c ≡ over_cycles f began from c + over_cycles f from to c + over_cycles f to end c
cycles_within f began from to end c low some high =
    let first : over_cycles f began end c ≡ over_cycles f began from c + over_cycles f from end c = cycles_split f began from end c low (omega (arith, some, high)) in
    let second : over_cycles f from end c ≡ over_cycles f from to c + over_cycles f to end c = cycles_split f from to end c some high in
    omega (arith, first, second)

-- two functions that differ at some cycles of a component, where each has the same at all of these
module _ (k : ℕ) (f g : ℕ → ℕ → ℕ) (c began from to end y z : ℕ) (low : began ≤ from) (some : from ≤ to) (high : to ≤ end) (there : c < components k)
    (f_is : (t : ℕ) → from ≤ t → t < to → f t c ≡ y) (g_is : (t : ℕ) → from ≤ t → t < to → g t c ≡ z)
    (same : (u d : ℕ) → began ≤ u → u < end → (from ≤ u → u < to → d ≡ c → ⊥) → f u d ≡ g u d) where
  -- have sums of that component that differ as they do there
  pub changed_own : sum_before k f (Some c) began end + z * (to - from) ≡ sum_before k g (Some c) began end + y * (to - from)
  changed_own =
      let f_parts : over_cycles f began end c ≡ over_cycles f began from c + over_cycles f from to c + over_cycles f to end c = cycles_within f began from to end c low some high in
      let g_parts : over_cycles g began end c ≡ over_cycles g began from c + over_cycles g from to c + over_cycles g to end c = cycles_within g began from to end c low some high in
      let before : over_cycles f began from c ≡ over_cycles g began from c =
      same_cycles f g began from c (λ u a b. same u c a (omega (arith, b, some, high)) (λ p q e. omega (arith, p, b))) in
      let after : over_cycles f to end c ≡ over_cycles g to end c =
      same_cycles f g to end c (λ u a b. same u c (omega (arith, a, low, some)) b (λ p q e. omega (arith, q, a))) in
      let f_here : over_cycles f from to c ≡ y * (to - from) = all_cycles f from to c y f_is in
      let g_here : over_cycles g from to c ≡ z * (to - from) = all_cycles g from to c z g_is in
      omega (arith, f_parts, g_parts, before, after, f_here, g_here)

  -- the same sums of another one
  pub changed_other : (d : ℕ) → (d ≡ c → ⊥) → sum_before k f (Some d) began end ≡ sum_before k g (Some d) began end
  changed_other d apart = same_cycles f g began end d (λ u a b. same u d a b (λ _ _ e. apart e))

  -- and sums of all that differ as they do there
  pub changed_all : sum_before k f None began end + z * (to - from) ≡ sum_before k g None began end + y * (to - from)
  changed_all =
      let outer : sum_before k f None began end + over_cycles g began end c ≡ sum_before k g None began end + over_cycles f began end c =
      sum_below-change (over_cycles f began end) (over_cycles g began end) c (components k) there (λ d b apart. changed_other d apart) in
      let inner : over_cycles f began end c + z * (to - from) ≡ over_cycles g began end c + y * (to - from) = changed_own in
      omega (arith, outer, inner)

-- what such cells have is within their component's sum, and within that of all
pub part_own : (k : ℕ) (f : ℕ → ℕ → ℕ) (c began from to end y : ℕ) → began ≤ from → from ≤ to → to ≤ end → ((t : ℕ) → from ≤ t → t < to → f t c ≡ y)
    → y * (to - from) ≤ sum_before k f (Some c) began end
part_own k f c began from to end y low some high is =
    let parts : over_cycles f began end c ≡ over_cycles f began from c + over_cycles f from to c + over_cycles f to end c = cycles_within f began from to end c low some high in
    let here : over_cycles f from to c ≡ y * (to - from) = all_cycles f from to c y is in
    omega (arith, parts, here)

pub part_all : (k : ℕ) (f : ℕ → ℕ → ℕ) (c began from to end y : ℕ) → began ≤ from → from ≤ to → to ≤ end → c < components k
    → ((t : ℕ) → from ≤ t → t < to → f t c ≡ y) → y * (to - from) ≤ sum_before k f None began end
part_all k f c began from to end y low some high there is =
    let own : y * (to - from) ≤ over_cycles f began end c = part_own k f c began from to end y low some high is in
    let all : over_cycles f began end c ≤ sum_before k f None began end = sum_below-part (over_cycles f began end) c (components k) there in
    omega (arith, own, all)
