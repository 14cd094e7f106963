-- Which profile the lengths of a component's queues are in, and how often.
use Rattle.std.proofs.Common.{◌≡◌, ℕ, zero, ◌<◌, ◌≤◌, Bool, true, false, cond, List, [], length, Option, None, Some, refl, ap, sym, ◌∙◌, arith}
use Rattle.std.specs.Prelude.{◌==◌, ◌&&◌, nat_eq, slice_index, slice_index_or}
use Rattle.std.specs.Option.{option_eq}
use Rattle.std.proofs.lemmas.Bool.{eq-eqb, false≢true}
use Rattle.std.proofs.lemmas.Bool.Decides.{Decides-eqb}
use Rattle.std.proofs.lemmas.List.{get_or_default}
use Rattle.std.proofs.lemmas.Slice.Eq.{slice_eq-Decides}
use lib.Pointwise.{pointwise}
use Rattle.omega_net.specs.declared.component.Net.{Net}
use Rattle.omega_net.specs.declared.component.Component.TheVariants.{Switch}
use Rattle.omega_net.specs.Numbers.{component_of}
use Rattle.omega_net.specs.Wires.{net_number}
use Rattle.monitor_sums.specs.Counts.{one}
use Rattle.monitor_sums.specs.Sums.{of_length, in_profile, is_in_stage}
use Rattle.monitor_sums.specs.Whole.{profile_place, profile_at}

-- lengths that `==` takes for the same are the same
pub same_lengths : (x y : Option (List ℕ)) → option_eq (pointwise nat_eq) x y ≡ true → x ≡ y
same_lengths None None e = refl
same_lengths (Some x) (Some y) e = ap (λ ls. Some ls) ((slice_eq-Decides Decides-eqb x y (pointwise nat_eq x y) refl).0 e)
same_lengths _ _ e = absurd (false≢true e)

-- a switch is in its stage
pub in_its_stage : (k : ℕ) (net : Net) (stage j n c : ℕ) (ls : Option (List ℕ)) → Some (Switch net stage j) ≡ component_of k c → in_profile k net stage n c ls ≡ of_length n ls
in_its_stage k net stage j n c ls is =
    ap (λ x. cond (is_in_stage net stage x) (of_length n ls) 0) (sym is)
    ∙ ap (λ v. cond (v && (stage == stage)) (of_length n ls) 0) (eq-eqb (net_number net) (net_number net) refl)
    ∙ ap (λ v. cond v (of_length n ls) 0) (eq-eqb stage stage refl)

-- a profile that was read at a stage's place
pub read_at : (k : ℕ) (profiles : List (List ℕ)) (net : Net) (stage place : ℕ) (read : List ℕ) → place ≡ profile_place k net stage → place < length profiles
    → read ≡ slice_index_or profiles place read → read ≡ profile_at k profiles net stage
read_at k profiles net stage place read place_is there is =
    is ∙ get_or_default profiles place read [] there ∙ ap (λ n. slice_index_or profiles n []) place_is

-- so many of the queues of a component are seldom many, and none where it has none
one_le : (b : Bool) → one b ≤ 1
one_le true = omega arith
one_le false = omega arith

of_length_small : (n : ℕ) (ls : Option (List ℕ)) → of_length n ls < 256
of_length_small n None = omega arith
of_length_small n (Some ls) = omega (arith, one_le (slice_index ls 0 == n), one_le (slice_index ls 1 == n))

pub in_profile_small : (k : ℕ) (net : Net) (stage n c : ℕ) (ls : Option (List ℕ)) → in_profile k net stage n c ls < 256
in_profile_small k net stage n c ls = by_test (is_in_stage net stage (component_of k c))
  where
    by_test : (b : Bool) → cond b (of_length n ls) 0 < 256
    by_test true = of_length_small n ls
    by_test false = omega arith

pub in_profile_nothing : (k : ℕ) (net : Net) (stage n c : ℕ) → in_profile k net stage n c None ≡ 0
in_profile_nothing k net stage n c = by_test (is_in_stage net stage (component_of k c))
  where
    by_test : (b : Bool) → cond b zero zero ≡ zero
    by_test true = refl
    by_test false = refl
