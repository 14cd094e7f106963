-- Where the switches and the modules of a map's rows are among the components.
use Rattle.std.proofs.Common.{◌≡◌, ℕ, zero, suc, ◌+◌, ◌-◌, ◌*◌, ◌/◌, ◌^◌, ◌<◌, ◌≤◌, arith}
use Rattle.std.proofs.Common.{Option, None, Some, refl, ◌∙◌}
use Rattle.std.specs.Option.{SomeIff, IsSome}
use Rattle.omega_net.specs.Numbers.{half, lines}

-- half of a line is one of half as many switches
pub half_of : (k line : ℕ) → 0 < k → line < lines k → line / 2 < half k
half_of zero line some there = absurd (omega (arith, some))
half_of (suc j) line some there =
    let double : 2 ^ suc j ≡ 2 * 2 ^ j = grind arith in
    omega (arith, double)

-- a number that there is
pub some_there : {T : Type 0} (o : Option T) (A : Type 0) (v : T) → SomeIff o A v → A → IsSome o
some_there None A v h a = absurd (h a)
some_there (Some x) A v h a = refl

pub some_value : {T : Type 0} (o : Option T) (A : Type 0) (v x : T) → SomeIff o A v → o ≡ Some x → x ≡ v
some_value None A v x h e = cc
some_value (Some y) A v x h e =
    let same : x ≡ y = cc in
    same ∙ h.1
