use Rattle.std.proofs.Common.{◌≡◌, ℕ, arith, subst}
use Rattle.shared_bench.specs.Lots.{NoneInRow}
use Rattle.shared_bench.proofs.Lots.{ClaimsOn, claims_end, claims_full, none_of}
use Rattle.shared_bench.proofs.carried.Carried.claim_on.Goals as goal

pub returns-in-Ok-None : goal.returns-in-Ok-None
returns-in-Ok-None c =
    let d = c.args.self.now in
    let at = c.loop-count in
    let inv = at.invariant in
    let none = none_of _ _ c.in-Ok-None.field-0 c.in-Ok-None.field-0-is c.in-Ok-None.ensures in
    claims_end d c.args.from.cycle c.args.from.component c.args.most c.args.claims.now.items at._count at.from.component at.claims.items inv.on (subst (λ (t : ℕ). NoneInRow d t at.from.component) inv.cycle none)

pub returns : goal.returns
returns c =
    let d = c.args.self.now in
    let at = c.loop-count in
    let inv = at.invariant in
    let e : at._count ≡ c.args.most = omega (arith, at.auto._count-end, c.loop-count-test.false) in
    claims_full d c.args.from.cycle c.args.from.component c.args.most c.args.claims.now.items at.from.component at.claims.items (subst (λ (i : ℕ). ClaimsOn d c.args.from.cycle c.args.from.component c.args.most i c.args.claims.now.items at.claims.items at.from.component) e inv.on)
