use Rattle.std.proofs.Common.{◌≡◌, suc, ◌-◌, subst, arith}
use Rattle.flat_row.specs.Leaving.{AreBack}
use Rattle.flat_row.proofs.row.Row.replies_go.Goals as goal

pub returns-else-level-eq0 : goal.returns-else-level-eq0
returns-else-level-eq0 c =
    let same : suc (c.args.level - 1) ≡ c.args.level = omega (arith, c.if-level-eq0.false) in
    subst (λ l. AreBack c.args.project.now c.args.self.now c.args.net l c.replies_at.result.leave) same c.replies_at.ensures.moved
