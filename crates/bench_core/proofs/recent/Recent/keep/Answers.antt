use Rattle.std.proofs.Common.{subst, ◌⊎◌, ◌≡◌, Contains}
use Rattle.bench_core.specs.Recent.{Entry}
use Rattle.bench_core.proofs.Keeping.{put_kept}
use Rattle.bench_core.proofs.recent.Recent.keep.Goals as goal

pub returns-in-Ok : goal.returns-in-Ok
returns-in-Ok c =
    rw (← c.self.view_is) (subst (λ b. (a : Entry) → Contains c.put.new.self.entries a → Contains c.self.inside.answers.entries a ⊎ (a ≡ (c.args.asking, b))) c.in-Ok.ensures
    (put_kept c.put.result c.self.inside.answers c.put.new.self c.args.asking c.in-Ok.body c.put.ensures.entries c.put.ensures.err))
