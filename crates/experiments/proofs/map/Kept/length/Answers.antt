use Rattle.std.proofs.Common.{ℕ, ap, ◌∙◌, arith}
use Rattle.omega_net.specs.Numbers.{lines}
use Rattle.saturation.specs.Towards.{queues_at}
use Rattle.experiments.proofs.Keeping.{found}
use Rattle.experiments.proofs.map.Kept.length.Goals as goal

pub index-requires : goal.index-requires
index-requires c =
    let there = found c.args.project.now c.args.self.now c.requires.kept c.args.index c.args.stage c.args.place c.lines-all.result c.queues_at-behind.result c.requires.index c.requires.stage c.requires.place
    (c.lines-all.ensures.value ∙ ap lines c.shape.ensures) (c.queues_at-behind.ensures ∙ ap (λ (k : ℕ). queues_at k c.args.stage) c.k.ensures.k) in
    omega (arith, there.within, c.args.self.now.lengths.ok.0)

pub returns : goal.returns
returns c =
    c.index.ensures
    ∙ (found c.args.project.now c.args.self.now c.requires.kept c.args.index c.args.stage c.args.place c.lines-all.result c.queues_at-behind.result c.requires.index c.requires.stage c.requires.place
    (c.lines-all.ensures.value ∙ ap lines c.shape.ensures) (c.queues_at-behind.ensures ∙ ap (λ (k : ℕ). queues_at k c.args.stage) c.k.ensures.k)).value c.index.result.now
