use Rattle.std.proofs.Common.{arith, length, ◌∙◌, sym, ap}
use Rattle.bench_core.specs.Shown.{Shown}
use Rattle.shared_bench.proofs.Turns.{opens, fills_first}
use Rattle.shared_bench.proofs.pass.open.Goals as goal

pub vacant-requires : goal.vacant-requires
vacant-requires c = opens _ _ c.requires.0 (omega (arith, c.from.ensures, c.version-base.ensures, ap (λ (d : Shown). length d.journal) c.of.ensures, c.is_bench.ensures.bench.few)) (c.from.ensures ∙ c.version-base.ensures ∙ ap (λ (d : Shown). length d.journal) (sym c.of.ensures))

pub fill-requires-clause-fills : goal.fill-requires-clause-fills
fill-requires-clause-fills c = fills_first _ _ _ c.in-Ok-vacant.ensures.4 (c.in-Ok.ensures.ok ∙ sym c.of.ensures)
