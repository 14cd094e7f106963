use Rattle.std.proofs.Common.{◌≡◌, sym, subst, take, take_all, arith, refl, List, ℕ}
use Rattle.std.specs.Fmt.{HasWritten}
use Rattle.std.proofs.Output.{has_written_append}
use Rattle.run_queries.specs.Texts.{later_text}
use Rattle.run_queries.proofs.Spacing.{later_take}
use Rattle.run_queries.proofs.spaced.LaterDisplay.fmt.Goals as goal

pub loop-number-preserved : goal.loop-number-preserved
loop-number-preserved g c plain =
    let took = g.W.Write.write_str_gives in
    let before = c.loop-number.invariant plain in
    let more = later_take c.args.self.now.0.now c.loop-number.number-index (omega arith) in
    subst (λ (t : List ℕ). HasWritten took c.args.f.now t c.write.new.self) (sym more)
    (has_written_append took c.args.f.now _ c.loop-number.f _ c.write.new.self before (c.in_ok-write.ensures.writes before.plain refl))

pub returns-clause-writes : goal.returns-clause-writes
returns-clause-writes g c =
    let took = g.W.Write.write_str_gives in
    let xs = c.args.self.now.0.now in
    let all : take c.loop-number.number-index xs ≡ xs = take_all _ _ (omega arith) in
    λ plain ok. subst (λ t. HasWritten took c.args.f.now (later_text t) c.loop-number.f) all (c.loop-number.invariant plain)
