use Rattle.std.proofs.Common.{rules, ◌≡◌, ◌∙◌, ap}
use Rattle.word_ops.specs.Words.{left_by}
use Rattle.word_ops.proofs.Known.{composed}
use Rattle.word_ops.proofs.op.Op.then.Goals as goal

pub returns-then-eq-clause-both : goal.returns-then-eq-clause-both
returns-then-eq-clause-both c = λ word.
    let one_kind : c.args.self.kind ≡ c.args.next.kind = search rules in
    ap (λ operand. left_by c.args.self.kind operand word) c.both.ensures
    ∙ (composed c.args.self.kind c.args.self.operand c.args.next.operand word
    ∙ ap (λ kind. left_by kind c.args.next.operand (left_by c.args.self.kind c.args.self.operand word)) one_kind)
