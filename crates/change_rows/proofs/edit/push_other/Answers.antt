use Rattle.std.proofs.Common.{refl, arith}
use Rattle.change_rows.proofs.Editing.{absent, present, pushed_same, pushed_other}
use Rattle.change_rows.proofs.Merging.{pushed_end}
use Rattle.change_rows.proofs.edit.push_other.Goals as goal

pub returns-then-same_words : goal.returns-then-same_words
returns-then-same_words c = record {
  kept = absent c.args.out.now c.args.c c.args.held.now c.args.words.now c.requires.ascending (c.same_words.ensures.0 c.if-same_words.true);
  others = λ _ _. refl;
  end = omega (arith, c.requires.ascending);
}

pub returns : goal.returns
returns c = record {
  kept = present c.push.new.self c.args.c c.args.held.now c.args.words.now c.args.words.now (pushed_same c.args.out.now c.push.new.self c.args.c c.args.words.now c.in_ok-push.ensures c.requires.ascending) refl;
  others = pushed_other c.args.out.now c.push.new.self c.args.c c.args.words.now c.in_ok-push.ensures;
  end = omega (arith, pushed_end c.args.out.now c.push.new.self c.args.c c.args.words.now c.in_ok-push.ensures, c.requires.ascending);
}
