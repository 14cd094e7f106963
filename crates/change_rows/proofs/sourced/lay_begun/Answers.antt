use Rattle.std.proofs.Common.{◌∙◌, sym, ap, arith}
use Rattle.std.specs.Option.{option_copied}
use Rattle.change_rows.proofs.Finding.{found_past}
use Rattle.change_rows.proofs.Editing.{pushed_same, pushed_other}
use Rattle.change_rows.proofs.Merging.{pushed_end}
use Rattle.change_rows.proofs.sourced.lay_begun.Goals as goal

pub returns-in_ok-push-in-Some-clause-begun : goal.returns-in_ok-push-in-Some-clause-begun
returns-in_ok-push-in-Some-clause-begun c = pushed_same c.args.row.now c.push.new.self c.args.c _ c.in_ok-push-in-Some.ensures c.requires.ascending ∙ sym (ap option_copied c.in-Some.is) ∙ c.begun_at.ensures

pub returns-in_ok-push-in-Some-clause-others : goal.returns-in_ok-push-in-Some-clause-others
returns-in_ok-push-in-Some-clause-others c = pushed_other c.args.row.now c.push.new.self c.args.c _ c.in_ok-push-in-Some.ensures

pub returns-in_ok-push-in-Some-clause-end : goal.returns-in_ok-push-in-Some-clause-end
returns-in_ok-push-in-Some-clause-end c = omega (arith, pushed_end c.args.row.now c.push.new.self c.args.c _ c.in_ok-push-in-Some.ensures, c.requires.ascending)

pub returns-in-None-clause-begun : goal.returns-in-None-clause-begun
returns-in-None-clause-begun c = found_past c.args.row.now c.args.c c.requires.ascending ∙ sym (ap option_copied c.in-None.is) ∙ c.begun_at.ensures
