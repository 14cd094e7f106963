use Rattle.std.proofs.Common.{◌<◌, ap, sym, subst, refl}
use Rattle.flat_row.specs.Labels.{port}
use Rattle.flat_row.proofs.Meeting.{splits_is, splits_only, same_twice}
use Rattle.flat_row.proofs.combining.splits.Goals as goal

pub sent_back-requires-2-clause-ports : goal.sent_back-requires-2-clause-ports
sent_back-requires-2-clause-ports c = λ i h. subst (λ n. port c.args.settings.now.bit i c.args.x < n) (sym c.sent_back.ensures.shape.many) (c.requires.places.ports i h)

pub returns-clause-shape : goal.returns-clause-shape
returns-clause-shape c = same_twice c.args.level.now c.sent_back.new.level c.sent_back-2.new.level c.sent_back.ensures.shape c.sent_back-2.ensures.shape

pub returns-clause-met : goal.returns-clause-met
returns-clause-met c = splits_is c.args.settings.now c.args.x c.args.level.now c.sent_back.new.level c.sent_back-2.new.level c.args.waits.now c.remove-waiting.new.self c.args.reply _ _ c.remove-waiting.result c.args.index c.remove-waiting.ensures.value c.requires.index c.requires.places.entries c.remove-waiting.ensures.after refl (ap (λ v. record { tag = c.remove-waiting.result.second; word = v }) c.apply.ensures) c.sent_back.ensures.met c.sent_back-2.ensures.met

pub returns-clause-only : goal.returns-clause-only
returns-clause-only c = splits_only c.args.settings.now c.args.x c.args.level.now c.sent_back.new.level c.sent_back-2.new.level c.args.waits.now c.remove-waiting.new.self c.args.reply _ _ c.remove-waiting.result c.args.index c.remove-waiting.ensures.value c.requires.index c.requires.places.entries c.remove-waiting.ensures.after refl (ap (λ v. record { tag = c.remove-waiting.result.second; word = v }) c.apply.ensures) c.sent_back.ensures.met c.sent_back-2.ensures.met c.sent_back.ensures.only c.sent_back-2.ensures.only
