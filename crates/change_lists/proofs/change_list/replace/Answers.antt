use Rattle.change_lists.proofs.Places.{set_at}
use Rattle.change_lists.proofs.change_list.replace.Goals as goal

pub returns-clause-items : goal.returns-clause-items
returns-clause-items g c = set_at c.args.begun.now.items c.args.i _ c.requires
