use Rattle.page_map.proofs.Spread.{room_at}
use Rattle.page_map.proofs.map.PageMap.page_at.Goals as goal

pub returns-clause-room : goal.returns-clause-room
returns-clause-room c = rw (← c.self.view_is) (room_at _ c.args.page c.index-self-page.result c.self.invariant c.requires)
