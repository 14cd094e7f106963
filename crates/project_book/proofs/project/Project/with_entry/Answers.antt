use Rattle.project_book.proofs.Accepting.{placed}
use Rattle.project_book.proofs.project.Project.with_entry.Goals as goal

pub with_entry-requires-clause-room : goal.with_entry-requires-clause-room
with_entry-requires-clause-room c =
    rw (c.script.ensures, c.deref.ensures) (rw (← c.self.view_is) at (placed c.args.self.now c.args.proc c.args.index c.args.entry c.requires).room)
