use Rattle.std.proofs.Common.{ap}
use Rattle.command_line.specs.declared.file.TheConstants.{MOST_BYTES}
use Rattle.command_line.proofs.Taking.{taken}
use Rattle.command_line.proofs.file.read_bytes.Goals as goal

pub returns-in-Ok : goal.returns-in-Ok
returns-in-Ok g c =
    taken (g.R.Read.remaining c.take.result.inner) (g.R.Read.remaining c.args.reader) MOST_BYTES c.take.result.limit c.new-bytes.result.items c.read_to_end.new.buf.items
    (ap g.R.Read.remaining c.take.ensures.inner) c.take.ensures.limit c.new-bytes.ensures.items c.in-Ok.ensures.bytes
