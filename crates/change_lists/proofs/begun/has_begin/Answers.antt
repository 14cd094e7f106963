use Rattle.std.proofs.Common.{◌∙◌, ◌^◌, sym}
use Rattle.change_lists.proofs.Places.{begins_at_place}
use Rattle.change_lists.proofs.begun.has_begin.Goals as goal

pub returns : goal.returns
returns g c = c.is_at.ensures ∙ sym (begins_at_place (2 ^ 32) c.args.t c.place.result c.args.begun.now c.requires c.ranges.t.fits c.place.ensures)
