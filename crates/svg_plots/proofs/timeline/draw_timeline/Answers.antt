use Rattle.svg_plots.proofs.timeline.draw_timeline.Goals as goal

pub returns : goal.returns
returns c = rw (c.timeline_height.ensures, c.in_ok-picture.ensures) at c.draw.ensures
