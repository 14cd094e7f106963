use Rattle.lab_tasks.proofs.compared_map.compared_picture.Goals as goal

pub returns-clause-drawn : goal.returns-clause-drawn
returns-clause-drawn c = (c.in_ok-map.map, c.in_ok-map.ensures.shown, c.in_ok-draw_map.ensures)
