use Rattle.std.proofs.Common.{map, slice_get, ap, ◌∙◌}
use Rattle.saturation.specs.Levels.{level}
use Rattle.saturation.proofs.trees.fn.levels_of.map.Goals as goal

pub returns : goal.returns
returns c =
    c.level.ensures
    ∙ ap (λ xs. level c.captures.project.now c.captures.net c.captures.module (slice_get (map (λ r. r.now) xs))) c.deref.ensures.value
