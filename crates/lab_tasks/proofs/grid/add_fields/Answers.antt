use Rattle.std.proofs.Common.{◌∙◌, string_bytes}
use Rattle.lab_tasks.proofs.Fields.{field-next}
use Rattle.lab_tasks.proofs.grid.add_fields.Goals as goal

pub loop-place-preserved : goal.loop-place-preserved
loop-place-preserved c =
    field-next c.args.cells.now c.loop-place.place c.index-cells-place.result c.as_str.result.now (string_bytes c.args.text.now)
    (string_bytes c.loop-place.text) (string_bytes c.add_field.new.text) c.loop-place-test.true (c.as_str.ensures ∙ c.index-cells-place.is) c.loop-place.invariant c.in_ok-add_field.ensures
