use Rattle.std.proofs.Common.{ℕ, ap, ◌∙◌}
use Rattle.run_reports.specs.declared.full_queues.Part.{Part}
use Rattle.omega_net.specs.declared.component.Component.TheVariants.{Module}
use Rattle.omega_net.specs.Numbers.{number_of}
use Rattle.lab_tasks.specs.declared.map_rows.MapRow.{MapRow}
use Rattle.lab_tasks.proofs.RowPlaces.{some_there, some_value}
use Rattle.lab_tasks.proofs.map_rows.module_row.Goals as goal

abbrev row_at : ℕ → ℕ → Part → MapRow
row_at m n part = record { component = Module m; queue = record { place = n; part = part } }

pub unwrap-place-requires : goal.unwrap-place-requires
unwrap-place-requires c = some_there c.number.result _ _ c.number.ensures.value c.requires.there

pub returns : goal.returns
returns c =
    ap (λ (n : ℕ). row_at c.args.module n c.part_of-part.result) (some_value c.number.result _ _ c.unwrap-place.result c.number.ensures.value c.unwrap-place.ensures)
    ∙ ap (λ (part : Part). row_at c.args.module (number_of c.args.shape (Module c.args.module)) part) c.part_of-part.ensures
