use Rattle.std.proofs.Common.{ℕ, ap}
use Rattle.run_reports.specs.declared.full_queues.Part.{Part}
use Rattle.omega_net.specs.declared.component.Component.{Component}
use Rattle.omega_net.specs.declared.component.Component.TheVariants.{Switch}
use Rattle.lab_tasks.specs.declared.map_rows.MapRow.{MapRow}
use Rattle.lab_tasks.proofs.RowPlaces.{some_there, some_value}
use Rattle.lab_tasks.proofs.map_rows.switch_row.Goals as goal

pub unwrap-place-requires : goal.unwrap-place-requires
unwrap-place-requires c = some_there c.number.result _ _ c.number.ensures.value (c.requires.stage, c.requires.index)

abbrev row_at : Component → Part → ℕ → MapRow
row_at component part n = record { component = component; queue = record { place = n; part = part } }

pub returns : goal.returns
returns c =
    ap (row_at (Switch c.args.net c.args.stage c.args.index) c.args.part)
    (some_value c.number.result _ _ c.unwrap-place.result c.number.ensures.value c.unwrap-place.ensures)
