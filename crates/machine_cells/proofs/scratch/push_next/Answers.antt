use Rattle.std.proofs.Common.{◌∙◌, ap, sym, Vec, Global, List, map, length, arith, ◌<◌}
use Rattle.std.proofs.lemmas.List.{length-map}
use Rattle.std.specs.Arc.{arc_value}
use Rattle.std.specs.declared.sync.Arc.{Arc}
use Rattle.machine_cells.specs.declared.state.MachineState.{MachineState}
use Rattle.machine_cells.specs.Cycle.{cycle}
use Rattle.machine_cells.proofs.Rows.{row_size, rows_within, rows_more}
use Rattle.machine_cells.proofs.scratch.push_next.Goals as goal

pub index-requires : goal.index-requires
index-requires c =
    let within : c.args.cycle < length c.args.rows.now.items = rows_within (λ (r : Vec (Arc MachineState Global) Global). map arc_value r.items) c.args.project.now c.args.rows.now.items c.args.cycle c.requires in
    omega arith

pub next_row-requires : goal.next_row-requires
next_row-requires c =
    ap length c.deref.ensures.value
    ∙ sym (length-map c.index.result.now.items arc_value)
    ∙ row_size (λ (r : Vec (Arc MachineState Global) Global). map arc_value r.items) c.args.project.now c.args.rows.now.items c.args.cycle c.index.result.now c.requires c.index.ensures

pub returns : goal.returns
returns c =
    rows_more (λ (r : Vec (Arc MachineState Global) Global). map arc_value r.items) c.args.project.now c.args.rows.now.items c.push.new.self.items c.args.cycle c.index.result.now c.in_ok-row.row
    c.in_ok-push.ensures.items c.requires c.index.ensures (c.in_ok-row.ensures ∙ ap (λ (xs : List (Arc MachineState Global)). cycle c.args.project.now (map arc_value xs)) c.deref.ensures.value)
