use Rattle.cell_table.specs.Claims.{IsNextRound, IsClaim}
use Rattle.machine_cells.specs.GridRules.{rp3_rules}
use Rattle.shared_bench.proofs.Lots.{of_some, is_in_row, is_out_of_row}
use Rattle.shared_bench.proofs.carried.Carried.claim_in_row.Goals as goal

pub returns-then-is_behind : goal.returns-then-is_behind
returns-then-is_behind c =
    let d = c.args.self.now in
    let some = c.in-Ok-Some in
    let next = of_some (λ claim. IsNextRound rp3_rules d.table c.args.from.cycle c.args.from.component claim.cell) some.field-0 some.claim some.field-0-is some.ensures.next in
    let holds = of_some (IsClaim rp3_rules d.table) some.field-0 some.claim some.field-0-is some.ensures.holds in
    is_in_row d c.args.from.cycle c.args.from.component some.claim c.cell.result c.cell.ensures next holds (c.is_behind.ensures.0 c.if-is_behind.true)

pub returns-else-is_behind : goal.returns-else-is_behind
returns-else-is_behind c =
    let d = c.args.self.now in
    let some = c.in-Ok-Some in
    let next = of_some (λ claim. IsNextRound rp3_rules d.table c.args.from.cycle c.args.from.component claim.cell) some.field-0 some.claim some.field-0-is some.ensures.next in
    is_out_of_row d c.args.from.cycle c.args.from.component some.claim c.cell.result c.cell.ensures next c.is_behind.result c.if-is_behind.false c.is_behind.ensures.1
