use Rattle.cell_table.proofs.Answering.{claim_made}
use Rattle.cell_table.proofs.table.Table.claim.Goals as goal

pub returns-clause-headline_claims : goal.returns-clause-headline_claims
returns-clause-headline_claims g c =
    claim_made g.G.Grid.rules g.G.Grid.laws c.args.self.now c.args.from.cycle c.args.from.component c.claim_plain.result c.claim_plain.ensures.next c.claim_plain.ensures.holds
