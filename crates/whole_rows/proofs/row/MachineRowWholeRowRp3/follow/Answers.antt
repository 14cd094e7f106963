use Rattle.std.proofs.Common.{◌≡◌, ◌∙◌, ℕ, ap, sym, subst}
use Rattle.flat_row.specs.Row.{Arrays}
use Rattle.whole_rows.specs.Rows.{state_in}
use Rattle.whole_rows.proofs.Loading.{follows}
use Rattle.whole_rows.proofs.row.MachineRowWholeRowRp3.follow.Goals as goal

pub returns-clause-states : goal.returns-clause-states
returns-clause-states c =
    subst (λ (r : Arrays). (d : ℕ) → state_in c.follow.new.self d ≡ state_in r d) c.self.view_is
    (follows c.self.inside.row c.follow.new.self (c.follow.ensures.of.size ∙ sym c.requires.2 ∙ sym c.requires.1.size ∙ ap (λ (r : Arrays). r.k) (sym c.self.view_is)) c.follow.ensures.each)
