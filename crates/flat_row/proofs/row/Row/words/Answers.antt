use Rattle.std.proofs.Common.{◌≡◌, ◌+◌, ◌≤◌, length, vec_len, vec_capacity, Some, subst, arith}
use Rattle.omega_net.specs.declared.component.Net.TheVariants.{Low as LowNet, Comb as CombNet}
use Rattle.omega_net.specs.declared.component.Component.{Component}
use Rattle.omega_net.specs.declared.component.Component.TheVariants.{Switch}
use Rattle.machine_cells.specs.Words.{words_of}
use Rattle.flat_row.specs.Row.{state_of}
use Rattle.flat_row.proofs.row.Row.words.Goals as goal

pub returns-in-Switch-Low-default-default-clause-room : goal.returns-in-Switch-Low-default-default-clause-room
returns-in-Switch-Low-default-default-clause-room c = λ room.
    let at = c.in-Switch-Low-default-default in
    let stage = c.from-in-Switch-Low-default-default in
    let index = c.from-in-Switch-Low-default-default-2 in
    let it : c.args.component ≡ Switch LowNet stage.result index.result = grind (arith, at.is, at.net-is, stage.ensures, index.ensures) in
    c.low_words.ensures.room (subst (λ (d : Component). vec_len c.args.words.now + length (words_of (state_of c.args.self.now (Some d))) ≤ vec_capacity c.args.words.now) it room)

pub returns-in-Switch-Comb-default-default-clause-room : goal.returns-in-Switch-Comb-default-default-clause-room
returns-in-Switch-Comb-default-default-clause-room c = λ room.
    let at = c.in-Switch-Comb-default-default in
    let stage = c.from-in-Switch-Comb-default-default in
    let index = c.from-in-Switch-Comb-default-default-2 in
    let it : c.args.component ≡ Switch CombNet stage.result index.result = grind (arith, at.is, at.net-is, stage.ensures, index.ensures) in
    c.comb_words.ensures.room (subst (λ (d : Component). vec_len c.args.words.now + length (words_of (state_of c.args.self.now (Some d))) ≤ vec_capacity c.args.words.now) it room)
