use Rattle.std.proofs.Common.{◌∙◌, ap, Some}
use Rattle.flat_row.specs.Row.{Arrays, state_of, states_of}
use Rattle.flat_row.proofs.Following.{following_each, following_states}
use Rattle.flat_row.proofs.row.Row.follow.Goals as goal

pub returns-clause-each : goal.returns-clause-each
returns-clause-each c = λ x.
    following_each c.args.project.now (record { k = c.self.inside.shape; low = c.self.inside.low; comb = c.self.inside.comb; buffers = c.self.inside.waits.items; procs = c.self.inside.procs.items; words = c.self.inside.words.items; module_turns = c.self.inside.module_turns; served = c.self.inside.served; rests = c.self.inside.rests }) c.follow.new.self c.follow-2.new.self c.follow.ensures c.follow-2.ensures x
    ∙ ap (λ (r : Arrays). state_of r (Some x)) c.self.view_is

pub returns-clause-states : goal.returns-clause-states
returns-clause-states c =
    following_states c.args.project.now (record { k = c.self.inside.shape; low = c.self.inside.low; comb = c.self.inside.comb; buffers = c.self.inside.waits.items; procs = c.self.inside.procs.items; words = c.self.inside.words.items; module_turns = c.self.inside.module_turns; served = c.self.inside.served; rests = c.self.inside.rests }) c.follow.new.self c.follow-2.new.self c.follow.ensures c.follow-2.ensures
    ∙ ap states_of c.self.view_is
