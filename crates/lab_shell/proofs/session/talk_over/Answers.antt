use Rattle.std.proofs.Common.{◌∙◌}
use Rattle.bench_shell.specs.Store.{store_of}
use Rattle.lab_shell.specs.Sessions.{held}
use Rattle.lab_shell.proofs.Talking.{reached_at, talked_at, talked_plain, talked_whole}
use Rattle.lab_shell.proofs.session.talk_over.Goals as goal

pub returns-in-Ok-clause-talks : goal.returns-in-Ok-clause-talks
returns-in-Ok-clause-talks g c =
    talked_whole (g.C.Clerk.says c.args.clerk.now) c.args.manner _ _ _ _ _ _ c.turn.new.undos c.args.undos.now c.in-Ok-Some.ended c.requires
    (talked_at (g.C.Clerk.says c.args.clerk.now) c.args.manner _ _ _ _ _ _ _ _ _ (held (store_of c.turn.new.bench) c.turn.new.undos) c.in-Ok-Some.field-0 c.in-Ok-Some.ended
    c.turns.invariant.reached c.in-Ok-Some.ensures.ok c.in-Ok-Some.field-0-is c.hand_on.ensures.bytes)

pub returns-in-Ok-clause-plain : goal.returns-in-Ok-clause-plain
returns-in-Ok-clause-plain g c =
    talked_plain (g.C.Clerk.says c.args.clerk.now) c.args.manner _ _ _ _ _ _ c.in-Ok-Some.ended
    (talked_whole (g.C.Clerk.says c.args.clerk.now) c.args.manner _ _ _ _ _ _ c.turn.new.undos c.args.undos.now c.in-Ok-Some.ended c.requires
    (talked_at (g.C.Clerk.says c.args.clerk.now) c.args.manner _ _ _ _ _ _ _ _ _ (held (store_of c.turn.new.bench) c.turn.new.undos) c.in-Ok-Some.field-0 c.in-Ok-Some.ended
    c.turns.invariant.reached c.in-Ok-Some.ensures.ok c.in-Ok-Some.field-0-is c.hand_on.ensures.bytes))

pub turns-preserved : goal.turns-preserved
turns-preserved g c = record {
  reached = reached_at (g.C.Clerk.says c.args.clerk.now) c.args.manner _ _ _ _ _ _ _ _ (held (store_of c.turn.new.bench) c.turn.new.undos) c.in-Ok-None.field-0
      c.turns.invariant.reached c.in-Ok-None.ensures.ok c.in-Ok-None.field-0-is;
  same_writer = c.turn.ensures.same_reference ∙ c.turns.invariant.same_writer;
}
