use Rattle.std.proofs.Common.{refl, ◌∙◌, ◌≡◌, subst, take, arith}
use Rattle.std.proofs.lemmas.List.{take_all}
use Rattle.bench_shell.specs.Steps.{EditsOn}
use Rattle.bench_shell.proofs.Steps.{goes_none, moves_on, piece_goes, piece_fails}
use Rattle.bench_shell.proofs.Own.{edits_none, piece_edits, piece_stopped}
use Rattle.bench_shell.proofs.session.take_each.Goals as goal

pub loop-byte-init : goal.loop-byte-init
loop-byte-init g c =
    let held = c.args.held.now in
    record {
      version = c.requires;
      same_reference = refl;
      earlier = λ alone. alone;
      moves = goes_none (g.D.Desk.is_alone c.args.desk.now) _ (g.D.Desk.store c.args.desk.now) held.is_long held.bytes.items;
      edits = edits_none (g.D.Desk.store c.args.desk.now) held.is_long held.bytes.items;
    }

pub returns-in-Err-clause-fails : goal.returns-in-Err-clause-fails
returns-in-Err-clause-fails g c = λ alone.
    let first = c.args.held.now in
    let held = c.loop-byte.held in
    piece_fails (g.D.Desk.clock_is_spent c.take_byte.new.desk) c.in-Err.fault _ _ _ (g.D.Desk.store c.args.desk.now) (g.D.Desk.store c.loop-byte.desk) (g.D.Desk.store c.take_byte.new.desk)
    first.is_long held.is_long first.bytes.items held.bytes.items c.args.piece.now c.loop-byte.byte-index _ c.loop-byte-test.true refl
    (moves_on _ _ (g.D.Desk.is_alone c.args.desk.now) (g.D.Desk.is_alone c.loop-byte.desk) (g.D.Desk.store c.args.desk.now) (g.D.Desk.store c.loop-byte.desk) first.is_long held.is_long first.bytes.items held.bytes.items
    (take c.loop-byte.byte-index c.args.piece.now) c.loop-byte.invariant.moves (c.take_byte.ensures.earlier alone)) (c.in-Err.ensures.fails alone)

pub returns-in-Err-clause-edits_in : goal.returns-in-Err-clause-edits_in
returns-in-Err-clause-edits_in g c =
    let first = c.args.held.now in
    let held = c.loop-byte.held in
    piece_stopped (g.D.Desk.store c.args.desk.now) (g.D.Desk.store c.loop-byte.desk) (g.D.Desk.store c.take_byte.new.desk)
    first.is_long held.is_long first.bytes.items held.bytes.items c.args.piece.now c.loop-byte.byte-index _ c.loop-byte-test.true refl
    c.loop-byte.invariant.edits c.in-Err.ensures.edits_in

pub returns-clause-edits : goal.returns-clause-edits
returns-clause-edits g c =
    let first = c.args.held.now in
    let held = c.loop-byte.held in
    let all : take c.loop-byte.byte-index c.args.piece.now ≡ c.args.piece.now = take_all c.loop-byte.byte-index c.args.piece.now (omega (arith, c.loop-byte-test.false)) in
    subst (λ text. EditsOn (g.D.Desk.store c.args.desk.now) first.is_long first.bytes.items text (g.D.Desk.store c.loop-byte.desk) held.is_long held.bytes.items) all c.loop-byte.invariant.edits

pub loop-byte-preserved : goal.loop-byte-preserved
loop-byte-preserved g c =
    let first = c.args.held.now in
    let held = c.loop-byte.held in
    let next = c.take_byte.new.held in
    record {
      version = c.in-Ok.ensures.version;
      same_reference = c.take_byte.ensures.same_reference ∙ c.loop-byte.invariant.same_reference;
      earlier = λ alone. c.loop-byte.invariant.earlier (c.take_byte.ensures.earlier alone);
      moves = piece_goes (g.D.Desk.is_alone c.args.desk.now) (g.D.Desk.is_alone c.loop-byte.desk) (g.D.Desk.is_alone c.take_byte.new.desk)
          _ _ _ (g.D.Desk.store c.args.desk.now) (g.D.Desk.store c.loop-byte.desk) (g.D.Desk.store c.take_byte.new.desk)
          first.is_long held.is_long next.is_long first.bytes.items held.bytes.items next.bytes.items c.args.piece.now c.loop-byte.byte-index _ c.loop-byte-test.true refl
          c.loop-byte.invariant.earlier c.take_byte.ensures.earlier c.loop-byte.invariant.moves c.in-Ok.ensures.moves;
      edits = piece_edits (g.D.Desk.store c.args.desk.now) (g.D.Desk.store c.loop-byte.desk) (g.D.Desk.store c.take_byte.new.desk)
          first.is_long held.is_long next.is_long first.bytes.items held.bytes.items next.bytes.items c.args.piece.now c.loop-byte.byte-index _ c.loop-byte-test.true refl
          c.loop-byte.invariant.edits c.in-Ok.ensures.edits;
    }
