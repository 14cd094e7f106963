use Rattle.std.proofs.Common.{rules, ℕ, take, ◌<◌, length, ap, subst, ◌∙◌, refl, arith}
use Rattle.std.proofs.lemmas.Result.{on_ok_weaker}
use Rattle.std.specs.Io.KnownBytes.{Consumes}
use Rattle.bench_shell.proofs.Own.{own_none, own_step, own_kept, own_last, own_cut}
use Rattle.bench_shell.proofs.Steps.{if_err, at_err, so_far_none, so_far_alone, so_far_own, so_far_step, so_far_part, so_far_cut, so_far_last, so_far_all, all_known}
use Rattle.bench_shell.proofs.session.run_watched.Goals as goal

pub pieces-init : goal.pieces-init
pieces-init g c = record {
  left = omega arith;
  version = ap (λ p. p.1) c.opened-version.ensures.both ∙ c.requires.opened;
  flushed = c.requires.flushed;
  same_reader = refl;
  same_writer = refl;
  earlier = λ alone. alone;
  so_far = rw (c.new-held.ensures.is_long, c.new-held.ensures.bytes)
      (so_far_none (g.R.Source.remaining c.args.reader.now) (g.W.Sink.contents c.args.writer.now) (g.D.Desk.is_alone c.args.desk.now) (g.D.Desk.store c.args.desk.now));
  own = rw (c.new-held.ensures.is_long, c.new-held.ensures.bytes) (own_none (g.R.Source.remaining c.args.reader.now) (g.D.Desk.store c.args.desk.now));
}

pub returns-in-Err-clause-fault : goal.returns-in-Err-clause-fault
returns-in-Err-clause-fault g c = λ alone.
    let held = c.pieces.held in
    so_far_part (g.D.Desk.clock_is_spent c.pieces.desk) _ _ _ _ _ (g.D.Desk.store c.args.desk.now) (g.D.Desk.store c.pieces.desk) held.is_long held.bytes.items
    (so_far_alone _ _ _ _ (g.D.Desk.is_alone c.args.desk.now) (g.D.Desk.is_alone c.pieces.desk) (g.D.Desk.store c.args.desk.now) (g.D.Desk.store c.pieces.desk) held.is_long held.bytes.items c.pieces.invariant.so_far alone) c.in-Err.ensures.bytes

pub returns-then-count-eq0-clause-all : goal.returns-then-count-eq0-clause-all
returns-then-count-eq0-clause-all g c = λ alone.
    let held = c.pieces.held in
    let P : ℕ → Type 0 = λ n. Consumes (g.R.Source.remaining c.pieces.reader) (g.R.Source.remaining c.read.new.self) (take n c.read.new.buf) in
    let none : P 0 = subst P c.if-count-eq0.true c.in-Ok.ensures.bytes.0 in
    let room : 0 < length c.read.new.buf = search rules in
    on_ok_weaker c.finish.result
    (λ q. so_far_all _ _ _ _ _ _ (g.D.Desk.store c.args.desk.now) (g.D.Desk.store c.pieces.desk) held.is_long held.bytes.items
    (so_far_alone _ _ _ _ (g.D.Desk.is_alone c.args.desk.now) (g.D.Desk.is_alone c.pieces.desk) (g.D.Desk.store c.args.desk.now) (g.D.Desk.store c.pieces.desk) held.is_long held.bytes.items c.pieces.invariant.so_far alone) none (c.in-Ok.ensures.bytes.1 c.if-count-eq0.true room) (q.0, q.1, q.2)) c.finish.ensures.ok

pub returns-then-count-eq0-clause-own : goal.returns-then-count-eq0-clause-own
returns-then-count-eq0-clause-own g c =
    let held = c.pieces.held in
    let P : ℕ → Type 0 = λ n. Consumes (g.R.Source.remaining c.pieces.reader) (g.R.Source.remaining c.read.new.self) (take n c.read.new.buf) in
    let none : P 0 = subst P c.if-count-eq0.true c.in-Ok.ensures.bytes.0 in
    let room : 0 < length c.read.new.buf = search rules in
    on_ok_weaker c.finish.result
    (λ q. so_far_own _ _ _ _ _ _ (g.D.Desk.is_alone c.args.desk.now) (g.D.Desk.is_alone c.pieces.desk) (g.D.Desk.store c.args.desk.now) (g.D.Desk.store c.pieces.desk) held.is_long held.bytes.items q.0
    c.pieces.invariant.so_far none (c.in-Ok.ensures.bytes.1 c.if-count-eq0.true room) q.1 q.3) c.finish.ensures.ok

pub returns-then-count-eq0-clause-ok : goal.returns-then-count-eq0-clause-ok
returns-then-count-eq0-clause-ok g c = λ alone.
    on_ok_weaker c.finish.result (λ q. all_known _ _ _ _ (g.D.Desk.store c.args.desk.now) (g.D.Desk.store c.pieces.desk) q) (returns-then-count-eq0-clause-all g c alone)

pub returns-then-count-eq0-clause-fault : goal.returns-then-count-eq0-clause-fault
returns-then-count-eq0-clause-fault g c = λ alone.
    let held = c.pieces.held in
    let P : ℕ → Type 0 = λ n. Consumes (g.R.Source.remaining c.pieces.reader) (g.R.Source.remaining c.read.new.self) (take n c.read.new.buf) in
    let none : P 0 = subst P c.if-count-eq0.true c.in-Ok.ensures.bytes.0 in
    if_err c.finish.result _ _ _ _ _ _ c.finish.ensures.cause
    (λ f is cause. so_far_last (g.D.Desk.clock_is_spent c.pieces.desk) f _ _ _ _ _ _ _ (g.D.Desk.store c.args.desk.now) (g.D.Desk.store c.pieces.desk) held.is_long held.bytes.items
    (so_far_alone _ _ _ _ (g.D.Desk.is_alone c.args.desk.now) (g.D.Desk.is_alone c.pieces.desk) (g.D.Desk.store c.args.desk.now) (g.D.Desk.store c.pieces.desk) held.is_long held.bytes.items c.pieces.invariant.so_far alone) none
    cause (at_err c.finish.result f is c.finish.ensures.err))

pub returns-in-Err-take_piece-clause-fault : goal.returns-in-Err-take_piece-clause-fault
returns-in-Err-take_piece-clause-fault g c = λ alone.
    let held = c.pieces.held in
    so_far_cut (g.D.Desk.clock_is_spent c.take_piece.new.desk) c.in-Err-take_piece.fault _ _ _ _ _ _ (g.D.Desk.store c.args.desk.now) (g.D.Desk.store c.pieces.desk) (g.D.Desk.store c.take_piece.new.desk) held.is_long held.bytes.items _
    (so_far_alone _ _ _ _ (g.D.Desk.is_alone c.args.desk.now) (g.D.Desk.is_alone c.pieces.desk) (g.D.Desk.store c.args.desk.now) (g.D.Desk.store c.pieces.desk) held.is_long held.bytes.items c.pieces.invariant.so_far (c.take_piece.ensures.earlier alone)) (rw c.split_at.ensures.front c.in-Ok.ensures.bytes.0) (c.in-Err-take_piece.ensures.fails alone)

pub returns-in-Err-clause-edits : goal.returns-in-Err-clause-edits
returns-in-Err-clause-edits g c =
    let held = c.pieces.held in
    own_kept _ _ _ (g.D.Desk.store c.args.desk.now) (g.D.Desk.store c.pieces.desk) held.is_long held.bytes.items c.pieces.invariant.own c.in-Err.ensures.bytes

pub returns-then-count-eq0-clause-edits : goal.returns-then-count-eq0-clause-edits
returns-then-count-eq0-clause-edits g c =
    let held = c.pieces.held in
    let P : ℕ → Type 0 = λ n. Consumes (g.R.Source.remaining c.pieces.reader) (g.R.Source.remaining c.read.new.self) (take n c.read.new.buf) in
    let none : P 0 = subst P c.if-count-eq0.true c.in-Ok.ensures.bytes.0 in
    own_last _ _ _ (g.D.Desk.store c.args.desk.now) (g.D.Desk.store c.pieces.desk) held.is_long held.bytes.items c.pieces.invariant.own none

pub returns-in-Err-take_piece-clause-edits : goal.returns-in-Err-take_piece-clause-edits
returns-in-Err-take_piece-clause-edits g c =
    let held = c.pieces.held in
    own_cut _ _ _ (g.D.Desk.store c.args.desk.now) (g.D.Desk.store c.pieces.desk) (g.D.Desk.store c.take_piece.new.desk) held.is_long held.bytes.items _
    c.pieces.invariant.own (rw c.split_at.ensures.front c.in-Ok.ensures.bytes.0) c.in-Err-take_piece.ensures.edits_in

pub pieces-preserved : goal.pieces-preserved
pieces-preserved g c =
    let held = c.pieces.held in
    let next = c.take_piece.new.held in
    record {
      left = omega (arith, c.read.ensures.no_more, c.pieces.invariant.left);
      version = c.in-Ok-take_piece.ensures.version;
      flushed = c.in-Ok-take_piece.ensures.flushed;
      same_reader = c.read.ensures.same_reference ∙ c.pieces.invariant.same_reader;
      same_writer = c.take_piece.ensures.same_reference ∙ c.pieces.invariant.same_writer;
      earlier = λ alone. c.pieces.invariant.earlier (c.take_piece.ensures.earlier alone);
      so_far = so_far_step _ _ _ _ _ _ (g.D.Desk.is_alone c.args.desk.now) (g.D.Desk.is_alone c.pieces.desk) (g.D.Desk.is_alone c.take_piece.new.desk)
          (g.D.Desk.store c.args.desk.now) (g.D.Desk.store c.pieces.desk) (g.D.Desk.store c.take_piece.new.desk)
          held.is_long next.is_long held.bytes.items next.bytes.items _ c.pieces.invariant.earlier c.take_piece.ensures.earlier c.pieces.invariant.so_far
          (rw c.split_at.ensures.front c.in-Ok.ensures.bytes.0) c.in-Ok-take_piece.ensures.moves;
      own = own_step _ _ _ (g.D.Desk.store c.args.desk.now) (g.D.Desk.store c.pieces.desk) (g.D.Desk.store c.take_piece.new.desk)
          held.is_long next.is_long held.bytes.items next.bytes.items _ c.pieces.invariant.own
          (rw c.split_at.ensures.front c.in-Ok.ensures.bytes.0) c.in-Ok-take_piece.ensures.edits;
    }
