use Rattle.std.proofs.Common.{◌∙◌, ◌+◌, ◌*◌, ap, sym, List, arith}
use Rattle.page_map.specs.Limits.{page_words}
use Rattle.project_book.specs.declared.words.FirstWord.{FirstWord}
use Rattle.project_book.specs.FirstWords.{word_at}
use Rattle.machine_cells.proofs.Putting.{put_without, put_beside, put_next, put_end, lane_step}
use Rattle.machine_cells.proofs.start.put_page.Goals as goal

pub returns-in_default : goal.returns-in_default
returns-in_default c =
    put_without c.args.project.now c.args.number c.args.page c.args.words.now
    (λ o l. c.in_default.ensures o l ∙ ap (λ (ws : List FirstWord). word_at ws (page_words * c.args.page + o)) c.words.ensures.words) c.requires.before

pub returns-in_default-lane : goal.returns-in_default-lane
returns-in_default-lane c = put_beside c.args.project.now c.args.number c.args.page c.args.words.now (sym c.in_default-lane.ensures.lane) c.requires.before

pub loop-offset-preserved : goal.loop-offset-preserved
loop-offset-preserved c =
    let loop = c.loop-offset in
    let next = lane_step c.args.page loop.row c.in-Some-lane.first c.in-Some-lane.step loop.offset c.in-Some-lane.ensures.within.0 loop.invariant.from c.loop-offset-test.true loop.invariant.at in
    record {
      put =
          rw c.in_ok-put.ensures.ok
          (put_next c.args.project.now c.args.number c.args.page loop.row c.in-Some-lane.first c.in-Some-lane.step loop.offset _ loop.words c.requires.there c.loop-offset-test.true (sym c.in-Some-lane.ensures.lane) loop.invariant.from loop.invariant.at
          (c.in-Some.ensures loop.offset c.loop-offset-test.true ∙ ap (λ (ws : List FirstWord). word_at ws (page_words * c.args.page + loop.offset)) c.words.ensures.words) loop.invariant.put);
      from = omega (arith, loop.invariant.from);
      to = next.0;
      at = next.1;
    }

pub returns : goal.returns
returns c =
    let loop = c.loop-offset in
    put_end c.args.project.now c.args.number c.args.page loop.row c.in-Some-lane.first c.in-Some-lane.step loop.offset loop.words (sym c.in-Some-lane.ensures.lane) loop.invariant.from loop.invariant.to loop.invariant.at c.loop-offset-test.false loop.invariant.put
