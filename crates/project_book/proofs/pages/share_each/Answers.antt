use Rattle.std.proofs.Common.{map, option_map, ◌≤◌, arith, length}
use Rattle.std.specs.Arc.{arc_value}
use Rattle.project_book.proofs.Sharing.{shared_more, shared_all}
use Rattle.project_book.proofs.pages.share_each.Goals as goal

pub loop-page-preserved : goal.loop-page-preserved
loop-page-preserved c = record {
  many = omega (arith, c.in_ok-push.ensures.len, c.loop-page.invariant.many);
  same =
      rw c.in_ok-push.ensures.items
      (shared_more (option_map arc_value) c.loop-page.shared.items c.in_ok-share_page.field-0 (map (option_map arc_value) c.args.pages.now) c.loop-page.page c.loop-page.invariant.many c.in_ok-share_page.ensures c.loop-page.invariant.same);
}

pub returns-clause-same : goal.returns-clause-same
returns-clause-same c =
    let most : length c.args.pages.now ≤ c.loop-page.page = omega (arith, c.max-count.ensures, c.loop-page-test.false) in
    shared_all (option_map arc_value) c.loop-page.shared.items c.args.pages.now c.loop-page.page c.loop-page.invariant.many most c.loop-page.invariant.same
