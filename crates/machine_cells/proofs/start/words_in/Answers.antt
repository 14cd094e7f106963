use Rattle.std.proofs.Common.{◌≡◌, ◌*◌, subst, arith}
use Rattle.page_map.specs.Limits.{page_count, page_words}
use Rattle.machine_cells.specs.Putting.{IsPut}
use Rattle.machine_cells.proofs.Putting.{put_all}
use Rattle.machine_cells.proofs.start.words_in.Goals as goal

pub returns : goal.returns
returns c =
    let P = c.args.project.now in
    let m = c.args.number in
    let end : c.loop-page.page ≡ page_count = omega (arith, c.loop-page-test.false, c.loop-page.auto.page-end) in
    put_all P m c.loop-page.words (subst (λ n. IsPut P m (page_words * n) c.loop-page.words) end c.loop-page.invariant)
