use Rattle.std.proofs.Common.{◌≡◌, ◌∙◌, ◌-◌, ap, sym, arith}
use Rattle.std.specs.List.{flat_map, range_with_len}
use Rattle.machine_cells.specs.Reads.{reader_of}
use Rattle.machine_cells.proofs.readers.readers.Goals as goal

pub returns : goal.returns
returns c =
    let range = c.candidates-start.result in
    let last : c.loop-c.c ≡ range.end = omega (arith, c.loop-c.auto.c, c.loop-c-test.false, c.candidates-start.ensures.ordered) in
    c.loop-c.invariant ∙ ap (λ n. flat_map (reader_of c.args.project.now c.args.slot) (range_with_len range.start (n - range.start))) last ∙ sym c.candidates-start.ensures.all
