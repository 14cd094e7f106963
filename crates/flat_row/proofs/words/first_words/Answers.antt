use Rattle.std.proofs.Common.{◌+◌, ◌<◌, ◌∙◌, ap, arith, map, List}
use Rattle.std.specs.Arc.{arc_value}
use Rattle.std.specs.Prelude.{slice_get}
use Rattle.omega_net.specs.Numbers.{lines}
use Rattle.machine_cells.specs.declared.state.MachineState.{MachineState}
use Rattle.machine_cells.specs.Run.{words_in, first_states}
use Rattle.flat_row.proofs.Starting.{words_more}
use Rattle.flat_row.proofs.Wording.{module_first, words_rise}
use Rattle.flat_row.proofs.words.first_words.Goals as goal

pub loop-m-preserved : goal.loop-m-preserved
loop-m-preserved c =
    let P = c.args.project.now in
    let m = c.loop-m.m in
    let size = c.lines-lines.ensures.value ∙ ap lines c.shape.ensures in
    let within : m < lines P.k = omega (arith, c.loop-m-test.true, size) in
    words_more P m _ _ _ c.in_ok-push.ensures.items c.loop-m.invariant
    (c.in_ok-stored.ensures (words_in P m P.words) (words_rise P m P.words)
    (ap (λ (xs : List MachineState). slice_get xs (c.lines-lines.result + m)) (ap (map arc_value) c.deref.ensures.value ∙ c.in_ok-row.ensures) ∙ ap (λ n. slice_get (first_states P) (n + m)) size ∙ module_first P m within))
