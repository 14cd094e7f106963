use Rattle.std.proofs.Common.{◌≡◌, ◌∙◌, ◌++◌, ℕ, List, [], Bor, ap, sym, get_or, length, arith}
use Rattle.std.specs.Prelude.{Option}
use Rattle.std.proofs.lemmas.List.{get_or-map, length-map}
use Rattle.svg_plots.proofs.Each.{each_kept}
use Rattle.lab_tasks.specs.declared.asking.Asking.{Asking}
use Rattle.lab_tasks.specs.Answered.{columns_at, columns_for}
use Rattle.lab_tasks.proofs.WordByWord.{blank, texts}
use Rattle.lab_tasks.proofs.answered.add_asked.Goals as goal

pub loop-place-preserved : goal.loop-place-preserved
loop-place-preserved c =
    let asks = c.args.asks.now in
    let place = c.loop-place.place in
    let many : length (texts asks) ≡ length asks = length-map asks (λ (ask : Bor (List ℕ)). ask.now) in
    let at : get_or (texts asks) place [] ≡ (get_or asks place blank).now = get_or-map (λ (ask : Bor (List ℕ)). ask.now) asks place blank [] c.loop-place-test.true in
    each_kept (columns_at c.args.form c.args.askings.now) c.args.names.now.items (texts asks) place 0 place [] c.loop-place.names.items c.add_columns_for.new.names.items
    (omega (arith, many, c.loop-place-test.true)) (omega arith) c.loop-place.invariant
    (c.in_ok-add_columns_for.ensures
    ∙ ap (λ (o : Option Asking). c.loop-place.names.items ++ columns_for c.args.form (get_or asks place blank).now o) c.asking_at-asking.ensures
    ∙ ap (λ (ask : List ℕ). c.loop-place.names.items ++ columns_at c.args.form c.args.askings.now place ask) (sym at))
