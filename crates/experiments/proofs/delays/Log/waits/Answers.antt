use Rattle.std.proofs.Common.{◌≡◌, ◌+◌, ◌∙◌, List, get_or, ap, sym, take, arith}
use Rattle.std.specs.Prelude.{option_to_list, slice_get}
use Rattle.std.specs.List.{flat_map}
use Rattle.experiments.specs.declared.delays.Came.{Came}
use Rattle.experiments.specs.declared.delays.Issue.{Issue}
use Rattle.experiments.specs.Delays.{since}
use Rattle.experiments.specs.Logs.{wait_of}
use Rattle.experiments.proofs.Logging.{wait_next}
use Rattle.experiments.proofs.delays.Log.waits.Goals as goal

pub loop-came-preserved : goal.loop-came-preserved
loop-came-preserved c =
    let issued = c.args.self.now.issues.items in
    let i = c.loop-came.came-index in
    let none : Came = record { cycle = 0; issue = 0 } in
    let came = c.as_slice-came-items.result.now in
    let same : came ≡ c.args.self.now.replies.items = c.as_slice-came-items.ensures.value in
    let is : option_to_list c.wait_of.result ≡ wait_of issued (get_or came i none) =
    ap option_to_list (c.wait_of.ensures ∙ ap (λ (xs : List Issue). since (get_or came i none).cycle (slice_get xs (get_or came i none).issue)) c.as_slice.ensures.value) in
    wait_next issued came i none c.loop-came.numbers.items c.add.new.numbers.items c.wait_of.result (omega (arith, c.loop-came-test.true, c.loop-came.auto.came-index-end, c.as_slice-came-items.ensures.len))
    (c.loop-came.invariant ∙ ap (λ (xs : List Came). flat_map (wait_of issued) (take i xs)) (sym same)) c.in_ok-add.ensures is
    ∙ ap (λ (xs : List Came). flat_map (wait_of issued) (take (i + 1) xs)) same
