use Rattle.std.proofs.Common.{ap, sym, ◌∙◌, eq-eqb}
use Rattle.std.specs.Prelude.{not}
use Rattle.std.proofs.lemmas.Bool.{false≢true}
use Rattle.flat_row.proofs.Writing.{other_words}
use Rattle.flat_row.proofs.serving.serve_request.Goals as goal

-- the word after isn't the one before, so the words aren't
pub returns-clause-other : goal.returns-clause-other
returns-clause-other c = λ told alike.
    let done = c.in_ok-word.ensures in
    other_words c.args.words.now c.args.request.place.row _
    (λ e. false≢true (sym (ap not (eq-eqb _ _ e)) ∙ sym done.other ∙ told))
    (sym done.left ∙ alike)
