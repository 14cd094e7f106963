use Rattle.std.proofs.Common.{ap, sym, ◌∙◌}
use Rattle.line_words.specs.Words.{words_of}
use Rattle.lab_shell.specs.Hints.{slip_in}
use Rattle.lab_shell.proofs.Hinting.{found, passed}
use Rattle.lab_shell.proofs.hint.slip_in.Goals as goal

pub returns-then-is_some : goal.returns-then-is_some
returns-then-is_some c =
    found c.in_ok-name.name _ (slip_in (words_of c.args.names.now) (words_of c.in-Some.behind.now)) c.in_ok-name.ensures (sym c.is_some.ensures ∙ c.if-is_some.true)
    ∙ ap (slip_in (words_of c.args.names.now)) (sym c.in-Some.ensures) ∙ c.words.invariant

pub words-preserved : goal.words-preserved
words-preserved c =
    sym (passed c.in_ok-name.name _ (slip_in (words_of c.args.names.now) (words_of c.in-Some.behind.now)) c.in_ok-name.ensures (sym c.is_some.ensures ∙ c.if-is_some.false))
    ∙ ap (slip_in (words_of c.args.names.now)) (sym c.in-Some.ensures) ∙ c.words.invariant
