use Rattle.std.proofs.Common.{◌∙◌, sym}
use Rattle.line_words.proofs.Splitting.{words_of-none, words_of-some}
use Rattle.line_words.proofs.words.split_word.Goals as goal

pub returns-in-None : goal.returns-in-None
returns-in-None c = words_of-none c.args.line.now (sym c.word_start.ensures ∙ c.in-None.is)

pub returns-in-Some : goal.returns-in-Some
returns-in-Some c =
    let after = c.split_at-in-Some.ensures in
    rw (after.front, after.back)
    (words_of-some c.args.line.now c.in-Some.start c.split_at.result.1.now (sym c.word_start.ensures ∙ c.in-Some.is) c.split_at.ensures.back
    c.unwrap_or.result (cc))
