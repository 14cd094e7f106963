use Rattle.line_words.specs.Words.{words_of}
use Rattle.lab_tasks.proofs.Phrasing.{gather_more}
use Rattle.lab_tasks.proofs.WordTexts.{valid_more}
use Rattle.lab_tasks.proofs.phrases.gathered.Goals as goal

pub words-preserved : goal.words-preserved
words-preserved c =
    let words = words_of c.words.rest.now in
    let behind = words_of c.in-Some.behind.now in record {
      texts = gather_more c.words.texts.items c.gather.new.texts.items _ c.in_ok-text.text c.in-Some.word.now c.in-Ok.word.now words behind _
          (c.in_ok-text.ensures behind) c.in-Ok.ensures.cases.0 c.in-Some.ensures c.words.invariant.texts;
      utf8 = valid_more c.in-Some.word.now words behind (words_of c.args.words.now) c.in-Ok.ensures.cases.1 c.in-Some.ensures c.words.invariant.utf8;
    }
