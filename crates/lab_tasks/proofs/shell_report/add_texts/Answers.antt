use Rattle.std.proofs.Common.{◌++◌}
use Rattle.line_words.specs.Words.{words_of}
use Rattle.lab_tasks.specs.Words.{texts_of}
use Rattle.lab_tasks.proofs.WordTexts.{one_more, valid_more}
use Rattle.lab_tasks.proofs.shell_report.add_texts.Goals as goal

pub words-preserved : goal.words-preserved
words-preserved c =
    let words = words_of c.words.rest.now in
    let behind = words_of c.in-Some.behind.now in record {
      texts = one_more c.words.texts.items c.push.new.self.items c.in-Ok.text c.in-Some.word.now words behind
          (texts_of c.args.texts.now.items ++ words_of c.args.words.now) c.in_ok-push.ensures.items c.in-Ok.ensures.cases.0 c.in-Some.ensures c.words.invariant.texts;
      utf8 = valid_more c.in-Some.word.now words behind (words_of c.args.words.now) c.in-Ok.ensures.cases.1 c.in-Some.ensures c.words.invariant.utf8;
    }
