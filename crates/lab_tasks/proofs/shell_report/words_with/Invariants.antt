use Rattle.std.proofs.Common.{◌≡◌, take}
use Rattle.lab_tasks.specs.Subcommands.{words_for}
use Rattle.lab_tasks.specs.Words.{texts_of}
use Rattle.lab_tasks.proofs.shell_report.words_with.Given as goal

abbrev pub invariant-loop-phrase : goal.invariant-loop-phrase
invariant-loop-phrase l = texts_of l.texts.items ≡ words_for l.name (take l.phrase-index l.phrases)
