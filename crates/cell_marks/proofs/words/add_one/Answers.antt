use Rattle.std.proofs.Common.{◌<◌, arith, length}
use Rattle.cell_marks.proofs.Added.{word_added, added_counted}
use Rattle.cell_marks.proofs.words.add_one.Goals as goal

pub returns-clause-bits : goal.returns-clause-bits
returns-clause-bits c =
    let there : c.args.at < length c.args.words.now = omega (arith, c.requires.room, c.requires.there) in
    word_added c.args.words.now c.args.at c.args.other c.missing_bits-missing.result c.min.result c.args.n there c.min.ensures c.missing_bits-missing.ensures.below c.missing_bits-missing.ensures.bits

pub returns-clause-count : goal.returns-clause-count
returns-clause-count c =
    let there : c.args.at < length c.args.words.now = omega (arith, c.requires.room, c.requires.there) in
    added_counted c.args.words.now c.args.at c.args.other c.missing_bits-missing.result c.min.result c.args.n there (omega (arith, c.min.ensures)) (omega (arith, c.min.ensures, c.requires.there)) c.missing_bits-missing.ensures.below c.missing_bits-missing.ensures.bits
