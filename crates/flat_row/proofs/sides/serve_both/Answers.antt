use Rattle.std.proofs.Common.{◌≤◌, ◌∙◌, sym, subst}
use Rattle.omega_net.specs.Numbers.{lines}
use Rattle.flat_row.proofs.Siding.{only_same, both_served}
use Rattle.flat_row.proofs.Writing.{both_wrote}
use Rattle.flat_row.proofs.sides.serve_both.Goals as goal

pub returns-in_err-low_wrote-clause-low : goal.returns-in_err-low_wrote-clause-low
returns-in_err-low_wrote-clause-low c = c.in_err-low_wrote.ensures.only

pub returns-in_err-low_wrote-clause-comb : goal.returns-in_err-low_wrote-clause-comb
returns-in_err-low_wrote-clause-comb c = only_same c.args.shape c.args.comb.now

pub returns-in_err-low_wrote-clause-many : goal.returns-in_err-low_wrote-clause-many
returns-in_err-low_wrote-clause-many c = c.in_err-low_wrote.ensures.many

pub serve-requires-2 : goal.serve-requires-2
serve-requires-2 c = record { levels = c.requires.comb.levels; some = c.requires.comb.some; there = subst (λ n. lines c.args.shape ≤ n) (sym c.in_ok-low_wrote.ensures.many) c.requires.comb.there }

pub returns-in_err-comb_wrote-clause-low : goal.returns-in_err-comb_wrote-clause-low
returns-in_err-comb_wrote-clause-low c = c.in_ok-low_wrote.ensures.only

pub returns-in_err-comb_wrote-clause-comb : goal.returns-in_err-comb_wrote-clause-comb
returns-in_err-comb_wrote-clause-comb c = c.in_err-comb_wrote.ensures.only

pub returns-in_err-comb_wrote-clause-many : goal.returns-in_err-comb_wrote-clause-many
returns-in_err-comb_wrote-clause-many c = c.in_err-comb_wrote.ensures.many ∙ c.in_ok-low_wrote.ensures.many

pub returns-clause-low : goal.returns-clause-low
returns-clause-low c = c.in_ok-low_wrote.ensures.only

pub returns-clause-comb : goal.returns-clause-comb
returns-clause-comb c = c.in_ok-comb_wrote.ensures.only

pub returns-clause-many : goal.returns-clause-many
returns-clause-many c = c.in_ok-comb_wrote.ensures.many ∙ c.in_ok-low_wrote.ensures.many

pub returns-clause-both : goal.returns-clause-both
returns-clause-both c =
    both_served c.args.shape c.args.served.now.low c.args.served.now.comb c.args.low.now c.serve.new.self c.args.comb.now c.serve-2.new.self c.args.words.now.items c.serve.new.words.items c.serve-2.new.words.items c.serve.new.answers c.serve-2.new.answers
    c.in_ok-low_wrote.ensures.served c.in_ok-comb_wrote.ensures.served

pub returns-clause-wrote : goal.returns-clause-wrote
returns-clause-wrote c =
    both_wrote c.args.served.now.low c.args.served.now.comb c.in_ok-low_wrote.low_wrote c.in_ok-comb_wrote.comb_wrote c.either.result c.args.words.now.items c.serve.new.words.items c.serve-2.new.words.items
    c.requires.apart c.in_ok-low_wrote.ensures.wrote c.in_ok-low_wrote.ensures.within c.in_ok-comb_wrote.ensures.wrote c.in_ok-comb_wrote.ensures.within c.either.ensures
