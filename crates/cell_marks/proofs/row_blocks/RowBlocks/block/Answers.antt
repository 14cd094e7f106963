use Rattle.std.proofs.Common.{◌<◌, ◌≤◌, ◌∙◌, [], sym, ap, arith, length, get_or, map}
use Rattle.std.proofs.lemmas.List.{get_or-map, length-map}
use Rattle.cell_marks.proofs.Blocks.{count_is, of_block, none_there}
use Rattle.cell_marks.proofs.row_blocks.RowBlocks.block.Goals as goal

pub returns-in-Some-clause-len : goal.returns-in-Some-clause-len
returns-in-Some-clause-len c =
    let i = c.self.inside in
    let found = c.in-Some.ensures.lookup.3 in
    let all = i.by_block.items in
    let at = c.args.block in
    let words = c.in-Some.words.now in
    let there : at < length all = omega (arith, found.0, ap length c.deref.ensures.value) in
    let is = c.as_slice.ensures.value ∙ ap (λ v. v.items) (found.1 words ∙ ap (λ bs. get_or bs at words) c.deref.ensures.value) ∙ sym (get_or-map (λ v. v.items) all at words [] there) in
    ap length is
    ∙ c.self.invariant.1 at [] (omega (arith, there, length-map all (λ v. v.items)))
    ∙ count_is (map (λ v. v.items) all) i.count i.width c.args.self.now c.self.view_is

pub returns-in-Some-clause-bits : goal.returns-in-Some-clause-bits
returns-in-Some-clause-bits c =
    let i = c.self.inside in
    let found = c.in-Some.ensures.lookup.3 in
    let all = i.by_block.items in
    let at = c.args.block in
    let words = c.in-Some.words.now in
    let there : at < length all = omega (arith, found.0, ap length c.deref.ensures.value) in
    let is = c.as_slice.ensures.value ∙ ap (λ v. v.items) (found.1 words ∙ ap (λ bs. get_or bs at words) c.deref.ensures.value) ∙ sym (get_or-map (λ v. v.items) all at words [] there) in
    of_block (map (λ v. v.items) all) i.count i.width c.args.self.now c.self.view_is c.as_slice.result.now at is (returns-in-Some-clause-len c)

pub returns-in-None-clause-len : goal.returns-in-None-clause-len
returns-in-None-clause-len c =
    let i = c.self.inside in
    let past : length i.by_block.items ≤ c.args.block = omega (arith, c.in-None.ensures.lookup.3, ap length c.deref.ensures.value) in
    none_there (map (λ v. v.items) i.by_block.items) i.count i.width c.args.self.now c.self.view_is c.args.block (omega (arith, past, c.self.invariant.0)) c.requires

pub returns-in-None-clause-bits : goal.returns-in-None-clause-bits
returns-in-None-clause-bits c = λ d k h. absurd (omega (arith, h, returns-in-None-clause-len c))
