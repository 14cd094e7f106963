use Rattle.std.proofs.Common.{◌<◌, ◌∙◌, ap, sym, subst, length, arith}
use Rattle.flat_row.specs.Row.{Network, level_at}
use Rattle.flat_row.specs.Ends.{ShowsOne, Stays, shown_with}
use Rattle.flat_row.proofs.Siding.{level_is, acted_in}
use Rattle.flat_row.proofs.sides.act_on.Goals as goal

pub index_mut-low_level-requires : goal.index_mut-low_level-requires
index_mut-low_level-requires c =
    let low_there : 0 < length c.low.inside.requests.items = omega (arith, ap (λ (n : Network). length n.requests) c.low.view_is, c.requires.low.many) in
    omega (arith, low_there)

pub index_mut-comb_level-requires : goal.index_mut-comb_level-requires
index_mut-comb_level-requires c =
    let comb_there : 0 < length c.comb.inside.requests.items = omega (arith, ap (λ (n : Network). length n.requests) c.comb.view_is, c.requires.comb.many) in
    omega (arith, comb_there)

pub act_all-requires-clause-procs : goal.act_all-requires-clause-procs
act_all-requires-clause-procs c =
    let low_there : 0 < length c.low.inside.requests.items = omega (arith, ap (λ (n : Network). length n.requests) c.low.view_is, c.requires.low.many) in
    let comb_there : 0 < length c.comb.inside.requests.items = omega (arith, ap (λ (n : Network). length n.requests) c.comb.view_is, c.requires.comb.many) in
    record {
      many = c.requires.procs;
      low_many = ap (λ v. length v.queues) (level_is c.low.inside.requests.items 0 c.index_mut-low_level.result.now c.index_mut-low_level.result.now low_there c.index_mut-low_level.ensures.value ∙ ap (λ (n : Network). level_at n.requests 0) c.low.view_is)
          ∙ c.requires.low.each 0 (omega arith);
      comb_many = ap (λ v. length v.queues) (level_is c.comb.inside.requests.items 0 c.index_mut-comb_level.result.now c.index_mut-comb_level.result.now comb_there c.index_mut-comb_level.ensures.value ∙ ap (λ (n : Network). level_at n.requests 0) c.comb.view_is)
          ∙ c.requires.comb.each 0 (omega arith);
    }

pub act_all-requires-clause-one : goal.act_all-requires-clause-one
act_all-requires-clause-one c = λ p.
    let low_there : 0 < length c.low.inside.requests.items = omega (arith, ap (λ (n : Network). length n.requests) c.low.view_is, c.requires.low.many) in
    let comb_there : 0 < length c.comb.inside.requests.items = omega (arith, ap (λ (n : Network). length n.requests) c.comb.view_is, c.requires.comb.many) in
    let low_is = level_is c.low.inside.requests.items 0 c.index_mut-low_level.result.now c.index_mut-low_level.result.now low_there c.index_mut-low_level.ensures.value ∙ ap (λ (n : Network). level_at n.requests 0) c.low.view_is in
    let comb_is = level_is c.comb.inside.requests.items 0 c.index_mut-comb_level.result.now c.index_mut-comb_level.result.now comb_there c.index_mut-comb_level.ensures.value ∙ ap (λ (n : Network). level_at n.requests 0) c.comb.view_is in
    subst (λ v. ShowsOne v c.index_mut-comb_level.result.now p) (sym low_is) (subst (λ v. ShowsOne (level_at c.args.low.now.requests 0) v p) (sym comb_is) (c.requires.one p))

pub act_all-requires-clause-others : goal.act_all-requires-clause-others
act_all-requires-clause-others c = λ p within out.
    let low_there : 0 < length c.low.inside.requests.items = omega (arith, ap (λ (n : Network). length n.requests) c.low.view_is, c.requires.low.many) in
    let comb_there : 0 < length c.comb.inside.requests.items = omega (arith, ap (λ (n : Network). length n.requests) c.comb.view_is, c.requires.comb.many) in
    let low_is = level_is c.low.inside.requests.items 0 c.index_mut-low_level.result.now c.index_mut-low_level.result.now low_there c.index_mut-low_level.ensures.value ∙ ap (λ (n : Network). level_at n.requests 0) c.low.view_is in
    let comb_is = level_is c.comb.inside.requests.items 0 c.index_mut-comb_level.result.now c.index_mut-comb_level.result.now comb_there c.index_mut-comb_level.ensures.value ∙ ap (λ (n : Network). level_at n.requests 0) c.comb.view_is in
    let is = c.requires.others p within out in
    subst (λ v. Stays c.args.project.now c.args.low_got.now c.args.comb_got.now (shown_with c.args.procs.now.items v c.index_mut-comb_level.result.now p) p) (sym low_is)
    (subst (λ v. Stays c.args.project.now c.args.low_got.now c.args.comb_got.now (shown_with c.args.procs.now.items (level_at c.args.low.now.requests 0) v p) p) (sym comb_is) is)

pub returns : goal.returns
returns c =
    let low_there : 0 < length c.low.inside.requests.items = omega (arith, ap (λ (n : Network). length n.requests) c.low.view_is, c.requires.low.many) in
    let comb_there : 0 < length c.comb.inside.requests.items = omega (arith, ap (λ (n : Network). length n.requests) c.comb.view_is, c.requires.comb.many) in
    acted_in c.args.project.now c.args.low.now c.args.comb.now c.low.inside.requests.items c.low.inside.replies.items c.low.inside.turns c.low.inside.back_turns c.comb.inside.requests.items c.comb.inside.replies.items c.comb.inside.turns c.comb.inside.back_turns c.low.view_is c.comb.view_is c.index_mut-low_level.result.now c.act_all.new.low c.index_mut-comb_level.result.now c.act_all.new.comb low_there comb_there
    c.index_mut-low_level.ensures.value c.index_mut-comb_level.ensures.value c.act_all.ensures.same.low_same c.act_all.ensures.same.comb_same c.args.low_got.now c.args.comb_got.now c.act_all.result c.args.procs.now.items c.act_all.new.procs.items c.act_all.ensures.same.many c.act_all.ensures.one c.act_all.ensures.acted c.act_all.ensures.stay c.act_all.ensures.rest
