use Rattle.std.proofs.Common.{◌≡◌, suc, ◌+◌, ◌<◌, ◌∙◌, ap, sym, subst, length, arith}
use Rattle.std.proofs.lemmas.Result.{on_ok_weaker}
use Rattle.std.specs.Prelude.{IsSome}
use Rattle.omega_net.specs.Queues.{head}
use Rattle.omega_net.specs.Ports.{queue_at}
use Rattle.flat_row.specs.Row.{Network, level_at}
use Rattle.flat_row.proofs.Siding.{level_is, served_only, served_in}
use Rattle.flat_row.proofs.side.Side.serve.Goals as goal

pub index_mut-level-requires : goal.index_mut-level-requires
index_mut-level-requires c =
    let many = ap (λ (n : Network). length n.requests) c.self.view_is in
    let there : c.k.result + 1 < length c.self.inside.requests.items = omega (arith, many, c.requires.levels.many, c.k.ensures.value) in
    let at : c.k.result + 1 ≡ suc c.args.shape = omega (arith, c.k.ensures.value) in
    omega (arith, there)

pub serve-requires-clause-some : goal.serve-requires-clause-some
serve-requires-clause-some c = λ m small has_it.
    let many = ap (λ (n : Network). length n.requests) c.self.view_is in
    let there : c.k.result + 1 < length c.self.inside.requests.items = omega (arith, many, c.requires.levels.many, c.k.ensures.value) in
    let at : c.k.result + 1 ≡ suc c.args.shape = omega (arith, c.k.ensures.value) in
    let found = level_is c.self.inside.requests.items (c.k.result + 1) c.index_mut-level.result.now c.index_mut-level.result.now there c.index_mut-level.ensures.value in
    let was = ap (λ (n : Network). level_at n.requests (c.k.result + 1)) c.self.view_is ∙ ap (level_at c.args.self.now.requests) at in
    subst (λ v. IsSome (head (queue_at v.queues m))) (sym (found ∙ was)) (c.requires.some m small has_it)

pub serve-requires-clause-there : goal.serve-requires-clause-there
serve-requires-clause-there c =
    let many = ap (λ (n : Network). length n.requests) c.self.view_is in
    let there : c.k.result + 1 < length c.self.inside.requests.items = omega (arith, many, c.requires.levels.many, c.k.ensures.value) in
    let at : c.k.result + 1 ≡ suc c.args.shape = omega (arith, c.k.ensures.value) in
    let found = level_is c.self.inside.requests.items (c.k.result + 1) c.index_mut-level.result.now c.index_mut-level.result.now there c.index_mut-level.ensures.value in
    let was = ap (λ (n : Network). level_at n.requests (c.k.result + 1)) c.self.view_is ∙ ap (level_at c.args.self.now.requests) at in
    let wide : length c.index_mut-level.result.now.queues ≡ _ = ap (λ v. length v.queues) (found ∙ was) ∙ c.requires.levels.each (suc c.args.shape) (omega arith) in
    omega (arith, wide, c.requires.there)

pub returns-clause-only : goal.returns-clause-only
returns-clause-only c =
    let many = ap (λ (n : Network). length n.requests) c.self.view_is in
    let there : c.k.result + 1 < length c.self.inside.requests.items = omega (arith, many, c.requires.levels.many, c.k.ensures.value) in
    let at : c.k.result + 1 ≡ suc c.args.shape = omega (arith, c.k.ensures.value) in
    served_only c.args.self.now c.self.inside.requests.items c.self.inside.replies.items c.self.inside.turns c.self.inside.back_turns c.self.view_is c.args.shape (c.k.result + 1) c.index_mut-level.result.now c.serve.new.level at there c.index_mut-level.ensures.value c.serve.ensures.shape

pub returns-clause-many : goal.returns-clause-many
returns-clause-many c = c.serve.ensures.many

pub returns-clause-served : goal.returns-clause-served
returns-clause-served c =
    let many = ap (λ (n : Network). length n.requests) c.self.view_is in
    let there : c.k.result + 1 < length c.self.inside.requests.items = omega (arith, many, c.requires.levels.many, c.k.ensures.value) in
    let at : c.k.result + 1 ≡ suc c.args.shape = omega (arith, c.k.ensures.value) in
    on_ok_weaker c.serve.result (λ done. served_in c.args.self.now c.self.inside.requests.items c.self.inside.replies.items c.self.inside.turns c.self.inside.back_turns c.self.view_is c.args.shape (c.k.result + 1) c.args.modules c.index_mut-level.result.now c.serve.new.level c.args.words.now.items c.serve.new.words.items c.serve.new.answers at there c.index_mut-level.ensures.value done) c.serve.ensures.served
