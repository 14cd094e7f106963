use Rattle.std.proofs.Common.{◌∙◌, ap, take, drop, ◌++◌, ◌∷◌, ◌+◌}
use Rattle.std.proofs.lemmas.List.{get_or_default}
use Rattle.change_lists.specs.declared.begun.Begun.{Begun}
use Rattle.change_lists.proofs.Places.{set_at}
use Rattle.change_lists.proofs.change_list.begin_later.Goals as goal

pub returns : goal.returns
returns g c = λ d.
    let xs = c.args.begun.now.items in
    set_at xs c.args.i _ c.requires
    ∙ ap (λ (b : Begun g.row.V.Denot). take c.args.i xs ++ (record { from = c.args.from; value = b.value }) ∷ drop (c.args.i + 1) xs) (c.index_mut.ensures.value ∙ get_or_default xs c.args.i _ d c.requires)
