use Rattle.std.proofs.Common.{◌≡◌, map}
use Rattle.toml.specs.View.{members_view}
use Rattle.project_file.specs.Fields.{known}
use Rattle.project_file.proofs.fields.refuse_others.Given as goal

abbrev pub invariant-members : goal.invariant-members
invariant-members l =
    (goal.iterator-members).can_next l.key-iterator × (goal.iterator-members).is_finite l.key-iterator
    × (known (map (λ k. k.now) l.keys) (members_view l.key-iterator) ≡ known (map (λ k. k.now) l.keys) (members_view l.table.entries))
