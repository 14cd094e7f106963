use Rattle.std.proofs.Common.{◌≡◌, ◌∷◌, ◌∙◌, sym, ap, map, rules, Vec, Global}
use Rattle.lab_tasks.specs.declared.swept.Setting.{Setting}
use Rattle.lab_tasks.specs.Sweeps.{rows_of, settings_of}
use Rattle.lab_tasks.proofs.Rows.{rows_by}
use Rattle.lab_tasks.proofs.sweep.+all_rows.Goals as goal

pub returns : goal.returns
returns t c =
    let parts : c.args.all.now ≡ c.in-Some.first.now ∷ c.in-Some.others.now = search rules in
    let same : c.as_slice.result.now ≡ c.in_ok-below.below.items = search rules in
    c.in_ok-rows.ensures
    ∙ rows_by (λ (row : Vec Setting Global). row.items) (settings_of c.in-Some.first.now) c.as_slice.result.now (rows_of c.in-Some.others.now)
    (ap (map (λ (row : Vec Setting Global). row.items)) same ∙ c.in_ok-below.ensures)
    ∙ sym (ap rows_of parts)
