use Rattle.std.proofs.Common.{◌≡◌, ◌∙◌, [], refl, ap}
use Rattle.std.specs.Prelude.{List, ℕ, Option, Some, None, option_map, unwrap_or}
use Rattle.std.specs.Option.{option_map_or}
use Rattle.std.proofs.lemmas.Result.{IfOk-weaker}
use Rattle.clap.specs.Matches.{matched_of, raw_values}
use Rattle.clap.specs.Words.{found_of}
use Rattle.clap.proofs.WalkLemmas.{raw_values-rows}
use Rattle.lab_tasks.proofs.words.all_of.Goals as goal

map_or : {A B : Type 0} (f : A → B) (o : Option A) (d : B) → option_map_or f o d ≡ unwrap_or (option_map f o) d
map_or f None d = refl
map_or f (Some x) d = refl

pub returns : goal.returns
returns c =
    let f = found_of c.args.matches.now in
    let same = map_or raw_values (matched_of f c.args.id.now) [] ∙ ap (λ (o : Option (List (List ℕ))). unwrap_or o []) (raw_values-rows f c.args.id.now) in
    IfOk-weaker c.held.result _ _ (λ v h. h ∙ same) c.held.ensures
