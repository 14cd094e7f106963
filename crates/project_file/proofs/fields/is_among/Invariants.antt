use Rattle.std.proofs.Common.{◌≡◌, map, drop}
use Rattle.std.specs.Prelude.{bytes_eq}
use Rattle.std.specs.List.{list_any}
use Rattle.project_file.proofs.fields.is_among.Given as goal

abbrev pub invariant-keys : goal.invariant-keys
invariant-keys l = list_any (bytes_eq l.key) (map (λ k. k.now) (drop l.own-index l.keys)) ≡ list_any (bytes_eq l.key) (map (λ k. k.now) l.keys)
