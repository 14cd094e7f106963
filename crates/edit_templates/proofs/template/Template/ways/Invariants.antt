use Rattle.std.proofs.Common.{◌≡◌, ◌*◌, ◌-◌, ◌^◌, ◌≤◌, drop}
use Rattle.std.specs.Prelude.{min}
use Rattle.edit_templates.specs.Templates.{ways}
use Rattle.edit_templates.proofs.template.Template.ways.Given as goal

abbrev pub invariant-loop-brace : goal.invariant-loop-brace
invariant-loop-brace l = record {
  capped : l.ways ≤ 2 ^ 64 - 1;
  left : min (l.ways * ways (drop l.brace-index l.self.1)) (2 ^ 64 - 1) ≡ min (ways l.self.1) (2 ^ 64 - 1);
}
