use Rattle.std.proofs.Common.{◌≡◌, ◌-◌, ◌++◌, All, length}
use Rattle.project_book.specs.Scripts.{IsEntry}
use Rattle.drawn_scripts.specs.Draws.{next_references}
use Rattle.drawn_scripts.proofs.mix.references.Given as goal

abbrev pub invariant-drawn : goal.invariant-drawn
invariant-drawn l =
    record {
      count : length l.entries.items ≡ l.nth;
      entries : All IsEntry l.entries.items;
      drawn : l.entries.items ++ next_references l.mix (l.count - l.nth) l.generator ≡ next_references l.mix l.count l.fn.generator;
    }
