use Rattle.std.proofs.Common.{◌≡◌, ◌≤◌, ◌-◌, ◌*◌, ◌++◌, All, length}
use Rattle.project_book.specs.Scripts.{IsEntry}
use Rattle.drawn_scripts.specs.Draws.{next_offered, script_drawn}
use Rattle.drawn_scripts.proofs.draw.Draw.script.Given as goal

abbrev pub invariant-offered : goal.invariant-offered
invariant-offered l =
    record {
      count : length l.entries.items ≤ 2 * l.nth;
      entries : All IsEntry l.entries.items;
      drawn : l.entries.items ++ next_offered l.self.mix l.self.rate (l.self.references - l.nth) l.generator l.offers ≡ script_drawn l.self l.proc;
    }
