use Rattle.std.proofs.Common.{◌≡◌, ◌<◌, ◌≤◌, ◌-◌, true}
use Rattle.change_rows.specs.Marks.{is_in}
use Rattle.change_rows.specs.Laid.{IsTold}
use Rattle.change_rows.specs.Kinds.{HasRoom, IsNoted}
use Rattle.change_rows.proofs.sourced.ask_all.Given as goal

abbrev pub invariant-loop-c : goal.invariant-loop-c
invariant-loop-c g l = record {
  told : IsTold l.s.rows.items l.s.seam l.s.at l.s.at l.asked (g.S.Source.words l.source) l.c l.n.other.items;
  room : HasRoom l.s.width l.n;
  noted : IsNoted l.s.rows.items l.s.seam l.s.at l.s.width l.n;
  row : l.row ≡ l.initial.row;
  within : l.c ≤ l.s.width;
  member : l.c < l.s.width → is_in l.asked l.c ≡ true;
}

abbrev pub decreases-loop-c : goal.decreases-loop-c
decreases-loop-c g l = l.s.width - l.c
