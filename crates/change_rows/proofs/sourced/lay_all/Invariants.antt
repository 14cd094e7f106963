use Rattle.std.proofs.Common.{◌≡◌, ◌<◌, ◌≤◌, ◌-◌, true}
use Rattle.change_rows.specs.Marks.{is_in}
use Rattle.change_rows.specs.Laid.{IsTold}
use Rattle.change_rows.specs.Kinds.{HasRoom, IsRowLaid, AreHeads}
use Rattle.change_rows.proofs.sourced.lay_all.Given as goal

abbrev pub invariant-loop-c : goal.invariant-loop-c
invariant-loop-c g l = record {
  laid : IsRowLaid l.s.rows.items l.s.seam l.s.at l.k.moved.items l.laid (g.S.Source.words l.source) l.c l.row;
  heads : AreHeads l.k.moved.items (g.S.Source.words l.source) l.c l.initial.n.heads.items l.n.heads.items;
  told : IsTold l.s.rows.items l.s.seam l.s.at l.s.at l.k.moved.items (g.S.Source.words l.source) l.c l.n.other.items;
  room : HasRoom l.s.width l.n;
  apart : l.n.apart.items ≡ l.initial.n.apart.items;
  known : l.n.known.items ≡ l.initial.n.known.items;
  within : l.c ≤ l.s.width;
  member : l.c < l.s.width → is_in l.laid l.c ≡ true;
}

abbrev pub decreases-loop-c : goal.decreases-loop-c
decreases-loop-c g l = l.s.width - l.c
