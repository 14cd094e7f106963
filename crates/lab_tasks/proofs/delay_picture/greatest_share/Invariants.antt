use Rattle.std.proofs.Common.{◌≡◌, take}
use Rattle.lab_tasks.specs.DelayPictures.{greatest_share}
use Rattle.lab_tasks.proofs.delay_picture.greatest_share.Given as goal

abbrev pub invariant-loop-share : goal.invariant-loop-share
invariant-loop-share l = l.most ≡ greatest_share (take l.share-index l.shares)
