use Rattle.project_file.proofs.Counts.{all_below_most}
use Rattle.project_file.proofs.traffic.add.Goals as goal

pub each_given-requires : goal.each_given-requires
each_given-requires c = all_below_most c.args.k c.in_ok-procs.procs.items c.deref.result.now c.requires.small c.deref.ensures.value c.in_ok-procs.ensures.within
