use Rattle.std.proofs.Common.{◌≡◌, length, rules, arith}
use Rattle.monitor_sums.specs.Limits.{profile_lengths}
use Rattle.monitor_sums.proofs.Standing.{stands_profile, none_past, profile_seen}
use Rattle.monitor_sums.proofs.sums.Sums.profile.Goals as goal

pub returns-clause-whole : goal.returns-clause-whole
returns-clause-whole c = λ at stands.
    let i = c.self.inside in
    let size : length c.profile_at.result ≡ profile_lengths = search rules in
    stands_profile c.args.self.now at c.args.net c.args.stage c.args.self.now.last c.profile_at.result stands (none_past c.args.self.now.k c.args.self.now.last at) (omega arith) size
    (profile_seen c.args.self.now i.shape i.last i.cells.items i.own.items i.all.items i.profiles.items c.args.net c.args.stage c.place_of.result c.profile_at.result c.self.view_is c.self.invariant c.requires c.place_of.ensures c.profile_at.ensures)

pub returns-clause-up_to : goal.returns-clause-up_to
returns-clause-up_to c = λ at h stands none within.
    let i = c.self.inside in
    let size : length c.profile_at.result ≡ profile_lengths = search rules in
    stands_profile c.args.self.now at c.args.net c.args.stage h c.profile_at.result stands none within size
    (profile_seen c.args.self.now i.shape i.last i.cells.items i.own.items i.all.items i.profiles.items c.args.net c.args.stage c.place_of.result c.profile_at.result c.self.view_is c.self.invariant c.requires c.place_of.ensures c.profile_at.ensures)
