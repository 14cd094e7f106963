use Rattle.std.proofs.Common.{rules, ◌≡◌, ℕ, ◌+◌, ◌*◌, ◌<◌, ◌≤◌, ◌∙◌, ap, sym, subst, List, length, Some}
use Rattle.std.specs.Prelude.{slice_index}
use Rattle.omega_net.specs.declared.component.Component.TheVariants.{Switch}
use Rattle.omega_net.specs.Numbers.{component_of}
use Rattle.monitor_sums.specs.Sums.{of_length, in_profile}
use Rattle.monitor_sums.specs.Whole.{profile_place, profile_at}
use Rattle.monitor_sums.proofs.Profiles.{same_lengths, in_its_stage, read_at}
use Rattle.monitor_sums.proofs.profile.move_lengths.Goals as goal

pub returns-then-eq-clause-moved : goal.returns-then-eq-clause-moved
returns-then-eq-clause-moved c = λ net stage n in_net short.
    let same : c.args.old ≡ c.args.new = same_lengths c.args.old c.args.new (sym c.eq.ensures ∙ c.if-eq.true) in
    ap (λ ls. slice_index (profile_at c.args.shape c.args.profiles.now.items net stage) n + in_profile c.args.shape net stage n c.args.component ls * c.args.cells) same

pub move_in-requires-clause-held : goal.move_in-requires-clause-held
move_in-requires-clause-held c = λ n short.
    let i = c.in-Some-Switch in
    let place : c.place_of-place.result ≡ profile_place c.args.shape i.net i.stage = c.place_of-place.ensures ∙ ap (profile_place c.args.shape i.net) c.from.ensures in
    let in_net : i.stage < c.args.shape = search rules in
    let there : c.place_of-place.result < length c.args.profiles.now.items = search rules in
    let read : c.index_mut.result.now ≡ profile_at c.args.shape c.args.profiles.now.items i.net i.stage =
    read_at c.args.shape c.args.profiles.now.items i.net i.stage c.place_of-place.result c.index_mut.result.now place there c.index_mut.ensures.value in
    let at : Some (Switch i.net i.stage i.field-0-2) ≡ component_of c.args.shape c.args.component = search rules in
    let it_is : in_profile c.args.shape i.net i.stage n c.args.component c.args.old ≡ of_length n c.args.old =
    in_its_stage c.args.shape i.net i.stage i.field-0-2 n c.args.component c.args.old at in
    let held : in_profile c.args.shape i.net i.stage n c.args.component c.args.old * c.args.cells ≤ slice_index (profile_at c.args.shape c.args.profiles.now.items i.net i.stage) n =
    c.requires.held i.net i.stage n in_net short in
    subst (λ (ns : List ℕ). of_length n c.args.old * c.args.cells ≤ slice_index ns n) (sym read) (subst (λ m. m * c.args.cells ≤ slice_index (profile_at c.args.shape c.args.profiles.now.items i.net i.stage) n) it_is held)

pub move_in-requires-clause-room : goal.move_in-requires-clause-room
move_in-requires-clause-room c = λ n short.
    let i = c.in-Some-Switch in
    let place : c.place_of-place.result ≡ profile_place c.args.shape i.net i.stage = c.place_of-place.ensures ∙ ap (profile_place c.args.shape i.net) c.from.ensures in
    let in_net : i.stage < c.args.shape = search rules in
    let there : c.place_of-place.result < length c.args.profiles.now.items = search rules in
    let read : c.index_mut.result.now ≡ profile_at c.args.shape c.args.profiles.now.items i.net i.stage =
    read_at c.args.shape c.args.profiles.now.items i.net i.stage c.place_of-place.result c.index_mut.result.now place there c.index_mut.ensures.value in
    subst (λ (ns : List ℕ). slice_index ns n < 4294967296) (sym read) (c.requires.room i.net i.stage n in_net short)
