use Rattle.std.proofs.Common.{◌<◌, ◌∙◌, ap, sym, length, arith, refl, Some, []}
use Rattle.std.proofs.Math.ListN.{length-set}
use Rattle.std.proofs.lemmas.List.{get_or_default}
use Rattle.mem_module.specs.MemModule.{words_after, answer_to}
use Rattle.flat_row.proofs.Ending.{none_wrote, none_within, one_wrote, one_within, none_served, some_served, within_now, within_words, one_served, all_served, level_twice, changed_same}
use Rattle.flat_row.proofs.serving.serve.Goals as goal

pub loop-m-init : goal.loop-m-init
loop-m-init c = record { within = omega arith; partly = none_served c.args.modules c.args.level.now c.args.words.now.items _ c.told-answers; wrote = none_wrote c.args.words.now.items; among = λ m small. none_within c.args.modules m small }

pub take-request-requires-clause-there : goal.take-request-requires-clause-there
take-request-requires-clause-there c = within_now c.args.modules c.args.level.now c.args.words.now.items c.loop-m.next c.loop-m.level c.loop-m.words.items c.loop-m.answers c.loop-m.invariant.partly c.in-Some.m c.in-Some.ensures.there.1 c.in-Some.ensures.there.0 c.in-Some.ensures.passed c.in-Some.ensures.there.2 c.requires.some

pub take-request-requires-clause-some : goal.take-request-requires-clause-some
take-request-requires-clause-some c = some_served c.args.modules c.args.level.now c.args.words.now.items c.loop-m.next c.loop-m.level c.loop-m.words.items c.loop-m.answers c.loop-m.invariant.partly c.in-Some.m c.in-Some.ensures.there.1 c.in-Some.ensures.there.0 c.in-Some.ensures.passed c.in-Some.ensures.there.2 c.requires.some

pub index_mut-stored-requires : goal.index_mut-stored-requires
index_mut-stored-requires c = let there : c.in-Some.m < length c.loop-m.words.items = within_words c.args.modules c.args.level.now c.args.words.now.items c.loop-m.next c.loop-m.level c.loop-m.words.items c.loop-m.answers c.loop-m.invariant.partly c.in-Some.m c.in-Some.ensures.there.1 c.in-Some.ensures.there.0 c.in-Some.ensures.passed c.in-Some.ensures.there.2 c.requires.some c.requires.there in omega (arith, there)

pub loop-m-smaller : goal.loop-m-smaller
loop-m-smaller c = omega (arith, c.in-Some.ensures.there.0, c.in-Some.ensures.there.1)

pub loop-m-preserved : goal.loop-m-preserved
loop-m-preserved c =
    let there = within_now c.args.modules c.args.level.now c.args.words.now.items c.loop-m.next c.loop-m.level c.loop-m.words.items c.loop-m.answers c.loop-m.invariant.partly c.in-Some.m c.in-Some.ensures.there.1 c.in-Some.ensures.there.0 c.in-Some.ensures.passed c.in-Some.ensures.there.2 c.requires.some in
    let place = within_words c.args.modules c.args.level.now c.args.words.now.items c.loop-m.next c.loop-m.level c.loop-m.words.items c.loop-m.answers c.loop-m.invariant.partly c.in-Some.m c.in-Some.ensures.there.1 c.in-Some.ensures.there.0 c.in-Some.ensures.passed c.in-Some.ensures.there.2 c.requires.some c.requires.there in
    let stored = c.index_mut-stored.ensures.value ∙ get_or_default c.loop-m.words.items c.in-Some.m _ [] place in
    record {
      within = omega (arith, c.in-Some.ensures.there.1);
      partly = one_served c.args.modules c.args.level.now c.args.words.now.items c.loop-m.next c.loop-m.level c.loop-m.words.items c.loop-m.answers c.loop-m.invariant.partly c.in-Some.m c.in-Some.ensures.there.1 c.in-Some.ensures.there.0 c.in-Some.ensures.passed c.in-Some.ensures.there.2 c.take-request.new.self _ _ c.take-request.result c.serve_request.new.words c.in_ok-reply.reply
          there place c.take-request.ensures.value c.take-request.ensures.after
          (c.in_ok-reply.ensures.words ∙ ap (λ v. words_after v (Some c.take-request.result)) stored) refl
          (c.in_ok-reply.ensures.answer ∙ ap (λ v. answer_to v (Some c.take-request.result)) stored) refl;
      wrote = one_wrote c.args.modules c.args.level.now c.args.words.now.items c.loop-m.next c.loop-m.level c.loop-m.words.items c.loop-m.answers c.loop-m.invariant.partly c.in-Some.m c.in-Some.ensures.there.1 c.in-Some.ensures.there.0 c.in-Some.ensures.passed c.in-Some.ensures.there.2
          c.loop-m.wrote c.with_mark-wrote.result _ c.serve_request.new.words c.in_ok-reply.writes place refl (λ same. c.in_ok-reply.ensures.same same ∙ stored) (λ told alike. c.in_ok-reply.ensures.other told (alike ∙ sym stored)) c.with_mark-wrote.ensures c.loop-m.invariant.wrote;
      among = one_within c.args.modules c.args.level.now c.args.words.now.items c.loop-m.next c.loop-m.level c.loop-m.words.items c.loop-m.answers c.loop-m.invariant.partly c.in-Some.m c.in-Some.ensures.there.1 c.in-Some.ensures.there.0 c.in-Some.ensures.passed c.in-Some.ensures.there.2
          c.loop-m.wrote c.with_mark-wrote.result _ c.serve_request.new.words c.in_ok-reply.writes place refl (λ same. c.in_ok-reply.ensures.same same ∙ stored) (λ told alike. c.in_ok-reply.ensures.other told (alike ∙ sym stored)) c.with_mark-wrote.ensures c.loop-m.invariant.among;
    }

pub returns-clause-shape : goal.returns-clause-shape
returns-clause-shape c = c.loop-m.invariant.partly.same

pub returns-clause-many : goal.returns-clause-many
returns-clause-many c = c.loop-m.invariant.partly.many

pub returns-clause-served : goal.returns-clause-served
returns-clause-served c = all_served c.args.modules c.args.level.now c.args.words.now.items c.loop-m.next c.loop-m.level c.loop-m.words.items c.loop-m.answers c.loop-m.invariant.partly c.in_default.ensures.passed

pub returns-in_err-reply-clause-shape : goal.returns-in_err-reply-clause-shape
returns-in_err-reply-clause-shape c = level_twice c.args.level.now c.loop-m.level c.take-request.new.self c.loop-m.invariant.partly.same (changed_same c.loop-m.level c.take-request.new.self c.in-Some.m _ c.take-request.ensures.after)

pub returns-in_err-reply-clause-many : goal.returns-in_err-reply-clause-many
returns-in_err-reply-clause-many c = length-set c.loop-m.words.items c.in-Some.m c.serve_request.new.words ∙ c.loop-m.invariant.partly.many
