use Rattle.std.proofs.Common.{◌∙◌, ap, sym, subst, Some}
use Rattle.std.specs.Prelude.{◌||◌}
use Rattle.omega_net.specs.declared.component.Net.TheVariants.{Low as LowNet, Comb as CombNet}
use Rattle.machine_cells.specs.Cycle.{cycle}
use Rattle.flat_row.specs.Masks.{has}
use Rattle.flat_row.specs.Row.{Arrays, IsRowOf, module_of, state_of, states_of}
use Rattle.flat_row.specs.Changed.{AreTouched}
use Rattle.flat_row.specs.Step.{Serves, IsPlan}
use Rattle.flat_row.proofs.Stepped.{need_low, need_comb, need_words, low_wide, comb_wide_of, serve_apart, has_buffers, low_there, serving_is_row, serving_is_of, depart_low, depart_comb, comes_low, comes_comb, comb_requests_of, comb_replies_of, act_procs, act_low, act_comb, act_one, act_others, back_low, back_comb, back_low_levels, back_comb_levels, back_buffers, new_is_row, new_is_of, new_states, outside, memory, still}
use Rattle.flat_row.proofs.row.Row.move_on.Goals as goal

pub serve_both-requires-clause-low : goal.serve_both-requires-clause-low
serve_both-requires-clause-low c =
    record {
      levels = c.self.invariant.low.requests;
      some = need_low c.args.project.now c.is_project.ensures.project (record { k = c.self.inside.shape; low = c.self.inside.low; comb = c.self.inside.comb; buffers = c.self.inside.waits.items; procs = c.self.inside.procs.items; words = c.self.inside.words.items; module_turns = c.self.inside.module_turns; served = c.self.inside.served; rests = c.self.inside.rests }) c.self.invariant (subst (λ (r : Arrays). IsRowOf c.args.project.now r) (sym c.self.view_is) c.requires) c.serving-served.result c.plan-low.result c.plan-comb.result (subst (λ (r : Arrays). Serves c.args.project.now r c.serving-served.result.low c.serving-served.result.comb c.serving-served.result.turn) (sym c.self.view_is) c.serving-served.ensures) (subst (λ (r : Arrays). IsPlan c.args.project.now r LowNet c.plan-low.result) (sym c.self.view_is) c.plan-low.ensures) (subst (λ (r : Arrays). IsPlan c.args.project.now r CombNet c.plan-comb.result) (sym c.self.view_is) c.plan-comb.ensures);
      there = need_words c.args.project.now c.is_project.ensures.project (record { k = c.self.inside.shape; low = c.self.inside.low; comb = c.self.inside.comb; buffers = c.self.inside.waits.items; procs = c.self.inside.procs.items; words = c.self.inside.words.items; module_turns = c.self.inside.module_turns; served = c.self.inside.served; rests = c.self.inside.rests }) c.self.invariant (subst (λ (r : Arrays). IsRowOf c.args.project.now r) (sym c.self.view_is) c.requires) c.serving-served.result c.plan-low.result c.plan-comb.result (subst (λ (r : Arrays). Serves c.args.project.now r c.serving-served.result.low c.serving-served.result.comb c.serving-served.result.turn) (sym c.self.view_is) c.serving-served.ensures) (subst (λ (r : Arrays). IsPlan c.args.project.now r LowNet c.plan-low.result) (sym c.self.view_is) c.plan-low.ensures) (subst (λ (r : Arrays). IsPlan c.args.project.now r CombNet c.plan-comb.result) (sym c.self.view_is) c.plan-comb.ensures);
    }

pub serve_both-requires-clause-comb : goal.serve_both-requires-clause-comb
serve_both-requires-clause-comb c =
    record {
      levels = c.self.invariant.comb.requests;
      some = need_comb c.args.project.now c.is_project.ensures.project (record { k = c.self.inside.shape; low = c.self.inside.low; comb = c.self.inside.comb; buffers = c.self.inside.waits.items; procs = c.self.inside.procs.items; words = c.self.inside.words.items; module_turns = c.self.inside.module_turns; served = c.self.inside.served; rests = c.self.inside.rests }) c.self.invariant (subst (λ (r : Arrays). IsRowOf c.args.project.now r) (sym c.self.view_is) c.requires) c.serving-served.result c.plan-low.result c.plan-comb.result (subst (λ (r : Arrays). Serves c.args.project.now r c.serving-served.result.low c.serving-served.result.comb c.serving-served.result.turn) (sym c.self.view_is) c.serving-served.ensures) (subst (λ (r : Arrays). IsPlan c.args.project.now r LowNet c.plan-low.result) (sym c.self.view_is) c.plan-low.ensures) (subst (λ (r : Arrays). IsPlan c.args.project.now r CombNet c.plan-comb.result) (sym c.self.view_is) c.plan-comb.ensures);
      there = need_words c.args.project.now c.is_project.ensures.project (record { k = c.self.inside.shape; low = c.self.inside.low; comb = c.self.inside.comb; buffers = c.self.inside.waits.items; procs = c.self.inside.procs.items; words = c.self.inside.words.items; module_turns = c.self.inside.module_turns; served = c.self.inside.served; rests = c.self.inside.rests }) c.self.invariant (subst (λ (r : Arrays). IsRowOf c.args.project.now r) (sym c.self.view_is) c.requires) c.serving-served.result c.plan-low.result c.plan-comb.result (subst (λ (r : Arrays). Serves c.args.project.now r c.serving-served.result.low c.serving-served.result.comb c.serving-served.result.turn) (sym c.self.view_is) c.serving-served.ensures) (subst (λ (r : Arrays). IsPlan c.args.project.now r LowNet c.plan-low.result) (sym c.self.view_is) c.plan-low.ensures) (subst (λ (r : Arrays). IsPlan c.args.project.now r CombNet c.plan-comb.result) (sym c.self.view_is) c.plan-comb.ensures);
    }

pub serve_both-requires-clause-apart : goal.serve_both-requires-clause-apart
serve_both-requires-clause-apart c = serve_apart c.args.project.now c.is_project.ensures.project (record { k = c.self.inside.shape; low = c.self.inside.low; comb = c.self.inside.comb; buffers = c.self.inside.waits.items; procs = c.self.inside.procs.items; words = c.self.inside.words.items; module_turns = c.self.inside.module_turns; served = c.self.inside.served; rests = c.self.inside.rests }) c.self.invariant (subst (λ (r : Arrays). IsRowOf c.args.project.now r) (sym c.self.view_is) c.requires) c.serving-served.result c.plan-low.result c.plan-comb.result (subst (λ (r : Arrays). Serves c.args.project.now r c.serving-served.result.low c.serving-served.result.comb c.serving-served.result.turn) (sym c.self.view_is) c.serving-served.ensures) (subst (λ (r : Arrays). IsPlan c.args.project.now r LowNet c.plan-low.result) (sym c.self.view_is) c.plan-low.ensures) (subst (λ (r : Arrays). IsPlan c.args.project.now r CombNet c.plan-comb.result) (sym c.self.view_is) c.plan-comb.ensures)

pub invariant_of-self : goal.invariant_of-self
invariant_of-self c = serving_is_row c.args.project.now c.is_project.ensures.project (record { k = c.self.inside.shape; low = c.self.inside.low; comb = c.self.inside.comb; buffers = c.self.inside.waits.items; procs = c.self.inside.procs.items; words = c.self.inside.words.items; module_turns = c.self.inside.module_turns; served = c.self.inside.served; rests = c.self.inside.rests }) c.self.invariant (subst (λ (r : Arrays). IsRowOf c.args.project.now r) (sym c.self.view_is) c.requires) c.serving-served.result c.plan-low.result c.plan-comb.result (subst (λ (r : Arrays). Serves c.args.project.now r c.serving-served.result.low c.serving-served.result.comb c.serving-served.result.turn) (sym c.self.view_is) c.serving-served.ensures) (subst (λ (r : Arrays). IsPlan c.args.project.now r LowNet c.plan-low.result) (sym c.self.view_is) c.plan-low.ensures) (subst (λ (r : Arrays). IsPlan c.args.project.now r CombNet c.plan-comb.result) (sym c.self.view_is) c.plan-comb.ensures) c.serve_both.new.low c.serve_both.new.comb c.serve_both.new.words.items c.in_err-wrote.ensures.low c.in_err-wrote.ensures.comb c.in_err-wrote.ensures.many

pub returns-in_err-wrote-clause-of : goal.returns-in_err-wrote-clause-of
returns-in_err-wrote-clause-of c = serving_is_of c.args.project.now c.is_project.ensures.project (record { k = c.self.inside.shape; low = c.self.inside.low; comb = c.self.inside.comb; buffers = c.self.inside.waits.items; procs = c.self.inside.procs.items; words = c.self.inside.words.items; module_turns = c.self.inside.module_turns; served = c.self.inside.served; rests = c.self.inside.rests }) c.self.invariant (subst (λ (r : Arrays). IsRowOf c.args.project.now r) (sym c.self.view_is) c.requires) c.serving-served.result c.plan-low.result c.plan-comb.result (subst (λ (r : Arrays). Serves c.args.project.now r c.serving-served.result.low c.serving-served.result.comb c.serving-served.result.turn) (sym c.self.view_is) c.serving-served.ensures) (subst (λ (r : Arrays). IsPlan c.args.project.now r LowNet c.plan-low.result) (sym c.self.view_is) c.plan-low.ensures) (subst (λ (r : Arrays). IsPlan c.args.project.now r CombNet c.plan-comb.result) (sym c.self.view_is) c.plan-comb.ensures) c.serve_both.new.low c.serve_both.new.comb c.serve_both.new.words.items c.in_err-wrote.ensures.low c.in_err-wrote.ensures.comb c.in_err-wrote.ensures.many

pub depart-requires-clause-requests : goal.depart-requires-clause-requests
depart-requires-clause-requests c = (low_there c.args.project.now c.is_project.ensures.project (record { k = c.self.inside.shape; low = c.self.inside.low; comb = c.self.inside.comb; buffers = c.self.inside.waits.items; procs = c.self.inside.procs.items; words = c.self.inside.words.items; module_turns = c.self.inside.module_turns; served = c.self.inside.served; rests = c.self.inside.rests }) c.self.invariant (subst (λ (r : Arrays). IsRowOf c.args.project.now r) (sym c.self.view_is) c.requires) c.serving-served.result c.plan-low.result c.plan-comb.result (subst (λ (r : Arrays). Serves c.args.project.now r c.serving-served.result.low c.serving-served.result.comb c.serving-served.result.turn) (sym c.self.view_is) c.serving-served.ensures) (subst (λ (r : Arrays). IsPlan c.args.project.now r LowNet c.plan-low.result) (sym c.self.view_is) c.plan-low.ensures) (subst (λ (r : Arrays). IsPlan c.args.project.now r CombNet c.plan-comb.result) (sym c.self.view_is) c.plan-comb.ensures) c.serve_both.new.low c.serve_both.new.comb c.serve_both.new.words.items c.in_ok-wrote.ensures.low c.in_ok-wrote.ensures.comb c.in_ok-wrote.ensures.many).requests

pub depart-requires-clause-replies : goal.depart-requires-clause-replies
depart-requires-clause-replies c = (low_there c.args.project.now c.is_project.ensures.project (record { k = c.self.inside.shape; low = c.self.inside.low; comb = c.self.inside.comb; buffers = c.self.inside.waits.items; procs = c.self.inside.procs.items; words = c.self.inside.words.items; module_turns = c.self.inside.module_turns; served = c.self.inside.served; rests = c.self.inside.rests }) c.self.invariant (subst (λ (r : Arrays). IsRowOf c.args.project.now r) (sym c.self.view_is) c.requires) c.serving-served.result c.plan-low.result c.plan-comb.result (subst (λ (r : Arrays). Serves c.args.project.now r c.serving-served.result.low c.serving-served.result.comb c.serving-served.result.turn) (sym c.self.view_is) c.serving-served.ensures) (subst (λ (r : Arrays). IsPlan c.args.project.now r LowNet c.plan-low.result) (sym c.self.view_is) c.plan-low.ensures) (subst (λ (r : Arrays). IsPlan c.args.project.now r CombNet c.plan-comb.result) (sym c.self.view_is) c.plan-comb.ensures) c.serve_both.new.low c.serve_both.new.comb c.serve_both.new.words.items c.in_ok-wrote.ensures.low c.in_ok-wrote.ensures.comb c.in_ok-wrote.ensures.many).replies

pub depart-requires-clause-some : goal.depart-requires-clause-some
depart-requires-clause-some c = depart_low c.args.project.now c.is_project.ensures.project (record { k = c.self.inside.shape; low = c.self.inside.low; comb = c.self.inside.comb; buffers = c.self.inside.waits.items; procs = c.self.inside.procs.items; words = c.self.inside.words.items; module_turns = c.self.inside.module_turns; served = c.self.inside.served; rests = c.self.inside.rests }) c.self.invariant (subst (λ (r : Arrays). IsRowOf c.args.project.now r) (sym c.self.view_is) c.requires) c.serving-served.result c.plan-low.result c.plan-comb.result (subst (λ (r : Arrays). Serves c.args.project.now r c.serving-served.result.low c.serving-served.result.comb c.serving-served.result.turn) (sym c.self.view_is) c.serving-served.ensures) (subst (λ (r : Arrays). IsPlan c.args.project.now r LowNet c.plan-low.result) (sym c.self.view_is) c.plan-low.ensures) (subst (λ (r : Arrays). IsPlan c.args.project.now r CombNet c.plan-comb.result) (sym c.self.view_is) c.plan-comb.ensures) c.serve_both.new.low c.serve_both.new.comb c.serve_both.new.words.items c.in_ok-wrote.ensures.low c.in_ok-wrote.ensures.comb c.in_ok-wrote.ensures.many

pub depart-requires-clause-comes : goal.depart-requires-clause-comes
depart-requires-clause-comes c = comes_low c.args.project.now c.is_project.ensures.project (record { k = c.self.inside.shape; low = c.self.inside.low; comb = c.self.inside.comb; buffers = c.self.inside.waits.items; procs = c.self.inside.procs.items; words = c.self.inside.words.items; module_turns = c.self.inside.module_turns; served = c.self.inside.served; rests = c.self.inside.rests }) c.self.invariant (subst (λ (r : Arrays). IsRowOf c.args.project.now r) (sym c.self.view_is) c.requires) c.serving-served.result c.plan-low.result c.plan-comb.result (subst (λ (r : Arrays). Serves c.args.project.now r c.serving-served.result.low c.serving-served.result.comb c.serving-served.result.turn) (sym c.self.view_is) c.serving-served.ensures) (subst (λ (r : Arrays). IsPlan c.args.project.now r LowNet c.plan-low.result) (sym c.self.view_is) c.plan-low.ensures) (subst (λ (r : Arrays). IsPlan c.args.project.now r CombNet c.plan-comb.result) (sym c.self.view_is) c.plan-comb.ensures) c.serve_both.new.low c.serve_both.new.comb c.serve_both.new.words.items c.in_ok-wrote.ensures.low c.in_ok-wrote.ensures.comb c.in_ok-wrote.ensures.many

pub combs_depart-requires-clause-requests : goal.combs_depart-requires-clause-requests
combs_depart-requires-clause-requests c = comb_requests_of c.args.project.now c.is_project.ensures.project (record { k = c.self.inside.shape; low = c.self.inside.low; comb = c.self.inside.comb; buffers = c.self.inside.waits.items; procs = c.self.inside.procs.items; words = c.self.inside.words.items; module_turns = c.self.inside.module_turns; served = c.self.inside.served; rests = c.self.inside.rests }) c.self.invariant (subst (λ (r : Arrays). IsRowOf c.args.project.now r) (sym c.self.view_is) c.requires) c.serving-served.result c.plan-low.result c.plan-comb.result (subst (λ (r : Arrays). Serves c.args.project.now r c.serving-served.result.low c.serving-served.result.comb c.serving-served.result.turn) (sym c.self.view_is) c.serving-served.ensures) (subst (λ (r : Arrays). IsPlan c.args.project.now r LowNet c.plan-low.result) (sym c.self.view_is) c.plan-low.ensures) (subst (λ (r : Arrays). IsPlan c.args.project.now r CombNet c.plan-comb.result) (sym c.self.view_is) c.plan-comb.ensures) c.serve_both.new.low c.serve_both.new.comb c.serve_both.new.words.items c.in_ok-wrote.ensures.low c.in_ok-wrote.ensures.comb c.in_ok-wrote.ensures.many

pub combs_depart-requires-clause-replies : goal.combs_depart-requires-clause-replies
combs_depart-requires-clause-replies c = comb_replies_of c.args.project.now c.is_project.ensures.project (record { k = c.self.inside.shape; low = c.self.inside.low; comb = c.self.inside.comb; buffers = c.self.inside.waits.items; procs = c.self.inside.procs.items; words = c.self.inside.words.items; module_turns = c.self.inside.module_turns; served = c.self.inside.served; rests = c.self.inside.rests }) c.self.invariant (subst (λ (r : Arrays). IsRowOf c.args.project.now r) (sym c.self.view_is) c.requires) c.serving-served.result c.plan-low.result c.plan-comb.result (subst (λ (r : Arrays). Serves c.args.project.now r c.serving-served.result.low c.serving-served.result.comb c.serving-served.result.turn) (sym c.self.view_is) c.serving-served.ensures) (subst (λ (r : Arrays). IsPlan c.args.project.now r LowNet c.plan-low.result) (sym c.self.view_is) c.plan-low.ensures) (subst (λ (r : Arrays). IsPlan c.args.project.now r CombNet c.plan-comb.result) (sym c.self.view_is) c.plan-comb.ensures) c.serve_both.new.low c.serve_both.new.comb c.serve_both.new.words.items c.in_ok-wrote.ensures.low c.in_ok-wrote.ensures.comb c.in_ok-wrote.ensures.many

pub combs_depart-requires-clause-buffers : goal.combs_depart-requires-clause-buffers
combs_depart-requires-clause-buffers c = has_buffers c.args.project.now c.is_project.ensures.project (record { k = c.self.inside.shape; low = c.self.inside.low; comb = c.self.inside.comb; buffers = c.self.inside.waits.items; procs = c.self.inside.procs.items; words = c.self.inside.words.items; module_turns = c.self.inside.module_turns; served = c.self.inside.served; rests = c.self.inside.rests }) c.self.invariant (subst (λ (r : Arrays). IsRowOf c.args.project.now r) (sym c.self.view_is) c.requires) c.serving-served.result c.plan-low.result c.plan-comb.result (subst (λ (r : Arrays). Serves c.args.project.now r c.serving-served.result.low c.serving-served.result.comb c.serving-served.result.turn) (sym c.self.view_is) c.serving-served.ensures) (subst (λ (r : Arrays). IsPlan c.args.project.now r LowNet c.plan-low.result) (sym c.self.view_is) c.plan-low.ensures) (subst (λ (r : Arrays). IsPlan c.args.project.now r CombNet c.plan-comb.result) (sym c.self.view_is) c.plan-comb.ensures)

pub combs_depart-requires-clause-some : goal.combs_depart-requires-clause-some
combs_depart-requires-clause-some c = depart_comb c.args.project.now c.is_project.ensures.project (record { k = c.self.inside.shape; low = c.self.inside.low; comb = c.self.inside.comb; buffers = c.self.inside.waits.items; procs = c.self.inside.procs.items; words = c.self.inside.words.items; module_turns = c.self.inside.module_turns; served = c.self.inside.served; rests = c.self.inside.rests }) c.self.invariant (subst (λ (r : Arrays). IsRowOf c.args.project.now r) (sym c.self.view_is) c.requires) c.serving-served.result c.plan-low.result c.plan-comb.result (subst (λ (r : Arrays). Serves c.args.project.now r c.serving-served.result.low c.serving-served.result.comb c.serving-served.result.turn) (sym c.self.view_is) c.serving-served.ensures) (subst (λ (r : Arrays). IsPlan c.args.project.now r LowNet c.plan-low.result) (sym c.self.view_is) c.plan-low.ensures) (subst (λ (r : Arrays). IsPlan c.args.project.now r CombNet c.plan-comb.result) (sym c.self.view_is) c.plan-comb.ensures) c.serve_both.new.low c.serve_both.new.comb c.serve_both.new.words.items c.in_ok-wrote.ensures.low c.in_ok-wrote.ensures.comb c.in_ok-wrote.ensures.many

pub combs_depart-requires-clause-comes : goal.combs_depart-requires-clause-comes
combs_depart-requires-clause-comes c = comes_comb c.args.project.now c.is_project.ensures.project (record { k = c.self.inside.shape; low = c.self.inside.low; comb = c.self.inside.comb; buffers = c.self.inside.waits.items; procs = c.self.inside.procs.items; words = c.self.inside.words.items; module_turns = c.self.inside.module_turns; served = c.self.inside.served; rests = c.self.inside.rests }) c.self.invariant (subst (λ (r : Arrays). IsRowOf c.args.project.now r) (sym c.self.view_is) c.requires) c.serving-served.result c.plan-low.result c.plan-comb.result (subst (λ (r : Arrays). Serves c.args.project.now r c.serving-served.result.low c.serving-served.result.comb c.serving-served.result.turn) (sym c.self.view_is) c.serving-served.ensures) (subst (λ (r : Arrays). IsPlan c.args.project.now r LowNet c.plan-low.result) (sym c.self.view_is) c.plan-low.ensures) (subst (λ (r : Arrays). IsPlan c.args.project.now r CombNet c.plan-comb.result) (sym c.self.view_is) c.plan-comb.ensures) c.serve_both.new.low c.serve_both.new.comb c.serve_both.new.words.items c.in_ok-wrote.ensures.low c.in_ok-wrote.ensures.comb c.in_ok-wrote.ensures.many

pub act_on-rests-requires-clause-procs : goal.act_on-rests-requires-clause-procs
act_on-rests-requires-clause-procs c = act_procs c.args.project.now c.is_project.ensures.project (record { k = c.self.inside.shape; low = c.self.inside.low; comb = c.self.inside.comb; buffers = c.self.inside.waits.items; procs = c.self.inside.procs.items; words = c.self.inside.words.items; module_turns = c.self.inside.module_turns; served = c.self.inside.served; rests = c.self.inside.rests }) c.self.invariant (subst (λ (r : Arrays). IsRowOf c.args.project.now r) (sym c.self.view_is) c.requires) c.serving-served.result c.plan-low.result c.plan-comb.result (subst (λ (r : Arrays). Serves c.args.project.now r c.serving-served.result.low c.serving-served.result.comb c.serving-served.result.turn) (sym c.self.view_is) c.serving-served.ensures) (subst (λ (r : Arrays). IsPlan c.args.project.now r LowNet c.plan-low.result) (sym c.self.view_is) c.plan-low.ensures) (subst (λ (r : Arrays). IsPlan c.args.project.now r CombNet c.plan-comb.result) (sym c.self.view_is) c.plan-comb.ensures) c.serve_both.new.low c.serve_both.new.comb c.serve_both.new.words.items c.in_ok-wrote.ensures.low c.in_ok-wrote.ensures.comb c.in_ok-wrote.ensures.many c.depart.new.self c.combs_depart.new.self c.combs_depart.new.waits.items c.depart.new.got c.combs_depart.new.got c.depart.ensures.departed c.combs_depart.ensures.departed c.depart.ensures.queues c.combs_depart.ensures.crossed

pub act_on-rests-requires-clause-low : goal.act_on-rests-requires-clause-low
act_on-rests-requires-clause-low c = act_low c.args.project.now c.is_project.ensures.project (record { k = c.self.inside.shape; low = c.self.inside.low; comb = c.self.inside.comb; buffers = c.self.inside.waits.items; procs = c.self.inside.procs.items; words = c.self.inside.words.items; module_turns = c.self.inside.module_turns; served = c.self.inside.served; rests = c.self.inside.rests }) c.self.invariant (subst (λ (r : Arrays). IsRowOf c.args.project.now r) (sym c.self.view_is) c.requires) c.serving-served.result c.plan-low.result c.plan-comb.result (subst (λ (r : Arrays). Serves c.args.project.now r c.serving-served.result.low c.serving-served.result.comb c.serving-served.result.turn) (sym c.self.view_is) c.serving-served.ensures) (subst (λ (r : Arrays). IsPlan c.args.project.now r LowNet c.plan-low.result) (sym c.self.view_is) c.plan-low.ensures) (subst (λ (r : Arrays). IsPlan c.args.project.now r CombNet c.plan-comb.result) (sym c.self.view_is) c.plan-comb.ensures) c.serve_both.new.low c.serve_both.new.comb c.serve_both.new.words.items c.in_ok-wrote.ensures.low c.in_ok-wrote.ensures.comb c.in_ok-wrote.ensures.many c.depart.new.self c.combs_depart.new.self c.combs_depart.new.waits.items c.depart.new.got c.combs_depart.new.got c.depart.ensures.departed c.combs_depart.ensures.departed c.depart.ensures.queues c.combs_depart.ensures.crossed

pub act_on-rests-requires-clause-comb : goal.act_on-rests-requires-clause-comb
act_on-rests-requires-clause-comb c = act_comb c.args.project.now c.is_project.ensures.project (record { k = c.self.inside.shape; low = c.self.inside.low; comb = c.self.inside.comb; buffers = c.self.inside.waits.items; procs = c.self.inside.procs.items; words = c.self.inside.words.items; module_turns = c.self.inside.module_turns; served = c.self.inside.served; rests = c.self.inside.rests }) c.self.invariant (subst (λ (r : Arrays). IsRowOf c.args.project.now r) (sym c.self.view_is) c.requires) c.serving-served.result c.plan-low.result c.plan-comb.result (subst (λ (r : Arrays). Serves c.args.project.now r c.serving-served.result.low c.serving-served.result.comb c.serving-served.result.turn) (sym c.self.view_is) c.serving-served.ensures) (subst (λ (r : Arrays). IsPlan c.args.project.now r LowNet c.plan-low.result) (sym c.self.view_is) c.plan-low.ensures) (subst (λ (r : Arrays). IsPlan c.args.project.now r CombNet c.plan-comb.result) (sym c.self.view_is) c.plan-comb.ensures) c.serve_both.new.low c.serve_both.new.comb c.serve_both.new.words.items c.in_ok-wrote.ensures.low c.in_ok-wrote.ensures.comb c.in_ok-wrote.ensures.many c.depart.new.self c.combs_depart.new.self c.combs_depart.new.waits.items c.depart.new.got c.combs_depart.new.got c.depart.ensures.departed c.combs_depart.ensures.departed c.depart.ensures.queues c.combs_depart.ensures.crossed

pub act_on-rests-requires-clause-one : goal.act_on-rests-requires-clause-one
act_on-rests-requires-clause-one c = act_one c.args.project.now c.is_project.ensures.project (record { k = c.self.inside.shape; low = c.self.inside.low; comb = c.self.inside.comb; buffers = c.self.inside.waits.items; procs = c.self.inside.procs.items; words = c.self.inside.words.items; module_turns = c.self.inside.module_turns; served = c.self.inside.served; rests = c.self.inside.rests }) c.self.invariant (subst (λ (r : Arrays). IsRowOf c.args.project.now r) (sym c.self.view_is) c.requires) c.serving-served.result c.plan-low.result c.plan-comb.result (subst (λ (r : Arrays). Serves c.args.project.now r c.serving-served.result.low c.serving-served.result.comb c.serving-served.result.turn) (sym c.self.view_is) c.serving-served.ensures) (subst (λ (r : Arrays). IsPlan c.args.project.now r LowNet c.plan-low.result) (sym c.self.view_is) c.plan-low.ensures) (subst (λ (r : Arrays). IsPlan c.args.project.now r CombNet c.plan-comb.result) (sym c.self.view_is) c.plan-comb.ensures) c.serve_both.new.low c.serve_both.new.comb c.serve_both.new.words.items c.in_ok-wrote.ensures.low c.in_ok-wrote.ensures.comb c.in_ok-wrote.ensures.many c.depart.new.self c.combs_depart.new.self c.combs_depart.new.waits.items c.depart.new.got c.combs_depart.new.got c.depart.ensures.departed c.combs_depart.ensures.departed c.depart.ensures.queues c.combs_depart.ensures.crossed

pub act_on-rests-requires-clause-others : goal.act_on-rests-requires-clause-others
act_on-rests-requires-clause-others c = act_others c.args.project.now c.is_project.ensures.project (record { k = c.self.inside.shape; low = c.self.inside.low; comb = c.self.inside.comb; buffers = c.self.inside.waits.items; procs = c.self.inside.procs.items; words = c.self.inside.words.items; module_turns = c.self.inside.module_turns; served = c.self.inside.served; rests = c.self.inside.rests }) c.self.invariant (subst (λ (r : Arrays). IsRowOf c.args.project.now r) (sym c.self.view_is) c.requires) c.serving-served.result c.plan-low.result c.plan-comb.result (subst (λ (r : Arrays). Serves c.args.project.now r c.serving-served.result.low c.serving-served.result.comb c.serving-served.result.turn) (sym c.self.view_is) c.serving-served.ensures) (subst (λ (r : Arrays). IsPlan c.args.project.now r LowNet c.plan-low.result) (sym c.self.view_is) c.plan-low.ensures) (subst (λ (r : Arrays). IsPlan c.args.project.now r CombNet c.plan-comb.result) (sym c.self.view_is) c.plan-comb.ensures) c.serve_both.new.low c.serve_both.new.comb c.serve_both.new.words.items c.in_ok-wrote.ensures.low c.in_ok-wrote.ensures.comb c.in_ok-wrote.ensures.many c.depart.new.self c.combs_depart.new.self c.combs_depart.new.waits.items c.depart.new.got c.combs_depart.new.got c.depart.ensures.departed c.combs_depart.ensures.departed c.depart.ensures.queues c.combs_depart.ensures.crossed c.active-active.result c.depart.ensures.set c.combs_depart.ensures.set c.active-active.ensures.rests c.active-active.ensures.low c.active-active.ensures.comb c.active-active.ensures.low_leave c.active-active.ensures.comb_leave

pub come_back-requires-clause-replies : goal.come_back-requires-clause-replies
come_back-requires-clause-replies c = back_low_levels c.args.project.now c.is_project.ensures.project (record { k = c.self.inside.shape; low = c.self.inside.low; comb = c.self.inside.comb; buffers = c.self.inside.waits.items; procs = c.self.inside.procs.items; words = c.self.inside.words.items; module_turns = c.self.inside.module_turns; served = c.self.inside.served; rests = c.self.inside.rests }) c.self.invariant (subst (λ (r : Arrays). IsRowOf c.args.project.now r) (sym c.self.view_is) c.requires) c.serving-served.result c.plan-low.result c.plan-comb.result (subst (λ (r : Arrays). Serves c.args.project.now r c.serving-served.result.low c.serving-served.result.comb c.serving-served.result.turn) (sym c.self.view_is) c.serving-served.ensures) (subst (λ (r : Arrays). IsPlan c.args.project.now r LowNet c.plan-low.result) (sym c.self.view_is) c.plan-low.ensures) (subst (λ (r : Arrays). IsPlan c.args.project.now r CombNet c.plan-comb.result) (sym c.self.view_is) c.plan-comb.ensures) c.serve_both.new.low c.serve_both.new.comb c.serve_both.new.words.items c.in_ok-wrote.ensures.low c.in_ok-wrote.ensures.comb c.in_ok-wrote.ensures.many c.depart.new.self c.combs_depart.new.self c.combs_depart.new.waits.items c.depart.new.got c.combs_depart.new.got c.depart.ensures.departed c.combs_depart.ensures.departed c.depart.ensures.queues c.combs_depart.ensures.crossed c.act_on-rests.new.low c.act_on-rests.new.comb c.act_on-rests.new.procs.items c.act_on-rests.result c.act_on-rests.ensures

pub come_back-requires-clause-some : goal.come_back-requires-clause-some
come_back-requires-clause-some c = back_low c.args.project.now c.is_project.ensures.project (record { k = c.self.inside.shape; low = c.self.inside.low; comb = c.self.inside.comb; buffers = c.self.inside.waits.items; procs = c.self.inside.procs.items; words = c.self.inside.words.items; module_turns = c.self.inside.module_turns; served = c.self.inside.served; rests = c.self.inside.rests }) c.self.invariant (subst (λ (r : Arrays). IsRowOf c.args.project.now r) (sym c.self.view_is) c.requires) c.serving-served.result c.plan-low.result c.plan-comb.result (subst (λ (r : Arrays). Serves c.args.project.now r c.serving-served.result.low c.serving-served.result.comb c.serving-served.result.turn) (sym c.self.view_is) c.serving-served.ensures) (subst (λ (r : Arrays). IsPlan c.args.project.now r LowNet c.plan-low.result) (sym c.self.view_is) c.plan-low.ensures) (subst (λ (r : Arrays). IsPlan c.args.project.now r CombNet c.plan-comb.result) (sym c.self.view_is) c.plan-comb.ensures) c.serve_both.new.low c.serve_both.new.comb c.serve_both.new.words.items c.in_ok-wrote.ensures.low c.in_ok-wrote.ensures.comb c.in_ok-wrote.ensures.many c.depart.new.self c.combs_depart.new.self c.combs_depart.new.waits.items c.depart.new.got c.combs_depart.new.got c.depart.ensures.departed c.combs_depart.ensures.departed c.depart.ensures.queues c.combs_depart.ensures.crossed c.act_on-rests.new.low c.act_on-rests.new.comb c.act_on-rests.new.procs.items c.act_on-rests.result c.act_on-rests.ensures

pub come_back-requires-clause-wide : goal.come_back-requires-clause-wide
come_back-requires-clause-wide c = low_wide c.args.project.now c.is_project.ensures.project (record { k = c.self.inside.shape; low = c.self.inside.low; comb = c.self.inside.comb; buffers = c.self.inside.waits.items; procs = c.self.inside.procs.items; words = c.self.inside.words.items; module_turns = c.self.inside.module_turns; served = c.self.inside.served; rests = c.self.inside.rests }) c.self.invariant (subst (λ (r : Arrays). IsRowOf c.args.project.now r) (sym c.self.view_is) c.requires) c.serving-served.result c.plan-low.result c.plan-comb.result (subst (λ (r : Arrays). Serves c.args.project.now r c.serving-served.result.low c.serving-served.result.comb c.serving-served.result.turn) (sym c.self.view_is) c.serving-served.ensures) (subst (λ (r : Arrays). IsPlan c.args.project.now r LowNet c.plan-low.result) (sym c.self.view_is) c.plan-low.ensures) (subst (λ (r : Arrays). IsPlan c.args.project.now r CombNet c.plan-comb.result) (sym c.self.view_is) c.plan-comb.ensures)

pub combs_come_back-requires-clause-replies : goal.combs_come_back-requires-clause-replies
combs_come_back-requires-clause-replies c = back_comb_levels c.args.project.now c.is_project.ensures.project (record { k = c.self.inside.shape; low = c.self.inside.low; comb = c.self.inside.comb; buffers = c.self.inside.waits.items; procs = c.self.inside.procs.items; words = c.self.inside.words.items; module_turns = c.self.inside.module_turns; served = c.self.inside.served; rests = c.self.inside.rests }) c.self.invariant (subst (λ (r : Arrays). IsRowOf c.args.project.now r) (sym c.self.view_is) c.requires) c.serving-served.result c.plan-low.result c.plan-comb.result (subst (λ (r : Arrays). Serves c.args.project.now r c.serving-served.result.low c.serving-served.result.comb c.serving-served.result.turn) (sym c.self.view_is) c.serving-served.ensures) (subst (λ (r : Arrays). IsPlan c.args.project.now r LowNet c.plan-low.result) (sym c.self.view_is) c.plan-low.ensures) (subst (λ (r : Arrays). IsPlan c.args.project.now r CombNet c.plan-comb.result) (sym c.self.view_is) c.plan-comb.ensures) c.serve_both.new.low c.serve_both.new.comb c.serve_both.new.words.items c.in_ok-wrote.ensures.low c.in_ok-wrote.ensures.comb c.in_ok-wrote.ensures.many c.depart.new.self c.combs_depart.new.self c.combs_depart.new.waits.items c.depart.new.got c.combs_depart.new.got c.depart.ensures.departed c.combs_depart.ensures.departed c.depart.ensures.queues c.combs_depart.ensures.crossed c.act_on-rests.new.low c.act_on-rests.new.comb c.act_on-rests.new.procs.items c.act_on-rests.result c.act_on-rests.ensures

pub combs_come_back-requires-clause-buffers : goal.combs_come_back-requires-clause-buffers
combs_come_back-requires-clause-buffers c = back_buffers c.args.project.now c.is_project.ensures.project (record { k = c.self.inside.shape; low = c.self.inside.low; comb = c.self.inside.comb; buffers = c.self.inside.waits.items; procs = c.self.inside.procs.items; words = c.self.inside.words.items; module_turns = c.self.inside.module_turns; served = c.self.inside.served; rests = c.self.inside.rests }) c.self.invariant (subst (λ (r : Arrays). IsRowOf c.args.project.now r) (sym c.self.view_is) c.requires) c.serving-served.result c.plan-low.result c.plan-comb.result (subst (λ (r : Arrays). Serves c.args.project.now r c.serving-served.result.low c.serving-served.result.comb c.serving-served.result.turn) (sym c.self.view_is) c.serving-served.ensures) (subst (λ (r : Arrays). IsPlan c.args.project.now r LowNet c.plan-low.result) (sym c.self.view_is) c.plan-low.ensures) (subst (λ (r : Arrays). IsPlan c.args.project.now r CombNet c.plan-comb.result) (sym c.self.view_is) c.plan-comb.ensures) c.serve_both.new.low c.serve_both.new.comb c.serve_both.new.words.items c.in_ok-wrote.ensures.low c.in_ok-wrote.ensures.comb c.in_ok-wrote.ensures.many c.depart.new.self c.combs_depart.new.self c.combs_depart.new.waits.items c.depart.new.got c.combs_depart.new.got c.depart.ensures.departed c.combs_depart.ensures.departed c.depart.ensures.queues c.combs_depart.ensures.crossed c.act_on-rests.new.low c.act_on-rests.new.comb c.act_on-rests.new.procs.items c.act_on-rests.result c.act_on-rests.ensures

pub combs_come_back-requires-clause-some : goal.combs_come_back-requires-clause-some
combs_come_back-requires-clause-some c = back_comb c.args.project.now c.is_project.ensures.project (record { k = c.self.inside.shape; low = c.self.inside.low; comb = c.self.inside.comb; buffers = c.self.inside.waits.items; procs = c.self.inside.procs.items; words = c.self.inside.words.items; module_turns = c.self.inside.module_turns; served = c.self.inside.served; rests = c.self.inside.rests }) c.self.invariant (subst (λ (r : Arrays). IsRowOf c.args.project.now r) (sym c.self.view_is) c.requires) c.serving-served.result c.plan-low.result c.plan-comb.result (subst (λ (r : Arrays). Serves c.args.project.now r c.serving-served.result.low c.serving-served.result.comb c.serving-served.result.turn) (sym c.self.view_is) c.serving-served.ensures) (subst (λ (r : Arrays). IsPlan c.args.project.now r LowNet c.plan-low.result) (sym c.self.view_is) c.plan-low.ensures) (subst (λ (r : Arrays). IsPlan c.args.project.now r CombNet c.plan-comb.result) (sym c.self.view_is) c.plan-comb.ensures) c.serve_both.new.low c.serve_both.new.comb c.serve_both.new.words.items c.in_ok-wrote.ensures.low c.in_ok-wrote.ensures.comb c.in_ok-wrote.ensures.many c.depart.new.self c.combs_depart.new.self c.combs_depart.new.waits.items c.depart.new.got c.combs_depart.new.got c.depart.ensures.departed c.combs_depart.ensures.departed c.depart.ensures.queues c.combs_depart.ensures.crossed c.act_on-rests.new.low c.act_on-rests.new.comb c.act_on-rests.new.procs.items c.act_on-rests.result c.act_on-rests.ensures

pub combs_come_back-requires-clause-wide : goal.combs_come_back-requires-clause-wide
combs_come_back-requires-clause-wide c = comb_wide_of c.args.project.now c.is_project.ensures.project (record { k = c.self.inside.shape; low = c.self.inside.low; comb = c.self.inside.comb; buffers = c.self.inside.waits.items; procs = c.self.inside.procs.items; words = c.self.inside.words.items; module_turns = c.self.inside.module_turns; served = c.self.inside.served; rests = c.self.inside.rests }) c.self.invariant (subst (λ (r : Arrays). IsRowOf c.args.project.now r) (sym c.self.view_is) c.requires) c.serving-served.result c.plan-low.result c.plan-comb.result (subst (λ (r : Arrays). Serves c.args.project.now r c.serving-served.result.low c.serving-served.result.comb c.serving-served.result.turn) (sym c.self.view_is) c.serving-served.ensures) (subst (λ (r : Arrays). IsPlan c.args.project.now r LowNet c.plan-low.result) (sym c.self.view_is) c.plan-low.ensures) (subst (λ (r : Arrays). IsPlan c.args.project.now r CombNet c.plan-comb.result) (sym c.self.view_is) c.plan-comb.ensures)

pub invariant_of-self-2 : goal.invariant_of-self-2
invariant_of-self-2 c = new_is_row c.args.project.now c.is_project.ensures.project (record { k = c.self.inside.shape; low = c.self.inside.low; comb = c.self.inside.comb; buffers = c.self.inside.waits.items; procs = c.self.inside.procs.items; words = c.self.inside.words.items; module_turns = c.self.inside.module_turns; served = c.self.inside.served; rests = c.self.inside.rests }) c.self.invariant (subst (λ (r : Arrays). IsRowOf c.args.project.now r) (sym c.self.view_is) c.requires) c.serving-served.result c.plan-low.result c.plan-comb.result (subst (λ (r : Arrays). Serves c.args.project.now r c.serving-served.result.low c.serving-served.result.comb c.serving-served.result.turn) (sym c.self.view_is) c.serving-served.ensures) (subst (λ (r : Arrays). IsPlan c.args.project.now r LowNet c.plan-low.result) (sym c.self.view_is) c.plan-low.ensures) (subst (λ (r : Arrays). IsPlan c.args.project.now r CombNet c.plan-comb.result) (sym c.self.view_is) c.plan-comb.ensures) c.serve_both.new.low c.serve_both.new.comb c.serve_both.new.words.items c.in_ok-wrote.ensures.low c.in_ok-wrote.ensures.comb c.in_ok-wrote.ensures.many c.depart.new.self c.combs_depart.new.self c.combs_depart.new.waits.items c.depart.new.got c.combs_depart.new.got c.depart.ensures.departed c.combs_depart.ensures.departed c.depart.ensures.queues c.combs_depart.ensures.crossed c.act_on-rests.new.low c.act_on-rests.new.comb c.act_on-rests.new.procs.items c.act_on-rests.result c.act_on-rests.ensures c.serve_both.new.low_answers c.serve_both.new.comb_answers c.in_ok-wrote.ensures.both c.come_back.new.self c.combs_come_back.new.self c.combs_come_back.new.waits.items c.come_back.ensures.returned c.come_back.ensures.queues c.combs_come_back.ensures.returned c.combs_come_back.ensures.crossed c.plan-low.ensures.long c.plan-low.ensures.back_long c.plan-comb.ensures.long c.plan-comb.ensures.back_long

pub returns-clause-states : goal.returns-clause-states
returns-clause-states c = new_states c.args.project.now c.is_project.ensures.project (record { k = c.self.inside.shape; low = c.self.inside.low; comb = c.self.inside.comb; buffers = c.self.inside.waits.items; procs = c.self.inside.procs.items; words = c.self.inside.words.items; module_turns = c.self.inside.module_turns; served = c.self.inside.served; rests = c.self.inside.rests }) c.self.invariant (subst (λ (r : Arrays). IsRowOf c.args.project.now r) (sym c.self.view_is) c.requires) c.serving-served.result c.plan-low.result c.plan-comb.result (subst (λ (r : Arrays). Serves c.args.project.now r c.serving-served.result.low c.serving-served.result.comb c.serving-served.result.turn) (sym c.self.view_is) c.serving-served.ensures) (subst (λ (r : Arrays). IsPlan c.args.project.now r LowNet c.plan-low.result) (sym c.self.view_is) c.plan-low.ensures) (subst (λ (r : Arrays). IsPlan c.args.project.now r CombNet c.plan-comb.result) (sym c.self.view_is) c.plan-comb.ensures) c.serve_both.new.low c.serve_both.new.comb c.serve_both.new.words.items c.in_ok-wrote.ensures.low c.in_ok-wrote.ensures.comb c.in_ok-wrote.ensures.many c.depart.new.self c.combs_depart.new.self c.combs_depart.new.waits.items c.depart.new.got c.combs_depart.new.got c.depart.ensures.departed c.combs_depart.ensures.departed c.depart.ensures.queues c.combs_depart.ensures.crossed c.act_on-rests.new.low c.act_on-rests.new.comb c.act_on-rests.new.procs.items c.act_on-rests.result c.act_on-rests.ensures c.serve_both.new.low_answers c.serve_both.new.comb_answers c.in_ok-wrote.ensures.both c.come_back.new.self c.combs_come_back.new.self c.combs_come_back.new.waits.items c.come_back.ensures.returned c.come_back.ensures.queues c.combs_come_back.ensures.returned c.combs_come_back.ensures.crossed c.plan-low.ensures.long c.plan-low.ensures.back_long c.plan-comb.ensures.long c.plan-comb.ensures.back_long ∙ ap (λ (r : Arrays). cycle c.args.project.now (states_of r)) c.self.view_is

pub returns-clause-of : goal.returns-clause-of
returns-clause-of c = new_is_of c.args.project.now c.is_project.ensures.project (record { k = c.self.inside.shape; low = c.self.inside.low; comb = c.self.inside.comb; buffers = c.self.inside.waits.items; procs = c.self.inside.procs.items; words = c.self.inside.words.items; module_turns = c.self.inside.module_turns; served = c.self.inside.served; rests = c.self.inside.rests }) c.self.invariant (subst (λ (r : Arrays). IsRowOf c.args.project.now r) (sym c.self.view_is) c.requires) c.serving-served.result c.plan-low.result c.plan-comb.result (subst (λ (r : Arrays). Serves c.args.project.now r c.serving-served.result.low c.serving-served.result.comb c.serving-served.result.turn) (sym c.self.view_is) c.serving-served.ensures) (subst (λ (r : Arrays). IsPlan c.args.project.now r LowNet c.plan-low.result) (sym c.self.view_is) c.plan-low.ensures) (subst (λ (r : Arrays). IsPlan c.args.project.now r CombNet c.plan-comb.result) (sym c.self.view_is) c.plan-comb.ensures) c.serve_both.new.low c.serve_both.new.comb c.serve_both.new.words.items c.in_ok-wrote.ensures.low c.in_ok-wrote.ensures.comb c.in_ok-wrote.ensures.many c.depart.new.self c.combs_depart.new.self c.combs_depart.new.waits.items c.depart.new.got c.combs_depart.new.got c.depart.ensures.departed c.combs_depart.ensures.departed c.depart.ensures.queues c.combs_depart.ensures.crossed c.act_on-rests.new.low c.act_on-rests.new.comb c.act_on-rests.new.procs.items c.act_on-rests.result c.act_on-rests.ensures c.serve_both.new.low_answers c.serve_both.new.comb_answers c.in_ok-wrote.ensures.both c.come_back.new.self c.combs_come_back.new.self c.combs_come_back.new.waits.items c.come_back.ensures.returned c.come_back.ensures.queues c.combs_come_back.ensures.returned c.combs_come_back.ensures.crossed c.plan-low.ensures.long c.plan-low.ensures.back_long c.plan-comb.ensures.long c.plan-comb.ensures.back_long

pub returns-clause-outside : goal.returns-clause-outside
returns-clause-outside c = λ x h out. outside c.args.project.now c.is_project.ensures.project (record { k = c.self.inside.shape; low = c.self.inside.low; comb = c.self.inside.comb; buffers = c.self.inside.waits.items; procs = c.self.inside.procs.items; words = c.self.inside.words.items; module_turns = c.self.inside.module_turns; served = c.self.inside.served; rests = c.self.inside.rests }) c.self.invariant (subst (λ (r : Arrays). IsRowOf c.args.project.now r) (sym c.self.view_is) c.requires) c.serving-served.result c.plan-low.result c.plan-comb.result (subst (λ (r : Arrays). Serves c.args.project.now r c.serving-served.result.low c.serving-served.result.comb c.serving-served.result.turn) (sym c.self.view_is) c.serving-served.ensures) (subst (λ (r : Arrays). IsPlan c.args.project.now r LowNet c.plan-low.result) (sym c.self.view_is) c.plan-low.ensures) (subst (λ (r : Arrays). IsPlan c.args.project.now r CombNet c.plan-comb.result) (sym c.self.view_is) c.plan-comb.ensures) c.serve_both.new.low c.serve_both.new.comb c.serve_both.new.words.items c.in_ok-wrote.ensures.low c.in_ok-wrote.ensures.comb c.in_ok-wrote.ensures.many c.depart.new.self c.combs_depart.new.self c.combs_depart.new.waits.items c.depart.new.got c.combs_depart.new.got c.depart.ensures.departed c.combs_depart.ensures.departed c.depart.ensures.queues c.combs_depart.ensures.crossed c.act_on-rests.new.low c.act_on-rests.new.comb c.act_on-rests.new.procs.items c.act_on-rests.result c.act_on-rests.ensures c.serve_both.new.low_answers c.serve_both.new.comb_answers c.in_ok-wrote.ensures.both c.come_back.new.self c.combs_come_back.new.self c.combs_come_back.new.waits.items c.come_back.ensures.returned c.come_back.ensures.queues c.combs_come_back.ensures.returned c.combs_come_back.ensures.crossed c.plan-low.ensures.long c.plan-low.ensures.back_long c.plan-comb.ensures.long c.plan-comb.ensures.back_long c.touched-touched.result (subst (λ (r : Arrays). AreTouched r.k r c.serving-served.result c.plan-low.result c.plan-comb.result c.touched-touched.result) (sym c.self.view_is) c.touched-touched.ensures) c.either.result c.in_ok-wrote.wrote (λ p small. c.either.ensures p small ∙ ap (λ t. t || has c.touched-touched.result.procs p) (c.not_in.ensures p small)) x h out ∙ ap (λ (r : Arrays). state_of r (Some x)) c.self.view_is

pub returns-clause-wrote : goal.returns-clause-wrote
returns-clause-wrote c =
    let told = memory c.args.project.now c.is_project.ensures.project (record { k = c.self.inside.shape; low = c.self.inside.low; comb = c.self.inside.comb; buffers = c.self.inside.waits.items; procs = c.self.inside.procs.items; words = c.self.inside.words.items; module_turns = c.self.inside.module_turns; served = c.self.inside.served; rests = c.self.inside.rests }) c.self.invariant (subst (λ (r : Arrays). IsRowOf c.args.project.now r) (sym c.self.view_is) c.requires) c.serving-served.result c.plan-low.result c.plan-comb.result (subst (λ (r : Arrays). Serves c.args.project.now r c.serving-served.result.low c.serving-served.result.comb c.serving-served.result.turn) (sym c.self.view_is) c.serving-served.ensures) (subst (λ (r : Arrays). IsPlan c.args.project.now r LowNet c.plan-low.result) (sym c.self.view_is) c.plan-low.ensures) (subst (λ (r : Arrays). IsPlan c.args.project.now r CombNet c.plan-comb.result) (sym c.self.view_is) c.plan-comb.ensures) c.serve_both.new.low c.serve_both.new.comb c.serve_both.new.words.items c.in_ok-wrote.ensures.low c.in_ok-wrote.ensures.comb c.in_ok-wrote.ensures.many c.depart.new.self c.combs_depart.new.self c.combs_depart.new.waits.items c.depart.new.got c.combs_depart.new.got c.depart.ensures.departed c.combs_depart.ensures.departed c.depart.ensures.queues c.combs_depart.ensures.crossed c.act_on-rests.new.low c.act_on-rests.new.comb c.act_on-rests.new.procs.items c.act_on-rests.result c.act_on-rests.ensures c.serve_both.new.low_answers c.serve_both.new.comb_answers c.in_ok-wrote.ensures.both c.come_back.new.self c.combs_come_back.new.self c.combs_come_back.new.waits.items c.come_back.ensures.returned c.come_back.ensures.queues c.combs_come_back.ensures.returned c.combs_come_back.ensures.crossed c.plan-low.ensures.long c.plan-low.ensures.back_long c.plan-comb.ensures.long c.plan-comb.ensures.back_long c.touched-touched.result (subst (λ (r : Arrays). AreTouched r.k r c.serving-served.result c.plan-low.result c.plan-comb.result c.touched-touched.result) (sym c.self.view_is) c.touched-touched.ensures) c.either.result c.in_ok-wrote.wrote (λ p small. c.either.ensures p small ∙ ap (λ t. t || has c.touched-touched.result.procs p) (c.not_in.ensures p small)) c.in_ok-wrote.ensures.wrote in
    record {
      same = λ m within out. told.same m within out ∙ ap (λ (r : Arrays). (module_of r m).words) c.self.view_is;
      other = λ m within has_it alike. told.other m within has_it (alike ∙ sym (ap (λ (r : Arrays). (module_of r m).words) c.self.view_is));
    }

pub returns-clause-still : goal.returns-clause-still
returns-clause-still c = λ e. still c.args.project.now c.is_project.ensures.project (record { k = c.self.inside.shape; low = c.self.inside.low; comb = c.self.inside.comb; buffers = c.self.inside.waits.items; procs = c.self.inside.procs.items; words = c.self.inside.words.items; module_turns = c.self.inside.module_turns; served = c.self.inside.served; rests = c.self.inside.rests }) c.self.invariant (subst (λ (r : Arrays). IsRowOf c.args.project.now r) (sym c.self.view_is) c.requires) c.serving-served.result c.plan-low.result c.plan-comb.result (subst (λ (r : Arrays). Serves c.args.project.now r c.serving-served.result.low c.serving-served.result.comb c.serving-served.result.turn) (sym c.self.view_is) c.serving-served.ensures) (subst (λ (r : Arrays). IsPlan c.args.project.now r LowNet c.plan-low.result) (sym c.self.view_is) c.plan-low.ensures) (subst (λ (r : Arrays). IsPlan c.args.project.now r CombNet c.plan-comb.result) (sym c.self.view_is) c.plan-comb.ensures) c.serve_both.new.low c.serve_both.new.comb c.serve_both.new.words.items c.in_ok-wrote.ensures.low c.in_ok-wrote.ensures.comb c.in_ok-wrote.ensures.many c.depart.new.self c.combs_depart.new.self c.combs_depart.new.waits.items c.depart.new.got c.combs_depart.new.got c.depart.ensures.departed c.combs_depart.ensures.departed c.depart.ensures.queues c.combs_depart.ensures.crossed c.act_on-rests.new.low c.act_on-rests.new.comb c.act_on-rests.new.procs.items c.act_on-rests.result c.act_on-rests.ensures c.serve_both.new.low_answers c.serve_both.new.comb_answers c.in_ok-wrote.ensures.both c.come_back.new.self c.combs_come_back.new.self c.combs_come_back.new.waits.items c.come_back.ensures.returned c.come_back.ensures.queues c.combs_come_back.ensures.returned c.combs_come_back.ensures.crossed c.plan-low.ensures.long c.plan-low.ensures.back_long c.plan-comb.ensures.long c.plan-comb.ensures.back_long c.touched-touched.result (subst (λ (r : Arrays). AreTouched r.k r c.serving-served.result c.plan-low.result c.plan-comb.result c.touched-touched.result) (sym c.self.view_is) c.touched-touched.ensures) c.either.result c.in_ok-wrote.wrote (λ p small. c.either.ensures p small ∙ ap (λ t. t || has c.touched-touched.result.procs p) (c.not_in.ensures p small)) e ∙ ap states_of c.self.view_is
