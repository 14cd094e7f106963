use Rattle.std.proofs.Common.{◌≡◌, suc, ◌+◌, ◌++◌, ◌≤◌, ◌<◌, ◌∙◌, ap, subst, arith}
use Rattle.std.specs.Prelude.{OnOk, is_some, List}
use Rattle.omega_net.specs.declared.message.Request.{Request}
use Rattle.omega_net.specs.declared.message.Reply.{Reply}
use Rattle.omega_net.specs.Numbers.{lines}
use Rattle.omega_net.specs.Ports.{mark_at, message_at, queue_at, request_to}
use Rattle.omega_net.specs.Queues.{turn_after}
use Rattle.comb_switch.specs.declared.settings.CombSettings.{CombSettings}
use Rattle.comb_switch.specs.declared.state.CombState.{CombState}
use Rattle.comb_switch.specs.declared.waiting.Waiting.{Waiting}
use Rattle.comb_switch.specs.CombSwitch.{comb_after}
use Rattle.machine_cells.specs.declared.state.MachineState.TheVariants.{Comb}
use Rattle.machine_cells.specs.Cycle.{comb_settings}
use Rattle.machine_cells.specs.Words.{words_of}
use Rattle.state_words.specs.Words.{bytes}
use Rattle.flat_row.specs.Labels.{switch_label}
use Rattle.flat_row.specs.Queues.{Queues}
use Rattle.flat_row.specs.Row.{Arrays, Network, port_label, queue_of, comb_of, buffers_at, wait_of, combined_of}
use Rattle.flat_row.proofs.Aside.{comb_told, comb_ports, ports_apart, queue_left, turn_own, back_turn_own, comb_fits}
use Rattle.flat_row.proofs.Telling.{on_answer, turn_fits}
use Rattle.state_words.specs.Fits.{IsComb}
use Rattle.flat_row.proofs.row.Row.next_comb.Goals as goal

pub put_requests-requires-clause-apart : goal.put_requests-requires-clause-apart
put_requests-requires-clause-apart c =
    let P = c.args.project.now in
    let size : c.self.inside.shape ≡ P.k = ap (λ (r : Arrays). r.k) c.self.view_is ∙ c.requires.of.size in
    let few : P.k ≤ 6 = omega (arith, c.self.invariant.small, size) in
    let at = comb_ports P few c.args.stage c.args.index c.requires.stage c.requires.index c.comb_settings-settings.result.bit c.ports-x.result.0 c.ports-x.result.1
    (ap (λ (f : CombSettings). f.bit) c.comb_settings-settings.ensures)
    (c.ports-x.ensures.first ∙ ap (λ k. port_label k c.args.stage c.args.index 0) size) (c.ports-x.ensures.second ∙ ap (λ k. port_label k c.args.stage c.args.index 1) size) in
    ports_apart c.comb_settings-settings.result.bit c.ports-x.result.0 c.ports-x.result.1 at.1.1 c.ports-x.ensures.small.0 at.0.1 at.1.0

pub put_replies-requires-clause-apart : goal.put_replies-requires-clause-apart
put_replies-requires-clause-apart c =
    let P = c.args.project.now in
    let size : c.self.inside.shape ≡ P.k = ap (λ (r : Arrays). r.k) c.self.view_is ∙ c.requires.of.size in
    let few : P.k ≤ 6 = omega (arith, c.self.invariant.small, size) in
    let at = comb_ports P few c.args.stage c.args.index c.requires.stage c.requires.index c.comb_settings-settings.result.bit c.ports-x.result.0 c.ports-x.result.1
    (ap (λ (f : CombSettings). f.bit) c.comb_settings-settings.ensures)
    (c.ports-x.ensures.first ∙ ap (λ k. port_label k c.args.stage c.args.index 0) size) (c.ports-x.ensures.second ∙ ap (λ k. port_label k c.args.stage c.args.index 1) size) in
    ports_apart c.comb_settings-settings.result.bit c.ports-x.result.0 c.ports-x.result.1 at.1.1 c.ports-x.ensures.small.0 at.0.1 at.1.0

pub waiting_at-requires-clause-stage : goal.waiting_at-requires-clause-stage
waiting_at-requires-clause-stage c = omega (arith, c.requires.of.size, c.requires.stage)

pub waiting_at-requires-clause-label : goal.waiting_at-requires-clause-label
waiting_at-requires-clause-label c = subst (λ (r : Arrays). c.ports-x.result.0 < lines r.k) c.self.view_is c.ports-x.ensures.within.0

pub meet-requires-clause-port : goal.meet-requires-clause-port
meet-requires-clause-port c =
    let P = c.args.project.now in
    let size : c.self.inside.shape ≡ P.k = ap (λ (r : Arrays). r.k) c.self.view_is ∙ c.requires.of.size in
    let few : P.k ≤ 6 = omega (arith, c.self.invariant.small, size) in
    let at = comb_ports P few c.args.stage c.args.index c.requires.stage c.requires.index c.comb_settings-settings.result.bit c.ports-x.result.0 c.ports-x.result.1
    (ap (λ (f : CombSettings). f.bit) c.comb_settings-settings.ensures)
    (c.ports-x.ensures.first ∙ ap (λ k. port_label k c.args.stage c.args.index 0) size) (c.ports-x.ensures.second ∙ ap (λ k. port_label k c.args.stage c.args.index 1) size) in
    record {
      by = omega (arith, c.self.invariant.small, size, ap (λ (f : CombSettings). f.bit) c.comb_settings-settings.ensures, c.requires.stage);
      there = c.ports-x.ensures.small.0;
      first = at.1.0;
    }

pub split-requires : goal.split-requires
split-requires c =
    let P = c.args.project.now in
    let size : c.self.inside.shape ≡ P.k = ap (λ (r : Arrays). r.k) c.self.view_is ∙ c.requires.of.size in
    let few : P.k ≤ 6 = omega (arith, c.self.invariant.small, size) in
    let at = comb_ports P few c.args.stage c.args.index c.requires.stage c.requires.index c.comb_settings-settings.result.bit c.ports-x.result.0 c.ports-x.result.1
    (ap (λ (f : CombSettings). f.bit) c.comb_settings-settings.ensures)
    (c.ports-x.ensures.first ∙ ap (λ k. port_label k c.args.stage c.args.index 0) size) (c.ports-x.ensures.second ∙ ap (λ k. port_label k c.args.stage c.args.index 1) size) in
    record {
      by = omega (arith, c.self.invariant.small, size, ap (λ (f : CombSettings). f.bit) c.comb_settings-settings.ensures, c.requires.stage);
      there = c.ports-x.ensures.small.0;
      first = at.1.0;
    }

pub returns-clause-ok : goal.returns-clause-ok
returns-clause-ok c =
    let P = c.args.project.now in
    let R : Arrays = c.args.self.now in
    let s = c.args.stage in
    let j = c.args.index in
    let x = c.ports-x.result.0 in
    let y = c.ports-x.result.1 in
    let settings = c.comb_settings-settings.result in
    let t = c.switch_traffic-traffic.result in
    let N : Network = record { requests = c.side.inside.requests.items; replies = c.side.inside.replies.items; turns = c.side.inside.turns; back_turns = c.side.inside.back_turns } in
    let N_is : N ≡ R.comb = c.side.view_is ∙ c.side-side.ensures in
    let shape_is : c.self.inside.shape ≡ R.k = ap (λ (r : Arrays). r.k) c.self.view_is in
    let size : c.self.inside.shape ≡ P.k = shape_is ∙ c.requires.of.size in
    let few : P.k ≤ 6 = omega (arith, c.self.invariant.small, size) in
    let x_is : x ≡ port_label R.k s j 0 = c.ports-x.ensures.first ∙ ap (λ k. port_label k s j 0) shape_is in
    let y_is : y ≡ port_label R.k s j 1 = c.ports-x.ensures.second ∙ ap (λ k. port_label k s j 1) shape_is in
    let own_is : x ≡ switch_label R.k s j = c.ports-x.ensures.own ∙ ap (λ k. switch_label k s j) shape_is in
    let behind : s + 1 ≡ suc s = omega arith in
    let same : s ≡ s = omega arith in
    let at = comb_ports P few s j c.requires.stage c.requires.index settings.bit x y (ap (λ (f : CombSettings). f.bit) c.comb_settings-settings.ensures)
    (c.ports-x.ensures.first ∙ ap (λ k. port_label k s j 0) size) (c.ports-x.ensures.second ∙ ap (λ k. port_label k s j 1) size) in
    let a : CombState = comb_of R.k R.comb s j (wait_of (buffers_at R s) (switch_label R.k s j)) (combined_of (buffers_at R s) (switch_label R.k s j)) in
    let requests_is = c.put_waiting.ensures.requests ∙ c.put_replies.ensures.requests in
    let replies_is = c.put_waiting.ensures.replies in
    subst (λ ws. OnOk c.write.result (c.write.new.words.items ≡ c.args.words.now.items ++ ws))
    (comb_told settings t a x y at.0.0 at.0.1 c.put_waiting.new.self c.meet.new.self c.split.new.self
    (ap (λ (q : Queues Request). queue_at q.queues x) requests_is
    ∙ queue_left (queue_at c.put_requests.new.self.requests.queues x) N.requests R.comb.requests (ap (λ (n : Network). n.requests) N_is) (s + 1) (suc s) x (port_label R.k s j 0) behind x_is (mark_at t.requests_leave 0) c.messages_at.result.now c.without_head-first.result.now
    (c.messages_at.ensures.value ∙ ap (λ ls. (queue_of ls (s + 1) x).items) c.deref.ensures.value) c.without_head-first.ensures.value c.put_requests.ensures.first)
    (ap (λ (q : Queues Request). queue_at q.queues y) requests_is
    ∙ queue_left (queue_at c.put_requests.new.self.requests.queues y) N.requests R.comb.requests (ap (λ (n : Network). n.requests) N_is) (s + 1) (suc s) y (port_label R.k s j 1) behind y_is (mark_at t.requests_leave 1) c.messages_at-2.result.now c.without_head-second.result.now
    (c.messages_at-2.ensures.value ∙ ap (λ ls. (queue_of ls (s + 1) y).items) c.deref-2.ensures.value) c.without_head-second.ensures.value c.put_requests.ensures.second)
    (ap (λ (q : Queues Reply). queue_at q.queues x) replies_is
    ∙ queue_left (queue_at c.put_replies.new.self.replies.queues x) N.replies R.comb.replies (ap (λ (n : Network). n.replies) N_is) s s x (port_label R.k s j 0) same x_is (mark_at t.replies_leave 0) c.messages_at-3.result.now c.without_head-first_back.result.now
    (c.messages_at-3.ensures.value ∙ ap (λ ls. (queue_of ls s x).items) c.deref-3.ensures.value) c.without_head-first_back.ensures.value c.put_replies.ensures.first)
    (ap (λ (q : Queues Reply). queue_at q.queues y) replies_is
    ∙ queue_left (queue_at c.put_replies.new.self.replies.queues y) N.replies R.comb.replies (ap (λ (n : Network). n.replies) N_is) s s y (port_label R.k s j 1) same y_is (mark_at t.replies_leave 1) c.messages_at-4.result.now c.without_head-second_back.result.now
    (c.messages_at-4.ensures.value ∙ ap (λ ls. (queue_of ls s y).items) c.deref-4.ensures.value) c.without_head-second_back.ensures.value c.put_replies.ensures.second)
    (c.put_waiting.ensures.waiting ∙ ap (λ (ws : List Waiting). record { items = ws }) c.waiting_at.ensures.value ∙ ap (λ z. wait_of (buffers_at R s) z) own_is)
    c.put_waiting.ensures.none c.meet.ensures.met c.meet.ensures.replies c.split.ensures.split c.split.ensures.requests
    c.turn_then.result c.turn_then-2.result c.both_turn_then.result c.bytes-small.result
    (c.turn_then.ensures ∙ ap (λ n. turn_after n (is_some (request_to settings.bit 0 (message_at t.requests 0))) (is_some (request_to settings.bit 0 (message_at t.requests 1)))) (turn_own N R.comb N_is s x (port_label R.k s j 0) c.bit_in.result x_is c.bit_in.ensures))
    (c.turn_then-2.ensures ∙ ap (λ n. turn_after n (is_some (request_to settings.bit 1 (message_at t.requests 0))) (is_some (request_to settings.bit 1 (message_at t.requests 1)))) (turn_own N R.comb N_is s y (port_label R.k s j 1) c.bit_in-2.result y_is c.bit_in-2.ensures))
    (c.both_turn_then.ensures ∙ ap (λ n. turn_after n (is_some (message_at t.replies 0)) (is_some (message_at t.replies 1))) (back_turn_own N R.comb N_is s x (port_label R.k s j 0) c.bit_in-3.result x_is c.bit_in-3.ensures))
    (c.bytes-small.ensures.value ∙ ap (bytes c.turn_then.result c.turn_then-2.result c.both_turn_then.result) c.combined.ensures)
    ∙ ap (λ f. words_of (Comb (comb_after f t a))) c.comb_settings-settings.ensures
    ∙ ap (λ t. words_of (Comb (comb_after (comb_settings P s) t a))) c.switch_traffic-traffic.ensures)
    c.write.ensures.ok

pub returns-clause-state : goal.returns-clause-state
returns-clause-state c =
    let P = c.args.project.now in
    let R : Arrays = c.args.self.now in
    let s = c.args.stage in
    let j = c.args.index in
    let x = c.ports-x.result.0 in
    let y = c.ports-x.result.1 in
    let settings = c.comb_settings-settings.result in
    let t = c.switch_traffic-traffic.result in
    let N : Network = record { requests = c.side.inside.requests.items; replies = c.side.inside.replies.items; turns = c.side.inside.turns; back_turns = c.side.inside.back_turns } in
    let N_is : N ≡ R.comb = c.side.view_is ∙ c.side-side.ensures in
    let shape_is : c.self.inside.shape ≡ R.k = ap (λ (r : Arrays). r.k) c.self.view_is in
    let size : c.self.inside.shape ≡ P.k = shape_is ∙ c.requires.of.size in
    let few : P.k ≤ 6 = omega (arith, c.self.invariant.small, size) in
    let x_is : x ≡ port_label R.k s j 0 = c.ports-x.ensures.first ∙ ap (λ k. port_label k s j 0) shape_is in
    let y_is : y ≡ port_label R.k s j 1 = c.ports-x.ensures.second ∙ ap (λ k. port_label k s j 1) shape_is in
    let own_is : x ≡ switch_label R.k s j = c.ports-x.ensures.own ∙ ap (λ k. switch_label k s j) shape_is in
    let behind : s + 1 ≡ suc s = omega arith in
    let same : s ≡ s = omega arith in
    let at = comb_ports P few s j c.requires.stage c.requires.index settings.bit x y (ap (λ (f : CombSettings). f.bit) c.comb_settings-settings.ensures)
    (c.ports-x.ensures.first ∙ ap (λ k. port_label k s j 0) size) (c.ports-x.ensures.second ∙ ap (λ k. port_label k s j 1) size) in
    let a : CombState = comb_of R.k R.comb s j (wait_of (buffers_at R s) (switch_label R.k s j)) (combined_of (buffers_at R s) (switch_label R.k s j)) in
    let requests_is = c.put_waiting.ensures.requests ∙ c.put_replies.ensures.requests in
    let replies_is = c.put_waiting.ensures.replies in
    on_answer c.write.result (subst IsComb
    (ap (λ f. comb_after f t a) c.comb_settings-settings.ensures
    ∙ ap (λ t. comb_after (comb_settings P s) t a) c.switch_traffic-traffic.ensures)
    (comb_fits settings t a x y at.0.0 at.0.1 c.put_waiting.new.self c.meet.new.self c.split.new.self
    (ap (λ (q : Queues Request). queue_at q.queues x) requests_is
    ∙ queue_left (queue_at c.put_requests.new.self.requests.queues x) N.requests R.comb.requests (ap (λ (n : Network). n.requests) N_is) (s + 1) (suc s) x (port_label R.k s j 0) behind x_is (mark_at t.requests_leave 0) c.messages_at.result.now c.without_head-first.result.now
    (c.messages_at.ensures.value ∙ ap (λ ls. (queue_of ls (s + 1) x).items) c.deref.ensures.value) c.without_head-first.ensures.value c.put_requests.ensures.first)
    (ap (λ (q : Queues Request). queue_at q.queues y) requests_is
    ∙ queue_left (queue_at c.put_requests.new.self.requests.queues y) N.requests R.comb.requests (ap (λ (n : Network). n.requests) N_is) (s + 1) (suc s) y (port_label R.k s j 1) behind y_is (mark_at t.requests_leave 1) c.messages_at-2.result.now c.without_head-second.result.now
    (c.messages_at-2.ensures.value ∙ ap (λ ls. (queue_of ls (s + 1) y).items) c.deref-2.ensures.value) c.without_head-second.ensures.value c.put_requests.ensures.second)
    (ap (λ (q : Queues Reply). queue_at q.queues x) replies_is
    ∙ queue_left (queue_at c.put_replies.new.self.replies.queues x) N.replies R.comb.replies (ap (λ (n : Network). n.replies) N_is) s s x (port_label R.k s j 0) same x_is (mark_at t.replies_leave 0) c.messages_at-3.result.now c.without_head-first_back.result.now
    (c.messages_at-3.ensures.value ∙ ap (λ ls. (queue_of ls s x).items) c.deref-3.ensures.value) c.without_head-first_back.ensures.value c.put_replies.ensures.first)
    (ap (λ (q : Queues Reply). queue_at q.queues y) replies_is
    ∙ queue_left (queue_at c.put_replies.new.self.replies.queues y) N.replies R.comb.replies (ap (λ (n : Network). n.replies) N_is) s s y (port_label R.k s j 1) same y_is (mark_at t.replies_leave 1) c.messages_at-4.result.now c.without_head-second_back.result.now
    (c.messages_at-4.ensures.value ∙ ap (λ ls. (queue_of ls s y).items) c.deref-4.ensures.value) c.without_head-second_back.ensures.value c.put_replies.ensures.second)
    (c.put_waiting.ensures.waiting ∙ ap (λ (ws : List Waiting). record { items = ws }) c.waiting_at.ensures.value ∙ ap (λ z. wait_of (buffers_at R s) z) own_is)
    c.put_waiting.ensures.none c.meet.ensures.met c.meet.ensures.replies c.split.ensures.split c.split.ensures.requests
    c.fit.ensures.first c.fit.ensures.second c.fit.ensures.first_back c.fit.ensures.second_back c.fit.ensures.waits
    (turn_fits R.comb.turns s (port_label R.k s j 0)) (turn_fits R.comb.turns s (port_label R.k s j 1)) (turn_fits R.comb.back_turns s (port_label R.k s j 0))))
