use Rattle.std.proofs.Common.{◌≡◌, ◌<◌, ◌++◌, ◌∙◌, ap, sym, subst}
use Rattle.std.specs.Prelude.{OnOk}
use Rattle.omega_net.specs.Numbers.{lines}
use Rattle.ref_proc.specs.declared.state.ProcState.{ProcState}
use Rattle.ref_proc.specs.RefProc.{proc_after}
use Rattle.machine_cells.specs.declared.state.MachineState.TheVariants.{Proc}
use Rattle.machine_cells.specs.Moves.{moves}
use Rattle.machine_cells.specs.Cycle.{proc_settings, proc_traffic}
use Rattle.machine_cells.specs.Words.{words_of}
use Rattle.flat_row.specs.Row.{Arrays, proc_of, states_of}
use Rattle.flat_row.proofs.Telling.{on_answer}
use Rattle.state_words.specs.Fits.{IsProc}
use Rattle.flat_row.proofs.row.Row.next_proc.Goals as goal

pub proc_traffic-traffic-requires-clause-there : goal.proc_traffic-traffic-requires-clause-there
proc_traffic-traffic-requires-clause-there c = subst (λ i. i < lines c.args.project.now.k) (sym c.from-at.ensures) c.requires.there

pub processor-own-requires : goal.processor-own-requires
processor-own-requires c = subst (λ n. c.from-at.result < lines n) (sym c.requires.of.size) (subst (λ i. i < lines c.args.project.now.k) (sym c.from-at.ensures) c.requires.there)

pub returns-clause-ok : goal.returns-clause-ok
returns-clause-ok c =
    let P = c.args.project.now in
    let R : Arrays = c.args.self.now in
    let p = c.args.p in
    let own = c.processor-own.result in
    subst (λ ws. OnOk c.encode.result (c.encode.new.words.items ≡ c.args.words.now.items ++ ws))
    (ap (λ s. words_of (Proc s))
    (c.step-next.ensures ∙ ap (λ f. proc_after f c.proc_traffic-traffic.result own) c.proc_settings-settings.ensures
    ∙ ap (λ t. proc_after (proc_settings P p own.index) t own) (c.proc_traffic-traffic.ensures ∙ ap (proc_traffic (moves P (states_of R))) c.from-at.ensures)
    ∙ ap (λ (o : ProcState). proc_after (proc_settings P p o.index) (proc_traffic (moves P (states_of R)) p) o) (c.processor-own.ensures ∙ ap (proc_of R) c.from-at.ensures)))
    c.encode.ensures.ok

pub returns-clause-state : goal.returns-clause-state
returns-clause-state c =
    let P = c.args.project.now in
    let R : Arrays = c.args.self.now in
    let p = c.args.p in
    let own = c.processor-own.result in
    on_answer c.encode.result (subst IsProc
    (c.step-next.ensures ∙ ap (λ f. proc_after f c.proc_traffic-traffic.result own) c.proc_settings-settings.ensures
    ∙ ap (λ t. proc_after (proc_settings P p own.index) t own) (c.proc_traffic-traffic.ensures ∙ ap (proc_traffic (moves P (states_of R))) c.from-at.ensures)
    ∙ ap (λ (o : ProcState). proc_after (proc_settings P p o.index) (proc_traffic (moves P (states_of R)) p) o) (c.processor-own.ensures ∙ ap (proc_of R) c.from-at.ensures))
    c.is_proc.ensures)
