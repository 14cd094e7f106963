use Rattle.std.proofs.Common.{◌≡◌, ℕ, ◌++◌, ◌∙◌, ap, sym, subst}
use Rattle.std.specs.Prelude.{IfSome}
use Rattle.std.specs.Option.{option_copied, option_or}
use Rattle.grid_law.specs.Codec.{IsTold}
use Rattle.grid_law.specs.Run.{run}
use Rattle.omega_net.specs.Numbers.{component_of, Exists}
use Rattle.mem_module.specs.Memory.{IsAscending}
use Rattle.machine_cells.specs.Codec.{memory_in, rp3_codec}
use Rattle.machine_cells.specs.GridRules.{rp3_rules}
use Rattle.machine_cells.specs.Words.{words_of, memory_of}
use Rattle.machine_cells.proofs.Telling.{told_state}
use Rattle.flat_row.specs.Row.{Arrays}
use Rattle.flat_row.specs.Next.{memory_given, memory_left, next_state}
use Rattle.whole_rows.proofs.Nexting.{next_is_step, memory_of_run, on_answer, by_answer}
use Rattle.whole_rows.proofs.row.MachineRowWholeRowRp3.next_words.Goals as goal

pub returns-clause-words : goal.returns-clause-words
returns-clause-words c =
    let P = c.args.s.now in
    let x = c.component-component.result in
    let is = ap (λ (k : ℕ). component_of k c.args.c) (sym c.requires.stands.size) ∙ c.component-component.ensures.is in
    let there = subst (λ (k : ℕ). Exists k x) c.requires.stands.size c.component-component.ensures.there in
    on_answer c.left_in.result (λ xs near has.
    c.in-Ok.ensures.ok
    ∙ ap (λ (r : Arrays). c.args.words.now.items ++ words_of (next_state P r x (option_copied c.args.memory))) c.self.view_is
    ∙ ap (λ s. c.args.words.now.items ++ words_of s) (next_is_step P c.args.self.now c.requires.stands xs c.args.c c.requires.component near x is there (option_copied c.args.memory) has))

pub returns-clause-told : goal.returns-clause-told
returns-clause-told c =
    let P = c.args.s.now in
    let x = c.component-component.result in
    let is = ap (λ (k : ℕ). component_of k c.args.c) (sym c.requires.stands.size) ∙ c.component-component.ensures.is in
    let there = subst (λ (k : ℕ). Exists k x) c.requires.stands.size c.component-component.ensures.there in
    on_answer c.left_in.result (λ xs near has.
    subst (IsTold rp3_codec) (
    ap (λ (r : Arrays). next_state P r x (option_copied c.args.memory)) c.self.view_is
    ∙ next_is_step P c.args.self.now c.requires.stands xs c.args.c c.requires.component near x is there (option_copied c.args.memory) has)
    (told_state _ c.in-Ok.ensures.state))

pub returns-clause-memory : goal.returns-clause-memory
returns-clause-memory c =
    let P = c.args.s.now in
    let memory = option_copied c.args.memory in
    let x = c.component-component.result in
    let is = ap (λ (k : ℕ). component_of k c.args.c) (sym c.requires.stands.size) ∙ c.component-component.ensures.is in
    let there = subst (λ (k : ℕ). Exists k x) c.requires.stands.size c.component-component.ensures.there in
    by_answer c.left_in.result (λ after it t near has.
    memory_of_run P c.args.self.now c.requires.stands c.args.c c.requires.component x is there memory c.in-Ok.left
    (subst (λ (r : Arrays). IfSome memory IsAscending → memory_of (next_state P r x memory) ≡ memory_left (memory_given r x memory) c.in-Ok.left) c.self.view_is c.in-Ok.ensures.left)
    t near has ∙ ap (λ o. option_or o (memory_in (run rp3_rules P t c.args.c))) (sym it)) c.left_in.ensures
