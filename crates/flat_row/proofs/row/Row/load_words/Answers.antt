use Rattle.std.proofs.Common.{◌≡◌, ◌∙◌, ap, sym, subst, Some, arith}
use Rattle.std.specs.Prelude.{slice_index_or, []}
use Rattle.omega_net.specs.declared.component.Net.TheVariants.{Low as LowNet, Comb as CombNet}
use Rattle.omega_net.specs.declared.component.Component.{Component}
use Rattle.omega_net.specs.declared.component.Component.TheVariants.{Proc as ProcAt, Module as ModuleAt, Switch}
use Rattle.machine_cells.specs.declared.state.MachineState.{MachineState}
use Rattle.machine_cells.specs.Words.{IsState, words_of, memory_of, with_memory}
use Rattle.flat_row.specs.Row.{state_of}
use Rattle.flat_row.specs.Loading.{CanHold}
use Rattle.flat_row.proofs.Loaded.{told_proc, told_module, told_low, told_comb}
use Rattle.flat_row.proofs.row.Row.load_words.Goals as goal

pub returns-in-Proc-clause-loaded : goal.returns-in-Proc-clause-loaded
returns-in-Proc-clause-loaded c =
    let it : c.args.component ≡ ProcAt c.from.result = c.in-Proc.is ∙ ap ProcAt (sym c.from.ensures) in
    subst (λ (d : Component). (s : MachineState) → IsState s → c.args.words.now ≡ words_of s → CanHold d s → state_of c.load_proc.new.self (Some d) ≡ with_memory (memory_of (state_of c.args.self.now (Some d))) s) (sym it)
    (told_proc c.load_proc.new.self c.split_first-head.result.0 c.args.words.now c.split_first-head.result.1.now [] c.split_first-head.ensures.first c.split_first-head.ensures.rest c.from.result c.load_proc.ensures.loaded)

pub returns-in-Module-clause-loaded : goal.returns-in-Module-clause-loaded
returns-in-Module-clause-loaded c =
    let from = c.from-in-Module in
    let it : c.args.component ≡ ModuleAt from.result = c.in-Module.is ∙ ap ModuleAt (sym from.ensures) in
    subst (λ (d : Component). (s : MachineState) → IsState s → c.args.words.now ≡ words_of s → CanHold d s → state_of c.load_module.new.self (Some d) ≡ with_memory (memory_of (state_of c.args.self.now (Some d))) s) (sym it)
    (told_module c.load_module.new.self c.split_first-head.result.0 c.args.words.now c.split_first-head.result.1.now (slice_index_or c.args.self.now.words from.result []) c.split_first-head.ensures.first c.split_first-head.ensures.rest
    from.result c.load_module.ensures.loaded)

pub returns-in-Switch-Low-default-default-clause-loaded : goal.returns-in-Switch-Low-default-default-clause-loaded
returns-in-Switch-Low-default-default-clause-loaded c =
    let at = c.in-Switch-Low-default-default in
    let stage = c.from-in-Switch-Low-default-default in
    let index = c.from-in-Switch-Low-default-default-2 in
    let it : c.args.component ≡ Switch LowNet stage.result index.result = grind (arith, at.is, at.net-is, stage.ensures, index.ensures) in
    subst (λ (d : Component). (s : MachineState) → IsState s → c.args.words.now ≡ words_of s → CanHold d s → state_of c.load_low.new.self (Some d) ≡ with_memory (memory_of (state_of c.args.self.now (Some d))) s) (sym it)
    (told_low c.load_low.new.self c.split_first-head.result.0 c.args.words.now c.split_first-head.result.1.now [] c.split_first-head.ensures.first c.split_first-head.ensures.rest
    stage.result index.result c.load_low.ensures.loaded)

pub returns-in-Switch-Comb-default-default-clause-loaded : goal.returns-in-Switch-Comb-default-default-clause-loaded
returns-in-Switch-Comb-default-default-clause-loaded c =
    let at = c.in-Switch-Comb-default-default in
    let stage = c.from-in-Switch-Comb-default-default in
    let index = c.from-in-Switch-Comb-default-default-2 in
    let it : c.args.component ≡ Switch CombNet stage.result index.result = grind (arith, at.is, at.net-is, stage.ensures, index.ensures) in
    subst (λ (d : Component). (s : MachineState) → IsState s → c.args.words.now ≡ words_of s → CanHold d s → state_of c.load_comb.new.self (Some d) ≡ with_memory (memory_of (state_of c.args.self.now (Some d))) s) (sym it)
    (told_comb c.load_comb.new.self c.split_first-head.result.0 c.args.words.now c.split_first-head.result.1.now [] c.split_first-head.ensures.first c.split_first-head.ensures.rest
    stage.result index.result c.load_comb.ensures.loaded)
