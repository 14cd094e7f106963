use Rattle.std.proofs.Common.{◌≡◌, ◌++◌, ◌∙◌, ap, sym, subst, arith}
use Rattle.std.specs.Prelude.{OnOk, IfOk}
use Rattle.std.specs.Option.{option_copied}
use Rattle.omega_net.specs.declared.component.Net.TheVariants.{Low as LowNet, Comb as CombNet}
use Rattle.omega_net.specs.declared.component.Component.TheVariants.{Proc as ProcAt, Module as ModuleAt, Switch}
use Rattle.omega_net.specs.Numbers.{Exists}
use Rattle.machine_cells.specs.Words.{words_of, memory_of, IsState}
use Rattle.flat_row.specs.Next.{IsAnother, memory_given, memory_left, next_state, part_given}
use Rattle.flat_row.specs.Row.{Arrays}
use Rattle.flat_row.proofs.Handing.{next_is, next_without, nothing_left, given_module}
use Rattle.flat_row.proofs.row.Row.next_words.Goals as goal

pub returns-in-Module-clause-ok : goal.returns-in-Module-clause-ok
returns-in-Module-clause-ok c =
    let P = c.args.project.now in
    let R : Arrays = c.args.self.now in
    let memory = option_copied c.args.memory in
    let from = c.from in
    let it : c.args.component ≡ ModuleAt from.result = c.in-Module.is ∙ ap ModuleAt (sym from.ensures) in
    subst (λ d. OnOk c.next_module.result (c.next_module.new.words.items ≡ c.args.words.now.items ++ words_of (next_state P R d memory))) (sym it)
    (subst (λ s. OnOk c.next_module.result (c.next_module.new.words.items ≡ c.args.words.now.items ++ words_of s))
    (sym (next_is P R c.requires.of.size (ModuleAt from.result) (subst (Exists P.k) it c.requires.there) memory)) c.next_module.ensures.ok)

pub returns-in-Module-clause-left : goal.returns-in-Module-clause-left
returns-in-Module-clause-left c = λ rise.
    let P = c.args.project.now in
    let R : Arrays = c.args.self.now in
    let memory = option_copied c.args.memory in
    let from = c.from in
    let it : c.args.component ≡ ModuleAt from.result = c.in-Module.is ∙ ap ModuleAt (sym from.ensures) in
    subst (λ d. IfOk c.next_module.result (λ left. memory_of (next_state P R d memory) ≡ memory_left (memory_given R d memory) left)) (sym it)
    (subst (λ s. IfOk c.next_module.result (λ left. memory_of s ≡ memory_left (memory_given R (ModuleAt from.result) memory) left))
    (sym (next_is P R c.requires.of.size (ModuleAt from.result) (subst (Exists P.k) it c.requires.there) memory))
    (subst (λ ws. IfOk c.next_module.result (λ left. memory_of (part_given P R (ModuleAt from.result) memory) ≡ memory_left ws left)) (sym (ap memory_of (given_module R from.result memory))) (c.next_module.ensures.left rise)))

pub returns-in-Module-clause-another : goal.returns-in-Module-clause-another
returns-in-Module-clause-another c =
    let R : Arrays = c.args.self.now in
    let memory = option_copied c.args.memory in
    let from = c.from in
    let it : c.args.component ≡ ModuleAt from.result = c.in-Module.is ∙ ap ModuleAt (sym from.ensures) in
    subst (λ d. IfOk c.next_module.result (IsAnother (memory_given R d memory))) (sym it)
    (subst (λ ws. IfOk c.next_module.result (IsAnother ws)) (sym (ap memory_of (given_module R from.result memory))) c.next_module.ensures.another)

pub returns-in_ok-next_proc-in-Proc-clause-ok : goal.returns-in_ok-next_proc-in-Proc-clause-ok
returns-in_ok-next_proc-in-Proc-clause-ok c =
    let P = c.args.project.now in
    let R : Arrays = c.args.self.now in
    let memory = option_copied c.args.memory in
    let p = c.in-Proc.p in
    let it : c.args.component ≡ ProcAt p = c.in-Proc.is in
    c.in_ok-next_proc-in-Proc.ensures.ok
    ∙ ap (λ s. c.args.words.now.items ++ words_of s) (sym (next_without P R c.requires.of.size (ProcAt p) (subst (Exists P.k) it c.requires.there) memory tt))
    ∙ ap (λ d. c.args.words.now.items ++ words_of (next_state P R d memory)) (sym it)

pub returns-in_ok-next_proc-in-Proc-clause-left : goal.returns-in_ok-next_proc-in-Proc-clause-left
returns-in_ok-next_proc-in-Proc-clause-left c = λ rise.
    let P = c.args.project.now in
    let R : Arrays = c.args.self.now in
    let memory = option_copied c.args.memory in
    let p = c.in-Proc.p in
    let it : c.args.component ≡ ProcAt p = c.in-Proc.is in
    subst (λ d. memory_of (next_state P R d memory) ≡ memory_given R d memory) (sym it)
    (nothing_left P R c.requires.of.size (ProcAt p) (subst (Exists P.k) it c.requires.there) memory tt)

pub returns-in_ok-next_low-in-Switch-Low-default-default-clause-ok : goal.returns-in_ok-next_low-in-Switch-Low-default-default-clause-ok
returns-in_ok-next_low-in-Switch-Low-default-default-clause-ok c =
    let P = c.args.project.now in
    let R : Arrays = c.args.self.now in
    let memory = option_copied c.args.memory in
    let at = c.in-Switch-Low-default-default in
    let stage = c.from-in-Switch-Low-default-default in
    let index = c.from-in-Switch-Low-default-default-2 in
    let it : c.args.component ≡ Switch LowNet stage.result index.result = grind (arith, at.is, at.net-is, stage.ensures, index.ensures) in
    c.in_ok-next_low-in-Switch-Low-default-default.ensures.ok
    ∙ ap (λ s. c.args.words.now.items ++ words_of s) (sym (next_without P R c.requires.of.size (Switch LowNet stage.result index.result) (subst (Exists P.k) it c.requires.there) memory tt))
    ∙ ap (λ d. c.args.words.now.items ++ words_of (next_state P R d memory)) (sym it)

pub returns-in_ok-next_low-in-Switch-Low-default-default-clause-left : goal.returns-in_ok-next_low-in-Switch-Low-default-default-clause-left
returns-in_ok-next_low-in-Switch-Low-default-default-clause-left c = λ rise.
    let P = c.args.project.now in
    let R : Arrays = c.args.self.now in
    let memory = option_copied c.args.memory in
    let at = c.in-Switch-Low-default-default in
    let stage = c.from-in-Switch-Low-default-default in
    let index = c.from-in-Switch-Low-default-default-2 in
    let it : c.args.component ≡ Switch LowNet stage.result index.result = grind (arith, at.is, at.net-is, stage.ensures, index.ensures) in
    subst (λ d. memory_of (next_state P R d memory) ≡ memory_given R d memory) (sym it)
    (nothing_left P R c.requires.of.size (Switch LowNet stage.result index.result) (subst (Exists P.k) it c.requires.there) memory tt)

pub returns-in_ok-next_comb-in-Switch-Comb-default-default-clause-ok : goal.returns-in_ok-next_comb-in-Switch-Comb-default-default-clause-ok
returns-in_ok-next_comb-in-Switch-Comb-default-default-clause-ok c =
    let P = c.args.project.now in
    let R : Arrays = c.args.self.now in
    let memory = option_copied c.args.memory in
    let at = c.in-Switch-Comb-default-default in
    let stage = c.from-in-Switch-Comb-default-default in
    let index = c.from-in-Switch-Comb-default-default-2 in
    let it : c.args.component ≡ Switch CombNet stage.result index.result = grind (arith, at.is, at.net-is, stage.ensures, index.ensures) in
    c.in_ok-next_comb-in-Switch-Comb-default-default.ensures.ok
    ∙ ap (λ s. c.args.words.now.items ++ words_of s) (sym (next_without P R c.requires.of.size (Switch CombNet stage.result index.result) (subst (Exists P.k) it c.requires.there) memory tt))
    ∙ ap (λ d. c.args.words.now.items ++ words_of (next_state P R d memory)) (sym it)

pub returns-in_ok-next_comb-in-Switch-Comb-default-default-clause-left : goal.returns-in_ok-next_comb-in-Switch-Comb-default-default-clause-left
returns-in_ok-next_comb-in-Switch-Comb-default-default-clause-left c = λ rise.
    let P = c.args.project.now in
    let R : Arrays = c.args.self.now in
    let memory = option_copied c.args.memory in
    let at = c.in-Switch-Comb-default-default in
    let stage = c.from-in-Switch-Comb-default-default in
    let index = c.from-in-Switch-Comb-default-default-2 in
    let it : c.args.component ≡ Switch CombNet stage.result index.result = grind (arith, at.is, at.net-is, stage.ensures, index.ensures) in
    subst (λ d. memory_of (next_state P R d memory) ≡ memory_given R d memory) (sym it)
    (nothing_left P R c.requires.of.size (Switch CombNet stage.result index.result) (subst (Exists P.k) it c.requires.there) memory tt)

pub returns-in-Module-clause-state : goal.returns-in-Module-clause-state
returns-in-Module-clause-state c =
    let P = c.args.project.now in
    let R : Arrays = c.args.self.now in
    let memory = option_copied c.args.memory in
    let from = c.from in
    let it : c.args.component ≡ ModuleAt from.result = c.in-Module.is ∙ ap ModuleAt (sym from.ensures) in
    subst (λ d. OnOk c.next_module.result (IsState (next_state P R d memory))) (sym it)
    (subst (λ s. OnOk c.next_module.result (IsState s)) (sym (next_is P R c.requires.of.size (ModuleAt from.result) (subst (Exists P.k) it c.requires.there) memory)) c.next_module.ensures.state)

pub returns-in_ok-next_proc-in-Proc-clause-state : goal.returns-in_ok-next_proc-in-Proc-clause-state
returns-in_ok-next_proc-in-Proc-clause-state c =
    let P = c.args.project.now in
    let R : Arrays = c.args.self.now in
    let memory = option_copied c.args.memory in
    let p = c.in-Proc.p in
    let it : c.args.component ≡ ProcAt p = c.in-Proc.is in
    subst (λ d. IsState (next_state P R d memory)) (sym it)
    (subst IsState (sym (next_without P R c.requires.of.size (ProcAt p) (subst (Exists P.k) it c.requires.there) memory tt)) c.in_ok-next_proc-in-Proc.ensures.state)

pub returns-in_ok-next_low-in-Switch-Low-default-default-clause-state : goal.returns-in_ok-next_low-in-Switch-Low-default-default-clause-state
returns-in_ok-next_low-in-Switch-Low-default-default-clause-state c =
    let P = c.args.project.now in
    let R : Arrays = c.args.self.now in
    let memory = option_copied c.args.memory in
    let at = c.in-Switch-Low-default-default in
    let stage = c.from-in-Switch-Low-default-default in
    let index = c.from-in-Switch-Low-default-default-2 in
    let it : c.args.component ≡ Switch LowNet stage.result index.result = grind (arith, at.is, at.net-is, stage.ensures, index.ensures) in
    subst (λ d. IsState (next_state P R d memory)) (sym it)
    (subst IsState (sym (next_without P R c.requires.of.size (Switch LowNet stage.result index.result) (subst (Exists P.k) it c.requires.there) memory tt)) c.in_ok-next_low-in-Switch-Low-default-default.ensures.state)

pub returns-in_ok-next_comb-in-Switch-Comb-default-default-clause-state : goal.returns-in_ok-next_comb-in-Switch-Comb-default-default-clause-state
returns-in_ok-next_comb-in-Switch-Comb-default-default-clause-state c =
    let P = c.args.project.now in
    let R : Arrays = c.args.self.now in
    let memory = option_copied c.args.memory in
    let at = c.in-Switch-Comb-default-default in
    let stage = c.from-in-Switch-Comb-default-default in
    let index = c.from-in-Switch-Comb-default-default-2 in
    let it : c.args.component ≡ Switch CombNet stage.result index.result = grind (arith, at.is, at.net-is, stage.ensures, index.ensures) in
    subst (λ d. IsState (next_state P R d memory)) (sym it)
    (subst IsState (sym (next_without P R c.requires.of.size (Switch CombNet stage.result index.result) (subst (Exists P.k) it c.requires.there) memory tt)) c.in_ok-next_comb-in-Switch-Comb-default-default.ensures.state)
