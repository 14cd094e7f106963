use Rattle.std.proofs.Common.{◌≡◌, ◌∷◌, true, All, ap, sym, subst, ◌∙◌, arith, List, [], length}
use Rattle.std.specs.Vec.Iter.{into_iter_items}
use Rattle.cell_table.specs.declared.given.Given.{Given}
use Rattle.cell_table.specs.Claims.{Computed}
use Rattle.machine_cells.specs.declared.state.MachineState.{MachineState}
use Rattle.project_book.specs.Project.{Project}
use Rattle.shared_bench.specs.Rule.{spent_of}
use Rattle.shared_bench.specs.Answers.{IsGivenSpent}
use Rattle.shared_bench.proofs.Lots.{LeadsTo, given_on, all_given, spent_on, nothing_left}
use Rattle.shared_bench.proofs.carried.Carried.give_many.Goals as goal

pub loop-done-preserved : goal.loop-done-preserved
loop-done-preserved c =
    let at = c.loop-done in
    let inv = at.invariant in
    let e = c.give-given.ensures in
    let d = c.args.self.now in
    let lot = c.args.lot.items in
    let given = c.give-given.result in
    let next = c.give-given.new.self in
    let left = into_iter_items c.next.new.self in
    let more = sym c.push_reserved.ensures.items in
    let steps : into_iter_items at.done-iterator ≡ c.in-Some.done ∷ left = c.in-Some.ensures.steps.0 in
    let gone = c.in-Some.ensures.steps.1 in
    let short = ap length steps in
    let leads : LeadsTo d lot at.answers.items at.self (c.in-Some.done ∷ left) = subst (LeadsTo d lot at.answers.items at.self) steps inv.leads in
    let was = inv.left in
    let room = inv.room in
    record {
      left = omega (arith, was, gone, short);
      leads = subst (λ (all : List (Given (Computed MachineState Project))). LeadsTo d lot all next left) more (given_on d lot at.answers.items at.self c.in-Some.done left given next leads (record { gives = e.gives; journal = e.journal; project = e.project; history = e.history }));
      room = omega (arith, room, gone, c.push_reserved.ensures.len, c.push_reserved.ensures.capacity);
      capacity = c.push_reserved.ensures.capacity ∙ inv.capacity;
      journal = e.journal ∙ inv.journal;
      project = e.project ∙ inv.project;
      kept = λ h. e.kept (inv.kept h);
      spent = subst (All (λ (x : Given (Computed MachineState Project)). IsGivenSpent x → spent_of next ≡ true)) more (spent_on at.answers.items given (spent_of at.self) (spent_of next) inv.spent e.kept e.spent);
      history = e.history;
    }

pub returns-clause-gives : goal.returns-clause-gives
returns-clause-gives c =
    let at = c.loop-done in
    let empty : into_iter_items at.done-iterator ≡ [] = nothing_left _ (sym at.invariant.left ∙ c.in-None.ensures.steps.0) in
    all_given c.args.self.now c.args.lot.items at.answers.items at.self (subst (LeadsTo c.args.self.now c.args.lot.items at.answers.items at.self) empty at.invariant.leads)
