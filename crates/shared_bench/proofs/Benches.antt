-- What the calls of a bench say, in the words of a turn.
use Rattle.std.proofs.Common.{◌≡◌, ℕ, ◌+◌, ◌-◌, ◌^◌, true, eq-eqb, Result, Ok, Err}
use Rattle.std.specs.Prelude.{IfOk, OnOk, OnErr, IsOkUnless}
use Rattle.std.proofs.lemmas.Bool.{eqb-true}
use Rattle.project_book.specs.declared.edit.Edit.{Edit}
use Rattle.project_book.specs.declared.fault.EditFault.{EditFault}
use Rattle.project_book.specs.declared.fault.EditFault.TheVariants.{Memory}
use Rattle.bench_core.specs.Shown.{Shown, version_of}
use Rattle.bench_core.specs.Edits.{admits, IsAfterEdit}
use Rattle.bench_core.proofs.Admitting.{made_refuses}
use Rattle.shared_bench.specs.Rule.{spent_of}
use Rattle.shared_bench.specs.Answers.{EditsAs}

pub spent_is : (d : Shown) → spent_of d ≡ true → d.table.clock ≡ 2 ^ 64 - 1
spent_is d h = eqb-true d.table.clock (2 ^ 64 - 1) h

pub is_spent : (d : Shown) → d.table.clock ≡ 2 ^ 64 - 1 → spent_of d ≡ true
is_spent d h = eq-eqb d.table.clock (2 ^ 64 - 1) h

pub edits_as : (d next : Shown) (a : ℕ) (e : Edit) (r : Result ℕ EditFault) → ((g : EditFault) → admits d e ≡ Err g → r ≡ Err g) → (admits d e ≡ Ok tt → IsOkUnless r Memory)
    → OnOk r (admits d e ≡ Ok tt) → OnOk r (IsAfterEdit d next a e) → IfOk r (λ v. v ≡ version_of d + 1) → OnErr r (next ≡ d) → EditsAs d a e r next
edits_as d next a e (Ok v) refused accepted admitted after version same = (admitted, after, version)
edits_as d next a e (Err f) refused accepted admitted after version same = (made_refuses d e (Err f) refused accepted, same)
