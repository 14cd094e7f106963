-- What a bench does is what a desk is to do.
use Rattle.std.proofs.Common.{◌≡◌, ℕ, ◌+◌, ◌^◌, ◌-◌, [], ◌∷◌, ◌++◌, refl, ap, subst}
use Rattle.std.specs.Prelude.{Result, Ok, Err, IfOk, IfErr, OnOk, OnErr, IsOkUnless}
use Rattle.project_book.specs.Edits.{edited}
use Rattle.project_book.specs.declared.edit.Edit.{Edit}
use Rattle.project_book.specs.declared.fault.EditFault.{EditFault}
use Rattle.project_book.specs.declared.fault.EditFault.TheVariants.{Memory}
use Rattle.bench_core.specs.Shown.{Shown, project_of, version_of}
use Rattle.bench_core.specs.Edits.{admits, Refuses}
use Rattle.bench_core.proofs.Admitting.{admitted, made_refuses, refuses_at, refused_wants}
use Rattle.bench_shell.specs.Store.{Store, version_in, store_of, edited_store, EditGives}

-- the store after a noted edit
pub noted : (b b' : Shown) (e : Edit) (r : Result ℕ EditFault)
    → OnOk r (b'.journal ≡ b.journal ++ record { author = 0; edit = e } ∷ []) → OnOk r (project_of b' ≡ edited (project_of b) e)
    → OnOk r (store_of b' ≡ edited_store (store_of b) e)
noted b b' e (Ok v) journal project = rw (project, journal) refl
noted b b' e (Err f) journal project = tt

pub kept : (b b' : Shown) (r : Result ℕ EditFault) → OnErr r (b' ≡ b) → OnErr r (store_of b' ≡ store_of b)
kept b b' (Ok v) h = tt
kept b b' (Err f) h = ap store_of h

gives : (b b' : Shown) (e : Edit) (r : Result ℕ EditFault) → OnOk r (admits b e ≡ Ok tt) → IfErr r (λ f. Refuses b e f)
    → IfOk r (λ v. v ≡ version_of b + 1) → OnOk r (store_of b' ≡ edited_store (store_of b) e) → OnErr r (store_of b' ≡ store_of b) → EditGives (store_of b) e r (store_of b')
gives b b' e (Ok v) taken refuses version after err = (admitted b e taken, after, version)
gives b b' e (Err f) taken refuses version after err = (refuses_at b e f refuses, err)

pub edit_gives : (b b' : Shown) (e : Edit) (r : Result ℕ EditFault)
    → ((f : EditFault) → admits b e ≡ Err f → r ≡ Err f) → (admits b e ≡ Ok tt → IsOkUnless r Memory) → OnOk r (admits b e ≡ Ok tt)
    → IfOk r (λ v. v ≡ version_of b + 1) → OnOk r (b'.journal ≡ b.journal ++ record { author = 0; edit = e } ∷ [])
    → OnOk r (project_of b' ≡ edited (project_of b) e) → OnErr r (b' ≡ b) → EditGives (store_of b) e r (store_of b')
edit_gives b b' e r refused accepted taken version journal project err =
    gives b b' e r taken (made_refuses b e r refused accepted) version (noted b b' e r journal project) (kept b b' r err)

-- want of memory, where the clock isn't spent
wants_by : (b b' : Shown) (e : Edit) (r : Result ℕ EditFault) → r ≡ Err Memory → IfErr r (λ f. Refuses b e f) → OnErr r (b' ≡ b) → b'.table.clock ≡ 2 ^ 64 - 1 → ⊥
wants_by b b' e (Ok v) is refuses err last = absurd cc
wants_by b b' e (Err f) is refuses err last =
    let same : f ≡ Memory = cc in
    refused_wants b e (subst (λ g. Refuses b e g) same refuses) (rw err at last)

pub edit_wants : (b b' : Shown) (e : Edit) (r : Result ℕ EditFault)
    → ((f : EditFault) → admits b e ≡ Err f → r ≡ Err f) → (admits b e ≡ Ok tt → IsOkUnless r Memory) → OnErr r (b' ≡ b) → r ≡ Err Memory → b'.table.clock ≡ 2 ^ 64 - 1 → ⊥
edit_wants b b' e r refused accepted err is last = wants_by b b' e r is (made_refuses b e r refused accepted) err last
