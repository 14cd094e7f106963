use Rattle.std.proofs.Common.{subst, inl, inr, Option, None, Some, Result, Ok, Err}
use Rattle.std.specs.Prelude.{IfOk, IfSome}
use Rattle.cell_table.specs.Claims.{IsNextRound}
use Rattle.machine_cells.specs.GridRules.{rp3_rules}
use Rattle.bench_core.specs.Shown.{Shown}
use Rattle.bench_core.proofs.Happening.{claim_stands}
use Rattle.bench_core.proofs.bench.Bench.claim.Goals as goal

along : {T E : Type 0} (r : Result T E) (P Q : T → Type 0) → ((x : T) → P x → Q x) → IfOk r P → IfOk r Q
along (Ok x) P Q f h = f x h
along (Err e) P Q f h = tt

along_some : {T : Type 0} (o : Option T) (P Q : T → Type 0) → ((x : T) → P x → Q x) → IfSome o P → IfSome o Q
along_some None P Q f h = tt
along_some (Some x) P Q f h = f x h

pub returns-clause-next : goal.returns-clause-next
returns-clause-next c =
    along c.claim.result _ _ (λ q. along_some q _ _ (λ claim n.
    let Next : Shown → Type 0 = λ b. IsNextRound rp3_rules b.table c.args.from.cycle c.args.from.component claim.cell in
    subst Next c.self.view_is (elim n [
      | inl a ↦ inl (record {
        there = record { cycle = a.there.cycle; component = a.there.component };
        claimable = a.claimable;
        after = a.after;
        none_between = λ t k there after before. a.none_between t k (record { cycle = there.cycle; component = there.component }) after before;
      })
      | inr b ↦ inr (
        λ t k there after. b.0 t k (record { cycle = there.cycle; component = there.component }) after,
        record {
          there = record { cycle = b.1.there.cycle; component = b.1.there.component };
          claimable = b.1.claimable;
          after = b.1.after;
          none_between = λ t k there after before. b.1.none_between t k (record { cycle = there.cycle; component = there.component }) after before;
        },
      )
    ]))) c.claim.ensures.next

pub returns-clause-headline_claims : goal.returns-clause-headline_claims
returns-clause-headline_claims c = claim_stands c.args.self.now c.claim.result (rw (← c.self.view_is) c.claim.ensures.headline_claims)
