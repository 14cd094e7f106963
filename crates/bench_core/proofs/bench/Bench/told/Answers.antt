use Rattle.std.proofs.Common.{◌≡◌, ◌∙◌, sym, ap, subst, length, None, Ok}
use Rattle.run_queries.specs.Answers.{answer}
use Rattle.run_queries.specs.Queries.{bad_query}
use Rattle.bench_core.specs.Shown.{Shown, project_of, version_of}
use Rattle.bench_core.specs.Asks.{TellsRun}
use Rattle.bench_core.specs.declared.asked.Asked.{Asked}
use Rattle.bench_core.specs.declared.asked.Asked.TheVariants.{Answer}
use Rattle.bench_core.specs.declared.recent.Asking.{Asking}
use Rattle.bench_core.proofs.Keeping.{told_kept, told_more, answer_told, kept_tells}
use Rattle.bench_core.proofs.bench.Bench.told.Goals as goal

pub invariant_of-self : goal.invariant_of-self
invariant_of-self g c =
    let i = c.self.inside in
    (c.self.invariant.0, c.self.invariant.1, c.self.invariant.2, told_kept i.table.slots (length i.journal.items) i.recent c.self.invariant.3 c.answer.new.self c.answer.ensures.stays, c.self.invariant.4)

pub returns-in-Some-clause-tells : goal.returns-in-Some-clause-tells
returns-in-Some-clause-tells g c =
    let b = c.args.self.now in
    let i = c.self.inside in
    let asking : Asking = record { version = c.version-version.result; query = c.args.query } in
    let at : c.version-version.result ≡ length i.journal.items = c.version-version.ensures ∙ ap version_of (sym c.self.view_is) in
    let is : answer (project_of b) c.args.query ≡ Ok c.in-Some.body = rw (← c.self.view_is) ((c.self.invariant.3 (asking, c.in-Some.body) c.in-Some.ensures.kept).1 at) in
    rw c.answered.ensures (subst (λ (s : Shown). TellsRun b c.args.query (Answer (version_of s) c.in-Some.body)) (sym c.self.view_is) (kept_tells b c.args.query c.in-Some.body c.requires.good is))

pub invariant_of-self-2 : goal.invariant_of-self-2
invariant_of-self-2 g c =
    let i = c.self.inside in
    (c.self.invariant.0, c.self.invariant.1, c.self.invariant.2, told_kept i.table.slots (length i.journal.items) i.recent c.self.invariant.3 c.answer.new.self c.answer.ensures.stays, c.self.invariant.4)

pub invariant_of-self-in-Answer : goal.invariant_of-self-in-Answer
invariant_of-self-in-Answer g c =
    let i = c.self-2.inside in
    let b : Shown = record { table = i.table; journal = i.journal.items } in
    let q = c.args.query in
    let asking : Asking = record { version = c.version-version.result; query = q } in
    let found : b ≡ record { table = c.self.inside.table; journal = c.self.inside.journal.items } = c.self-2.view_is ∙ c.found-told.ensures.unchanged in
    let same : b ≡ c.args.self.now = found ∙ c.self.view_is in
    let at : c.version-version.result ≡ length i.journal.items = c.version-version.ensures ∙ ap version_of (sym same) in
    let good : bad_query (project_of b) q ≡ None = subst (λ (s : Shown). bad_query (project_of s) q ≡ None) (sym same) c.requires.good in
    let tells : TellsRun b q c.found-told.result = subst (λ (s : Shown). TellsRun s q c.found-told.result) (sym found) c.found-told.ensures.tells in
    let is : answer i.table.slots q ≡ Ok c.in-Answer.body = answer_told b q c.in-Answer.body good c.in-Answer.version (subst (λ (r : Asked). TellsRun b q r) c.in-Answer.is tells) in
    (c.self-2.invariant.0, c.self-2.invariant.1, c.self-2.invariant.2, told_more i.table.slots (length i.journal.items) i.recent c.self-2.invariant.3 c.keep.new.self (asking, c.in-Answer.body) c.keep.ensures at is, c.self-2.invariant.4)

pub returns-in-Answer-clause-tells : goal.returns-in-Answer-clause-tells
returns-in-Answer-clause-tells g c = subst (λ (s : Shown). TellsRun s c.args.query c.found-told.result) c.self.view_is c.found-told.ensures.tells

pub returns-in_default-told : goal.returns-in_default-told
returns-in_default-told g c = record {
  tells = subst (λ (s : Shown). TellsRun s c.args.query c.found-told.result) c.self.view_is c.found-told.ensures.tells;
  unchanged = c.found-told.ensures.unchanged ∙ c.self.view_is;
}
