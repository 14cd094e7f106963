use Rattle.std.proofs.Common.{◌≡◌, ◌∙◌, ◌+◌, ap, length, rules, arith}
use Rattle.std.proofs.lemmas.List.{length_push}
use Rattle.lab_tasks.specs.Counts.{is_of, references, referrers}
use Rattle.lab_tasks.proofs.Hottest.{naming-none, naming-taken, hottest-all, hottest-eight}
use Rattle.lab_tasks.proofs.hot.hottest_of.Goals as goal

pub naming-init : goal.naming-init
naming-init c = record {
  few = search rules;
  long = search rules;
  named =
      naming-none (λ n. referrers c.args.project.now (is_of c.args.project.now c.args.parts n)) (λ n. references c.args.project.now (is_of c.args.project.now c.args.parts n))
      c.in_ok-counts.counts.processors.items c.in_ok-counts.counts.references.items _ c.in_ok-counts.ensures.each c.in_ok-counts.ensures.times (search rules);
}

pub naming-preserved : goal.naming-preserved
naming-preserved c = record {
  few =
      let pushed : length c.push.new.self.items ≡ length c.naming.hots.items + 1 = ap length c.in_ok-push.ensures.items ∙ length_push c.naming.hots.items _ in
      omega arith;
  long = search rules;
  named =
      naming-taken (λ n. referrers c.args.project.now (is_of c.args.project.now c.args.parts n)) (λ n. references c.args.project.now (is_of c.args.project.now c.args.parts n))
      c.naming.counts.processors.items c.naming.counts.references.items _ _ c.naming.hots.items _ c.in-Some.hot
      c.naming.invariant.named (search rules) (search rules) (search rules) (search rules);
}

pub returns-in_default : goal.returns-in_default
returns-in_default c =
    hottest-all (λ n. referrers c.args.project.now (is_of c.args.project.now c.args.parts n)) (λ n. references c.args.project.now (is_of c.args.project.now c.args.parts n))
    c.naming.counts.processors.items c.naming.counts.references.items c.naming.hots.items c.naming.invariant.few c.naming.invariant.named (search rules)

pub returns : goal.returns
returns c =
    hottest-eight (λ n. referrers c.args.project.now (is_of c.args.project.now c.args.parts n)) (λ n. references c.args.project.now (is_of c.args.project.now c.args.parts n))
    c.naming.counts.processors.items c.naming.counts.references.items c.naming.hots.items (omega arith) c.naming.invariant.named
