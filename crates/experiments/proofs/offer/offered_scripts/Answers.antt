use Rattle.std.proofs.Common.{◌≡◌, ◌^◌, ◌-◌, ◌∙◌, rules, ap, sym, subst, arith, length, List, [], length-set}
use Rattle.std.specs.Prelude.{replicate, slice_set}
use Rattle.std.proofs.lemmas.List.{length-replicate}
use Rattle.omega_net.specs.declared.script.ScriptEntry.{ScriptEntry}
use Rattle.project_book.specs.Scales.{most_entries}
use Rattle.project_book.specs.Scripts.{AreFew}
use Rattle.project_book.proofs.Lengths.{few_set, few_none}
use Rattle.experiments.specs.Loads.{scale_of}
use Rattle.experiments.specs.Offers.{script_offered}
use Rattle.experiments.proofs.Draws.{set_next}
use Rattle.experiments.proofs.offer.offered_scripts.Goals as goal

pub loop-proc-preserved : goal.loop-proc-preserved
loop-proc-preserved c =
    let each = script_offered c.args.offer in
    let most = most_entries (scale_of c.args.offer.load) in
    let p = c.loop-proc.proc in
    let set = c.in_ok-set.ensures.ok in (
      ap length set ∙ length-set _ _ _ ∙ c.loop-proc.invariant.0,
      subst (AreFew most) (sym set) (few_set most p c.loop-proc.all _ (omega (arith, c.loop-proc.invariant.0)) c.loop-proc.invariant.1 (omega (arith, c.in_ok-offered_script.ensures.few))),
      set
          ∙ ap (λ (es : List ScriptEntry). slice_set c.loop-proc.all p es) c.in_ok-offered_script.ensures.offered
          ∙ ap (λ (all : List (List ScriptEntry)). slice_set all p (each p)) c.loop-proc.invariant.2
          ∙ set_next each p (2 ^ c.args.offer.load.k) (omega arith),
    )

pub loop-proc-init : goal.loop-proc-init
loop-proc-init c =
    let most = most_entries (scale_of c.args.offer.load) in
    let none : c.in_ok-all.all ≡ replicate (2 ^ c.args.offer.load.k) [] = search rules in
    let all : 2 ^ c.args.offer.load.k ≡ 2 ^ c.args.offer.load.k - 0 = omega arith in
    (ap length none ∙ length-replicate (2 ^ c.args.offer.load.k) [], subst (AreFew most) (sym none) (few_none most (2 ^ c.args.offer.load.k)), none ∙ ap (λ n. replicate n []) all)
