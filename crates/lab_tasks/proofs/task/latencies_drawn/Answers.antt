use Rattle.std.proofs.Common.{ℕ, List, ap, subst, sym}
use Rattle.report_pictures.specs.LatencyPictures.{IsLatencyPicture}
use Rattle.lab_tasks.proofs.task.latencies_drawn.Goals as goal

pub returns-clause-done : goal.returns-clause-done
returns-clause-done c =
    let words = c.args.words.now.latency in
    let made = c.in_ok-text.ensures.text in
    let condition = c.in_ok-condition.condition in
    let heated = record condition { hot = made.0 } in (
      _,
      c.into_bytes.result.items,
      c.in_ok-project.ensures.filed,
      (
        condition,
        c.in_ok-condition.ensures.told,
        (
          made.0,
          made.1,
          made.2,
          made.3,
          subst (λ (text : List ℕ). IsLatencyPicture words.file.now heated made.1 text) (sym (ap (λ v. v.items) c.into_bytes.ensures.value)) made.4,
        ),
      ),
      c.in_ok-to_file_or_output.ensures,
    )
