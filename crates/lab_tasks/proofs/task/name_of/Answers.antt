use Rattle.std.proofs.Common.{◌≡◌, ◌∙◌, sym, codes, string_bytes, append_assoc}
use Rattle.std.proofs.lemmas.Result.{IfOk-weaker}
use Rattle.lab_tasks.specs.Kept.{load_name, name_text}
use Rattle.lab_tasks.proofs.task.name_of.Goals as goal

pub returns : goal.returns
returns c =
    IfOk-weaker c.format.result _ (λ name. string_bytes name ≡ name_text c.args.folder.now c.args.load)
    (λ name h. h ∙ sym (append_assoc c.args.folder.now (codes "/") (load_name c.args.load)))
    c.format.ensures.ok
