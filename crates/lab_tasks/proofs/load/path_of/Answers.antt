use Rattle.std.proofs.Common.{◌≡◌, ◌∙◌, sym, codes, string_bytes, append_assoc}
use Rattle.std.proofs.lemmas.Result.{IfOk-weaker}
use Rattle.lab_tasks.specs.Kept.{offer_name, offer_path}
use Rattle.lab_tasks.proofs.load.path_of.Goals as goal

pub returns : goal.returns
returns c =
    IfOk-weaker c.format.result _ (λ name. string_bytes name ≡ offer_path c.args.folder.now c.args.offer)
    (λ name h. h ∙ sym (append_assoc c.args.folder.now (codes "/") (offer_name c.args.offer)))
    c.format.ensures.ok
