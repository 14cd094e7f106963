use Rattle.std.proofs.Common.{◌∙◌, sym}
use Rattle.std.proofs.lemmas.Result.{IfOk-weaker}
use Rattle.report_pictures.specs.SeriesPictures.{gauge_curves}
use Rattle.report_pictures.proofs.Each.{each_mapped}
use Rattle.report_pictures.proofs.curves.curves_of.Goals as goal

pub returns : goal.returns
returns c =
    IfOk-weaker c.named_curves.result _ _ (λ v is. is ∙ sym (each_mapped (gauge_curves c.args.bins c.args.all.now) (λ name. name.now) 0 c.args.names.now))
    c.named_curves.ensures
