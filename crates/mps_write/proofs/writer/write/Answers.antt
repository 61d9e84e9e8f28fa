use Rattle.std.proofs.Common.{◌≡◌, ◌≤◌, length, None, Ok, sym, ap, subst, ◌∙◌}
use Rattle.mps_fields.specs.Lines.{most_bytes}
use Rattle.mps_model.specs.declared.layout.Layout.TheVariants.{Free}
use Rattle.mps_model.specs.Meaning.{meaning}
use Rattle.mps_write.specs.CanonicalText.{canonical_text}
use Rattle.mps_write.proofs.CodeLaws.{then_of_ok}
use Rattle.mps_write.proofs.LineFits.{canonical_length}
use Rattle.mps_write.proofs.MeaningBack.{means_model}
use Rattle.mps_write.proofs.writer.write.Goals as goal

pub returns-clause-means : goal.returns-clause-means
returns-clause-means c =
    then_of_ok c.print.result (λ text. text ≡ canonical_text c.args.model.now) (λ text. meaning Free None text ≡ Ok c.args.model.now)
    (λ text is. ap (meaning Free None) is ∙ means_model c.args.model.now c.requires) c.print.ensures

pub returns-clause-size : goal.returns-clause-size
returns-clause-size c =
    then_of_ok c.print.result (λ text. text ≡ canonical_text c.args.model.now) (λ text. length text ≤ most_bytes)
    (λ text is. subst (λ bytes. length bytes ≤ most_bytes) (sym is) (canonical_length c.args.model.now c.requires)) c.print.ensures
