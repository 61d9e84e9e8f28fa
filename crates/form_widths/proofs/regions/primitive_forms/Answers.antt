use Rattle.form_widths.specs.PrimitiveLaws as Primitive
use Rattle.form_widths.proofs.regions.primitive_forms.Goals as goal

pub returns-clause-part : goal.returns-clause-part
returns-clause-part c = Primitive.primitive_part

pub returns-clause-nonzero : goal.returns-clause-nonzero
returns-clause-nonzero c = Primitive.primitive_nonzero
