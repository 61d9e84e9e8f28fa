use Rattle.std.proofs.Common.{◌≡◌, ◌∙◌, sym, length, ap, subst}
use Rattle.std.proofs.lemmas.Slice.Zip.{AllZip-long}
use Rattle.farkas_rows.specs.Refutes.{HasForms}
use Rattle.node_point.proofs.parts.is_point.Goals as goal

pub is_in_rows-requires : goal.is_in_rows-requires
is_in_rows-requires c = AllZip-long _ _ _ (c.is_in_box.ensures.0 c.if-not-is_in_box.false) ∙ ap length c.bounds.ensures.value

pub is_on_path-requires : goal.is_on_path-requires
is_on_path-requires c =
    let long : length c.args.numerators.now ≡ length c.args.rows.now.box = AllZip-long _ _ _ (c.is_in_box.ensures.0 c.if-not-is_in_box.false) ∙ ap length c.bounds.ensures.value in
    subst (λ n. HasForms n c.args.path.now) (sym long) c.requires

pub is_below_cut-requires : goal.is_below_cut-requires
is_below_cut-requires c = AllZip-long _ _ _ (c.is_in_box.ensures.0 c.if-not-is_in_box.false) ∙ ap length c.bounds.ensures.value
