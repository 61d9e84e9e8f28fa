use Rattle.std.proofs.Common.{◌≡◌, ◌*◌, ℤ, List, length, sym, ap, ap₂, ◌∙◌, subst₂}
use Rattle.exact_vectors.specs.Matrices.{rows_of}
use Rattle.spaces.specs.Maps.{AffineMap, image, IsComposed}
use Rattle.spaces.specs.MapLaws.{composed_image, length-image}
use Rattle.spaces.specs.Tables.{Table, rows_in}
use Rattle.spaces.specs.TableLaws as Tables
use Rattle.spaces.proofs.affine.Affine.compose.Goals as goal

pub invariant_of-result : goal.invariant_of-result
invariant_of-result g c =
    let next : AffineMap = record { base = c.next.inside.base; lines = c.next.inside.lines } in
    ap length (c.in_ok-base.ensures.ok ∙ ap (λ (m : AffineMap). image m c.self.inside.base) (sym c.next.view_is))
    ∙ length-image next c.self.inside.base c.next.invariant
    ∙ sym (ap (λ (t : Table ℤ). t.rows) c.of_items-lines.ensures ∙ c.rows.ensures.count)

pub returns-clause-same : goal.returns-clause-same
returns-clause-same g c =
    let first : AffineMap = record { base = c.self.inside.base; lines = c.self.inside.lines } in
    let next : AffineMap = record { base = c.next.inside.base; lines = c.next.inside.lines } in
    let map : AffineMap = record { base = c.in_ok-base.base; lines = c.of_items-lines.result } in
    let height = ap (λ (t : Table ℤ). t.rows) c.of_items-lines.ensures ∙ c.rows.ensures.count in
    let width = ap (λ (t : Table ℤ). t.width) c.of_items-lines.ensures ∙ c.width.ensures.count in
    let items = ap (λ (t : Table ℤ). t.items) c.of_items-lines.ensures in
    let composed : IsComposed first next map = record {
      base = c.in_ok-base.ensures.ok ∙ ap (λ (m : AffineMap). image m c.self.inside.base) (sym c.next.view_is);
      lines = ap rows_in c.of_items-lines.ensures ∙ ap₂ (λ w h. rows_of w h c.in_ok-items.items.items) c.width.ensures.count c.rows.ensures.count ∙ c.in_ok-items.ensures.ok;
      height = height;
      width = width;
      size = ap length items ∙ c.in_ok-items.ensures.size ∙ ap₂ (λ h w. h * w) (sym height) (sym width);
    } in
    subst₂ (λ (m n : AffineMap). (v : List ℤ) → length v ≡ m.lines.width → image map v ≡ image n (image m v))
    c.self.view_is
    c.next.view_is
    (λ v e. composed_image first next map v c.self.invariant (Tables.HasWidth-rows_in first.lines c.width.ensures.size) composed)
