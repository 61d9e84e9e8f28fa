-- The lines of the columns, one after another.
use Rattle.std.proofs.Common.{◌≡◌, ℤ, ◌⊎◌, ⊎_elim, List, [], ◌∷◌, ◌++◌, ℕ, refl, sym, ap, ◌∙◌, subst₂, append_assoc}
use Rattle.std.specs.Prelude.{codes}
use Rattle.std.specs.Fmt.{signed_decimal}
use Rattle.std.proofs.lemmas.List.{append-nil}
use Rattle.int_model.specs.declared.model.Column.{Column}
use Rattle.solve_cli.specs.Report.{report_of, point_lines}

first_line : (column : Column) (value : ℤ) (columns : List Column) (values : List ℤ) → report_of (point_lines (column ∷ columns) (value ∷ values)) ≡ report_of (point_lines (column ∷ []) (value ∷ [])) ++ report_of (point_lines columns values)
first_line column value columns values =
    let line : List ℕ = (codes "POINT " ++ signed_decimal value ++ 32 ∷ column.name) ++ 10 ∷ [] in
    ap (λ first. first ++ report_of (point_lines columns values)) (sym (append-nil line))

module _ (front whole : List ℕ) (columns : List Column) (values : List ℤ) (so_far : front ++ report_of (point_lines columns values) ≡ whole) where
  -- with the line of one more column
  pub lines_more : (column : Column) (value : ℤ) (more_columns : List Column) (more_values : List ℤ) (next : List ℕ) → columns ≡ column ∷ more_columns → values ≡ value ∷ more_values
      → next ≡ front ++ report_of (point_lines (column ∷ []) (value ∷ [])) → next ++ report_of (point_lines more_columns more_values) ≡ whole
  lines_more column value more_columns more_values next is_first is_value grown =
      ap (λ n. n ++ report_of (point_lines more_columns more_values)) grown ∙ append_assoc front (report_of (point_lines (column ∷ []) (value ∷ []))) (report_of (point_lines more_columns more_values))
      ∙ ap (λ n. front ++ n) (sym (first_line column value more_columns more_values))
      ∙ subst₂ (λ cs vs. front ++ report_of (point_lines cs vs) ≡ whole) is_first is_value so_far

  nothing : (cs : List Column) (vs : List ℤ) → (cs ≡ []) ⊎ (vs ≡ []) → report_of (point_lines cs vs) ≡ []
  nothing [] vs e = refl
  nothing (c ∷ cs) [] e = refl
  nothing (c ∷ cs) (v ∷ vs) e = ⊎_elim (λ h. absurd cc) (λ h. absurd cc) e

  -- at the end of either list
  pub lines_all : (columns ≡ []) ⊎ (values ≡ []) → front ≡ whole
  lines_all e = sym (append-nil front) ∙ ap (λ n. front ++ n) (sym (nothing columns values e)) ∙ so_far
