-- The canonical text of a plain model means that model, and is no longer than a text may be.
use Rattle.std.proofs.Common.{◌≡◌, ℕ, ◌+◌, List, [], ◌∷◌, ◌++◌, length, None, Ok, refl, sym, ap, ◌∙◌, append_assoc}
use Rattle.std.specs.Prelude.{codes}
use Rattle.int_model.specs.declared.model.Model.{Model}
use Rattle.mps_fields.specs.Lines.{Line, numbered}
use Rattle.mps_model.specs.declared.layout.Layout.TheVariants.{Free}
use Rattle.mps_model.specs.declared.lines.section.Section.TheVariants.{Endata as ENDATA}
use Rattle.mps_model.specs.Sections.{text_lines}
use Rattle.mps_model.specs.StatedModel.{stated}
use Rattle.mps_model.specs.Meaning.{first_column_fault, unless_fault, meaning}
use Rattle.mps_model.specs.SectionLaws.{begins_found}
use Rattle.mps_model.specs.TextScanLaws.{IsScanned, end_found}
use Rattle.mps_write.specs.PlainModels.{IsPlain}
use Rattle.mps_write.specs.CanonicalText.{canonical_lines, canonical_text}
use Rattle.mps_write.proofs.LineTexts.{lines_of-in_lines}
use Rattle.mps_write.proofs.Scans.{line_of, section_clear, numbered-append}
use Rattle.mps_write.proofs.SectionScans.{end_heading}
use Rattle.mps_write.proofs.ReadBack.{stated_back, faultless_columns}
use Rattle.mps_write.proofs.TextScans.{to_bounds, text_passed}
use Rattle.mps_write.proofs.LineFits.{printed_lines}

one_line : (number : ℕ) (bytes : List ℕ) → numbered number (bytes ∷ []) ≡ line_of number bytes ∷ []
unfolding numbered
one_line number bytes = refl

module _ (model : Model) (plain : IsPlain model) where
  lines_are : to_bounds model plain ++ codes "ENDATA" ∷ [] ≡ canonical_lines model
  lines_are = simp append_assoc

  pub means_model : meaning Free None (canonical_text model) ≡ Ok model
  means_model =
      let text : List ℕ = canonical_text model in
      let passed = text_passed model plain in
      let lines = to_bounds model plain in
      let number : ℕ = 1 + length lines in
      let last : Line = line_of number (codes "ENDATA") in
      let whole : numbered 1 lines ++ last ∷ [] ≡ text_lines text =
      ap (λ ls. numbered 1 lines ++ ls) (sym (one_line number (codes "ENDATA"))) ∙ sym (numbered-append 1 lines (codes "ENDATA" ∷ []))
      ∙ ap (numbered 1) (lines_are ∙ sym (lines_of-in_lines (canonical_lines model) (printed_lines model plain)))
      in
      let scanned : IsScanned (text_lines text) (numbered 1 lines) (last ∷ []) = record { whole = whole; unended = passed.passed.unended } in
      let clear = section_clear (numbered 1 lines) passed.sections passed.tables passed.passed last ENDATA end_heading.printed end_heading.few end_heading.begun (end_heading.at number) (end_heading.alone number) passed.next in
      end_found Free None text (numbered 1 lines) [] last scanned passed.passed.faultless clear (begins_found ENDATA last (end_heading.at number))
      ∙ ap (λ t. unless_fault (stated None t) (first_column_fault None t)) passed.passed.tables_are
      ∙ ap (unless_fault (stated None passed.tables)) (faultless_columns model plain passed.tables passed.say)
      ∙ ap Ok (stated_back model plain passed.tables passed.say)
