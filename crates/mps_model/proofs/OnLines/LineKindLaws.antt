-- Which lines are data lines, and which lines have columns to keep to.
use Rattle.std.proofs.Common.{◌≡◌, ℕ, Bool, true, false, ◌&&◌, not, List, [], ◌∷◌, refl, sym, true≢false}
use Rattle.std.specs.Prelude.{◌==◌, ◌||◌}
use Rattle.mps_fields.specs.Lines.{Line, is_blank, is_comment, is_blank_line, is_data_line, is_section_line}
use Rattle.mps_fields.specs.FixedFields.{is_in_columns}
use Rattle.mps_model.specs.declared.layout.Layout.{Layout}
use Rattle.mps_model.specs.declared.layout.Layout.TheVariants.{Free, Fixed}
use Rattle.mps_model.specs.Sections.{is_content}
use Rattle.mps_model.specs.LineFaults.{keeps_columns}

-- neither a comment nor blank, and no word in front
blank_in_front : (blank star rest : Bool) → (not star && not (blank && rest)) ≡ true → (not blank && not star) ≡ false → (blank && not rest) ≡ true
blank_in_front blank true rest h k = absurd (true≢false (sym h))
blank_in_front true false rest h k = h
blank_in_front false false rest h k = absurd (true≢false k)

data_bytes : (bytes : List ℕ) → (not (is_comment bytes) && not (is_blank_line bytes)) ≡ true → is_section_line bytes ≡ false → is_data_line bytes ≡ true
data_bytes [] h k = absurd (true≢false (sym h))
data_bytes (byte ∷ bytes) h k = blank_in_front (is_blank byte) _ (is_blank_line bytes) h k

-- what says something and is no section line is a data line
pub content_is_data : (line : Line) → is_content line ≡ true → is_section_line line.bytes ≡ false → is_data_line line.bytes ≡ true
content_is_data line h k = data_bytes line.bytes h k

-- a word in front is no blank
no_blank : (blank star others kept : Bool) → (not blank && not star) ≡ true → (not (blank && others) || kept) ≡ true
no_blank true star others kept h = absurd (true≢false (sym h))
no_blank false star others kept h = refl

-- a section line has no columns to keep to
pub section_keeps_columns : (layout : Layout) (bytes : List ℕ) → is_section_line bytes ≡ true → keeps_columns layout bytes ≡ true
section_keeps_columns Free bytes h = refl
section_keeps_columns Fixed [] h = refl
section_keeps_columns Fixed (byte ∷ bytes) h = no_blank (is_blank byte) (byte == 42) (not (is_blank_line bytes)) (is_in_columns (byte ∷ bytes)) h
