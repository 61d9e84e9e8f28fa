-- In a text without fault each column is an integer between two bounds.
use Rattle.std.proofs.Common.{◌≡◌, ◌&&◌, ℤ, ℕ, List, [], ◌∷◌, Bool, true, false, not, cond, length, Option, Some, None, refl}
use Rattle.std.specs.Prelude.{filter_map, slice_get, is_some}
use Rattle.std.specs.List.{list_all, list_any, cons_option}
use Rattle.std.proofs.lemmas.Bool.{and_from}
use Rattle.mps_model.specs.declared.layout.Layout.{Layout}
use Rattle.mps_model.specs.declared.fault.FaultKind.{FaultKind}
use Rattle.mps_model.specs.declared.fault.FaultKind.TheVariants as faults
use Rattle.mps_model.specs.declared.lines.section.Section.TheVariants.{Endata as ENDATA}
use Rattle.mps_model.specs.Sections.{begins, text_lines}
use Rattle.mps_model.specs.Tables.{Tables, tables_of}
use Rattle.mps_model.specs.Bounds.{column_names, lower_of, upper_of, is_integer}
use Rattle.mps_model.specs.StatedModel.{model_lines}
use Rattle.mps_model.specs.FaultRules.{first_holding}
use Rattle.mps_model.specs.Meaning.{fault_on, first_line_fault, judged_lines, column_kind, first_line_of, column_fault_at, first_column_fault, whole_fault, fault_at, is_settled, are_settled}
use Rattle.mps_model.specs.TextScanLaws.{nothing_first, unmapped}

-- ---- over plain variables

first_none : {B : Type 0} (o : Option B) (rest : List B) → slice_get (cons_option o rest) 0 ≡ None → o ≡ None
first_none None rest h = refl
first_none (Some y) rest h = cc

rest_none : {B : Type 0} (o : Option B) (rest : List B) → slice_get (cons_option o rest) 0 ≡ None → slice_get rest 0 ≡ None
rest_none None rest h = h
rest_none (Some y) rest h = cc

all_pass : {A B : Type 0} (f : A → Option B) (test : A → Bool) → ((x : A) → f x ≡ None → test x ≡ true)
    → (xs : List A) → slice_get (filter_map f xs) 0 ≡ None → list_all test xs ≡ true
all_pass f test passes [] h = refl
all_pass f test passes (x ∷ xs) h =
    and_from (test x) (list_all test xs) (passes x (first_none (f x) (filter_map f xs) h)) (all_pass f test passes xs (rest_none (f x) (filter_map f xs) h))

under : {A : Type 0} (b : Bool) (o : Option A) (x : A) → cond b o (Some x) ≡ None → o ≡ None
under true o x h = h
under false o x h = cc

no_rule : (integer lower upper d : Bool) (A B C D : FaultKind)
    → first_holding ((not integer, A) ∷ (not lower, B) ∷ (not upper, C) ∷ (d, D) ∷ []) ≡ None → (integer && lower && upper) ≡ true
no_rule false lower upper d A B C D h = cc
no_rule true false upper d A B C D h = cc
no_rule true true false d A B C D h = cc
no_rule true true true d A B C D h = refl

-- ---- of a text

settled : (given : Option ℤ) (tables : Tables) (column : List ℕ) → column_fault_at given tables column ≡ None → is_settled given tables column ≡ true
settled given tables column h =
    no_rule (is_integer tables column) (is_some (lower_of tables column)) (is_some (upper_of given tables column))
    _
    faults.Continuous faults.NoLower faults.NoUpper faults.NegativeUpper
    (unmapped (fault_on (first_line_of tables column)) (column_kind given tables column) h)

all_settled : (given : Option ℤ) (tables : Tables) → first_column_fault given tables ≡ None → are_settled given tables ≡ true
all_settled given tables h = all_pass (column_fault_at given tables) (is_settled given tables) (settled given tables) (column_names tables.columns) h

pub faultless_settled : (layout : Layout) (given : Option ℤ) (text : List ℕ) → fault_at layout given text ≡ None
    → are_settled given (tables_of layout (model_lines text)) ≡ true
unfolding fault_at
faultless_settled layout given text h =
    all_settled given (tables_of layout (model_lines text))
    (under (list_any (begins ENDATA) (text_lines text)) (first_column_fault given (tables_of layout (model_lines text)))
    (fault_on (length (text_lines text)) faults.NoEnd)
    (nothing_first (first_line_fault layout [] (judged_lines text)) (whole_fault layout given text) h).1)
