-- A list that is built item by item, while another is handed out from its front.
use Rattle.std.proofs.Common.{◌≡◌, ℕ, ◌+◌, ◌<◌, ◌≤◌, ℤ, length, get_or, take, drop, List, [], ◌∷◌, ◌++◌, map, Option, Some, None, sym, ap, ap₂, ◌∙◌, arith, drop-cons, length-drop, add-one}
use Rattle.std.specs.Prelude.{option_map, unwrap_or}
use Rattle.std.specs.Option.{option_or}
use Rattle.std.proofs.lemmas.List.{take_more, take_all, map-append}
use Rattle.exact_math.specs.Rational.{ℚ, whole}
use Rattle.int_model.specs.declared.model.Column.{Column}
use Rattle.mps_model.specs.declared.tables.bounds.ColumnBounds.{ColumnBounds}
use Rattle.mps_model.specs.Tables.{Tables}
use Rattle.mps_model.specs.Sides.{zero_ℚ}
use Rattle.mps_model.specs.Bounds.{lower_of, upper_of}
use Rattle.mps_model.specs.StatedModel.{stated_column}
use Rattle.mps_model.specs.KeptBounds.{said_of}

-- ---- over plain lists

-- x stands at place i of all, and rest behind it
pub record IsTurn {A X : Type 0} (view : A → X) (all : List X) (i : ℕ) (x : A) (rest : List A) (d : X) : Type 0 where
  pub within : i < length all
  pub here : view x ≡ get_or all i d
  pub left : map view rest ≡ drop (i + 1) all

pub turn : {A X : Type 0} (view : A → X) (all : List X) (i : ℕ) (x : A) (source rest : List A) (d : X)
    → map view source ≡ drop i all → source ≡ x ∷ rest → IsTurn view all i x rest d
turn view all i x source rest d left takes =
    let front : view x ∷ map view rest ≡ drop i all = ap (map view) (sym takes) ∙ left in
    let within : i < length all = omega (arith, length-drop i all, ap length front) in
    let parts = front ∙ drop-cons all i d within in
    record { within = within; here = cc; left = rw add-one cc }

pub none_left : {A X : Type 0} (view : A → X) (all : List X) (i : ℕ) (source : List A) → map view source ≡ drop i all → source ≡ [] → length all ≤ i
none_left view all i source left none =
    let end : [] ≡ drop i all = ap (map view) (sym none) ∙ left in
    omega (arith, length-drop i all, ap length end)

pub all_taken : {A X : Type 0} (view : A → X) (all : List X) (i : ℕ) (source : List A) → map view source ≡ drop i all → source ≡ [] → take i all ≡ all
all_taken view all i source left none = take_all i all (none_left view all i source left none)

-- one more item of a list that is built from another
pub built_more : {X Y : Type 0} (f : X → Y) (all : List X) (i : ℕ) (d : X) (built : List Y) (y : Y)
    → i < length all → built ≡ map f (take i all) → y ≡ f (get_or all i d) → built ++ y ∷ [] ≡ map f (take (i + 1) all)
built_more f all i d built y within so_far at =
    ap₂ (λ ys z. ys ++ z ∷ []) so_far at ∙ sym (map-append f (take i all) (get_or all i d ∷ [])) ∙ ap (map f) (sym (take_more all i d within))

-- ---- a column of the model

pub column_is : (tables : Tables) (upper : Option ℤ) (name : List ℕ) (said : ColumnBounds) (given : Option ℚ) (column : Column)
    → said ≡ said_of tables.bounds name → given ≡ option_map whole upper
    → column.name ≡ name
    → column.lo ≡ unwrap_or (unwrap_or said.lower (Some zero_ℚ)) zero_ℚ
    → column.hi ≡ unwrap_or (option_or (unwrap_or said.upper None) given) zero_ℚ
    → column ≡ stated_column upper tables name
unfolding said_of
column_is tables upper name said given column says gives named lo hi =
    let low : column.lo ≡ unwrap_or (lower_of tables name) zero_ℚ = lo ∙ ap (λ (s : ColumnBounds). unwrap_or (unwrap_or s.lower (Some zero_ℚ)) zero_ℚ) says in
    let high : column.hi ≡ unwrap_or (upper_of upper tables name) zero_ℚ =
    hi ∙ ap₂ (λ (s : ColumnBounds) g. unwrap_or (option_or (unwrap_or s.upper None) g) zero_ℚ) says gives in
    ap₂ (λ n (bounds : Column). record { name = n; lo = bounds.lo; hi = bounds.hi }) named
    (ap₂ (λ l h. record { name = name; lo = l; hi = h }) low high)
