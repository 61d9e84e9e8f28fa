-- The lines that are printed of a tree over at most 256 rows and columns are no longer than a line may be.
use Rattle.std.proofs.Common.{◌≡◌, ℕ, zero, suc, ◌+◌, ◌*◌, ◌^◌, ◌<◌, ◌≤◌, ℤ, pos, negsuc, List, [], ◌∷◌, ◌++◌, length, get_or, map, All, Option, Some, None, IfSome, IsSome, decimal, option_map, option_to_list, refl, sym, ap, arith, length-append, true≢false}
use Rattle.std.specs.Prelude.{flat_map}
use Rattle.std.specs.Fmt.{signed_decimal}
use Rattle.std.specs.List.Sorted.{IsStrictlyIncreasing}
use Rattle.std.proofs.lemmas.Fmt.{length-decimal-le_wide}
use Rattle.std.proofs.lemmas.Int.{ints}
use Rattle.std.proofs.lemmas.List.{length-map}
use Rattle.std.proofs.lemmas.List.Elements.{All-nil, All-cons, All-head, All-tail, All-get_or, All-map, All-weaker}
use Rattle.whole_rows.specs.declared.bounds.Bounds.{Bounds}
use Rattle.whole_rows.specs.WholeRows.{WholeRow, WholeRows}
use Rattle.farkas_rows.specs.declared.line.Use.{Use}
use Rattle.farkas_rows.specs.declared.line.CutUse.{CutUse}
use Rattle.farkas_rows.specs.declared.line.Line.{Line}
use Rattle.farkas_rows.specs.declared.path.Slice.{Slice}
use Rattle.farkas_rows.specs.Inequalities.{Inequality, row_sides, column_bounds, slice_sides, inequalities, inequality_at}
use Rattle.farkas_rows.specs.Refutes.{multipliers}
use Rattle.proof_tree.specs.Trees.{IsOfSize}
use Rattle.proof_text.specs.Spelling.{further, in_words, cut_word, use_word, line_words}
use Rattle.proof_text.specs.Printable.{IsMultiplier, IsPrintableLine}

-- ---- how many inequalities there are

row_sides-length : (rows : List WholeRow) → length (flat_map row_sides rows) ≡ 2 * length rows
row_sides-length [] = refl
row_sides-length (row ∷ rows) = omega (arith, row_sides-length rows)

column_bounds-length : (columns column : ℕ) (box : List Bounds) → length (column_bounds columns column box) ≡ 2 * length box
column_bounds-length columns column [] = refl
column_bounds-length columns column (bounds ∷ box) = omega (arith, column_bounds-length columns (suc column) box)

slice_sides-length : (path : List Slice) → length (flat_map slice_sides path) ≡ 2 * length path
slice_sides-length [] = refl
slice_sides-length (slice ∷ path) = omega (arith, slice_sides-length path)

-- two for each row, each column and each slice, and that of the end
pub inequalities-length : (rows : WholeRows) (path : List Slice) (end : Option Inequality) → length (inequalities rows path end) ≡ 2 * length rows.rows + 2 * length rows.box + 2 * length path + 1
inequalities-length rows path end =
    omega (
      arith,
      length-append (flat_map row_sides rows.rows) (column_bounds (length rows.box) 0 rows.box ++ (flat_map slice_sides path ++ end ∷ [])),
      length-append (column_bounds (length rows.box) 0 rows.box) (flat_map slice_sides path ++ end ∷ []),
      length-append (flat_map slice_sides path) (end ∷ []),
      row_sides-length rows.rows,
      column_bounds-length (length rows.box) 0 rows.box,
      slice_sides-length path,
    )

-- a number behind them all names none
pub past : (sides : List (Option Inequality)) (number : ℕ) → IsSome (get_or sides number None) → number < length sides
past [] number there = absurd (true≢false (sym there))
past (side ∷ sides) zero there = omega arith
past (side ∷ sides) (suc number) there = omega (arith, past sides number there)

-- ---- how many of them a line uses

rising-ge : (numbers : List ℕ) → IsStrictlyIncreasing numbers → (k : ℕ) → k < length numbers → k ≤ get_or numbers k 0
rising-ge numbers rising zero h = omega arith
rising-ge numbers rising (suc k) h =
    let next : get_or numbers k 0 < get_or numbers (k + 1) 0 = rising k (omega (arith, h)) in
    let one : k + 1 ≡ suc k = omega arith in
    omega (arith, rising-ge numbers rising k (omega (arith, h)), next, ap (λ i. get_or numbers i 0) one)

rising-length : (numbers : List ℕ) (most : ℕ) → IsStrictlyIncreasing numbers → All (λ number. number < most) numbers → length numbers ≤ most
rising-length [] most rising below = omega arith
rising-length (first ∷ numbers) most rising below =
    let last : ℕ = length numbers in
    omega (arith, rising-ge (first ∷ numbers) rising last (omega arith), All-get_or (λ number. number < most) (first ∷ numbers) last 0 (omega arith) below)

-- ---- how long a word is

times-length : (times : ℤ) → IsMultiplier times → length (signed_decimal times) ≤ 38
times-length (pos n) h = length-decimal-le_wide 38 n (omega arith) (omega (arith, ints, h.1)) (omega (arith, ints, h.1))
times-length (negsuc n) h = absurd (omega (arith, ints, h.0))

value-length : (value : ℤ) → IsOfSize (2 ^ 97) value → length (signed_decimal value) ≤ 31
value-length (pos n) h = omega (arith, length-decimal-le_wide 30 n (omega arith) (omega (arith, ints, h.1)) (omega (arith, ints, h.1)))
value-length (negsuc n) h = omega (arith, length-decimal-le_wide 30 (suc n) (omega arith) (omega (arith, ints, h.0)) (omega (arith, ints, h.0)))

use_word-length : (item : Use) → item.index < 2049 → IsMultiplier item.times → length (use_word item) ≤ 43
use_word-length item index times =
    omega (arith, length-append (decimal item.index) (58 ∷ signed_decimal item.times), length-decimal-le_wide 4 item.index (omega arith) (omega (arith, index)) (omega (arith, index)), times-length item.times times)

cut_words-length : (cut : Option CutUse) → IfSome cut (λ (used : CutUse). IsOfSize (2 ^ 97) used.value × IsMultiplier used.times) → length (further (option_to_list (option_map cut_word cut))) ≤ 72
cut_words-length None h = omega arith
cut_words-length (Some cut) h =
    omega (arith, length-append (32 ∷ cut_word cut) [], length-append (signed_decimal cut.value) (58 ∷ signed_decimal cut.times), value-length cut.value h.0, times-length cut.times h.1)

uses-length : (items : List Use) → All (λ (item : Use). item.index < 2049) items → All (λ (item : Use). IsMultiplier item.times) items → length (further (map use_word items)) ≤ 44 * length items
uses-length [] below times = omega arith
uses-length (item ∷ items) below times =
    omega (
      arith,
      length-append (32 ∷ use_word item) (further (map use_word items)),
      use_word-length item (All-head (λ (used : Use). used.index < 2049) item items below) (All-head (λ (used : Use). IsMultiplier used.times) item items times),
      uses-length items (All-tail (λ (used : Use). used.index < 2049) item items below) (All-tail (λ (used : Use). IsMultiplier used.times) item items times),
    )

-- ---- how long a line is

unmapped : (items : List Use) → All IsMultiplier (map (λ (item : Use). item.times) items) → All (λ (item : Use). IsMultiplier item.times) items
unmapped [] h = All-nil (λ (item : Use). IsMultiplier item.times)
unmapped (item ∷ items) h =
    All-cons (λ (used : Use). IsMultiplier used.times) item items (All-head IsMultiplier item.times (map (λ (used : Use). used.times) items) h)
    (unmapped items (All-tail IsMultiplier item.times (map (λ (used : Use). used.times) items) h))

line_parts : (cut : Option CutUse) (items : List Use) → All IsMultiplier (multipliers (record { cut = cut; items = items })) → IfSome cut (λ (used : CutUse). IsOfSize (2 ^ 97) used.value)
    → IfSome cut (λ (used : CutUse). IsOfSize (2 ^ 97) used.value × IsMultiplier used.times) × All (λ (item : Use). IsMultiplier item.times) items
line_parts None items times value = (tt, unmapped items times)
line_parts (Some cut) items times value =
    ((value, All-head IsMultiplier cut.times (map (λ (used : Use). used.times) items) times), unmapped items (All-tail IsMultiplier cut.times (map (λ (used : Use). used.times) items) times))

further-append : (words others : List (List ℕ)) → length (further (words ++ others)) ≡ length (further words) + length (further others)
further-append [] others = omega arith
further-append (word ∷ words) others =
    omega (arith, length-append (32 ∷ word) (further (words ++ others)), length-append (32 ∷ word) (further words), further-append words others)

-- a line of multipliers behind a first word of one byte
pub printed_line-bytes : (rows : WholeRows) (path : List Slice) (end : Option Inequality) (first : ℕ) (line : Line) → length rows.rows ≤ 256 → length rows.box ≤ 256 → length path ≤ 2 * length rows.box → IsPrintableLine rows path end line
    → length (in_words ((first ∷ []) ∷ line_words line)) ≤ 90300
printed_line-bytes rows path end first line few narrow short printable =
    let sides : length (inequalities rows path end) ≤ 2049 = omega (arith, inequalities-length rows path end, few, narrow, short) in
    let below : All (λ (item : Use). item.index < 2049) line.items =
    All-weaker (λ (item : Use). IsSome (inequality_at rows path end item.index)) (λ (item : Use). item.index < 2049) (λ item there. omega (arith, past (inequalities rows path end) item.index there, sides)) line.items printable.there in
    let parts = line_parts line.cut line.items printable.times printable.value in
    let count : length line.items ≤ 2049 =
    omega (arith, rising-length (map (λ (item : Use). item.index) line.items) 2049 printable.rising (All-map (λ number. number < 2049) (λ (item : Use). item.index) line.items below), length-map line.items (λ (item : Use). item.index)) in
    omega (arith, further-append (option_to_list (option_map cut_word line.cut)) (map use_word line.items), cut_words-length line.cut parts.0, uses-length line.items below parts.1, count)

-- so it is no longer than a line may be
pub printed_line-length : (rows : WholeRows) (path : List Slice) (end : Option Inequality) (first : ℕ) (line : Line) → length rows.rows ≤ 256 → length rows.box ≤ 256 → length path ≤ 2 * length rows.box → IsPrintableLine rows path end line
    → length (in_words ((first ∷ []) ∷ line_words line)) ≤ 98304
printed_line-length rows path end first line few narrow short printable = omega (arith, printed_line-bytes rows path end first line few narrow short printable)
