-- When a line shows that a node has no point: it combines the node's inequalities to one that is false.
use Rattle.std.specs.Prelude.{◌≡◌, ℕ, ◌+◌, ◌^◌, max, ℤ, pos, ◌≤ℤ◌, ◌<ℤ◌, List, [], ◌++◌, length, map, sum_by, All, Option, IsSome, option_map, option_to_list, unwrap_or, unsigned_abs}
use Rattle.std.specs.List.Sorted.{IsStrictlyIncreasing}
use Rattle.exact_math.specs.Ring.{integers}
use Rattle.exact_vectors.specs.Vectors.{dot, zeros}
use Rattle.exact_vectors.specs.Matrices.{combination}
use Rattle.whole_rows.specs.WholeRows.{WholeRows}
use Rattle.farkas_rows.specs.declared.line.Use.{Use}
use Rattle.farkas_rows.specs.declared.line.CutUse.{CutUse}
use Rattle.farkas_rows.specs.declared.line.Line.{Line}
use Rattle.farkas_rows.specs.declared.path.Slice.{Slice}
use Rattle.farkas_rows.specs.Inequalities.{Inequality, inequality_at, cut_inequality}

-- the multiplier of the cut, where it is used
abbrev pub cut_times : Option CutUse → List ℤ
cut_times cut = option_to_list (option_map (λ (cut : CutUse). cut.times) cut)

-- the inequality of the cut, where it is used
abbrev pub cut_inequalities : WholeRows → Option CutUse → List Inequality
cut_inequalities rows cut = option_to_list (option_map (λ (cut : CutUse). cut_inequality rows cut.value) cut)

-- the line of these parts
abbrev pub line_of : Option CutUse → List Use → Line
line_of cut items = record { cut = cut; items = items }

-- the multipliers of a line: that of the cut first
abbrev pub multipliers : Line → List ℤ
multipliers line = cut_times line.cut ++ map (λ (item : Use). item.times) line.items

-- what stands for the inequality of a number that names none: 0 is at most 0
abbrev pub nothing : Inequality
nothing = record { factors = []; limit = pos 0 }

-- the inequalities that a line combines, in the order of its multipliers
abbrev pub used : WholeRows → List Slice → Option Inequality → Line → List Inequality
used rows path end line = cut_inequalities rows line.cut ++ map (λ (item : Use). unwrap_or (inequality_at rows path end item.index) nothing) line.items

-- the weight of an inequality: the sizes of its limit and of its factors, and at least 1
abbrev pub inequality_weight : Inequality → ℕ
inequality_weight inequality = max 1 (unsigned_abs inequality.limit + sum_by unsigned_abs inequality.factors)

-- the weights of inequalities
abbrev pub weights : List Inequality → List ℤ
weights inequalities = map (λ (inequality : Inequality). pos (inequality_weight inequality)) inequalities

-- the weight of a line: the sum of each multiplier times the weight of its inequality
abbrev pub line_weight : WholeRows → List Slice → Option Inequality → Line → ℤ
line_weight rows path end line = dot integers (multipliers line) (weights (used rows path end line))

-- a multiplier that a line may have
abbrev pub IsMultiplier : ℤ → Type 0
IsMultiplier times = (pos 1 ≤ℤ times) × (times ≤ℤ pos (2 ^ 126))

-- with these multipliers the left sides come to 0 in each column, and the limits to less than 0
pub record ComesToNegative (columns : ℕ) (times : List ℤ) (inequalities : List Inequality) : Type 0 where
  pub vanishes : combination integers columns times (map (λ (inequality : Inequality). inequality.factors) inequalities) ≡ zeros integers columns
  pub negative : dot integers times (map (λ (inequality : Inequality). inequality.limit) inequalities) <ℤ pos 0

-- The line shows that no values meet the inequalities that it uses: its numbers rise and name inequalities of the node, it
-- is not too heavy, and its combination of them says that 0 is at most a negative number.
pub record Refutes (rows : WholeRows) (path : List Slice) (end : Option Inequality) (line : Line) : Type 0 where
  pub rising : IsStrictlyIncreasing (map (λ (item : Use). item.index) line.items)
  pub there : All (λ (item : Use). IsSome (inequality_at rows path end item.index)) line.items
  pub in_range : All IsMultiplier (multipliers line)
  pub light : line_weight rows path end line ≤ℤ pos (2 ^ 126)
  pub combination : ComesToNegative (length rows.box) (multipliers line) (used rows path end line)

-- each slice's form has a factor for each of the columns
abbrev pub HasForms : ℕ → List Slice → Type 0
HasForms columns path = All (λ (slice : Slice). length slice.form ≡ columns) path

-- the values x lie on each slice
abbrev pub IsOnPath : List Slice → List ℤ → Type 0
IsOnPath path x = All (λ (slice : Slice). dot integers slice.form x ≡ slice.beta) path

-- the inequality has a factor for each of the columns
abbrev pub IsDense : ℕ → Inequality → Type 0
IsDense columns inequality = length inequality.factors ≡ columns
