-- Bland's rule for pivots (Bland, New finite pivoting rules for the simplex method, 1977), begun at the dictionary in which each slack is basic. "First" is by the number of the variable. The variables below the number of columns are the coordinates, the others the slacks.
use Rattle.std.specs.Prelude.{◌≢◌, ℕ, ◌<◌, ◌≤◌, pos, ◌<ℤ◌, List, [], ◌∷◌, length, get_or, ◌⊎◌, ⊤}
use Rattle.exact_math.specs.Rational.{ℚ, neg_ℚ, ◌/ℚ◌, ◌≤ℚ◌}
use Rattle.frac128.specs.Range.{InRange}
use Rattle.lp_dict.specs.Dictionaries.{Dictionary, entry_at}
use Rattle.lp_dict.specs.Pivots.{pivoted, PivotStays}

-- the sign of a fraction is its numerator's
abbrev pub IsNegative : ℚ → Type 0
IsNegative q = q.num <ℤ pos 0

abbrev pub IsPositive : ℚ → Type 0
IsPositive q = pos 0 <ℤ q.num

-- the constant of a row, and the form's entry in a column
abbrev pub constant_at : Dictionary → ℕ → ℚ
constant_at d i = entry_at d i (length d.outside)

abbrev pub form_at : Dictionary → ℕ → ℚ
form_at d j = entry_at d (length d.basic) j

-- the variables of a row and of a column
abbrev pub basic_at : Dictionary → ℕ → ℕ
basic_at d i = get_or d.basic i 0

abbrev pub outside_at : Dictionary → ℕ → ℕ
outside_at d j = get_or d.outside j 0

-- at place `k` stands the first variable with the property
pub record IsFirst (variables : List ℕ) (P : ℕ → Type 0) (k : ℕ) : Type 0 where
  pub inside : k < length variables
  pub holds : P k
  pub first : (i : ℕ) → i < length variables → P i → get_or variables k 0 ≤ get_or variables i 0

-- row `i` is a slack's, and its entry in column `j` is not 0
pub record HasEntry (d : Dictionary) (j i : ℕ) : Type 0 where
  pub slack : length d.outside ≤ basic_at d i
  pub entry : (entry_at d i j).num ≢ pos 0

-- column `j` is a coordinate's, and a slack's row has an entry other than 0 in it
pub record IsFree (d : Dictionary) (j : ℕ) : Type 0 where
  pub coordinate : outside_at d j < length d.outside
  pub row : ℕ
  pub row_there : row < length d.basic
  pub has_entry : HasEntry d j row

-- row `i` is that of a slack below 0
pub record IsBelow (d : Dictionary) (i : ℕ) : Type 0 where
  pub slack : length d.outside ≤ basic_at d i
  pub negative : IsNegative (constant_at d i)

-- column `j` is that of a slack whose growth raises the variable of row `i`
pub record Raises (d : Dictionary) (i j : ℕ) : Type 0 where
  pub slack : length d.outside ≤ outside_at d j
  pub positive : IsPositive (entry_at d i j)

-- column `j` is that of a slack whose growth lowers the form
pub record Lowers (d : Dictionary) (j : ℕ) : Type 0 where
  pub slack : length d.outside ≤ outside_at d j
  pub negative : IsNegative (form_at d j)

-- row `i` is that of a slack which the growth of column `j` lowers
pub record Limits (d : Dictionary) (j i : ℕ) : Type 0 where
  pub slack : length d.outside ≤ basic_at d i
  pub negative : IsNegative (entry_at d i j)

-- how far column `j` can grow until row `i` is at 0
abbrev pub time_at : Dictionary → ℕ → ℕ → ℚ
time_at d j i = constant_at d i /ℚ neg_ℚ (entry_at d i j)

-- row `i` is one of those slacks that reach 0 soonest
pub record IsSoonest (d : Dictionary) (j i : ℕ) : Type 0 where
  pub limits : Limits d j i
  pub soonest : (k : ℕ) → k < length d.basic → Limits d j k → time_at d j i ≤ℚ time_at d j k

-- no coordinate outside is free, and no slack is below 0
abbrev pub NoneFree : Dictionary → Type 0
NoneFree d = (j : ℕ) → j < length d.outside → ¬ (IsFree d j)

abbrev pub NoneBelow : Dictionary → Type 0
NoneBelow d = (i : ℕ) → i < length d.basic → ¬ (IsBelow d i)

-- a coordinate comes in: the first that is free, for the first slack that has an entry there
pub record CoordinateEnters (d : Dictionary) (i j : ℕ) : Type 0 where
  pub column : IsFirst d.outside (IsFree d) j
  pub row : IsFirst d.basic (HasEntry d j) i

-- else a slack below 0 leaves: the first, for the first slack that raises it
pub record SlackLeaves (d : Dictionary) (i j : ℕ) : Type 0 where
  pub none_free : NoneFree d
  pub row : IsFirst d.basic (IsBelow d) i
  pub column : IsFirst d.outside (Raises d i) j

-- else a slack that lowers the form enters: the first, for the first of the slacks that reach 0 soonest
pub record SlackEnters (d : Dictionary) (i j : ℕ) : Type 0 where
  pub none_free : NoneFree d
  pub none_below : NoneBelow d
  pub column : IsFirst d.outside (Lowers d) j
  pub row : IsFirst d.basic (IsSoonest d j) i

-- the next pivot is at row `i` and column `j`
abbrev pub IsNext : Dictionary → ℕ → ℕ → Type 0
IsNext d i j = CoordinateEnters d i j ⊎ (SlackLeaves d i j ⊎ SlackEnters d i j)

-- in the last case a slack that the growth of column `j` lowers reaches 0 only past the range of `Frac`
pub record WideTime (d : Dictionary) (i j : ℕ) : Type 0 where
  pub none_free : NoneFree d
  pub none_below : NoneBelow d
  pub column : IsFirst d.outside (Lowers d) j
  pub row_there : i < length d.basic
  pub limits : Limits d j i
  pub wide : ¬ (InRange (time_at d j i))

-- the next pivot is wide: on its way a number leaves the range, or such a quotient does
abbrev pub NextIsWide : Dictionary → ℕ → ℕ → Type 0
NextIsWide d i j = (IsNext d i j × ¬ (PivotStays i j d.rows)) ⊎ WideTime d i j

-- another pivot is due, which may itself be wide
abbrev pub IsDue : Dictionary → Type 0
IsDue d = (i : ℕ) × (j : ℕ) × (IsNext d i j ⊎ WideTime d i j)

-- the dictionary after some pivots
abbrev pub after : Dictionary → List (ℕ × ℕ) → Dictionary
after d [] = d
after d (p ∷ pivots) = after (pivoted d p.0 p.1) pivots

-- each pivot is the next one where it stands
abbrev pub AreLegal : Dictionary → List (ℕ × ℕ) → Type 0
AreLegal d [] = ⊤
AreLegal d (p ∷ pivots) = IsNext d p.0 p.1 × AreLegal (pivoted d p.0 p.1) pivots
