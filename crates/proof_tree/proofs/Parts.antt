-- The parts of a split as a list: what holds of them, one more of them, and a lower best value.
use Rattle.std.proofs.Common.{◌≡◌, ℕ, zero, suc, ◌+◌, ◌-◌, ◌*◌, ◌^◌, ◌≤◌, Bool, IsTrue, ℤ, ◌+ℤ◌, ◌≤ℤ◌, List, [], ◌∷◌, ◌++◌, refl, ap, ◌∙◌, arith}
use Rattle.std.proofs.Math.Nat.{mul-le-mul_left}
use Rattle.std.specs.Prelude.{Option, Some, None, IfSome}
use Rattle.std.specs.Option.{IsSomeAnd}
use Rattle.exact_math.specs.IntegerRing.{linear}
use Rattle.whole_rows.specs.WholeRows.{WholeRows}
use Rattle.farkas_rows.specs.declared.line.CutUse.{CutUse}
use Rattle.farkas_rows.specs.declared.line.Line.{Line}
use Rattle.farkas_rows.specs.declared.path.Slice.{Slice}
use Rattle.farkas_rows.specs.Inequalities.{Inequality}
use Rattle.proof_tree.specs.declared.tree.Cut.{Cut}
use Rattle.proof_tree.specs.declared.tree.Move.{Move}
use Rattle.proof_tree.specs.declared.tree.PartTree.{PartTree, Open, Empty, Split', Row_of-PartTree, end_of-PartTree, more_of-PartTree, items-the_row-PartTree}
use Rattle.proof_tree.specs.Trees.{on_slice, IsOfSize, Closes, IsSplit}
use Rattle.proof_tree.specs.PartTrees.{width, HoldsPart, HoldEachPart}
use Rattle.proof_tree.specs.Counts.{records_of_part, records_of_parts, open_runs, open_runs_of_each, nodes_within}
use Rattle.proof_tree.specs.Moves.{IsNoHigher, ClosesUnder, SplitsUnder}
use Rattle.proof_tree.specs.Follows.{WasAllowed, marks_plain, FollowsPart, FollowEachPart}
use Rattle.proof_tree.proofs.Values.{IsNoHigher-trans}

-- ---- a lower best value

-- a cut that a line uses
cut-lower : (now before : Option ℤ) (cut : Option CutUse) → IsNoHigher now before → IfSome cut (λ (cut : CutUse). IsSomeAnd before (λ least. least ≤ℤ cut.value) × IsOfSize (2 ^ 97) cut.value) → IfSome cut (λ (cut : CutUse). IsSomeAnd now (λ least. least ≤ℤ cut.value) × IsOfSize (2 ^ 97) cut.value)
cut-lower now before None lower h = tt
cut-lower now None (Some cut) lower h = absurd h.0
cut-lower None (Some b) (Some cut) lower h = absurd lower
cut-lower (Some a) (Some b) (Some cut) lower h = (omega (linear, lower, h.0), h.1)

Closes-lower : (rows : WholeRows) (now before : Option ℤ) (path : List Slice) (end : Option Inequality) (line : Line) → IsNoHigher now before → Closes rows before path end line → Closes rows now path end line
Closes-lower rows now before path end line lower h = record { refutes = h.refutes; cut = cut-lower now before line.cut lower h.cut }

IsSplit-lower : (rows : WholeRows) (now before : Option ℤ) (path : List Slice) (cut : Cut) → IsNoHigher now before → IsSplit rows before path cut → IsSplit rows now path cut
IsSplit-lower rows now before path cut lower h = record {
  form = h.form;
  lo = h.lo;
  count = h.count;
  below = Closes-lower rows now before path _ cut.below lower h.below;
  above = Closes-lower rows now before path _ cut.above lower h.above;
}

mutual
  pub HoldsPart-lower : (rows : WholeRows) (now before : Option ℤ) (path : List Slice) (part : PartTree) → IsNoHigher now before → HoldsPart rows before path part → HoldsPart rows now path part
  HoldsPart-lower rows now before path (Open count) lower h = h
  HoldsPart-lower rows now before path (Empty line) lower h = (h.0, Closes-lower rows now before path None line lower h.1)
  HoldsPart-lower rows now before path (Split' b cut s children) lower h = (h.0, IsSplit-lower rows now before path cut lower h.1, HoldEachPart-lower rows now before path cut.form cut.lo (cut.lo +ℤ cut.count) children lower h.2)

  HoldEachPart-lower : (rows : WholeRows) (now before : Option ℤ) (path : List Slice) (form : List ℤ) (from until : ℤ) {m : _} (parts : Row_of-PartTree m) → IsNoHigher now before → HoldEachPart rows before path form from until parts → HoldEachPart rows now path form from until parts
  HoldEachPart-lower rows now before path form from until end_of-PartTree lower h = h
  HoldEachPart-lower rows now before path form from until (more_of-PartTree part rest) lower h = (HoldsPart-lower rows now before (on_slice path form from) part lower h.0, HoldEachPart-lower rows now before path form (from +ℤ width part) until rest lower h.1)

-- ---- what a move of a node says under a best value

cut-under : (last best : Option ℤ) (cut : Option CutUse) → IsNoHigher last best → IfSome best (IsOfSize (2 ^ 97)) → IfSome cut (λ (cut : CutUse). best ≡ Some cut.value) → IfSome cut (λ (cut : CutUse). IsSomeAnd last (λ least. least ≤ℤ cut.value) × IsOfSize (2 ^ 97) cut.value)
cut-under last best None lower small h = tt
cut-under last best (Some cut) lower small h = along last (rw h at lower) (rw h at small)
  where
    along : (last : Option ℤ) → IsNoHigher last (Some cut.value) → IsOfSize (2 ^ 97) cut.value → IsSomeAnd last (λ least. least ≤ℤ cut.value) × IsOfSize (2 ^ 97) cut.value
    along last h k = (h, k)

pub Closes-under : (rows : WholeRows) (last best : Option ℤ) (path : List Slice) (end : Option Inequality) (line : Line) → IsNoHigher last best → IfSome best (IsOfSize (2 ^ 97)) → ClosesUnder rows best path end line → Closes rows last path end line
Closes-under rows last best path end line lower small h = record { refutes = h.refutes; cut = cut-under last best line.cut lower small h.cut }

pub IsSplit-under : (rows : WholeRows) (last best : Option ℤ) (path : List Slice) (cut : Cut) → IsNoHigher last best → IfSome best (IsOfSize (2 ^ 97)) → SplitsUnder rows best path cut → IsSplit rows last path cut
IsSplit-under rows last best path cut lower small h = record {
  form = h.form;
  lo = h.lo;
  count = h.count;
  below = Closes-under rows last best path _ cut.below lower small h.below;
  above = Closes-under rows last best path _ cut.above lower small h.above;
}

-- ---- moves that were allowed

pub WasAllowed-lower : (allows : List Slice → Option ℤ → Move → Type 0) (now before : Option ℤ) (path : List Slice) (move : Move) → IsNoHigher now before → WasAllowed allows before path move → WasAllowed allows now path move
WasAllowed-lower allows now before path move lower h = (h.0, IsNoHigher-trans now before h.0 lower h.1, h.2)

mutual
  pub FollowsPart-lower : (allows : List Slice → Option ℤ → Move → Type 0) (now before : Option ℤ) (above : Bool) (path : List Slice) (part : PartTree) → IsNoHigher now before → FollowsPart allows before above path part → FollowsPart allows now above path part
  FollowsPart-lower allows now before above path (Open count) lower h = tt
  FollowsPart-lower allows now before above path (Empty line) lower h = WasAllowed-lower allows now before path _ lower h
  FollowsPart-lower allows now before above path (Split' b cut s children) lower h = (WasAllowed-lower allows now before path _ lower h.0, h.1, FollowEachPart-lower allows now before (marks_plain cut.mark) path cut.form cut.lo children lower h.2)

  FollowEachPart-lower : (allows : List Slice → Option ℤ → Move → Type 0) (now before : Option ℤ) (above : Bool) (path : List Slice) (form : List ℤ) (from : ℤ) {m : _} (parts : Row_of-PartTree m) → IsNoHigher now before → FollowEachPart allows before above path form from parts → FollowEachPart allows now above path form from parts
  FollowEachPart-lower allows now before above path form from end_of-PartTree lower h = tt
  FollowEachPart-lower allows now before above path form from (more_of-PartTree part rest) lower h = (FollowsPart-lower allows now before above (on_slice path form from) part lower h.0, FollowEachPart-lower allows now before above path form (from +ℤ width part) rest lower h.1)

-- less is asked where less is plain above
pub FollowsPart-above : (allows : List Slice → Option ℤ → Move → Type 0) (last : Option ℤ) (above above' : Bool) (path : List Slice) (part : PartTree) → (IsTrue above' → IsTrue above) → FollowsPart allows last above path part → FollowsPart allows last above' path part
FollowsPart-above allows last above above' path (Open count) f h = tt
FollowsPart-above allows last above above' path (Empty line) f h = h
FollowsPart-above allows last above above' path (Split' b cut s children) f h = (h.0, (λ t. h.1 (f t)), h.2)

-- ---- the parts as a list

abbrev pub holds_list : WholeRows → Option ℤ → List Slice → List ℤ → ℤ → ℤ → List PartTree → Type 0
holds_list rows last path form from until [] = from ≡ until
holds_list rows last path form from until (part ∷ parts) = HoldsPart rows last (on_slice path form from) part × holds_list rows last path form (from +ℤ width part) until parts

abbrev pub follows_list : (List Slice → Option ℤ → Move → Type 0) → Option ℤ → Bool → List Slice → List ℤ → ℤ → List PartTree → Type 0
follows_list allows last above path form from [] = Unit {0}
follows_list allows last above path form from (part ∷ parts) = FollowsPart allows last above (on_slice path form from) part × follows_list allows last above path form (from +ℤ width part) parts

abbrev pub records_list : List PartTree → ℕ
records_list [] = 0
records_list (part ∷ parts) = records_of_part part + records_list parts

abbrev pub open_list : List PartTree → ℕ
open_list [] = 0
open_list (part ∷ parts) = open_runs part + open_list parts

-- what holds of the list holds of the row of a split
pub holds_list-row : (rows : WholeRows) (last : Option ℤ) (path : List Slice) (form : List ℤ) (from until : ℤ) {m : _} (k : Row_of-PartTree m) → holds_list rows last path form from until (items-the_row-PartTree m k) → HoldEachPart rows last path form from until k
holds_list-row rows last path form from until end_of-PartTree h = h
holds_list-row rows last path form from until (more_of-PartTree part rest) h = (h.0, holds_list-row rows last path form (from +ℤ width part) until rest h.1)

pub follows_list-row : (allows : List Slice → Option ℤ → Move → Type 0) (last : Option ℤ) (above : Bool) (path : List Slice) (form : List ℤ) (from : ℤ) {m : _} (k : Row_of-PartTree m) → follows_list allows last above path form from (items-the_row-PartTree m k) → FollowEachPart allows last above path form from k
follows_list-row allows last above path form from end_of-PartTree h = tt
follows_list-row allows last above path form from (more_of-PartTree part rest) h = (h.0, follows_list-row allows last above path form (from +ℤ width part) rest h.1)

pub records_list-row : {m : _} (k : Row_of-PartTree m) → records_of_parts k ≡ records_list (items-the_row-PartTree m k)
records_list-row end_of-PartTree = refl
records_list-row (more_of-PartTree part rest) = ap (λ n. records_of_part part + n) (records_list-row rest)

pub open_list-row : {m : _} (k : Row_of-PartTree m) → open_runs_of_each k ≡ open_list (items-the_row-PartTree m k)
open_list-row end_of-PartTree = refl
open_list-row (more_of-PartTree part rest) = ap (λ n. open_runs part + n) (open_list-row rest)

-- one more part
pub holds_list-push : (rows : WholeRows) (last : Option ℤ) (path : List Slice) (form : List ℤ) (from mid until : ℤ) (parts : List PartTree) (part : PartTree) → holds_list rows last path form from mid parts → HoldsPart rows last (on_slice path form mid) part → mid +ℤ width part ≡ until → holds_list rows last path form from until (parts ++ part ∷ [])
holds_list-push rows last path form from mid until [] part h here e = (rw h here, ap (λ z. z +ℤ width part) h ∙ e)
holds_list-push rows last path form from mid until (first ∷ parts) part h here e = (h.0, holds_list-push rows last path form (from +ℤ width first) mid until parts part h.1 here e)

pub follows_list-push : (rows : WholeRows) (allows : List Slice → Option ℤ → Move → Type 0) (last : Option ℤ) (above : Bool) (path : List Slice) (form : List ℤ) (from mid : ℤ) (parts : List PartTree) (part : PartTree) → holds_list rows last path form from mid parts → follows_list allows last above path form from parts → FollowsPart allows last above (on_slice path form mid) part → follows_list allows last above path form from (parts ++ part ∷ [])
follows_list-push rows allows last above path form from mid [] part place h here = (rw place here, tt)
follows_list-push rows allows last above path form from mid (first ∷ parts) part place h here = (h.0, follows_list-push rows allows last above path form (from +ℤ width first) mid parts part place.1 h.1 here)

pub records_list-push : (parts : List PartTree) (part : PartTree) → records_list (parts ++ part ∷ []) ≡ records_list parts + records_of_part part
records_list-push [] part = omega arith
records_list-push (first ∷ parts) part = omega (arith, records_list-push parts part)

pub open_list-push : (parts : List PartTree) (part : PartTree) → open_list (parts ++ part ∷ []) ≡ open_list parts + open_runs part
open_list-push [] part = omega arith
open_list-push (first ∷ parts) part = omega (arith, open_list-push parts part)

-- a lower best value
pub holds_list-lower : (rows : WholeRows) (now before : Option ℤ) (path : List Slice) (form : List ℤ) (from until : ℤ) (parts : List PartTree) → IsNoHigher now before → holds_list rows before path form from until parts → holds_list rows now path form from until parts
holds_list-lower rows now before path form from until [] lower h = h
holds_list-lower rows now before path form from until (part ∷ parts) lower h = (HoldsPart-lower rows now before (on_slice path form from) part lower h.0, holds_list-lower rows now before path form (from +ℤ width part) until parts lower h.1)

pub follows_list-lower : (allows : List Slice → Option ℤ → Move → Type 0) (now before : Option ℤ) (above : Bool) (path : List Slice) (form : List ℤ) (from : ℤ) (parts : List PartTree) → IsNoHigher now before → follows_list allows before above path form from parts → follows_list allows now above path form from parts
follows_list-lower allows now before above path form from [] lower h = tt
follows_list-lower allows now before above path form from (part ∷ parts) lower h = (FollowsPart-lower allows now before above (on_slice path form from) part lower h.0, follows_list-lower allows now before above path form (from +ℤ width part) parts lower h.1)

-- ---- how many nodes there are at most

pub nodes_within-some : (w h : ℕ) → 1 ≤ nodes_within w h
nodes_within-some w zero = omega arith
nodes_within-some w (suc h) = omega arith

pub nodes_within-higher : (w h k : ℕ) → h ≤ k → nodes_within w h ≤ nodes_within w k
nodes_within-higher w zero k e = nodes_within-some w k
nodes_within-higher w (suc h) zero e = absurd (omega arith)
nodes_within-higher w (suc h) (suc k) e = omega (arith, mul-le-mul_left (w + 1) (nodes_within-higher w h k (omega arith)))

-- as many slices as a split may have, and the node itself
pub nodes_within-split : (w h n : ℕ) → n ≤ w + 1 → (1 ≤ n → 1 ≤ h) → 1 + n * nodes_within w (h - 1) ≤ nodes_within w h
nodes_within-split w h zero e room = omega (arith, nodes_within-some w h)
nodes_within-split w zero (suc n) e room = absurd (omega (arith, room (omega arith)))
nodes_within-split w (suc h) (suc n) e room =
    let same : suc h - 1 ≡ h = omega arith in
    rw same (omega (arith, mul-le-mul_left (nodes_within w h) e))
