-- Sections in order rise: none comes behind a later one, so that only RANGES and BOUNDS could come twice.
use Rattle.std.proofs.Common.{◌≡◌, ℕ, ◌<◌, ◌≤◌, Bool, true, false, true≢false, not, ◌||◌, List, [], ◌∷◌, ◌++◌, Option, Some, None, refl, sym, ap, subst, ◌∙◌, append_assoc, arith}
use Rattle.std.specs.Option.{option_map_or}
use Rattle.std.specs.List.{list_any, last_or}
use Rattle.std.proofs.Math.Bool.{or-false}
use Rattle.std.proofs.lemmas.Bool.{or_right, and_parts, and_from}
use Rattle.std.proofs.lemmas.List.{append-nil}
use Rattle.std.proofs.lemmas.List.Folds.{list_any-append}
use Rattle.mps_fields.specs.BooleanLaws.{either, some_of}
use Rattle.mps_model.specs.declared.lines.section.Section.{Section}
use Rattle.mps_model.specs.declared.lines.section.Section.TheVariants.{Name as NAME, Rows as ROWS, Columns as COLUMNS, Rhs as RHS, Ranges as RANGES, Bounds as BOUNDS, Endata as ENDATA}
use Rattle.mps_model.specs.declared.lines.section_order.Order.{Order}
use Rattle.mps_model.specs.SectionOrder.{may_come, is_same, is_in_order}
use Rattle.mps_model.specs.KeptSectionOrder.{are_in_order, KeepsOrder}
use Rattle.mps_model.specs.SectionLaws.{same_section, is_same_itself}
use Rattle.mps_model.specs.FirstItemLaws.{last_or-push}

-- how far down a section stands
abbrev pub rank : Option Section → ℕ
rank None = 0
rank (Some NAME) = 1
rank (Some ROWS) = 2
rank (Some COLUMNS) = 3
rank (Some RHS) = 4
rank (Some RANGES) = 5
rank (Some BOUNDS) = 5
rank (Some ENDATA) = 6

rises : (o : Option Section) (s : Section) → may_come o s ≡ true → rank o ≤ rank (Some s)
rises None NAME h = omega arith
rises None ROWS h = omega arith
rises (Some NAME) ROWS h = omega arith
rises (Some ROWS) COLUMNS h = omega arith
rises (Some COLUMNS) RHS h = omega arith
rises (Some COLUMNS) RANGES h = omega arith
rises (Some COLUMNS) BOUNDS h = omega arith
rises (Some COLUMNS) ENDATA h = omega arith
rises (Some RHS) RANGES h = omega arith
rises (Some RHS) BOUNDS h = omega arith
rises (Some RHS) ENDATA h = omega arith
rises (Some RANGES) BOUNDS h = omega arith
rises (Some RANGES) ENDATA h = omega arith
rises (Some BOUNDS) RANGES h = omega arith
rises (Some BOUNDS) ENDATA h = omega arith
rises _ _ h = absurd (true≢false (sym h))

-- no section among these stands further down than the last
record AreBefore (above : List Section) : Type 0 where
  each : (s : Section) → list_any (is_same s) above ≡ true → rank (Some s) ≤ rank (last_or None above)

before_none : AreBefore []
before_none = record { each = λ s h. absurd (true≢false (sym h)) }

rank_same : (s t : Section) → is_same s t ≡ true → rank (Some s) ≤ rank (Some t)
rank_same s t h = subst (λ u. rank (Some s) ≤ rank (Some u)) (same_section s t h) (omega arith)

before_more : (above : List Section) (t : Section) → may_come (last_or None above) t ≡ true → AreBefore above → AreBefore (above ++ t ∷ [])
before_more above t h now = record {
  each = λ s among.
      rw (last_or-push {X = Section} None above t)
      (some_of (list_any (is_same s) above) (is_same s t || false) (sym (list_any-append (is_same s) above (t ∷ [])) ∙ among)
      (λ old. let a = now.each s old in let b = rises (last_or None above) t h in omega arith)
      (λ new. some_of (is_same s t) false new (rank_same s t) (λ no. absurd (true≢false (sym no)))));
}

all_before : (above sections : List Section) → are_in_order above sections ≡ true → AreBefore above → AreBefore (above ++ sections)
all_before above [] h now = subst AreBefore (sym (append-nil above)) now
all_before above (s ∷ sections) h now =
    let both = and_parts (is_in_order above s) (are_in_order (above ++ s ∷ []) sections) h in
    let may = and_parts (may_come (last_or None above) s) (not (list_any (is_same s) above)) both.0 in
    subst AreBefore (append_assoc above (s ∷ []) sections) (all_before (above ++ s ∷ []) sections both.1 (before_more above s may.0 now))

ordered_before : (sections : List Section) → are_in_order [] sections ≡ true → AreBefore sections
ordered_before sections h = all_before [] sections h before_none

-- sections other than RANGES and BOUNDS stand further down than the one that they follow
drops : (o : Option Section) (s : Section) → may_come o s ≡ true → is_same RANGES s ≡ false → is_same BOUNDS s ≡ false → rank o < rank (Some s)
drops None NAME h r b = omega arith
drops None ROWS h r b = omega arith
drops (Some NAME) ROWS h r b = omega arith
drops (Some ROWS) COLUMNS h r b = omega arith
drops (Some COLUMNS) RHS h r b = omega arith
drops (Some COLUMNS) RANGES h r b = absurd (true≢false r)
drops (Some COLUMNS) BOUNDS h r b = absurd (true≢false b)
drops (Some COLUMNS) ENDATA h r b = omega arith
drops (Some RHS) RANGES h r b = absurd (true≢false r)
drops (Some RHS) BOUNDS h r b = absurd (true≢false b)
drops (Some RHS) ENDATA h r b = omega arith
drops (Some RANGES) BOUNDS h r b = absurd (true≢false b)
drops (Some RANGES) ENDATA h r b = omega arith
drops (Some BOUNDS) RANGES h r b = absurd (true≢false r)
drops (Some BOUNDS) ENDATA h r b = omega arith
drops _ _ h r b = absurd (true≢false (sym h))

-- such a section has not come where it may come
pub fresh : (sections : List Section) (s : Section) → are_in_order [] sections ≡ true → may_come (last_or None sections) s ≡ true
    → is_same RANGES s ≡ false → is_same BOUNDS s ≡ false → list_any (is_same s) sections ≡ false
fresh sections s ordered may r b =
    either (list_any (is_same s) sections)
    (λ among.
    let low = (ordered_before sections ordered).each s among in
    let high = drops (last_or None sections) s may r b in
    absurd (omega arith))
    (λ f. f)

ordered-push : (above sections : List Section) (s : Section) → are_in_order above sections ≡ true → is_in_order (above ++ sections) s ≡ true
    → are_in_order above (sections ++ s ∷ []) ≡ true
ordered-push above [] s h next = and_from (is_in_order above s) true (subst (λ l. is_in_order l s ≡ true) (append-nil above) next) refl
ordered-push above (t ∷ sections) s h next =
    let both = and_parts (is_in_order above t) (are_in_order (above ++ t ∷ []) sections) h in
    and_from (is_in_order above t) (are_in_order (above ++ t ∷ []) (sections ++ s ∷ [])) both.0
    (ordered-push (above ++ t ∷ []) sections s both.1 (subst (λ l. is_in_order l s ≡ true) (sym (append_assoc above (t ∷ []) sections)) next))

-- a section has come behind one more section
pub came-push : (t s : Section) (sections : List Section) → list_any (is_same t) (sections ++ s ∷ []) ≡ (list_any (is_same t) sections || is_same t s)
came-push t s sections = list_any-append (is_same t) sections (s ∷ []) ∙ ap (λ b. list_any (is_same t) sections || b) (or-false (is_same t s))

-- one more section in order
pub order_more : (sections : List Section) (order : Order) (s : Section) (next : Order) → KeepsOrder sections order → is_in_order sections s ≡ true
    → next.last ≡ Some s → next.has_ranges ≡ (order.has_ranges || is_same RANGES s) → next.has_bounds ≡ (order.has_bounds || is_same BOUNDS s)
    → KeepsOrder (sections ++ s ∷ []) next
order_more sections order s next now h last ranges bounds = record {
  ordered = ordered-push [] sections s now.ordered h;
  last = last ∙ sym (last_or-push None sections s);
  ranges = ranges ∙ ap (λ b. b || is_same RANGES s) now.ranges ∙ sym (came-push RANGES s sections);
  bounds = bounds ∙ ap (λ b. b || is_same BOUNDS s) now.bounds ∙ sym (came-push BOUNDS s sections);
}

pub differ : (t s : Section) → (s ≡ t → ⊥) → is_same t s ≡ false
differ t s h = either (is_same t s) (λ same. absurd (h (sym (same_section t s same)))) (λ f. f)

pub or_true : (b c : Bool) → c ≡ true → true ≡ (b || c)
or_true b c h = sym (or_right b c h)

pub or_false : (b c : Bool) → c ≡ false → b ≡ (b || c)
or_false b c h = sym (ap (λ d. b || d) h ∙ or-false b)

pub more_ranges : (sections : List Section) (order : Order) (s : Section) → s ≡ RANGES → KeepsOrder sections order → is_in_order sections s ≡ true
    → KeepsOrder (sections ++ s ∷ []) (record { last = Some s; has_ranges = true; has_bounds = order.has_bounds })
more_ranges sections order s e now h =
    order_more sections order s _ now h refl (or_true order.has_ranges (is_same RANGES s) (ap (is_same RANGES) e)) (or_false order.has_bounds (is_same BOUNDS s) (ap (is_same BOUNDS) e))

pub more_bounds : (sections : List Section) (order : Order) (s : Section) → s ≡ BOUNDS → KeepsOrder sections order → is_in_order sections s ≡ true
    → KeepsOrder (sections ++ s ∷ []) (record { last = Some s; has_ranges = order.has_ranges; has_bounds = true })
more_bounds sections order s e now h =
    order_more sections order s _ now h refl (or_false order.has_ranges (is_same RANGES s) (ap (is_same RANGES) e)) (or_true order.has_bounds (is_same BOUNDS s) (ap (is_same BOUNDS) e))

pub more_other : (sections : List Section) (order : Order) (s : Section) → is_same RANGES s ≡ false → is_same BOUNDS s ≡ false
    → KeepsOrder sections order → is_in_order sections s ≡ true
    → KeepsOrder (sections ++ s ∷ []) (record { last = Some s; has_ranges = order.has_ranges; has_bounds = order.has_bounds })
more_other sections order s r b now h =
    order_more sections order s _ now h refl (or_false order.has_ranges (is_same RANGES s) r) (or_false order.has_bounds (is_same BOUNDS s) b)

-- the last section is among the sections
among_push : (s : Section) (o : Option Section) (sections : List Section) → last_or o sections ≡ Some s → (option_map_or (is_same s) o false || list_any (is_same s) sections) ≡ true
among_push s o [] e = ap (λ p. option_map_or (is_same s) p false || false) e ∙ ap (λ b. b || false) (is_same_itself s)
among_push s o (t ∷ sections) e = or_right (option_map_or (is_same s) o false) _ (among_push s (Some t) sections e)

pub last_among : (s : Section) (sections : List Section) → last_or None sections ≡ Some s → list_any (is_same s) sections ≡ true
last_among s sections e = among_push s None sections e

-- a section that stands further down than the last has not come
pub not_yet : (s t : Section) (sections : List Section) → are_in_order [] sections ≡ true → last_or None sections ≡ Some t → rank (Some t) < rank (Some s)
    → list_any (is_same s) sections ≡ false
not_yet s t sections ordered last low =
    either (list_any (is_same s) sections)
    (λ among.
    let above = subst (λ o. rank (Some s) ≤ rank o) last ((ordered_before sections ordered).each s among) in
    absurd (omega arith))
    (λ f. f)

-- COLUMNS came where the last section stands as far down or further
from_columns : (o : Option Section) (s : Section) → may_come o s ≡ true → is_same COLUMNS s ≡ false → 3 ≤ rank (Some s) → 3 ≤ rank o
from_columns None NAME h c k = absurd (omega arith)
from_columns None ROWS h c k = absurd (omega arith)
from_columns (Some NAME) ROWS h c k = absurd (omega arith)
from_columns (Some ROWS) COLUMNS h c k = absurd (true≢false c)
from_columns (Some COLUMNS) RHS h c k = omega arith
from_columns (Some COLUMNS) RANGES h c k = omega arith
from_columns (Some COLUMNS) BOUNDS h c k = omega arith
from_columns (Some COLUMNS) ENDATA h c k = omega arith
from_columns (Some RHS) RANGES h c k = omega arith
from_columns (Some RHS) BOUNDS h c k = omega arith
from_columns (Some RHS) ENDATA h c k = omega arith
from_columns (Some RANGES) BOUNDS h c k = omega arith
from_columns (Some RANGES) ENDATA h c k = omega arith
from_columns (Some BOUNDS) RANGES h c k = omega arith
from_columns (Some BOUNDS) ENDATA h c k = omega arith
from_columns _ _ h c k = absurd (true≢false (sym h))

record HasColumns (above : List Section) : Type 0 where
  there : 3 ≤ rank (last_or None above) → list_any (is_same COLUMNS) above ≡ true

columns_more : (above : List Section) (s : Section) → may_come (last_or None above) s ≡ true → HasColumns above → HasColumns (above ++ s ∷ [])
columns_more above s may now = record {
  there = λ low.
      let far : 3 ≤ rank (Some s) = subst (λ o. 3 ≤ rank o) (last_or-push None above s) low in
      list_any-append (is_same COLUMNS) above (s ∷ [])
      ∙ either (is_same COLUMNS s)
      (λ same. or_right (list_any (is_same COLUMNS) above) _ (ap (λ b. b || false) same))
      (λ other. ap (λ b. b || (is_same COLUMNS s || false)) (now.there (from_columns (last_or None above) s may other far)));
}

columns_all : (above sections : List Section) → are_in_order above sections ≡ true → HasColumns above → HasColumns (above ++ sections)
columns_all above [] h now = subst HasColumns (sym (append-nil above)) now
columns_all above (s ∷ sections) h now =
    let both = and_parts (is_in_order above s) (are_in_order (above ++ s ∷ []) sections) h in
    let may = and_parts (may_come (last_or None above) s) (not (list_any (is_same s) above)) both.0 in
    subst HasColumns (append_assoc above (s ∷ []) sections) (columns_all (above ++ s ∷ []) sections both.1 (columns_more above s may.0 now))

pub columns_came : (t : Section) (sections : List Section) → are_in_order [] sections ≡ true → last_or None sections ≡ Some t → 3 ≤ rank (Some t)
    → list_any (is_same COLUMNS) sections ≡ true
columns_came t sections ordered last far =
    (columns_all [] sections ordered (record { there = λ low. absurd (omega arith) })).there (subst (λ o. 3 ≤ rank o) (sym last) far)
