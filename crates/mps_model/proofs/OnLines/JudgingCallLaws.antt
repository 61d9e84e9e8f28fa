-- What one judgement says of another, and what a call that judges says, passed on.
use Rattle.std.proofs.Common.{◌≡◌, ℕ, true, false, true≢false, Option, Some, None, Result, Ok, Err, eqb, refl, sym, ap, subst, ◌∙◌}
use Rattle.std.specs.Option.{option_eq}
use Rattle.std.specs.Result.{IsErrAnd}
use Rattle.std.proofs.lemmas.Bool.{eqb-true, eq-eqb}
use Rattle.mps_model.specs.declared.fault.FaultKind.{FaultKind}
use Rattle.mps_model.specs.declared.line_stop.LineStop.{LineStop}
use Rattle.mps_model.specs.declared.line_stop.LineStop.TheVariants.{Fault, NoMemory}
use Rattle.mps_model.specs.Judging.{Judges}

-- the same fault, and what holds where the line is taken
pub judges_like : {A P Q : Type 0} (fault other : Option FaultKind) (result : Result A LineStop) → fault ≡ other → (other ≡ None → P → Q) → Judges fault P result → Judges other Q result
judges_like fault other (Ok x) same gives j = let none = sym same ∙ j.0 in (none, gives none j.1)
judges_like fault other (Err (Fault kind)) same gives j = sym same ∙ j
judges_like fault other (Err NoMemory) same gives j = tt

-- a stop of a part is one of the whole, where the part's fault is the whole's
pub judges_stop : (A B P Q : Type 0) (fault other : Option FaultKind) (stop : LineStop) → ((kind : FaultKind) → fault ≡ Some kind → other ≡ Some kind)
    → Judges {A = A} fault P (Err stop) → Judges {A = B} other Q (Err stop)
judges_stop A B P Q fault other (Fault kind) same j = same kind j
judges_stop A B P Q fault other NoMemory same j = tt

-- a call that stops at a fault judges a line of this fault
pub judged_by_fault : {A : Type 0} (fault : Option FaultKind) (taken : Type 0) (result : Result A LineStop) (kind : FaultKind)
    → IsErrAnd result (λ stop. stop ≡ Fault kind) → fault ≡ Some kind → Judges fault taken result
judged_by_fault fault taken (Ok x) kind stopped is = absurd stopped
judged_by_fault {A} fault taken (Err stop) kind stopped is = subst (λ (stop : LineStop). Judges {A = A} fault taken (Err stop)) (sym stopped) is

-- a call that hands on the stop of a part
pub judged_by_part : {A B : Type 0} (fault part : Option FaultKind) (taken partly : Type 0) (result : Result A LineStop) (before : Result B LineStop) (stop : LineStop)
    → Judges part partly before → before ≡ Err stop → IsErrAnd result (λ found. found ≡ stop)
    → ((kind : FaultKind) → part ≡ Some kind → fault ≡ Some kind) → Judges fault taken result
judged_by_part fault part taken partly (Ok x) before stop judged is stopped on = absurd stopped
judged_by_part {A} {B} fault part taken partly (Err found) before stop judged is stopped on =
    let P : Result B LineStop → Type 0 = λ before. Judges part partly before in
    subst (λ (found : LineStop). Judges {A = A} fault taken (Err found)) (sym stopped)
    (judges_stop B A partly taken part fault stop on (subst P is judged))

-- a number that is there already
pub same_number : (o : Option ℕ) (n : ℕ) → option_eq eqb o (Some n) ≡ true → o ≡ Some n
same_number None n same = absurd (true≢false (sym same))
same_number (Some m) n same = ap Some (eqb-true m n same)

pub other_number : (o : Option ℕ) (n : ℕ) → option_eq eqb o (Some n) ≡ false → o ≡ Some n → ⊥
other_number o n differ same = true≢false (sym (ap (λ o. option_eq eqb o (Some n)) same ∙ eq-eqb n n refl) ∙ differ)
