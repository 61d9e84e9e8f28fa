-- What a list of rules gives, where its first rule holds and where it does not.
use Rattle.std.proofs.Common.{◌≡◌, Bool, true, false, cond, List, [], ◌∷◌, Some, None, refl}
use Rattle.mps_model.specs.declared.fault.FaultKind.{FaultKind}
use Rattle.mps_model.specs.FaultRules.{first_holding}

pub rule_holds : (b : Bool) (kind : FaultKind) (rules : List (Bool × FaultKind)) → b ≡ true → first_holding ((b, kind) ∷ rules) ≡ Some kind
rule_holds b kind rules h = rw h refl

pub rule_passes : (b : Bool) (kind : FaultKind) (rules : List (Bool × FaultKind)) → b ≡ false → first_holding ((b, kind) ∷ rules) ≡ first_holding rules
rule_passes b kind rules h = rw h refl

pub last_rule : (b : Bool) (kind : FaultKind) → first_holding ((b, kind) ∷ []) ≡ cond b (Some kind) None
last_rule true kind = refl
last_rule false kind = refl
