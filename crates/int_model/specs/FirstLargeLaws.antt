-- A model has one first large part at most.
use Rattle.std.proofs.Common.{◌≡◌, ◌⊎◌, ⊎_elim, inl, inr, ap, refl, arith}
use Rattle.std.proofs.lemmas.Bool.{cases_lt}
use Rattle.int_model.specs.declared.part.Part.{Part}
use Rattle.int_model.specs.declared.part.Part.TheVariants as parts
use Rattle.int_model.specs.declared.model.Model.{Model}
use Rattle.int_model.specs.Large.{ComesBefore, IsFirstLarge}

-- of two parts one comes before the other, or they are the same
in_order : (a b : Part) → ComesBefore a b ⊎ (ComesBefore b a ⊎ (a ≡ b))
in_order (parts.Column j) (parts.Column k) =
    ⊎_elim (λ h. inl h) (λ h. ⊎_elim (λ l. inr (inl l)) (λ l. inr (inr (ap parts.Column (omega arith)))) (cases_lt k j)) (cases_lt j k)
in_order (parts.Column j) (parts.Row i) = inl tt
in_order (parts.Column j) parts.Objective = inl tt
in_order (parts.Row i) (parts.Column j) = inr (inl tt)
in_order (parts.Row i) (parts.Row k) =
    ⊎_elim (λ h. inl h) (λ h. ⊎_elim (λ l. inr (inl l)) (λ l. inr (inr (ap parts.Row (omega arith)))) (cases_lt k i)) (cases_lt i k)
in_order (parts.Row i) parts.Objective = inl tt
in_order parts.Objective (parts.Column j) = inr (inl tt)
in_order parts.Objective (parts.Row i) = inr (inl tt)
in_order parts.Objective parts.Objective = inr (inr refl)

-- two first large parts are the same
pub first_large_is_one : (model : Model) (a b : Part) → IsFirstLarge model a → IsFirstLarge model b → a ≡ b
first_large_is_one model a b one other =
    ⊎_elim (λ h. absurd (other.first a h one.large)) (λ r. ⊎_elim (λ h. absurd (one.first b h other.large)) (λ e. e) r) (in_order a b)
