-- A text has one meaning.
use Rattle.std.proofs.Common.{◌≡◌, ◌↔◌, ◌⊎◌, ℤ, ℕ, List, Option, Some, None, Ok, Err, refl}
use Rattle.std.proofs.Common.{inl, inr}
use Rattle.int_model.specs.declared.model.Model.{Model}
use Rattle.mps_model.specs.declared.layout.Layout.{Layout}
use Rattle.mps_model.specs.declared.fault.TextFault.{TextFault}
use Rattle.mps_model.specs.StatedModel.{means}
use Rattle.mps_model.specs.Meaning.{unless_fault, fault_at, meaning, Means, FaultAt, HasOneMeaning}

-- ---- over any model and any fault or none

unless-none : (m : Model) (o : Option TextFault) (model : Model) → unless_fault m o ≡ Ok model → o ≡ None
unless-none m None model h = refl
unless-none m (Some fault) model h = cc

unless-model : (m : Model) (o : Option TextFault) (model : Model) → unless_fault m o ≡ Ok model → m ≡ model
unless-model m None model h = cc
unless-model m (Some fault) model h = cc

unless-ok : (m : Model) (o : Option TextFault) (model : Model) → o ≡ None → m ≡ model → unless_fault m o ≡ Ok model
unless-ok m None model n e = cc
unless-ok m (Some fault) model n e = cc

unless-fault : (m : Model) (o : Option TextFault) (fault : TextFault) → unless_fault m o ≡ Err fault → o ≡ Some fault
unless-fault m None fault h = cc
unless-fault m (Some found) fault h = cc

unless-err : (m : Model) (o : Option TextFault) (fault : TextFault) → o ≡ Some fault → unless_fault m o ≡ Err fault
unless-err m None fault h = cc
unless-err m (Some found) fault h = cc

either : (o : Option TextFault) → (o ≡ None) ⊎ ((fault : TextFault) × (o ≡ Some fault))
either None = inl refl
either (Some fault) = inr (fault, refl)

-- ---- of a text

pub meaning_ok : (layout : Layout) (given : Option ℤ) (text : List ℕ) (model : Model) → (meaning layout given text ≡ Ok model) ↔ Means layout given text model
unfolding meaning
meaning_ok layout given text model = (
  λ h. record { faultless = unless-none (means layout given text) (fault_at layout given text) model h; stated = unless-model (means layout given text) (fault_at layout given text) model h },
  λ m. unless-ok (means layout given text) (fault_at layout given text) model m.faultless m.stated,
)

pub meaning_err : (layout : Layout) (given : Option ℤ) (text : List ℕ) (fault : TextFault) → (meaning layout given text ≡ Err fault) ↔ FaultAt layout given text fault
unfolding meaning
meaning_err layout given text fault = (
  unless-fault (means layout given text) (fault_at layout given text) fault,
  unless-err (means layout given text) (fault_at layout given text) fault,
)

pub one_meaning : (layout : Layout) (given : Option ℤ) (text : List ℕ) → HasOneMeaning layout given text
one_meaning layout given text = record {
  some = elim (either (fault_at layout given text)) [ inl none ↦ inl (means layout given text, record { faultless = none; stated = refl }) | inr found ↦ inr found ];
  not_both = λ model fault m f. let none = m.faultless in cc;
  one_model = λ model other m n. let a = m.stated in let b = n.stated in cc;
  one_fault = λ fault other f g. cc;
}
