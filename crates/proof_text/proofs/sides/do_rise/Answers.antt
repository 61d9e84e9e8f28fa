use Rattle.std.proofs.Common.{◌≡◌, ℕ, ◌+◌, ◌-◌, List, pos, ap, arith, ⊎_elim, get_or, map}
use Rattle.std.proofs.lemmas.Bool.{cases_eq}
use Rattle.std.proofs.lemmas.List.{length-map}
use Rattle.std.proofs.Math.ListN.{get_or-map}
use Rattle.farkas_rows.specs.declared.line.Use.{Use}
use Rattle.proof_text.proofs.sides.do_rise.Goals as goal

-- the number at a place
at : (items : List Use) (k : ℕ) → get_or (map (λ (item : Use). item.index) items) k 0 ≡ (get_or items k (record { index = 0; times = pos 0 })).index
at items k = get_or-map (λ (item : Use). item.index) items k (record { index = 0; times = pos 0 })

pub returns-then-items-i : goal.returns-then-items-i
returns-then-items-i c =
    let i = c.loop-i.i in
    let items = c.args.items.now in
    let next : i - 1 + 1 ≡ i = omega arith in (
      λ h. cc,
      λ rising.
          let below = rising (i - 1) (omega (arith, length-map items (λ (item : Use). item.index), next)) in
          absurd (omega (arith, below, at items (i - 1), at items i, ap (λ k. get_or (map (λ (item : Use). item.index) items) k 0) next)),
    )

pub loop-i-preserved : goal.loop-i-preserved
loop-i-preserved c =
    let i = c.loop-i.i in
    let items = c.args.items.now in
    λ k lt. ⊎_elim
    (λ (e : k + 1 ≡ i).
    let before : k ≡ i - 1 = omega arith in
    rw (e, before) (omega (arith, at items (i - 1), at items i)))
    (λ (apart : k + 1 ≡ i → ⊥). c.loop-i.invariant k (omega arith))
    (cases_eq (k + 1) i)
