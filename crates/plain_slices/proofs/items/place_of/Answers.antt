use Rattle.std.proofs.Common.{◌≡◌, ◌≢◌, ◌-◌, ◌≤◌, ◌<◌, ℕ, pos, arith, get_or, ap, ⊎_elim}
use Rattle.std.proofs.lemmas.Bool.{cases_lt}
use Rattle.std.proofs.lemmas.List.{get_or-map}
use Rattle.farkas_rows.specs.declared.line.Use.{Use}
use Rattle.plain_slices.specs.Items.{numbers_of}
use Rattle.plain_slices.proofs.items.place_of.Goals as goal

pub loop-place-preserved : goal.loop-place-preserved
loop-place-preserved c =
    let items = c.args.items.now in
    let last = c.loop-place.place - 1 in
    let d : Use = record { index = 0; times = pos 0 } in
    let other : (get_or items last d).index ≢ c.args.number = c.requires last d (omega arith) in
    let here : get_or (numbers_of items) last 0 ≡ (get_or items last d).index = get_or-map (λ (item : Use). item.index) items last d 0 (omega arith) in
    record {
      within = omega arith;
      after = λ k h lt. ⊎_elim
          (λ (at : k < c.loop-place.place). let same : k ≡ last = omega arith in omega (arith, ap (λ (j : ℕ). get_or (numbers_of items) j 0) same))
          (λ (above : c.loop-place.place ≤ k). c.loop-place.invariant.after k above lt)
          (cases_lt k c.loop-place.place);
    }
