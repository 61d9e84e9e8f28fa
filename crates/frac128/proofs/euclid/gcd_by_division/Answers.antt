use Rattle.std.proofs.Common.{◌≡◌, sym, ap, ap₂, ◌∙◌}
use Rattle.exact_math.specs.Gcd.{gcd}
use Rattle.exact_math.specs.GcdLaws.{gcd-mod, gcd-zero, gcd-one, gcd_comm}
use Rattle.frac128.proofs.BinaryGcd.{ordered}
use Rattle.frac128.proofs.euclid.gcd_by_division.Goals as goal
use Rattle.frac128.proofs.euclid.gcd_by_division.Goals.{then-high-ge-WORD, else-high-ge-WORD}

pub loop-low-init : goal.loop-low-init
loop-low-init c = ap₂ gcd c.max-high.ensures c.min-low.ensures ∙ ordered c.args.a c.args.b

pub loop-low-preserved : goal.loop-low-preserved
loop-low-preserved c = sym (gcd-mod c.loop-low.high c.loop-low.low) ∙ c.loop-low.invariant

pub returns-then-low-eq0 : goal.returns-then-low-eq0
returns-then-low-eq0 c =
    sym (gcd-zero c.loop-low.high) ∙ ap (gcd c.loop-low.high) (sym c.if-low-eq0.true) ∙ c.loop-low.invariant

pub returns : goal.returns
returns c =
    let last : gcd c.loop-low.low c.if-high-ge-WORD.rest ≡ gcd c.loop-low.high c.loop-low.low = elim c.if-high-ge-WORD.branch [
      | then-high-ge-WORD w ↦ ap (gcd c.loop-low.low) w.rest-is ∙ sym (gcd-mod c.loop-low.high c.loop-low.low)
      | else-high-ge-WORD w ↦ ap (gcd c.loop-low.low) w.rest-is ∙ gcd_comm c.loop-low.low c.loop-low.high
    ] in
    c.from.ensures ∙ c.gcd_of_words.ensures ∙ last ∙ c.loop-low.invariant

pub returns-then-low-eq1 : goal.returns-then-low-eq1
returns-then-low-eq1 c =
    sym (gcd-one c.loop-low.high) ∙ ap (gcd c.loop-low.high) (sym c.if-low-eq1.true) ∙ c.loop-low.invariant
