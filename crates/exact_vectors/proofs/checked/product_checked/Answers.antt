use Rattle.std.proofs.Common.{◌≡◌, ℤ, pos, negsuc, ◌*ℤ◌, FitsSigned, SFits, arith, to_z-of_z, lit<, true}
use Rattle.std.proofs.lemmas.Int.{ints, fits_signed_mul}
use Rattle.exact_vectors.proofs.checked.product_checked.Goals as goal
use lib.Signed.{lt_z, le_z}
use mir.Syntax.{w128}

-- a product of two numbers of 64 bits fits 128
product_fits : (a b : ℤ) → le_z (negsuc 9223372036854775807) a ≡ true → lt_z a (pos 9223372036854775808) ≡ true → le_z (negsuc 9223372036854775807) b ≡ true → lt_z b (pos 9223372036854775808) ≡ true → FitsSigned w128 (a *ℤ b)
product_fits a b la ha lb hb = fits_signed_mul w128 a b 9223372036854775808 9223372036854775808 (omega (arith, ints)) (omega (arith, ints)) (lit< tt)

pub returns-then-b-lt-NARROW : goal.returns-then-b-lt-NARROW
returns-then-b-lt-NARROW c =
    let fa : SFits w128 c.args.a = c.ranges.a in
    let fb : SFits w128 c.args.b = c.ranges.b in
    let la = simp to_z-of_z at (c.if-a.true) in
    let ha = simp to_z-of_z at (c.if-a-lt-NARROW.true) in
    let lb = simp to_z-of_z at (c.if-b.true) in
    let hb = simp to_z-of_z at (c.if-b-lt-NARROW.true) in
    let fits : SFits w128 (c.args.a *ℤ c.args.b) = product_fits c.args.a c.args.b la ha lb hb in
    (fits, simp to_z-of_z)
