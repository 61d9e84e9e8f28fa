use Rattle.std.proofs.Common.{◌≡◌, ◌^◌, ◌≤◌, ◌<◌, ℕ, Ok, Err, true, sym, ap, ◌∙◌, arith}
use Rattle.mps_fields.specs.Decimal.{digits_value}
use Rattle.solve_cli.specs.Words.{is_plain_number}
use Rattle.solve_cli.proofs.NumberSpelling.{parses, is_within, is_below, is_above}
use Rattle.solve_cli.proofs.words.number.Goals.{After-parse, In-Ok}
use Rattle.solve_cli.proofs.words.number.Goals as goal

plain : (c : After-parse) → is_plain_number c.args.word.now ≡ true
plain c = ap is_plain_number (sym c.as_bytes.ensures.value) ∙ sym c.if-not-is_plain_number.ensures

pub returns-in_default-clause-value : goal.returns-in_default-clause-value
returns-in_default-clause-value c =
    let wide : digits_value c.args.word.now < 2 ^ 64 → ⊥ = parses {E = ℕ} c.args.word.now (Err 0) (plain (goal.at.returns-in_default-clause-value c).After-parse) c.in_default.ensures.value.0 in
    let least : 2 ^ 64 ≤ digits_value c.args.word.now = omega (arith, wide) in
    is_above c.args.low c.args.high c.args.word.now (plain (goal.at.returns-in_default-clause-value c).After-parse) (2 ^ 64) least (omega (arith, c.ranges.high.fits))

-- a word of digits that fit is parsed as their value
value_of : (c : In-Ok) → c.in-Ok.number ≡ digits_value c.args.word.now
value_of c = (parses {E = ℕ} c.args.word.now (Ok c.in-Ok.number) (plain (goal.at.In-Ok c).After-parse) c.in-Ok.ensures.value.0).1

pub returns-then-number-low-clause-value : goal.returns-then-number-low-clause-value
returns-then-number-low-clause-value c =
    let at = goal.at.returns-then-number-low-clause-value c in
    is_below c.args.low c.args.high c.args.word.now (plain at.After-parse) c.in-Ok.number (value_of at.In-Ok) c.if-number-low.true

pub returns-then-number-high-clause-value : goal.returns-then-number-high-clause-value
returns-then-number-high-clause-value c =
    let at = goal.at.returns-then-number-high-clause-value c in
    let same = value_of at.In-Ok in
    is_above c.args.low c.args.high c.args.word.now (plain at.After-parse) c.in-Ok.number (omega (arith, same)) c.if-number-high.true

pub returns-clause-value : goal.returns-clause-value
returns-clause-value c =
    let at = goal.at.returns-clause-value c in
    is_within c.args.low c.args.high c.args.word.now (plain at.After-parse) c.in-Ok.number (value_of at.In-Ok) c.if-number-low.false c.if-number-high.false
