use Rattle.std.proofs.Common.{◌≡◌, ℕ, ◌+◌, ◌-◌, List, ◌++◌, length, take, drop, sym, ap, ◌∙◌, subst, arith}
use Rattle.std.proofs.lemmas.List.{take_rest}
use Rattle.std.proofs.Math.Seq.{take-add}
use Rattle.std.proofs.KnownBytes.{Appends-trans}
use Rattle.std.specs.Io.KnownBytes.{Appends}
use Rattle.desk_io.proofs.transfer.write_front.Goals as goal

-- what is written, and then the front of what is left
grows : (bytes : List ℕ) (done n : ℕ) → take done bytes ++ take n (take (length bytes - done) (drop done bytes)) ≡ take (done + n) bytes
grows bytes done n = ap (λ rest. take done bytes ++ take n rest) (take_rest bytes done) ∙ sym (take-add done n bytes)

pub loop-done-preserved : goal.loop-done-preserved
loop-done-preserved g c =
    let n = c.in-Ok.n in
    let bytes = c.args.bytes.now in
    let done = c.loop-done.done in record {
      within = omega (arith, c.in-Ok.ensures.bound);
      bytes = subst (Appends _ _) (grows bytes done n) (Appends-trans _ _ _ _ _ c.loop-done.invariant.bytes c.in-Ok.ensures.bytes);
    }
