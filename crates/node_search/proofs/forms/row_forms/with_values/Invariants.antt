use Rattle.std.proofs.Common.{◌≡◌, length}
use Rattle.std.specs.List.{All}
use Rattle.reformulate.specs.declared.equality.Equality.{Equality}
use Rattle.node_search.proofs.forms.row_forms.with_values.Given as goal

abbrev pub invariant-loop-k : goal.invariant-loop-k
invariant-loop-k l = All (λ (equality : Equality). length equality.form ≡ l.width) l.all
