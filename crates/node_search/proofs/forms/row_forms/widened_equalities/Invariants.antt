use Rattle.std.proofs.Common.{◌≡◌, length}
use Rattle.std.specs.List.{All}
use Rattle.reformulate.specs.declared.equality.Equality.{Equality}
use Rattle.node_search.proofs.forms.row_forms.widened_equalities.Given as goal

abbrev pub invariant-loop-equality : goal.invariant-loop-equality
invariant-loop-equality l = All (λ (equality : Equality). length equality.form ≡ l.width) l.wide
