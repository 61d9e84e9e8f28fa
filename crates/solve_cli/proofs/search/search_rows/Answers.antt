use Rattle.std.proofs.Common.{Bool}
use Rattle.std.specs.Prelude.{Result, Ok, Err, IfOk}
use Rattle.proof_tree.specs.Found.{IsFound}
use Rattle.proof_tree.specs.declared.tree.Searched.{Searched}
use Rattle.slice_branch.specs.Framed.{IsAllowed}
use Rattle.slice_branch.specs.Places.{is_plain_place}
use Rattle.solve_cli.proofs.search.search_rows.Goals as goal

on_ok : {T E : Type 0} (P Q : T → Type 0) (result : Result T E) → ((value : T) → P value → Q value) → IfOk result P → IfOk result Q
on_ok P Q (Ok value) step holds = step value holds
on_ok P Q (Err e) step holds = tt

pub returns-clause-found : goal.returns-clause-found
returns-clause-found c =
    let rows = c.args.rows.now in
    let plain = is_plain_place c.in_ok-root.root in
    on_ok (IsFound (IsAllowed rows) rows plain c.args.nodes) (λ (found : Searched). (x : Bool) × IsFound (IsAllowed rows) rows x c.args.nodes found) c.search.result
    (λ found is. (plain, is)) c.search.ensures.found
