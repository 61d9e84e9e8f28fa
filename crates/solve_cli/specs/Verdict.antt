-- What the texts of MODEL and PROOF come to: the status that they give, and what is written then.
use Rattle.std.specs.Prelude.{◌≡◌, ℕ, ◌+◌, ◌*◌, ◌^◌, ◌<◌, ◌≤◌, List, [], ◌∷◌, length, ℤ, codes, Option, Some, None, option_map, IfSome, Ok, Err}
use Rattle.whole_rows.specs.WholeRows.{WholeRows, IsWithinLimits, cut_value}
use Rattle.proof_tree.specs.declared.tree.Tree.{Tree}
use Rattle.proof_tree.specs.declared.tree.PartTree.{PartTree}
use Rattle.proof_tree.specs.Trees.{Holds}
use Rattle.proof_tree.specs.PartTrees.{HoldsPart}
use Rattle.proof_tree.specs.Counts.{records, plain_splits, records_of_part, plain_splits_of_part, open_runs}
use Rattle.proof_tree.specs.Moves.{widest}
use Rattle.slice_branch.specs.Marked.{IsMarkedTree, IsMarkedPart}
use Rattle.proof_text.specs.declared.claim.Claim.{Claim}
use Rattle.proof_text.specs.declared.claim.Claim.TheVariants as claims
use Rattle.proof_text.specs.Spelling.{proof_text, part_text}
use Rattle.tree_checker.specs.declared.verdict.Reject.{Reject}
use Rattle.tree_checker.specs.Accepts.{Accepts}
use Rattle.tree_checker.specs.Rejects.{RejectsAt}
use Rattle.int_model.specs.declared.part.Part.{Part}
use Rattle.int_model.specs.declared.model.Column.{Column}
use Rattle.int_model.specs.declared.model.Model.{Model}
use Rattle.int_model.specs.IntegerRows.{integer_rows}
use Rattle.int_model.specs.Points.{IsPoint, IsBest, value_at}
use Rattle.int_model.specs.Large.{IsFirstLarge, HasNoLargePart}
use Rattle.mps_model.specs.declared.fault.TextFault.{TextFault}
use Rattle.mps_model.specs.Meaning.{meaning}
use Rattle.solve_cli.specs.declared.status.Input.TheVariants.{ModelText, ProofText}
use Rattle.solve_cli.specs.declared.status.Status.{Status}
use Rattle.solve_cli.specs.declared.status.Status.TheVariants.{Optimal, Infeasible, Accepted, Spent, Text, TooLong, Large, Rejected}
use Rattle.mps_fields.specs.Lines.{most_bytes}
use Rattle.solve_cli.specs.Words.{Reading, Task, solving, checking, making}
use Rattle.solve_cli.specs.Limits.{most_proof_bytes}
use Rattle.solve_cli.specs.Report.{bare_lines, found_lines, market_line, limit_line, text_line, accepted_lines, reject_line}
use Rattle.solve_cli.specs.Outputs.{Output, only, with_proof}

-- the model's rows of whole numbers, over its rounded bounds
abbrev pub rows_of : Model → WholeRows
rows_of model = (integer_rows model).whole

-- so many nodes decide every model of this many columns whose widest one has bounds this far apart
abbrev pub enough_nodes : Model → ℕ
enough_nodes model = (widest (rows_of model).box + 2) ^ (2 * length model.columns)

-- No part is too large, and a best point was found: a tree of no more nodes than the budget, and than are always enough, whose splits are marked by what
-- they are, shows that none is better. The report has a line for each of these columns. The proof claims that point, a checker accepts it, and it is within
-- the limit of a proof.
pub record FindsBest (columns : List Column) (nodes : ℕ) (model : Model) (out : Output) : Type 0 where
  pub small : HasNoLargePart model
  pub point : List ℤ
  pub best : IsBest model point
  pub tree : Tree
  pub shown : Holds (rows_of model) (Some (cut_value (rows_of model) point)) [] tree
  pub marked : IsMarkedTree (rows_of model) (Some (cut_value (rows_of model) point)) tree
  pub within : records tree ≤ nodes
  pub few : records tree ≤ enough_nodes model
  pub report : out ≡ with_proof (found_lines (codes "OPTIMAL") (value_at model point) columns point (records tree) (plain_splits tree)) (proof_text (claims.Optimal point) tree)
  pub accepted : Accepts (rows_of model) out.proof (claims.Optimal point)
  pub short : length out.proof ≤ most_proof_bytes

-- No part is too large, and the model has no point, as a tree of no more nodes than the budget, and than are always enough, shows, whose splits are marked
-- by what they are. A checker accepts the proof, which is within the limit.
pub record FindsNone (nodes : ℕ) (model : Model) (out : Output) : Type 0 where
  pub small : HasNoLargePart model
  pub none : (x : List ℤ) → IsPoint model x → ⊥
  pub tree : Tree
  pub shown : Holds (rows_of model) None [] tree
  pub marked : IsMarkedTree (rows_of model) None tree
  pub within : records tree ≤ nodes
  pub few : records tree ≤ enough_nodes model
  pub report : out ≡ with_proof (bare_lines (codes "INFEASIBLE") (records tree) (plain_splits tree)) (proof_text claims.Infeasible tree)
  pub accepted : Accepts (rows_of model) out.proof claims.Infeasible
  pub short : length out.proof ≤ most_proof_bytes

-- the report of a budget that is spent, with the best point if one was found
abbrev pub spent_lines : List Column → Model → Option (List ℤ) → ℕ → ℕ → List (List ℕ)
spent_lines columns model (Some point) nodes plain = found_lines (codes "SPENT") (value_at model point) columns point nodes plain
spent_lines columns model None nodes plain = bare_lines (codes "SPENT") nodes plain

-- No part is too large, and the budget is spent: as many nodes were worked as it has, and some node is open. What was worked
-- holds for the best point that was found. The budget is smaller than what decides every model of the same size.
pub record SpendsBudget (columns : List Column) (nodes : ℕ) (model : Model) (out : Output) : Type 0 where
  pub small : HasNoLargePart model
  pub best : Option (List ℤ)
  pub known : IfSome best (IsPoint model)
  pub part : PartTree
  pub shown : HoldsPart (rows_of model) (option_map (cut_value (rows_of model)) best) [] part
  pub marked : IsMarkedPart (rows_of model) (option_map (cut_value (rows_of model)) best) part
  pub counted : records_of_part part ≡ nodes
  pub unfinished : 0 < open_runs part
  pub few : nodes < enough_nodes model
  pub report : out ≡ with_proof (spent_lines columns model best nodes (plain_splits_of_part part)) (part_text part)

-- the model's first part that is too large
pub record FindsLarge (model : Model) (part : Part) (out : Output) : Type 0 where
  pub first : IsFirstLarge model part
  pub report : out ≡ only (limit_line model part ∷ [])

-- what solving a model comes to with a budget of so many nodes, where the values of these columns are printed
abbrev pub Solves : List Column → ℕ → Model → Status → Output → Type 0
Solves columns nodes model Optimal out = FindsBest columns nodes model out
Solves columns nodes model Infeasible out = FindsNone nodes model out
Solves columns nodes model Spent out = SpendsBudget columns nodes model out
Solves columns nodes model (Large part) out = FindsLarge model part out
Solves columns nodes model _ out = ⊥

-- What solving a market comes to with a budget of 1000 nodes, summed up: the line of its numbers, and then the report without the
-- lines of the columns.
pub record SumsUp (rows columns start : ℕ) (model : Model) (status : Status) (out : Output) : Type 0 where
  pub lines : List (List ℕ)
  pub summary : out.lines ≡ market_line rows columns start ∷ lines
  pub solved : Solves [] 1000 model status (with_proof lines out.proof)

-- what a claim says of a model: this point is best, or there is none; an open claim says nothing
abbrev pub IsTrueFor : Model → Claim → Type 0
IsTrueFor model (claims.Optimal point) = IsBest model point
IsTrueFor model claims.Infeasible = (x : List ℤ) → IsPoint model x → ⊥
IsTrueFor model claims.Open = ⊥

-- No part is too large, and the proof is accepted with its claim. So what it claims is true of the model.
pub record AcceptsProof (proof : List ℕ) (model : Model) (out : Output) : Type 0 where
  pub small : HasNoLargePart model
  pub limits : IsWithinLimits (rows_of model)
  pub short : length proof ≤ most_proof_bytes
  pub claim : Claim
  pub accepted : Accepts (rows_of model) proof claim
  pub shown : IsTrueFor model claim
  pub report : out ≡ only (accepted_lines (value_at model) claim)

-- no part is too large, and the proof is refused at this line
pub record RejectsProof (proof : List ℕ) (model : Model) (reject : Reject) (out : Output) : Type 0 where
  pub small : HasNoLargePart model
  pub limits : IsWithinLimits (rows_of model)
  pub short : length proof ≤ most_proof_bytes
  pub refused : RejectsAt (rows_of model) proof reject
  pub report : out ≡ only (reject_line reject ∷ [])

-- no part is too large, and the proof has more bytes than a proof may have
pub record IsTooLongProof (proof : List ℕ) (model : Model) (out : Output) : Type 0 where
  pub small : HasNoLargePart model
  pub long : most_proof_bytes < length proof
  pub report : out ≡ only (codes "LIMIT PROOF" ∷ [])

-- what checking a proof against a model comes to
abbrev pub Checks : List ℕ → Model → Status → Output → Type 0
Checks proof model Accepted out = AcceptsProof proof model out
Checks proof model (Rejected reject) out = RejectsProof proof model reject out
Checks proof model (TooLong ProofText) out = IsTooLongProof proof model out
Checks proof model (Large part) out = FindsLarge model part out
Checks proof model _ out = ⊥

-- what a model comes to under a task, with these bytes in PROOF
abbrev pub Comes : Task → List ℕ → Model → Status → Output → Type 0
Comes (solving nodes) proof = λ model. Solves model.columns nodes model
Comes checking proof = Checks proof
Comes (making rows columns start) proof = SumsUp rows columns start

-- the text states this model
abbrev pub States : Reading → List ℕ → Model → Type 0
States reading text model = meaning reading.layout reading.upper text ≡ Ok model

-- the text states a model, of which this holds
pub record IsStated (reading : Reading) (text : List ℕ) (Holds : Model → Type 0) : Type 0 where
  pub short : length text ≤ most_bytes
  pub model : Model
  pub states : States reading text model
  pub holds : Holds model

-- the text has this first fault
pub record IsRefused (reading : Reading) (text : List ℕ) (fault : TextFault) (out : Output) : Type 0 where
  pub short : length text ≤ most_bytes
  pub first : meaning reading.layout reading.upper text ≡ Err fault
  pub report : out ≡ only (text_line fault ∷ [])

-- the text has more bytes than a text may have
pub record IsTooLong (text : List ℕ) (out : Output) : Type 0 where
  pub long : most_bytes < length text
  pub report : out ≡ only (codes "LIMIT MODEL" ∷ [])

-- which status a text gives, and what is written then, where a model comes to this
abbrev pub Verdict : Reading → (Model → Status → Output → Type 0) → List ℕ → Status → Output → Type 0
Verdict reading Follows text (Text fault) out = IsRefused reading text fault out
Verdict reading Follows text (TooLong ModelText) out = IsTooLong text out
Verdict reading Follows text status out = IsStated reading text (λ model. Follows model status out)

-- what is said of a model without any work on it: a part is too large
abbrev pub IsUnfit : Model → Status → Output → Type 0
IsUnfit model (Large part) out = FindsLarge model part out
IsUnfit model _ out = ⊥
