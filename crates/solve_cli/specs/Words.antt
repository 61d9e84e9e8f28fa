-- The command that a list of words spells.
use Rattle.std.specs.Prelude.{◌≡◌, ◌++◌, ◌≤◌, ◌≤ℤ◌, All, flat_map, ℕ, Bool, true, not, ◌&&◌, ◌||◌, nat_le, ◌-◌, ◌==◌, if◌then◌else◌, List, [], ◌∷◌, length, take, drop, slice_index, ℤ, pos, Option, Some, None, option_map, option_and_then, unwrap_or, is_some, codes, bytes_eq, decimal}
use Rattle.std.specs.Fmt.{signed_decimal}
use Rattle.mps_fields.specs.Decimal.{is_digits, digits_value}
use Rattle.mps_model.specs.declared.layout.Layout.{Layout}
use Rattle.mps_model.specs.declared.layout.Layout.TheVariants.{Free, Fixed as fixed_layout}
use Rattle.solve_cli.specs.FileNames.{is_file_name}
use Rattle.solve_cli.specs.declared.words.SolveOption.{SolveOption}
use Rattle.solve_cli.specs.declared.words.SolveOption.TheVariants.{Fixed, Upper, Nodes}
use Rattle.solve_cli.specs.declared.words.Chosen.{Chosen}
use Rattle.solve_cli.specs.declared.words.Files.{Files}

-- digits, the first of which is no 0 (the byte 48) unless it is the only one
abbrev pub is_plain_number : List ℕ → Bool
is_plain_number word = is_digits word && ((length word == 1) || not (slice_index word 0 == 48))

-- the whole number from low to high that a word spells in its shortest decimal digits
abbrev pub number_within : ℕ → ℕ → List ℕ → Option ℕ
number_within low high word =
    if is_plain_number word && (nat_le low (digits_value word) && nat_le (digits_value word) high) then Some (digits_value word) else None

-- the greatest upper bound that may be handed in, 2^62
abbrev pub most_upper : ℕ
most_upper = 4611686018427387904

-- the greatest budget of nodes
abbrev pub most_nodes : ℕ
most_nodes = 1000

-- the option of two words: `--upper` or `--nodes`, and its number
abbrev pub valued_option_of : List ℕ → List ℕ → Option SolveOption
valued_option_of word next =
    if bytes_eq word (codes "--upper") then option_map (λ bound. Upper (pos bound)) (number_within 0 most_upper next)
    else if bytes_eq word (codes "--nodes") then option_map Nodes (number_within 1 most_nodes next) else None

-- the option that words begin with: `--fixed`, or one of two words
abbrev pub first_option_of : List (List ℕ) → Option SolveOption
first_option_of [] = None
first_option_of (word ∷ []) = if bytes_eq word (codes "--fixed") then Some Fixed else None
first_option_of (word ∷ next ∷ words) = if bytes_eq word (codes "--fixed") then Some Fixed else valued_option_of word next

-- how many words an option has
abbrev pub words_in : SolveOption → ℕ
words_in Fixed = 1
words_in (Upper bound) = 2
words_in (Nodes count) = 2

-- the options that words spell, in order
unfoldable pub options_of : List (List ℕ) → Option (List SolveOption)
options_of [] = Some []
options_of (word ∷ []) = if bytes_eq word (codes "--fixed") then Some (Fixed ∷ []) else None
options_of (word ∷ next ∷ words) =
    if bytes_eq word (codes "--fixed") then option_map (λ options. Fixed ∷ options) (options_of (next ∷ words))
    else option_and_then (λ option. option_map (λ options. option ∷ options) (options_of words)) (valued_option_of word next)

abbrev pub with_fixed : Layout → Option ℤ → Option ℕ → Option Chosen
with_fixed Free upper nodes = Some (record { layout = fixed_layout; upper = upper; nodes = nodes })
with_fixed fixed_layout upper nodes = None

abbrev pub with_upper : ℤ → Layout → Option ℤ → Option ℕ → Option Chosen
with_upper bound layout None nodes = Some (record { layout = layout; upper = Some bound; nodes = nodes })
with_upper bound layout (Some other) nodes = None

abbrev pub with_nodes : ℕ → Layout → Option ℤ → Option ℕ → Option Chosen
with_nodes count layout upper None = Some (record { layout = layout; upper = upper; nodes = Some count })
with_nodes count layout upper (Some other) = None

-- one more option beside those that are given; none where it is given already
abbrev pub with_option : Chosen → SolveOption → Option Chosen
with_option given Fixed = with_fixed given.layout given.upper given.nodes
with_option given (Upper bound) = with_upper bound given.layout given.upper given.nodes
with_option given (Nodes count) = with_nodes count given.layout given.upper given.nodes

-- the options in any order, each at most once
abbrev pub settled : Chosen → List SolveOption → Option Chosen
settled given [] = Some given
settled given (option ∷ options) = option_and_then (λ more. settled more options) (with_option given option)

-- free form, no upper bound and no budget
abbrev pub none_chosen : Chosen
none_chosen = record { layout = Free; upper = None; nodes = None }

-- the options that words spell, in any order, each at most once
abbrev pub settled_options : List (List ℕ) → Option Chosen
settled_options words = option_and_then (settled none_chosen) (options_of words)

-- how a model text is read: its layout, and the upper bound of the columns for which it gives none
pub record Reading : Type 0 where
  pub layout : Layout
  pub upper : Option ℤ

abbrev pub reading : Layout → Option ℤ → Reading
reading layout upper = record { layout = layout; upper = upper }

-- what is done: the model in MODEL is solved with a budget of so many nodes, or a proof is checked against it, or the market of so
-- many rows and columns from this start is put into MODEL and solved
pub data Task : Type 0 where
  solving : ℕ → Task
  checking : Task
  making : ℕ → ℕ → ℕ → Task

-- the budget of nodes, where there is one; that of a market is the one that solving has where none is chosen
abbrev pub budget_of : Task → Option ℕ
budget_of (solving nodes) = Some nodes
budget_of checking = None
budget_of (making rows columns start) = Some 1000

-- the model is read from MODEL
abbrev pub ReadsModel : Task → Type 0
ReadsModel (solving nodes) = Unit {0}
ReadsModel checking = Unit {0}
ReadsModel (making rows columns start) = ⊥

-- the model is made, and put into MODEL
abbrev pub MakesModel : Task → Type 0
MakesModel (solving nodes) = ⊥
MakesModel checking = ⊥
MakesModel (making rows columns start) = Unit {0}

-- a command: what is done, how the text of MODEL is read, and the names of MODEL and PROOF
pub record Job : Type 0 where
  pub task : Task
  pub reading : Reading
  pub model : List ℕ
  pub proof : List ℕ

abbrev pub job : Task → Layout → Option ℤ → List ℕ → List ℕ → Job
job task layout upper model proof = record { task = task; reading = reading layout upper; model = model; proof = proof }

-- the names of the files differ
abbrev pub are_file_names : List ℕ → List ℕ → Bool
are_file_names model proof = is_file_name model && is_file_name proof && not (bytes_eq model proof)

abbrev pub named : List (List ℕ) → Chosen → Option Files
named (model ∷ proof ∷ []) chosen = if are_file_names model proof then Some (record { chosen = chosen; model = model; proof = proof }) else None
named words chosen = None

-- options in front of two names
abbrev pub files_of : List (List ℕ) → Option Files
files_of words = option_and_then (named (drop (length words - 2) words)) (settled_options (take (length words - 2) words))

-- solving has a budget of 1000 nodes where none is chosen
abbrev pub solve_of : Files → Job
solve_of files = job (solving (unwrap_or files.chosen.nodes 1000)) files.chosen.layout files.chosen.upper files.model files.proof

-- checking has no budget
abbrev pub check_of : Files → Option Job
check_of files = if is_some files.chosen.nodes then None else Some (job checking files.chosen.layout files.chosen.upper files.model files.proof)

-- the greatest numbers of rows and of columns of a market, and the greatest start of its stream
abbrev pub most_market_rows : ℕ
most_market_rows = 10

abbrev pub most_market_columns : ℕ
most_market_columns = 100

abbrev pub most_start : ℕ
most_start = 2147483646

-- a market is read in free form, without an upper bound for columns that have none
abbrev pub market_job : List ℕ → List ℕ → ℕ → ℕ → ℕ → Job
market_job model proof rows columns start = job (making rows columns start) Free None model proof

-- three numbers in front of two different names of files
abbrev pub numbered_market : List ℕ → List ℕ → Option ℕ → Option ℕ → Option ℕ → Option Job
numbered_market model proof (Some rows) (Some columns) (Some start) = if are_file_names model proof then Some (market_job model proof rows columns start) else None
numbered_market model proof rows columns start = None

abbrev pub market_of : List (List ℕ) → Option Job
market_of (rows ∷ columns ∷ start ∷ model ∷ proof ∷ []) =
    numbered_market model proof (number_within 1 most_market_rows rows) (number_within 1 most_market_columns columns) (number_within 1 most_start start)
market_of words = None

-- the command, or none
abbrev pub command_of : List (List ℕ) → Option Job
command_of [] = None
command_of (word ∷ words) =
    if bytes_eq word (codes "solve") then option_map solve_of (files_of words)
    else if bytes_eq word (codes "check") then option_and_then check_of (files_of words)
    else if bytes_eq word (codes "market") then market_of words else None

-- the words of an option
abbrev pub option_words : SolveOption → List (List ℕ)
option_words Fixed = codes "--fixed" ∷ []
option_words (Upper bound) = codes "--upper" ∷ signed_decimal bound ∷ []
option_words (Nodes count) = codes "--nodes" ∷ decimal count ∷ []

-- an upper bound is a whole number from 0 to 2^62, and a budget of nodes one from 1 to 1000
abbrev pub IsOption : SolveOption → Type 0
IsOption Fixed = Unit {0}
IsOption (Upper bound) = (pos 0 ≤ℤ bound) × (bound ≤ℤ pos most_upper)
IsOption (Nodes count) = (1 ≤ count) × (count ≤ most_nodes)

-- the words in front of the options: the name of the command, and the numbers of a market
abbrev pub task_words : Task → List (List ℕ)
task_words (solving nodes) = codes "solve" ∷ []
task_words checking = codes "check" ∷ []
task_words (making rows columns start) = codes "market" ∷ decimal rows ∷ decimal columns ∷ decimal start ∷ []

-- the budget is the one that is chosen, or 1000 where none is; a check and a market have none to choose
abbrev pub HasBudget : Task → Option ℕ → Type 0
HasBudget (solving nodes) chosen = nodes ≡ unwrap_or chosen 1000
HasBudget checking chosen = chosen ≡ None
HasBudget (making rows columns start) chosen = chosen ≡ None

-- the numbers of a market are within their limits
pub record IsMarket (rows columns start : ℕ) : Type 0 where
  pub some_rows : 1 ≤ rows
  pub few_rows : rows ≤ most_market_rows
  pub some_columns : 1 ≤ columns
  pub few_columns : columns ≤ most_market_columns
  pub first_start : 1 ≤ start
  pub last_start : start ≤ most_start

-- a market has no options
abbrev pub HasNumbers : Task → List SolveOption → Type 0
HasNumbers (solving nodes) options = Unit {0}
HasNumbers checking options = Unit {0}
HasNumbers (making rows columns start) options = (options ≡ []) × IsMarket rows columns start

-- `solve [--fixed] [--upper U] [--nodes N] MODEL PROOF`, `check [--fixed] [--upper U] MODEL PROOF` or `market M N START MODEL PROOF`:
-- options in any order, each at most once, and two different names of files
pub record Spells (words : List (List ℕ)) (command : Job) : Type 0 where
  pub options : List SolveOption
  pub in_range : All IsOption options
  pub chosen : Chosen
  pub once : settled none_chosen options ≡ Some chosen
  pub meant : command.reading ≡ reading chosen.layout chosen.upper
  pub budget : HasBudget command.task chosen.nodes
  pub numbers : HasNumbers command.task options
  pub names : are_file_names command.model command.proof ≡ true
  pub spelled : words ≡ task_words command.task ++ (flat_map option_words options ++ command.model ∷ command.proof ∷ [])
