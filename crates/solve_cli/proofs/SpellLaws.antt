-- Words are read as a command exactly where they are that command written down.
use Rattle.std.proofs.Common.{◌≡◌, ◌≢◌, ◌-◌, ℕ, ℤ, pos, negsuc, ◌≤◌, ◌≤ℤ◌, Bool, true, false, cond, List, [], ◌∷◌, ◌++◌, length, take, drop, Option, Some, None, refl, sym, ap, ◌∙◌, subst, arith, take-append-drop}
use Rattle.std.specs.Prelude.{◌&&◌, not, All, IfSome, option_map, option_and_then, unwrap_or, is_some, if◌then◌else◌, codes, bytes_eq, flat_map, decimal}
use Rattle.std.proofs.lemmas.Bool.{cond-true}
use Rattle.std.proofs.lemmas.Int.{ints}
use Rattle.std.proofs.lemmas.List.{length-append, take_at, drop_at}
use Rattle.std.proofs.lemmas.Slice.Eq.{bytes_eq-Decides}
use Rattle.std.specs.Fmt.{signed_decimal}
use Rattle.std.proofs.lemmas.Option.{same_Some}
use Rattle.std.proofs.lemmas.List.Elements.{All-nil, All-cons, All-head, All-tail}
use Rattle.mps_model.specs.declared.layout.Layout.{Layout}
use Rattle.mps_model.specs.declared.layout.Layout.TheVariants.{Free}
use Rattle.mps_model.specs.declared.layout.Layout.TheVariants as Layouts
use Rattle.solve_cli.specs.declared.words.SolveOption.{SolveOption}
use Rattle.solve_cli.specs.declared.words.SolveOption.TheVariants.{Fixed, Upper, Nodes}
use Rattle.solve_cli.specs.declared.words.Chosen.{Chosen}
use Rattle.solve_cli.specs.declared.words.Files.{Files}
use Rattle.solve_cli.specs.FileNames.{is_file_name}
use Rattle.solve_cli.specs.Words.{Reading, reading, Task, solving, checking, making, MakesModel, Job, job, market_job, number_within, most_upper, most_nodes, most_market_rows, most_market_columns, most_start, valued_option_of, options_of, option_words, IsOption, settled, with_fixed, with_upper, with_nodes, with_option, none_chosen, settled_options, named, are_file_names, files_of, solve_of, check_of, numbered_market, market_of, command_of, task_words, HasBudget, HasNumbers, IsMarket, Spells}
use Rattle.solve_cli.proofs.NumberSpelling.{number_spelled, spelled_number}

-- ---- steps of options

text_is : (xs ys : List ℕ) → bytes_eq xs ys ≡ true → xs ≡ ys
text_is xs ys e = (bytes_eq-Decides xs ys).0 e

when_true : {A : Type 0} (b : Bool) (o : Option A) (x : A) → cond b o None ≡ Some x → (b ≡ true) × (o ≡ Some x)
when_true true o x e = (refl, e)
when_true false o x e = absurd cc

map_some : {A B : Type 0} (f : A → B) (o : Option A) (y : B) → option_map f o ≡ Some y → (x : A) × (o ≡ Some x) × (f x ≡ y)
map_some f (Some x) y e = (x, refl, same_Some (f x) y e)
map_some f None y e = absurd cc

then_some : {A B : Type 0} (f : A → Option B) (o : Option A) (y : B) → option_and_then f o ≡ Some y → (x : A) × (o ≡ Some x) × (f x ≡ Some y)
then_some f (Some x) y e = (x, refl, e)
then_some f None y e = absurd cc

-- ---- options

-- the words are those of the options
abbrev Written : List (List ℕ) → List SolveOption → Type 0
Written words options = All IsOption options × (words ≡ flat_map option_words options)

fixed_more : (word : List ℕ) (words : List (List ℕ)) (options : List SolveOption) → word ≡ codes "--fixed" → Written words options → Written (word ∷ words) (Fixed ∷ options)
fixed_more word words options is_word rest = (All-cons IsOption Fixed options tt rest.0, rw (is_word, rest.1) refl)

two_same : (one other first second : List ℕ) → first ≡ one → second ≡ other → one ∷ other ∷ [] ≡ first ∷ second ∷ []
two_same one other first second a b = rw (a, b) refl

-- an option of two words is written as those
abbrev WrittenAs : List ℕ → List ℕ → SolveOption → Type 0
WrittenAs word next option = IsOption option × (option_words option ≡ word ∷ next ∷ [])

upper_written : (word next : List ℕ) (option : SolveOption) → word ≡ codes "--upper" → option_map (λ bound. Upper (pos bound)) (number_within 0 most_upper next) ≡ Some option → WrittenAs word next option
upper_written word next option is_word e =
    let bound = map_some (λ bound. Upper (pos bound)) (number_within 0 most_upper next) option e in
    let spelled = number_spelled 0 most_upper (omega arith) next bound.0 bound.1 in
    let low : pos 0 ≤ℤ pos bound.0 = omega (arith, ints) in
    let high : pos bound.0 ≤ℤ pos most_upper = omega (arith, ints, spelled.1) in
    subst (WrittenAs word next) bound.2 ((low, high), two_same (codes "--upper") (signed_decimal (pos bound.0)) word next is_word spelled.2)

nodes_written : (word next : List ℕ) (option : SolveOption) → word ≡ codes "--nodes" → option_map Nodes (number_within 1 most_nodes next) ≡ Some option → WrittenAs word next option
nodes_written word next option is_word e =
    let count = map_some Nodes (number_within 1 most_nodes next) option e in
    let spelled = number_spelled 1 most_nodes (omega arith) next count.0 count.1 in
    subst (WrittenAs word next) count.2 ((spelled.0, spelled.1), two_same (codes "--nodes") (decimal count.0) word next is_word spelled.2)

valued_written : (word next : List ℕ) (option : SolveOption) → valued_option_of word next ≡ Some option → WrittenAs word next option
valued_written word next option e = by (bytes_eq word (codes "--upper")) (bytes_eq word (codes "--nodes")) refl refl e
  where
    by : (upper nodes : Bool) → bytes_eq word (codes "--upper") ≡ upper → bytes_eq word (codes "--nodes") ≡ nodes
        → cond upper (option_map (λ bound. Upper (pos bound)) (number_within 0 most_upper next)) (cond nodes (option_map Nodes (number_within 1 most_nodes next)) None) ≡ Some option
        → WrittenAs word next option
    by true nodes is_upper is_nodes e = upper_written word next option (text_is word (codes "--upper") is_upper) e
    by false true is_upper is_nodes e = nodes_written word next option (text_is word (codes "--nodes") is_nodes) e
    by false false is_upper is_nodes e = absurd cc

valued_more : (word next : List ℕ) (words : List (List ℕ)) (option : SolveOption) (options : List SolveOption) → valued_option_of word next ≡ Some option → Written words options
    → Written (word ∷ next ∷ words) (option ∷ options)
valued_more word next words option options valued rest =
    let written = valued_written word next option valued in
    (All-cons IsOption option options written.0 rest.0, ap (λ front. front ++ words) (sym written.1) ∙ ap (λ more. option_words option ++ more) rest.1)

module _ (word next : List ℕ) (words : List (List ℕ))
    (behind : (options : List SolveOption) → options_of (next ∷ words) ≡ Some options → Written (next ∷ words) options)
    (behind_two : (options : List SolveOption) → options_of words ≡ Some options → Written words options) where
  two_words : (fixed : Bool) (valued : Option SolveOption) (options : List SolveOption) → bytes_eq word (codes "--fixed") ≡ fixed → valued_option_of word next ≡ valued
      → cond fixed (option_map (λ options. Fixed ∷ options) (options_of (next ∷ words)))
      (option_and_then (λ option. option_map (λ options. option ∷ options) (options_of words)) valued) ≡ Some options
      → Written (word ∷ next ∷ words) options
  two_words true valued options is_fixed is_valued e =
      let rest = map_some (λ options. Fixed ∷ options) (options_of (next ∷ words)) options e in
      subst (Written (word ∷ next ∷ words)) rest.2 (fixed_more word (next ∷ words) rest.0 (text_is word (codes "--fixed") is_fixed) (behind rest.0 rest.1))
  two_words false (Some option) options is_fixed is_valued e =
      let rest = map_some (λ options. option ∷ options) (options_of words) options e in
      subst (Written (word ∷ next ∷ words)) rest.2 (valued_more word next words option rest.0 is_valued (behind_two rest.0 rest.1))
  two_words false None options is_fixed is_valued e = absurd cc

one_word : (word : List ℕ) (options : List SolveOption) → cond (bytes_eq word (codes "--fixed")) (Some (Fixed ∷ [])) None ≡ Some options → Written (word ∷ []) options
one_word word options e =
    let told = when_true (bytes_eq word (codes "--fixed")) (Some (Fixed ∷ [])) options e in
    subst (Written (word ∷ [])) (same_Some (Fixed ∷ []) options told.1) (fixed_more word [] [] (text_is word (codes "--fixed") told.0) (All-nil IsOption, refl))

-- words that are read as options are those of the options
options_written : (words : List (List ℕ)) (options : List SolveOption) → options_of words ≡ Some options → Written words options
unfolding options_of
options_written [] options e = subst (Written []) (same_Some [] options e) (All-nil IsOption, refl)
options_written (word ∷ []) options e = one_word word options e
options_written (word ∷ next ∷ words) options e =
    two_words word next words (λ more h. options_written (next ∷ words) more h) (λ more h. options_written words more h)
    (bytes_eq word (codes "--fixed")) (valued_option_of word next) options refl refl e

fixed_front : (words : List (List ℕ)) → options_of (codes "--fixed" ∷ words) ≡ option_map (λ options. Fixed ∷ options) (options_of words)
unfolding options_of
fixed_front [] = refl
fixed_front (word ∷ words) = refl

valued_front : (word next : List ℕ) (words : List (List ℕ)) (option : SolveOption) → bytes_eq word (codes "--fixed") ≡ false → valued_option_of word next ≡ Some option
    → options_of (word ∷ next ∷ words) ≡ option_map (λ options. option ∷ options) (options_of words)
unfolding options_of
valued_front word next words option other e = rw other (ap (option_and_then (λ option. option_map (λ options. option ∷ options) (options_of words))) e)

written_bound : (b : ℤ) → IsOption (Upper b) → valued_option_of (codes "--upper") (signed_decimal b) ≡ Some (Upper b)
written_bound (pos u) range = ap (option_map (λ bound. Upper (pos bound))) (spelled_number 0 most_upper (omega arith) u (omega arith) (omega (arith, ints, range.1)))
written_bound (negsuc n) range = absurd (omega (arith, ints, range.0))

written_nodes : (count : ℕ) → IsOption (Nodes count) → valued_option_of (codes "--nodes") (decimal count) ≡ Some (Nodes count)
written_nodes count range = ap (option_map Nodes) (spelled_number 1 most_nodes (omega arith) count range.0 range.1)

-- and the words of options are read as them
written_options : (options : List SolveOption) → All IsOption options → options_of (flat_map option_words options) ≡ Some options
unfolding options_of
written_options [] range = refl
written_options (Fixed ∷ options) range =
    fixed_front (flat_map option_words options) ∙ ap (option_map (λ more. Fixed ∷ more)) (written_options options (All-tail IsOption Fixed options range))
written_options (Upper b ∷ options) range =
    valued_front (codes "--upper") (signed_decimal b) (flat_map option_words options) (Upper b) refl (written_bound b (All-head IsOption (Upper b) options range))
    ∙ ap (option_map (λ more. Upper b ∷ more)) (written_options options (All-tail IsOption (Upper b) options range))
written_options (Nodes n ∷ options) range =
    valued_front (codes "--nodes") (decimal n) (flat_map option_words options) (Nodes n) refl (written_nodes n (All-head IsOption (Nodes n) options range))
    ∙ ap (option_map (λ more. Nodes n ∷ more)) (written_options options (All-tail IsOption (Nodes n) options range))

-- ---- commands

named_parts : (words : List (List ℕ)) (chosen : Chosen) (files : Files) → named words chosen ≡ Some files
    → (words ≡ files.model ∷ files.proof ∷ []) × (files.chosen ≡ chosen) × (are_file_names files.model files.proof ≡ true)
named_parts [] chosen files e = absurd cc
named_parts (one ∷ []) chosen files e = absurd cc
named_parts (model ∷ proof ∷ []) chosen files e =
    let told = when_true (are_file_names model proof) (Some (record { chosen = chosen; model = model; proof = proof })) files e in
    subst (λ (f : Files). (model ∷ proof ∷ [] ≡ f.model ∷ f.proof ∷ []) × (f.chosen ≡ chosen) × (are_file_names f.model f.proof ≡ true))
    (same_Some (record { chosen = chosen; model = model; proof = proof }) files told.1) (refl, refl, told.0)
named_parts (one ∷ two ∷ three ∷ words) chosen files e = absurd cc

-- options in front of two names are written down
record SpellsFiles (words : List (List ℕ)) (files : Files) : Type 0 where
  options : List SolveOption
  in_range : All IsOption options
  once : settled none_chosen options ≡ Some files.chosen
  names : are_file_names files.model files.proof ≡ true
  spelled : words ≡ flat_map option_words options ++ files.model ∷ files.proof ∷ []

files_spelled : (words : List (List ℕ)) (files : Files) → files_of words ≡ Some files → SpellsFiles words files
files_spelled words files e =
    let n = length words - 2 in
    let told = then_some (named (drop n words)) (settled_options (take n words)) files e in
    let settles = then_some (settled none_chosen) (options_of (take n words)) told.0 told.1 in
    let names = named_parts (drop n words) told.0 files told.2 in
    let written = options_written (take n words) settles.0 settles.1 in
    record {
      options = settles.0;
      in_range = written.0;
      once = settles.2 ∙ ap Some (sym names.1);
      names = names.2;
      spelled = sym (take-append-drop n words) ∙ ap (λ front. front ++ drop n words) written.1 ∙ ap (λ last. flat_map option_words settles.0 ++ last) names.0;
    }

-- a first word in front of them is a command
spelled_with : (words : List (List ℕ)) (files : Files) (task : Task) → SpellsFiles words files → HasBudget task files.chosen.nodes → ((options : List SolveOption) → HasNumbers task options)
    → Spells (task_words task ++ words) (job task files.chosen.layout files.chosen.upper files.model files.proof)
spelled_with words files task s budget numbers = record {
  options = s.options;
  in_range = s.in_range;
  chosen = files.chosen;
  once = s.once;
  meant = refl;
  budget = budget;
  numbers = numbers s.options;
  names = s.names;
  spelled = ap (λ rest. task_words task ++ rest) s.spelled;
}

solve_spelled : (words : List (List ℕ)) (command : Job) → option_map solve_of (files_of words) ≡ Some command → Spells (codes "solve" ∷ words) command
solve_spelled words command e =
    let files = map_some solve_of (files_of words) command e in
    subst (Spells (codes "solve" ∷ words)) files.2 (spelled_with words files.0 (solving (unwrap_or files.0.chosen.nodes 1000)) (files_spelled words files.0 files.1) refl (λ options. tt))

no_budget : (files : Files) (command : Job) (nodes : Option ℕ) → files.chosen.nodes ≡ nodes → (if is_some nodes then None else Some (job checking files.chosen.layout files.chosen.upper files.model files.proof)) ≡ Some command
    → (files.chosen.nodes ≡ None) × (job checking files.chosen.layout files.chosen.upper files.model files.proof ≡ command)
no_budget files command None e is = (e, same_Some (job checking files.chosen.layout files.chosen.upper files.model files.proof) command is)
no_budget files command (Some nodes) e is = absurd cc

check_spelled : (words : List (List ℕ)) (command : Job) → option_and_then check_of (files_of words) ≡ Some command → Spells (codes "check" ∷ words) command
check_spelled words command e =
    let files = then_some check_of (files_of words) command e in
    let told = no_budget files.0 command files.0.chosen.nodes refl files.2 in
    subst (Spells (codes "check" ∷ words)) told.1 (spelled_with words files.0 checking (files_spelled words files.0 files.1) told.0 (λ options. tt))

-- and so is a market with its three numbers
five_same : (one two three four five first second third : List ℕ) → first ≡ one → second ≡ two → third ≡ three
    → codes "market" ∷ first ∷ second ∷ third ∷ four ∷ five ∷ [] ≡ codes "market" ∷ one ∷ two ∷ three ∷ four ∷ five ∷ []
five_same one two three four five first second third e f g = rw (e, f, g) refl

module _ (rows columns start model proof : List ℕ) (command : Job) where
  numbered_spelled : (m n s : Option ℕ) → number_within 1 most_market_rows rows ≡ m → number_within 1 most_market_columns columns ≡ n → number_within 1 most_start start ≡ s
      → numbered_market model proof m n s ≡ Some command → Spells (codes "market" ∷ rows ∷ columns ∷ start ∷ model ∷ proof ∷ []) command
  numbered_spelled (Some m) (Some n) (Some s) is_m is_n is_s e =
      let told = when_true (are_file_names model proof) (Some (market_job model proof m n s)) command e in
      let a = number_spelled 1 most_market_rows (omega arith) rows m is_m in
      let b = number_spelled 1 most_market_columns (omega arith) columns n is_n in
      let c = number_spelled 1 most_start (omega arith) start s is_s in
      subst (Spells (codes "market" ∷ rows ∷ columns ∷ start ∷ model ∷ proof ∷ [])) (same_Some (market_job model proof m n s) command told.1)
      (record {
        options = [];
        in_range = All-nil IsOption;
        chosen = none_chosen;
        once = refl;
        meant = refl;
        budget = refl;
        numbers = (refl, record { some_rows = a.0; few_rows = a.1; some_columns = b.0; few_columns = b.1; first_start = c.0; last_start = c.1 });
        names = told.0;
        spelled = five_same (decimal m) (decimal n) (decimal s) model proof rows columns start a.2 b.2 c.2;
      })
  numbered_spelled None n s is_m is_n is_s e = absurd cc
  numbered_spelled (Some m) None s is_m is_n is_s e = absurd cc
  numbered_spelled (Some m) (Some n) None is_m is_n is_s e = absurd cc

market_spelled : (words : List (List ℕ)) (command : Job) → market_of words ≡ Some command → Spells (codes "market" ∷ words) command
market_spelled (rows ∷ columns ∷ start ∷ model ∷ proof ∷ []) command e =
    numbered_spelled rows columns start model proof command (number_within 1 most_market_rows rows) (number_within 1 most_market_columns columns) (number_within 1 most_start start) refl refl refl e
market_spelled [] command e = absurd cc
market_spelled (a ∷ []) command e = absurd cc
market_spelled (a ∷ b ∷ []) command e = absurd cc
market_spelled (a ∷ b ∷ c ∷ []) command e = absurd cc
market_spelled (a ∷ b ∷ c ∷ d ∷ []) command e = absurd cc
market_spelled (a ∷ b ∷ c ∷ d ∷ f ∷ g ∷ words) command e = absurd cc

pub command_spelled : (words : List (List ℕ)) (command : Job) → command_of words ≡ Some command → Spells words command
command_spelled [] command e = absurd cc
command_spelled (word ∷ words) command e = by (bytes_eq word (codes "solve")) (bytes_eq word (codes "check")) (bytes_eq word (codes "market")) refl refl refl e
  where
    by : (solve check market : Bool) → bytes_eq word (codes "solve") ≡ solve → bytes_eq word (codes "check") ≡ check → bytes_eq word (codes "market") ≡ market
        → cond solve (option_map solve_of (files_of words)) (cond check (option_and_then check_of (files_of words)) (cond market (market_of words) None)) ≡ Some command → Spells (word ∷ words) command
    by true check market is_solve is_check is_market e = subst (λ w. Spells (w ∷ words) command) (sym (text_is word (codes "solve") is_solve)) (solve_spelled words command e)
    by false true market is_solve is_check is_market e = subst (λ w. Spells (w ∷ words) command) (sym (text_is word (codes "check") is_check)) (check_spelled words command e)
    by false false true is_solve is_check is_market e = subst (λ w. Spells (w ∷ words) command) (sym (text_is word (codes "market") is_market)) (market_spelled words command e)
    by false false false is_solve is_check is_market e = absurd cc

module _ (files : Files) (options : List SolveOption) (range : All IsOption options) (once : settled none_chosen options ≡ Some files.chosen) (names : are_file_names files.model files.proof ≡ true) where
  abbrev front : List (List ℕ)
  front = flat_map option_words options

  abbrev last : List (List ℕ)
  last = files.model ∷ files.proof ∷ []

  count : length (front ++ last) - 2 ≡ length front
  count = omega (arith, length-append front last)

  spelled_files : files_of (front ++ last) ≡ Some files
  spelled_files =
      ap (λ n. option_and_then (named (drop n (front ++ last))) (settled_options (take n (front ++ last)))) count
      ∙ ap (λ words. option_and_then (named words) (settled_options (take (length front) (front ++ last)))) (drop_at front last (length front) refl)
      ∙ ap (λ words. option_and_then (named last) (settled_options words)) (take_at front last (length front) refl)
      ∙ ap (λ found. option_and_then (named last) (option_and_then (settled none_chosen) found)) (written_options options range)
      ∙ ap (option_and_then (named last)) once
      ∙ cond-true (are_file_names files.model files.proof) (Some files) None names

-- the words of a market are read as it
numbers_read : (rows columns start : ℕ) (model proof : List ℕ) → IsMarket rows columns start → are_file_names model proof ≡ true
    → market_of (decimal rows ∷ decimal columns ∷ decimal start ∷ model ∷ proof ∷ []) ≡ Some (market_job model proof rows columns start)
numbers_read rows columns start model proof is names =
    ap (λ (m : Option ℕ). numbered_market model proof m (number_within 1 most_market_columns (decimal columns)) (number_within 1 most_start (decimal start)))
    (spelled_number 1 most_market_rows (omega arith) rows is.some_rows is.few_rows)
    ∙ ap (λ (n : Option ℕ). numbered_market model proof (Some rows) n (number_within 1 most_start (decimal start))) (spelled_number 1 most_market_columns (omega arith) columns is.some_columns is.few_columns)
    ∙ ap (λ (s : Option ℕ). numbered_market model proof (Some rows) (Some columns) s) (spelled_number 1 most_start (omega arith) start is.first_start is.last_start)
    ∙ cond-true (are_file_names model proof) (Some (market_job model proof rows columns start)) None names

module _ (command : Job) (options : List SolveOption) (range : All IsOption options) (chosen : Chosen) (once : settled none_chosen options ≡ Some chosen) (meant : command.reading ≡ reading chosen.layout chosen.upper)
    (names : are_file_names command.model command.proof ≡ true) where
  abbrev behind : List (List ℕ)
  behind = flat_map option_words options ++ command.model ∷ command.proof ∷ []

  found : files_of behind ≡ Some (record { chosen = chosen; model = command.model; proof = command.proof })
  found = spelled_files (record { chosen = chosen; model = command.model; proof = command.proof }) options range once names

  whole : (task : Task) → command.task ≡ task → job task chosen.layout chosen.upper command.model command.proof ≡ command
  whole task e =
      ap (λ (t : Task). job t chosen.layout chosen.upper command.model command.proof) (sym e)
      ∙ ap (λ (r : Reading). record { task = command.task; reading = r; model = command.model; proof = command.proof }) (sym meant)

  -- a market has no options, and its numbers are read again
  market_read : (rows columns start : ℕ) → command.task ≡ making rows columns start → options ≡ [] → IsMarket rows columns start
      → command_of (task_words (making rows columns start) ++ behind) ≡ Some command
  market_read rows columns start e none is =
      let plain : chosen ≡ none_chosen = sym (same_Some none_chosen chosen (subst (λ o. settled none_chosen o ≡ Some chosen) none once)) in
      ap (λ (o : List SolveOption). command_of (task_words (making rows columns start) ++ (flat_map option_words o ++ command.model ∷ command.proof ∷ []))) none
      ∙ numbers_read rows columns start command.model command.proof is names
      ∙ ap (λ (c : Chosen). Some (job (making rows columns start) c.layout c.upper command.model command.proof)) (sym plain)
      ∙ ap Some (whole (making rows columns start) e)

  read_as : (task : Task) → command.task ≡ task → HasBudget task chosen.nodes → HasNumbers task options → command_of (task_words task ++ behind) ≡ Some command
  read_as (making rows columns start) e budget numbers = market_read rows columns start e numbers.0 numbers.1
  read_as (solving nodes) e budget numbers =
      ap (option_map solve_of) found
      ∙ ap (λ n. Some (job (solving n) chosen.layout chosen.upper command.model command.proof)) (sym budget) ∙ ap Some (whole (solving nodes) e)
  read_as checking e none numbers =
      ap (option_and_then check_of) found
      ∙ ap (λ (nodes : Option ℕ). if is_some nodes then None else Some (job checking chosen.layout chosen.upper command.model command.proof)) none ∙ ap Some (whole checking e)

pub spelled_command : (words : List (List ℕ)) (command : Job) → Spells words command → command_of words ≡ Some command
spelled_command words command s = ap command_of s.spelled ∙ read_as command s.options s.in_range s.chosen s.once s.meant s.names command.task refl s.budget s.numbers

-- ---- the numbers of a command

-- an upper bound is at least 0, and a budget is from 1 to 1000
pub record IsBounded (chosen : Chosen) : Type 0 where
  pub upper : IfSome chosen.upper (λ bound. pos 0 ≤ℤ bound)
  pub nodes : IfSome chosen.nodes (λ count. (1 ≤ count) × (count ≤ most_nodes))

bounded_fixed : (layout : Layout) (upper : Option ℤ) (nodes : Option ℕ) (more : Chosen) → IfSome upper (λ bound. pos 0 ≤ℤ bound) → IfSome nodes (λ count. (1 ≤ count) × (count ≤ most_nodes))
    → with_fixed layout upper nodes ≡ Some more → IsBounded more
bounded_fixed Free upper nodes more low range e = subst IsBounded (same_Some (record { layout = Layouts.Fixed; upper = upper; nodes = nodes }) more e) (record { upper = low; nodes = range })
bounded_fixed Layouts.Fixed upper nodes more low range e = absurd cc

bounded_upper : (bound : ℤ) (layout : Layout) (upper : Option ℤ) (nodes : Option ℕ) (more : Chosen) → pos 0 ≤ℤ bound → IfSome nodes (λ count. (1 ≤ count) × (count ≤ most_nodes))
    → with_upper bound layout upper nodes ≡ Some more → IsBounded more
bounded_upper bound layout None nodes more low range e = subst IsBounded (same_Some (record { layout = layout; upper = Some bound; nodes = nodes }) more e) (record { upper = low; nodes = range })
bounded_upper bound layout (Some other) nodes more low range e = absurd cc

bounded_nodes : (count : ℕ) (layout : Layout) (upper : Option ℤ) (nodes : Option ℕ) (more : Chosen) → (1 ≤ count) × (count ≤ most_nodes) → IfSome upper (λ bound. pos 0 ≤ℤ bound)
    → with_nodes count layout upper nodes ≡ Some more → IsBounded more
bounded_nodes count layout upper None more range low e = subst IsBounded (same_Some (record { layout = layout; upper = upper; nodes = Some count }) more e) (record { upper = low; nodes = range })
bounded_nodes count layout upper (Some other) more range low e = absurd cc

bounded_with : (given more : Chosen) (option : SolveOption) → IsOption option → IsBounded given → with_option given option ≡ Some more → IsBounded more
bounded_with given more Fixed range bounded e = bounded_fixed given.layout given.upper given.nodes more bounded.upper bounded.nodes e
bounded_with given more (Upper bound) range bounded e = bounded_upper bound given.layout given.upper given.nodes more range.0 bounded.nodes e
bounded_with given more (Nodes count) range bounded e = bounded_nodes count given.layout given.upper given.nodes more range bounded.upper e

bounded_settled : (given more : Chosen) (options : List SolveOption) → All IsOption options → IsBounded given → settled given options ≡ Some more → IsBounded more
bounded_settled given more [] range bounded e = subst IsBounded (same_Some given more e) bounded
bounded_settled given more (option ∷ options) range bounded e =
    let step = then_some (λ next. settled next options) (with_option given option) more e in
    bounded_settled step.0 more options (All-tail IsOption option options range)
    (bounded_with given step.0 option (All-head IsOption option options range) bounded step.1) step.2

-- a budget that is given, or 1000
budget_range : (nodes : Option ℕ) → IfSome nodes (λ count. (1 ≤ count) × (count ≤ most_nodes)) → (1 ≤ unwrap_or nodes 1000) × (unwrap_or nodes 1000 ≤ most_nodes)
budget_range None range = (omega arith, omega arith)
budget_range (Some count) range = range

-- a budget is from 1 to 1000, and the numbers of a market are within their limits
abbrev pub IsBudget : Task → Type 0
IsBudget (solving nodes) = (1 ≤ nodes) × (nodes ≤ most_nodes)
IsBudget checking = Unit {0}
IsBudget (making rows columns start) = IsMarket rows columns start

-- the numbers of a command are in their ranges
pub record IsInRange (command : Job) : Type 0 where
  pub upper : IfSome command.reading.upper (λ bound. pos 0 ≤ℤ bound)
  pub budget : IsBudget command.task

pub bounded_command : (words : List (List ℕ)) (command : Job) → command_of words ≡ Some command → IsInRange command
bounded_command words command e =
    let spelled = command_spelled words command e in
    let bounded = bounded_settled none_chosen spelled.chosen spelled.options spelled.in_range (record { upper = tt; nodes = tt }) spelled.once in
    record {
      upper = subst (λ (r : Reading). IfSome r.upper (λ bound. pos 0 ≤ℤ bound)) (sym spelled.meant) bounded.upper;
      budget = by command.task spelled.options spelled.chosen.nodes spelled.budget spelled.numbers (budget_range spelled.chosen.nodes bounded.nodes);
    }
  where
    by : (task : Task) (options : List SolveOption) (chosen : Option ℕ) → HasBudget task chosen → HasNumbers task options → (1 ≤ unwrap_or chosen 1000) × (unwrap_or chosen 1000 ≤ most_nodes) → IsBudget task
    by (making rows columns start) options chosen is numbers range = numbers.1
    by (solving nodes) options chosen is numbers range = subst (λ n. (1 ≤ n) × (n ≤ most_nodes)) (sym is) range
    by checking options chosen is numbers range = tt

-- a market is read in free form, without an upper bound
pub market_reading : (words : List (List ℕ)) (command : Job) → command_of words ≡ Some command → MakesModel command.task → command.reading ≡ reading Free None
market_reading words command e makes =
    let spelled = command_spelled words command e in
    let none : spelled.options ≡ [] = by command.task spelled.options makes spelled.numbers in
    let plain : none_chosen ≡ spelled.chosen = same_Some none_chosen spelled.chosen (subst (λ o. settled none_chosen o ≡ Some spelled.chosen) none spelled.once) in
    spelled.meant ∙ ap (λ (c : Chosen). reading c.layout c.upper) (sym plain)
  where
    by : (task : Task) (options : List SolveOption) → MakesModel task → HasNumbers task options → options ≡ []
    by (solving nodes) options makes numbers = absurd makes
    by checking options makes numbers = absurd makes
    by (making rows columns start) options makes numbers = numbers.0

-- ---- the names of a command

not_same : (front same : Bool) → front && not same ≡ true → same ≡ false
not_same true false e = refl
not_same true true e = absurd cc
not_same false same e = absurd cc

-- MODEL and PROOF are two names
pub names_differ : (words : List (List ℕ)) (command : Job) → command_of words ≡ Some command → command.proof ≢ command.model
names_differ words command e =
    let names = (command_spelled words command e).names in
    let differ = not_same (is_file_name command.model && is_file_name command.proof) (bytes_eq command.model command.proof) names in
    λ same. let equal = (bytes_eq-Decides command.model command.proof).1 (sym same) in absurd cc
