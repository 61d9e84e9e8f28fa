-- Options that are read one after another.
use Rattle.std.proofs.Common.{◌≡◌, ◌≢◌, ◌≤◌, ◌-◌, ℕ, pos, Bool, true, false, cond, List, [], ◌∷◌, length, get_or, map, take, drop, Option, Some, None, refl, sym, ap, ◌∙◌, subst, arith, length-drop}
use Rattle.std.specs.Prelude.{◌==◌, option_map, option_and_then, codes, bytes_eq}
use Rattle.std.proofs.lemmas.Bool.{eqb-true}
use Rattle.std.proofs.lemmas.List.{drop-map, take-map, take_all, length-map}
use Rattle.std.proofs.lemmas.Option.{same_Some}
use Rattle.solve_cli.specs.declared.words.SolveOption.{SolveOption}
use Rattle.solve_cli.specs.declared.words.SolveOption.TheVariants.{Fixed, Upper, Nodes}
use Rattle.solve_cli.specs.declared.words.Chosen.{Chosen}
use Rattle.solve_cli.specs.Words.{number_within, most_upper, most_nodes, valued_option_of, first_option_of, words_in, options_of, with_option, settled, none_chosen, settled_options, are_file_names, named, files_of, most_market_rows, most_market_columns, most_start, market_job, numbered_market, market_of}

-- an option in front of what words spell behind it
abbrev before : SolveOption → List (List ℕ) → Option (List SolveOption)
before option words = option_map (λ options. option ∷ options) (options_of (drop (words_in option) words))

-- the words of the option are there, and what they all spell begins with it
pub record Begins (option : SolveOption) (words : List (List ℕ)) : Type 0 where
  pub within : words_in option ≤ length words
  pub spelled : options_of words ≡ option_map (λ options. option ∷ options) (options_of (drop (words_in option) words))

-- an option of two words
two_words : (word next : List ℕ) (option : SolveOption) → valued_option_of word next ≡ Some option → words_in option ≡ 2
two_words word next option e = by (bytes_eq word (codes "--upper")) (bytes_eq word (codes "--nodes")) (number_within 0 most_upper next) (number_within 1 most_nodes next) e
  where
    by : (upper nodes : Bool) (bound count : Option ℕ) → cond upper (option_map (λ bound. Upper (pos bound)) bound) (cond nodes (option_map Nodes count) None) ≡ Some option → words_in option ≡ 2
    by true nodes (Some bound) count e = subst (λ o. words_in o ≡ 2) (same_Some (Upper (pos bound)) option e) refl
    by true nodes None count e = absurd cc
    by false true bound (Some count) e = subst (λ o. words_in o ≡ 2) (same_Some (Nodes count) option e) refl
    by false true bound None e = absurd cc
    by false false bound count e = absurd cc

one_begins : (word : List ℕ) (fixed : Bool) (option : SolveOption) → cond fixed (Some Fixed) None ≡ Some option
    → (words_in option ≤ 1) × (cond fixed (Some (Fixed ∷ [])) None ≡ before option (word ∷ []))
unfolding options_of
one_begins word true option e = subst (λ o. (words_in o ≤ 1) × (Some (Fixed ∷ []) ≡ before o (word ∷ []))) (same_Some Fixed option e) (omega arith, refl)
one_begins word false option e = absurd cc

module _ (word next : List ℕ) (words : List (List ℕ)) where
  abbrev all : Bool → Option SolveOption → Option (List SolveOption)
  all fixed valued =
      cond fixed (option_map (λ options. Fixed ∷ options) (options_of (next ∷ words)))
      (option_and_then (λ option. option_map (λ options. option ∷ options) (options_of words)) valued)

  abbrev Follows : Bool → Option SolveOption → SolveOption → Type 0
  Follows fixed valued option = (words_in option ≤ length (word ∷ next ∷ words)) × (all fixed valued ≡ before option (word ∷ next ∷ words))

  begins : (fixed : Bool) (valued : Option SolveOption) (option : SolveOption) → ((o : SolveOption) → valued ≡ Some o → words_in o ≡ 2)
      → cond fixed (Some Fixed) valued ≡ Some option → Follows fixed valued option
  begins true valued option two e = subst (Follows true valued) (same_Some Fixed option e) (omega arith, refl)
  begins false (Some valued) option two e =
      let count : words_in valued ≡ 2 = two valued refl in
      subst (Follows false (Some valued)) (same_Some valued option e)
      (omega (arith, count), ap (λ n. option_map (λ options. valued ∷ options) (options_of (drop n (word ∷ next ∷ words)))) (sym count))
  begins false None option two e = absurd cc

  none : (fixed : Bool) (valued : Option SolveOption) → cond fixed (Some Fixed) valued ≡ None → all fixed valued ≡ None
  none true valued e = absurd cc
  none false (Some valued) e = absurd cc
  none false None e = refl

-- the first option, with what the words behind it spell
pub first_begins : (words : List (List ℕ)) (option : SolveOption) → first_option_of words ≡ Some option → Begins option words
unfolding options_of
first_begins [] option e = absurd cc
first_begins (word ∷ []) option e =
    let parts = one_begins word (bytes_eq word (codes "--fixed")) option e in
    record { within = parts.0; spelled = parts.1 }
first_begins (word ∷ next ∷ words) option e =
    let parts = begins word next words (bytes_eq word (codes "--fixed")) (valued_option_of word next) option (two_words word next) e in
    record { within = parts.0; spelled = parts.1 }

one_none : (fixed : Bool) → cond fixed (Some Fixed) None ≡ None → cond fixed (Some (Fixed ∷ [])) None ≡ None
one_none true e = absurd cc
one_none false e = refl

-- words that begin with no option spell none
pub first_none : (words : List (List ℕ)) → words ≢ [] → first_option_of words ≡ None → options_of words ≡ None
unfolding options_of
first_none [] some e = absurd (some refl)
first_none (word ∷ []) some e = one_none (bytes_eq word (codes "--fixed")) e
first_none (word ∷ next ∷ words) some e = none word next words (bytes_eq word (codes "--fixed")) (valued_option_of word next) e

-- one more option settled
pub settled_more : (given more : Chosen) (option : SolveOption) (rest : Option (List SolveOption)) → with_option given option ≡ Some more
    → option_and_then (settled given) (option_map (λ options. option ∷ options) rest) ≡ option_and_then (settled more) rest
settled_more given more option None e = refl
settled_more given more option (Some options) e = rw e refl

-- an option that is given already settles nothing
pub settled_twice : (given : Chosen) (option : SolveOption) (rest : Option (List SolveOption)) → with_option given option ≡ None
    → option_and_then (settled given) (option_map (λ options. option ∷ options) rest) ≡ None
settled_twice given option None e = refl
settled_twice given option (Some options) e = rw e refl

-- what is left of a list behind its first items
rest_of : {X : Type 0} (rest : List X) (k : ℕ) → take (length rest - k) (drop k rest) ≡ drop k rest
rest_of rest k = take_all (length rest - k) (drop k rest) (omega (arith, length-drop k rest))

-- a list with items has items after a map
pub map_some : {X Y : Type 0} (f : X → Y) (xs : List X) → (length xs == 0) ≡ false → map f xs ≢ []
map_some f [] e = absurd cc
map_some f (x ∷ xs) e = λ h. absurd cc

module _ {X : Type 0} (text : X → List ℕ) (rest : List X) (given : Chosen) (all : Option Chosen) (so_far : option_and_then (settled given) (options_of (map text rest)) ≡ all) where
  -- one option more was read
  pub read_more : (next : List X) (more : Chosen) (option : SolveOption) (k : ℕ) → Some option ≡ first_option_of (map text rest) → Some more ≡ with_option given option
      → k ≡ words_in option → next ≡ take (length rest - k) (drop k rest) → option_and_then (settled more) (options_of (map text next)) ≡ all
  read_more next more option k first settles count left =
      let next_is : map text next ≡ drop (words_in option) (map text rest) =
      ap (map text) (left ∙ rest_of rest k ∙ ap (λ n. drop n rest) count) ∙ sym (drop-map text (words_in option) rest) in
      ap (λ words. option_and_then (settled more) (options_of words)) next_is
      ∙ sym (settled_more given more option (options_of (drop (words_in option) (map text rest))) (sym settles))
      ∙ ap (option_and_then (settled given)) (sym (first_begins (map text rest) option (sym first)).spelled)
      ∙ so_far

  -- the words go on with no option
  pub read_other : (length rest == 0) ≡ false → None ≡ first_option_of (map text rest) → None ≡ all
  read_other some first = sym (ap (option_and_then (settled given)) (first_none (map text rest) (map_some text rest some) (sym first))) ∙ so_far

  -- the words go on with an option that is given already
  pub read_twice : (option : SolveOption) → Some option ≡ first_option_of (map text rest) → None ≡ with_option given option → None ≡ all
  read_twice option first settles =
      sym (settled_twice given option (options_of (drop (words_in option) (map text rest))) (sym settles))
      ∙ ap (option_and_then (settled given)) (sym (first_begins (map text rest) option (sym first)).spelled)
      ∙ so_far

  -- all words are read
  pub read_all : (length rest == 0) ≡ true → Some given ≡ all
  unfolding options_of
  read_all empty = by rest empty so_far
    where
      by : (rest : List X) → (length rest == 0) ≡ true → option_and_then (settled given) (options_of (map text rest)) ≡ all → Some given ≡ all
      by [] empty so_far = so_far
      by (x ∷ xs) empty so_far = absurd (omega (arith, eqb-true (length (x ∷ xs)) 0 empty))

-- ---- two names behind the options

two_items : {X : Type 0} (names : List X) (first second : X) → length names ≡ 2 → first ≡ get_or names 0 first → second ≡ get_or names 1 second → names ≡ first ∷ second ∷ []
two_items [] first second two is_first is_second = absurd (omega arith)
two_items (x ∷ []) first second two is_first is_second = absurd (omega arith)
two_items (x ∷ y ∷ []) first second two is_first is_second = rw (is_first, is_second) refl
two_items (x ∷ y ∷ z ∷ names) first second two is_first is_second = absurd (omega arith)

module _ {X : Type 0} (text : X → List ℕ) (words front names : List X) (k : ℕ) (model proof : X)
    (count : k ≡ length words - 2) (in_front : front ≡ take k words) (behind : names ≡ drop k words) (two : length names ≡ 2)
    (is_model : model ≡ get_or names 0 model) (is_proof : proof ≡ get_or names 1 proof) where
  -- what the words in front settle, with the two names
  files_are : files_of (map text words) ≡ option_and_then (named (text model ∷ text proof ∷ [])) (option_and_then (settled none_chosen) (options_of (map text front)))
  files_are =
      let n : length (map text words) - 2 ≡ k = ap (λ m. m - 2) (length-map words text) ∙ sym count in
      let last : drop (length (map text words) - 2) (map text words) ≡ text model ∷ text proof ∷ [] =
      ap (λ m. drop m (map text words)) n ∙ drop-map text k words ∙ ap (map text) (sym behind ∙ two_items names model proof two is_model is_proof) in
      let first : take (length (map text words) - 2) (map text words) ≡ map text front =
      ap (λ m. take m (map text words)) n ∙ take-map text k words ∙ ap (map text) (sym in_front) in
      ap (λ names. option_and_then (named names) (settled_options (take (length (map text words) - 2) (map text words)))) last
      ∙ ap (λ words. option_and_then (named (text model ∷ text proof ∷ [])) (settled_options words)) first

  -- the names are no two names of files
  pub not_named : are_file_names (text model) (text proof) ≡ false → files_of (map text words) ≡ None
  not_named other = files_are ∙ by (option_and_then (settled none_chosen) (options_of (map text front)))
    where
      by : (chosen : Option Chosen) → option_and_then (named (text model ∷ text proof ∷ [])) chosen ≡ None
      by None = refl
      by (Some chosen) = rw other refl

  -- the options and the names
  pub is_files : (chosen : Chosen) (model_name proof_name : List ℕ) → are_file_names (text model) (text proof) ≡ true
      → Some chosen ≡ option_and_then (settled none_chosen) (options_of (map text front)) → model_name ≡ text model → proof_name ≡ text proof
      → files_of (map text words) ≡ Some (record { chosen = chosen; model = model_name; proof = proof_name })
  is_files chosen model_name proof_name files settles same_model same_proof =
      files_are ∙ ap (option_and_then (named (text model ∷ text proof ∷ []))) (sym settles) ∙ rw (files, same_model, same_proof) refl

-- ---- three numbers and two names

five_items : {X : Type 0} (words : List X) (a b c d e : X) → length words ≡ 5 → a ≡ get_or words 0 a → b ≡ get_or words 1 b → c ≡ get_or words 2 c → d ≡ get_or words 3 d → e ≡ get_or words 4 e
    → words ≡ a ∷ b ∷ c ∷ d ∷ e ∷ []
five_items [] a b c d e five f g h i j = absurd (omega arith)
five_items (x ∷ []) a b c d e five f g h i j = absurd (omega arith)
five_items (x ∷ y ∷ []) a b c d e five f g h i j = absurd (omega arith)
five_items (x ∷ y ∷ z ∷ []) a b c d e five f g h i j = absurd (omega arith)
five_items (x ∷ y ∷ z ∷ u ∷ []) a b c d e five f g h i j = absurd (omega arith)
five_items (x ∷ y ∷ z ∷ u ∷ v ∷ []) a b c d e five f g h i j = rw (f, g, h, i, j) refl
five_items (x ∷ y ∷ z ∷ u ∷ v ∷ w ∷ words) a b c d e five f g h i j = absurd (omega arith)

-- fewer or more words are no market
pub not_five : {X : Type 0} (text : X → List ℕ) (words : List X) → (length words ≡ 5 → ⊥) → market_of (map text words) ≡ None
not_five text [] other = refl
not_five text (x ∷ []) other = refl
not_five text (x ∷ y ∷ []) other = refl
not_five text (x ∷ y ∷ z ∷ []) other = refl
not_five text (x ∷ y ∷ z ∷ u ∷ []) other = refl
not_five text (x ∷ y ∷ z ∷ u ∷ v ∷ []) other = absurd (other (omega arith))
not_five text (x ∷ y ∷ z ∷ u ∷ v ∷ w ∷ words) other = refl

module _ {X : Type 0} (text : X → List ℕ) (words : List X) (rows columns start model proof : X) (five : length words ≡ 5)
    (is_rows : rows ≡ get_or words 0 rows) (is_columns : columns ≡ get_or words 1 columns) (is_start : start ≡ get_or words 2 start)
    (is_model : model ≡ get_or words 3 model) (is_proof : proof ≡ get_or words 4 proof) where
  -- five words are a market where the first three are its numbers and the last two its names
  pub market_is : (m n s : Option ℕ) → m ≡ number_within 1 most_market_rows (text rows) → n ≡ number_within 1 most_market_columns (text columns) → s ≡ number_within 1 most_start (text start)
      → market_of (map text words) ≡ numbered_market (text model) (text proof) m n s
  market_is m n s is_m is_n is_s =
      ap (λ items. market_of (map text items)) (five_items words rows columns start model proof five is_rows is_columns is_start is_model is_proof)
      ∙ rw (is_m, is_n, is_s) refl

  module _ (m n s : ℕ) (is_m : Some m ≡ number_within 1 most_market_rows (text rows)) (is_n : Some n ≡ number_within 1 most_market_columns (text columns))
      (is_s : Some s ≡ number_within 1 most_start (text start)) where
    -- the last two are no two names of files
    pub not_market : are_file_names (text model) (text proof) ≡ false → market_of (map text words) ≡ None
    not_market other = market_is (Some m) (Some n) (Some s) is_m is_n is_s ∙ ap (λ b. cond b (Some (market_job (text model) (text proof) m n s)) None) other

    pub is_market : (model_name proof_name : List ℕ) → are_file_names (text model) (text proof) ≡ true → model_name ≡ text model → proof_name ≡ text proof
        → market_of (map text words) ≡ Some (market_job model_name proof_name m n s)
    is_market model_name proof_name files same_model same_proof =
        market_is (Some m) (Some n) (Some s) is_m is_n is_s ∙ ap (λ b. cond b (Some (market_job (text model) (text proof) m n s)) None) files
        ∙ rw (same_model, same_proof) refl
