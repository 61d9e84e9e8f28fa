-- Bytes that are put piece by piece, and a tree's children one after another.
use Rattle.std.proofs.Common.{◌≡◌, ◌<◌, ◌+◌, suc, length, get_or, ℕ, List, [], ◌∷◌, ◌++◌, Option, Some, None, refl, sym, ap, ◌∙◌, append-nil, subst, arith, Global, drop}
use Rattle.std.specs.Prelude.{option_map, Result, Ok, Err, flat_map}
use Rattle.std.specs.declared.boxed.Box.{Box}
use Rattle.std.proofs.lemmas.Grind.{flat_map-append}
use Rattle.std.proofs.Math.Seq.{drop-cons}
use Rattle.desk_io.specs.Desk.{appended, Rose}
use Rattle.desk_io.specs.AppendLaws.{appended_twice, appends_after, appends_front, appends_none}
use Rattle.desk_io.specs.declared.desk.DeskStop.{DeskStop}
use Rattle.desk_io.specs.declared.desk.DeskStop.TheVariants as stops
use Rattle.proof_tree.specs.declared.tree.Tree as tree
use Rattle.proof_tree.specs.declared.tree.Tree.TheBlock as tree_block
use Rattle.proof_tree.specs.declared.tree.Split.{Split}
use Rattle.proof_tree.specs.declared.tree.PartTree as part
use Rattle.proof_tree.specs.declared.tree.PartTree.TheBlock as part_block
use Rattle.proof_tree.specs.declared.tree.PartSplit.{PartSplit}
use Rattle.proof_text.specs.Spelling.{in_lines, split_lines, tree_lines, forest_lines, part_lines, parts_lines}
use Rattle.solve_cli.specs.Answer.{Faults}
use Rattle.solve_cli.specs.Putting.{Told, IsPut}

-- ---- pieces

-- nothing is appended
pub appended_nothing : (before : Option (List ℕ)) → before ≡ option_map (appended []) before
appended_nothing None = refl
appended_nothing (Some bytes) = ap (λ (b : List ℕ). Some b) (sym (append-nil bytes))

-- nothing was put, and all is well
pub put_nothing : (name : List ℕ) (told : Told) → IsPut name [] (Ok tt) told told
put_nothing name told = record {
  ok = appended_nothing (told.written name);
  err = tt;
  others = λ other apart. refl;
  inputs = λ other. refl;
  said = refl;
  later = omega arith;
  rose = λ failed. absurd cc;
  place = λ failed. absurd cc;
  kept = λ kept. refl;
}

module _ (name first second : List ℕ) (old between new : Told) where
  -- a piece, and then another
  pub put_then : (result : Result (Unit {0}) DeskStop) → IsPut name first (Ok tt) old between → IsPut name second result between new → IsPut name (first ++ second) result old new
  put_then (Ok u) one two = record {
    ok = appended_twice first second (old.written name) (between.written name) (new.written name) one.ok two.ok;
    err = tt;
    others = λ other apart. two.others other apart ∙ one.others other apart;
    inputs = λ other. two.inputs other ∙ one.inputs other;
    said = two.said ∙ one.said;
    later = omega (arith, one.later, two.later);
    rose = λ failed. absurd cc;
    place = λ failed. absurd cc;
    kept = λ kept. two.kept tt ∙ one.kept tt;
  }
  put_then (Err e) one two = record {
    ok = tt;
    err = appends_after first second (old.written name) (between.written name) (new.written name) one.ok two.err;
    others = λ other apart. two.others other apart ∙ one.others other apart;
    inputs = λ other. two.inputs other ∙ one.inputs other;
    said = two.said ∙ one.said;
    later = omega (arith, one.later, two.later);
    rose = λ failed. subst (λ (f : Faults). Rose f.count new.faults.count) (one.kept tt) (two.rose failed);
    place = two.place;
    kept = λ kept. two.kept kept ∙ one.kept tt;
  }

-- a piece that stopped, with more behind it
pub put_stopped : (name first second : List ℕ) (old new : Told) (e : DeskStop) → IsPut name first (Err e) old new → IsPut name (first ++ second) (Err e) old new
put_stopped name first second old new e one = record {
  ok = tt;
  err = appends_front first second (old.written name) (new.written name) one.err;
  others = one.others;
  inputs = one.inputs;
  said = one.said;
  later = one.later;
  rose = one.rose;
  place = one.place;
  kept = one.kept;
}

-- memory ran out before anything was put
pub put_none : (name bytes : List ℕ) (told : Told) → IsPut name bytes (Err stops.NoMemory) told told
put_none name bytes told = record {
  ok = tt;
  err = appends_none bytes (told.written name) (told.written name) refl;
  others = λ other apart. refl;
  inputs = λ other. refl;
  said = refl;
  later = omega arith;
  rose = λ failed. absurd cc;
  place = λ failed. absurd cc;
  kept = λ kept. refl;
}

-- ---- lines

pub lines_append : (lines more : List (List ℕ)) → in_lines (lines ++ more) ≡ in_lines lines ++ in_lines more
lines_append lines more = flat_map-append (λ (line : List ℕ). line ++ 10 ∷ []) lines more

lines-row : {m : _} (row : tree.Row_of-Tree m) → in_lines (forest_lines row) ≡ flat_map (λ (child : tree.Tree). in_lines (tree_lines child)) (tree.items-the_row-Tree m row)
lines-row tree.end_of-Tree = refl
lines-row (tree.more_of-Tree {n = n} child rest) = lines_append (tree_lines child) (forest_lines rest) ∙ ap (λ bytes. in_lines (tree_lines child) ++ bytes) (lines-row rest)

-- the lines of a split and those of its children
pub lines-split : (split : Box Split Global) → in_lines (tree_lines (tree.Split split)) ≡ in_lines (split_lines split.value.cut) ++ flat_map (λ (child : tree.Tree). in_lines (tree_lines child)) split.value.children.trees.items
lines-split split =
    lines_append (split_lines split.value.cut) (forest_lines (tree_block.hidden-the_row-Tree-0 split.value.children.trees))
    ∙ ap (λ bytes. in_lines (split_lines split.value.cut) ++ bytes)
    (lines-row (tree_block.hidden-the_row-Tree-0 split.value.children.trees) ∙ ap (flat_map (λ (child : tree.Tree). in_lines (tree_lines child))) (tree.items_hidden-the_row-Tree-0 split.value.children.trees))

lines-parts : {m : _} (row : part.Row_of-PartTree m) → in_lines (parts_lines row) ≡ flat_map (λ (child : part.PartTree). in_lines (part_lines child)) (part.items-the_row-PartTree m row)
lines-parts part.end_of-PartTree = refl
lines-parts (part.more_of-PartTree {n = n} child rest) = lines_append (part_lines child) (parts_lines rest) ∙ ap (λ bytes. in_lines (part_lines child) ++ bytes) (lines-parts rest)

pub lines-part_split : (split : Box PartSplit Global) → in_lines (part_lines (part.Split split)) ≡ in_lines (split_lines split.value.cut) ++ flat_map (λ (child : part.PartTree). in_lines (part_lines child)) split.value.children.items
lines-part_split split =
    lines_append (split_lines split.value.cut) (parts_lines (part_block.hidden-the_row-PartTree-0 split.value.children))
    ∙ ap (λ bytes. in_lines (split_lines split.value.cut) ++ bytes)
    (lines-parts (part_block.hidden-the_row-PartTree-0 split.value.children) ∙ ap (flat_map (λ (child : part.PartTree). in_lines (part_lines child))) (part.items_hidden-the_row-PartTree-0 split.value.children))

-- the lines in front, those of the nodes, and the last line
pub lines_parts : (head lines : List (List ℕ)) (last : List ℕ) → in_lines (head ++ (lines ++ last ∷ [])) ≡ in_lines head ++ (in_lines lines ++ (last ++ 10 ∷ []))
lines_parts head lines last =
    lines_append head (lines ++ last ∷ [])
    ∙ ap (λ bytes. in_lines head ++ bytes) (lines_append lines (last ∷ []) ∙ ap (λ bytes. in_lines lines ++ bytes) (append-nil (last ++ 10 ∷ [])))

-- ---- children

-- one child more
pub next_child : {X : Type 0} (bytes_of : X → List ℕ) (children : List X) (i : ℕ) (child : X) (front whole : List ℕ) → child ≡ get_or children i child → i < length children
    → front ++ flat_map bytes_of (drop i children) ≡ whole → front ++ (bytes_of child ++ flat_map bytes_of (drop (i + 1) children)) ≡ whole
next_child bytes_of children i child front whole is lt e =
    let more : i + 1 ≡ suc i = omega arith in
    let here : drop i children ≡ child ∷ drop (i + 1) children = drop-cons children i child lt ∙ ap (λ c. c ∷ drop (suc i) children) (sym is) ∙ ap (λ n. child ∷ drop n children) (sym more) in
    ap (λ bytes. front ++ bytes) (sym (ap (flat_map bytes_of) here)) ∙ e

-- ---- the same bytes, written another way

pub put_as : (name bytes other : List ℕ) (result : Result (Unit {0}) DeskStop) (old new : Told) → other ≡ bytes → IsPut name bytes result old new → IsPut name other result old new
put_as name bytes other result old new e put = subst (λ b. IsPut name b result old new) (sym e) put
