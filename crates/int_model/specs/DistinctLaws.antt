-- Items whose columns rise.
use Rattle.std.proofs.Common.{◌≡◌, ◌+◌, ◌<◌, ℕ, List, [], ◌∷◌, ◌++◌, arith}
use Rattle.std.proofs.lemmas.List.Elements.{All-push}
use Rattle.std.proofs.lemmas.List.Quantifiers.{all_pairs_push}
use Rattle.int_model.specs.declared.model.Item.{Item}
use Rattle.int_model.specs.IntegerRows.{IsDistinctBelow}

-- one column more
pub IsDistinctBelow-more : (n : ℕ) (items : List Item) → IsDistinctBelow n items → IsDistinctBelow (n + 1) items
IsDistinctBelow-more n items distinct = record {
  in_range = λ k d h. omega (arith, distinct.in_range k d h);
  rising = distinct.rising;
}

-- and an item in it
pub IsDistinctBelow-push : (n : ℕ) (items : List Item) (item : Item) → IsDistinctBelow n items → item.column ≡ n → IsDistinctBelow (n + 1) (items ++ item ∷ [])
IsDistinctBelow-push n items item distinct is = record {
  in_range = All-push (λ (item : Item). item.column < n + 1) items item (IsDistinctBelow-more n items distinct).in_range (omega arith);
  rising = all_pairs_push (λ (a b : Item). a.column < b.column) items item distinct.rising (λ k d h. omega (arith, distinct.in_range k d h));
}
