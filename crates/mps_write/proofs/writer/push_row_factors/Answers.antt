use Rattle.std.proofs.Common.{◌≡◌, ◌≢◌, ◌↔◌, ◌||◌, ℕ, ◌+◌, List, [], ◌∷◌, ◌++◌, Option, Some, None, take, map, filter_map, refl, ap, ap₂, subst, sym, ◌∙◌}
use Rattle.std.specs.Prelude.{IsTrue, is_some, option_map, option_to_list}
use Rattle.std.proofs.lemmas.List.{map-append}
use Rattle.exact_math.specs.Rational.{ℚ}
use Rattle.int_model.specs.declared.model.Item.{Item}
use Rattle.int_model.specs.declared.model.Row.{Row}
use Rattle.mps_model.specs.Tables.{Pair}
use Rattle.mps_write.specs.CanonicalText.{NamedItems, labelled, pair_of, factor_in, factor_pair, items_of_row}
use Rattle.mps_write.proofs.CodeLaws.{taken, filter_map-push, text_more, any_more}
use Rattle.mps_write.proofs.writer.push_row_factors.Goals as goal

abbrev as_named : List ℕ → List Item → NamedItems
as_named name items = record { name = name; items = items }

-- the row is known where its factor is
paired : (name : List ℕ) (o : Option ℚ) → is_some o ≡ is_some (option_map (λ (factor : ℚ). pair_of name factor.num) o)
paired name None = refl
paired name (Some factor) = refl

pub loop-row-preserved : goal.loop-row-preserved
loop-row-preserved c =
    let front = take c.loop-row.row-index c.args.rows.now in
    let pairs : List Row → List Pair = λ rows. filter_map (factor_pair c.args.number) (map items_of_row rows) in
    let named : NamedItems = record { name = c.items.result.now; items = c.items-in-loop-row.result.now } in
    let is : named ≡ items_of_row c.row-item.result = ap₂ as_named c.items.ensures c.items-in-loop-row.ensures in
    let whole : pairs (take (c.loop-row.row-index + 1) c.args.rows.now) ≡ pairs front ++ option_to_list (factor_pair c.args.number named) =
    ap pairs (taken c.args.rows.now c.loop-row.row-index c.row-item.result c.loop-row-test.true c.row-item.is)
    ∙ ap (filter_map (factor_pair c.args.number)) (map-append items_of_row front (c.row-item.result ∷ []))
    ∙ filter_map-push (factor_pair c.args.number) (map items_of_row front) (items_of_row c.row-item.result)
    ∙ ap (λ x. pairs front ++ option_to_list (factor_pair c.args.number x)) (sym is)
    in
    record {
      text_is = text_more c.args.text.now.items c.loop-row.text.items c.push_factor.new.text.items
          (map (labelled c.args.column.now) (pairs front)) (map (labelled c.args.column.now) (option_to_list (factor_pair c.args.number named)))
          (map (labelled c.args.column.now) (pairs (take (c.loop-row.row-index + 1) c.args.rows.now)))
          c.loop-row.invariant.text_is c.in_ok-found.ensures.text
          (ap (map (labelled c.args.column.now)) whole ∙ map-append (labelled c.args.column.now) (pairs front) (option_to_list (factor_pair c.args.number named)));
      found_is = subst (λ ps. IsTrue (c.loop-row.found || c.in_ok-found.field-0) ↔ (ps ≢ [])) (sym whole)
          (any_more c.loop-row.found c.in_ok-found.field-0 (pairs front) (factor_pair c.args.number named) c.loop-row.invariant.found_is
          (c.in_ok-found.ensures.found ∙ paired named.name (factor_in c.args.number named.items)));
    }
