use Rattle.std.proofs.Common.{◌≡◌, ◌<◌, length, take, drop, refl, ap, ap₂, subst, ◌∙◌, ◌⊎◌}
use Rattle.std.proofs.lemmas.Result.{err_from_is_err_and}
use Rattle.exact_math.specs.RationalRing.{rationals}
use Rattle.exact_vectors.specs.Vectors.{dot}
use Rattle.lp_dict.specs.Dictionaries.{none}
use Rattle.lp_dict.specs.Systems.{left_sides, wholes}
use Rattle.norm_gauge.specs.Gauges.{SumStays}
use Rattle.norm_gauge.specs.PairSystems.{pair_system, pair_form}
use Rattle.norm_gauge.specs.PairTableLaws.{form-row}
use Rattle.norm_gauge.specs.Widths.{first_rows, polytope_of}
use Rattle.norm_gauge.proofs.PairGauges.{condition_of_pairs, pairs_bounded_as, pairs_inhabited_as, stops_of_pairs, gauge_of_pairs, wide_of_pairs, as_many, as_long, first_rows_some}
use Rattle.norm_gauge.proofs.widths.width_of_pairs.Goals as goal

pub optimise-requires-clause-condition : goal.optimise-requires-clause-condition
optimise-requires-clause-condition c =
    condition_of_pairs c.args.system.now.rows c.args.basis.now c.in_ok-pairs.pairs.rows c.args.system.now.limits c.args.form.now c.in_ok-pairs.pairs.limits c.in_ok-apart.apart c.args.i c.requires.condition c.requires.few c.requires.narrow_basis c.in_ok-pairs.ensures.rows c.in_ok-pairs.ensures.limits c.in_ok-apart.ensures

pub optimise-requires-clause-bounded : goal.optimise-requires-clause-bounded
optimise-requires-clause-bounded c =
    let t = c.args.system.now.rows in
    let limits = c.args.system.now.limits in
    let p = polytope_of t limits in
    let fixed = first_rows c.args.basis.now c.args.i in
    let pairs = c.in_ok-pairs.pairs in
    let same : polytope_of pairs.rows pairs.limits ≡ pair_system p fixed = ap₂ polytope_of c.in_ok-pairs.ensures.rows c.in_ok-pairs.ensures.limits ∙ c.in_ok-pairs.ensures.polytope in
    let many : length (wholes limits) ≡ length (left_sides t) = as_many t limits c.args.form.now c.requires.condition in
    pairs_bounded_as p fixed c.in_ok-pairs.ensures.wide_rows c.in_ok-pairs.ensures.wide_basis many (polytope_of pairs.rows pairs.limits) same c.requires.bounded

pub optimise-requires-clause-inhabited : goal.optimise-requires-clause-inhabited
optimise-requires-clause-inhabited c =
    let t = c.args.system.now.rows in
    let limits = c.args.system.now.limits in
    let p = polytope_of t limits in
    let fixed = first_rows c.args.basis.now c.args.i in
    let pairs = c.in_ok-pairs.pairs in
    let same : polytope_of pairs.rows pairs.limits ≡ pair_system p fixed = ap₂ polytope_of c.in_ok-pairs.ensures.rows c.in_ok-pairs.ensures.limits ∙ c.in_ok-pairs.ensures.polytope in
    let many : length (wholes limits) ≡ length (left_sides t) = as_many t limits c.args.form.now c.requires.condition in
    pairs_inhabited_as p fixed c.in_ok-pairs.ensures.wide_rows c.in_ok-pairs.ensures.wide_basis many (polytope_of pairs.rows pairs.limits) same c.requires.inhabited

pub returns-in_err-furthest-clause-stopped : goal.returns-in_err-furthest-clause-stopped
returns-in_err-furthest-clause-stopped c =
    let t = c.args.system.now.rows in
    let limits = c.args.system.now.limits in
    let p = polytope_of t limits in
    let fixed = first_rows c.args.basis.now c.args.i in
    let pairs = c.in_ok-pairs.pairs in
    let same : polytope_of pairs.rows pairs.limits ≡ pair_system p fixed = ap₂ polytope_of c.in_ok-pairs.ensures.rows c.in_ok-pairs.ensures.limits ∙ c.in_ok-pairs.ensures.polytope in
    let many : length (wholes limits) ≡ length (left_sides t) = as_many t limits c.args.form.now c.requires.condition in
    let long : length (wholes c.args.form.now) ≡ t.width = as_long t limits c.args.form.now c.requires.condition in
    let some : 0 < length fixed = first_rows_some c.args.basis.now c.args.i c.requires.some c.requires.within in
    let last : wholes c.in_ok-apart.apart ≡ pair_form (wholes c.args.form.now) = ap wholes c.in_ok-apart.ensures ∙ form-row c.args.form.now in
    let q = err_from_is_err_and c.from_residual-in_err-furthest.result c.from_residual-in_err-furthest.ensures.1 in
    rw (q.1, q.2) (stops_of_pairs p (polytope_of pairs.rows pairs.limits) fixed (wholes c.args.form.now) (wholes c.in_ok-apart.apart) c.in_err-furthest.field-0.0 some same last c.in_err-furthest.ensures.stopped)

pub returns-in-Ok-clause-gauge : goal.returns-in-Ok-clause-gauge
returns-in-Ok-clause-gauge c =
    let t = c.args.system.now.rows in
    let limits = c.args.system.now.limits in
    let p = polytope_of t limits in
    let fixed = first_rows c.args.basis.now c.args.i in
    let pairs = c.in_ok-pairs.pairs in
    let same : polytope_of pairs.rows pairs.limits ≡ pair_system p fixed = ap₂ polytope_of c.in_ok-pairs.ensures.rows c.in_ok-pairs.ensures.limits ∙ c.in_ok-pairs.ensures.polytope in
    let many : length (wholes limits) ≡ length (left_sides t) = as_many t limits c.args.form.now c.requires.condition in
    let long : length (wholes c.args.form.now) ≡ t.width = as_long t limits c.args.form.now c.requires.condition in
    let some : 0 < length fixed = first_rows_some c.args.basis.now c.args.i c.requires.some c.requires.within in
    let last : wholes c.in_ok-apart.apart ≡ pair_form (wholes c.args.form.now) = ap wholes c.in_ok-apart.ensures ∙ form-row c.args.form.now in
    let furthest = c.in_ok-furthest.furthest in
    let front : c.split_at.result.0.now ≡ take t.width furthest.point = c.split_at.ensures.front ∙ ap₂ take (ap length c.items-2.ensures ∙ c.requires.condition.as_many_factors) c.items.ensures in
    let back : c.split_at.result.1.now ≡ drop t.width furthest.point = c.split_at.ensures.back ∙ ap₂ drop (ap length c.items-2.ensures ∙ c.requires.condition.as_many_factors) c.items.ensures in
    gauge_of_pairs p (polytope_of pairs.rows pairs.limits) fixed (wholes c.args.form.now) (wholes c.in_ok-apart.apart) furthest.point furthest.multipliers furthest.value c.in_ok-pairs.ensures.wide_rows c.in_ok-pairs.ensures.wide_basis many long some same last c.in_ok-furthest.ensures.shown
    _ c.neg.ensures (c.in-Ok.ensures.first ∙ ap₂ (λ f z. dot rationals (wholes f) z) c.items-3.ensures back) (c.in-Ok.ensures.second ∙ ap₂ (λ f z. dot rationals (wholes f) z) c.items-3.ensures front) (c.in_ok-point_of-in-Ok.ensures ∙ back) (c.in_ok-point_of-in-Ok-2.ensures ∙ front) refl c.new.ensures c.in_ok-furthest.ensures.least

pub returns-clause-stopped : goal.returns-clause-stopped
returns-clause-stopped c =
    let t = c.args.system.now.rows in
    let limits = c.args.system.now.limits in
    let p = polytope_of t limits in
    let fixed = first_rows c.args.basis.now c.args.i in
    let pairs = c.in_ok-pairs.pairs in
    let same : polytope_of pairs.rows pairs.limits ≡ pair_system p fixed = ap₂ polytope_of c.in_ok-pairs.ensures.rows c.in_ok-pairs.ensures.limits ∙ c.in_ok-pairs.ensures.polytope in
    let many : length (wholes limits) ≡ length (left_sides t) = as_many t limits c.args.form.now c.requires.condition in
    let long : length (wholes c.args.form.now) ≡ t.width = as_long t limits c.args.form.now c.requires.condition in
    let some : 0 < length fixed = first_rows_some c.args.basis.now c.args.i c.requires.some c.requires.within in
    let last : wholes c.in_ok-apart.apart ≡ pair_form (wholes c.args.form.now) = ap wholes c.in_ok-apart.ensures ∙ form-row c.args.form.now in
    let furthest = c.in_ok-furthest.furthest in
    let front : c.split_at.result.0.now ≡ take t.width furthest.point = c.split_at.ensures.front ∙ ap₂ take (ap length c.items-2.ensures ∙ c.requires.condition.as_many_factors) c.items.ensures in
    let back : c.split_at.result.1.now ≡ drop t.width furthest.point = c.split_at.ensures.back ∙ ap₂ drop (ap length c.items-2.ensures ∙ c.requires.condition.as_many_factors) c.items.ensures in
    wide_of_pairs p (polytope_of pairs.rows pairs.limits) fixed (wholes c.args.form.now) (wholes c.in_ok-apart.apart) furthest.point furthest.multipliers furthest.value furthest.pivots c.new-in-Err.result some same last c.in_ok-furthest.ensures.ended c.new-in-Err.ensures
    (subst (λ f. (¬ (SumStays none (wholes f) (take t.width furthest.point))) ⊎ (¬ (SumStays none (wholes f) (drop t.width furthest.point)))) c.items-3.ensures
    (subst (λ z. (¬ (SumStays none (wholes c.items-3.result.now) z)) ⊎ (¬ (SumStays none (wholes c.items-3.result.now) (drop t.width furthest.point)))) front (subst (λ z. (¬ (SumStays none (wholes c.items-3.result.now) c.split_at.result.0.now)) ⊎ (¬ (SumStays none (wholes c.items-3.result.now) z))) back c.in-Err.ensures.wide)))
