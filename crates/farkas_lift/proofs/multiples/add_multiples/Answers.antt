use Rattle.std.proofs.Common.{◌≡◌, ◌<◌, [], length, get_or, refl, sym, ◌∙◌, arith}
use Rattle.spaces.specs.Tables.{rows_in}
use Rattle.spaces.specs.TableLaws.{length-rows_in, rows_in-at}
use Rattle.farkas_lift.specs.NodeLifting.{with_multiple}
use Rattle.farkas_lift.proofs.MultipleLaws.{on_err, value-more, stay-more, stay-less}
use Rattle.farkas_lift.proofs.multiples.add_multiples.Goals as goal

pub loop-i-preserved : goal.loop-i-preserved
loop-i-preserved g c =
    let below : c.loop-i.i < c.args.forms.now.rows = omega (arith, c.requires.as_many, c.loop-i-test.true) in
    let there : c.loop-i.i < length (rows_in c.args.forms.now) = omega (arith, length-rows_in c.args.forms.now) in
    let is_form : c.row.result.now ≡ get_or (rows_in c.args.forms.now) c.loop-i.i [] = c.row.ensures.value ∙ sym (rows_in-at c.args.forms.now c.loop-i.i below) in
    record {
      value = value-more c.loop-i.row c.add_multiple.new.row c.args.times.now (rows_in c.args.forms.now) c.loop-i.i c.index-times-i.result c.row.result.now c.loop-i-test.true there c.index-times-i.is is_form c.in_ok-add_multiple.ensures.ok ∙ c.loop-i.invariant.value;
      stays = λ rest. c.loop-i.invariant.stays (stay-more c.loop-i.row c.add_multiple.new.row c.args.times.now (rows_in c.args.forms.now) c.loop-i.i c.index-times-i.result c.row.result.now c.loop-i-test.true there c.index-times-i.is is_form c.in_ok-add_multiple.ensures.ok c.in_ok-add_multiple.ensures.in_range rest);
      stayed = λ all. (stay-less c.loop-i.row c.add_multiple.new.row c.args.times.now (rows_in c.args.forms.now) c.loop-i.i c.index-times-i.result c.row.result.now c.loop-i-test.true there c.index-times-i.is is_form c.in_ok-add_multiple.ensures.ok (c.loop-i.invariant.stayed all)).1;
    }

pub returns-in_err-add_multiple-clause-wide : goal.returns-in_err-add_multiple-clause-wide
returns-in_err-add_multiple-clause-wide g c =
    let below : c.loop-i.i < c.args.forms.now.rows = omega (arith, c.requires.as_many, c.loop-i-test.true) in
    let there : c.loop-i.i < length (rows_in c.args.forms.now) = omega (arith, length-rows_in c.args.forms.now) in
    let is_form : c.row.result.now ≡ get_or (rows_in c.args.forms.now) c.loop-i.i [] = c.row.ensures.value ∙ sym (rows_in-at c.args.forms.now c.loop-i.i below) in
    on_err c.from_residual.result
    (λ all. c.in_err-add_multiple.ensures.wide (stay-less c.loop-i.row (with_multiple c.loop-i.row c.index-times-i.result c.row.result.now) c.args.times.now (rows_in c.args.forms.now) c.loop-i.i c.index-times-i.result c.row.result.now c.loop-i-test.true there c.index-times-i.is is_form refl (c.loop-i.invariant.stayed all)).0)
