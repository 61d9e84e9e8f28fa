use Rattle.std.proofs.Common.{length, sym, ap, subst, ◌∙◌}
use Rattle.lattice_reduce.specs.Beside.{ExcusedBeside}
use Rattle.lattice_reduce.specs.declared.lattice.ReduceExcuse.{ReduceExcuse}
use Rattle.unimodular_pair.specs.Pairs.{matrices_in}
use Rattle.reformulate.specs.Framing.{vectors_of}
use Rattle.spaces.specs.Tables.{rows_in}
use Rattle.exact_vectors.specs.Matrices.{transpose}
use Rattle.reformulate.proofs.ReducingSteps.{AreVectors, IsAnswered, IsMade, back_leaves, excused, independent_vectors, is_reduction, is_substitution, length_last, pair_rows}
use Rattle.reformulate.proofs.reducing.reduced.Goals as goal

pub reduce_beside-requires-clause-independent : goal.reduce_beside-requires-clause-independent
reduce_beside-requires-clause-independent c =
    let t = c.in_ok-vectors.ensures in
    let v : AreVectors c.args.back c.args.lines.now c.in_ok-vectors.vectors = record { height = t.height; width = t.width; rows = t.rows } in
    independent_vectors c.args.back c.args.lines.now c.in_ok-vectors.vectors c.requires.shape v c.requires.inverse

pub returns-in-Err-Excuse-clause-stop : goal.returns-in-Err-Excuse-clause-stop
returns-in-Err-Excuse-clause-stop c =
    let t = c.in_ok-vectors.ensures in
    let v : AreVectors c.args.back c.args.lines.now c.in_ok-vectors.vectors = record { height = t.height; width = t.width; rows = t.rows } in
    subst (λ (x : ReduceExcuse). ExcusedBeside (length c.args.base.now) (vectors_of (matrices_in c.args.back c.args.lines.now)) c.args.base.now x.steps) (sym c.in-Err-Excuse.excuse-is) (excused c.args.base.now c.args.back c.args.lines.now c.in_ok-vectors.vectors c.in-Err-Excuse.excuse.steps c.requires.as_many c.requires.shape v (rw c.in-Err-Excuse.field-0-is at c.in-Err-Excuse.ensures.stop))

pub product-requires-clause-fits : goal.product-requires-clause-fits
product-requires-clause-fits c =
    let t = c.in_ok-vectors.ensures in
    let r = c.in-Ok.ensures in
    let v : AreVectors c.args.back c.args.lines.now c.in_ok-vectors.vectors = record { height = t.height; width = t.width; rows = t.rows } in
    let a : IsAnswered c.args.base.now c.in_ok-vectors.vectors c.in-Ok.beside.basis c.in-Ok.beside.pair c.in-Ok.beside.last c.in-Ok.beside.steps = record { height = r.height; width = r.width; legal = r.legal; reduced = r.reduced; product = r.product; shifted = r.shifted; short = r.short } in
    c.in_ok-turned.ensures.width ∙ c.v.ensures.height ∙ pair_rows _ _ _ _ _ _ a ∙ t.height ∙ sym c.requires.shape.height

pub returns-in-Err-Wide-clause-stop : goal.returns-in-Err-Wide-clause-stop
returns-in-Err-Wide-clause-stop c =
    let t = c.in_ok-vectors.ensures in
    let r = c.in-Ok.ensures in
    let v : AreVectors c.args.back c.args.lines.now c.in_ok-vectors.vectors = record { height = t.height; width = t.width; rows = t.rows } in
    let a : IsAnswered c.args.base.now c.in_ok-vectors.vectors c.in-Ok.beside.basis c.in-Ok.beside.pair c.in-Ok.beside.last c.in-Ok.beside.steps = record { height = r.height; width = r.width; legal = r.legal; reduced = r.reduced; product = r.product; shifted = r.shifted; short = r.short } in
    let turned = c.in_ok-turned.ensures.rows ∙ ap (λ k. transpose k (rows_in c.v.result.now)) c.v.ensures.width ∙ ap (transpose _) c.v.ensures.rows in
    back_leaves c.args.base.now c.args.back c.args.lines.now c.in_ok-vectors.vectors c.in-Ok.beside.basis c.in_ok-turned.turned c.in-Ok.beside.pair c.in-Ok.beside.last c.in-Ok.beside.steps c.requires.as_many c.requires.shape v a turned (rw c.in-Err-Wide.field-0-is at c.in-Err-Wide.ensures.stop)

pub of-requires : goal.of-requires
of-requires c =
    let t = c.in_ok-vectors.ensures in
    let r = c.in-Ok.ensures in
    let p = c.in-Ok-product.ensures in
    let l = c.in_ok-lines.ensures in
    let v : AreVectors c.args.back c.args.lines.now c.in_ok-vectors.vectors = record { height = t.height; width = t.width; rows = t.rows } in
    let a : IsAnswered c.args.base.now c.in_ok-vectors.vectors c.in-Ok.beside.basis c.in-Ok.beside.pair c.in-Ok.beside.last c.in-Ok.beside.steps = record { height = r.height; width = r.width; legal = r.legal; reduced = r.reduced; product = r.product; shifted = r.shifted; short = r.short } in
    let made : IsMade c.args.back c.in-Ok.beside.basis c.in_ok-turned.turned c.in_ok-lines.lines c.in-Ok-product.back c.in-Ok.beside.pair = record {
      turned_rows = c.in_ok-turned.ensures.rows ∙ ap (λ k. transpose k (rows_in c.v.result.now)) c.v.ensures.width ∙ ap (transpose _) c.v.ensures.rows;
      turned_height = c.in_ok-turned.ensures.height ∙ c.v.ensures.width;
      height = l.height;
      width = l.width;
      size = l.size;
      lines = l.rows;
      back_height = p.height;
      back_width = p.width;
      back_size = p.size;
      back_rows = p.rows;
    } in
    length_last c.args.base.now c.args.back c.args.lines.now c.in_ok-vectors.vectors c.in-Ok.beside.basis c.in_ok-turned.turned c.in_ok-lines.lines c.in-Ok-product.back c.in-Ok.beside.pair c.in-Ok.beside.last c.in-Ok.beside.steps c.requires.as_many c.requires.shape v a made

pub of_maps-requires : goal.of_maps-requires
of_maps-requires c =
    let t = c.in_ok-vectors.ensures in
    let r = c.in-Ok.ensures in
    let p = c.in-Ok-product.ensures in
    let l = c.in_ok-lines.ensures in
    let v : AreVectors c.args.back c.args.lines.now c.in_ok-vectors.vectors = record { height = t.height; width = t.width; rows = t.rows } in
    let a : IsAnswered c.args.base.now c.in_ok-vectors.vectors c.in-Ok.beside.basis c.in-Ok.beside.pair c.in-Ok.beside.last c.in-Ok.beside.steps = record { height = r.height; width = r.width; legal = r.legal; reduced = r.reduced; product = r.product; shifted = r.shifted; short = r.short } in
    let made : IsMade c.args.back c.in-Ok.beside.basis c.in_ok-turned.turned c.in_ok-lines.lines c.in-Ok-product.back c.in-Ok.beside.pair = record {
      turned_rows = c.in_ok-turned.ensures.rows ∙ ap (λ k. transpose k (rows_in c.v.result.now)) c.v.ensures.width ∙ ap (transpose _) c.v.ensures.rows;
      turned_height = c.in_ok-turned.ensures.height ∙ c.v.ensures.width;
      height = l.height;
      width = l.width;
      size = l.size;
      lines = l.rows;
      back_height = p.height;
      back_width = p.width;
      back_size = p.size;
      back_rows = p.rows;
    } in
    let is = is_substitution c.args.base.now c.args.back c.args.lines.now c.in_ok-vectors.vectors c.in-Ok.beside.basis c.in_ok-turned.turned c.in_ok-lines.lines c.in-Ok-product.back c.in-Ok.beside.pair c.in-Ok.beside.last c.in-Ok.beside.steps c.requires.as_many c.requires.shape v a made c.requires.inverse in
    rw c.of.ensures is

pub returns-clause-ok : goal.returns-clause-ok
returns-clause-ok c =
    let t = c.in_ok-vectors.ensures in
    let r = c.in-Ok.ensures in
    let p = c.in-Ok-product.ensures in
    let l = c.in_ok-lines.ensures in
    let v : AreVectors c.args.back c.args.lines.now c.in_ok-vectors.vectors = record { height = t.height; width = t.width; rows = t.rows } in
    let a : IsAnswered c.args.base.now c.in_ok-vectors.vectors c.in-Ok.beside.basis c.in-Ok.beside.pair c.in-Ok.beside.last c.in-Ok.beside.steps = record { height = r.height; width = r.width; legal = r.legal; reduced = r.reduced; product = r.product; shifted = r.shifted; short = r.short } in
    let made : IsMade c.args.back c.in-Ok.beside.basis c.in_ok-turned.turned c.in_ok-lines.lines c.in-Ok-product.back c.in-Ok.beside.pair = record {
      turned_rows = c.in_ok-turned.ensures.rows ∙ ap (λ k. transpose k (rows_in c.v.result.now)) c.v.ensures.width ∙ ap (transpose _) c.v.ensures.rows;
      turned_height = c.in_ok-turned.ensures.height ∙ c.v.ensures.width;
      height = l.height;
      width = l.width;
      size = l.size;
      lines = l.rows;
      back_height = p.height;
      back_width = p.width;
      back_size = p.size;
      back_rows = p.rows;
    } in
    is_reduction c.args.base.now c.args.back c.args.lines.now c.in_ok-vectors.vectors c.in-Ok.beside.basis c.in_ok-turned.turned c.in_ok-lines.lines c.in-Ok-product.back c.in-Ok.beside.pair c.in-Ok.beside.last c.in-Ok.beside.steps c.requires.as_many c.requires.shape v a made c.requires.inverse c.of_maps.result (c.of_maps.ensures ∙ ap (λ m. record { to_work = m; back = c.in-Ok-product.back }) c.of.ensures)
