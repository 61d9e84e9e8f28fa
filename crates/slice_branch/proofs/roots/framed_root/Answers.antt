use Rattle.std.proofs.Common.{refl}
use Rattle.std.proofs.lemmas.List.Elements.{All-nil}
use Rattle.farkas_rows.specs.declared.path.Slice.{Slice}
use Rattle.node_regions.specs.NodeFrames.{IsKeptForm}
use Rattle.slice_branch.proofs.FramedLaws.{root_dimension}
use Rattle.slice_branch.proofs.roots.framed_root.Goals as goal

pub returns : goal.returns
returns c =
    let model = c.args.model.now in (
      refl,
      c.requires.open,
      record {
        work = model.work;
        presolved = model.presolved;
        kept = All-nil (λ (slice : Slice). IsKeptForm model.rows.now.box slice.form);
        reached = c.requires.reached;
      },
      root_dimension model.rows.now model.work c.args.frame model.presolved c.requires.reached,
    )
