use Rattle.node_search.proofs.points.dive.+look_below.Given as goal

abbrev pub decreases-look_below : goal.decreases-look_below
decreases-look_below l = l.level
