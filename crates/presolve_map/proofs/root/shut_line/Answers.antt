use Rattle.presolve_map.proofs.root.shut_line.Goals as goal

pub returns-in-Split : goal.returns-in-Split
returns-in-Split c =
    let answer = rw (c.in-Split.is, c.new-path.ensures) at c.in_ok-line.ensures in
    answer.0.not_shut
