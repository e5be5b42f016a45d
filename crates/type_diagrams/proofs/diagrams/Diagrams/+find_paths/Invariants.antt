use Rattle.type_diagrams.proofs.diagrams.Diagrams.+find_paths.Given as goal

abbrev pub decreases-find_paths : goal.decreases-find_paths
decreases-find_paths l = l.number
