use Rattle.std.proofs.Common.{◌≡◌, take}
use Rattle.std.specs.List.{AllZip}
use Rattle.list_fillers.specs.Candidates.{AreCandidates}
use Rattle.filler_tables.proofs.candidates.all_candidates.Given as goal

abbrev pub invariant-loop-a : goal.invariant-loop-a
invariant-loop-a g l = (g.T.Types.atoms l.types ≡ g.T.Types.atoms l.fn.types) × AllZip (AreCandidates (g.T.Types.atoms l.fn.types)) (take l.a (g.T.Types.atoms l.fn.types)) l.rows.items
