use Rattle.std.proofs.Common.{◌≡◌, take}
use Rattle.std.specs.List.{AllZip}
use Rattle.filler_tables.specs.inner.Telling.{IsCandidateAt}
use Rattle.filler_tables.proofs.candidates.candidates.Given as goal

abbrev pub invariant-loop-p : goal.invariant-loop-p
invariant-loop-p g l = (g.T.Types.atoms l.types ≡ g.T.Types.atoms l.fn.types) × AllZip (IsCandidateAt (g.T.Types.atoms l.fn.types)) (take l.p-index l.places) l.found.items
