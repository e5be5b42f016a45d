use Rattle.worker_waits.proofs.PlannedTrees.{planned-never-ring}
use Rattle.lowered_ends.proofs.Ending.{kept-all-end, kept-has-no-stalls, kept-never-stalls}
use Rattle.lowered_ends.proofs.laws.kept_packages_never_stall.Goals as goal

pub returns-clause-rings : goal.returns-clause-rings
returns-clause-rings g c atoms fillers p code kept = (
  planned-never-ring g.T.Types.passes g.N.Meaning.answers atoms fillers p kept.planned,
  c.lowered_code_never_rings.ensures.rings fillers code (record { atoms = atoms; tree = p; planned = kept.planned; lowered = kept.lowered; narrows = kept.narrows }),
)

pub returns-clause-stalls : goal.returns-clause-stalls
returns-clause-stalls g c = kept-never-stalls g.T.Types.passes g.N.Meaning.answers

pub returns-clause-ends : goal.returns-clause-ends
returns-clause-ends g c = kept-all-end g.T.Types.passes g.N.Meaning.answers

pub returns-clause-outcomes : goal.returns-clause-outcomes
returns-clause-outcomes g c = kept-has-no-stalls g.T.Types.passes g.N.Meaning.answers
