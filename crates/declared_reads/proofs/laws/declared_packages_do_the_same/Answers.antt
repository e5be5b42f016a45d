use Rattle.declared_reads.proofs.Inherent.{declared-same-is-allowed}
use Rattle.declared_reads.proofs.Machines.{declared-does-the-same}
use Rattle.declared_reads.proofs.Narrowing.{declared-code-does-the-same, declared-narrows-well}
use Rattle.declared_reads.proofs.laws.declared_packages_do_the_same.Goals as goal

pub returns-clause-trees : goal.returns-clause-trees
returns-clause-trees g c = declared-does-the-same g.N.Meaning.answers

pub returns-clause-narrows : goal.returns-clause-narrows
returns-clause-narrows g c = declared-narrows-well g.N.Meaning.answers

pub returns-clause-outcomes : goal.returns-clause-outcomes
returns-clause-outcomes g c = declared-code-does-the-same g.N.Meaning.answers

pub returns-clause-allowed : goal.returns-clause-allowed
returns-clause-allowed g c = declared-same-is-allowed g.N.Meaning.answers
