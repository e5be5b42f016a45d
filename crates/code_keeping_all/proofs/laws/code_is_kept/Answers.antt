use Rattle.code_keeping_all.proofs.Kept.{code-goes-on, code-is-kept, reached-code-is-good, calls-are-not-there}
use Rattle.code_keeping_all.proofs.laws.code_is_kept.Goals as goal

pub returns-clause-kept : goal.returns-clause-kept
returns-clause-kept g c = code-is-kept g.N.Meaning.answers

pub returns-clause-reached : goal.returns-clause-reached
returns-clause-reached g c = reached-code-is-good g.N.Meaning.answers

pub returns-clause-goes_on : goal.returns-clause-goes_on
returns-clause-goes_on g c = code-goes-on g.N.Meaning.answers

pub returns-clause-without : goal.returns-clause-without
returns-clause-without g c = calls-are-not-there g.N.Meaning.answers
