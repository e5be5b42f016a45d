use Rattle.code_keeping.proofs.Starting.{reached-are-good, strands-of-code-hold}
use Rattle.code_keeping.proofs.laws.strands_of_code_hold.Goals as goal

pub returns-clause-strands : goal.returns-clause-strands
returns-clause-strands g c = strands-of-code-hold g.N.Meaning.answers

pub returns-clause-good : goal.returns-clause-good
returns-clause-good g c = reached-are-good g.N.Meaning.answers
