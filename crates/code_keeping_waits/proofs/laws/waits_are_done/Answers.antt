use Rattle.code_keeping_waits.proofs.All.{multiple-waits-are-done}
use Rattle.code_keeping_waits.proofs.Any.{alternate-waits-are-done}
use Rattle.code_keeping_waits.proofs.One.{single-waits-are-done}
use Rattle.code_keeping_waits.proofs.laws.waits_are_done.Goals as goal

pub returns-clause-single : goal.returns-clause-single
returns-clause-single g c = single-waits-are-done g.N.Meaning.answers

pub returns-clause-alternate : goal.returns-clause-alternate
returns-clause-alternate g c = alternate-waits-are-done g.N.Meaning.answers

pub returns-clause-multiple : goal.returns-clause-multiple
returns-clause-multiple g c = multiple-waits-are-done g.N.Meaning.answers
