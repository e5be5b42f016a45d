use Rattle.check_members.proofs.TakenMembers.{if-absent, if-there}
use Rattle.check_members.proofs.taken.given_if.Goals as goal

pub returns-in-true-clause-comes : goal.returns-in-true-clause-comes
returns-in-true-clause-comes c = λ env. if-there c.args.at env c.args.there c.args.found c.in-true.is

pub returns-in-false-clause-comes : goal.returns-in-false-clause-comes
returns-in-false-clause-comes c = λ env. if-absent c.args.at env c.args.there c.args.found c.no_field.result c.in-false.is c.no_field.ensures
