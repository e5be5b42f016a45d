use Rattle.check_members.proofs.TakenMembers.{absent-fails, there-goes}
use Rattle.check_members.proofs.taken.needed.Goals as goal

pub returns-in-true : goal.returns-in-true
returns-in-true c = λ env. there-goes c.args.at env c.args.there c.in-true.is

pub returns-in-false : goal.returns-in-false
returns-in-false c = λ env. absent-fails c.args.at env c.args.there c.no_field.result c.in-false.is c.no_field.ensures
