use Rattle.expr_needs.specs.ExprTable.{read_member, seen_of}
use Rattle.check_words.specs.Constructors.{MemberFits}
use Rattle.check_constructors.proofs.FittingChoices.{all-twice, same-then}
use Rattle.check_constructors.proofs.fitting.members_fit.Goals as goal

pub returns : goal.returns
returns c = same-then c.each_fits.ensures (all-twice (MemberFits c.args.defs.now c.args.fields.now c.args.rest.now) read_member seen_of c.args.members.now)
