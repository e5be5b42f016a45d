use Rattle.check_work.specs.Views.{state_of}
use Rattle.check_work.proofs.Making.{strict-stands}
use Rattle.needs_of_actions.proofs.MessagesMade.{message-made}
use Rattle.needs_of_actions.proofs.messages.put_message.Goals as goal

pub returns-clause-stands : goal.returns-clause-stands
returns-clause-stands c = λ env below h.
    strict-stands c.args.what.form c.args.what.count c.args.ty c.args.what.at (state_of env c.args.work.now) _ c.in_ok-gather.ensures h below

pub returns-clause-comes : goal.returns-clause-comes
returns-clause-comes c = λ env fails is.
    message-made c.args.what.count c.args.what.form c.args.what.at (state_of env c.args.work.now) fails c.args.ty _ c.in_ok-gather.ensures is
