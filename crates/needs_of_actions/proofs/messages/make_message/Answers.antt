use Rattle.std.proofs.Common.{OnOk, subst, sym}
use Rattle.checks.specs.Checks.{Comes}
use Rattle.check_words.specs.Stands.{Stands}
use Rattle.check_work.specs.Views.{state_of}
use Rattle.check_work.proofs.Noting.{made-comes, made-on}
use Rattle.needs_of_actions.specs.Failing.{makes_message_of}
use Rattle.needs_of_actions.proofs.MessagesMade.{message-refused}
use Rattle.needs_of_actions.proofs.messages.make_message.Goals as goal

pub message_type-requires-clause-site : goal.message_type-requires-clause-site
message_type-requires-clause-site g c = c.requires.stands.site

pub returns-in-Ok-clause-stands : goal.returns-in-Ok-clause-stands
returns-in-Ok-clause-stands g c = let env = g.T.Types.atoms c.args.types.now in
    subst (λ r. OnOk r (Stands (state_of env c.put_message.new.work))) (sym c.lift.ensures)
    (made-on _ c.put_message.result (c.put_message.ensures.stands env c.in-Ok.ensures.below c.requires.stands))

pub returns-in-Ok-clause-comes : goal.returns-in-Ok-clause-comes
returns-in-Ok-clause-comes g c =
    let env = g.T.Types.atoms c.args.types.now in
    let s = state_of env c.args.work.now in
    let new = state_of env c.put_message.new.work in
    subst (λ r. Comes (makes_message_of c.args.what.count c.args.what.form c.args.fails c.args.what.at) s r new) (sym c.lift.ensures)
    (made-comes (makes_message_of c.args.what.count c.args.what.form c.args.fails c.args.what.at) s new c.put_message.result (c.put_message.ensures.comes env c.args.fails c.in-Ok.ensures.is))

pub returns-in-Err-clause-comes : goal.returns-in-Err-clause-comes
returns-in-Err-clause-comes g c =
    message-refused c.args.what.count c.args.what.form c.args.what.at (state_of (g.T.Types.atoms c.args.types.now) c.args.work.now) c.args.fails c.in-Err.stop c.in-Err.ensures.refused
