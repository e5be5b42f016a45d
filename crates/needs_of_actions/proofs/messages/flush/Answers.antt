use Rattle.std.proofs.Common.{◌∙◌, ap, map, subst}
use Rattle.checks.specs.Checks.{Comes}
use Rattle.typed_tree.specs.declared.form.StrictForm.TheVariants as form
use Rattle.check_words.proofs.Coming.{next}
use Rattle.check_work.specs.Views.{state_of, unit_of}
use Rattle.check_work.proofs.Noting.{at-hand}
use Rattle.needs_of_actions.specs.Failing.{failing, makes_message_of, flush_fails_at}
use Rattle.needs_of_actions.proofs.MessagesMade.{message-to}
use Rattle.needs_of_actions.proofs.messages.flush.Goals as goal

pub returns-clause-comes : goal.returns-clause-comes
returns-clause-comes g c =
    let env = g.T.Types.atoms c.args.types.now in
    let s = state_of env c.args.work.now in
    let new = state_of env c.make_message.new.work in
    let p = c.in_ok-p.p in
    let unit = c.in_ok-unit.unit.now in
    next _ _ _ _ _ p s (c.in_ok-p.ensures env)
    (message-to 0 (form.Flush p) c.args.at s c.make_message.result new (flush_fails_at c.args.at) (map unit_of c.args.work.now.around.items) (unit_of unit) (at-hand _ _ _ c.in_ok-unit.ensures) p
    (subst (λ f. Comes (makes_message_of 0 (form.Flush p) f c.args.at) s c.make_message.result new)
    (c.failing_flush-fails.ensures ∙ ap (λ es. failing (flush_fails_at c.args.at) unit.worker es p) c.as_slice.ensures) c.make_message.ensures.comes))
