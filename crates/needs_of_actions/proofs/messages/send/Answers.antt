use Rattle.typed_tree.specs.declared.form.StrictForm.TheVariants as form
use Rattle.expr_needs.specs.declared.kind.Kind.TheVariants as kind
use Rattle.check_words.specs.Words.{OfKind}
use Rattle.check_words.proofs.Coming.{next}
use Rattle.check_work.specs.Views.{state_of}
use Rattle.check_work.proofs.Making.{strict-made, strict-stands}
use Rattle.needs_of_actions.proofs.messages.send.Goals as goal

pub returns-clause-stands : goal.returns-clause-stands
returns-clause-stands c = λ env own h.
    strict-stands (form.Send c.in_ok-p.p) 1 c.in_ok-ty.ty c.args.at (state_of env c.args.work.now) _ c.in_ok-gather.ensures h (c.in_ok-ty.ensures.defined env own)

pub returns-clause-comes : goal.returns-clause-comes
returns-clause-comes c = λ env own. let s = state_of env c.args.work.now in
    next _ _ _ _ _ c.in_ok-p.p s (c.in_ok-p.ensures env)
    (strict-made (form.Send c.in_ok-p.p) 1 c.in_ok-ty.ty c.args.at s _ c.in_ok-gather.ensures (OfKind kind.Nothing) (c.in_ok-ty.ensures.is env own))
