use Rattle.typed_tree.specs.declared.form.StrictForm.TheVariants as form
use Rattle.check_words.specs.Words.{OfKind}
use Rattle.check_work.specs.Views.{state_of}
use Rattle.check_work.proofs.Making.{strict-made, strict-stands}
use Rattle.needs_of_operators.proofs.operators.form.Goals as goal

pub returns-clause-stands : goal.returns-clause-stands
returns-clause-stands c = λ env own h.
    strict-stands (form.Operator c.args.what.op) c.args.what.count c.in_ok-ty.ty c.args.what.at (state_of env c.args.work.now) _ c.in_ok-gather.ensures h (c.in_ok-ty.ensures.defined env own)

pub returns-clause-comes : goal.returns-clause-comes
returns-clause-comes c = λ env own.
    strict-made (form.Operator c.args.what.op) c.args.what.count c.in_ok-ty.ty c.args.what.at (state_of env c.args.work.now) _ c.in_ok-gather.ensures (OfKind c.args.what.kind)
    (c.in_ok-ty.ensures.is env own)
