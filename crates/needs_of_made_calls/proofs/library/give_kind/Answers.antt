use Rattle.std.proofs.Common.{None}
use Rattle.typed_tree.specs.declared.form.StrictForm.TheVariants as form
use Rattle.check_words.specs.Words.{OfKind}
use Rattle.check_work.specs.Views.{state_of}
use Rattle.needs_of_made_calls.proofs.Giving.{so-then-on}
use Rattle.needs_of_made_calls.proofs.library.give_kind.Goals as goal

pub returns-in-Ok-clause-stands : goal.returns-in-Ok-clause-stands
returns-in-Ok-clause-stands c = λ env own h. c.give.ensures.stands env (c.in-Ok.ensures.defined env own) h

pub returns-in-Ok-clause-comes : goal.returns-in-Ok-clause-comes
returns-in-Ok-clause-comes c = λ env own.
    so-then-on c.args.what.count (form.Library c.args.what.call None None) c.args.what.at (OfKind c.args.kind) c.in-Ok.ty (state_of env c.args.work.now) _ (c.in-Ok.ensures.is env own) c.give.result
    (c.give.ensures.comes env)
