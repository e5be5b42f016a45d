use Rattle.std.proofs.Common.{Ok, OnOk, subst}
use Rattle.checks.specs.Checks.{Comes}
use Rattle.descriptors.specs.Described.{plain}
use Rattle.type_model.specs.declared.basic.SemType.{Atom}
use Rattle.typed_tree.specs.declared.form.StrictForm.TheVariants as form
use Rattle.check_work.specs.Views.{state_of}
use Rattle.needs_of_made_calls.specs.Making.{makes_so}
use Rattle.needs_of_made_calls.proofs.started.start_function.Goals as goal

pub returns-clause-stands : goal.returns-clause-stands
returns-clause-stands c = λ env below h. c.start_as.ensures.stands env below.5 h

pub returns-clause-comes : goal.returns-clause-comes
returns-clause-comes c = λ env.
    subst (λ x. OnOk c.start_as.result (Comes (makes_so c.args.count (form.Start x) (plain (Atom c.args.f.now.future)) c.args.at) (state_of env c.args.work.now) (Ok tt)
    (state_of env c.start_as.new.work))) c.in_ok-callee.ensures (c.start_as.ensures.comes env)
