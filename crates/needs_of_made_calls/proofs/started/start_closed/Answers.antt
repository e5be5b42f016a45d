use Rattle.std.proofs.Common.{length, subst, sym}
use Rattle.checks.specs.Checks.{Comes}
use Rattle.descriptors.specs.Described.{plain}
use Rattle.type_model.proofs.Kept.{KeepsTypes-same}
use Rattle.type_model.specs.declared.basic.SemType.{Atom}
use Rattle.typed_tree.specs.declared.form.StrictForm.TheVariants as form
use Rattle.check_words.specs.Calls.{callee_unit, starts_of}
use Rattle.check_words.specs.Stands.{CalledBelow}
use Rattle.check_work.specs.Views.{called_of, state_of}
use Rattle.needs_of_made_calls.specs.Making.{makes_so}
use Rattle.needs_of_made_calls.proofs.Answering.{lifted-comes, lifted-on}
use Rattle.needs_of_made_calls.proofs.started.start_closed.Goals as goal

pub returns-in-Function-clause-kept : goal.returns-in-Function-clause-kept
returns-in-Function-clause-kept g c = KeepsTypes-same _

pub returns-in-Function-clause-stands : goal.returns-in-Function-clause-stands
returns-in-Function-clause-stands g c =
    let env = g.T.Types.atoms c.args.types.now in
    lifted-on c.start_function.result c.lift.result c.lift.ensures _
    (c.start_function.ensures.stands env (subst (λ x. CalledBelow (length env) (called_of x)) c.in-Function.is c.requires.call) c.requires.stands)

pub returns-in-Function-clause-comes : goal.returns-in-Function-clause-comes
returns-in-Function-clause-comes g c =
    let env = g.T.Types.atoms c.args.types.now in
    let s = state_of env c.args.work.now in
    subst (λ x. Comes (starts_of g.T.Types.passes (called_of x) c.args.call.now.args c.args.here c.args.at) s c.lift.result (state_of env c.start_function.new.work)) (sym c.in-Function.is)
    (lifted-comes c.start_function.result c.lift.result c.lift.ensures
    (makes_so c.args.call.now.args (form.Start (callee_unit c.in-Function.f.now)) (plain (Atom c.in-Function.f.now.future)) c.args.at) s _ (c.start_function.ensures.comes env))

pub returns-in-Library-clause-kept : goal.returns-in-Library-clause-kept
returns-in-Library-clause-kept g c = KeepsTypes-same _
