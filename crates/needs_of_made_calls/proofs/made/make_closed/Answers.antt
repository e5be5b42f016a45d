use Rattle.std.proofs.Common.{length, subst, sym}
use Rattle.checks.specs.Checks.{Comes}
use Rattle.descriptors.specs.Described.{IsCopy}
use Rattle.type_model.proofs.Kept.{KeepsTypes-same}
use Rattle.typed_tree.specs.declared.form.StrictForm.TheVariants as form
use Rattle.check_words.specs.Calls.{callee_unit, makes_call_of}
use Rattle.check_words.specs.Stands.{CalledBelow}
use Rattle.check_words.specs.Words.{makes_strict}
use Rattle.check_work.specs.Views.{called_of, state_of}
use Rattle.needs_of_made_calls.proofs.Answering.{lifted-comes, lifted-on}
use Rattle.needs_of_made_calls.proofs.made.make_closed.Goals as goal

pub returns-in-Function-clause-kept : goal.returns-in-Function-clause-kept
returns-in-Function-clause-kept g c = KeepsTypes-same _

pub returns-in-Function-clause-stands : goal.returns-in-Function-clause-stands
returns-in-Function-clause-stands g c =
    let env = g.T.Types.atoms c.args.types.now in
    lifted-on c.make_function.result c.lift.result c.lift.ensures _
    (c.make_function.ensures.stands env (subst (λ x. CalledBelow (length env) (called_of x)) c.in-Function.is c.requires.call) c.requires.stands)

pub returns-in-Function-clause-comes : goal.returns-in-Function-clause-comes
returns-in-Function-clause-comes g c =
    let env = g.T.Types.atoms c.args.types.now in
    let s = state_of env c.args.work.now in
    subst (λ x. Comes (makes_call_of g.T.Types.passes (called_of x) c.args.call.now.args c.args.at) s c.lift.result (state_of env c.make_function.new.work)) (sym c.in-Function.is)
    (lifted-comes c.make_function.result c.lift.result c.lift.ensures
    (makes_strict c.args.call.now.args (form.Call (callee_unit c.in-Function.f.now)) (λ e. IsCopy c.in-Function.f.now.result) c.args.at) s _ (c.make_function.ensures.comes env))
