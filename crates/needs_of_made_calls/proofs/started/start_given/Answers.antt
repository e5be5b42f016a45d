use Rattle.std.proofs.Common.{◌≡◌, Err, Ok, Some}
use Rattle.checks.specs.Questions.{adds}
use Rattle.descriptors.specs.Described.{plain}
use Rattle.type_model.specs.declared.basic.SemType.{Atom}
use Rattle.typed_tree.specs.declared.form.Callee.TheVariants as callee
use Rattle.typed_tree.specs.declared.form.StrictForm.TheVariants as form
use Rattle.check_kinds.proofs.Over.{over-asks}
use Rattle.check_words.specs.Calls.{IsFutureAtom}
use Rattle.check_words.specs.Words.{asking, makes_strict}
use Rattle.check_words.proofs.Growing.{stands-grows}
use Rattle.check_work.specs.Views.{state_of}
use Rattle.needs_of_made_calls.proofs.Answering.{lifted-on, not-made, then-made}
use Rattle.needs_of_made_calls.proofs.started.start_given.Goals as goal

pub returns-in-Ok-clause-stands : goal.returns-in-Ok-clause-stands
returns-in-Ok-clause-stands g c =
    let env = g.T.Types.atoms c.add_futures.new.types in
    lifted-on c.start_as.result c.lift.result c.lift.ensures _
    (c.start_as.ensures.stands env c.in-Ok.ensures.there (stands-grows (state_of (g.T.Types.atoms c.args.types.now) c.args.work.now) env c.add_futures.ensures.kept c.requires.stands))

pub returns-in-Ok-clause-comes : goal.returns-in-Ok-clause-comes
returns-in-Ok-clause-comes g c =
    let env = g.T.Types.atoms c.add_futures.new.types in
    then-made c.start_as.result c.lift.result c.lift.ensures (asking (adds (λ e. IsFutureAtom g.T.Types.passes c.args.given) (Some c.args.at))) (λ atom. makes_strict c.args.count (form.Start callee.Value) (λ e t. t ≡ plain (Atom atom)) c.args.at)
    (state_of (g.T.Types.atoms c.args.types.now) c.args.work.now) env c.in-Ok.atom _ (over-asks (adds (λ e. IsFutureAtom g.T.Types.passes c.args.given) (Some c.args.at)) _ env (Ok c.in-Ok.atom) c.in-Ok.ensures.comes) (c.start_as.ensures.comes env)

pub returns-clause-comes : goal.returns-clause-comes
returns-clause-comes g c =
    not-made (asking (adds (λ e. IsFutureAtom g.T.Types.passes c.args.given) (Some c.args.at))) (λ atom. makes_strict c.args.count (form.Start callee.Value) (λ e t. t ≡ plain (Atom atom)) c.args.at)
    (state_of (g.T.Types.atoms c.args.types.now) c.args.work.now) _ c.in-Err.stop (over-asks (adds (λ e. IsFutureAtom g.T.Types.passes c.args.given) (Some c.args.at)) _ _ (Err c.in-Err.stop) c.in-Err.ensures.comes)
