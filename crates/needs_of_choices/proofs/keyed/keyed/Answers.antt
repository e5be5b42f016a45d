use Rattle.std.proofs.Common.{IfOk, length, subst, sym}
use Rattle.checks.proofs.Steps.{stops}
use Rattle.descriptors.specs.Steps.{AreOwnTypes}
use Rattle.type_model.specs.Defined.{TyBelow}
use Rattle.check_kinds.proofs.Over.{over-at}
use Rattle.check_words.specs.Stands.{PartBelow}
use Rattle.check_words.specs.Words.{Atoms}
use Rattle.check_words.proofs.Coming.{next}
use Rattle.check_work.specs.Views.{constructor_of, state_of}
use Rattle.needs_of_structures.specs.Fitting.{stands_so}
use Rattle.needs_of_choices.specs.ByKeys.{has_right_key}
use Rattle.needs_of_choices.proofs.keyed.keyed.Goals as goal

pub stood-requires-clause-own : goal.stood-requires-clause-own
stood-requires-clause-own g c = subst (λ (env : Atoms). AreOwnTypes env c.args.own.now) (sym c.has_right_key.ensures.atoms) c.requires.own

pub stood-requires-clause-part : goal.stood-requires-clause-part
stood-requires-clause-part g c = subst (λ (env : Atoms). PartBelow (length env) c.args.member.part.now) (sym c.has_right_key.ensures.atoms) c.requires.part

pub returns-in-Ok-clause-below : goal.returns-in-Ok-clause-below
returns-in-Ok-clause-below g c = subst (λ (env : Atoms). IfOk c.stood.result (TyBelow (length env))) c.has_right_key.ensures.atoms c.stood.ensures.below

pub returns-in-Ok-clause-comes : goal.returns-in-Ok-clause-comes
returns-in-Ok-clause-comes g c =
    let member = c.args.member in
    let mid = state_of (g.T.Types.atoms c.has_right_key.new.types) c.args.work.now in
    next _ _ _ _ _ tt mid c.in-Ok.ensures.comes
    (over-at (stands_so g.T.Types.passes (constructor_of member.constructor.now) member.part.now c.args.at) mid c.stood.result _ c.stood.ensures.comes)

pub returns-in-Err-clause-comes : goal.returns-in-Err-clause-comes
returns-in-Err-clause-comes g c =
    let member = c.args.member in
    stops (has_right_key g.T.Types.passes (constructor_of member.constructor.now) c.args.at) (λ u. stands_so g.T.Types.passes (constructor_of member.constructor.now) member.part.now c.args.at) _ _ c.in-Err.stop
    c.in-Err.ensures.comes
