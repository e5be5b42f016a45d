use Rattle.std.proofs.Common.{Err, IfOk, Ok, length, subst, sym}
use Rattle.checks.proofs.Steps.{stops}
use Rattle.descriptors.specs.Steps.{AreOwnTypes}
use Rattle.type_model.specs.Defined.{TyBelow}
use Rattle.check_kinds.proofs.Over.{over-at}
use Rattle.check_words.specs.Stands.{PartBelow}
use Rattle.check_words.specs.Words.{Atoms, below_if}
use Rattle.check_words.proofs.Coming.{next}
use Rattle.check_work.specs.Views.{constructor_of, state_of}
use Rattle.needs_of_choices.specs.ByKeys.{keyed_so}
use Rattle.needs_of_structures.proofs.Answering.{stands-over}
use Rattle.needs_of_choices.proofs.keyed.member_fitted.Goals as goal

pub keyed-requires-clause-own : goal.keyed-requires-clause-own
keyed-requires-clause-own g c = subst (λ (env : Atoms). AreOwnTypes env c.args.own.now) (sym c.below_want.ensures.atoms) c.requires.own

pub keyed-requires-clause-part : goal.keyed-requires-clause-part
keyed-requires-clause-part g c = subst (λ (env : Atoms). PartBelow (length env) c.args.member.part.now) (sym c.below_want.ensures.atoms) c.requires.part

pub returns-in-Ok-clause-below : goal.returns-in-Ok-clause-below
returns-in-Ok-clause-below g c = subst (λ (env : Atoms). IfOk c.keyed.result (TyBelow (length env))) c.below_want.ensures.atoms c.keyed.ensures.below

pub keyed-requires-clause-stands : goal.keyed-requires-clause-stands
keyed-requires-clause-stands g c = stands-over (state_of (g.T.Types.atoms c.args.types.now) c.args.work.now) (g.T.Types.atoms c.below_want.new.types) c.below_want.ensures.atoms c.requires.stands

pub returns-in-Ok-clause-comes : goal.returns-in-Ok-clause-comes
returns-in-Ok-clause-comes g c =
    let member = c.args.member in
    let s = state_of (g.T.Types.atoms c.args.types.now) c.args.work.now in
    next _ _ _ _ _ tt (state_of (g.T.Types.atoms c.below_want.new.types) c.args.work.now)
    (over-at (below_if g.T.Types.passes member.want.now member.part.now c.args.at) s (Ok tt) _ c.in-Ok.ensures.comes) c.keyed.ensures.comes

pub returns-in-Err-clause-comes : goal.returns-in-Err-clause-comes
returns-in-Err-clause-comes g c =
    let member = c.args.member in
    let s = state_of (g.T.Types.atoms c.args.types.now) c.args.work.now in
    stops (below_if g.T.Types.passes member.want.now member.part.now c.args.at) (λ u. keyed_so g.T.Types.passes (constructor_of member.constructor.now) member.part.now c.args.at) s _ c.in-Err.stop
    (over-at (below_if g.T.Types.passes member.want.now member.part.now c.args.at) s (Err c.in-Err.stop) _ c.in-Err.ensures.comes)
