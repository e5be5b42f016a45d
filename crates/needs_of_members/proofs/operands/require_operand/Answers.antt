use Rattle.checks.proofs.Steps.{stops}
use Rattle.std.proofs.Common.{Some, length, subst, sym}
use Rattle.descriptors.specs.Steps.{AreOwnTypes}
use Rattle.flow_narrowing.specs.Flows.{IfShared}
use Rattle.type_model.specs.Defined.{TyBelow}
use Rattle.check_kinds.proofs.Over.{over-at}
use Rattle.check_words.proofs.Coming.{next}
use Rattle.check_words.proofs.Standing.{last-has}
use Rattle.check_words.specs.State.{IsLast}
use Rattle.check_work.specs.Views.{state_of}
use Rattle.needs_of_members.proofs.Answered.{lifted-comes, lifted-on}
use Rattle.needs_of_members.proofs.Updated.{operand-found}
use Rattle.needs_of_members.proofs.operands.require_operand.Goals as goal

pub sort_of-requires-clause-defined : goal.sort_of-requires-clause-defined
sort_of-requires-clause-defined g c = (last-has (IfShared (TyBelow (length (g.T.Types.atoms c.args.types.now)))) _ (Some c.in-Some.t.now) (subst (λ xs. IsLast xs (Some c.in-Some.t.now)) c.as_slice.ensures.value c.in-Some.ensures) c.requires.stands.wants).0

pub returns-in-Ok-clause-stands : goal.returns-in-Ok-clause-stands
returns-in-Ok-clause-stands g c =
    lifted-on c.want_operand.result _ c.lift.ensures _ (c.want_operand.ensures.stands (g.T.Types.atoms c.args.types.now) c.requires.own c.requires.stands)

pub returns-in-Ok-clause-comes : goal.returns-in-Ok-clause-comes
returns-in-Ok-clause-comes g c =
    let s = state_of (g.T.Types.atoms c.args.types.now) c.args.work.now in
    let new = g.T.Types.atoms c.sort_of.new.types in
    let mid = state_of new c.args.work.now in
    operand-found g.T.Types.passes s _ _ c.args.op c.args.at _ (subst (λ xs. IsLast xs (Some c.in-Some.t.now)) c.as_slice.ensures.value c.in-Some.ensures)
    (next _ _ _ _ _ c.in-Ok.ints mid (over-at _ s _ _ c.in-Ok.ensures.comes)
    (lifted-comes c.want_operand.result _ c.lift.ensures _ mid _
    (c.want_operand.ensures.comes new (subst (λ env. AreOwnTypes env c.args.own.now) (sym c.sort_of.ensures.atoms) c.requires.own))))

pub returns-in-Err-clause-comes : goal.returns-in-Err-clause-comes
returns-in-Err-clause-comes g c =
    let s = state_of (g.T.Types.atoms c.args.types.now) c.args.work.now in
    operand-found g.T.Types.passes s _ _ c.args.op c.args.at _ (subst (λ xs. IsLast xs (Some c.in-Some.t.now)) c.as_slice.ensures.value c.in-Some.ensures) (stops _ _ s _ c.in-Err.stop (over-at _ s _ _ c.in-Err.ensures.comes))
