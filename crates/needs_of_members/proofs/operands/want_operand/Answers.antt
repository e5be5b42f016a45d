use Rattle.std.proofs.Common.{length, subst, sym}
use Rattle.type_model.specs.Defined.{TyBelow}
use Rattle.check_words.specs.Values.{sort_kind}
use Rattle.check_words.specs.Words.{OfKind}
use Rattle.check_work.specs.Views.{state_of}
use Rattle.needs_of_members.proofs.Answered.{on-made}
use Rattle.needs_of_members.proofs.Updated.{operand-stands, operand-wanted}
use Rattle.needs_of_members.proofs.operands.want_operand.Goals as goal

pub returns-clause-stands : goal.returns-clause-stands
returns-clause-stands c = λ env own h. let s = state_of env c.args.work.now in
    on-made _ _ c.want.result
    (λ e. operand-stands s h c.args.ints c.in_ok-t.t _ _ (subst (TyBelow (length env)) (sym c.in_ok-t.ensures.ok) (c.in_ok-ty.ensures.defined env own)) e) c.want.ensures

pub returns-clause-comes : goal.returns-clause-comes
returns-clause-comes c = λ env own. let s = state_of env c.args.work.now in
    on-made _ _ c.want.result
    (λ e. operand-wanted s c.args.ints c.in_ok-t.t _ _ (subst (OfKind (sort_kind c.args.ints) env) (sym c.in_ok-t.ensures.ok) (subst (λ k. OfKind k env c.in_ok-ty.ty) c.sort_kind.ensures (c.in_ok-ty.ensures.is env own))) c.in_ok-push.ensures.items e) c.want.ensures
