use Rattle.std.proofs.Common.{subst, sym}
use Rattle.descriptors.specs.Described.{IsPlain}
use Rattle.operations.specs.Kinds.{IsDetail}
use Rattle.type_model.specs.declared.basic.Ty.{Ty}
use Rattle.type_model.specs.Defined.{TyBelow}
use Rattle.check_kinds.proofs.KindSets.{then-same}
use Rattle.check_kinds.proofs.Shapes.{detail-set, plain-below, plain-is}
use Rattle.check_kinds.proofs.kinds.detail_type.Goals as goal

pub returns-clause-is : goal.returns-clause-is
returns-clause-is c = λ env.
    subst (λ (t : Ty). IsPlain IsDetail env t) (sym c.plain.ensures) (plain-is env c.in_ok-sem.sem IsDetail (λ x v. then-same (c.in_ok-sem.ensures.shapes env x) (detail-set x)))

pub returns-clause-defined : goal.returns-clause-defined
returns-clause-defined c = λ n. subst (TyBelow n) (sym c.plain.ensures) (plain-below n c.in_ok-sem.sem (c.in_ok-sem.ensures.defined n tt))
