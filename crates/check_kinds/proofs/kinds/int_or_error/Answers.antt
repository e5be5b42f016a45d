use Rattle.std.proofs.Common.{◌⊎◌, ◌↔◌, subst, sym}
use Rattle.descriptors.specs.Described.{IsPlain}
use Rattle.operations.specs.Kinds.{IsError, IsInteger}
use Rattle.type_model.specs.declared.basic.BasicSet.{BasicSet}
use Rattle.type_model.specs.declared.basic.BasicSet.TheVariants as set
use Rattle.type_model.specs.declared.basic.Ty.{Ty}
use Rattle.type_model.specs.Basic.{InBasic}
use Rattle.type_model.specs.Defined.{TyBelow}
use Rattle.type_model.specs.Membership.{In}
use Rattle.check_kinds.proofs.KindSets.{then-same}
use Rattle.check_kinds.proofs.Shapes.{int_or_error-set, plain-below, plain-is}
use Rattle.check_kinds.proofs.kinds.int_or_error.Goals as goal

pub returns-clause-is : goal.returns-clause-is
returns-clause-is c = λ env.
    subst (λ (t : Ty). IsPlain (λ x. IsInteger x ⊎ IsError x) env t) (sym c.plain.ensures)
    (plain-is env c.in_ok-sem.sem (λ x. IsInteger x ⊎ IsError x) (λ x v. then-same
    (subst (λ (b : BasicSet). In env x c.in_ok-sem.sem ↔ (InBasic x b ⊎ InBasic x set.ErrorAll)) c.ints.ensures (c.in_ok-sem.ensures.shapes env x)) (int_or_error-set x v)))

pub returns-clause-defined : goal.returns-clause-defined
returns-clause-defined c = λ n. subst (TyBelow n) (sym c.plain.ensures) (plain-below n c.in_ok-sem.sem (c.in_ok-sem.ensures.defined n tt))
