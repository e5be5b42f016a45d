use Rattle.std.proofs.Common.{Bool, IfOk, List, subst, sym}
use Rattle.descriptors.specs.Described.{IsPlain}
use Rattle.operations.specs.Structures.{IsMade}
use Rattle.type_model.specs.declared.atoms.AtomDef.{AtomDef}
use Rattle.check_kinds.proofs.kinds.made_type.Goals as goal

pub returns-in-true-clause-is : goal.returns-in-true-clause-is
returns-in-true-clause-is c =
    subst (λ (b : Bool). IfOk c.immutable_type.result (λ t. (env : List AtomDef) → IsPlain (IsMade env c.args.atom b) env t)) (sym c.in-true.is) c.immutable_type.ensures.is
