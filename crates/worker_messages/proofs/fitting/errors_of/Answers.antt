use Rattle.std.proofs.Common.{◌≡◌, refl, rules, subst, sym}
use Rattle.std.specs.Prelude.{⊤}
use Rattle.type_model.specs.declared.basic.SemType.{SemType}
use Rattle.type_model.specs.Defined.{NamesBelow}
use Rattle.type_model.specs.SameType.{IsSameType}
use Rattle.type_model.proofs.SameTypes.{NamesBelow-same}
use Rattle.worker_pairing.specs.Faults.{error_type}
use Rattle.worker_messages.proofs.fitting.errors_of.Goals as goal

pub returns-clause-is : goal.returns-clause-is
returns-clause-is c = (c.in_ok-left.ensures, subst (IsSameType error_type) (sym c.in_ok-right.ensures.ok) refl)

pub returns-clause-defined : goal.returns-clause-defined
returns-clause-defined c = λ n h. (NamesBelow-same n c.args.result_type.now c.in_ok-left.left.value c.in_ok-left.ensures h, subst (NamesBelow n) (sym c.in_ok-right.ensures.ok) tt)
