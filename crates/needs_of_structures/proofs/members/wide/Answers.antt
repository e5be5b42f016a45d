use Rattle.std.proofs.Common.{IfOk, length, subst}
use Rattle.descriptors.specs.Described.{IsCopy}
use Rattle.type_model.specs.declared.basic.Ty.{Ty}
use Rattle.check_kinds.proofs.Over.{over-stops}
use Rattle.check_words.specs.Values.{widened}
use Rattle.check_words.specs.Words.{some_over}
use Rattle.needs_of_structures.proofs.Asking.{copied-over, lifted-below}
use Rattle.needs_of_structures.proofs.members.wide.Goals as goal

pub returns-in-Ok-clause-below : goal.returns-in-Ok-clause-below
returns-in-Ok-clause-below g c =
    lifted-below (length (g.T.Types.atoms c.args.types.now)) c.in-Ok.t.value c.copy.result c.lift.result c.lift.ensures
    (subst (λ (v : Ty). IfOk c.copy.result (IsCopy v)) c.deref.ensures c.copy.ensures) c.in-Ok.ensures.below

pub returns-in-Ok-clause-comes : goal.returns-in-Ok-clause-comes
returns-in-Ok-clause-comes g c =
    copied-over (widened g.T.Types.passes c.args.t c.args.at) _ _ c.in-Ok.t c.copy.result c.lift.result c.lift.ensures c.in-Ok.ensures.comes
    (subst (λ (v : Ty). IfOk c.copy.result (IsCopy v)) c.deref.ensures c.copy.ensures)

pub returns-in-Err-clause-comes : goal.returns-in-Err-clause-comes
returns-in-Err-clause-comes g c =
    over-stops (widened g.T.Types.passes c.args.t c.args.at) (λ v. some_over (λ env u. IsCopy v.value u)) _ _ c.in-Err.stop c.in-Err.ensures.comes
