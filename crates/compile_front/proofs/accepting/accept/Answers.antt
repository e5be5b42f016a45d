use Rattle.std.proofs.Common.{length}
use Rattle.compile_front.proofs.FrontSteps.{told-comes, told-ok}
use Rattle.compile_front.specs.declared.accepting.Accepted.{Accepted}
use Rattle.descriptors.specs.Steps.{AreNames}
use Rattle.isolation_check.specs.Isolated.{IsIsolated}
use Rattle.isolation_check.specs.Typed.{AreTyped}
use Rattle.compile_front.proofs.accepting.accept.Goals as goal

pub returns-clause-comes : goal.returns-clause-comes
returns-clause-comes g c =
    told-comes g.T.Types.passes c.args.«package».now _ _ c.all_steps-types.result.answer c.told.result c.all_steps-types.ensures.comes c.told.ensures.same

pub returns-clause-names : goal.returns-clause-names
returns-clause-names g c =
    told-ok (λ (a : Accepted). AreNames (g.T.Types.atoms c.all_steps-types.result.types) a.names) c.all_steps-types.result.answer c.told.result c.all_steps-types.ensures.names c.told.ensures.same

pub returns-clause-typed : goal.returns-clause-typed
returns-clause-typed g c =
    told-ok (λ (a : Accepted). AreTyped (length (g.T.Types.atoms c.all_steps-types.result.types)) a.«package») c.all_steps-types.result.answer c.told.result c.all_steps-types.ensures.typed c.told.ensures.same

pub returns-clause-isolated : goal.returns-clause-isolated
returns-clause-isolated g c =
    told-ok (λ (a : Accepted). IsIsolated a.«package» a.names.own (g.T.Types.atoms c.all_steps-types.result.types)) c.all_steps-types.result.answer c.told.result c.all_steps-types.ensures.isolated c.told.ensures.same
