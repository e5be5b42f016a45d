use Rattle.std.proofs.Common.{subst}
use Rattle.checks.specs.Checks.{Comes}
use Rattle.checks.proofs.Steps.{ran_out}
use Rattle.descriptors.specs.Described.{described_whole}
use Rattle.descriptors.specs.Descriptors.{descriptor_of}
use Rattle.type_model.proofs.Kept.{KeepsTypes-same}
use Rattle.needs_of_functions.proofs.described.described_type.Goals as goal

pub returns-in-Ok-clause-comes : goal.returns-in-Ok-clause-comes
returns-in-Ok-clause-comes g c =
    subst (λ s. Comes (described_whole c.args.names.now s (descriptor_of c.args.tree.now)) (g.T.Types.atoms c.args.types.now) c.describe.result (g.T.Types.atoms c.describe.new.types)) c.in-Ok.ensures
    c.describe.ensures.comes

pub returns-in-Err-clause-kept : goal.returns-in-Err-clause-kept
returns-in-Err-clause-kept g c = KeepsTypes-same (g.T.Types.atoms c.args.types.now)

pub returns-in-Err-clause-comes : goal.returns-in-Err-clause-comes
returns-in-Err-clause-comes g c = ran_out _ _ _
