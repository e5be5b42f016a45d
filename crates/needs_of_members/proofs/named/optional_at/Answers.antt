use Rattle.std.proofs.Common.{subst, sym}
use Rattle.operations.specs.Kinds.{IsNil}
use Rattle.type_model.specs.Defined.{IsDefined}
use Rattle.check_kinds.proofs.Over.{over-on, over-stops}
use Rattle.check_words.specs.Members.{some_member_at}
use Rattle.check_words.specs.Words.{EitherOf}
use Rattle.needs_of_members.specs.Fronts.{gives_optional}
use Rattle.needs_of_members.proofs.Over.{below-at, lifted-have, over-lifted-at}
use Rattle.needs_of_members.proofs.named.optional_at.Goals as goal

pub optional_shared-requires : goal.optional_shared-requires
optional_shared-requires g c = subst (λ env. IsDefined env c.in-Ok.member) (sym c.some_member_at.ensures.atoms) c.in-Ok.ensures.defined

pub returns-in-Ok-clause-below : goal.returns-in-Ok-clause-below
returns-in-Ok-clause-below g c =
    lifted-have _ c.optional_shared.result _ c.lift.ensures (below-at _ _ c.optional_shared.result c.some_member_at.ensures.atoms c.optional_shared.ensures.below)

pub returns-in-Ok-clause-comes : goal.returns-in-Ok-clause-comes
returns-in-Ok-clause-comes g c =
    over-on (some_member_at g.T.Types.passes c.args.container.now c.args.keys.now c.args.at) gives_optional (g.T.Types.atoms c.args.types.now) (g.T.Types.atoms c.some_member_at.new.types) (g.T.Types.atoms c.optional_shared.new.types) c.in-Ok.member _
    c.in-Ok.ensures.comes
    (over-lifted-at (λ env t. EitherOf c.in-Ok.member IsNil env t.value) _ _ c.optional_shared.result _ c.optional_shared.ensures.atoms c.lift.ensures c.optional_shared.ensures.is)

pub returns-in-Err-clause-comes : goal.returns-in-Err-clause-comes
returns-in-Err-clause-comes g c = over-stops (some_member_at g.T.Types.passes c.args.container.now c.args.keys.now c.args.at) gives_optional (g.T.Types.atoms c.args.types.now) (g.T.Types.atoms c.some_member_at.new.types) c.in-Err.stop c.in-Err.ensures.comes
