use Rattle.std.proofs.Common.{subst, sym}
use Rattle.type_model.specs.Defined.{IsDefined}
use Rattle.typed_tree.specs.SharedTypes.{Shared}
use Rattle.check_kinds.proofs.Over.{over-on, over-stops}
use Rattle.check_words.specs.Members.{IsStored, some_member_at}
use Rattle.check_words.specs.Words.{some_over}
use Rattle.needs_of_members.proofs.Over.{below-at, lifted-have, over-lifted}
use Rattle.needs_of_members.proofs.named.stored_at.Goals as goal

pub stored_shared-requires : goal.stored_shared-requires
stored_shared-requires g c = subst (λ env. IsDefined env c.in-Ok.member) (sym c.some_member_at.ensures.atoms) c.in-Ok.ensures.defined

pub returns-in-Ok-clause-below : goal.returns-in-Ok-clause-below
returns-in-Ok-clause-below g c =
    lifted-have _ c.stored_shared.result _ c.lift.ensures (below-at _ _ c.stored_shared.result c.some_member_at.ensures.atoms c.stored_shared.ensures.below)

pub returns-in-Ok-clause-comes : goal.returns-in-Ok-clause-comes
returns-in-Ok-clause-comes g c =
    over-on (some_member_at g.T.Types.passes c.args.container.now.sem c.args.keys.now c.args.at) (λ m. some_over (λ env (t : Shared). IsStored c.args.container.now c.args.keys.now m env t.value)) (g.T.Types.atoms c.args.types.now)
    (g.T.Types.atoms c.some_member_at.new.types) (g.T.Types.atoms c.some_member_at.new.types) c.in-Ok.member _ c.in-Ok.ensures.comes
    (over-lifted (λ env t. IsStored c.args.container.now c.args.keys.now c.in-Ok.member env t.value) _ c.stored_shared.result _ c.lift.ensures c.stored_shared.ensures.is)

pub returns-in-Err-clause-comes : goal.returns-in-Err-clause-comes
returns-in-Err-clause-comes g c =
    over-stops (some_member_at g.T.Types.passes c.args.container.now.sem c.args.keys.now c.args.at) (λ m. some_over (λ env (t : Shared). IsStored c.args.container.now c.args.keys.now m env t.value)) (g.T.Types.atoms c.args.types.now)
    (g.T.Types.atoms c.some_member_at.new.types) c.in-Err.stop c.in-Err.ensures.comes
