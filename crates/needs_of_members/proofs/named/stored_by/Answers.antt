use Rattle.std.proofs.Common.{subst, sym}
use Rattle.type_model.specs.Defined.{IsDefined}
use Rattle.check_kinds.proofs.Over.{over-on, over-stops}
use Rattle.check_words.specs.Members.{names_members}
use Rattle.check_words.specs.Words.{asking}
use Rattle.needs_of_members.specs.Fronts.{stored_at}
use Rattle.needs_of_members.proofs.Over.{below-at}
use Rattle.needs_of_members.proofs.named.stored_by.Goals as goal

pub stored_at-requires : goal.stored_at-requires
stored_at-requires g c = subst (λ env. IsDefined env c.args.sides.container.now.sem) (sym c.names_members.ensures.atoms) c.requires.container

pub returns-in-Ok-clause-below : goal.returns-in-Ok-clause-below
returns-in-Ok-clause-below g c = below-at _ _ c.stored_at.result c.names_members.ensures.atoms c.stored_at.ensures.below

pub returns-in-Ok-clause-comes : goal.returns-in-Ok-clause-comes
returns-in-Ok-clause-comes g c =
    over-on (asking (names_members g.T.Types.passes c.args.access c.args.sides.key.now c.args.at)) (λ keys. stored_at g.T.Types.passes c.args.sides.container.now keys c.args.at) (g.T.Types.atoms c.args.types.now)
    (g.T.Types.atoms c.names_members.new.types) (g.T.Types.atoms c.stored_at.new.types) c.in-Ok.keys c.stored_at.result c.in-Ok.ensures.comes c.stored_at.ensures.comes

pub returns-in-Err-clause-comes : goal.returns-in-Err-clause-comes
returns-in-Err-clause-comes g c =
    over-stops (asking (names_members g.T.Types.passes c.args.access c.args.sides.key.now c.args.at)) (λ keys. stored_at g.T.Types.passes c.args.sides.container.now keys c.args.at) (g.T.Types.atoms c.args.types.now)
    (g.T.Types.atoms c.names_members.new.types) c.in-Err.stop c.in-Err.ensures.comes
