use Rattle.descriptors.proofs.Yielding.{kept-then}
use Rattle.type_builder.proofs.InPlace.{own-first, own-stopped}
use Rattle.type_builder.proofs.main_in_place.asked.Goals as goal

pub returns-in-Ok-clause-told : goal.returns-in-Ok-clause-told
returns-in-Ok-clause-told g c =
    own-first g.T.Types.passes g.whole c.args.behind (g.T.Types.atoms c.args.types.now) (g.T.Types.atoms c.own_types.new.types) (g.T.Types.atoms c.asked_with.new.types) c.in-Ok.own c.asked_with.result
    c.in-Ok.ensures.comes c.asked_with.ensures.told

pub returns-in-Ok-clause-kept : goal.returns-in-Ok-clause-kept
returns-in-Ok-clause-kept g c = kept-then _ _ _ c.in-Ok.ensures.kept c.asked_with.ensures.kept

pub returns-in-Err-clause-told : goal.returns-in-Err-clause-told
returns-in-Err-clause-told g c =
    own-stopped g.T.Types.passes g.whole c.args.behind (g.T.Types.atoms c.args.types.now) (g.T.Types.atoms c.own_types.new.types) c.in-Err.stop c.unless_memory.result c.in-Err.ensures.comes c.unless_memory.ensures
