use Rattle.all_needs.proofs.Named.{it-holds, it-stands, runs-named}
use Rattle.all_needs.proofs.checking.CheckingMeets.actions.Goals as goal

pub meet-requires : goal.meet-requires
meet-requires g c = it-holds _ _ _ c.requires

pub returns-clause-stands : goal.returns-clause-stands
returns-clause-stands g c = it-stands _ _ _ c.meet.ensures.holds

pub returns-clause-met : goal.returns-clause-met
returns-clause-met g c = runs-named g.T.Types.passes _ _ _ _ _ _ _ c.meet.ensures.names c.is_env.ensures c.meet.ensures.holds c.meet.ensures.met
