use Rattle.stmt_checker.proofs.checking.meet.Goals as goal

pub meet_all-requires : goal.meet_all-requires
meet_all-requires g c = c.requires

pub returns-clause-stands : goal.returns-clause-stands
returns-clause-stands g c = c.meet_all.ensures.stands

pub returns-clause-met : goal.returns-clause-met
returns-clause-met g c = c.meet_all.ensures.met
