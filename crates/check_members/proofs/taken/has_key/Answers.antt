use Rattle.check_members.proofs.taken.has_key.Goals as goal

pub among_new-requires-clause-named : goal.among_new-requires-clause-named
among_new-requires-clause-named g c = c.in-Ok.ensures.named (g.T.Types.atoms c.args.types.now)

pub returns-in-Ok-clause-comes : goal.returns-in-Ok-clause-comes
returns-in-Ok-clause-comes g c = c.among_new.ensures.comes c.args.name.now c.in-Ok.ensures.have
