use Rattle.needs_of_matches.proofs.clauses.enter_as.Goals as goal

pub returns : goal.returns
returns c = c.in_ok-retype_if.ensures c.args.before.now c.in_ok-_was.ensures.entered
