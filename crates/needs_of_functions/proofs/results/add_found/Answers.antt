use Rattle.needs_of_functions.proofs.results.add_found.Goals as goal

pub returns-clause-adds : goal.returns-clause-adds
returns-clause-adds g c = record { found = c.in_ok-r.r; is = c.in_ok-push.ensures.items; finds = c.in_ok-r.ensures.finds; below = c.in_ok-r.ensures.below }
