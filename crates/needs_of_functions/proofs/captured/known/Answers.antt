use Rattle.needs_of_functions.proofs.captured.known.Goals as goal

pub returns-in_ok-u-in-Some : goal.returns-in_ok-u-in-Some
returns-in_ok-u-in-Some c = (c.in-Some.t, c.in-Some.is, c.in_ok-u-in-Some.ensures)
