use Rattle.std.proofs.Common.{length}
use Rattle.check_words.specs.Stands.{PartBelow}
use Rattle.needs_of_values.proofs.Chosen.{first-of-two, second-of-two}
use Rattle.needs_of_values.proofs.choosing.type_of_choice.Goals as goal

pub type_of_one-requires-clause-first : goal.type_of_one-requires-clause-first
type_of_one-requires-clause-first g c = first-of-two (PartBelow (length (g.T.Types.atoms c.args.types.now))) c.args.found.now c.requires _ _ c.in_ok-a.ensures

pub type_of_one-requires-clause-second : goal.type_of_one-requires-clause-second
type_of_one-requires-clause-second g c = second-of-two (PartBelow (length (g.T.Types.atoms c.args.types.now))) c.args.found.now c.requires _ _ c.in_ok-a.ensures

pub returns-clause-is : goal.returns-clause-is
returns-clause-is g c = record { a = c.in_ok-a.a.now; b = c.in_ok-a.b.now; last = c.in_ok-a.ensures; holds = c.in_ok-t.ensures.is }
