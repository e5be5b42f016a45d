use Rattle.std.proofs.Common.{arith, false, rules, true}
use Rattle.std.proofs.lemmas.Grind.{common_steps}
use Rattle.plain_structures.proofs.Adding.{added-more}
use Rattle.plain_structures.proofs.entries.add_pairs.Goals as goal

pub pairs-init : goal.pairs-init
pairs-init c = λ all new h. h

pub pairs-preserved : goal.pairs-preserved
pairs-preserved c = λ all new h. c.pairs.invariant all new (first_of (search (rules, added-more), grind (arith, common_steps, added-more)))

pub returns-in-empty : goal.returns-in-empty
returns-in-empty c = c.pairs.invariant true c.pairs.entries (first_of (search rules, grind (arith, common_steps)))

pub returns-in_default : goal.returns-in_default
returns-in_default c = c.pairs.invariant false c.pairs.entries (first_of (search rules, grind (arith, common_steps)))

pub returns-in_default-2 : goal.returns-in_default-2
returns-in_default-2 c = c.pairs.invariant false c.pairs.entries (first_of (search rules, grind (arith, common_steps)))
