use Rattle.std.proofs.Common.{length, take}
use Rattle.type_diagrams.specs.Whole.{Extends}
use Rattle.empty_product.specs.Lists.{AreDemandsOf}
use Rattle.empty_product.proofs.lists.all_demands.Given as goal

abbrev pub invariant-loop-atom : goal.invariant-loop-atom
invariant-loop-atom l =
    Extends (length l.env) l.fn.dia l.dia × AreDemandsOf l.env l.dia l.places (take l.atom-index l.atoms) l.unwanted.items
