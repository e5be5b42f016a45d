use Rattle.std.proofs.Common.{length, take}
use Rattle.std.specs.List.{AllZip}
use Rattle.type_diagrams.specs.Whole.{Extends}
use Rattle.empty_product.specs.Mappings.{AreDemandsOf}
use Rattle.empty_product.proofs.mappings.all_demands.Given as goal

abbrev pub invariant-loop-atom : goal.invariant-loop-atom
invariant-loop-atom l = Extends (length l.env) l.fn.dia l.dia × AllZip (AreDemandsOf l.env l.dia l.keys) (take l.atom-index l.atoms) l.unwanted.items
