use Rattle.std.proofs.Common.{length, take}
use Rattle.std.specs.List.{AllZip}
use Rattle.type_diagrams.specs.Whole.{Extends}
use Rattle.empty_product.specs.Mappings.{IsRestDemandOf}
use Rattle.empty_product.proofs.mappings.rest_demands.Given as goal

abbrev pub invariant-loop-atom : goal.invariant-loop-atom
invariant-loop-atom l = Extends (length l.env) l.fn.dia l.dia × AllZip (IsRestDemandOf l.env l.dia l.fresh) (take l.atom-index l.atoms) l.demands.items
