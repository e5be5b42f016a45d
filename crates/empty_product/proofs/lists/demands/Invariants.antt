use Rattle.std.proofs.Common.{length}
use Rattle.type_diagrams.specs.Whole.{Extends}
use Rattle.empty_product.specs.Lists.{IsDemandOf}
use Rattle.empty_product.proofs.lists.demands.Given as goal

abbrev pub invariant-loop-place : goal.invariant-loop-place
invariant-loop-place l =
    Extends (length l.env) l.fn.dia l.dia × IsDemandOf l.env l.dia l.place l.atom l.demands.items
