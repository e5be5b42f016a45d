use Rattle.std.proofs.Common.{◌≡◌, length}
use Rattle.type_diagrams.specs.Whole.{Extends}
use Rattle.empty_product.specs.Lists.{AreAsked, item_asked}
use Rattle.empty_product.proofs.lists.bases.Given as goal

abbrev pub invariant-loop-place : goal.invariant-loop-place
invariant-loop-place l =
    Extends (length l.env) l.fn.dia l.dia × (length l.bases.items ≡ l.place) × AreAsked l.dia (item_asked l.env l.wanted l.marked) l.bases.items
