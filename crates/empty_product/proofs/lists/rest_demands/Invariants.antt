use Rattle.std.proofs.Common.{◌≡◌, length, map, take, All}
use Rattle.type_diagrams.specs.Members.{item_of}
use Rattle.type_diagrams.specs.Whole.{Extends, Gives}
use Rattle.empty_product.proofs.lists.rest_demands.Given as goal

abbrev pub invariant-loop-atom : goal.invariant-loop-atom
invariant-loop-atom l =
    Extends (length l.env) l.fn.dia l.dia × (map (λ d. d.atom) l.demands.items ≡ take l.atom-index l.atoms)
    × All (λ d. Gives l.dia (item_of l.env l.prefix d.atom) d.question) l.demands.items
