use Rattle.std.proofs.Common.{◌≡◌, List, All, length}
use Rattle.type_model.specs.declared.atoms.AtomDef.{AtomDef}
use Rattle.type_diagrams.specs.Turns.{IsSound}
use Rattle.empty_product.specs.Products.{places_of}
use Rattle.empty_product.proofs.PlacedParts.{StandFirst}
use Rattle.empty_product.proofs.avoid.filled.Given as goal

abbrev pub invariant-loop-slot : goal.invariant-loop-slot
invariant-loop-slot g l =
    (length l.parts.items ≡ l.slot-index)
    × ((env : List AtomDef) → All (IsSound env l.dia) (g.M.Member.kept l.context.m.now) → StandFirst env (places_of l.dia l.slots) l.parts.items)
