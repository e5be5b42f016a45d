use Rattle.std.proofs.Common.{length, take}
use Rattle.std.specs.List.{Any}
use Rattle.type_diagrams.specs.Whole.{Extends}
use Rattle.empty_product.specs.KeyBases.{IsApartAt}
use Rattle.empty_product.proofs.mapping_atoms.is_apart_at_named.Given as goal

abbrev pub invariant-loop-base : goal.invariant-loop-base
invariant-loop-base l =
    Extends (length l.env) l.fn.dia l.dia × (¬ Any (IsApartAt l.env l.fn.dia l.atom) (take l.base-index l.bases))
