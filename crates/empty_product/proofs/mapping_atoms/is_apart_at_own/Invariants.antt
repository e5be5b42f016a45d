use Rattle.std.proofs.Common.{length, take}
use Rattle.std.specs.List.{Any}
use Rattle.type_diagrams.specs.Whole.{Extends}
use Rattle.empty_product.specs.KeyBases.{IsApartBy}
use Rattle.empty_product.proofs.mapping_atoms.is_apart_at_own.Given as goal

abbrev pub invariant-loop-field : goal.invariant-loop-field
invariant-loop-field l =
    Extends (length l.env) l.fn.dia l.dia × (¬ Any (IsApartBy l.env l.wanted l.atom) (take l.field-index l.fields))
