use Rattle.std.proofs.Common.{length, take}
use Rattle.type_diagrams.specs.Whole.{Extends}
use Rattle.empty_product.proofs.MappingQuestions.{AreBasesAt}
use Rattle.empty_product.proofs.mapping_atoms.key_bases.Given as goal

abbrev pub invariant-loop-key : goal.invariant-loop-key
invariant-loop-key l =
    Extends (length l.env) l.fn.dia l.dia × AreBasesAt l.env l.dia l.wanted (take l.key-index l.keys) l.bases.items
