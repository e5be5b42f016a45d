use Rattle.std.proofs.Common.{length, take}
use Rattle.type_diagrams.specs.Members.{IsMappingOutOfPlay}
use Rattle.type_diagrams.specs.Whole.{Extends}
use Rattle.empty_product.specs.KeyBases.{AreBases}
use Rattle.empty_product.specs.Play.{AreInPlay}
use Rattle.empty_product.proofs.mapping_atoms.mappings_in_play.Given as goal

abbrev pub invariant-loop-atom : goal.invariant-loop-atom
invariant-loop-atom l =
    Extends (length l.env) l.fn.dia l.dia × AreInPlay (IsMappingOutOfPlay l.env l.wanted) (take l.atom-index l.unwanted) l.playing.items × AreBases l.env l.dia l.wanted l.bases
