use Rattle.std.proofs.Common.{length, take}
use Rattle.type_diagrams.specs.Members.{IsListOutOfPlay}
use Rattle.type_diagrams.specs.Whole.{Extends}
use Rattle.empty_product.specs.Play.{AreInPlay}
use Rattle.empty_product.proofs.list_atoms.lists_in_play.Given as goal

abbrev pub invariant-loop-atom : goal.invariant-loop-atom
invariant-loop-atom l =
    Extends (length l.env) l.initial.dia l.dia × AreInPlay (IsListOutOfPlay l.env l.wanted) (take l.atom-index l.unwanted) l.playing.items
