use Rattle.std.proofs.Common.{ℕ, ◌<◌, ◌↔◌, Any, take}
use Rattle.type_diagrams.specs.Members.{Fixes}
use Rattle.empty_product.proofs.list_atoms.longest_prefix.Given as goal

abbrev pub invariant-loop-atom : goal.invariant-loop-atom
invariant-loop-atom l = (place : ℕ) → (place < l.longest) ↔ Any (Fixes l.defs place) (take l.atom-index l.atoms)
