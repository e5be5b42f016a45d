use Rattle.std.proofs.Common.{◌≡◌, [], length, map}
use Rattle.type_diagrams.specs.Conditions.{asks}
use Rattle.type_diagrams.specs.Members.{item_of}
use Rattle.type_diagrams.specs.Whole.{Extends}
use Rattle.empty_product.specs.Lists.{AreAsked}
use Rattle.empty_product.proofs.list_atoms.fixed_questions.Given as goal

abbrev pub invariant-loop-place : goal.invariant-loop-place
invariant-loop-place l =
    Extends (length l.env) l.fn.dia l.dia × (length l.fixed.items ≡ l.place) × AreAsked l.dia (λ place. asks (map (item_of l.env place) l.atoms) []) l.fixed.items
