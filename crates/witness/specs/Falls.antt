-- The parts of a witness have fewer levels.
use Rattle.std.proofs.Common.{refl, max, ◌*◌, Bool, Vec, Global, ◌≡◌, ℕ, ◌+◌, ◌≤◌, ◌<◌, List, [], ◌∷◌, All, arith}
use Rattle.std.proofs.lemmas.List.Elements.{All-head, All-tail}
use denote.Param.Weighed.{most}
use Rattle.bal_base.specs.declared.text.Text.{Text}
use Rattle.bal_base.specs.declared.shape.Shape.{Shape}
use Rattle.bal_base.specs.Levels.{levels}
use Rattle.bal_base.proofs.Lower.{FieldIsBelow, levels-List, levels-Mapping, levels-Error}
use Rattle.witness.specs.Seen.{shape_of}
use Rattle.witness.specs.declared.Witness.TheDeep.{deep-Node, size-Witness}
use Rattle.witness.specs.declared.Node.{Node}
use Rattle.witness.specs.declared.Node.TheVariants.{Whole, List as Items, Mapping as Fields, Error as Detail}

pub most-below : (b : ℕ) (xs : List Shape) → All (λ x. levels x < b) xs → most (λ x. levels x + 1) xs ≤ b
most-below b [] h = omega arith
most-below b (x ∷ xs) h = omega (arith, most-below b xs (All-tail (λ x. levels x < b) x xs h), All-head (λ x. levels x < b) x xs h)

-- a pair weighs as much as its second part
abbrev pub weight : Text × Shape → ℕ
weight f = max 0 (max (levels f.1 + 1) 0)

most-fields : (b : ℕ) (fs : List (Text × Shape)) → All (FieldIsBelow b) fs → most weight fs ≤ b
most-fields b [] h = omega arith
most-fields b (f ∷ fs) h = omega (arith, most-fields b fs (All-tail (FieldIsBelow b) f fs h), All-head (FieldIsBelow b) f fs h)

deep-fields : (mark : Bool) (fields : Vec (Text × Shape) Global) → deep-Node (Fields mark fields) ≡ max (most weight fields.items) 0
deep-fields mark fields = refl

pub falls : (n : Node) → deep-Node n ≤ levels (shape_of n)
falls (Whole x) = omega arith
falls (Items mark items) = omega (arith, most-below (levels (shape_of (Items mark items))) items.items (levels-List mark (record { items = items })))
falls (Fields mark fields) = omega (arith, deep-fields mark fields, most-fields (levels (shape_of (Fields mark fields))) fields.items (levels-Mapping mark (record { items = fields })))
falls (Detail detail) = omega (arith, levels-Error detail)

-- ---- what a call for each of the parts goes down by

pub most-sizes : (b : ℕ) (xs : List Shape) → All (λ x. levels x < b) xs → most (λ (x : Shape). size-Witness x) xs ≤ 2 * b
most-sizes b [] h = omega arith
most-sizes b (x ∷ xs) h = omega (arith, most-sizes b xs (All-tail (λ x. levels x < b) x xs h), All-head (λ x. levels x < b) x xs h)

abbrev pub size_of : Text × Shape → ℕ
size_of f = max 0 (max (size-Witness f.1) 0)

pub most-field-sizes : (b : ℕ) (fs : List (Text × Shape)) → All (FieldIsBelow b) fs → most size_of fs ≤ 2 * b
most-field-sizes b [] h = omega arith
most-field-sizes b (f ∷ fs) h = omega (arith, most-field-sizes b fs (All-tail (FieldIsBelow b) f fs h), All-head (FieldIsBelow b) f fs h)
