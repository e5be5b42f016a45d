-- The laws of values.
use Rattle.std.specs.Prelude.{◌↔◌}
use Rattle.bal_base.specs.declared.shape.Shape.{Shape}
use Rattle.bal_base.specs.Same.{IsSame}
use Rattle.bal_base.specs.Valid.{IsValid}
use Rattle.type_model.specs.declared.basic.SemType.{SemType}
use Rattle.value_model.specs.declared.value.Value.{Value}
use Rattle.value_model.specs.Heap.{Heap, IsThere, IsClosed, Grows}
use Rattle.value_model.specs.Stands.{OwnTypes, HasShape, Belongs}

-- a value that is there belongs to the same types when the heap has grown
abbrev pub BelongingIsStable : Type 0
BelongingIsStable =
    (own : OwnTypes) (old new : Heap) → IsClosed old → Grows old new →
    (v : Value) → IsThere old v → (t : SemType) → Belongs own old v t ↔ Belongs own new v t

-- a value that has shapes, as an immutable one, has one valid shape at most, but for where its parts lie in memory
abbrev pub ShapeIsOne : Type 0
ShapeIsOne =
    (h : Heap) (x y : Shape) (v : Value) → IsValid x → IsValid y → HasShape h x v → HasShape h y v → IsSame x y
