-- The shapes of the basic sets.
use Rattle.std.specs.Prelude.{◌≡◌, IsTrue, ⊤, ◌≤ℤ◌}
use Rattle.bal_base.specs.declared.shape.Shape.{Shape, Nil, Bool, Int, Str, List', Mapping', Error', Function, Future'}
use Rattle.type_model.specs.declared.basic.BasicSet.{BasicSet}
use Rattle.type_model.specs.declared.basic.BasicSet.TheVariants.{Nil as NilOnly, Bool as BoolOne, IntRange, StringOne, StringAll, ListAll, MappingAll, ErrorAll, FunctionAll, FutureAll, Readonly, Never}

-- the shape is one of the set's
abbrev pub InBasic : Shape → BasicSet → Type 0
InBasic Nil NilOnly = ⊤
InBasic _ NilOnly = ⊥
InBasic (Bool b) (BoolOne c) = b ≡ c
InBasic _ (BoolOne c) = ⊥
InBasic (Int i) (IntRange low high) = (low ≤ℤ i) × (i ≤ℤ high)
InBasic _ (IntRange low high) = ⊥
InBasic (Str t) (StringOne u) = t ≡ u
InBasic _ (StringOne u) = ⊥
InBasic (Str t) StringAll = ⊤
InBasic _ StringAll = ⊥
InBasic (List' mark _ items) ListAll = ⊤
InBasic _ ListAll = ⊥
InBasic (Mapping' mark _ fields) MappingAll = ⊤
InBasic _ MappingAll = ⊥
InBasic (Error' _ detail) ErrorAll = ⊤
InBasic _ ErrorAll = ⊥
InBasic (Function isolated graph) FunctionAll = ⊤
InBasic _ FunctionAll = ⊥
InBasic (Future' _ results) FutureAll = ⊤
InBasic _ FutureAll = ⊥
InBasic Nil Readonly = ⊤
InBasic (Bool b) Readonly = ⊤
InBasic (Int i) Readonly = ⊤
InBasic (Str t) Readonly = ⊤
InBasic (List' mark _ items) Readonly = IsTrue mark
InBasic (Mapping' mark _ fields) Readonly = IsTrue mark
InBasic (Error' _ detail) Readonly = ⊤
InBasic (Function isolated graph) Readonly = ⊤
InBasic (Future' _ results) Readonly = ⊥
InBasic _ Never = ⊥
