-- Arguments of a function as an unmarked list.
use Rattle.std.specs.Prelude.{List, ⊤, IsSomeAnd, slice_get}
use Rattle.bal_base.specs.declared.shape.Shape.{Shape}
use Rattle.type_model.specs.declared.basic.BasicSet.{BasicSet}
use Rattle.type_model.specs.declared.basic.BasicSet.TheVariants.{Nil as NilOnly, Bool as BoolOne, IntRange, StringOne, StringAll, ListAll, MappingAll, ErrorAll, FunctionAll, FutureAll, Readonly, Never}
use Rattle.type_model.specs.declared.basic.SemType.{SemType}
use Rattle.type_model.specs.declared.atoms.AtomDef.{AtomDef}
use Rattle.type_model.specs.Membership.{Holds, ListFits}
use Rattle.type_model.specs.Elements.{ItemsIn}

-- the one basic set in which every unmarked list is
abbrev pub HasAllLists : BasicSet → Type 0
HasAllLists NilOnly = ⊥
HasAllLists (BoolOne b) = ⊥
HasAllLists (IntRange low high) = ⊥
HasAllLists (StringOne text) = ⊥
HasAllLists StringAll = ⊥
HasAllLists ListAll = ⊤
HasAllLists MappingAll = ⊥
HasAllLists ErrorAll = ⊥
HasAllLists FunctionAll = ⊥
HasAllLists FutureAll = ⊥
HasAllLists Readonly = ⊥
HasAllLists Never = ⊥

-- an unmarked list of these items is in the type
abbrev pub ArgumentsIn : List AtomDef → List Shape → SemType → Type 0
ArgumentsIn env items = Holds HasAllLists (λ n. IsSomeAnd (slice_get env n) (ListFits items (ItemsIn env items)))
