-- What a test leaves of the type of a variable: of S, where it is tested for T.
use Rattle.std.specs.Prelude.{◌≡◌, List, Bool, true, false}
use Rattle.bal_base.specs.declared.shape.Shape.{Shape, Nil, Bool as BoolShape, Int, Str, List', Mapping', Error', Function, Future'}
use Rattle.bal_base.specs.Valid.{IsValid}
use Rattle.type_model.specs.declared.atoms.AtomDef.{AtomDef}
use Rattle.type_model.specs.declared.basic.Ty.{Ty}
use Rattle.type_model.specs.declared.basic.SemType.{SemType}
use Rattle.type_model.specs.Membership.{In}
use Rattle.descriptors.specs.Described.{HasMeaning}

-- The parts of a type. A simple value and an error stand for one shape, and so does a list or mapping that is immutable, which has
-- the mark. A mutable one stands for each unmarked shape of its type, and a function or a future for each shape of its own type.
pub data Part : Type 0 where
  Plain : Part
  Lists : Bool → Part
  Mappings : Bool → Part
  Functions : Part
  Futures : Part

abbrev pub part_of : Shape → Part
part_of Nil = Plain
part_of (BoolShape b) = Plain
part_of (Int i) = Plain
part_of (Str t) = Plain
part_of (List' mark _ items) = Lists mark
part_of (Mapping' mark _ fields) = Mappings mark
part_of (Error' _ detail) = Plain
part_of (Function isolated graph) = Functions
part_of (Future' _ results) = Futures

module _ (env : List AtomDef) (s t : SemType) where
  -- all shapes of this part of s are in t
  abbrev pub LiesIn : Part → Type 0
  LiesIn part = (x : Shape) → IsValid x → part_of x ≡ part → In env x s → In env x t

  -- A value of s that isn't of t may stand for this shape of s, which is of this part. No shape of values that stand for many is left
  -- out, unless all of the part lie in t.
  abbrev pub MayFail : Shape → Part → Type 0
  MayFail x Plain = ¬ In env x t
  MayFail x (Lists false) = ¬ LiesIn (Lists false)
  MayFail x (Lists true) = LiesIn (Lists false) → ¬ In env x t
  MayFail x (Mappings false) = ¬ LiesIn (Mappings false)
  MayFail x (Mappings true) = LiesIn (Mappings false) → ¬ In env x t
  MayFail x Functions = ¬ LiesIn Functions
  MayFail x Futures = ¬ LiesIn Futures

-- where the test holds: the shapes of both, with the choices of t
abbrev pub WhereTrue : List AtomDef → Ty → Ty → Ty → Type 0
WhereTrue env s t u = HasMeaning (λ x. In env x s.sem × In env x t.sem) t.lists t.maps env u

-- where it doesn't: the shapes of s that a value may stand for which failed the test, with the choices of s
abbrev pub WhereFalse : List AtomDef → Ty → Ty → Ty → Type 0
WhereFalse env s t u = HasMeaning (λ x. In env x s.sem × MayFail env s.sem t.sem x (part_of x)) s.lists s.maps env u
