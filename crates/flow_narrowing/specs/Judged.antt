-- How what may have failed a test is put together, kind by kind.
use Rattle.std.specs.Prelude.{◌≡◌, ◌⊎◌, ◌↔◌, Bool, true, false, List, Option, Some, None}
use Rattle.bal_base.specs.declared.shape.Shape.{Shape, Nil, Bool as BoolShape, Int, Str, List', Mapping', Error', Function, Future'}
use Rattle.bal_base.specs.Valid.{IsValid}
use Rattle.type_model.specs.declared.atoms.AtomDef.{AtomDef}
use Rattle.type_model.specs.declared.basic.SemType.{SemType}
use Rattle.type_model.specs.Membership.{In}
use Rattle.flow_narrowing.specs.declared.kind.Kind.{Kind}
use Rattle.flow_narrowing.specs.declared.kind.Kind.TheVariants as kind
use Rattle.flow_narrowing.specs.Asked.{open_part}
use Rattle.flow_narrowing.specs.Narrowed.{LiesIn, MayFail, part_of}

-- the kind of the shape, if it is one of those of which values may stand for many
abbrev pub kind_of : Shape → Option Kind
kind_of Nil = None
kind_of (BoolShape b) = None
kind_of (Int i) = None
kind_of (Str t) = None
kind_of (List' mark _ items) = Some kind.Lists
kind_of (Mapping' mark _ fields) = Some kind.Mappings
kind_of (Error' _ detail) = None
kind_of (Function isolated graph) = Some kind.Functions
kind_of (Future' _ results) = Some kind.Futures

module _ (env : List AtomDef) (s t : SemType) where
  -- whether the part of s of the kind lies in t
  abbrev pub Settles : Kind → Bool → Type 0
  Settles k true = LiesIn env s t (open_part k)
  Settles k false = ¬ LiesIn env s t (open_part k)

  -- it is settled whether the part of s of the kind lies in t, and where it doesn't, all shapes of the kind are there as well
  pub record IsJudged (k : Kind) (before after : SemType) : Type 0 where
    pub settled : LiesIn env s t (open_part k) ⊎ (¬ LiesIn env s t (open_part k))
    pub shapes : (x : Shape) → In env x after ↔ (In env x before ⊎ ((kind_of x ≡ Some k) × (¬ LiesIn env s t (open_part k))))

  -- of the shapes of s the type has those for which a value may stand that isn't of t
  abbrev pub IsFailing : SemType → Type 0
  IsFailing u = (x : Shape) → IsValid x → In env x s → (In env x u ↔ MayFail env s t x (part_of x))
