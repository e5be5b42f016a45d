-- What types see of a shape as a whole: whether it is simple, or else its kind and its mark.
use Rattle.std.specs.Prelude.{ℕ, List, IsTrue, MatchBool, ◌==◌, ◌≡◌, ◌↔◌, Bool, true, Option, Some, None}
use Rattle.bal_base.specs.declared.shape.Shape.{Shape, Nil, Bool as BoolShape, Int, Str, List', Mapping', Error', Function, Future'}
use Rattle.type_model.specs.declared.basic.SemType.{Atom}
use Rattle.type_model.specs.declared.atoms.AtomDef.{AtomDef}
use Rattle.type_model.specs.Membership.{In}
use Rattle.bal_base.specs.declared.limits.TheConstants.{MOST_ATOMS}
use Rattle.type_diagrams.specs.declared.kind.Kind.{Kind}
use Rattle.type_diagrams.specs.declared.kind.Kind.TheVariants.{List as Lists, Mapping as Mappings, Error as Errors, Function as Functions, Future as Futures}

-- the kind of a shape; simple shapes have none
abbrev pub kind_of : Shape → Option Kind
kind_of Nil = None
kind_of (BoolShape b) = None
kind_of (Int i) = None
kind_of (Str t) = None
kind_of (List' mark _ items) = Some Lists
kind_of (Mapping' mark _ fields) = Some Mappings
kind_of (Error' _ detail) = Some Errors
kind_of (Function isolated graph) = Some Functions
kind_of (Future' _ results) = Some Futures

abbrev pub IsOfKind : Kind → Shape → Type 0
IsOfKind k x = kind_of x ≡ Some k

-- nil, a boolean, an int or a string
abbrev pub IsSimple : Shape → Type 0
IsSimple x = kind_of x ≡ None

-- a list or mapping with the mark
abbrev pub IsMarked : Shape → Type 0
IsMarked Nil = ⊥
IsMarked (BoolShape b) = ⊥
IsMarked (Int i) = ⊥
IsMarked (Str t) = ⊥
IsMarked (List' mark _ items) = IsTrue mark
IsMarked (Mapping' mark _ fields) = IsTrue mark
IsMarked (Error' _ detail) = ⊥
IsMarked (Function isolated graph) = ⊥
IsMarked (Future' _ results) = ⊥

-- The mark and the atoms are what a decision looks at: literals. An atom's literal is its number, and
-- that of the mark is the first number that no atom has.
abbrev pub the_mark : ℕ
the_mark = MOST_ATOMS

module _ (env : List AtomDef) where
  -- a literal holds of a shape: the shape is marked, or it is in the atom
  abbrev pub HoldsOf : Shape → ℕ → Type 0
  HoldsOf x l = MatchBool (l == the_mark) (IsMarked x) (In env x (Atom l))

  -- the assignment has the literals true that hold of the shape
  abbrev pub Says : Shape → (ℕ → Bool) → Type 0
  Says x v = (l : ℕ) → (v l ≡ true) ↔ HoldsOf x l
