-- Types as conditions. A question is compared by its condition, so it is one.
use Rattle.std.specs.Prelude.{◌≡◌, ◌≢◌, ◌==◌, ℕ, List, Bool, true, false, not, ◌&&◌, ◌||◌, Option, Some, None, slice_get}
use Rattle.std.specs.List.{list_all}
use Rattle.std.specs.Ordering.{int_cmp, is_le}
use Rattle.bal_base.specs.declared.shape.Shape.{Shape}
use Rattle.bal_base.specs.Valid.{IsValid}
use Rattle.type_model.specs.declared.basic.BasicSet.{BasicSet}
use Rattle.type_model.specs.declared.basic.BasicSet.TheVariants.{Nil as NilOnly, Bool as BoolOne, IntRange, StringOne, StringAll, ListAll, MappingAll, ErrorAll, FunctionAll, FutureAll, Readonly, Never}
use Rattle.type_model.specs.declared.basic.SemType.{SemType, Basic, Atom, Or', And', Not'}
use Rattle.type_model.specs.declared.atoms.AtomDef.{AtomDef}
use Rattle.type_model.specs.declared.atoms.AtomDef.TheVariants.{List as ListAtom, Mapping as MappingAtom, Arrow, Error as ErrorAtom, Future as FutureAtom}
use Rattle.type_model.specs.Places.{is_same_text}
use Rattle.type_diagrams.specs.declared.kind.Kind.{Kind}
use Rattle.type_diagrams.specs.declared.kind.Kind.TheVariants.{List as Lists, Mapping as Mappings, Error as Errors, Function as Functions, Future as Futures}
use Rattle.type_diagrams.specs.Kinds.{IsSimple, IsOfKind, Says, the_mark}
use Rattle.type_diagrams.specs.Simple.{by_simple, is_bool}

-- which simple shapes, and for each kind which assignments of the mark and the atoms
pub record Condition : Type 0 where
  pub simple : Shape → Bool
  pub by_kind : Kind → (ℕ → Bool) → Bool

-- two conditions count as one: the same valid simple shapes, and for each kind the same function
pub record AreOne (c d : Condition) : Type 0 where
  pub simple : (x : Shape) → IsSimple x → IsValid x → c.simple x ≡ d.simple x
  pub by_kind : (k : Kind) (v : ℕ → Bool) → c.by_kind k v ≡ d.by_kind k v

-- ---- the condition of a type

-- a type that is put together of sets and atoms, where `basic` and `atom` say which of these hold
abbrev pub truth : (BasicSet → Bool) → (ℕ → Bool) → SemType → Bool
truth basic atom (Basic b) = basic b
truth basic atom (Atom a) = atom a
truth basic atom (Or' _ s _ t) = truth basic atom s || truth basic atom t
truth basic atom (And' _ s _ t) = truth basic atom s && truth basic atom t
truth basic atom (Not' _ t) = not (truth basic atom t)

-- whether a basic set has the shape, where the shape is simple
abbrev pub has_simple : Shape → BasicSet → Bool
has_simple x NilOnly = by_simple true (λ c. false) (λ i. false) (λ u. false) x
has_simple x (BoolOne b) = by_simple false (λ c. is_bool b c) (λ i. false) (λ u. false) x
has_simple x (IntRange low high) = by_simple false (λ c. false) (λ i. is_le (int_cmp low i) && is_le (int_cmp i high)) (λ u. false) x
has_simple x (StringOne t) = by_simple false (λ c. false) (λ i. false) (λ u. is_same_text u t) x
has_simple x StringAll = by_simple false (λ c. false) (λ i. false) (λ u. true) x
has_simple x ListAll = false
has_simple x MappingAll = false
has_simple x ErrorAll = false
has_simple x FunctionAll = false
has_simple x FutureAll = false
has_simple x Readonly = by_simple true (λ c. true) (λ i. true) (λ u. true) x
has_simple x Never = false

abbrev pub kind_place : Kind → ℕ
kind_place Lists = 0
kind_place Mappings = 1
kind_place Errors = 2
kind_place Functions = 3
kind_place Futures = 4

abbrev pub is_kind : Kind → Kind → Bool
is_kind j k = kind_place j == kind_place k

-- whether the shapes of a kind are read-only, given their mark
abbrev pub is_readonly : Kind → Bool → Bool
is_readonly Lists mark = mark
is_readonly Mappings mark = mark
is_readonly Errors mark = true
is_readonly Functions mark = true
is_readonly Futures mark = false

-- whether a basic set has the shapes of a kind, given their mark
abbrev pub has_kind : Kind → Bool → BasicSet → Bool
has_kind k mark NilOnly = false
has_kind k mark (BoolOne b) = false
has_kind k mark (IntRange low high) = false
has_kind k mark (StringOne t) = false
has_kind k mark StringAll = false
has_kind k mark ListAll = is_kind k Lists
has_kind k mark MappingAll = is_kind k Mappings
has_kind k mark ErrorAll = is_kind k Errors
has_kind k mark FunctionAll = is_kind k Functions
has_kind k mark FutureAll = is_kind k Futures
has_kind k mark Readonly = is_readonly k mark
has_kind k mark Never = false

-- the kind of shapes of which the definition of an atom speaks
abbrev pub kind_of_def : AtomDef → Kind
kind_of_def (ListAtom fixed rest) = Lists
kind_of_def (MappingAtom fields rest) = Mappings
kind_of_def (ErrorAtom detail) = Errors
kind_of_def (Arrow args outcome alone) = Functions
kind_of_def (FutureAtom outcome) = Futures

abbrev pub is_def_of : Kind → Option AtomDef → Bool
is_def_of k None = false
is_def_of k (Some d) = is_kind k (kind_of_def d)

-- the literal is the mark or an atom of the kind
abbrev pub IsLiteralOf : List AtomDef → Kind → ℕ → Type 0
IsLiteralOf env k l = l ≢ the_mark → is_def_of k (slice_get env l) ≡ true

-- the condition of a basic set, and that of an atom
abbrev pub basic_condition : BasicSet → Condition
basic_condition b = record { simple = λ x. has_simple x b; by_kind = λ k v. has_kind k (v the_mark) b }

abbrev pub atom_condition : List AtomDef → ℕ → Condition
atom_condition env a = record { simple = λ x. false; by_kind = λ k v. is_def_of k (slice_get env a) && v a }

-- the condition of a type: an atom has no simple shape, and no shape of another kind than its own
abbrev pub condition_of : List AtomDef → SemType → Condition
condition_of env t = record {
  simple = λ x. truth (has_simple x) (λ a. false) t;
  by_kind = λ k v. truth (has_kind k (v the_mark)) (λ a. is_def_of k (slice_get env a) && v a) t;
}

-- ---- conditions put together

abbrev pub or_of : Condition → Condition → Condition
or_of c d = record {
  simple = λ x. c.simple x || d.simple x;
  by_kind = λ k v. c.by_kind k v || d.by_kind k v;
}

abbrev pub and_of : Condition → Condition → Condition
and_of c d = record {
  simple = λ x. c.simple x && d.simple x;
  by_kind = λ k v. c.by_kind k v && d.by_kind k v;
}

abbrev pub without : Condition → Condition → Condition
without c d = record {
  simple = λ x. c.simple x && not (d.simple x);
  by_kind = λ k v. c.by_kind k v && not (d.by_kind k v);
}

-- no shape
abbrev pub nothing : Condition
nothing = record { simple = λ x. false; by_kind = λ k v. false }

abbrev pub is_frozen_at : Kind → (ℕ → Bool) → Bool
is_frozen_at Lists v = v the_mark
is_frozen_at Mappings v = v the_mark
is_frozen_at Errors v = false
is_frozen_at Functions v = false
is_frozen_at Futures v = false

-- all shapes
abbrev pub everything : Condition
everything = record { simple = λ x. true; by_kind = λ k v. true }

-- nil, booleans, ints, strings, marked lists and marked mappings: what may stand in something marked
abbrev pub frozen : Condition
frozen = record { simple = λ x. true; by_kind = is_frozen_at }

-- a question: whatever is in all that is wanted and in nothing that is unwanted
abbrev pub asks : List Condition → List Condition → Condition
asks wanted unwanted = record {
  simple = λ x. list_all (λ c. c.simple x) wanted && list_all (λ c. not (c.simple x)) unwanted;
  by_kind = λ k v. list_all (λ c. c.by_kind k v) wanted && list_all (λ c. not (c.by_kind k v)) unwanted;
}

-- at each kind it depends on the mark and on the atoms of that kind alone
abbrev pub LooksAtKinds : List AtomDef → Condition → Type 0
LooksAtKinds env c =
    (k : Kind) (v w : ℕ → Bool) → ((l : ℕ) → IsLiteralOf env k l → v l ≡ w l) → c.by_kind k v ≡ c.by_kind k w

-- no valid simple shape has it, and for each kind it is constantly false
abbrev pub IsNothing : Condition → Type 0
IsNothing c = AreOne c nothing

-- ---- the shapes of a condition

module _ (env : List AtomDef) where
  -- the shape meets the condition: as a simple shape, or by what it says of the mark and the atoms
  pub record Meets (c : Condition) (x : Shape) : Type 0 where
    pub simple : IsSimple x → c.simple x ≡ true
    pub by_kind : (k : Kind) (v : ℕ → Bool) → IsOfKind k x → Says env x v → c.by_kind k v ≡ true

  -- a valid shape that meets it
  abbrev pub IsShapeOf : Condition → Shape → Type 0
  IsShapeOf c x = IsValid x × Meets c x
