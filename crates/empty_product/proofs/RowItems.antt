-- Lists by their items: in which list atoms they are.
use Rattle.std.proofs.Common.{◌≡◌, ◌↔◌, ℕ, zero, suc, ◌+◌, ◌<◌, ◌≤◌, List, [], length, true, Option, Some, None, IsSome, IsSomeAnd, slice_get, option_and_then, refl, subst, All, arith}
use Rattle.std.proofs.lemmas.Bool.{false≢true}
use Rattle.std.proofs.lemmas.Option.{slice_get_past}
use Rattle.std.proofs.lemmas.List.Elements.{All-nil, All-cons}
use Rattle.bal_base.specs.declared.shape.Shape.{Shape, Nil, Bool as BoolShape, Int, Str, List as AList, List', Mapping', Error', Function, Future', Row_of-Shape, end_of-Shape, more_of-Shape, items-the_row-Shape as shapes_in, items_hidden-the_row-Shape-0}
use Rattle.bal_base.specs.declared.shape.Shapes.{Shapes}
use Rattle.bal_base.specs.Levels.{levels, greatest}
use Rattle.bal_base.specs.Shapes.{shapes_list}
use Rattle.bal_base.specs.Valid.{IsFrozen, IsValid, AreValid}
use Rattle.type_model.specs.declared.basic.SemType.{Atom}
use Rattle.type_model.specs.declared.basic.Ty.{Ty}
use Rattle.type_model.specs.declared.atoms.AtomDef.{AtomDef}
use Rattle.type_model.specs.declared.atoms.AtomDef.TheVariants.{List as ListAtom, Mapping as MappingAtom, Arrow, Error as ErrorAtom, Future as FutureAtom}
use Rattle.type_model.specs.Membership.{In, Fits, EachIn}
use Rattle.type_model.specs.Places.{item_type, or_rest}
use Rattle.type_diagrams.specs.declared.kind.Kind.TheVariants.{List as Lists}
use Rattle.type_diagrams.specs.Atoms.{list_parts}
use Rattle.type_diagrams.specs.Kinds.{IsOfKind, IsMarked, the_mark}
use Rattle.type_diagrams.specs.Conditions.{Meets, is_def_of}
use Rattle.type_diagrams.specs.Members.{asked, type_asked}
use Rattle.type_diagrams.proofs.Meeting.{In-condition, Meets-nothing}
use Rattle.empty_product.specs.Lists.{IsInAtom}
use Rattle.empty_product.specs.Play.{IsListAtom}
use Rattle.empty_product.proofs.ItemPlaces.{some_same, none_some, at_place}

abbrev pub items_in : Shape → List Shape
items_in (List' mark _ row) = shapes_in _ row
items_in x = []

pub items_in-List : (mark : _) (items : Shapes) → items_in (AList mark items) ≡ shapes_list items
items_in-List mark items = items_hidden-the_row-Shape-0 items.items

-- ---- the items of a valid list

valid_row : (n : _) (row : Row_of-Shape n) → AreValid row → All IsValid (shapes_in n row)
valid_row n end_of-Shape h = All-nil IsValid
valid_row n (more_of-Shape x rest) h = All-cons IsValid x _ h.0 (valid_row _ rest h.1)

abbrev IsLower : ℕ → Shape → Type 0
IsLower n x = levels x < n

lower_row : (b n : _) (row : Row_of-Shape n) → greatest row < b → All (IsLower b) (shapes_in n row)
lower_row b n end_of-Shape h = All-nil (IsLower b)
lower_row b n (more_of-Shape x rest) h = All-cons (IsLower b) x _ (omega (arith, h)) (lower_row b _ rest (omega (arith, h)))

pub valid_items : (x : Shape) → IsOfKind Lists x → IsValid x → All IsValid (items_in x) × (IsMarked x → All IsFrozen (items_in x))
valid_items (List' mark _ row) kind valid = (valid_row _ row valid.1, valid.0)
valid_items Nil kind valid = cc
valid_items (BoolShape b) kind valid = cc
valid_items (Int i) kind valid = cc
valid_items (Str t) kind valid = cc
valid_items (Mapping' mark _ fields) kind valid = cc
valid_items (Error' _ detail) kind valid = cc
valid_items (Function isolated graph) kind valid = cc
valid_items (Future' _ results) kind valid = cc

pub lower_items : (x : Shape) → IsOfKind Lists x → All (λ y. levels y < levels x) (items_in x)
lower_items (List' mark _ row) kind = lower_row (greatest row + 1) _ row (omega arith)
lower_items Nil kind = cc
lower_items (BoolShape b) kind = cc
lower_items (Int i) kind = cc
lower_items (Str t) kind = cc
lower_items (Mapping' mark _ fields) kind = cc
lower_items (Error' _ detail) kind = cc
lower_items (Function isolated graph) kind = cc
lower_items (Future' _ results) kind = cc

module _ (env : List AtomDef) (small : length env ≤ the_mark) where
  some_met : (y : Shape) (o : Option Ty) → IsSomeAnd o (λ t. In env y t.sem) ↔ Meets env (type_asked env o) y
  some_met y None = (λ h. absurd h, λ m. Meets-nothing env y m)
  some_met y (Some t) = In-condition env small y t.sem

  some_rest : (x : Shape) (rest : Option Ty) → Meets env (type_asked env rest) x → IsSome rest
  some_rest x None m = absurd (Meets-nothing env x m)
  some_rest x (Some t) m = refl

  module _ (fixed : List Ty) (rest : Option Ty) where
    each_of : (n : _) (row : Row_of-Shape n) (k : ℕ) → EachIn env row k fixed rest → (i j : ℕ) (x : Shape) → j ≡ k + i → slice_get (shapes_in n row) i ≡ Some x → Meets env (type_asked env (item_type fixed rest j)) x
    each_of n end_of-Shape k h i j x e is = absurd (none_some x is)
    each_of n (more_of-Shape y ys) k h zero j x e is =
        let same : k ≡ j = omega (arith, e) in
        let here : Meets env (type_asked env (item_type fixed rest j)) y = subst (λ m. Meets env (type_asked env (item_type fixed rest m)) y) same ((some_met y (item_type fixed rest k)).0 h.0) in
        subst (λ z. Meets env (type_asked env (item_type fixed rest j)) z) (some_same y x is) here
    each_of n (more_of-Shape y ys) k h (suc i) j x e is = each_of _ ys (k + 1) h.1 i j x (omega (arith, e)) is

    each_to : (n : _) (row : Row_of-Shape n) (k : ℕ) → ((i j : ℕ) (x : Shape) → j ≡ k + i → slice_get (shapes_in n row) i ≡ Some x → Meets env (type_asked env (item_type fixed rest j)) x) → EachIn env row k fixed rest
    each_to n end_of-Shape k h = tt
    each_to n (more_of-Shape y ys) k h = (
      (some_met y (item_type fixed rest k)).1 (h 0 k y (omega arith) refl),
      each_to _ ys (k + 1) (λ i j x e is. h (suc i) j x (omega (arith, e)) is),
    )

    -- a longer list than is fixed has an item of the rest
    has_rest : (items : List Shape) → length fixed < length items → ((place : ℕ) (x : Shape) → slice_get items place ≡ Some x → Meets env (type_asked env (item_type fixed rest place)) x) → IsSome rest
    has_rest items lt each =
        let x = at_place items (length fixed) lt in
        some_rest x.0 rest (subst (λ o. Meets env (type_asked env (or_rest o rest)) x.0) (slice_get_past fixed (length fixed) (omega arith)) (each (length fixed) x.0 x.1))

  abbrev AllowsBy : ℕ → Option AtomDef → Type 0
  AllowsBy n o = IsSomeAnd (option_and_then list_parts o) (λ d. (length d.0 ≤ n) × (length d.0 < n → IsSome d.1))

  abbrev EachBy : List Shape → Option AtomDef → Type 0
  EachBy items o = (place : ℕ) (x : Shape) → slice_get items place ≡ Some x → Meets env (asked (λ d. type_asked env (item_type d.0 d.1 place)) (option_and_then list_parts o)) x

  In-items : (x : Shape) → IsOfKind Lists x → (o : Option AtomDef) → is_def_of Lists o ≡ true → IsSomeAnd o (Fits env x) ↔ (AllowsBy (length (items_in x)) o × EachBy (items_in x) o)
  In-items (List' mark s row) kind o def = by o def
    where
      by : (o : Option AtomDef) → is_def_of Lists o ≡ true → IsSomeAnd o (Fits env (List' mark s row)) ↔ (AllowsBy (length (shapes_in _ row)) o × EachBy (shapes_in _ row) o)
      by None h = absurd (false≢true h)
      by (Some (ListAtom fixed rest)) h = (
        λ f. let each = λ (place : ℕ) (x : Shape) (is : slice_get (shapes_in _ row) place ≡ Some x). each_of fixed rest _ row 0 f.1 place place x (omega arith) is in
            ((f.0, λ lt. has_rest fixed rest (shapes_in _ row) lt each), each),
        λ f. (f.0.0, each_to fixed rest _ row 0 (λ i j x e is. subst (λ m. Meets env (type_asked env (item_type fixed rest m)) x) (plain i j e) (f.1 i x is))),
      )
        where
          plain : (i j : ℕ) → j ≡ 0 + i → i ≡ j
          plain i j e = omega (arith, e)
      by (Some (MappingAtom fields rest)) h = absurd (false≢true h)
      by (Some (Arrow args outcome alone)) h = absurd (false≢true h)
      by (Some (ErrorAtom t)) h = absurd (false≢true h)
      by (Some (FutureAtom outcome)) h = absurd (false≢true h)
  In-items Nil kind o def = cc
  In-items (BoolShape b) kind o def = cc
  In-items (Int i) kind o def = cc
  In-items (Str t) kind o def = cc
  In-items (Mapping' mark _ fields) kind o def = cc
  In-items (Error' _ detail) kind o def = cc
  In-items (Function isolated graph) kind o def = cc
  In-items (Future' _ results) kind o def = cc

  -- a list is in a list atom where its items are
  pub In-IsInAtom : (x : Shape) → IsOfKind Lists x → (a : ℕ) → IsListAtom env a → In env x (Atom a) ↔ IsInAtom env a (items_in x)
  In-IsInAtom x kind a def =
      let both = In-items x kind (slice_get env a) def in
      (λ h. let f = both.0 h in record { allowed = f.0; each = f.1 }, λ h. both.1 (h.allowed, h.each))
