-- Mappings by their members: which are in an atom, which are valid, and that members have fewer levels.
use Rattle.std.proofs.Common.{◌≡◌, ◌↔◌, ◌⊎◌, ⊎_elim, inl, inr, ℕ, ◌+◌, ◌<◌, ◌≤◌, List, [], length, All, Bool, true, false, IsTrue, IsSomeAnd, Option, Some, None, slice_get, option_and_then, refl, sym, subst, ◌∙◌, arith}
use Rattle.std.proofs.lemmas.Bool.{false≢true}
use Rattle.std.proofs.lemmas.List.Elements.{All-nil, All-cons, All-head, All-tail}
use Rattle.bal_base.specs.declared.text.Text.{Text}
use Rattle.bal_base.specs.declared.shape.Shape.{Shape, Nil, Bool as BoolShape, Int, Str, List', Mapping, Mapping', Error', Function, Future', Row_of-Fields-items-2 as Row_of-Field, end_of-Fields-items-2 as end_of-Field, more_of-Fields-items-2 as more_of-Field, items-the_row-Fields-items-2 as row_list, items_hidden-the_row-Fields-items-2-1}
use Rattle.bal_base.specs.declared.shape.Fields.{Fields}
use Rattle.bal_base.specs.Levels.{levels, greatest_field}
use Rattle.bal_base.specs.Shapes.{fields_list}
use Rattle.bal_base.specs.Valid.{IsValid, IsFrozen, KeysRise, FieldsValid}
use Rattle.type_model.specs.declared.basic.SemType.{Atom}
use Rattle.type_model.specs.declared.basic.Ty.{Ty}
use Rattle.type_model.specs.declared.atoms.FieldDef.{FieldDef}
use Rattle.type_model.specs.declared.atoms.AtomDef.{AtomDef}
use Rattle.type_model.specs.declared.atoms.AtomDef.TheVariants.{List as ListAtom, Mapping as MappingAtom, Arrow, Error as ErrorAtom, Future as FutureAtom}
use Rattle.type_model.specs.Membership.{In, Fits, MembersIn}
use Rattle.type_model.specs.Places.{key_type, HasKey, HasRequired}
use Rattle.type_diagrams.specs.declared.kind.Kind.TheVariants.{Mapping as Mappings}
use Rattle.type_diagrams.specs.Atoms.{mapping_parts}
use Rattle.type_diagrams.specs.Kinds.{IsOfKind, IsMarked, the_mark}
use Rattle.type_diagrams.specs.Conditions.{Meets, is_def_of}
use Rattle.type_diagrams.specs.Members.{asked, type_asked, member_of, Requires}
use Rattle.type_diagrams.proofs.Meeting.{In-condition, Meets-nothing}
use Rattle.type_diagrams.proofs.PathShapes.{IsAtomOf}
use Rattle.empty_product.specs.KeyBases.{fields_in, fields_of}
use Rattle.empty_product.proofs.AtomFields.{IsNeeded, Requires-fields}
use Rattle.empty_product.proofs.MemberLists.{Member}
use Rattle.empty_product.proofs.Zipped.{Any-of, Any-is, All-from_slice_get, at-Contains}
use Rattle.std.proofs.lemmas.List.Elements.{All-contains}

-- ---- members as a list

abbrev pub members_in : Shape → List Member
members_in (Mapping' mark _ row) = row_list _ row
members_in x = []

pub members_in-Mapping : (mark : Bool) (fields : Fields) → members_in (Mapping mark fields) ≡ fields_list fields
members_in-Mapping mark fields = items_hidden-the_row-Fields-items-2-1 fields.items

-- what holds of each mapping
module _ (P : Shape → Type 0) (of_mapping : (mark : Bool) (s : _) (row : _) → P (Mapping' mark s row)) where
  pub each-mapping : (x : Shape) → IsOfKind Mappings x → P x
  each-mapping (Mapping' mark s row) kind = of_mapping mark s row
  each-mapping Nil kind = cc
  each-mapping (BoolShape b) kind = cc
  each-mapping (Int i) kind = cc
  each-mapping (Str t) kind = cc
  each-mapping (List' mark _ items) kind = cc
  each-mapping (Error' _ detail) kind = cc
  each-mapping (Function isolated graph) kind = cc
  each-mapping (Future' _ results) kind = cc

abbrev IsValidPart : Member → Type 0
IsValidPart m = IsValid m.1

valid_row : (n : _) (row : Row_of-Field n) → FieldsValid row → All IsValidPart (row_list n row)
valid_row n end_of-Field h = All-nil IsValidPart
valid_row n (more_of-Field key x more) h = All-cons IsValidPart (key, x) _ h.0 (valid_row _ more h.1)

abbrev pub IsLowerPart : ℕ → Member → Type 0
IsLowerPart n m = levels m.1 < n

lower_row : (b n : _) (row : Row_of-Field n) → greatest_field row < b → All (IsLowerPart b) (row_list n row)
lower_row b n end_of-Field h = All-nil (IsLowerPart b)
lower_row b n (more_of-Field key x more) h = All-cons (IsLowerPart b) (key, x) _ (omega (arith, h)) (lower_row b _ more (omega (arith, h)))

-- what is known of the members of a valid mapping
pub record AreMembers (x : Shape) : Type 0 where
  pub rise : KeysRise (members_in x)
  pub valid : All (λ m. IsValid m.1) (members_in x)
  pub lower : All (λ m. levels m.1 < levels x) (members_in x)
  pub frozen : IsMarked x → All (λ m. IsFrozen m.1) (members_in x)

pub members-known : (x : Shape) → IsOfKind Mappings x → IsValid x → AreMembers x
members-known x kind valid = each-mapping (λ y. IsValid y → AreMembers y) of_mapping x kind valid
  where
    of_mapping : (mark : Bool) (s : _) (row : _) → IsValid (Mapping' mark s row) → AreMembers (Mapping' mark s row)
    of_mapping mark s row h = record {
      rise = h.1;
      valid = valid_row _ row h.3;
      lower = lower_row (greatest_field row + 1) _ row (omega arith);
      frozen = λ m. h.2 m;
    }

-- ---- which mappings are in an atom

module _ (env : List AtomDef) where
  -- a member at each key that the atom requires, and each member as it asks
  pub record FitsAtom (members : List Member) (a : ℕ) : Type 0 where
    pub required : HasRequired (fields_of env a) members
    pub each : All (λ m. Meets env (member_of env m.0 a) m.1) members

  module _ (small : length env ≤ the_mark) where
    typed : (x : Shape) (o : Option Ty) → IsSomeAnd o (λ t. In env x t.sem) ↔ Meets env (type_asked env o) x
    typed x None = (λ h. absurd h, λ h. absurd (Meets-nothing env x h))
    typed x (Some t) = In-condition env small x t.sem

    module _ (fields : List FieldDef) (rest : Option Ty) where
      abbrev MeetsType : Member → Type 0
      MeetsType m = Meets env (type_asked env (key_type fields rest m.0)) m.1

      of_row : (n : _) (row : Row_of-Field n) → MembersIn env row fields rest → All MeetsType (row_list n row)
      of_row n end_of-Field h = All-nil MeetsType
      of_row n (more_of-Field key x more) h = All-cons MeetsType (key, x) _ ((typed x (key_type fields rest key)).0 h.0) (of_row _ more h.1)

      to_row : (n : _) (row : Row_of-Field n) → All MeetsType (row_list n row) → MembersIn env row fields rest
      to_row n end_of-Field h = tt
      to_row n (more_of-Field key x more) h = ((typed x (key_type fields rest key)).1 (All-head MeetsType (key, x) _ h), to_row _ more (All-tail MeetsType (key, x) _ h))

    abbrev FitsBy : List Member → Option AtomDef → Type 0
    FitsBy ms o = HasRequired (fields_in (option_and_then mapping_parts o)) ms × All (λ m. Meets env (asked (λ d. type_asked env (key_type d.0 d.1 m.0)) (option_and_then mapping_parts o)) m.1) ms

    fits_by : (x : Shape) → IsOfKind Mappings x → (o : Option AtomDef) → is_def_of Mappings o ≡ true → IsSomeAnd o (Fits env x) ↔ FitsBy (members_in x) o
    fits_by x kind = each-mapping (λ y. (o : Option AtomDef) → is_def_of Mappings o ≡ true → IsSomeAnd o (Fits env y) ↔ FitsBy (members_in y) o) of_mapping x kind
      where
        of_mapping : (mark : Bool) (s : _) (row : _) (o : Option AtomDef) → is_def_of Mappings o ≡ true → IsSomeAnd o (Fits env (Mapping' mark s row)) ↔ FitsBy (row_list _ row) o
        of_mapping mark s row None h = absurd (false≢true h)
        of_mapping mark s row (Some (MappingAtom fields rest)) h = (λ f. (f.0, of_row fields rest _ row f.1), λ f. (f.0, to_row fields rest _ row f.1))
        of_mapping mark s row (Some (ListAtom fixed rest)) h = absurd (false≢true h)
        of_mapping mark s row (Some (Arrow args outcome alone)) h = absurd (false≢true h)
        of_mapping mark s row (Some (ErrorAtom detail)) h = absurd (false≢true h)
        of_mapping mark s row (Some (FutureAtom t)) h = absurd (false≢true h)

    pub In-members : (x : Shape) → IsOfKind Mappings x → (a : ℕ) → IsAtomOf env Mappings a → In env x (Atom a) ↔ FitsAtom (members_in x) a
    In-members x kind a def =
        let e = fits_by x kind (slice_get env a) def in
        (λ h. let f = e.0 h in record { required = f.0; each = f.1 }, λ f. e.1 (f.required, f.each))

  -- ---- keys that the atom requires

  pub required-key : (ms : List Member) (a : ℕ) → HasRequired (fields_of env a) ms → (key : Text) → Requires env key a → HasKey ms key
  required-key ms a h key r =
      let n = Any-is (IsNeeded key) (fields_of env a) ((Requires-fields env key a).0 r) in
      ⊎_elim
      (λ (o : IsTrue n.0.optional). absurd (false≢true (sym n.2.1 ∙ o)))
      (λ (k : HasKey ms n.0.name). subst (HasKey ms) n.2.0 k)
      (All-contains (λ f. IsTrue f.optional ⊎ HasKey ms f.name) (fields_of env a) n.0 h n.1)

  -- a field that isn't optional is of a key that the atom requires
  pub needed-Requires : (a : ℕ) (f : FieldDef) (k : ℕ) → slice_get (fields_of env a) k ≡ Some f → f.optional ≡ false → Requires env f.name a
  needed-Requires a f k is free = (Requires-fields env f.name a).1 (Any-of (IsNeeded f.name) (fields_of env a) f (at-Contains (fields_of env a) k f is) (refl, free))

  pub has-required : (ms : List Member) (a : ℕ) → ((key : Text) → Requires env key a → HasKey ms key) → HasRequired (fields_of env a) ms
  has-required ms a h = All-from_slice_get (λ f. IsTrue f.optional ⊎ HasKey ms f.name) (fields_of env a) (λ k f is. by f.optional refl (λ free. h f.name (needed-Requires a f k is free)))
    where
      by : {A : Type 0} (b : Bool) {c : Bool} → c ≡ b → (c ≡ false → A) → IsTrue c ⊎ A
      by true e g = inl e
      by false e g = inr (g e)
