-- Atoms of mappings with such types at their keys.
use Rattle.std.proofs.Common.{◌≡◌, ◌≢◌, ◌<◌, ◌↔◌, ◌⊎◌, ◌∙◌, ℕ, zero, suc, Bool, true, false, List, [], ◌∷◌, Option, Some, None, All, IsSomeAnd, IsTrue, if◌then◌else◌, inl, inr, ap, arith, get_or, length, refl, subst, sym}
use Rattle.std.specs.Prelude.{AllPairs}
use Rattle.std.specs.List.{AllZip}
use Rattle.std.proofs.lemmas.Bool.{false≢true}
use Rattle.std.proofs.lemmas.List.Elements.{All-cons, All-head, All-nil, All-tail}
use Rattle.std.specs.Cmp.Lexicographic.{bytes_decides}
use Rattle.bal_base.specs.declared.shape.Shape.{Shape, Nil, Bool as BoolShape, Int, Str, List', Mapping', Error', Function, Future', Row_of-Fields-items-2 as Row_of-Field, end_of-Fields-items-2 as end_of-Field, more_of-Fields-items-2 as more_of-Field, items-the_row-Fields-items-2 as fields_in}
use Rattle.bal_base.specs.declared.text.Text.{Text}
use Rattle.type_model.specs.declared.atoms.AtomDef.{AtomDef}
use Rattle.type_model.specs.declared.atoms.AtomDef.TheVariants.{Mapping as MappingAtom}
use Rattle.type_model.specs.declared.atoms.FieldDef.{FieldDef}
use Rattle.type_model.specs.declared.basic.Choice.{Choice}
use Rattle.type_model.specs.declared.basic.Ty.{Ty}
use Rattle.type_model.specs.Defined.{ChoicesBelow, DefBelow, TyBelow}
use Rattle.type_model.specs.Membership.{Fits, In, MembersIn}
use Rattle.type_model.specs.Places.{HasDistinctFields, HasKey, HasRequired, is_same_text, key_type}
use Rattle.pair_questions.proofs.KeyTexts.{IsApart}
use Rattle.detail_questions.specs.inner.Cells.{IsFieldAt, IsTable, IsTyBy}
use Rattle.detail_questions.proofs.Named.{AreDistinct}

ty-below : (P : List AtomDef → Shape → Type 0) (N : ℕ → Type 0) (n : ℕ) (t : Ty) → N n → IsTyBy P N t → TyBelow n t
ty-below P N n t h by = (
  by.0.1 n h,
  subst (λ (cs : List Choice). ChoicesBelow n cs) (sym by.1) (All-nil (λ (c : Choice). c.atom < n)),
  subst (λ (cs : List Choice). ChoicesBelow n cs) (sym by.2) (All-nil (λ (c : Choice). c.atom < n)),
)

-- a member has what stands at its key, and a name that may not be lacked is there
abbrev pub HasCell : (List AtomDef → Option Text → Shape → Type 0) → List AtomDef → Text × Shape → Type 0
HasCell P env m = P env (Some m.0) m.1

abbrev pub HasName : (Text → Bool) → List (Text × Shape) → Text → Type 0
HasName lacks members name = IsTrue (lacks name) ⊎ HasKey members name

-- a mapping of these members
abbrev pub IsMappingOf : Shape → List (Text × Shape) → Type 0
IsMappingOf (Mapping' mark _ row) members = fields_in _ row ≡ members
IsMappingOf Nil members = ⊥
IsMappingOf (BoolShape b) members = ⊥
IsMappingOf (Int i) members = ⊥
IsMappingOf (Str t) members = ⊥
IsMappingOf (List' mark _ items) members = ⊥
IsMappingOf (Error' _ detail) members = ⊥
IsMappingOf (Function isolated graph) members = ⊥
IsMappingOf (Future' _ results) members = ⊥

module _ (P : List AtomDef → Option Text → Shape → Type 0) (N : ℕ → Type 0) (lacks : Text → Bool) where
  abbrev Zipped : List Text → List FieldDef → Type 0
  Zipped names fields = AllZip (IsFieldAt P N lacks) names fields

  -- ---- its atoms are there, and names are distinct

  each-below : (n : ℕ) → N n → (names : List Text) (fields : List FieldDef) → Zipped names fields → All (λ (f : FieldDef). TyBelow n f.ty) fields
  each-below n h [] [] z = All-nil (λ (f : FieldDef). TyBelow n f.ty)
  each-below n h [] (f ∷ fs) z = absurd z
  each-below n h (t ∷ ts) [] z = absurd z
  each-below n h (t ∷ ts) (f ∷ fs) z = All-cons (λ (g : FieldDef). TyBelow n g.ty) f fs (ty-below (λ env. P env (Some t)) N n f.ty h z.0.0) (each-below n h ts fs z.1)

  pub table-below : (n : ℕ) → N n → (names : List Text) (def : AtomDef) → IsTable P N lacks names def → DefBelow n def
  table-below n h names def (fields, rest, zipped, of_rest, is) = subst (DefBelow n) (sym is) (each-below n h names fields zipped, ty-below (λ env. P env None) N n rest h of_rest)

  name-of : (names : List Text) (fields : List FieldDef) → Zipped names fields → (i : ℕ) (d : FieldDef) (e : Text) → i < length fields → get_or names i e ≡ (get_or fields i d).name
  name-of [] [] z i d e lt = absurd (omega (arith, lt))
  name-of [] (f ∷ fs) z i d e lt = absurd z
  name-of (t ∷ ts) [] z i d e lt = absurd z
  name-of (t ∷ ts) (f ∷ fs) z zero d e lt = sym z.0.1
  name-of (t ∷ ts) (f ∷ fs) z (suc i) d e lt = name-of ts fs z.1 i d e (omega (arith, lt))

  same-long : (names : List Text) (fields : List FieldDef) → Zipped names fields → length names ≡ length fields
  same-long [] [] z = refl
  same-long [] (f ∷ fs) z = absurd z
  same-long (t ∷ ts) [] z = absurd z
  same-long (t ∷ ts) (f ∷ fs) z = ap suc (same-long ts fs z.1)

  pub table-distinct : (names : List Text) (def : AtomDef) → AreDistinct names → IsTable P N lacks names def → HasDistinctFields def
  table-distinct names def distinct (fields, rest, zipped, of_rest, is) = subst HasDistinctFields (sym is) pairs
    where
      pairs : AllPairs (λ (f g : FieldDef). f.name ≢ g.name) fields
      pairs i j d lt within same =
          let long = same-long names fields zipped in
          let one = name-of names fields zipped i d d.name (omega (arith, lt, within)) in
          let two = name-of names fields zipped j d d.name within in
          distinct i j d.name lt (omega (arith, within, long)) (one ∙ same ∙ sym two)

  -- ---- what stands at keys

  abbrev IsAt : Text → Ty → Type 0
  IsAt key t = IsTyBy (λ env. P env (Some key)) N t

  abbrev There : Ty → Text → List Text → List FieldDef → Type 0
  There rest key names fields = ((t : Ty) × IsAt key t × (key_type fields (Some rest) key ≡ Some t)) ⊎ (IsApart key names × (key_type fields (Some rest) key ≡ Some rest))

  at-key : (rest : Ty) (key : Text) (names : List Text) (fields : List FieldDef) → Zipped names fields → There rest key names fields
  at-key rest key [] [] z = inr (All-nil (λ s. s ≢ key), refl)
  at-key rest key [] (f ∷ fs) z = absurd z
  at-key rest key (t ∷ ts) [] z = absurd z
  at-key rest key (t ∷ ts) (f ∷ fs) z = by (is_same_text f.name key) refl (bytes_decides f.name key) (at-key rest key ts fs z.1)
    where
      later : is_same_text f.name key ≡ false → key_type (f ∷ fs) (Some rest) key ≡ key_type fs (Some rest) key
      later e = ap (λ (b : Bool). if b then Some f.ty else key_type fs (Some rest) key) e

      by : (b : Bool) → is_same_text f.name key ≡ b → ((is_same_text f.name key ≡ true → f.name ≡ key) × (f.name ≡ key → is_same_text f.name key ≡ true)) → There rest key ts fs → There rest key (t ∷ ts) (f ∷ fs)
      by true e d more =
          let named : t ≡ key = sym z.0.1 ∙ d.0 e in
          inl (f.ty, subst (λ (k : Text). IsAt k f.ty) named z.0.0, ap (λ (b : Bool). if b then Some f.ty else key_type fs (Some rest) key) e)
      by false e d (inl (u, own, is)) = inl (u, own, later e ∙ is)
      by false e d (inr (apart, is)) = inr (All-cons (λ s. s ≢ key) t ts (λ same. false≢true (sym e ∙ d.1 (z.0.1 ∙ same))) apart, later e ∙ is)

  -- keys that aren't named are all alike
  module _ (env : List AtomDef) (names : List Text) (alike : (key : Text) → IsApart key names → (x : Shape) → P env None x ↔ P env (Some key) x) where
    cell-at : (rest : Ty) (fields : List FieldDef) → Zipped names fields → IsTyBy (λ e. P e None) N rest → (key : Text) (x : Shape) → IsSomeAnd (key_type fields (Some rest) key) (λ t. In env x t.sem) ↔ P env (Some key) x
    cell-at rest fields zipped of_rest key x = by (at-key rest key names fields zipped)
      where
        by : There rest key names fields → IsSomeAnd (key_type fields (Some rest) key) (λ t. In env x t.sem) ↔ P env (Some key) x
        by (inl (t, own, is)) = subst (λ (o : Option Ty). IsSomeAnd o (λ u. In env x u.sem) ↔ P env (Some key) x) (sym is) (own.0.0 env x)
        by (inr (apart, is)) =
            let own = of_rest.0.0 env x in
            let other = alike key apart x in
            subst (λ (o : Option Ty). IsSomeAnd o (λ u. In env x u.sem) ↔ P env (Some key) x) (sym is) ((λ i. other.0 (own.0 i)), (λ h. own.1 (other.1 h)))

    each-in : (rest : Ty) (fields : List FieldDef) → Zipped names fields → IsTyBy (λ e. P e None) N rest → (n : _) (row : Row_of-Field n) → MembersIn env row fields (Some rest) → All (HasCell P env) (fields_in n row)
    each-in rest fields zipped of_rest n end_of-Field h = All-nil (HasCell P env)
    each-in rest fields zipped of_rest n (more_of-Field key x more) h = All-cons (HasCell P env) (key, x) _ ((cell-at rest fields zipped of_rest key x).0 h.0) (each-in rest fields zipped of_rest _ more h.1)

    all-in : (rest : Ty) (fields : List FieldDef) → Zipped names fields → IsTyBy (λ e. P e None) N rest → (n : _) (row : Row_of-Field n) → All (HasCell P env) (fields_in n row) → MembersIn env row fields (Some rest)
    all-in rest fields zipped of_rest n end_of-Field h = tt
    all-in rest fields zipped of_rest n (more_of-Field key x more) h = ((cell-at rest fields zipped of_rest key x).1 (All-head (HasCell P env) (key, x) _ h), all-in rest fields zipped of_rest _ more (All-tail (HasCell P env) (key, x) _ h))

    -- ---- which have to be there

    abbrev HasField : List (Text × Shape) → FieldDef → Type 0
    HasField members f = IsTrue f.optional ⊎ HasKey members f.name

    name-there : (members : List (Text × Shape)) (t : Text) (f : FieldDef) → IsFieldAt P N lacks t f → HasField members f → HasName lacks members t
    name-there members t f is (inl e) = inl (sym is.2 ∙ e)
    name-there members t f is (inr h) = inr (subst (HasKey members) is.1 h)

    field-there : (members : List (Text × Shape)) (t : Text) (f : FieldDef) → IsFieldAt P N lacks t f → HasName lacks members t → HasField members f
    field-there members t f is (inl e) = inl (is.2 ∙ e)
    field-there members t f is (inr h) = inr (subst (HasKey members) (sym is.1) h)

    names-there : (members : List (Text × Shape)) (ts : List Text) (fs : List FieldDef) → Zipped ts fs → HasRequired fs members → All (HasName lacks members) ts
    names-there members [] [] z h = All-nil (HasName lacks members)
    names-there members [] (f ∷ fs) z h = absurd z
    names-there members (t ∷ ts) [] z h = absurd z
    names-there members (t ∷ ts) (f ∷ fs) z h =
        All-cons (HasName lacks members) t ts (name-there members t f z.0 (All-head (HasField members) f fs h)) (names-there members ts fs z.1 (All-tail (HasField members) f fs h))

    fields-there : (members : List (Text × Shape)) (ts : List Text) (fs : List FieldDef) → Zipped ts fs → All (HasName lacks members) ts → HasRequired fs members
    fields-there members [] [] z h = All-nil (HasField members)
    fields-there members [] (f ∷ fs) z h = absurd z
    fields-there members (t ∷ ts) [] z h = absurd z
    fields-there members (t ∷ ts) (f ∷ fs) z h =
        All-cons (HasField members) f fs (field-there members t f z.0 (All-head (HasName lacks members) t ts h)) (fields-there members ts fs z.1 (All-tail (HasName lacks members) t ts h))

    -- ---- the mappings of the atom

    abbrev FitsBy : List (Text × Shape) → Type 0
    FitsBy members = All (HasName lacks members) names × All (HasCell P env) members

    by-members : (F : Type 0) (own members : List (Text × Shape)) → own ≡ members → F ↔ FitsBy own → F ↔ FitsBy members
    by-members F own members e h = subst (λ (ms : List (Text × Shape)). F ↔ FitsBy ms) e h

    own-fits : (fields : List FieldDef) (rest : Ty) → Zipped names fields → IsTyBy (λ e. P e None) N rest → (x : Shape) (members : List (Text × Shape)) → IsMappingOf x members → Fits env x (MappingAtom fields (Some rest)) ↔ FitsBy members
    own-fits fields rest zipped of_rest (Mapping' mark _ row) members e =
        by-members _ (fields_in _ row) members e (
          (λ h. (names-there (fields_in _ row) names fields zipped h.0, each-in rest fields zipped of_rest _ row h.1)),
          (λ h. (fields-there (fields_in _ row) names fields zipped h.0, all-in rest fields zipped of_rest _ row h.1)),
        )
    own-fits fields rest zipped of_rest x members e = absurd e

    pub table-fits : (def : AtomDef) → IsTable P N lacks names def → (x : Shape) (members : List (Text × Shape)) → IsMappingOf x members → Fits env x def ↔ FitsBy members
    table-fits def (fields, rest, zipped, of_rest, is) x members e = subst (λ (d : AtomDef). Fits env x d ↔ FitsBy members) (sym is) (own-fits fields rest zipped of_rest x members e)
