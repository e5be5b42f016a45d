-- Members of mappings: values at the keys that their keys may be, and fields that are required.
use Rattle.std.proofs.Common.{◌≡◌, inl, inr, ⊎_elim, ℕ, suc, Bool, true, false, List, [], ◌∷◌, length, map, All, Option, Some, None, arith, refl, sym, subst}
use Rattle.std.specs.Prelude.{◌⊎◌, ◌&&◌, Any, IsSomeAnd, IsTrue, if◌then◌else◌, slice_get, unwrap_or}
use Rattle.std.specs.List.{AllZip}
use Rattle.std.proofs.lemmas.List.Elements.{All-cons, All-get_or, All-head, All-nil, All-tail}
use Rattle.std.proofs.lemmas.Option.{get_or_from_slice_get, slice_get_within}
use Rattle.bal_base.specs.declared.shape.Shape.{Shape, Str}
use Rattle.bal_base.specs.declared.text.Text.{Text}
use Rattle.bal_base.specs.Valid.{IsValid}
use Rattle.descriptors.specs.Described.{plain}
use Rattle.operations.specs.Kinds.{IsString}
use Rattle.operations.specs.Rows.{IsSingle, IsWithin}
use Rattle.operations.specs.Structures.{MemberFits, NamesRequired}
use Rattle.type_model.specs.declared.atoms.AtomDef.{AtomDef}
use Rattle.type_model.specs.declared.atoms.FieldDef.{FieldDef}
use Rattle.type_model.specs.declared.basic.BasicSet.TheVariants.{Never}
use Rattle.type_model.specs.declared.basic.SemType.{SemType, Basic}
use Rattle.type_model.specs.declared.basic.Ty.{Ty}
use Rattle.type_model.specs.Calls.{KeepsTypes}
use Rattle.type_model.specs.Defined.{TyBelow}
use Rattle.type_model.specs.Inclusion.{IsShapeOf, Sub}
use Rattle.type_model.specs.Membership.{In}
use Rattle.type_model.specs.Places.{is_same_text, key_type}
use Rattle.typed_tree.specs.declared.expr.TypedExpr.{TypedExpr}
use Rattle.expr_needs.specs.Needs.{MemberSeen}
use Rattle.check_words.specs.Constructors.{RequiredAreThere, all_known, fields_with}
use Rattle.tree_promises.specs.Made.{sem}
use Rattle.typed_calls.specs.Errors.{AreDistinct, Differ, Pair}
use Rattle.typed_calls.specs.Mappings.{IsKeyPart, IsNewKey, type_at}
use Rattle.typed_calls.proofs.Errors.{any-cases, none-so, same-text, sems, text-same}

-- ---- lists and keys

pub all-there : {A : Type 0} (P : A → Type 0) (xs : List A) (i : ℕ) (x : A) → All P xs → slice_get xs i ≡ Some x → P x
all-there P xs i x all e = subst P (get_or_from_slice_get xs i x x e) (All-get_or P xs i x (slice_get_within xs i x e) all)

both-true : (a b : Bool) → (a && b) ≡ true → (a ≡ true) × (b ≡ true)
both-true true b e = (refl, e)
both-true false b e = absurd (let bad : ⊥ = cc in bad)

no-truth : {A : Type 0} → false ≡ true → A
no-truth e = absurd (let bad : ⊥ = cc in bad)

-- a new key differs from those before
pub new-differs : (key : Option Text) (keys : List (Option Text)) → IsNewKey key keys → All (λ k. Differ k key) keys
new-differs (Some text) keys new = none-so text keys new
new-differs None [] new = All-nil _
new-differs None (k ∷ keys) new = All-cons (λ j. Differ j None) k keys (none k) (new-differs None keys new)
  where
    none : (k : Option Text) → Differ k None
    none (Some text) = tt
    none None = tt

module _ (env : List AtomDef) where
  abbrev AreKeys : List (Option Text) → List Pair → Type 0
  AreKeys keys pairs = AllZip (λ key p. IsKeyPart env key p.0) keys pairs

  abbrev AreBelowTypes : List Pair → List Ty → Type 0
  AreBelowTypes pairs types = AllZip (λ p t. Sub env (sem p.1) t.sem) pairs types

  -- ---- keys are strings

  key-text : (key : Option Text) (k : TypedExpr) → IsKeyPart env key k → IsWithin env IsString (sem k)
  key-text (Some text) k single x i = subst IsString (sym ((single x i.0).0 i.1)) tt
  key-text None k string x i = string x i

  pub keys-text : (keys : List (Option Text)) (pairs : List Pair) → AreKeys keys pairs → All (λ (m : SemType × SemType). IsWithin env IsString m.0) (map (sems env) pairs)
  keys-text [] [] h = All-nil _
  keys-text (key ∷ keys) (p ∷ pairs) h = All-cons (λ (m : SemType × SemType). IsWithin env IsString m.0) (sems env p) (map (sems env) pairs) (key-text key p.0 h.0) (keys-text keys pairs h.1)
  keys-text [] (p ∷ pairs) h = absurd h
  keys-text (key ∷ keys) [] h = absurd h

  -- ---- the types of keys

  or-never : (o : Option Ty) (s : SemType) (x : Shape) → IsShapeOf env s x → ((y : Shape) → IsShapeOf env s y → In env y (unwrap_or o (plain (Basic Never))).sem) → IsSomeAnd o (λ t. In env x t.sem)
  or-never (Some t) s x i within = within x i
  or-never None s x i within = absurd (within x i)

  -- where the key is this text alone, the value has to be of its type
  pub known-fits : (fields : List FieldDef) (rest : Option Ty) (text : Text) (k s : SemType) → IsSingle env k (Str text)
      → ((x : Shape) → IsShapeOf env s x → In env x (type_at fields rest (Some text)).sem) → MemberFits env fields rest (k, s)
  known-fits fields rest text k s single within key shape x i =
      let is : Str key ≡ Str text = (single (Str key) shape.0).0 shape.1 in
      let same : key ≡ text = cc in
      subst (λ (t : Text). IsSomeAnd (key_type fields rest t) (λ u. In env x u.sem)) (sym same) (or-never (key_type fields rest text) s x i within)

  -- a value is of the type of a key where it is of that of each field with this name, and of the rest's
  at-key : (fields : List FieldDef) (rest : Option Ty) (key : Text) (s : SemType) (x : Shape) → IsShapeOf env s x → All (λ (f : FieldDef). f.name ≡ key → Sub env s f.ty.sem) fields
      → ((y : Shape) → IsShapeOf env s y → In env y (type_at [] rest None).sem) → IsSomeAnd (key_type fields rest key) (λ t. In env x t.sem)
  at-key [] rest key s x i each others = or-never rest s x i others
  at-key (f ∷ fields) rest key s x i each others =
      by (is_same_text f.name key) refl (at-key fields rest key s x i (All-tail (λ (g : FieldDef). g.name ≡ key → Sub env s g.ty.sem) f fields each) others)
    where
      by : (b : Bool) → is_same_text f.name key ≡ b → IsSomeAnd (key_type fields rest key) (λ t. In env x t.sem)
          → IsSomeAnd (if b then Some f.ty else key_type fields rest key) (λ t. In env x t.sem)
      by true is more = All-head (λ (g : FieldDef). g.name ≡ key → Sub env s g.ty.sem) f fields each (same-text f.name key is) x i.0 i.1
      by false is more = more

  abbrev pub FitsNamed : SemType → SemType → List FieldDef → Type 0
  FitsNamed k s fields = All (λ (f : FieldDef). IsShapeOf env k (Str f.name) → Sub env s f.ty.sem) fields

  pub computed-fits : (fields : List FieldDef) (rest : Option Ty) (k s : SemType) → FitsNamed k s fields
      → ((x : Shape) → IsShapeOf env s x → In env x (type_at fields rest None).sem) → MemberFits env fields rest (k, s)
  computed-fits fields rest k s named within key shape x i = at-key fields rest key s x i (by fields named) within
    where
      by : (fs : List FieldDef) → FitsNamed k s fs → All (λ (f : FieldDef). f.name ≡ key → Sub env s f.ty.sem) fs
      by [] h = All-nil _
      by (f ∷ fs) h =
          All-cons (λ (g : FieldDef). g.name ≡ key → Sub env s g.ty.sem) f fs
          (λ is. All-head (λ (g : FieldDef). IsShapeOf env k (Str g.name) → Sub env s g.ty.sem) f fs h (subst (λ (t : Text). IsShapeOf env k (Str t)) (sym is) shape))
          (by fs (All-tail (λ (g : FieldDef). IsShapeOf env k (Str g.name) → Sub env s g.ty.sem) f fs h))

  -- ---- a closed record of the members

  abbrev field_of : Text → Ty → FieldDef
  field_of k t = record { name = k; ty = t; optional = false }

  -- a field more, in front, whose name no key may be
  other-field : (k : Text) (t : Ty) (fields : List FieldDef) (keys : List (Option Text)) (pairs : List Pair) → AreKeys keys pairs → All (Differ (Some k)) keys
      → all_known keys ≡ true → All (MemberFits env fields None) (map (sems env) pairs) → All (MemberFits env (field_of k t ∷ fields) None) (map (sems env) pairs)
  other-field k t fields [] [] zip differ known all = All-nil _
  other-field k t fields (Some j ∷ keys) (p ∷ pairs) zip differ known all =
      All-cons (MemberFits env (field_of k t ∷ fields) None) (sems env p) (map (sems env) pairs) behind
      (other-field k t fields keys pairs zip.1 (All-tail (Differ (Some k)) (Some j) keys differ) known (All-tail (MemberFits env fields None) (sems env p) (map (sems env) pairs) all))
    where
      behind : MemberFits env (field_of k t ∷ fields) None (sems env p)
      behind key shape x i = by (is_same_text k key) refl
        where
          by : (b : Bool) → is_same_text k key ≡ b → IsSomeAnd (if b then Some t else key_type fields None key) (λ u. In env x u.sem)
          by true is =
              let one : Str key ≡ Str j = (zip.0 (Str key) shape.0).0 shape.1 in
              let same : k ≡ key = same-text k key is in
              absurd (All-head (Differ (Some k)) (Some j) keys differ (let names : k ≡ j = cc in names))
          by false is = All-head (MemberFits env fields None) (sems env p) (map (sems env) pairs) all key shape x i
  other-field k t fields (None ∷ keys) (p ∷ pairs) zip differ known all = no-truth known
  other-field k t fields [] (p ∷ pairs) zip differ known all = absurd zip
  other-field k t fields (j ∷ keys) [] zip differ known all = absurd zip

  pub closed-fits : (keys : List (Option Text)) (types : List Ty) (pairs : List Pair) → AreKeys keys pairs → AreBelowTypes pairs types → AreDistinct keys → all_known keys ≡ true
      → All (MemberFits env (fields_with keys types) None) (map (sems env) pairs)
  closed-fits (Some k ∷ keys) (t ∷ types) (p ∷ pairs) zip below distinct known =
      All-cons (MemberFits env (field_of k t ∷ fields_with keys types) None) (sems env p) (map (sems env) pairs) here
      (other-field k t (fields_with keys types) keys pairs zip.1 distinct.0 known (closed-fits keys types pairs zip.1 below.1 distinct.1 known))
    where
      here : MemberFits env (field_of k t ∷ fields_with keys types) None (sems env p)
      here key shape x i =
          let one : Str key ≡ Str k = (zip.0 (Str key) shape.0).0 shape.1 in
          let same : k ≡ key = cc in
          subst (λ (b : Bool). IsSomeAnd (if b then Some t else key_type (fields_with keys types) None key) (λ u. In env x u.sem)) (sym (text-same k key same)) (below.0 x i.0 i.1)
  closed-fits [] types [] zip below distinct known = All-nil _
  closed-fits (None ∷ keys) types (p ∷ pairs) zip below distinct known = no-truth known
  closed-fits [] types (p ∷ pairs) zip below distinct known = absurd zip
  closed-fits (key ∷ keys) types [] zip below distinct known = absurd zip
  closed-fits (Some k ∷ keys) [] (p ∷ pairs) zip below distinct known = absurd below

  abbrev IsNamed : Text → SemType × SemType → Type 0
  IsNamed name m = IsSingle env m.0 (Str name)

  any-later : {A : Type 0} (P : A → Type 0) (x : A) (xs : List A) → Any P xs → Any P (x ∷ xs)
  any-later P x xs a = let below = a.2 in (suc a.0, a.1, omega (arith, below), a.3, a.4)

  closed-required : (keys : List (Option Text)) (types : List Ty) (pairs : List Pair) (all : List (SemType × SemType)) → AreKeys keys pairs
      → ((name : Text) → Any (IsNamed name) (map (sems env) pairs) → Any (IsNamed name) all) → NamesRequired env (fields_with keys types) all
  closed-required (Some k ∷ keys) (t ∷ types) (p ∷ pairs) all zip into =
      All-cons (λ (f : FieldDef). IsTrue f.optional ⊎ Any (IsNamed f.name) all) (field_of k t) (fields_with keys types) (inr (into k (0, sems env p, omega arith, refl, zip.0)))
      (closed-required keys types pairs all zip.1 (λ name a. into name (any-later (IsNamed name) (sems env p) (map (sems env) pairs) a)))
  closed-required (None ∷ keys) (t ∷ types) (p ∷ pairs) all zip into =
      closed-required keys types pairs all zip.1 (λ name a. into name (any-later (IsNamed name) (sems env p) (map (sems env) pairs) a))
  closed-required [] types pairs all zip into = All-nil _
  closed-required (key ∷ keys) [] pairs all zip into = All-nil _
  closed-required (key ∷ keys) (t ∷ types) [] all zip into = absurd zip

  pub closed-names : (keys : List (Option Text)) (types : List Ty) (pairs : List Pair) → AreKeys keys pairs → NamesRequired env (fields_with keys types) (map (sems env) pairs)
  closed-names keys types pairs zip = closed-required keys types pairs (map (sems env) pairs) zip (λ name a. a)

  -- ---- a map of the union of the types

  pub map-fits : (old : List AtomDef) (u : Ty) (pairs : List Pair) (types : List Ty) → KeepsTypes old env → AreBelowTypes pairs types → All (TyBelow (length old)) types
      → ((x : Shape) → IsValid x → Any (λ (t : Ty). In old x t.sem) types → In env x u.sem) → All (MemberFits env [] (Some u)) (map (sems env) pairs)
  map-fits old u [] [] keeps below defined each = All-nil _
  map-fits old u (p ∷ pairs) (t ∷ types) keeps below defined each =
      All-cons (MemberFits env [] (Some u)) (sems env p) (map (sems env) pairs)
      (λ key shape x i. each x i.0 (0, t, omega arith, refl, (keeps.shapes t.sem (All-head (TyBelow (length old)) t types defined).0 x).1 (below.0 x i.0 i.1)))
      (map-fits old u pairs types keeps below.1 (All-tail (TyBelow (length old)) t types defined) (λ x valid a. each x valid (any-later (λ (v : Ty). In old x v.sem) t types a)))
  map-fits old u (p ∷ pairs) [] keeps below defined each = absurd below
  map-fits old u [] (t ∷ types) keeps below defined each = absurd below

  -- ---- what was chosen

  any-named : (name : Text) (members : List MemberSeen) (pairs : List Pair) → AreKeys (map (λ m. m.key) members) pairs → Any (λ (m : MemberSeen). m.key ≡ Some name) members
      → Any (IsNamed name) (map (sems env) pairs)
  any-named name (m ∷ members) (p ∷ pairs) zip a =
      ⊎_elim (λ here. (0, sems env p, omega arith, refl, subst (λ (k : Option Text). IsKeyPart env k p.0) here zip.0))
      (λ later. any-later (IsNamed name) (sems env p) (map (sems env) pairs) (any-named name members pairs zip.1 later))
      (any-cases env (λ (n : MemberSeen). n.key ≡ Some name) m members a)
  any-named name [] pairs zip a = absurd (let below = a.2 in omega (arith, below))
  any-named name (m ∷ members) [] zip a = absurd zip

  pub chosen-names : (fields : List FieldDef) (members : List MemberSeen) (pairs : List Pair) → AreKeys (map (λ m. m.key) members) pairs → RequiredAreThere fields members
      → NamesRequired env fields (map (sems env) pairs)
  chosen-names [] members pairs zip all = All-nil _
  chosen-names (f ∷ fields) members pairs zip all =
      All-cons (λ (g : FieldDef). IsTrue g.optional ⊎ Any (IsNamed g.name) (map (sems env) pairs)) f fields
      (⊎_elim inl (λ a. inr (any-named f.name members pairs zip a)) (All-head (λ (g : FieldDef). IsTrue g.optional ⊎ Any (λ (m : MemberSeen). m.key ≡ Some g.name) members) f fields all))
      (chosen-names fields members pairs zip (All-tail (λ (g : FieldDef). IsTrue g.optional ⊎ Any (λ (m : MemberSeen). m.key ≡ Some g.name) members) f fields all))
