-- Shapes of mappings, put together of those of their members; and a mapping stands for one in which a member is any shape of its own.
use Rattle.std.proofs.Common.{◌≡◌, ◌<◌, ◌≤◌, ◌^◌, ◌∙◌, ℕ, zero, suc, Bool, true, false, List, [], ◌∷◌, Option, Some, None, inl, inr, length, map, refl, sym, ap, subst, arith}
use Rattle.std.proofs.Math.ListN.{length-map}
use Rattle.std.proofs.lemmas.List.Elements.{All-cons, All-head, All-nil, All-tail}
use Rattle.std.specs.Prelude.{◌⊎◌, All, Contains, IsFalse, IsSomeAnd, IsTrue, if◌then◌else◌, is_some, slice_get, ⊤}
use Rattle.std.specs.List.{AllZip}
use Rattle.std.specs.Ptr.{null_ptr}
use Rattle.bal_base.specs.declared.shape.Shape.{Shape, Nil as NilShape, Bool as BoolShape, Int as IntShape, Str as StrShape, Mapping as AMapping, List', Mapping', Error', Function as FunctionShape, Future', Row_of-Fields-items-2 as Row_of-Field, end_of-Fields-items-2 as end_of-Field, more_of-Fields-items-2 as more_of-Field, items-the_row-Fields-items-2 as fields_in, items_hidden-the_row-Fields-items-2-1}
use Rattle.bal_base.specs.declared.shape.Fields.{Fields as FieldRow}
use Rattle.bal_base.specs.declared.text.Text.{Text}
use Rattle.bal_base.specs.Valid.{FieldsValid, IsFrozen, IsText, IsValid}
use Rattle.bal_base.proofs.Rows.{IsValid-Mapping, fields_of}
use Rattle.bal_base.proofs.SameShapes.{IsFrozen-same, keys_of}
use Rattle.type_model.specs.declared.answers.Keys.TheVariants.{AnyField, Field}
use Rattle.type_model.specs.declared.atoms.AtomDef.{AtomDef}
use Rattle.type_model.specs.declared.atoms.AtomDef.TheVariants.{List as ListAtom, Mapping as MappingAtom, Arrow, Error as ErrorAtom, Future as FutureAtom}
use Rattle.type_model.specs.declared.atoms.FieldDef.{FieldDef}
use Rattle.type_model.specs.declared.basic.SemType.{SemType, Atom}
use Rattle.type_model.specs.declared.basic.Ty.{Ty}
use Rattle.type_model.specs.Elements.{MemberIn}
use Rattle.type_model.specs.Membership.{Fits as ShapeFits, In}
use Rattle.type_model.specs.Parts.{StandsIn}
use Rattle.type_model.specs.Places.{HasKey, HasRequired, is_same_text, key_type}
use Rattle.type_model.proofs.TextOrder.{Sorted-rise, rise-Sorted}
use Rattle.type_model.proofs.Unfolding.{Fits-Mapping}
use Rattle.operations.specs.Kinds.{HasMember as HasKeyIn}
use Rattle.operations.specs.Rows.{IsWithin}
use Rattle.value_model.specs.declared.value.Value.{Value}
use Rattle.value_model.specs.declared.value.Value.TheVariants.{Nil, Bool as Truth, Int, Str, Struct, Error, Function, Future}
use Rattle.value_model.specs.Heap.{Entries, Heap, Items, Members, Structure, entry_at, values_of}
use Rattle.value_model.specs.Stands.{Belongs, BelongsIf, HasShape, HaveFields, IsMapping as IsMappingOf, IsList as IsListOf, IsUnmarked, MembersBelong, Stands, StructureStands}
use Rattle.value_model.specs.Valid.{AreValidMembers, IsValidValue}
use Rattle.value_model.proofs.EntryKeys.{HasEntry, keys-fill, same-text, text-same}
use Rattle.value_model.proofs.OneShape.{fields-entries, one, rise-keys}
use Rattle.op_model.specs.Common.{Common}
use Rattle.machine_model.proofs.Once.{some-same}
use Rattle.stack_code.specs.declared.code.Code.{Code}
use Rattle.stack_code.specs.Tables.{IsInherent}
use Rattle.stack_code.specs.Values.{ComeOnce, Fits, GoodHeap, IsMade, IsWithinAtom, code_types}
use Rattle.stack_code.specs.WellTyped.{WellTyped}
use Rattle.code_keeping.specs.Kinds.{Mappings, members_kind, structure_kind, value_kind}
use Rattle.code_keeping.proofs.Lists.{all-at, at-some, of-some, some-there, some-to}
use Rattle.code_keeping.proofs.Serving.{all-to}
use Rattle.code_keeping.proofs.Shapes.{has-shape}
use Rattle.code_keeping_heap.proofs.Reading.{stands-has}
use Rattle.code_keeping_heap.proofs.Shaping.{IsShown, zip-long}
use Rattle.code_keeping_heap.proofs.Sorting.{Fields, Has, Rises, any-has, has-all, has-any, put, put-all, put-keeps, put-more, put-rises, put-same, put-there, sorted, sorted-all, sorted-has, sorted-long, sorted-rises}

-- ---- a mapping in the heap

pub a-mapping : (h : Heap) (R : Value → Type 0) (v : Value) → value_kind h v ≡ Mappings → ((n : ℕ) (s : Structure) (es : List (Text × Value)) → slice_get h.structures n ≡ Some s → s.members ≡ Entries es → R (Struct n)) → R v
a-mapping h R (Struct n) e k = by (slice_get h.structures n) refl e
  where
    on : (s : Structure) → slice_get h.structures n ≡ Some s → (m : Members) → s.members ≡ m → members_kind m ≡ Mappings → R (Struct n)
    on s es (Entries entries) is em = k n s entries es is
    on s es (Items vs) is em = absurd (let q : ⊥ = cc in q)

    by : (o : Option Structure) → slice_get h.structures n ≡ o → structure_kind o ≡ Mappings → R (Struct n)
    by None eo em = absurd (let q : ⊥ = cc in q)
    by (Some s) eo em = on s eo s.members refl em
a-mapping h R Nil e k = absurd (let q : ⊥ = cc in q)
a-mapping h R (Truth b) e k = absurd (let q : ⊥ = cc in q)
a-mapping h R (Int i) e k = absurd (let q : ⊥ = cc in q)
a-mapping h R (Str s) e k = absurd (let q : ⊥ = cc in q)
a-mapping h R (Error n) e k = absurd (let q : ⊥ = cc in q)
a-mapping h R (Function n) e k = absurd (let q : ⊥ = cc in q)
a-mapping h R (Future n unit) e k = absurd (let q : ⊥ = cc in q)

-- ---- entries

-- what is found at a key is an entry with it
pub entry-all : (P : Text × Value → Type 0) (es : List (Text × Value)) (key : Text) (v : Value) → All P es → entry_at es key ≡ Some v → P (key, v)
entry-all P [] key v h e = absurd (let q : ⊥ = cc in q)
entry-all P (d ∷ es) key v h e = by (is_same_text d.0 key) refl (λ k. entry-all P es key v (All-tail P d es h) k) e
  where
    by : (b : Bool) → is_same_text d.0 key ≡ b → (entry_at es key ≡ Some v → P (key, v)) → (if b then Some d.1 else entry_at es key) ≡ Some v → P (key, v)
    by true same more e = subst (λ k. P (k, v)) (same-text d.0 key same) (subst (λ w. P (d.0, w)) (some-same d.1 v e) (All-head P d es h))
    by false same more e = more e

-- one is found among more
entry-more : (d : Text × Value) (es : List (Text × Value)) (key : Text) → IsSomeAnd (entry_at es key) (λ v. ⊤) → IsSomeAnd (entry_at (d ∷ es) key) (λ v. ⊤)
entry-more d es key h = by (is_same_text d.0 key)
  where
    by : (b : Bool) → IsSomeAnd (if b then Some d.1 else entry_at es key) (λ v. ⊤)
    by true = tt
    by false = h

entry-first : (d : Text × Value) (es : List (Text × Value)) (key : Text) → d.0 ≡ key → IsSomeAnd (entry_at (d ∷ es) key) (λ v. ⊤)
entry-first d es key e = subst (λ b. IsSomeAnd (if b then Some d.1 else entry_at es key) (λ v. ⊤)) (sym (text-same d.0 key e)) tt

-- ---- a mapping with such fields

abbrev pub fields-of : (fs : Fields) → length fs < 2 ^ 63 → FieldRow
fields-of fs small = record { items = record { ptr = null_ptr; len = length fs; cap = length fs; alloc = record { memory = _ }; items = fs; ok = (refl, omega arith); small = small } }

abbrev pub mapping-of : Bool → (fs : Fields) → length fs < 2 ^ 63 → Shape
mapping-of mark fs small = AMapping mark (fields-of fs small)

pub mapping-valid : (mark : Bool) (fs : Fields) (small : length fs < 2 ^ 63) → All (λ f. IsText f.0) fs → Rises fs → (IsTrue mark → All (λ f. IsFrozen f.1) fs) → All (λ f. IsValid f.1) fs → IsValid (mapping-of mark fs small)
mapping-valid mark fs small texts rises frozen valid = (IsValid-Mapping mark (fields-of fs small)).1 (texts, rise-Sorted (λ (f : Text × Shape). f.0) fs rises, frozen, valid)

module _ (h : Heap) where
  -- each field is that of the entry with its key
  abbrev pub IsHeld : List (Text × Value) → Text × Shape → Type 0
  IsHeld es f = IsSomeAnd (entry_at es f.0) (λ v. HasShape h f.1 v)

  fields-have : (n : _) (row : Row_of-Field n) (es : List (Text × Value)) → All (IsHeld es) (fields_in n row) → HaveFields h row es
  fields-have n end_of-Field es all = tt
  fields-have n (more_of-Field key x more) es all = (All-head (IsHeld es) (key, x) _ all, fields-have _ more es (All-tail (IsHeld es) (key, x) _ all))

  pub mapping-stands : (n : ℕ) (s : Structure) (es : List (Text × Value)) (fs : Fields) (small : length fs < 2 ^ 63) → slice_get h.structures n ≡ Some s → IsFalse s.mutable → s.members ≡ Entries es → length es ≡ length fs → All (IsHeld es) fs →
      HasShape h (mapping-of true fs small) (Struct n)
  mapping-stands n s es fs small e frozen is long all =
      let row = fields_of (mapping-of true fs small) in
      let hidden = items_hidden-the_row-Fields-items-2-1 (fields-of fs small).items in
      let Of : List (Text × Value) → Type 0 = λ ds. (length ds ≡ length (fields_in row.0 row.1)) × HaveFields h row.1 ds in (
        refl,
        at-some (λ s. IsFalse s.mutable × IsMappingOf h Of s.members) (slice_get h.structures n) s e
            (frozen, subst (λ m. IsMappingOf h Of m) (sym is) (long ∙ sym (ap length hidden), fields-have row.0 row.1 es (subst (λ ys. All (IsHeld es) ys) (sym hidden) all))),
      )

-- ---- shapes of entries

module _ (code : Code) (c : Common) where
  -- the field has the entry's key, and its value stands for the shape
  abbrev pub IsFieldOf : Text × Value → Text × Shape → Type 0
  IsFieldOf e f = (f.0 ≡ e.0) × IsShown code c e.1 f.1

  pub fields-shown : WellTyped code → GoodHeap code c → (es : List (Text × Value)) → All (λ e. IsMade code c e.1) es → (ps : Fields) × AllZip IsFieldOf es ps
  fields-shown t good [] made = ([], tt)
  fields-shown t good (e ∷ es) made =
      let (x, valid, stands) = has-shape code t c good e.1 (All-head (λ (e : Text × Value). IsMade code c e.1) e es made) in
      let (ps, shown) = fields-shown t good es (All-tail (λ (e : Text × Value). IsMade code c e.1) e es made) in
      ((e.0, x) ∷ ps, ((refl, (valid, stands)), shown))

  -- what an entry says of its field
  pub fields-all : (P : Text × Value → Type 0) (Q : Text × Shape → Type 0) → ((e : Text × Value) (f : Text × Shape) → P e → IsFieldOf e f → Q f) → (es : List (Text × Value)) (ps : Fields) → AllZip IsFieldOf es ps → All P es → All Q ps
  fields-all P Q f [] [] zip all = All-nil Q
  fields-all P Q f [] (p ∷ ps) zip all = absurd zip
  fields-all P Q f (e ∷ es) [] zip all = absurd zip
  fields-all P Q f (e ∷ es) (p ∷ ps) (is, zip) all = All-cons Q p ps (f e p (All-head P e es all) is) (fields-all P Q f es ps zip (All-tail P e es all))

  -- each key of an entry is that of a field, and the other way round
  pub entry-has : (es : List (Text × Value)) (ps : Fields) (key : Text) → AllZip IsFieldOf es ps → IsSomeAnd (entry_at es key) (λ v. ⊤) → Has ps key
  entry-has [] ps key zip h = absurd h
  entry-has (e ∷ es) [] key zip h = absurd zip
  entry-has (e ∷ es) (p ∷ ps) key (is, zip) h = by (is_same_text e.0 key) refl (λ k. entry-has es ps key zip k) h
    where
      by : (b : Bool) → is_same_text e.0 key ≡ b → (IsSomeAnd (entry_at es key) (λ v. ⊤) → Has ps key) → IsSomeAnd (if b then Some e.1 else entry_at es key) (λ v. ⊤) → Has (p ∷ ps) key
      by true same more h = inl (is.0 ∙ same-text e.0 key same)
      by false same more h = inr (more h)

  pub fields-found : (es : List (Text × Value)) (ps : Fields) → AllZip IsFieldOf es ps → All (λ p. IsSomeAnd (entry_at es p.0) (λ v. ⊤)) ps
  fields-found [] [] zip = All-nil _
  fields-found [] (p ∷ ps) zip = absurd zip
  fields-found (e ∷ es) [] zip = absurd zip
  fields-found (e ∷ es) (p ∷ ps) (is, zip) = All-cons (λ (p : Text × Shape). IsSomeAnd (entry_at (e ∷ es) p.0) (λ v. ⊤)) p ps (entry-first e es p.0 (sym is.0)) (all-to (λ (p : Text × Shape). IsSomeAnd (entry_at es p.0) (λ v. ⊤)) _ (λ p h. entry-more e es p.0 h) ps (fields-found es ps zip))

  -- a mapping with these fields is in the atom
  pub mapping-in : (mark : Bool) (fs : Fields) (small : length fs < 2 ^ 63) (fields : List FieldDef) (rest : Option Ty) (a : ℕ) → slice_get code.atoms a ≡ Some (MappingAtom fields rest) → HasRequired fields fs → All (MemberIn code.atoms fields rest) fs →
      In code.atoms (mapping-of mark fs small) (Atom a)
  mapping-in mark fs small fields rest a e required each =
      at-some (ShapeFits code.atoms (mapping-of mark fs small)) (slice_get code.atoms a) (MappingAtom fields rest) e ((Fits-Mapping code.atoms mark (fields-of fs small) (MappingAtom fields rest)).1 (required, each))

-- members of a mapping are those of an atom of mappings
abbrev pub EntriesBelong : (code : Code) (h : Heap) (es : List (Text × Value)) → List FieldDef → Option Ty → Type 0
EntriesBelong code h es fields rest =
    All (λ f. IsTrue f.optional ⊎ IsSomeAnd (entry_at es f.name) (λ _. ⊤)) fields × All (λ e. BelongsIf (code_types code) h e.1 (key_type fields rest e.0)) es

pub mapping-members : (code : Code) (h : Heap) (es : List (Text × Value)) (d : AtomDef) → MembersBelong (code_types code) h (Entries es) d → (fields : List FieldDef) × (rest : Option Ty) × (d ≡ MappingAtom fields rest) × EntriesBelong code h es fields rest
mapping-members code h es (MappingAtom fields rest) b = (fields, rest, refl, b)
mapping-members code h es (ListAtom fixed rest) b = absurd b
mapping-members code h es (Arrow args outcome alone) b = absurd b
mapping-members code h es (ErrorAtom detail) b = absurd b
mapping-members code h es (FutureAtom outcome) b = absurd b

-- ---- the fields of entries, in the order of their keys

module _ (code : Code) (c : Common) (es : List (Text × Value)) (ps : Fields) (zip : AllZip (IsFieldOf code c) es ps) where
  pub sorted-texts : All (λ e. IsText e.0) es → All (λ f. IsText f.0) (sorted ps)
  sorted-texts texts = sorted-all (λ f. IsText f.0) ps (fields-all code c (λ e. IsText e.0) (λ f. IsText f.0) (λ e f k is. subst IsText (sym is.0) k) es ps zip texts)

  pub sorted-valid : All (λ f. IsValid f.1) (sorted ps)
  sorted-valid = sorted-all (λ f. IsValid f.1) ps (fields-all code c (λ e. ⊤) (λ f. IsValid f.1) (λ e f k is. is.1.0) es ps zip (λ k d l. tt))

  pub sorted-short : length es < 2 ^ 63 → length (sorted ps) < 2 ^ 63
  sorted-short short = let l = sorted-long ps in let k : length es ≡ length ps = zip-long (IsFieldOf code c) es ps zip in omega (arith, l, k, short)

  pub sorted-found : All (λ f. IsSomeAnd (entry_at es f.0) (λ v. ⊤)) (sorted ps)
  sorted-found = sorted-all (λ f. IsSomeAnd (entry_at es f.0) (λ v. ⊤)) ps (fields-found code c es ps zip)

  pub sorted-in : (fields : List FieldDef) (rest : Option Ty) → EntriesBelong code c.world.heap es fields rest → HasRequired fields (sorted ps) × All (MemberIn code.atoms fields rest) (sorted ps)
  sorted-in fields rest (required, each) = (
    all-to (λ f. IsTrue f.optional ⊎ IsSomeAnd (entry_at es f.name) (λ _. ⊤)) _ (λ f k. by f k) fields required,
    sorted-all (MemberIn code.atoms fields rest) ps (fields-all code c (λ e. BelongsIf (code_types code) c.world.heap e.1 (key_type fields rest e.0)) (MemberIn code.atoms fields rest) (λ e f b is. member e f b is) es ps zip each),
  )
    where
      by : (f : FieldDef) → IsTrue f.optional ⊎ IsSomeAnd (entry_at es f.name) (λ _. ⊤) → IsTrue f.optional ⊎ HasKey (sorted ps) f.name
      by f (inl o) = inl o
      by f (inr k) = inr (has-any (sorted ps) f.name (sorted-has ps f.name (entry-has code c es ps f.name zip k)))

      member : (e : Text × Value) (f : Text × Shape) → BelongsIf (code_types code) c.world.heap e.1 (key_type fields rest e.0) → IsFieldOf code c e f → MemberIn code.atoms fields rest f
      member e f b (same, is-shown) =
          some-to (λ u. Belongs (code_types code) c.world.heap e.1 u.sem) (λ u. In code.atoms f.1 u.sem) (key_type fields rest f.0) (λ u k. k f.1 is-shown.0 is-shown.1) (subst (λ key. BelongsIf (code_types code) c.world.heap e.1 (key_type fields rest key)) (sym same) b)

-- ---- entries whose keys are apart

none-some : (o : Option Value) → o ≡ None → IsSomeAnd o (λ v. ⊤) → ⊥
none-some None e h = h
none-some (Some v) e h = let q : ⊥ = cc in q

module _ (code : Code) (c : Common) where
  apart-fields : (es : List (Text × Value)) (ps : Fields) → AllZip (IsFieldOf code c) es ps → ComeOnce es → length (sorted ps) ≡ length ps
  apart-fields [] [] zip apart = refl
  apart-fields [] (p ∷ ps) zip apart = absurd zip
  apart-fields (e ∷ es) [] zip apart = absurd zip
  apart-fields (e ∷ es) (p ∷ ps) (is, zip) (none, apart) =
      put-more p.0 p.1 (sorted ps) (λ has. none-some (entry_at es e.0) none (subst (λ k. IsSomeAnd (entry_at es k) (λ v. ⊤)) is.0 (has-all (λ k. IsSomeAnd (entry_at es k) (λ v. ⊤)) (sorted ps) (sorted-found code c es ps zip) p.0 has)))
      ∙ ap suc (apart-fields es ps zip apart)

  pub as-many-fields : (es : List (Text × Value)) (ps : Fields) → AllZip (IsFieldOf code c) es ps → ComeOnce es → length es ≡ length (sorted ps)
  as-many-fields es ps zip apart = zip-long (IsFieldOf code c) es ps zip ∙ sym (apart-fields es ps zip apart)

-- in a heap where each value has the shape of its field
pub apart-held : (h : Heap) (es : List (Text × Value)) (ps : Fields) → AllZip (λ e f. (f.0 ≡ e.0) × HasShape h f.1 e.1) es ps → ComeOnce es → All (IsHeld h es) ps
apart-held h [] [] zip apart = All-nil _
apart-held h [] (p ∷ ps) zip apart = absurd zip
apart-held h (e ∷ es) [] zip apart = absurd zip
apart-held h (e ∷ es) (p ∷ ps) (is, zip) (none, apart) =
    All-cons (IsHeld h (e ∷ es)) p ps (subst (λ b. IsSomeAnd (if b then Some e.1 else entry_at es p.0) (λ v. HasShape h p.1 v)) (sym (text-same e.0 p.0 (sym is.0))) is.1)
    (all-to (IsHeld h es) (IsHeld h (e ∷ es)) behind ps (apart-held h es ps zip apart))
  where
    behind : (f : Text × Shape) → IsHeld h es f → IsHeld h (e ∷ es) f
    behind f k = by (is_same_text e.0 f.0) refl
      where
        by : (b : Bool) → is_same_text e.0 f.0 ≡ b → IsSomeAnd (if b then Some e.1 else entry_at es f.0) (λ v. HasShape h f.1 v)
        by false same = k
        by true same = absurd (none-some (entry_at es e.0) none (subst (λ key. IsSomeAnd (entry_at es key) (λ v. ⊤)) (sym (same-text e.0 f.0 same)) (some-to (λ v. HasShape h f.1 v) (λ v. ⊤) (entry_at es f.0) (λ v h. tt) k)))

-- ---- the fields of an immutable mapping

pub has-field : (P : Text × Shape → Type 0) (fs : Fields) (key : Text) → All P fs → Has fs key → (z : Shape) × P (key, z)
has-field P [] key all has = absurd has
has-field P (f ∷ fs) key all (inl e) = (f.1, subst (λ k. P (k, f.1)) e (All-head P f fs all))
has-field P (f ∷ fs) key all (inr has) = has-field P fs key (All-tail P f fs all) has

contains-has : (fs : Fields) (key : Text) → Contains (keys_of fs) key → Has fs key
contains-has [] key (k, l, e) = absurd (omega (arith, l))
contains-has (f ∷ fs) key (zero, l, e) = inl e
contains-has (f ∷ fs) key (suc k, l, e) = inr (contains-has fs key (k, omega (arith, l), e))

module _ (h : Heap) (es : List (Text × Value)) where
  pub record IsFrozenAs (fs : Fields) : Type 0 where
    pub texts : All (λ f. IsText f.0) fs
    pub rises : Rises fs
    pub frozen : All (λ f. IsFrozen f.1) fs
    pub valid : All (λ f. IsValid f.1) fs
    pub long : length es ≡ length fs
    pub held : All (IsHeld h es) fs
    pub keys : (key : Text) → IsSomeAnd (entry_at es key) (λ v. ⊤) → Has fs key

  all-valid : (n : _) (row : Row_of-Field n) → FieldsValid row → All (λ f. IsValid f.1) (fields_in n row)
  all-valid n end_of-Field valid = All-nil _
  all-valid n (more_of-Field key x more) valid = All-cons (λ (f : Text × Shape). IsValid f.1) (key, x) _ valid.0 (all-valid _ more valid.1)

  all-held : (n : _) (row : Row_of-Field n) → HaveFields h row es → All (IsHeld h es) (fields_in n row)
  all-held n end_of-Field has = All-nil _
  all-held n (more_of-Field key x more) has = All-cons (IsHeld h es) (key, x) _ has.0 (all-held _ more has.1)

  some-entry : (key : Text) → IsSomeAnd (entry_at es key) (λ v. ⊤) → HasEntry es key
  some-entry key k = by (entry_at es key) k
    where
      by : (o : Option Value) → IsSomeAnd o (λ v. ⊤) → is_some o ≡ true
      by (Some v) k = refl
      by None k = absurd k

  no-list : (m : Members) (P : List Value → Type 0) → m ≡ Entries es → IsListOf h P m → ⊥
  no-list (Entries ds) P e k = k
  no-list (Items vs) P e k = let q : ⊥ = cc in q

  -- what is asked of the fields of a mapping
  abbrev pub OfMapping : (Fields → Type 0) → Shape → Type 0
  OfMapping P (Mapping' mark _ fields) = P (fields_in _ fields)
  OfMapping P NilShape = ⊤
  OfMapping P (BoolShape b) = ⊤
  OfMapping P (IntShape i) = ⊤
  OfMapping P (StrShape t) = ⊤
  OfMapping P (List' mark _ items) = ⊤
  OfMapping P (Error' _ detail) = ⊤
  OfMapping P (FunctionShape isolated graph) = ⊤
  OfMapping P (Future' _ results) = ⊤

  pub frozen-as : (n : ℕ) (s : Structure) (y : Shape) → slice_get h.structures n ≡ Some s → s.members ≡ Entries es → IsValid y → HasShape h y (Struct n) → OfMapping IsFrozenAs y
  frozen-as n s (Mapping' mark _ fields) e is valid has =
      let fs : Fields = fields_in _ fields in
      let Of : List (Text × Value) → Type 0 = λ ds. (length ds ≡ length fs) × HaveFields h fields ds in
      let k : Of es = subst (λ m. IsMappingOf h Of m) is (of-some (λ s. IsFalse s.mutable × IsMappingOf h Of s.members) (slice_get h.structures n) s e has.1).1 in
      record {
        texts = valid.0;
        rises = Sorted-rise (λ (f : Text × Shape). f.0) fs valid.1;
        frozen = valid.2 has.0;
        valid = all-valid _ fields valid.3;
        long = k.0;
        held = all-held _ fields k.1;
        keys = λ key there. contains-has fs key (keys-fill es (keys_of fs) (rise-keys fs valid.1) (fields-entries h _ fields es k.1) (let q : length es ≤ length (keys_of fs) = omega (arith, k.0, length-map fs (λ f. f.0)) in q) key (some-entry key there));
      }
  frozen-as n s NilShape e is valid has = tt
  frozen-as n s (BoolShape b) e is valid has = tt
  frozen-as n s (IntShape i) e is valid has = tt
  frozen-as n s (StrShape t) e is valid has = tt
  frozen-as n s (List' mark _ items) e is valid has = tt
  frozen-as n s (Error' _ detail) e is valid has = tt
  frozen-as n s (FunctionShape isolated graph) e is valid has = tt
  frozen-as n s (Future' _ results) e is valid has = tt

  pub frozen-fields : (n : ℕ) (s : Structure) (y : Shape) → slice_get h.structures n ≡ Some s → s.members ≡ Entries es → IsValid y → HasShape h y (Struct n) → (fs : Fields) × IsFrozenAs fs
  frozen-fields n s (Mapping' mark view fields) e is valid has = (fields_in _ fields, frozen-as n s (Mapping' mark view fields) e is valid has)
  frozen-fields n s (List' mark _ items) e is valid has = absurd (no-list s.members _ is (of-some _ (slice_get h.structures n) s e has.1).1)
  frozen-fields n s NilShape e is valid has = absurd (let q : ⊥ = cc in q)
  frozen-fields n s (BoolShape b) e is valid has = absurd (let q : ⊥ = cc in q)
  frozen-fields n s (IntShape i) e is valid has = absurd (let q : ⊥ = cc in q)
  frozen-fields n s (StrShape z) e is valid has = absurd (let q : ⊥ = cc in q)
  frozen-fields n s (Error' _ detail) e is valid has = absurd has
  frozen-fields n s (FunctionShape isolated graph) e is valid has = absurd has
  frozen-fields n s (Future' _ results) e is valid has = absurd has

contains-map : (fs : Fields) (f : Text × Shape) → Contains fs f → Contains (map (λ g. g.1) fs) f.1
contains-map [] f (k, l, e) = absurd (omega (arith, l))
contains-map (g ∷ fs) f (zero, l, e) = (0, omega arith, ap (λ h. h.1) e)
contains-map (g ∷ fs) f (suc k, l, e) = let (j, m, is) = contains-map fs f (k, omega (arith, l), e) in (suc j, omega (arith, m), is)

-- ---- a mapping stands for a shape with this member

module _ (code : Code) (t : WellTyped code) (c : Common) (good : GoodHeap code c) (n : ℕ) (s : Structure) (es : List (Text × Value)) (e : slice_get c.world.heap.structures n ≡ Some s) (is : s.members ≡ Entries es) (short : length es < 2 ^ 63) where
  abbrev h : Heap
  h = c.world.heap

  -- a shape for which it stands, with these fields
  pub record HasFields (m : Bool) (atom : Option ℕ) : Type 0 where
    pub mark : Bool
    pub fields : Fields
    pub small : length fields < 2 ^ 63
    pub ok : IsValid (mapping-of mark fields small)
    pub standing : StructureStands (code_types code) h m atom n (mapping-of mark fields small)

  pub entries-made : All (λ e. IsMade code c e.1) es
  entries-made = unmapped es (subst (λ m. All (IsMade code c) (values_of m)) is (all-at (λ s. All (IsMade code c) (values_of s.members)) h.structures n s good.members e))
    where
      unmapped : (es : List (Text × Value)) → All (IsMade code c) (map (λ e. e.1) es) → All (λ e. IsMade code c e.1) es
      unmapped [] h = All-nil _
      unmapped (e ∷ es) h = All-cons (λ (e : Text × Value). IsMade code c e.1) e es (All-head (IsMade code c) e.1 (map (λ e. e.1) es) h) (unmapped es (All-tail (IsMade code c) e.1 (map (λ e. e.1) es) h))

  keys-text : All (λ e. IsText e.0) es
  keys-text = all-to (λ (e : Text × Value). IsText e.0 × IsValidValue e.1) (λ (e : Text × Value). IsText e.0) (λ e k. k.0) es (subst AreValidMembers is (all-at (λ s. AreValidMembers s.members) h.structures n s good.valid.members e))

  abbrev Sound : Bool → Option ℕ → Type 0
  Sound m atom = IsTrue m → IsSomeAnd atom (λ a. IsInherent code a × ((x : Shape) × IsValid x × IsUnmarked x × In code.atoms x (Atom a)) × IsSomeAnd (slice_get code.atoms a) (MembersBelong (code_types code) h (Entries es)))

  sound : Sound s.mutable s.atom
  sound = λ m. subst (λ ms. IsSomeAnd s.atom (λ a. IsInherent code a × ((x : Shape) × IsValid x × IsUnmarked x × In code.atoms x (Atom a)) × IsSomeAnd (slice_get code.atoms a) (MembersBelong (code_types code) h ms))) is (all-at (IsWithinAtom code c) h.structures n s good.mutable e m)

  -- the fields of the entries
  shown : (ps : Fields) × AllZip (IsFieldOf code c) es ps
  shown = fields-shown code c t good es entries-made

  abbrev own : Fields
  own = sorted shown.0

  own-texts : All (λ f. IsText f.0) own
  own-texts = sorted-texts code c es shown.0 shown.1 keys-text

  own-valid : All (λ f. IsValid f.1) own
  own-valid = sorted-valid code c es shown.0 shown.1

  own-short : length own < 2 ^ 63
  own-short = sorted-short code c es shown.0 shown.1 short

  own-found : All (λ f. IsSomeAnd (entry_at es f.0) (λ v. ⊤)) own
  own-found = sorted-found code c es shown.0 shown.1

  own-in : (fields : List FieldDef) (rest : Option Ty) → EntriesBelong code h es fields rest → HasRequired fields own × All (MemberIn code.atoms fields rest) own
  own-in fields rest belongs = sorted-in code c es shown.0 shown.1 fields rest belongs

  -- ---- a shape of its own

  pub record IsOwn (m : Bool) (atom : Option ℕ) : Type 0 where
    pub shape : HasFields m atom
    pub found : All (λ f. IsSomeAnd (entry_at es f.0) (λ v. ⊤)) shape.fields

  -- ---- with a member

  module _ (key : Text) (v : Value) (ev : entry_at es key ≡ Some v) (x : Shape) (valid : IsValid x) (stands : Stands (code_types code) h v x) where
    pub record HasMember (m : Bool) (atom : Option ℕ) : Type 0 where
      pub shape : HasFields m atom
      pub member : Contains shape.fields (key, x)

    key-text : IsText key
    key-text = entry-all (λ e. IsText e.0) es key v keys-text ev

    mutable-member : (a : ℕ) → IsSomeAnd (slice_get code.atoms a) (MembersBelong (code_types code) h (Entries es)) → HasMember true (Some a)
    mutable-member a belong =
        let (d, ed, members) = some-there (MembersBelong (code_types code) h (Entries es)) (slice_get code.atoms a) belong in
        let (fields, rest, dm, belongs) = mapping-members code h es d members in
        let fs : Fields = put key x own in
        let there : Has own key = sorted-has shown.0 key (entry-has code c es shown.0 key shown.1 (at-some (λ v. ⊤) (entry_at es key) v ev tt)) in
        let small : length fs < 2 ^ 63 = subst (λ n. n < 2 ^ 63) (sym (put-same key x own (sorted-rises shown.0) there)) own-short in
        let (required, each) = own-in fields rest belongs in
        let typed : MemberIn code.atoms fields rest (key, x) = some-to (λ u. Belongs (code_types code) h v u.sem) (λ u. In code.atoms x u.sem) (key_type fields rest key) (λ u b. b x valid stands) (entry-all (λ e. BelongsIf (code_types code) h e.1 (key_type fields rest e.0)) es key v belongs.1 ev) in
        record {
          shape = record {
            mark = false;
            fields = fs;
            small = small;
            ok = mapping-valid false fs small (put-all key x (λ f. IsText f.0) own key-text own-texts) (put-rises key x own (sorted-rises shown.0)) (λ f. absurd (let q : ⊥ = cc in q)) (put-all key x (λ f. IsValid f.1) own valid own-valid);
            standing = (refl, mapping-in code c false fs small fields rest a (ed ∙ ap (λ d. Some d) dm) (kept fields required) (put-all key x (MemberIn code.atoms fields rest) own typed each));
          };
          member = put-there key x own;
        }
      where
        kept-one : (f : FieldDef) → IsTrue f.optional ⊎ HasKey own f.name → IsTrue f.optional ⊎ HasKey (put key x own) f.name
        kept-one f (inl o) = inl o
        kept-one f (inr k) = inr (has-any (put key x own) f.name (put-keeps key x own f.name (any-has own f.name k)))

        kept : (fields : List FieldDef) → HasRequired fields own → HasRequired fields (put key x own)
        kept fields h = all-to _ _ kept-one fields h

    frozen-member : (atom : Option ℕ) → IsFalse s.mutable → (y : Shape) × IsValid y × HasShape h y (Struct n) → HasMember false atom
    frozen-member atom f (y, ok, held) =
        let (fs, were) = frozen-fields h es n s y e is ok held in
        let there : Has fs key = were.keys key (at-some (λ v. ⊤) (entry_at es key) v ev tt) in
        let (z, of-z) = has-field (λ f. IsFrozen f.1 × IsValid f.1 × IsHeld h es f) fs key (λ k d l. (were.frozen k d l, were.valid k d l, were.held k d l)) there in
        let has-z : HasShape h z v = of-some (λ v. HasShape h z v) (entry_at es key) v ev of-z.2 in
        let has-x : HasShape h x v = stands-has h code v z x has-z stands in
        let frozen-x : IsFrozen x = IsFrozen-same z x (one h z x v of-z.1 valid has-z has-x) of-z.0 in
        let long : length es ≡ length (put key x fs) = were.long ∙ sym (put-same key x fs were.rises there) in
        let small : length (put key x fs) < 2 ^ 63 = subst (λ n. n < 2 ^ 63) long short in
        record {
          shape = record {
            mark = true;
            fields = put key x fs;
            small = small;
            ok = mapping-valid true (put key x fs) small (put-all key x (λ f. IsText f.0) fs key-text were.texts) (put-rises key x fs were.rises) (λ m. put-all key x (λ f. IsFrozen f.1) fs frozen-x were.frozen) (put-all key x (λ f. IsValid f.1) fs valid were.valid);
            standing = mapping-stands h n s es (put key x fs) small e f is long (put-all key x (IsHeld h es) fs (at-some (λ v. HasShape h x v) (entry_at es key) v ev has-x) were.held);
          };
          member = put-there key x fs;
        }

    member-of : (m : Bool) (atom : Option ℕ) → Sound m atom → (IsFalse m → (y : Shape) × IsValid y × HasShape h y (Struct n)) → IsFalse s.mutable ⊎ IsTrue m → HasMember m atom
    member-of true (Some a) sound has f = let (known, shape, belong) = sound refl in mutable-member a belong
    member-of true None sound has f = absurd (sound refl)
    member-of false atom sound has (inl f) = frozen-member atom f (has refl)
    member-of false atom sound has (inr m) = absurd (let q : ⊥ = cc in q)

    -- so it stands at its key in a shape of each type of the mapping
    pub in-mapping : (a : SemType) → Fits code c (Struct n) a → (w : Shape) × IsValid w × In code.atoms w a × StandsIn (Field key) w x × StandsIn AnyField w x
    in-mapping a fits =
        let k = member-of s.mutable s.atom sound (good.immutable.0 n s e) (either s.mutable) in
        let w : Shape = mapping-of k.shape.mark k.shape.fields k.shape.small in
        let there : Stands (code_types code) h (Struct n) w = at-some (λ y. StructureStands (code_types code) h y.mutable y.atom n w) (slice_get h.structures n) s e k.shape.standing in
        let hidden = items_hidden-the_row-Fields-items-2-1 (fields-of k.shape.fields k.shape.small).items in
        (w, k.shape.ok, fits.2 w k.shape.ok there, subst (λ ys. Contains ys (key, x)) (sym hidden) k.member, subst (λ ys. Contains (map (λ f. f.1) ys) x) (sym hidden) (contains-map k.shape.fields (key, x) k.member))
      where
        either : (m : Bool) → IsFalse m ⊎ IsTrue m
        either true = inr refl
        either false = inl refl

  -- ---- a key that each shape of a type has is there

  own-of : (m : Bool) (atom : Option ℕ) → Sound m atom → (IsFalse m → (y : Shape) × IsValid y × HasShape h y (Struct n)) → IsFalse s.mutable ⊎ IsTrue m → IsOwn m atom
  own-of true None sound has f = absurd (sound refl)
  own-of true (Some a) sound has f =
      let (known, shape, belong) = sound refl in
      let (d, ed, members) = some-there (MembersBelong (code_types code) h (Entries es)) (slice_get code.atoms a) belong in
      let (fields, rest, dm, belongs) = mapping-members code h es d members in
      let (required, each) = own-in fields rest belongs in
      record {
        shape = record {
          mark = false;
          fields = own;
          small = own-short;
          ok = mapping-valid false own own-short own-texts (sorted-rises shown.0) (λ f. absurd (let q : ⊥ = cc in q)) own-valid;
          standing = (refl, mapping-in code c false own own-short fields rest a (ed ∙ ap (λ d. Some d) dm) required each);
        };
        found = own-found;
      }
  own-of false atom sound has (inr m) = absurd (let q : ⊥ = cc in q)
  own-of false atom sound has (inl f) =
      let (y, ok, held) = has refl in
      let (fs, were) = frozen-fields h es n s y e is ok held in
      let small : length fs < 2 ^ 63 = subst (λ n. n < 2 ^ 63) were.long short in
      record {
        shape = record { mark = true; fields = fs; small = small; ok = mapping-valid true fs small were.texts were.rises (λ m. were.frozen) were.valid; standing = mapping-stands h n s es fs small e f is were.long were.held };
        found = all-to (IsHeld h es) _ (λ f k. some-to _ _ (entry_at es f.0) (λ v h. tt) k) fs were.held;
      }

  pub key-there : (a : SemType) (key : Text) → Fits code c (Struct n) a → IsWithin code.atoms (HasKeyIn key) a → IsSomeAnd (entry_at es key) (λ v. ⊤)
  key-there a key fits within =
      let k = own-of s.mutable s.atom sound (good.immutable.0 n s e) (either s.mutable) in
      let w : Shape = mapping-of k.shape.mark k.shape.fields k.shape.small in
      let there : Stands (code_types code) h (Struct n) w = at-some (λ y. StructureStands (code_types code) h y.mutable y.atom n w) (slice_get h.structures n) s e k.shape.standing in
      let hidden = items_hidden-the_row-Fields-items-2-1 (fields-of k.shape.fields k.shape.small).items in
      let has : HasKey k.shape.fields key = subst (λ ys. HasKey ys key) hidden (within w (k.shape.ok, fits.2 w k.shape.ok there)) in
      has-all (λ k. IsSomeAnd (entry_at es k) (λ v. ⊤)) k.shape.fields k.found key (any-has k.shape.fields key has)
    where
      either : (m : Bool) → IsFalse m ⊎ IsTrue m
      either true = inr refl
      either false = inl refl
