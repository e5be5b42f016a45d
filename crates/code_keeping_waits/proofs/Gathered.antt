-- The results of a multiple wait are given as a mapping, with an error made for each result that was taken before.
use Rattle.std.proofs.Common.{◌≡◌, ◌≢◌, ◌≤◌, ◌<◌, ◌+◌, ◌^◌, ◌∙◌, ℕ, zero, suc, Bool, true, false, List, [], ◌∷◌, ◌++◌, Option, Some, None, inl, inr, length, map, refl, sym, ap, subst, arith}
use Rattle.std.proofs.lemmas.List.{length-append}
use Rattle.std.proofs.lemmas.List.Elements.{All-cons, All-head, All-nil, All-tail}
use Rattle.std.specs.Prelude.{◌⊎◌, All, AllPairs, IsSomeAnd, IsTrue, if◌then◌else◌, option_map, option_to_list, slice_get, sum_by, zip}
use Rattle.std.specs.List.{AllZip}
use Rattle.bal_base.specs.declared.shape.Shape.{Shape}
use Rattle.bal_base.specs.declared.text.Text.{Text}
use Rattle.bal_base.specs.Valid.{IsText, IsValid}
use Rattle.type_model.specs.declared.atoms.AtomDef.TheVariants.{Mapping as MappingAtom}
use Rattle.type_model.specs.declared.atoms.FieldDef.{FieldDef}
use Rattle.type_model.specs.declared.basic.SemType.{SemType, Atom}
use Rattle.type_model.specs.declared.basic.Ty.{Ty}
use Rattle.type_model.specs.Membership.{In}
use Rattle.type_model.specs.Places.{HasKey, is_same_text, key_type}
use Rattle.operations.specs.Kinds.{IsError}
use Rattle.operations.specs.Rows.{ResultHas}
use Rattle.value_model.specs.declared.value.Value.{Value}
use Rattle.value_model.specs.declared.value.Value.TheVariants.{Error, Struct}
use Rattle.value_model.specs.Heap.{Entries, ErrorObject, Grows, Heap, Stays, Structure, cells, entry_at}
use Rattle.value_model.specs.PanicName.{future_taken}
use Rattle.value_model.specs.Stands.{Belongs, BelongsIf, HasShape, IsUnmarked, MembersBelong, StructureStands}
use Rattle.value_model.specs.Valid.{IsValidValue}
use Rattle.value_model.specs.World.{World}
use Rattle.op_model.specs.Common.{Common}
use Rattle.op_model.specs.Effects.{lifted, with_world}
use Rattle.op_model.specs.Levels.{numbers_from}
use Rattle.op_model.specs.Limits.{most_cells}
use Rattle.op_model.specs.Rows.{gives, new_structure, next_error, next_structure, within}
use Rattle.op_model.specs.Waits.{missing, numbered, with_results}
use Rattle.machine_model.specs.Runs.{Running}
use Rattle.machine_model.proofs.Once.{some-same}
use Rattle.stack_code.specs.declared.code.Code.{Code}
use Rattle.stack_code.specs.Good.{GoodCommon}
use Rattle.stack_code.specs.Tables.{IsInherent}
use Rattle.stack_code.specs.Values.{AllFit, ComeOnce, Fits, IsMade, code_types}
use Rattle.stack_code.specs.WellTyped.{WellTyped}
use Rattle.code_keeping.specs.Rows.{EffectTyped}
use Rattle.code_keeping.proofs.Growing.{IsGrown, IsIn, IsNewError, IsNewStructure, belongs-there, front-or-behind, gave-typed, get-behind, get-front, later, made-there, one-given, within-gave}
use Rattle.code_keeping.proofs.Lists.{at-some, of-some}
use Rattle.code_keeping.proofs.Making.{no-fields, no-fields-valid, plain-error}
use Rattle.code_keeping.proofs.Serving.{all-to}
use Rattle.code_keeping.proofs.Shapes.{has-shape}
use Rattle.code_keeping.proofs.Staying.{stays-same}
use Rattle.code_keeping_heap.proofs.Adding.{greatest-at}
use Rattle.code_keeping_heap.proofs.Mapped.{EntriesBelong, mapping-in, mapping-of, mapping-valid}
use Rattle.code_keeping_heap.proofs.Sorting.{Fields, Has, has-any, sorted, sorted-all, sorted-has, sorted-long, sorted-rises}
use Rattle.code_keeping_waits.proofs.Collecting.{ResultsFit}
use Rattle.code_keeping_waits.proofs.One.{from-map}
use Rattle.code_keeping_waits.proofs.Results.{stands-error}
use Rattle.value_model.proofs.EntryKeys.{same-text, text-same}

-- ---- numbers and texts

numbers-at : (a m j n : ℕ) → slice_get (numbers_from a m) j ≡ Some n → (n ≡ a + j) × (j < m)
numbers-at a zero j n e = absurd (let q : ⊥ = cc in q)
numbers-at a (suc m) zero n e = let same : a ≡ n = some-same a n e in (omega (arith, same), omega arith)
numbers-at a (suc m) (suc j) n e = let (at, l) = numbers-at (a + 1) m j n e in (omega (arith, at), omega (arith, l))

numbers-there : (a m j : ℕ) → j < m → slice_get (numbers_from a m) j ≡ Some (a + j)
numbers-there a zero j l = absurd (omega (arith, l))
numbers-there a (suc m) zero l = ap (λ n. Some n) (omega arith)
numbers-there a (suc m) (suc j) l = numbers-there (a + 1) m j (omega (arith, l)) ∙ ap (λ n. Some n) (omega arith)

numbers-long : (a m : ℕ) → length (numbers_from a m) ≡ m
numbers-long a zero = refl
numbers-long a (suc m) = ap suc (numbers-long (a + 1) m)

mapped-at : {A B : Type 0} (f : A → B) (xs : List A) (j : ℕ) (x : A) → slice_get xs j ≡ Some x → slice_get (map f xs) j ≡ Some (f x)
mapped-at f [] j x e = absurd (let q : ⊥ = cc in q)
mapped-at f (y ∷ xs) zero x e = ap (λ z. Some (f z)) (some-same y x e)
mapped-at f (y ∷ xs) (suc j) x e = mapped-at f xs j x e

mapped-long : {A B : Type 0} (f : A → B) (xs : List A) → length (map f xs) ≡ length xs
mapped-long f [] = refl
mapped-long f (x ∷ xs) = ap suc (mapped-long f xs)

-- ---- fields and results side by side

module _ (code : Code) (c : Common) where
  abbrev TakesErrors : SemType → Type 0
  TakesErrors t = (x : Shape) → IsValid x → IsError x → In code.atoms x t

  -- each result is in its field, and a field without one takes errors
  abbrev pub FieldsFit : List FieldDef → List (Option Value) → Type 0
  FieldsFit [] [] = Unit {0}
  FieldsFit [] (v ∷ vs) = ⊥
  FieldsFit (f ∷ fs) [] = ⊥
  FieldsFit (f ∷ fs) (Some v ∷ vs) = Fits code c v f.ty.sem × FieldsFit fs vs
  FieldsFit (f ∷ fs) (None ∷ vs) = TakesErrors f.ty.sem × FieldsFit fs vs

  pub fields-fit : (result : ℕ → Option SemType) (fs : List FieldDef) (vs : List (Option Value)) (k : ℕ) → length vs ≡ length fs → ((j : ℕ) → result (k + j) ≡ option_map (λ f. f.ty.sem) (slice_get fs j)) → ResultsFit code result c k vs → FieldsFit fs vs
  fields-fit result [] [] k long are h = tt
  fields-fit result [] (v ∷ vs) k long are h = absurd (omega (arith, long))
  fields-fit result (f ∷ fs) [] k long are h = absurd (omega (arith, long))
  fields-fit result (f ∷ fs) (Some v ∷ vs) k long are h =
      let here : result k ≡ Some f.ty.sem = ap result (let q : k ≡ k + 0 = omega arith in q) ∙ are 0 in
      let mine : AllFit code c (v ∷ []) (f.ty.sem ∷ []) = subst (λ r. AllFit code c (v ∷ []) (option_to_list r)) here h.0 in
      (mine.0, fields-fit result fs vs (k + 1) (omega (arith, long)) (λ j. ap result (let q : k + 1 + j ≡ k + suc j = omega arith in q) ∙ are (suc j)) h.1)
  fields-fit result (f ∷ fs) (None ∷ vs) k long are h =
      let here : result k ≡ Some f.ty.sem = ap result (let q : k ≡ k + 0 = omega arith in q) ∙ are 0 in
      let mine : ResultHas code.atoms (Some f.ty.sem) IsError = subst (λ r. ResultHas code.atoms r IsError) here h.0 in
      (mine, fields-fit result fs vs (k + 1) (omega (arith, long)) (λ j. ap result (let q : k + 1 + j ≡ k + suc j = omega arith in q) ∙ are (suc j)) h.1)

-- the entries, where errors that are made are numbered from one on
abbrev entries : List FieldDef → ℕ → List (Option Value) → List (Text × Value)
entries fs next vs = zip (map (λ f. f.name) fs) (numbered next vs)

module _ (code : Code) (t : WellTyped code) (c : Common) (good : GoodCommon code c Running) (atom : ℕ) (fields : List FieldDef) (rest : Option Ty) (ea : slice_get code.atoms atom ≡ Some (MappingAtom fields rest)) (known : IsInherent code atom)
    (texts : All (λ f. IsText f.name) fields) (apart : AllPairs (λ f g. f.name ≢ g.name) fields) (keys : All (λ f. key_type fields rest f.name ≡ Some f.ty) fields) (vs : List (Option Value)) (fit : FieldsFit code c fields vs) where
  abbrev heap : Heap
  heap = c.world.heap

  abbrev first : ℕ
  first = length heap.structures

  abbrev next : ℕ
  next = next_error c.world

  abbrev es : List (Text × Value)
  es = entries fields next vs

  abbrev mapping : Structure
  mapping = new_structure (Some atom) true (Entries es)

  abbrev detail : Structure
  detail = new_structure None false (Entries [])

  abbrev details : List Structure
  details = map (λ n. detail) (numbers_from 0 (missing vs))

  abbrev error : ℕ → ErrorObject
  error n = record { message = future_taken; cause = None; detail = n }

  abbrev errors : List ErrorObject
  errors = map error (numbers_from (first + 1) (missing vs))

  abbrev pub w : World
  w = with_results c.world atom (map (λ f. f.name) fields) vs

  abbrev d : Common
  d = with_world c w

  grows : Grows heap w.heap
  grows =
      record {
        structures = λ n s e. at-some (Stays s) (slice_get w.heap.structures n) s (get-front heap.structures (mapping ∷ details) n s e) (stays-same s);
        errors = (errors, refl);
        functions = ([], sym (append-none heap.functions));
      }
    where
      append-none : {A : Type 0} (xs : List A) → xs ++ [] ≡ xs
      append-none [] = refl
      append-none (x ∷ xs) = ap (λ ys. x ∷ ys) (append-none xs)

  many-details : length details ≡ missing vs
  many-details = mapped-long (λ n. detail) (numbers_from 0 (missing vs)) ∙ numbers-long 0 (missing vs)

  many-errors : length errors ≡ missing vs
  many-errors = mapped-long error (numbers_from (first + 1) (missing vs)) ∙ numbers-long (first + 1) (missing vs)

  -- ---- each entry

  error-belongs : (n : ℕ) (s : SemType) → TakesErrors code c s → Belongs (code_types code) w.heap (Error n) s
  error-belongs n s takes x valid stands = takes x valid (stands-error w.heap n x stands)

  -- numbers of errors that are made are there
  values-made : (fs : List FieldDef) (vs' : List (Option Value)) (n : ℕ) → n + missing vs' ≡ next + missing vs → FieldsFit code c fs vs' → All (IsMade code d) (map (λ e. e.1) (entries fs n vs'))
  values-made [] [] n total h = All-nil _
  values-made [] (v ∷ vs') n total h = absurd h
  values-made (f ∷ fs) [] n total h = absurd h
  values-made (f ∷ fs) (Some v ∷ vs') n total h = All-cons (IsMade code d) v (map (λ e. e.1) (entries fs n vs')) (made-there code c w good.nearly.heap grows v h.0.1) (values-made fs vs' n total h.1)
  values-made (f ∷ fs) (None ∷ vs') n total h =
      All-cons (IsMade code d) (Error n) (map (λ e. e.1) (entries fs (n + 1) vs')) ((let l = length-append heap.errors errors in omega (arith, l, many-errors, total)), tt, tt)
      (values-made fs vs' (n + 1) (omega (arith, total)) h.1)

  values-valid : (fs : List FieldDef) (vs' : List (Option Value)) (n : ℕ) → All (λ f. IsText f.name) fs → FieldsFit code c fs vs' → All (λ e. IsText e.0 × IsValidValue e.1) (entries fs n vs')
  values-valid [] [] n named h = All-nil _
  values-valid [] (v ∷ vs') n named h = absurd h
  values-valid (f ∷ fs) [] n named h = absurd h
  values-valid (f ∷ fs) (Some v ∷ vs') n named h =
      All-cons (λ (e : Text × Value). IsText e.0 × IsValidValue e.1) (f.name, v) (entries fs n vs') (All-head (λ (f : FieldDef). IsText f.name) f fs named, h.0.1.1) (values-valid fs vs' n (All-tail (λ (f : FieldDef). IsText f.name) f fs named) h.1)
  values-valid (f ∷ fs) (None ∷ vs') n named h =
      All-cons (λ (e : Text × Value). IsText e.0 × IsValidValue e.1) (f.name, Error n) (entries fs (n + 1) vs') (All-head (λ (f : FieldDef). IsText f.name) f fs named, tt) (values-valid fs vs' (n + 1) (All-tail (λ (f : FieldDef). IsText f.name) f fs named) h.1)

  abbrev EntryBelongs : Text × Value → Type 0
  EntryBelongs e = BelongsIf (code_types code) w.heap e.1 (key_type fields rest e.0)

  values-belong : (fs : List FieldDef) (vs' : List (Option Value)) (n : ℕ) → All (λ f. key_type fields rest f.name ≡ Some f.ty) fs → FieldsFit code c fs vs' → All EntryBelongs (entries fs n vs')
  values-belong [] [] n typed h = All-nil _
  values-belong [] (v ∷ vs') n typed h = absurd h
  values-belong (f ∷ fs) [] n typed h = absurd h
  values-belong (f ∷ fs) (Some v ∷ vs') n typed h =
      All-cons EntryBelongs (f.name, v) (entries fs n vs')
      (at-some (λ u. Belongs (code_types code) w.heap v u.sem) (key_type fields rest f.name) f.ty (All-head (λ (f : FieldDef). key_type fields rest f.name ≡ Some f.ty) f fs typed) (belongs-there code c w good.nearly.heap grows v f.ty.sem h.0.1.0 h.0.2))
      (values-belong fs vs' n (All-tail (λ (f : FieldDef). key_type fields rest f.name ≡ Some f.ty) f fs typed) h.1)
  values-belong (f ∷ fs) (None ∷ vs') n typed h =
      All-cons EntryBelongs (f.name, Error n) (entries fs (n + 1) vs')
      (at-some (λ u. Belongs (code_types code) w.heap (Error n) u.sem) (key_type fields rest f.name) f.ty (All-head (λ (f : FieldDef). key_type fields rest f.name ≡ Some f.ty) f fs typed) (error-belongs n f.ty.sem h.0))
      (values-belong fs vs' (n + 1) (All-tail (λ (f : FieldDef). key_type fields rest f.name ≡ Some f.ty) f fs typed) h.1)

  -- each field has an entry
  abbrev IsThereAt : List (Text × Value) → Text → Type 0
  IsThereAt xs key = IsSomeAnd (entry_at xs key) (λ v. Unit {0})

  behind-there : (e : Text × Value) (xs : List (Text × Value)) (key : Text) → IsThereAt xs key → IsThereAt (e ∷ xs) key
  behind-there e xs key h = by (is_same_text e.0 key)
    where
      by : (b : Bool) → IsSomeAnd (if b then Some e.1 else entry_at xs key) (λ v. Unit {0})
      by true = tt
      by false = h

  first-there : (key : Text) (v : Value) (xs : List (Text × Value)) → IsThereAt ((key, v) ∷ xs) key
  first-there key v xs = subst (λ b. IsSomeAnd (if b then Some v else entry_at xs key) (λ v. Unit {0})) (sym (text-same key key refl)) tt

  fields-there : (fs : List FieldDef) (vs' : List (Option Value)) (n : ℕ) → FieldsFit code c fs vs' → All (λ f. IsThereAt (entries fs n vs') f.name) fs
  fields-there [] [] n h = All-nil _
  fields-there [] (v ∷ vs') n h = absurd h
  fields-there (f ∷ fs) [] n h = absurd h
  fields-there (f ∷ fs) (Some v ∷ vs') n h =
      All-cons (λ (g : FieldDef). IsThereAt ((f.name, v) ∷ entries fs n vs') g.name) f fs (first-there f.name v (entries fs n vs'))
      (all-to (λ (g : FieldDef). IsThereAt (entries fs n vs') g.name) (λ (g : FieldDef). IsThereAt ((f.name, v) ∷ entries fs n vs') g.name) (λ g k. behind-there (f.name, v) (entries fs n vs') g.name k) fs (fields-there fs vs' n h.1))
  fields-there (f ∷ fs) (None ∷ vs') n h =
      All-cons (λ (g : FieldDef). IsThereAt ((f.name, Error n) ∷ entries fs (n + 1) vs') g.name) f fs (first-there f.name (Error n) (entries fs (n + 1) vs'))
      (all-to (λ (g : FieldDef). IsThereAt (entries fs (n + 1) vs') g.name) (λ (g : FieldDef). IsThereAt ((f.name, Error n) ∷ entries fs (n + 1) vs') g.name) (λ g k. behind-there (f.name, Error n) (entries fs (n + 1) vs') g.name k) fs (fields-there fs vs' (n + 1) h.1))

  entries-long : (fs : List FieldDef) (vs' : List (Option Value)) (n : ℕ) → FieldsFit code c fs vs' → length (entries fs n vs') ≡ length fs
  entries-long [] [] n h = refl
  entries-long [] (v ∷ vs') n h = absurd h
  entries-long (f ∷ fs) [] n h = absurd h
  entries-long (f ∷ fs) (Some v ∷ vs') n h = ap suc (entries-long fs vs' n h.1)
  entries-long (f ∷ fs) (None ∷ vs') n h = ap suc (entries-long fs vs' (n + 1) h.1)

  -- no key comes twice, as no two fields have one name
  other-first : (name key : Text) (v : Value) (xs : List (Text × Value)) → key ≢ name → entry_at xs key ≡ None → entry_at ((name, v) ∷ xs) key ≡ None
  other-first name key v xs other none = by (is_same_text name key) refl
    where
      by : (b : Bool) → is_same_text name key ≡ b → (if b then Some v else entry_at xs key) ≡ None
      by true e = absurd (other (sym (same-text name key e)))
      by false e = none

  entries-without : (fs : List FieldDef) (vs' : List (Option Value)) (n : ℕ) (key : Text) → FieldsFit code c fs vs' → All (λ g. key ≢ g.name) fs → entry_at (entries fs n vs') key ≡ None
  entries-without [] [] n key h others = refl
  entries-without [] (v ∷ vs') n key h others = absurd h
  entries-without (f ∷ fs) [] n key h others = absurd h
  entries-without (f ∷ fs) (Some v ∷ vs') n key h others =
      other-first f.name key v (entries fs n vs') (All-head (λ (g : FieldDef). key ≢ g.name) f fs others) (entries-without fs vs' n key h.1 (All-tail (λ (g : FieldDef). key ≢ g.name) f fs others))
  entries-without (f ∷ fs) (None ∷ vs') n key h others =
      other-first f.name key (Error n) (entries fs (n + 1) vs') (All-head (λ (g : FieldDef). key ≢ g.name) f fs others) (entries-without fs vs' (n + 1) key h.1 (All-tail (λ (g : FieldDef). key ≢ g.name) f fs others))

  first-apart : (f : FieldDef) (fs : List FieldDef) → AllPairs (λ f g. f.name ≢ g.name) (f ∷ fs) → All (λ g. f.name ≢ g.name) fs
  first-apart f fs apart = λ k d l. apart 0 (suc k) d (omega arith) (omega (arith, l))

  entries-once : (fs : List FieldDef) (vs' : List (Option Value)) (n : ℕ) → FieldsFit code c fs vs' → AllPairs (λ f g. f.name ≢ g.name) fs → ComeOnce (entries fs n vs')
  entries-once [] [] n h apart = tt
  entries-once [] (v ∷ vs') n h apart = absurd h
  entries-once (f ∷ fs) [] n h apart = absurd h
  entries-once (f ∷ fs) (Some v ∷ vs') n h apart = (entries-without fs vs' n f.name h.1 (first-apart f fs apart), entries-once fs vs' n h.1 (λ i j d lt l. apart (suc i) (suc j) d (omega (arith, lt)) (omega (arith, l))))
  entries-once (f ∷ fs) (None ∷ vs') n h apart = (entries-without fs vs' (n + 1) f.name h.1 (first-apart f fs apart), entries-once fs vs' (n + 1) h.1 (λ i j d lt l. apart (suc i) (suc j) d (omega (arith, lt)) (omega (arith, l))))

  -- ---- a shape of the mapping

  error-valid : IsValid plain-error
  error-valid = (refl, no-fields-valid)

  -- a field's shape: one of its result, or that of an error
  abbrev IsShapeOfField : FieldDef → Text × Shape → Type 0
  IsShapeOfField f p = (p.0 ≡ f.name) × IsValid p.1 × In code.atoms p.1 f.ty.sem

  shapes-of : (fs : List FieldDef) (vs' : List (Option Value)) → FieldsFit code c fs vs' → (ps : Fields) × AllZip IsShapeOfField fs ps
  shapes-of [] [] h = ([], tt)
  shapes-of [] (v ∷ vs') h = absurd h
  shapes-of (f ∷ fs) [] h = absurd h
  shapes-of (f ∷ fs) (Some v ∷ vs') h =
      let (x, valid, stands) = has-shape code t c good.nearly.heap v h.0.1 in
      let (ps, zip) = shapes-of fs vs' h.1 in
      ((f.name, x) ∷ ps, ((refl, valid, h.0.2 x valid stands), zip))
  shapes-of (f ∷ fs) (None ∷ vs') h =
      let (ps, zip) = shapes-of fs vs' h.1 in
      ((f.name, plain-error) ∷ ps, ((refl, error-valid, h.0 plain-error error-valid tt), zip))

  zipped-all : (P : FieldDef → Type 0) (Q : Text × Shape → Type 0) → ((f : FieldDef) (p : Text × Shape) → P f → IsShapeOfField f p → Q p) → (fs : List FieldDef) (ps : Fields) → AllZip IsShapeOfField fs ps → All P fs → All Q ps
  zipped-all P Q h [] [] zip all = All-nil Q
  zipped-all P Q h [] (p ∷ ps) zip all = absurd zip
  zipped-all P Q h (f ∷ fs) [] zip all = absurd zip
  zipped-all P Q h (f ∷ fs) (p ∷ ps) (is, zip) all = All-cons Q p ps (h f p (All-head P f fs all) is) (zipped-all P Q h fs ps zip (All-tail P f fs all))

  zipped-has : (fs : List FieldDef) (ps : Fields) → AllZip IsShapeOfField fs ps → All (λ f. Has ps f.name) fs
  zipped-has [] [] zip = All-nil _
  zipped-has [] (p ∷ ps) zip = absurd zip
  zipped-has (f ∷ fs) [] zip = absurd zip
  zipped-has (f ∷ fs) (p ∷ ps) (is, zip) =
      All-cons (λ (g : FieldDef). Has (p ∷ ps) g.name) f fs (inl is.0) (all-to (λ (g : FieldDef). Has ps g.name) (λ (g : FieldDef). Has (p ∷ ps) g.name) (λ g k. inr k) fs (zipped-has fs ps zip))

  zipped-long : (fs : List FieldDef) (ps : Fields) → AllZip IsShapeOfField fs ps → length ps ≡ length fs
  zipped-long [] [] zip = refl
  zipped-long [] (p ∷ ps) zip = absurd zip
  zipped-long (f ∷ fs) [] zip = absurd zip
  zipped-long (f ∷ fs) (p ∷ ps) (is, zip) = ap suc (zipped-long fs ps zip)

  abbrev IsSmall : Type 0
  IsSmall = cells w.heap ≤ most_cells

  at-mapping : slice_get w.heap.structures first ≡ Some mapping
  at-mapping = subst (λ n. slice_get w.heap.structures n ≡ Some mapping) (let q : first + 0 ≡ first = omega arith in q) (get-behind heap.structures (mapping ∷ details) 0 mapping refl)

  few : IsSmall → length es < 2 ^ 63
  few small = let l : mapping.greatest ≤ sum_by (λ (x : Structure). x.greatest + 1) w.heap.structures = greatest-at w.heap.structures first mapping 0 at-mapping in omega (arith, l, small)

  unmarked : IsSmall → (x : Shape) × IsValid x × IsUnmarked x × In code.atoms x (Atom atom)
  unmarked small =
      let (ps, zip) = shapes-of fields vs fit in
      let little : length (sorted ps) < 2 ^ 63 = (let l = sorted-long ps in let k = zipped-long fields ps zip in let m = entries-long fields vs next fit in let n = few small in omega (arith, l, k, m, n)) in (
        mapping-of false (sorted ps) little,
        mapping-valid false (sorted ps) little (sorted-all (λ p. IsText p.0) ps (zipped-all (λ f. IsText f.name) (λ p. IsText p.0) (λ f p k is. subst IsText (sym is.0) k) fields ps zip texts)) (sorted-rises ps) (λ f. absurd (let q : ⊥ = cc in q))
            (sorted-all (λ p. IsValid p.1) ps (zipped-all (λ f. Unit {0}) (λ p. IsValid p.1) (λ f p k is. is.1) fields ps zip (λ k d l. tt))),
        refl,
        mapping-in code c false (sorted ps) little fields rest atom ea
            (all-to (λ f. Has ps f.name) (λ f. IsTrue f.optional ⊎ HasKey (sorted ps) f.name) (λ f k. inr (has-any (sorted ps) f.name (sorted-has ps f.name k))) fields (zipped-has fields ps zip))
            (sorted-all (λ p. IsSomeAnd (key_type fields rest p.0) (λ u. In code.atoms p.1 u.sem)) ps (zipped-all (λ f. key_type fields rest f.name ≡ Some f.ty) (λ p. IsSomeAnd (key_type fields rest p.0) (λ u. In code.atoms p.1 u.sem))
            (λ f p k is. at-some (λ u. In code.atoms p.1 u.sem) (key_type fields rest p.0) f.ty (ap (λ key. key_type fields rest key) is.0 ∙ k) is.2) fields ps zip keys)),
      )

  -- ---- what is new

  belongs : EntriesBelong code w.heap es fields rest
  belongs = (all-to (λ f. IsThereAt es f.name) (λ f. IsTrue f.optional ⊎ IsThereAt es f.name) (λ f k. inr k) fields (fields-there fields vs next fit), values-belong fields vs next keys fit)

  new-mapping : IsSmall → (n : ℕ) → IsNewStructure code c w good.nearly.heap grows n mapping
  new-mapping small n =
      record {
        mutable = λ m. (known, unmarked small, at-some (MembersBelong (code_types code) w.heap (Entries es)) (slice_get code.atoms atom) (MappingAtom fields rest) ea belongs);
        frozen = λ f. absurd (let q : ⊥ = cc in q);
        made = values-made fields vs next refl fit;
        valid = values-valid fields vs next texts fit;
        short = few small;
        apart = entries-once fields vs next fit apart;
      }

  detail-stands : (n : ℕ) → slice_get w.heap.structures n ≡ Some detail → HasShape w.heap no-fields (Struct n)
  detail-stands n e = (refl, at-some _ (slice_get w.heap.structures n) detail e (refl, (refl, tt)))

  new-detail : (n : ℕ) → slice_get w.heap.structures n ≡ Some detail → IsNewStructure code c w good.nearly.heap grows n detail
  new-detail n e = record { mutable = λ m. absurd (let q : ⊥ = cc in q); frozen = λ f. (no-fields, no-fields-valid, detail-stands n e); made = All-nil _; valid = All-nil _; short = omega arith; apart = tt }

  at-detail : (j : ℕ) → j < missing vs → slice_get w.heap.structures (first + 1 + j) ≡ Some detail
  at-detail j l =
      subst (λ n. slice_get w.heap.structures n ≡ Some detail) (let q : first + suc j ≡ first + 1 + j = omega arith in q)
      (get-behind heap.structures (mapping ∷ details) (suc j) detail (mapped-at (λ n. detail) (numbers_from 0 (missing vs)) j (0 + j) (numbers-there 0 (missing vs) j l)))

  new-error : (n j : ℕ) (e : ErrorObject) → slice_get w.heap.errors n ≡ Some e → slice_get errors j ≡ Some e → IsNewError code c w good.nearly.heap grows n e
  new-error n j e en ej =
      let (m, em, is) = from-map error (numbers_from (first + 1) (missing vs)) j e ej in
      let (at, l) = numbers-at (first + 1) (missing vs) j m em in
      subst (λ z. IsNewError code c w good.nearly.heap grows n z) is
      (record {
        message = refl;
        detail = let long = length-append heap.structures (mapping ∷ details) in omega (arith, long, many-details, at, l);
        cause = tt;
        shape = (
          plain-error,
          error-valid,
          at-some (λ z. HasShape w.heap no-fields (Struct z.detail)) (slice_get w.heap.errors n) (error m) (en ∙ ap (λ z. Some z) (sym is)) (subst (λ k. HasShape w.heap no-fields (Struct k)) (sym at) (detail-stands (first + 1 + j) (at-detail j l))),
        );
      })

  grown : IsSmall → IsGrown code c w good.nearly.heap grows
  grown small =
      record {
        structures = λ n s e. structure n s e (front-or-behind heap.structures (mapping ∷ details) n s e);
        errors = λ n e en. of-error n e en (front-or-behind heap.errors errors n e en);
        functions = λ n f e. inl (sym (functions-same n) ∙ e);
      }
    where
      functions-same : (n : ℕ) → slice_get w.heap.functions n ≡ slice_get heap.functions n
      functions-same n = refl

      structure : (n : ℕ) (s : Structure) → slice_get w.heap.structures n ≡ Some s → IsIn heap.structures (mapping ∷ details) n s → (slice_get heap.structures n ≡ Some s) ⊎ IsNewStructure code c w good.nearly.heap grows n s
      structure n s e (inl k) = inl k
      structure n s e (inr (zero, at, k)) = inr (subst (λ z. IsNewStructure code c w good.nearly.heap grows n z) (some-same mapping s k) (new-mapping small n))
      structure n s e (inr (suc j, at, k)) =
          let (m, em, is) = from-map (λ n. detail) (numbers_from 0 (missing vs)) j s k in
          inr (subst (λ z. IsNewStructure code c w good.nearly.heap grows n z) is (new-detail n (e ∙ ap (λ z. Some z) (sym is))))

      of-error : (n : ℕ) (e : ErrorObject) → slice_get w.heap.errors n ≡ Some e → IsIn heap.errors errors n e → (slice_get heap.errors n ≡ Some e) ⊎ IsNewError code c w good.nearly.heap grows n e
      of-error n e en (inl k) = inl k
      of-error n e en (inr (j, at, k)) = inr (new-error n j e en k)

  -- so a mapping of the atom is given
  pub gathered-typed : (result : Option SemType) → ResultHas code.atoms result (λ x. In code.atoms x (Atom atom)) → EffectTyped code c result (lifted c (within (gives w (Struct (next_structure c.world)))))
  gathered-typed result has =
      within-gave code c result (Struct first ∷ []) w
      (λ small. gave-typed code c result (Struct first ∷ []) w good good.nearly.heap grows (grown small)
      (one-given code d result (λ x. In code.atoms x (Atom atom)) (Struct first) has ((later code c w good.nearly.heap grows (grown small) None).closed good.nearly.heap.closed)
      ((let long = length-append heap.structures (mapping ∷ details) in omega (arith, long, many-details)), tt, tt)
      (λ x valid h. (of-some (λ s. StructureStands (code_types code) w.heap s.mutable s.atom first x) (slice_get w.heap.structures first) mapping at-mapping h).1)))
