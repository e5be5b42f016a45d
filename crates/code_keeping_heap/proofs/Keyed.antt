-- Members of mappings are read: by a key, which may be one or any, and by the name of a field.
use Rattle.std.proofs.Common.{◌≡◌, ◌<◌, ◌^◌, ℕ, List, [], ◌∷◌, Option, Some, None, inl, inr, length, refl, sym, ap, subst}
use Rattle.std.specs.Prelude.{◌⊎◌, IsSomeAnd, option_to_list, slice_get}
use Rattle.bal_base.specs.declared.shape.Shape.{Shape, Nil as NilShape, Str as StrShape, Mapping'}
use Rattle.bal_base.specs.declared.text.Text.{Text}
use Rattle.bal_base.specs.Valid.{IsValid}
use Rattle.type_model.specs.declared.answers.Keys.TheVariants.{AnyField, Field}
use Rattle.type_model.specs.declared.basic.SemType.{SemType}
use Rattle.type_model.specs.Membership.{In}
use Rattle.type_model.specs.Parts.{StandsAt, StandsIn}
use Rattle.type_model.proofs.Decided.{In-decided}
use Rattle.operations.specs.declared.operation.Constant.TheVariants.{Nil as NilConstant}
use Rattle.operations.specs.declared.operation.Operation.TheVariants as op
use Rattle.operations.specs.Kinds.{HasMember as HasKeyIn, IsMapping, IsNil}
use Rattle.operations.specs.Rows.{IsSingleKey, IsWithin, ResultHas, StandsAtKey, Surroundings}
use Rattle.value_model.specs.declared.filler.Filler.{Filler}
use Rattle.value_model.specs.declared.value.Value.{Value}
use Rattle.value_model.specs.declared.value.Value.TheVariants.{Nil, Bool as Truth, Int, Str, Struct, Error, Function, Future}
use Rattle.value_model.specs.Heap.{Entries, Items, Members, Structure, entry_at}
use Rattle.value_model.specs.Meaning.{Answers}
use Rattle.value_model.specs.Stands.{Stands}
use Rattle.value_model.specs.World.{Came}
use Rattle.op_model.specs.Common.{Common}
use Rattle.op_model.specs.Performs.{Performs}
use Rattle.op_model.specs.Rows.{HasEntries, MappingAt, gives, size_of}
use Rattle.op_model.specs.StructureRows.{ReadsField, ReadsKey, ReadsOptional, or_nil}
use Rattle.machine_model.specs.Runs.{Running}
use Rattle.stack_code.specs.declared.code.Code.{Code}
use Rattle.stack_code.specs.CodeMachine.{code_facts}
use Rattle.stack_code.specs.Good.{GoodCommon}
use Rattle.stack_code.specs.Values.{AllFit, Fits, IsMade, code_types}
use Rattle.stack_code.specs.WellTyped.{WellTyped}
use Rattle.code_keeping.specs.Kinds.{Kind, Mappings, Nils, Strings, kind_of, members_kind, structure_kind, value_kind}
use Rattle.code_keeping.proofs.Coming.{AllCome, Does, IsTyped, RowHolds, does-else, gives-typed, on-world}
use Rattle.code_keeping.proofs.Itself.{its-shape}
use Rattle.code_keeping.proofs.Lists.{all-at}
use Rattle.code_keeping.proofs.OfKind.{of-kind}
use Rattle.code_keeping.proofs.Operands.{a-string, mappings, one-fit, strings, two-fit}
use Rattle.code_keeping.proofs.Staying.{same}
use Rattle.code_keeping_heap.proofs.Mapped.{a-mapping, entries-made, entry-all, in-mapping, key-there}

module _ (code : Code) (t : WellTyped code) (c : Common) (good : GoodCommon code c Running) (result : Option SemType) where
  -- what comes of a mapping in the heap
  pub at-mapping : (n : ℕ) (s : Structure) (es : List (Text × Value)) → slice_get c.world.heap.structures n ≡ Some s → s.members ≡ Entries es → (P : Structure → List (Text × Value) → Came → Type 0) → Does code c good result (P s es) →
      Does code c good result (λ came. MappingAt c.world n (λ s es. P s es came))
  at-mapping n s es e is P d =
      subst (λ o. Does code c good result (λ came. IsSomeAnd o (λ s. HasEntries (λ es. P s es came) s.members))) (sym e) (subst (λ m. Does code c good result (λ came. HasEntries (λ es. P s es came) m)) (sym is) d)

  nil-typed : (P : Shape → Type 0) → P NilShape → ResultHas code.atoms result P → IsTyped code c good result (gives c.world Nil)
  nil-typed P nil has = gives-typed code c good result Nil P has (tt, tt, tt) (λ x valid s. subst P (sym (its-shape code c NilConstant x s)) nil)

  module _ (n : ℕ) (s : Structure) (es : List (Text × Value)) (e : slice_get c.world.heap.structures n ≡ Some s) (is : s.members ≡ Entries es) (a : SemType) (fits : Fits code c (Struct n) a) where
    few : length es < 2 ^ 63
    few = subst (λ m. size_of m < 2 ^ 63) is (all-at (λ s. size_of s.members < 2 ^ 63) c.world.heap.structures n s good.nearly.heap.short e)

    abbrev In-a : Text → Shape → Type 0
    In-a key x = (w : Shape) × IsValid w × In code.atoms w a × StandsIn (Field key) w x × StandsIn AnyField w x

    whole : (key : Text) (v : Value) → entry_at es key ≡ Some v → (x : Shape) → IsValid x → Stands (code_types code) c.world.heap v x → In-a key x
    whole key v ev x valid stands = in-mapping code t c good.nearly.heap n s es e is few key v ev x valid stands a fits

    made-at : (key : Text) (v : Value) → entry_at es key ≡ Some v → IsMade code c v
    made-at key v ev = entry-all (λ e. IsMade code c e.1) es key v (entries-made code t c good.nearly.heap n s es e is few) ev

    -- at a key that may be one or any: it is decided whether the shape is in the result
    key-in : (b : SemType) (key : Text) (v : Value) → entry_at es key ≡ Some v → Fits code c (Str key) b → (r : SemType) → ((x : Shape) → IsValid x → StandsAtKey code.atoms a b x ⊎ IsNil x → In code.atoms x r) →
        (x : Shape) → IsValid x → Stands (code_types code) c.world.heap v x → In code.atoms x r
    key-in b key v ev at r has x valid stands = by (In-decided code.atoms x r) (whole key v ev x valid stands)
      where
        same-key : (other : Text) → IsSingleKey code.atoms b other → key ≡ other
        same-key other single = let q : StrShape key ≡ StrShape other = (single.1 (StrShape key) at.1.1).0 (at.2 (StrShape key) at.1.1 refl) in let z : key ≡ other = cc in z

        by : In code.atoms x r ⊎ (¬ (In code.atoms x r)) → In-a key x → In code.atoms x r
        by (inl is-in) w = is-in
        by (inr never) (w, ok, inside, at-key, any) =
            absurd (never (has x valid (inl (
              AnyField,
              inr (λ other single. never (has x valid (inl (Field other, inl (other, single, refl), (w, (ok, inside), subst (λ k. StandsIn (Field k) w x) (same-key other single) at-key)))), refl),
              (w, (ok, inside), any),
            ))))

    key-typed : (b : SemType) (key : Text) → Fits code c (Str key) b → ResultHas code.atoms result (λ x. StandsAtKey code.atoms a b x ⊎ IsNil x) → IsTyped code c good result (gives c.world (or_nil (entry_at es key)))
    key-typed b key at has = by (entry_at es key) refl
      where
        given : (v : Value) → entry_at es key ≡ Some v → (r : Option SemType) → ResultHas code.atoms r (λ x. StandsAtKey code.atoms a b x ⊎ IsNil x) → AllFit code c (v ∷ []) (option_to_list r)
        given v ev (Some r) has = ((good.nearly.heap.closed, made-at key v ev, (λ x valid stands. key-in b key v ev at r has x valid stands)), tt)
        given v ev None has = absurd has

        by : (o : Option Value) → entry_at es key ≡ o → IsTyped code c good result (gives c.world (or_nil o))
        by (Some v) ev = (good, (refl, refl), (λ q. same q c), given v ev result has)
        by None ev = nil-typed (λ x. StandsAtKey code.atoms a b x ⊎ IsNil x) (inr refl) has

    -- by a name
    field-typed : (name : Text) (v : Value) → entry_at es name ≡ Some v → (P : Shape → Type 0) → ((x : Shape) → StandsAt code.atoms a (Field name) x → P x) → ResultHas code.atoms result P → IsTyped code c good result (gives c.world v)
    field-typed name v ev P at has = gives-typed code c good result v P has (made-at name v ev) (λ x valid stands. let (w, ok, inside, at-name, any) = whole name v ev x valid stands in at x (w, (ok, inside), at-name))

    does-field : (name : Text) → IsWithin code.atoms (HasKeyIn name) a → ResultHas code.atoms result (StandsAt code.atoms a (Field name)) → Does code c good result (ReadsField c.world n name)
    does-field name within has = at-mapping n s es e is (λ s es came. IsSomeAnd (entry_at es name) (λ v. came ≡ gives c.world v)) (by (entry_at es name) refl (key-there code t c good.nearly.heap n s es e is few a name fits within))
      where
        by : (o : Option Value) → entry_at es name ≡ o → IsSomeAnd o (λ v. Unit {0}) → Does code c good result (λ came. IsSomeAnd o (λ v. came ≡ gives c.world v))
        by (Some v) ev there = does-else code c good result (gives c.world v) (field-typed name v ev (StandsAt code.atoms a (Field name)) (λ x h. h) has)
        by None ev there = absurd there

    optional-typed : (name : Text) → ResultHas code.atoms result (λ x. StandsAt code.atoms a (Field name) x ⊎ IsNil x) → IsTyped code c good result (gives c.world (or_nil (entry_at es name)))
    optional-typed name has = by (entry_at es name) refl
      where
        by : (o : Option Value) → entry_at es name ≡ o → IsTyped code c good result (gives c.world (or_nil o))
        by (Some v) ev = field-typed name v ev (λ x. StandsAt code.atoms a (Field name) x ⊎ IsNil x) (λ x h. inl h) has
        by None ev = nil-typed (λ x. StandsAt code.atoms a (Field name) x ⊎ IsNil x) (inr refl) has

-- ---- rows

members-kind : (name : Text) (x : Shape) → HasKeyIn name x → kind_of x ≡ Mappings
members-kind name (Mapping' mark _ fields) h = refl
members-kind name _ h = absurd h

abbrev IsMapOrNil : Kind → Type 0
IsMapOrNil k = (k ≡ Mappings) ⊎ (k ≡ Nils)

module _ (fillers : ℕ → List Filler) (natives : Answers) (code : Code) (t : WellTyped code) (c : Common) (place : Surroundings) where
  pub get-key : RowHolds code fillers natives c place op.GetKey
  get-key operands result vs caller good typed fit =
      two-fit code c (λ us. AllCome code c result (Performs (code_facts fillers code) natives op.GetKey us caller c)) operands vs _ typed fit
      (λ a b v w (first, second, has) f g.
      a-mapping c.world.heap (λ z. Fits code c z a → AllCome code c result (Performs (code_facts fillers code) natives op.GetKey (z ∷ w ∷ []) caller c)) v (of-kind code t c good.nearly.heap (λ k. k ≡ Mappings) v a f (λ x h. mappings x (first x h)))
      (λ n s es e is fn.
      a-string c.world.heap (λ z. Fits code c z b → AllCome code c result (Performs (code_facts fillers code) natives op.GetKey (Struct n ∷ z ∷ []) caller c)) w (of-kind code t c good.nearly.heap (λ k. k ≡ Strings) w b g (λ x h. strings x (second x h)))
      (λ key gk. on-world code c good result (λ w. ReadsKey w n key)
      (at-mapping code t c good result n s es e is (λ s es came. came ≡ gives c.world (or_nil (entry_at es key))) (does-else code c good result (gives c.world (or_nil (entry_at es key))) (key-typed code t c good result n s es e is a fn b key gk has)))) g) f)

  pub get-field : (name : Text) → RowHolds code fillers natives c place (op.GetField name)
  get-field name operands result vs caller good typed fit =
      one-fit code c (λ us. AllCome code c result (Performs (code_facts fillers code) natives (op.GetField name) us caller c)) operands vs _ typed fit
      (λ a v (within, has) f.
      a-mapping c.world.heap (λ z. Fits code c z a → AllCome code c result (Performs (code_facts fillers code) natives (op.GetField name) (z ∷ []) caller c)) v (of-kind code t c good.nearly.heap (λ k. k ≡ Mappings) v a f (λ x h. members-kind name x (within x h)))
      (λ n s es e is fn. on-world code c good result (λ w. ReadsField w n name) (does-field code t c good result n s es e is a fn name within has)) f)

  -- a mapping or nil
  map-or-nil : (R : Value → Type 0) (v : Value) → IsMapOrNil (value_kind c.world.heap v) → R Nil → ((n : ℕ) (s : Structure) (es : List (Text × Value)) → slice_get c.world.heap.structures n ≡ Some s → s.members ≡ Entries es → R (Struct n)) → R v
  map-or-nil R v (inl e) nil mapping = a-mapping c.world.heap R v e mapping
  map-or-nil R v (inr e) nil mapping = a-nil v e
    where
      no-nil : (o : Option Structure) → structure_kind o ≡ Nils → ⊥
      no-nil None e = let q : ⊥ = cc in q
      no-nil (Some s) e = on s.members e
        where
          on : (m : Members) → members_kind m ≡ Nils → ⊥
          on (Entries es) e = let q : ⊥ = cc in q
          on (Items vs) e = let q : ⊥ = cc in q

      a-nil : (v : Value) → value_kind c.world.heap v ≡ Nils → R v
      a-nil Nil e = nil
      a-nil (Struct n) e = absurd (no-nil _ e)
      a-nil (Truth b) e = absurd (let q : ⊥ = cc in q)
      a-nil (Int i) e = absurd (let q : ⊥ = cc in q)
      a-nil (Str s) e = absurd (let q : ⊥ = cc in q)
      a-nil (Error n) e = absurd (let q : ⊥ = cc in q)
      a-nil (Function n) e = absurd (let q : ⊥ = cc in q)
      a-nil (Future n unit) e = absurd (let q : ⊥ = cc in q)

  of-both : (x : Shape) → IsMapping x ⊎ IsNil x → IsMapOrNil (kind_of x)
  of-both x (inl h) = inl (mappings x h)
  of-both x (inr e) = inr (ap kind_of e)

  pub get-optional : (name : Text) → RowHolds code fillers natives c place (op.GetOptional name)
  get-optional name operands result vs caller good typed fit =
      one-fit code c (λ us. AllCome code c result (Performs (code_facts fillers code) natives (op.GetOptional name) us caller c)) operands vs _ typed fit
      (λ a v (within, has) f.
      map-or-nil (λ z. Fits code c z a → AllCome code c result (Performs (code_facts fillers code) natives (op.GetOptional name) (z ∷ []) caller c)) v (of-kind code t c good.nearly.heap IsMapOrNil v a f (λ x h. of-both x (within x h)))
      (λ fn. on-world code c good result (λ w. ReadsOptional w Nil name) (does-else code c good result (gives c.world Nil) (nil-typed code t c good result (λ x. StandsAt code.atoms a (Field name) x ⊎ IsNil x) (inr refl) has)))
      (λ n s es e is fn. on-world code c good result (λ w. ReadsOptional w (Struct n) name)
      (at-mapping code t c good result n s es e is (λ s es came. came ≡ gives c.world (or_nil (entry_at es name))) (does-else code c good result (gives c.world (or_nil (entry_at es name))) (optional-typed code t c good result n s es e is a fn name has)))) f)
