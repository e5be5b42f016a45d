-- Errors are made, each with its detail.
use Rattle.std.proofs.Common.{◌≡◌, ◌<◌, ◌≤◌, ◌+◌, ◌^◌, ℕ, zero, suc, false, List, [], ◌∷◌, Option, Some, None, inl, inr, length, map, refl, sym, ap, subst, arith}
use Rattle.std.proofs.lemmas.List.{append-nil, length-append}
use Rattle.std.proofs.lemmas.List.Elements.{All-cons, All-head, All-nil, All-tail}
use Rattle.std.specs.Prelude.{◌⊎◌, All, Any, IfSome, IsSomeAnd, slice_get, sum_by, ⊤}
use Rattle.std.specs.List.{AllZip}
use Rattle.std.specs.Ptr.{null_ptr}
use Rattle.bal_base.specs.declared.shape.Shape.{Shape, Nil as NilShape, Bool as BoolShape, Int as IntShape, Str as StrShape, List', Mapping', Error', Function as FunctionShape, Future', items-the_row-Fields-items-2 as fields_in}
use Rattle.bal_base.specs.declared.text.Text.{Text}
use Rattle.bal_base.specs.Valid.{IsMarkedMapping, IsText, IsValid}
use Rattle.type_model.specs.declared.basic.SemType.{SemType}
use Rattle.type_model.specs.Membership.{In}
use Rattle.operations.specs.declared.operation.Operation.TheVariants as op
use Rattle.operations.specs.Kinds.{IsError, IsErrorOf, IsImmutableData, IsNil, IsString}
use Rattle.operations.specs.Rows.{InPairs, IsWithin, OneAndMore, ResultHas, Surroundings}
use Rattle.operations.specs.Structures.{IsDetailOf}
use Rattle.value_model.specs.declared.filler.Filler.{Filler}
use Rattle.value_model.specs.declared.value.Value.{Value}
use Rattle.value_model.specs.declared.value.Value.TheVariants.{Nil, Bool as Truth, Int, Str, Struct, Error, Function, Future}
use Rattle.value_model.specs.Heap.{Entries, ErrorObject, Grows, Heap, Items, Members, Stays, Structure, cells, entry_at}
use Rattle.value_model.specs.Meaning.{Answers}
use Rattle.value_model.specs.Stands.{HasShape, Stands}
use Rattle.value_model.specs.World.{World}
use Rattle.value_model.proofs.Stability.{HasShape-stable}
use Rattle.op_model.specs.Common.{Common}
use Rattle.op_model.specs.Effects.{lifted, with_world}
use Rattle.op_model.specs.Limits.{most_cells}
use Rattle.op_model.specs.Local.{twice}
use Rattle.op_model.specs.Operands.{pairs_of}
use Rattle.op_model.specs.Performs.{Performs}
use Rattle.op_model.specs.Rows.{gives, makes_error, new_structure, next_error, within}
use Rattle.op_model.specs.Stores.{entries_from}
use Rattle.op_model.specs.StructureRows.{MakesError}
use Rattle.machine_model.specs.Runs.{Running}
use Rattle.stack_code.specs.declared.code.Code.{Code}
use Rattle.stack_code.specs.CodeMachine.{code_facts}
use Rattle.stack_code.specs.Good.{GoodCommon}
use Rattle.stack_code.specs.Values.{ComeOnce, Fits, IsMade, code_types}
use Rattle.stack_code.specs.WellTyped.{WellTyped}
use Rattle.code_keeping.specs.Kinds.{Errors, Kind, Nils, Strings, kind_of, members_kind, structure_kind, value_kind}
use Rattle.code_keeping.specs.Rows.{EffectTyped}
use Rattle.code_keeping.proofs.Coming.{AllCome, Does, RowHolds, does-else, on-world}
use Rattle.code_keeping.proofs.Growing.{IsGrown, IsNewError, IsNewStructure, front-or-behind, gave-typed, get-front, get-last, later, made-there, one-given, within-gave}
use Rattle.code_keeping.proofs.Lists.{at-some, of-some}
use Rattle.code_keeping.proofs.OfKind.{of-kind}
use Rattle.code_keeping.proofs.Operands.{a-string, errors, more-fit, strings}
use Rattle.code_keeping.proofs.Serving.{all-to}
use Rattle.code_keeping.proofs.Staying.{stays-same}
use Rattle.code_keeping_heap.proofs.Adding.{greatest-last}
use Rattle.code_keeping_heap.proofs.Entries.{PairFits, entries-all, entries-apart, entries-there, paired, pairs-long, strings-of}
use Rattle.code_keeping_heap.proofs.Making.{one-there}
use Rattle.code_keeping_heap.proofs.Mapped.{IsFrozenAs, IsHeld, entry-all, frozen-as}
use Rattle.code_keeping_heap.proofs.Mapping.{HasFrozen, frozen-shape, frozen-stands, frozen-valid, pair-frozen, pairs-all}
use Rattle.code_keeping_heap.proofs.Reading.{has-stands}
use Rattle.code_keeping_heap.proofs.Sorting.{Fields, has-any}

-- ---- an error with this detail

module _ (code : Code) (t : WellTyped code) (c : Common) (good : GoodCommon code c Running) (message : Text) (cause : Option ℕ) (es : List (Text × Value)) (text : IsText message) (there : IfSome cause (λ n. n < length c.world.heap.errors)) (made : All (λ e. IsMade code c e.1) es)
    (texts : All (λ e. IsText e.0) es) (apart : ComeOnce es) (frozen : All (HasFrozen code c) es) where
  abbrev heap : Heap
  heap = c.world.heap

  abbrev w : World
  w = makes_error c.world message cause es

  abbrev d : Common
  d = with_world c w

  abbrev detail : Structure
  detail = new_structure None false (Entries es)

  abbrev next : ℕ
  next = length heap.structures

  abbrev error : ErrorObject
  error = record { message = message; cause = cause; detail = next }

  abbrev number : ℕ
  number = length heap.errors

  grows : Grows heap w.heap
  grows =
      record {
        structures = λ n x e. at-some (Stays x) (slice_get w.heap.structures n) x (get-front heap.structures (detail ∷ []) n x e) (stays-same x);
        errors = (error ∷ [], refl);
        functions = ([], sym (append-nil heap.functions));
      }

  at-detail : slice_get w.heap.structures next ≡ Some detail
  at-detail = get-last heap.structures detail

  at-error : slice_get w.heap.errors number ≡ Some error
  at-error = get-last heap.errors error

  more-errors : number < length w.heap.errors
  more-errors = let n = length-append heap.errors (error ∷ []) in omega (arith, n)

  cause-there : (o : Option ℕ) → IfSome o (λ n. n < number) → IfSome o (λ n. n < length w.heap.errors)
  cause-there None l = tt
  cause-there (Some n) l = let m = more-errors in omega (arith, l, m)

  still : (v : Value) (x : Shape) → IsMade code c v → HasShape heap x v → HasShape w.heap x v
  still v x m h = (HasShape-stable heap w.heap good.nearly.heap.closed grows x v m.0).0 h

  module _ (small : cells w.heap ≤ most_cells) where
    few : length es < 2 ^ 63
    few = let l : length es ≤ sum_by (λ (x : Structure). x.greatest + 1) w.heap.structures = greatest-last heap.structures detail 0 in omega (arith, l, small)

    shape : Shape
    shape = frozen-shape code c w.heap still es made texts apart few frozen next detail at-detail refl refl

    shape-valid : IsValid shape
    unfolding shape
    shape-valid = frozen-valid code c w.heap still es made texts apart few frozen next detail at-detail refl refl

    shape-stands : HasShape w.heap shape (Struct next)
    unfolding shape
    shape-stands = frozen-stands code c w.heap still es made texts apart few frozen next detail at-detail refl refl

    whole : Shape
    whole = Error' (record { ptr = null_ptr; alloc = record { memory = _ }; value = tt }) shape

    whole-valid : IsValid whole
    unfolding whole shape
    whole-valid = (refl, shape-valid)

    whole-stands : HasShape w.heap whole (Error number)
    unfolding whole
    whole-stands = at-some (λ e. HasShape w.heap shape (Struct e.detail)) (slice_get w.heap.errors number) error at-error shape-stands

    new-detail : IsNewStructure code c w good.nearly.heap grows next detail
    new-detail =
        record {
          mutable = λ m. absurd (let q : ⊥ = cc in q);
          frozen = λ f. (shape, shape-valid, shape-stands);
          made = by es made;
          valid = λ k x l. (texts k x l, (made k x l).1);
          short = few;
          apart = apart;
        }
      where
        by : (es : List (Text × Value)) → All (λ e. IsMade code c e.1) es → All (IsMade code d) (map (λ e. e.1) es)
        by [] h = All-nil _
        by (e ∷ es) h = All-cons (IsMade code d) e.1 (map (λ e. e.1) es) (made-there code c w good.nearly.heap grows e.1 (All-head (λ (e : Text × Value). IsMade code c e.1) e es h)) (by es (All-tail (λ (e : Text × Value). IsMade code c e.1) e es h))

    new-error : IsNewError code c w good.nearly.heap grows number error
    new-error =
        record {
          message = text;
          detail = let n = length-append heap.structures (detail ∷ []) in omega (arith, n);
          cause = cause-there cause there;
          shape = (whole, whole-valid, whole-stands);
        }

    grown : IsGrown code c w good.nearly.heap grows
    grown = record { structures = λ n s e. by n s (front-or-behind heap.structures (detail ∷ []) n s e); errors = λ n e is. on n e (front-or-behind heap.errors (error ∷ []) n e is); functions = λ n f e. inl e }
      where
        by : (n : ℕ) (s : Structure) → (slice_get heap.structures n ≡ Some s) ⊎ ((m : ℕ) × (n ≡ next + m) × (slice_get (detail ∷ []) m ≡ Some s)) → (slice_get heap.structures n ≡ Some s) ⊎ IsNewStructure code c w good.nearly.heap grows n s
        by n s (inl e) = inl e
        by n s (inr (zero, at, e)) = inr (subst (λ k. IsNewStructure code c w good.nearly.heap grows k s) (let q : next ≡ n = omega (arith, at) in q) (subst (λ x. IsNewStructure code c w good.nearly.heap grows next x) (one-there detail zero s e) new-detail))
        by n s (inr (suc m, at, e)) = absurd (let q : ⊥ = cc in q)

        on : (n : ℕ) (e : ErrorObject) → (slice_get heap.errors n ≡ Some e) ⊎ ((m : ℕ) × (n ≡ number + m) × (slice_get (error ∷ []) m ≡ Some e)) → (slice_get heap.errors n ≡ Some e) ⊎ IsNewError code c w good.nearly.heap grows n e
        on n e (inl is) = inl is
        on n e (inr (zero, at, is)) = inr (subst (λ k. IsNewError code c w good.nearly.heap grows k e) (let q : number ≡ n = omega (arith, at) in q) (subst (λ x. IsNewError code c w good.nearly.heap grows number x) (one-there error zero e is) new-error))
        on n e (inr (suc m, at, is)) = absurd (let q : ⊥ = cc in q)

  -- ---- what it stands for

  module _ (pairs : List (SemType × SemType)) (each : All (λ e. Any (λ p. In code.atoms (StrShape e.0) p.0 × ((x : Shape) → IsValid x → Stands (code_types code) heap e.1 x → In code.atoms x p.1)) pairs) es)
      (all : All (λ p. (key : Text) × In code.atoms (StrShape key) p.0 × IsSomeAnd (entry_at es key) (λ v. ⊤)) pairs) where
    -- an entry of the detail, by its key
    entry-so : (key : Text) (v : Value) → entry_at es key ≡ Some v → Any (λ p. In code.atoms (StrShape key) p.0 × ((x : Shape) → IsValid x → Stands (code_types code) heap v x → In code.atoms x p.1)) pairs
    entry-so key v e = entry-all (λ e. Any (λ p. In code.atoms (StrShape e.0) p.0 × ((x : Shape) → IsValid x → Stands (code_types code) heap e.1 x → In code.atoms x p.1)) pairs) es key v each e

    made-so : (key : Text) (v : Value) → entry_at es key ≡ Some v → IsMade code c v
    made-so key v e = entry-all (λ e. IsMade code c e.1) es key v made e

    any-to : (P Q : SemType × SemType → Type 0) → ((p : SemType × SemType) → P p → Q p) → (ps : List (SemType × SemType)) → Any P ps → Any Q ps
    any-to P Q f ps (k, x, l, is, p) = (k, x, l, is, f x p)

    -- a field of a shape of the detail
    field-so : (f : Text × Shape) → IsValid f.1 → IsHeld w.heap es f → Any (λ p. In code.atoms (StrShape f.0) p.0 × In code.atoms f.1 p.1) pairs
    field-so f valid held = by (entry_at es f.0) refl held
      where
        by : (o : Option Value) → entry_at es f.0 ≡ o → IsSomeAnd o (λ v. HasShape w.heap f.1 v) → Any (λ p. In code.atoms (StrShape f.0) p.0 × In code.atoms f.1 p.1) pairs
        by None e h = absurd h
        by (Some v) e h =
            let back : HasShape heap f.1 v = (HasShape-stable heap w.heap good.nearly.heap.closed grows f.1 v (made-so f.0 v e).0).1 h in
            let stands : Stands (code_types code) heap v f.1 = has-stands heap code v f.1 (made-so f.0 v e).0 back in
            any-to (λ p. In code.atoms (StrShape f.0) p.0 × ((x : Shape) → IsValid x → Stands (code_types code) heap v x → In code.atoms x p.1)) (λ p. In code.atoms (StrShape f.0) p.0 × In code.atoms f.1 p.1) (λ p k. (k.0, k.1 f.1 valid stands)) pairs (entry-so f.0 v e)

    detail-so : (fs : Fields) → IsFrozenAs w.heap es fs → IsDetailOf code.atoms pairs fs
    detail-so fs were = (
      λ k x l. field-so _ (were.valid k x l) (were.held k x l),
      all-to (λ p. (key : Text) × In code.atoms (StrShape key) p.0 × IsSomeAnd (entry_at es key) (λ v. ⊤)) (λ p. Any (λ m. In code.atoms (StrShape m.0) p.0) fs) (λ p h. named h.0 p h.1 (has-any fs h.0 (were.keys h.0 h.2))) pairs all,
    )
      where
        named : (key : Text) (p : SemType × SemType) → In code.atoms (StrShape key) p.0 → Any (λ m. m.0 ≡ key) fs → Any (λ m. In code.atoms (StrShape m.0) p.0) fs
        named key p inside (k, x, l, is, e) = (k, x, l, is, subst (λ t. In code.atoms (StrShape t) p.0) (sym e) inside)

    detail-of : (y : Shape) → IsValid y → IsMarkedMapping y → HasShape w.heap y (Struct next) → (n : _) → IsErrorOf (IsDetailOf code.atoms pairs) (Error' n y)
    detail-of (Mapping' mark view fields) valid marked has n = detail-so (fields_in _ fields) (frozen-as w.heap es next detail (Mapping' mark view fields) at-detail refl valid has)
    detail-of NilShape valid marked has n = absurd marked
    detail-of (BoolShape b) valid marked has n = absurd marked
    detail-of (IntShape i) valid marked has n = absurd marked
    detail-of (StrShape t) valid marked has n = absurd marked
    detail-of (List' mark _ items) valid marked has n = absurd marked
    detail-of (Error' _ inner) valid marked has n = absurd marked
    detail-of (FunctionShape isolated graph) valid marked has n = absurd marked
    detail-of (Future' _ results) valid marked has n = absurd marked

    stands-so : (x : Shape) → IsValid x → HasShape w.heap x (Error number) → IsErrorOf (IsDetailOf code.atoms pairs) x
    stands-so (Error' b y) valid has = detail-of y valid.1 valid.0 (of-some (λ e. HasShape w.heap y (Struct e.detail)) (slice_get w.heap.errors number) error at-error has) b
    stands-so NilShape valid has = absurd (let q : ⊥ = cc in q)
    stands-so (BoolShape b) valid has = absurd (let q : ⊥ = cc in q)
    stands-so (IntShape i) valid has = absurd (let q : ⊥ = cc in q)
    stands-so (StrShape t) valid has = absurd (let q : ⊥ = cc in q)
    stands-so (List' mark _ items) valid has = absurd has.1
    stands-so (Mapping' mark _ fields) valid has = absurd has.1
    stands-so (FunctionShape isolated graph) valid has = absurd has
    stands-so (Future' _ results) valid has = absurd has

    pub error-typed : (result : Option SemType) → ResultHas code.atoms result (IsErrorOf (IsDetailOf code.atoms pairs)) → EffectTyped code c result (lifted c (within (gives w (Error number))))
    error-typed result has =
        within-gave code c result (Error number ∷ []) w
        (λ small. gave-typed code c result (Error number ∷ []) w good good.nearly.heap grows (grown small)
        (one-given code d result (IsErrorOf (IsDetailOf code.atoms pairs)) (Error number) has ((later code c w good.nearly.heap grows (grown small) None).closed good.nearly.heap.closed) (more-errors, tt, tt) (λ x valid h. stands-so x valid h)))

-- ---- the row

abbrev IsNilOrErrorKind : Kind → Type 0
IsNilOrErrorKind k = (k ≡ Nils) ⊎ (k ≡ Errors)

of-cause : (x : Shape) → IsNil x ⊎ IsError x → IsNilOrErrorKind (kind_of x)
of-cause x (inl e) = inl (ap kind_of e)
of-cause x (inr h) = inr (errors x h)

neither : (h : Heap) (n : ℕ) → IsNilOrErrorKind (value_kind h (Struct n)) → ⊥
neither h n k = by (slice_get h.structures n) k
  where
    on : (m : Members) → IsNilOrErrorKind (members_kind m) → ⊥
    on (Entries es) (inl e) = let q : ⊥ = cc in q
    on (Entries es) (inr e) = let q : ⊥ = cc in q
    on (Items vs) (inl e) = let q : ⊥ = cc in q
    on (Items vs) (inr e) = let q : ⊥ = cc in q

    by : (o : Option Structure) → IsNilOrErrorKind (structure_kind o) → ⊥
    by None (inl e) = let q : ⊥ = cc in q
    by None (inr e) = let q : ⊥ = cc in q
    by (Some s) k = on s.members k

nil-or-error : (h : Heap) (R : Value → Type 0) (v : Value) → IsNilOrErrorKind (value_kind h v) → R Nil → ((n : ℕ) → R (Error n)) → R v
nil-or-error h R Nil k nil error = nil
nil-or-error h R (Error n) k nil error = error n
nil-or-error h R (Struct n) k nil error = absurd (neither h n k)
nil-or-error h R (Truth b) (inl e) nil error = absurd (let q : ⊥ = cc in q)
nil-or-error h R (Truth b) (inr e) nil error = absurd (let q : ⊥ = cc in q)
nil-or-error h R (Int i) (inl e) nil error = absurd (let q : ⊥ = cc in q)
nil-or-error h R (Int i) (inr e) nil error = absurd (let q : ⊥ = cc in q)
nil-or-error h R (Str s) (inl e) nil error = absurd (let q : ⊥ = cc in q)
nil-or-error h R (Str s) (inr e) nil error = absurd (let q : ⊥ = cc in q)
nil-or-error h R (Function n) (inl e) nil error = absurd (let q : ⊥ = cc in q)
nil-or-error h R (Function n) (inr e) nil error = absurd (let q : ⊥ = cc in q)
nil-or-error h R (Future n unit) (inl e) nil error = absurd (let q : ⊥ = cc in q)
nil-or-error h R (Future n unit) (inr e) nil error = absurd (let q : ⊥ = cc in q)

module _ (code : Code) (t : WellTyped code) (c : Common) (good : GoodCommon code c Running) (result : Option SemType) (message : Text) (text : IsText message) (pairs : List (SemType × SemType)) (vs : List Value) (ps : List (Text × Value)) (e : pairs_of vs ≡ Some ps)
    (zip : AllZip (PairFits code c) ps pairs) (each : All (λ p. IsWithin code.atoms IsString p.0 × IsWithin code.atoms IsImmutableData p.1) pairs) (has : ResultHas code.atoms result (IsErrorOf (IsDetailOf code.atoms pairs))) where
  from-pairs : (P : Text × Value → Type 0) → All P ps → All P (entries_from [] ps)
  from-pairs P h = entries-all P [] ps (All-nil P) h

  abbrev IsOfPair : List (SemType × SemType) → Text × Value → Type 0
  IsOfPair ms e = Any (λ p. In code.atoms (StrShape e.0) p.0 × ((x : Shape) → IsValid x → Stands (code_types code) c.world.heap e.1 x → In code.atoms x p.1)) ms

  abbrev HasKeyOf : SemType × SemType → Type 0
  HasKeyOf p = (key : Text) × In code.atoms (StrShape key) p.0 × IsSomeAnd (entry_at (entries_from [] ps) key) (λ v. ⊤)

  of-pair : (ps : List (Text × Value)) (ms : List (SemType × SemType)) → AllZip (PairFits code c) ps ms → All (IsOfPair ms) ps
  of-pair [] [] zip = All-nil _
  of-pair [] (m ∷ ms) zip = absurd zip
  of-pair (p ∷ ps) [] zip = absurd zip
  of-pair (p ∷ ps) (m ∷ ms) (f, zip) =
      All-cons (IsOfPair (m ∷ ms)) p ps (0, m, omega arith, refl, (f.0.2 (StrShape p.0) f.0.1.1 refl, f.1.2))
      (all-to (IsOfPair ms) (IsOfPair (m ∷ ms)) (λ q (k, x, l, is, h). (suc k, x, omega (arith, l), is, h)) ps (of-pair ps ms zip))

  keys-so : (qs : List (Text × Value)) (ms : List (SemType × SemType)) → AllZip (PairFits code c) qs ms → ((q : Text × Value) → Any (λ p. p.0 ≡ q.0) qs → IsSomeAnd (entry_at (entries_from [] ps) q.0) (λ v. ⊤)) → All HasKeyOf ms
  keys-so [] [] zip there = All-nil _
  keys-so [] (m ∷ ms) zip there = absurd zip
  keys-so (p ∷ qs) [] zip there = absurd zip
  keys-so (p ∷ qs) (m ∷ ms) (f, zip) there =
      All-cons HasKeyOf m ms (p.0, f.0.2 (StrShape p.0) f.0.1.1 refl, there p (0, p, omega arith, refl, refl)) (keys-so qs ms zip (λ q (k, x, l, is, h). there q (suc k, x, omega (arith, l), is, h)))

  does-make : (cause : Option ℕ) → IfSome cause (λ n. n < length c.world.heap.errors) → Does code c good result (λ came. IsSomeAnd (pairs_of vs) (λ ps. came ≡ within (gives (makes_error c.world message cause (entries_from [] ps)) (Error (next_error c.world)))))
  does-make cause there =
      subst (λ o. Does code c good result (λ came. IsSomeAnd o (λ ps. came ≡ within (gives (makes_error c.world message cause (entries_from [] ps)) (Error (next_error c.world)))))) (sym e)
      (does-else code c good result (within (gives (makes_error c.world message cause (entries_from [] ps)) (Error (next_error c.world))))
      (error-typed code t c good message cause (entries_from [] ps) text there (from-pairs (λ p. IsMade code c p.1) (pairs-all (PairFits code c) (λ m. ⊤) (λ p. IsMade code c p.1) (λ p m r q. r.1.1) ps pairs zip (λ k d l. tt)))
      (from-pairs (λ p. IsText p.0) (pairs-all (PairFits code c) (λ m. ⊤) (λ p. IsText p.0) (λ p m r q. r.0.1.1) ps pairs zip (λ k d l. tt))) (entries-apart [] ps tt)
      (from-pairs (HasFrozen code c) (pairs-all (PairFits code c) (λ p. IsWithin code.atoms IsString p.0 × IsWithin code.atoms IsImmutableData p.1) (HasFrozen code c) (λ p m r q. pair-frozen code c t good.nearly.heap p m r q.1) ps pairs zip each))
      pairs (from-pairs (IsOfPair pairs) (of-pair ps pairs zip)) (keys-so ps pairs zip (λ q any. entries-there [] ps q.0 (inr any))) result has))

pub make-error : (fillers : ℕ → List Filler) (natives : Answers) (code : Code) → WellTyped code → (c : Common) (place : Surroundings) (count : ℕ) → RowHolds code fillers natives c place (op.MakeError count)
make-error fillers natives code t c place count operands result vs caller good typed fit =
    more-fit code c (λ us. AllCome code c result (Performs (code_facts fillers code) natives (op.MakeError count) us caller c)) operands vs _ typed fit
    (λ a behind v ws more f fits.
    more-fit code c (λ us. AllCome code c result (Performs (code_facts fillers code) natives (op.MakeError count) (v ∷ us) caller c)) behind ws _ more fits
    (λ b details w us row g fit-details.
    let (pairs, (is-string, is-cause, each, has), are) = paired code c count details us _ row fit-details in
    let (ps, e, zip) = strings-of code c t good.nearly.heap us pairs are (all-to (λ (p : SemType × SemType). IsWithin code.atoms IsString p.0 × IsWithin code.atoms IsImmutableData p.1) (λ (p : SemType × SemType). IsWithin code.atoms IsString p.0) (λ p k. k.0) pairs each) in
    a-string c.world.heap (λ z. Fits code c z a → AllCome code c result (Performs (code_facts fillers code) natives (op.MakeError count) (z ∷ w ∷ us) caller c)) v (of-kind code t c good.nearly.heap (λ k. k ≡ Strings) v a f (λ x h. strings x (is-string x h)))
    (λ message fm.
    nil-or-error c.world.heap (λ z. Fits code c z b → AllCome code c result (Performs (code_facts fillers code) natives (op.MakeError count) (Str message ∷ z ∷ us) caller c)) w (of-kind code t c good.nearly.heap IsNilOrErrorKind w b g (λ x h. of-cause x (is-cause x h)))
    (λ fw. on-world code c good result (λ w. MakesError w message Nil us) (does-make code t c good result message fm.1.1 pairs us ps e zip each has None tt))
    (λ n fw. on-world code c good result (λ w. MakesError w message (Error n) us) (does-make code t c good result message fm.1.1 pairs us ps e zip each has (Some n) fw.1.0)) g) f))

pub error-long : (operands : List SemType) (count : ℕ) (P : SemType → SemType → List (SemType × SemType) → Type 0) → OneAndMore operands (λ m behind. OneAndMore behind (λ k details. InPairs count details (P m k))) → length operands ≡ suc (suc (twice count))
error-long [] count P h = absurd h
error-long (a ∷ []) count P h = absurd h
error-long (a ∷ b ∷ details) count P h = ap (λ k. suc (suc k)) (pairs-long count details (P a b) h)
