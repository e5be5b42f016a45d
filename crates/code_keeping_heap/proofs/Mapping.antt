-- Mappings are made.
use Rattle.std.proofs.Common.{◌≡◌, ◌<◌, ◌^◌, ℕ, zero, suc, Bool, true, false, List, [], ◌∷◌, Option, Some, None, inl, inr, length, map, refl, sym, ap, subst, arith}
use Rattle.std.proofs.lemmas.List.Elements.{All-cons, All-head, All-nil, All-tail}
use Rattle.std.specs.Prelude.{◌⊎◌, All, Any, IsFalse, IsSomeAnd, IsTrue, not, slice_get, ⊤}
use Rattle.std.specs.List.{AllZip}
use Rattle.bal_base.specs.declared.shape.Shape.{Shape, Str as StrShape}
use Rattle.bal_base.specs.declared.text.Text.{Text}
use Rattle.bal_base.specs.Valid.{IsFrozen, IsText, IsValid}
use Rattle.type_model.specs.declared.atoms.AtomDef.{AtomDef}
use Rattle.type_model.specs.declared.atoms.AtomDef.TheVariants.{List as ListAtom, Mapping as MappingAtom, Arrow, Error as ErrorAtom, Future as FutureAtom}
use Rattle.type_model.specs.declared.atoms.FieldDef.{FieldDef}
use Rattle.type_model.specs.declared.basic.SemType.{SemType, Atom}
use Rattle.type_model.specs.declared.basic.Ty.{Ty}
use Rattle.type_model.specs.Membership.{In}
use Rattle.type_model.specs.Places.{key_type}
use Rattle.operations.specs.declared.operation.Operation.TheVariants as op
use Rattle.operations.specs.Rows.{IsSingle, IsWithin, ResultHas}
use Rattle.operations.specs.Structures.{IsMade as IsMadeOf, IsMappingAtom, MayStandIn, MemberFits, NamesRequired}
use Rattle.value_model.specs.declared.filler.Filler.{Filler}
use Rattle.value_model.specs.declared.value.Value.{Value}
use Rattle.value_model.specs.declared.value.Value.TheVariants.{Struct}
use Rattle.value_model.specs.Heap.{Entries, Heap, Structure, entry_at}
use Rattle.value_model.specs.Meaning.{Answers}
use Rattle.value_model.specs.Stands.{Belongs, BelongsIf, HasShape}
use Rattle.value_model.specs.Valid.{IsValidValue}
use Rattle.value_model.specs.World.{World}
use Rattle.value_model.proofs.Stability.{HasShape-stable}
use Rattle.op_model.specs.Common.{Common}
use Rattle.op_model.specs.Effects.{lifted}
use Rattle.op_model.specs.Rows.{gives_structure, new_structure}
use Rattle.op_model.specs.Stores.{entries_from}
use Rattle.op_model.specs.StructureRows.{MakesMapping}
use Rattle.machine_model.specs.Runs.{Running}
use Rattle.stack_code.specs.declared.code.Code.{Code}
use Rattle.stack_code.specs.declared.code.Unit.{Unit as CodeUnit}
use Rattle.stack_code.specs.Good.{GoodCommon}
use Rattle.stack_code.specs.Places.{Station, surroundings}
use Rattle.stack_code.specs.Tables.{IsInherent}
use Rattle.stack_code.specs.Values.{ComeOnce, Fits, GoodHeap, IsMade, code_types}
use Rattle.stack_code.specs.WellTyped.{WellTyped}
use Rattle.code_keeping.specs.Rows.{EffectTyped, NamesWell}
use Rattle.code_keeping.proofs.Coming.{Does, RowHolds, does-else, on-world}
use Rattle.code_keeping.proofs.Growing.{belongs-there}
use Rattle.code_keeping.proofs.Lists.{some-to, zip-to}
use Rattle.code_keeping.proofs.Serving.{all-to}
use Rattle.code_keeping.proofs.Shapes.{has-shape}
use Rattle.code_keeping_heap.proofs.Adding.{IsFine, added, at-last, grows, number, short, structure-typed, world-then}
use Rattle.code_keeping_heap.proofs.Entries.{PairFits, entries-all, entries-apart, entries-there, paired, strings-of}
use Rattle.code_keeping_heap.proofs.Mapped.{EntriesBelong, IsFieldOf, IsHeld, apart-held, as-many-fields, fields-shown, mapping-in, mapping-of, mapping-stands, mapping-valid, sorted-in, sorted-short, sorted-texts, sorted-valid}
use Rattle.code_keeping_heap.proofs.Shaping.{IsShown, has-frozen}
use Rattle.code_keeping_heap.proofs.Sorting.{Fields, sorted, sorted-all, sorted-rises}

-- ---- atoms of mappings

pick-mapping : (B : AtomDef → Type 0) (o : Option AtomDef) → IsSomeAnd o B → ((fixed : List Ty) (rest : Option Ty) → B (ListAtom fixed rest) → ⊥) → ((args outcome : SemType) (alone : Bool) → B (Arrow args outcome alone) → ⊥) → ((t : SemType) → B (ErrorAtom t) → ⊥) →
    ((t : SemType) → B (FutureAtom t) → ⊥) → (fields : List FieldDef) × (rest : Option Ty) × (o ≡ Some (MappingAtom fields rest)) × B (MappingAtom fields rest)
pick-mapping B None h list arrow error future = absurd h
pick-mapping B (Some (MappingAtom fields rest)) h list arrow error future = (fields, rest, refl, h)
pick-mapping B (Some (ListAtom fixed rest)) h list arrow error future = absurd (list fixed rest h)
pick-mapping B (Some (Arrow args outcome alone)) h list arrow error future = absurd (arrow args outcome alone h)
pick-mapping B (Some (ErrorAtom t)) h list arrow error future = absurd (error t h)
pick-mapping B (Some (FutureAtom t)) h list arrow error future = absurd (future t h)

pub mapping-atom : (env : List AtomDef) (a : ℕ) (P : List FieldDef → Option Ty → Type 0) → IsMappingAtom env a P → (fields : List FieldDef) × (rest : Option Ty) × (slice_get env a ≡ Some (MappingAtom fields rest)) × P fields rest
mapping-atom env a P h = pick-mapping _ (slice_get env a) h (λ fixed rest k. k) (λ args outcome alone k. k) (λ t k. k) (λ t k. k)

-- ---- entries of immutable mappings

module _ (code : Code) (c : Common) where
  -- an entry has a shape that is immutable data
  abbrev pub HasFrozen : Text × Value → Type 0
  HasFrozen e = (x : Shape) × IsShown code c e.1 x × IsFrozen x × HasShape c.world.heap x e.1

  abbrev pub IsFrozenField : Text × Value → Text × Shape → Type 0
  IsFrozenField e f = IsFieldOf code c e f × IsFrozen f.1 × HasShape c.world.heap f.1 e.1

  pub fields-frozen : (es : List (Text × Value)) → All HasFrozen es → (ps : Fields) × AllZip IsFrozenField es ps
  fields-frozen [] all = ([], tt)
  fields-frozen (e ∷ es) all =
      let (x, is-shown, frozen, has) = frozen-of (All-head HasFrozen e es all) in
      let (ps, zip) = fields-frozen es (All-tail HasFrozen e es all) in
      ((e.0, x) ∷ ps, (((refl, is-shown), frozen, has), zip))
    where
      frozen-of : HasFrozen e → HasFrozen e
      frozen-of h = h

  -- a pair whose value is immutable data in its type has one
  pub pair-frozen : (t : WellTyped code) (good : GoodHeap code c) (p : Text × Value) (m : SemType × SemType) → PairFits code c p m → IsWithin code.atoms IsFrozen m.1 → HasFrozen p
  pair-frozen t good p m (key, (closed, made, belongs)) within =
      let (x, valid, stands) = has-shape code t c good p.1 made in
      let frozen : IsFrozen x = within x (valid, belongs x valid stands) in
      (x, (valid, stands), frozen, has-frozen code t c good p.1 made x frozen stands)

  module _ (h : Heap) (still : (v : Value) (x : Shape) → IsMade code c v → HasShape c.world.heap x v → HasShape h x v) (es : List (Text × Value)) (made : All (λ e. IsMade code c e.1) es) (texts : All (λ e. IsText e.0) es) (apart : ComeOnce es) (few : length es < 2 ^ 63)
      (frozen : All HasFrozen es) (n : ℕ) (s : Structure) (at : slice_get h.structures n ≡ Some s) (is-frozen : IsFalse s.mutable) (is : s.members ≡ Entries es) where
    abbrev own : Fields
    own = (fields-frozen es frozen).0

    with-own : AllZip IsFrozenField es own
    with-own = (fields-frozen es frozen).1

    shown : AllZip (IsFieldOf code c) es own
    shown = zip-to IsFrozenField (IsFieldOf code c) (λ e f k. k.0) es own with-own

    pub little : length (sorted own) < 2 ^ 63
    little = sorted-short code c es own shown few

    held : AllZip (λ e f. (f.0 ≡ e.0) × HasShape h f.1 e.1) es own
    held = by es own made with-own
      where
        by : (es : List (Text × Value)) (ps : Fields) → All (λ e. IsMade code c e.1) es → AllZip IsFrozenField es ps → AllZip (λ e f. (f.0 ≡ e.0) × HasShape h f.1 e.1) es ps
        by [] [] made k = tt
        by [] (p ∷ ps) made k = absurd k
        by (e ∷ es) [] made k = absurd k
        by (e ∷ es) (p ∷ ps) made (k, more) = ((k.0.0, still e.1 p.1 (All-head (λ (e : Text × Value). IsMade code c e.1) e es made) k.2), by es ps (All-tail (λ (e : Text × Value). IsMade code c e.1) e es made) more)

    all-frozen : All (λ f. IsFrozen f.1) own
    all-frozen = by es own with-own
      where
        by : (es : List (Text × Value)) (ps : Fields) → AllZip IsFrozenField es ps → All (λ f. IsFrozen f.1) ps
        by [] [] k = All-nil _
        by [] (p ∷ ps) k = absurd k
        by (e ∷ es) [] k = absurd k
        by (e ∷ es) (p ∷ ps) (k, more) = All-cons (λ (f : Text × Shape). IsFrozen f.1) p ps k.1 (by es ps more)

    -- the shape of the immutable mapping
    abbrev pub frozen-shape : Shape
    frozen-shape = mapping-of true (sorted own) little

    pub frozen-valid : IsValid frozen-shape
    frozen-valid = mapping-valid true (sorted own) little (sorted-texts code c es own shown texts) (sorted-rises own) (λ m. sorted-all (λ f. IsFrozen f.1) own all-frozen) (sorted-valid code c es own shown)

    pub frozen-stands : HasShape h frozen-shape (Struct n)
    frozen-stands = mapping-stands h n s es (sorted own) little at is-frozen is (as-many-fields code c es own shown apart) (sorted-all (IsHeld h es) own (apart-held h es own held apart))

    pub frozen-in : (fields : List FieldDef) (rest : Option Ty) (a : ℕ) → slice_get code.atoms a ≡ Some (MappingAtom fields rest) → EntriesBelong code c.world.heap es fields rest → In code.atoms frozen-shape (Atom a)
    frozen-in fields rest a ea belongs = let (required, each) = sorted-in code c es own shown fields rest belongs in mapping-in code c true (sorted own) little fields rest a ea required each

-- ---- the row

module _ (code : Code) (t : WellTyped code) (c : Common) (good : GoodCommon code c Running) (atom : ℕ) (immutable : Bool) (es : List (Text × Value)) (known : IsInherent code atom) (fields : List FieldDef) (rest : Option Ty) (ea : slice_get code.atoms atom ≡ Some (MappingAtom fields rest))
    (made : All (λ e. IsMade code c e.1) es) (texts : All (λ e. IsText e.0) es) (apart : ComeOnce es) (belongs : EntriesBelong code c.world.heap es fields rest) (may : IsTrue immutable → All (HasFrozen code c) es) where
  abbrev w : World
  w = world-then code c good atom immutable (Entries es)

  values-made : All (IsMade code c) (map (λ e. e.1) es)
  values-made = by es made
    where
      by : (es : List (Text × Value)) → All (λ e. IsMade code c e.1) es → All (IsMade code c) (map (λ e. e.1) es)
      by [] h = All-nil _
      by (e ∷ es) h = All-cons (IsMade code c) e.1 (map (λ e. e.1) es) (All-head (λ (e : Text × Value). IsMade code c e.1) e es h) (by es (All-tail (λ (e : Text × Value). IsMade code c e.1) e es h))

  belong-there : EntriesBelong code w.heap es fields rest
  belong-there = (belongs.0, by es made belongs.1)
    where
      by : (es : List (Text × Value)) → All (λ e. IsMade code c e.1) es → All (λ e. BelongsIf (code_types code) c.world.heap e.1 (key_type fields rest e.0)) es → All (λ e. BelongsIf (code_types code) w.heap e.1 (key_type fields rest e.0)) es
      by [] m h = All-nil _
      by (e ∷ es) m h =
          All-cons (λ (e : Text × Value). BelongsIf (code_types code) w.heap e.1 (key_type fields rest e.0)) e es
          (some-to (λ u. Belongs (code_types code) c.world.heap e.1 u.sem) (λ u. Belongs (code_types code) w.heap e.1 u.sem) (key_type fields rest e.0)
          (λ u b. belongs-there code c w good.nearly.heap (grows code c good atom immutable (Entries _)) e.1 u.sem (All-head (λ (e : Text × Value). IsMade code c e.1) e es m).0 b) (All-head (λ (e : Text × Value). BelongsIf (code_types code) c.world.heap e.1 (key_type fields rest e.0)) e es h))
          (by es (All-tail (λ (e : Text × Value). IsMade code c e.1) e es m) (All-tail (λ (e : Text × Value). BelongsIf (code_types code) c.world.heap e.1 (key_type fields rest e.0)) e es h))

  valid-entries : (es : List (Text × Value)) → All (λ e. IsMade code c e.1) es → All (λ e. IsText e.0) es → All (λ e. IsText e.0 × IsValidValue e.1) es
  valid-entries es m h k d l = (h k d l, (m k d l).1)

  fine : IsFine code c good atom immutable (Entries es) (MappingAtom fields rest)
  fine =
      record {
        known = known;
        defined = ea;
        belong = belong-there;
        made = values-made;
        apart = apart;
        valid = valid-entries es made texts;
        unmarked = λ small.
            let (ps, zip) = fields-shown code c t good.nearly.heap es made in
            let little = sorted-short code c es ps zip (short code c good atom immutable (Entries es) small) in
            let (required, each) = sorted-in code c es ps zip fields rest belongs in
            (mapping-of false (sorted ps) little, mapping-valid false (sorted ps) little (sorted-texts code c es ps zip texts) (sorted-rises ps) (λ f. absurd (let q : ⊥ = cc in q)) (sorted-valid code c es ps zip), refl, mapping-in code c false (sorted ps) little fields rest atom ea required each);
        frozen = λ small is.
            let still : (v : Value) (x : Shape) → IsMade code c v → HasShape c.world.heap x v → HasShape w.heap x v = λ v x m h. (HasShape-stable c.world.heap w.heap good.nearly.heap.closed (grows code c good atom immutable (Entries es)) x v m.0).0 h in
            let few = short code c good atom immutable (Entries es) small in
            let n = number code c good atom immutable (Entries es) in
            let s = added code c good atom immutable (Entries es) in
            let at = at-last code c good atom immutable (Entries es) in (
              frozen-shape code c w.heap still es made texts apart few (may is) n s at (ap not is) refl,
              frozen-valid code c w.heap still es made texts apart few (may is) n s at (ap not is) refl,
              frozen-stands code c w.heap still es made texts apart few (may is) n s at (ap not is) refl,
              frozen-in code c w.heap still es made texts apart few (may is) n s at (ap not is) refl fields rest atom ea belongs,
            );
      }

  pub mapping-typed : (result : Option SemType) → ResultHas code.atoms result (IsMadeOf code.atoms atom immutable) → EffectTyped code c result (lifted c (gives_structure c.world (new_structure (Some atom) (not immutable) (Entries es))))
  mapping-typed result has = structure-typed code c good atom immutable (Entries es) (MappingAtom fields rest) fine result has

-- what a pair says of its types
pub pairs-all : {A B : Type 0} (R : A → B → Type 0) (Q : B → Type 0) (P : A → Type 0) → ((a : A) (b : B) → R a b → Q b → P a) → (xs : List A) (ys : List B) → AllZip R xs ys → All Q ys → All P xs
pairs-all R Q P f [] [] zip all = All-nil P
pairs-all R Q P f [] (y ∷ ys) zip all = absurd zip
pairs-all R Q P f (x ∷ xs) [] zip all = absurd zip
pairs-all R Q P f (x ∷ xs) (y ∷ ys) (r, zip) all = All-cons P x xs (f x y r (All-head Q y ys all)) (pairs-all R Q P f xs ys zip (All-tail Q y ys all))

pub pairs-any : {A B : Type 0} (R : A → B → Type 0) (Q : B → Type 0) (P : A → Type 0) → ((a : A) (b : B) → R a b → Q b → P a) → (xs : List A) (ys : List B) → AllZip R xs ys → Any Q ys → Any P xs
pairs-any R Q P f [] [] zip (k, y, l, is, q) = absurd (omega (arith, l))
pairs-any R Q P f [] (y ∷ ys) zip any = absurd zip
pairs-any R Q P f (x ∷ xs) [] zip any = absurd zip
pairs-any R Q P f (x ∷ xs) (y ∷ ys) (r, zip) (zero, z, l, is, q) = (0, x, omega arith, refl, f x y r (subst Q (sym is) q))
pairs-any R Q P f (x ∷ xs) (y ∷ ys) (r, zip) (suc k, z, l, is, q) = let (j, w, m, at, p) = pairs-any R Q P f xs ys zip (k, z, omega (arith, l), is, q) in (suc j, w, omega (arith, m), at, p)

pub make-mapping : (fillers : ℕ → List Filler) (natives : Answers) (code : Code) → WellTyped code → (c : Common) (u : CodeUnit) (station : Station) (atom count : ℕ) (immutable : Bool) → NamesWell code (op.MakeMapping atom immutable count) →
    RowHolds code fillers natives c (surroundings code u station) (op.MakeMapping atom immutable count)
make-mapping fillers natives code t c u station atom count immutable names operands result vs caller good typed fit =
    let (ms, (keys, is-mapping, may, has), pairs) = paired code c count operands vs _ typed fit in
    let (ps, e, zip) = strings-of code c t good.nearly.heap vs ms pairs keys in
    on-world code c good result (λ w. MakesMapping w atom immutable vs)
    (subst (λ o. Does code c good result (λ came. IsSomeAnd o (λ ps. came ≡ gives_structure c.world (new_structure (Some atom) (not immutable) (Entries (entries_from [] ps)))))) (sym e)
    (does-else code c good result (gives_structure c.world (new_structure (Some atom) (not immutable) (Entries (entries_from [] ps)))) (by ms ps zip is-mapping may has)))
  where
    by : (ms : List (SemType × SemType)) (ps : List (Text × Value)) → AllZip (PairFits code c) ps ms → IsMappingAtom code.atoms atom (λ fields rest. All (MemberFits code.atoms fields rest) ms × NamesRequired code.atoms fields ms) → All (λ m. MayStandIn code.atoms immutable m.1) ms →
        ResultHas code.atoms result (IsMadeOf code.atoms atom immutable) → EffectTyped code c result (lifted c (gives_structure c.world (new_structure (Some atom) (not immutable) (Entries (entries_from [] ps)))))
    by ms ps zip is-mapping may has =
        let (fields, rest, ea, both) = mapping-atom code.atoms atom (λ fields rest. All (MemberFits code.atoms fields rest) ms × NamesRequired code.atoms fields ms) is-mapping in
        let es : List (Text × Value) = entries_from [] ps in
        let from-pairs : (P : Text × Value → Type 0) → All P ps → All P es = λ P h. entries-all P [] ps (All-nil P) h in
        let made-of : All (λ p. IsMade code c p.1) ps = pairs-all (PairFits code c) (λ m. ⊤) (λ p. IsMade code c p.1) (λ p m r q. r.1.1) ps ms zip (λ k d l. tt) in
        let texts-of : All (λ p. IsText p.0) ps = pairs-all (PairFits code c) (λ m. ⊤) (λ p. IsText p.0) (λ p m r q. r.0.1.1) ps ms zip (λ k d l. tt) in
        let each : All (λ p. BelongsIf (code_types code) c.world.heap p.1 (key_type fields rest p.0)) ps =
        pairs-all (PairFits code c) (MemberFits code.atoms fields rest) (λ p. BelongsIf (code_types code) c.world.heap p.1 (key_type fields rest p.0))
        (λ p m r q. placed p.1 m.1 r.1 (key_type fields rest p.0) (q p.0 (r.0.1.1, r.0.2 (StrShape p.0) r.0.1.1 refl))) ps ms zip both.0 in
        mapping-typed code t c good atom immutable es (names.atoms 0 0 (omega arith)) fields rest ea (from-pairs (λ p. IsMade code c p.1) made-of) (from-pairs (λ p. IsText p.0) texts-of) (entries-apart [] ps tt)
        (all-to (λ f. IsTrue f.optional ⊎ Any (λ m. IsSingle code.atoms m.0 (StrShape f.name)) ms) (λ f. IsTrue f.optional ⊎ IsSomeAnd (entry_at es f.name) (λ _. ⊤)) (λ f k. required ps ms zip f k) fields both.1, from-pairs (λ p. BelongsIf (code_types code) c.world.heap p.1 (key_type fields rest p.0)) each)
        (λ is. from-pairs (HasFrozen code c) (pairs-all (PairFits code c) (λ m. MayStandIn code.atoms immutable m.1) (HasFrozen code c) (λ p m r q. pair-frozen code c t good.nearly.heap p m r (q is)) ps ms zip may)) result has
      where
        -- a value, which has a shape, belongs to a type that each of its shapes has
        placed : (v : Value) (s : SemType) → Fits code c v s → (o : Option Ty) → IsWithin code.atoms (λ x. IsSomeAnd o (λ u. In code.atoms x u.sem)) s → BelongsIf (code_types code) c.world.heap v o
        placed v s (closed, made, belongs) (Some u) within = λ x valid stands. within x (valid, belongs x valid stands)
        placed v s (closed, made, belongs) None within =
            let (x, valid, stands) = has-shape code t c good.nearly.heap v made in absurd (within x (valid, belongs x valid stands))

        required : (ps : List (Text × Value)) (ms : List (SemType × SemType)) → AllZip (PairFits code c) ps ms → (f : FieldDef) → IsTrue f.optional ⊎ Any (λ m. IsSingle code.atoms m.0 (StrShape f.name)) ms → IsTrue f.optional ⊎ IsSomeAnd (entry_at (entries_from [] ps) f.name) (λ _. ⊤)
        required ps ms zip f (inl o) = inl o
        required ps ms zip f (inr any) =
            inr (entries-there [] ps f.name (inr (pairs-any (PairFits code c) (λ m. IsSingle code.atoms m.0 (StrShape f.name)) (λ p. p.0 ≡ f.name)
            (λ p m r single. let q : StrShape p.0 ≡ StrShape f.name = (single (StrShape p.0) r.0.1.1).0 (r.0.2 (StrShape p.0) r.0.1.1 refl) in let z : p.0 ≡ f.name = cc in z) ps ms zip any)))
