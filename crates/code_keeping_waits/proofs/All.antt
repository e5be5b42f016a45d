-- What a frame asks for with a multiple wait.
use Rattle.std.proofs.Common.{◌≡◌, ◌≢◌, ◌<◌, ◌+◌, ◌∙◌, ℕ, suc, Bool, true, false, List, [], ◌∷◌, Option, Some, None, length, map, refl, sym, ap, subst, arith}
use Rattle.std.proofs.lemmas.List.Elements.{All-cons, All-head, All-nil, All-tail}
use Rattle.std.specs.Prelude.{◌&&◌, All, AllPairs, IsSomeAnd, if◌then◌else◌, option_map, slice_get}
use Rattle.std.specs.List.{list_all}
use Rattle.bal_base.specs.declared.shape.Shape.{Shape}
use Rattle.bal_base.specs.Valid.{IsText}
use Rattle.type_model.specs.declared.atoms.AtomDef.TheVariants.{Mapping as MappingAtom}
use Rattle.type_model.specs.declared.atoms.FieldDef.{FieldDef}
use Rattle.type_model.specs.declared.basic.SemType.{SemType}
use Rattle.type_model.specs.declared.basic.Ty.{Ty}
use Rattle.type_model.specs.Places.{HasDistinctFields, is_same_text, key_type}
use Rattle.value_model.proofs.EntryKeys.{same-text, text-same}
use Rattle.operations.specs.declared.operation.Operation.{Operation}
use Rattle.operations.specs.declared.operation.Operation.TheVariants as op
use Rattle.operations.specs.Rows.{ResultHas}
use Rattle.operations.specs.Structures.{AwaitsAll}
use Rattle.value_model.specs.declared.filler.Filler.{Filler}
use Rattle.value_model.specs.declared.value.Value.TheVariants.{Struct}
use Rattle.value_model.specs.Meaning.{Answers}
use Rattle.value_model.specs.World.{Came, Gave, PassesCells, Threw}
use Rattle.op_model.specs.Common.{AllEnded, Common}
use Rattle.op_model.specs.Effects.{Beyond, Effect, Enters, Fails, Gives, Leaves, NoTick, Spawns, Waits, lifted}
use Rattle.op_model.specs.Local.{takes}
use Rattle.op_model.specs.Rows.{gives, next_structure, within}
use Rattle.op_model.specs.Strands.{has_ended, met}
use Rattle.op_model.specs.Waits.{Collected, FirstPanic, Results, Target, collects, field_names, gives_results, strands_in, targets, waits_all, with_results}
use Rattle.machine_model.specs.Keeping.{AskFits}
use Rattle.machine_model.specs.Machine.{Frame}
use Rattle.machine_model.specs.Runs.{Running}
use Rattle.stack_code.specs.declared.code.Code.{Code}
use Rattle.stack_code.specs.CodeMachine.{Standing, code_facts, codes}
use Rattle.stack_code.specs.Commands.{Do, command_at}
use Rattle.stack_code.specs.Flow.{DoesTyped}
use Rattle.stack_code.specs.Frames.{TopFits}
use Rattle.stack_code.specs.Good.{GoodCommon, code_invariant}
use Rattle.stack_code.specs.Tables.{HasTextNames, IsInherent}
use Rattle.stack_code.specs.WellTyped.{WellTyped}
use Rattle.code_keeping.specs.Laws.{AskComes}
use Rattle.code_keeping.specs.Rows.{Comes, EffectTyped}
use Rattle.code_keeping.proofs.Lists.{all-at, at-some, of-some}
use Rattle.code_keeping.proofs.Places.{IsAt, at-place}
use Rattle.code_keeping_talk.proofs.Following.{later-follows}
use Rattle.code_keeping_heap.proofs.Mapping.{mapping-atom}
use Rattle.code_keeping_waits.specs.Laws.{MultipleWaitsAreDone}
use Rattle.code_keeping_waits.proofs.Any.{HasStrands, IsFit, Named, at-strands, futures-fit, place, workers-fit}
use Rattle.code_keeping_waits.proofs.Collecting.{AreReady, CollectedFits, Goes, HaveEnded, all-collected, as-many}
use Rattle.code_keeping_waits.proofs.Gathered.{fields-fit, gathered-typed}
use Rattle.code_keeping_waits.proofs.One.{named}
use Rattle.code_keeping_waits.proofs.Several.{FitFrom, futures-long, targets-fit}
use Rattle.code_keeping_waits.proofs.Waiting.{Looks, RowWaits, WaitTyped, typed, waits-done}

-- ---- the fields of an atom

-- the type at the key of a field is the field's
own-key : (fields : List FieldDef) (rest : Option Ty) → AllPairs (λ f g. f.name ≢ g.name) fields → All (λ f. key_type fields rest f.name ≡ Some f.ty) fields
own-key [] rest apart = All-nil _
own-key (f ∷ fields) rest apart =
    All-cons (λ (g : FieldDef). key_type (f ∷ fields) rest g.name ≡ Some g.ty) f fields (ap (λ b. if b then Some f.ty else key_type fields rest f.name) (text-same f.name f.name refl))
    (others fields (λ k d l. apart 0 (suc k) d (omega arith) (omega (arith, l))) (own-key fields rest (λ i j d lt l. apart (suc i) (suc j) d (omega (arith, lt)) (omega (arith, l)))))
  where
    other : (g : FieldDef) → f.name ≢ g.name → key_type fields rest g.name ≡ Some g.ty → (b : Bool) → is_same_text f.name g.name ≡ b → (if b then Some f.ty else key_type fields rest g.name) ≡ Some g.ty
    other g ne h true e = absurd (ne (same-text f.name g.name e))
    other g ne h false e = h

    others : (gs : List FieldDef) → All (λ g. f.name ≢ g.name) gs → All (λ g. key_type fields rest g.name ≡ Some g.ty) gs → All (λ g. key_type (f ∷ fields) rest g.name ≡ Some g.ty) gs
    others [] ne h = All-nil _
    others (g ∷ gs) ne h =
        All-cons (λ (g : FieldDef). key_type (f ∷ fields) rest g.name ≡ Some g.ty) g gs
        (other g (All-head (λ (g : FieldDef). f.name ≢ g.name) g gs ne) (All-head (λ (g : FieldDef). key_type fields rest g.name ≡ Some g.ty) g gs h) (is_same_text f.name g.name) refl)
        (others gs (All-tail (λ (g : FieldDef). f.name ≢ g.name) g gs ne) (All-tail (λ (g : FieldDef). key_type fields rest g.name ≡ Some g.ty) g gs h))

all-true : (p : ℕ → Bool) (ns : List ℕ) → list_all p ns ≡ true → All (λ n. p n ≡ true) ns
all-true p [] e = All-nil _
all-true p (n ∷ ns) e = let (a, b) = both (p n) (list_all p ns) e in All-cons (λ n. p n ≡ true) n ns a (all-true p ns b)
  where
    both : (a b : Bool) → (a && b) ≡ true → (a ≡ true) × (b ≡ true)
    both true b e = (refl, e)
    both false b e = absurd (let q : ⊥ = cc in q)

module _ (code : Code) (fillers : ℕ → List Filler) (natives : Answers) (t : WellTyped code) (c : Common) (depth : ℕ) (good : GoodCommon code c Running) (f : Frame Standing) (fits : TopFits code c f) (here : IsAt code c f) (strands : HasStrands code t c good f here)
    (atom : ℕ) (names : List (Option ℕ)) (ec : command_at code f.control.place ≡ Some (Do (op.WaitAll atom names))) where
  abbrev o : Operation
  o = op.WaitAll atom names

  abbrev row : DoesTyped code here.u here.station f.control.place o
  row = typed code fillers natives t c depth good f fits here o ec (λ h. h) (λ n tally. refl) (λ tally. refl)

  known : IsInherent code atom
  known = ((t.places f.control.place).uses f.unit here.u here.is here.here.0).made o ec 0 atom (omega arith)

  module _ (fields : List FieldDef) (rest : Option Ty) (ea : slice_get code.atoms atom ≡ Some (MappingAtom fields rest)) (awaits : AwaitsAll code.atoms (place code t c good f here) fields names row.operands) where
    abbrev result : ℕ → Option SemType
    result k = option_map (λ f. f.ty.sem) (slice_get fields k)

    abbrev each : ℕ → (Shape → Type 0) → Type 0
    each k P = IsSomeAnd (slice_get fields k) (λ f. ResultHas code.atoms (Some f.ty.sem) P)

    each-has : (k : ℕ) (P : Shape → Type 0) → each k P → ResultHas code.atoms (result k) P
    each-has k P h = by (slice_get fields k) h
      where
        by : (q : Option FieldDef) → IsSomeAnd q (λ f. ResultHas code.atoms (Some f.ty.sem) P) → ResultHas code.atoms (option_map (λ f. f.ty.sem) q) P
        by (Some f) h = h
        by None h = absurd h

    texts : All (λ f. IsText f.name) fields
    texts = all-at (HasTextNames code) code.atoms atom (MappingAtom fields rest) t.fields.types.names ea

    apart : AllPairs (λ f g. f.name ≢ g.name) fields
    apart = all-at HasDistinctFields code.atoms atom (MappingAtom fields rest) t.fields.types.fields ea

    keys : All (λ f. key_type fields rest f.name ≡ Some f.ty) fields
    keys = own-key fields rest apart

    -- ---- what comes of the targets

    abbrev Fitting : ℕ → List Target → Type 0
    Fitting k ts = FitFrom code (place code t c good f here) each c f.role (Named code t c good f here) (λ k. IsFit code c (result k)) k ts

    ready-so : (k : ℕ) (ts : List Target) → Fitting k ts → AreReady code result c k ts
    ready-so k [] h = tt
    ready-so k (u ∷ ts) (h, more) = (h.0, h.2, ready-so (k + 1) ts more)

    there-so : (k : ℕ) (ts : List Target) → Fitting k ts → All (λ n. n < length c.strands) (strands_in ts)
    there-so k [] h = All-nil _
    there-so k (u ∷ ts) (h, more) = All-cons (λ n. n < length c.strands) u.strand (strands_in ts) h.1 (there-so (k + 1) ts more)

    ended-so : (ts : List Target) → All (λ n. has_ended c n ≡ true) (strands_in ts) → HaveEnded code result c ts
    ended-so [] h = tt
    ended-so (u ∷ ts) h = (All-head (λ n. has_ended c n ≡ true) u.strand (strands_in ts) h, ended-so ts (All-tail (λ n. has_ended c n ≡ true) u.strand (strands_in ts) h))

    -- what is typed where results were taken is typed
    back : (d : Common) → Goes code result c d → (effect : Effect) → EffectTyped code d row.result effect → EffectTyped code c row.result effect
    back d goes (Gives vs e) (better, keeps, later, given) = (better, (keeps.0 ∙ goes.0.0, keeps.1 ∙ goes.0.1), (λ q. later-follows q c d e (goes.1 q) (later q)), given)
    back d goes (Fails v e) (nearly, keeps, later, error) = (nearly, (keeps.0 ∙ goes.0.0, keeps.1 ∙ goes.0.1), (λ q. later-follows q c d e (goes.1 q) (later q)), error)
    back d goes (Waits need) h = absurd h
    back d goes (Enters unit args e) h = absurd h
    back d goes (Leaves v) h = absurd h
    back d goes (Spawns ss role vs e) h = absurd h
    back d goes NoTick h = tt
    back d goes (Beyond limit) h = tt

    as-wait : (d : Common) (came : Came) → EffectTyped code c row.result (lifted d came) → WaitTyped code c row.result (lifted d came)
    as-wait d (Gave vs x) h = h
    as-wait d (Threw v x) h = h
    as-wait d PassesCells h = tt

    gathered : (ts : List Target) → length ts ≡ length fields → (x : Collected) → collects ts c ≡ x → CollectedFits code result c 0 x → WaitTyped code c row.result (gives_results atom (map (λ f. f.name) fields) x)
    gathered ts long (FirstPanic v d) is (goes, nearly, error) = (nearly, goes.0, goes.1, error)
    gathered ts long (Results vs d) is (goes, better, ok) =
        let fit = fields-fit code d result fields vs 0 (as-many ts c vs d is ∙ long) (λ j. ap result (let q : 0 + j ≡ j = omega arith in q)) ok in
        as-wait d (within (gives (with_results d.world atom (map (λ f. f.name) fields) vs) (Struct (next_structure d.world))))
        (back d goes (lifted d (within (gives (with_results d.world atom (map (λ f. f.name) fields) vs) (Struct (next_structure d.world))))) (gathered-typed code t d better atom fields rest ea known texts apart keys vs fit row.result row.typed.1))

    all-typed : (ts : List Target) → length ts ≡ length fields → Fitting 0 ts → WaitTyped code c row.result (waits_all c atom (map (λ f. f.name) fields) ts)
    all-typed ts long ok = by (met c (AllEnded (strands_in ts))) refl
      where
        by : (b : Bool) → met c (AllEnded (strands_in ts)) ≡ b → WaitTyped code c row.result (if b then gives_results atom (map (λ f. f.name) fields) (collects ts c) else Waits (AllEnded (strands_in ts)))
        by true e = gathered ts long (collects ts c) refl (all-collected code result ts 0 c good (ready-so 0 ts ok) (ended-so ts (all-true (has_ended c) (strands_in ts) e)))
        by false e = (there-so 0 ts ok, e)

    -- ---- the row

    all-row : RowWaits code fillers natives t c depth good f fits here o ec (λ h. h) (λ n tally. refl) (λ tally. refl)
    all-row args fit =
        let k = targets-fit code (place code t c good f here) each c f.role (Named code t c good f here) (λ k. IsFit code c (result k))
        (workers-fit code t c good f here strands result each each-has) (futures-fit code t c good f here strands result each each-has) names 0 row.operands args (named code t c good f fits here o ec) awaits.1 fit in
        by k.targets-are k.is k.fit (k.many ∙ awaits.0)
      where
        by : (ts : List Target) → targets c f.role names args ≡ Some ts → Fitting 0 ts → length ts ≡ length fields →
            ((effect : Effect) → IsSomeAnd (slice_get code.atoms atom) (λ d. IsSomeAnd (targets c f.role names args) (λ ts. effect ≡ waits_all c atom (field_names d) ts)) → WaitTyped code c row.result effect)
            × Comes (λ effect. IsSomeAnd (slice_get code.atoms atom) (λ d. IsSomeAnd (targets c f.role names args) (λ ts. effect ≡ waits_all c atom (field_names d) ts)))
        by ts is ok long = (
          (λ effect does.
              let at-atom = of-some (λ d. IsSomeAnd (targets c f.role names args) (λ ts. effect ≡ waits_all c atom (field_names d) ts)) (slice_get code.atoms atom) (MappingAtom fields rest) ea does in
              subst (WaitTyped code c row.result) (sym (of-some (λ ts. effect ≡ waits_all c atom (map (λ f. f.name) fields) ts) (targets c f.role names args) ts is at-atom)) (all-typed ts long ok)),
          (λ never. never (waits_all c atom (map (λ f. f.name) fields) ts)
              (at-some (λ d. IsSomeAnd (targets c f.role names args) (λ ts'. waits_all c atom (map (λ f. f.name) fields) ts ≡ waits_all c atom (field_names d) ts')) (slice_get code.atoms atom) (MappingAtom fields rest) ea
              (at-some (λ ts'. waits_all c atom (map (λ f. f.name) fields) ts ≡ waits_all c atom (map (λ f. f.name) fields) ts') (targets c f.role names args) ts is refl))),
        )

    pub wait-all : Looks code fillers natives t c depth good f fits here o ec (λ h. h) (λ n tally. refl) (λ tally. refl) ((codes fillers code).look f.unit f.control)
    wait-all =
        waits-done code fillers natives t c depth good f fits here o ec (λ h. h) (λ n tally. refl) (λ tally. refl)
        (λ captured. ap (λ n. takes o f.control.local n) (sym (futures-long code (place code t c good f here) each names 0 row.operands awaits.1))) all-row

  pub wait-all-so : Looks code fillers natives t c depth good f fits here o ec (λ h. h) (λ n tally. refl) (λ tally. refl) ((codes fillers code).look f.unit f.control)
  wait-all-so =
      let (fields, rest, ea, awaits) = mapping-atom code.atoms atom (λ fields rest. AwaitsAll code.atoms (place code t c good f here) fields names row.operands) row.typed.0 in
      wait-all fields rest ea awaits

pub all-done : (code : Code) (fillers : ℕ → List Filler) (natives : Answers) (t : WellTyped code) (c : Common) (depth : ℕ) (good : GoodCommon code c Running) (f : Frame Standing) (fits : TopFits code c f) (atom : ℕ) (names : List (Option ℕ)) →
    command_at code f.control.place ≡ Some (Do (op.WaitAll atom names)) →
    AskFits natives (codes fillers code) (code_invariant code) c depth f ((codes fillers code).look f.unit f.control) × AskComes natives (code_facts fillers code) c depth f ((codes fillers code).look f.unit f.control)
all-done code fillers natives t c depth good f fits atom names ec =
    let (here, strands) = at-strands code t c good f fits (at-place code c f fits.0) (op.WaitAll atom names) ec in
    wait-all-so code fillers natives t c depth good f fits here strands atom names ec

pub multiple-waits-are-done : (natives : Answers) → MultipleWaitsAreDone natives
multiple-waits-are-done natives fillers atom names code c t = (
  (λ depth f good fits ec. (all-done code fillers natives t c depth good f fits atom names ec).0),
  (λ depth f good fits ec. (all-done code fillers natives t c depth good f fits atom names ec).1),
)
