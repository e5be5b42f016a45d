-- The state before the first pick is good: a heap with the words of a run, if main takes them, and strand 0 at its first unit.
use Rattle.std.proofs.Common.{◌≡◌, ◌+◌, ◌∙◌, ℕ, zero, suc, true, false, List, [], ◌∷◌, ◌++◌, Option, Some, None, inl, inr, length, map, refl, sym, ap, subst, arith, ◌<◌, ◌^◌}
use Rattle.std.proofs.lemmas.List.{append-nil, length-append, length-map}
use Rattle.std.proofs.lemmas.List.Elements.{All-append, All-contains, All-head, All-map, All-tail}
use Rattle.std.specs.Prelude.{◌⊎◌, ◌↔◌, ◌==◌, All, Contains, IsFalse, IsSomeAnd, IsTrue, get_or, if◌then◌else◌, option_map, option_to_list, slice_get}
use Rattle.std.specs.Ptr.{null_ptr}
use Rattle.bal_base.specs.Valid.{IsText, IsValid}
use Rattle.bal_base.specs.declared.shape.Shape.{Shape, List' as ListShape, end_of-Shape}
use Rattle.bal_base.specs.declared.text.Text.{Text}
use Rattle.type_model.specs.declared.atoms.AtomDef.{AtomDef}
use Rattle.type_model.specs.declared.atoms.AtomDef.TheVariants.{List as ListAtom, Mapping as MappingAtom, Arrow, Error as ErrorAtom, Future as FutureAtom}
use Rattle.type_model.specs.declared.basic.SemType.{SemType, Atom}
use Rattle.type_model.specs.declared.basic.Ty.{Ty}
use Rattle.type_model.specs.Inclusion.{HaveSameShapes}
use Rattle.type_model.specs.Membership.{Fits as ShapeFits, In}
use Rattle.operations.specs.declared.operation.Constant.TheVariants.{Str as StrConstant}
use Rattle.operations.specs.Kinds.{IsString}
use Rattle.operations.specs.Structures.{IsListAtom}
use Rattle.value_model.specs.declared.filler.Filler.{Filler}
use Rattle.value_model.specs.declared.value.Value.{Value}
use Rattle.value_model.specs.declared.value.Value.TheVariants.{Str, Struct}
use Rattle.value_model.specs.Heap.{IsClosed, IsThere, Items, Structure, values_of}
use Rattle.value_model.specs.Stands.{BelongsIf, MembersBelong}
use Rattle.value_model.specs.Valid.{AreValidMembers, IsValidValue}
use Rattle.op_model.specs.Common.{Common, IsActive, IsBlocked, Need, Strand}
use Rattle.op_model.specs.Strands.{has_ended, met}
use Rattle.op_model.specs.Rows.{new_structure, size_of}
use Rattle.machine_model.specs.Keeping.{IsIdle}
use Rattle.machine_model.specs.Machine.{Frame, Launch, State, words_of}
use Rattle.machine_model.specs.Runs.{Picking, begins_with, first_common, first_world, main_arguments, AreWords}
use Rattle.machine_model.proofs.Once.{some-same}
use Rattle.stack_code.specs.declared.code.Code.{Code}
use Rattle.stack_code.specs.declared.code.Unit.{Unit as CodeUnit}
use Rattle.stack_code.specs.CodeMachine.{Standing, codes, entry, unit_facts}
use Rattle.stack_code.specs.Flow.{IsBoundedAt}
use Rattle.stack_code.specs.Frames.{IsLowest, TallyIs, TopFits}
use Rattle.stack_code.specs.Good.{Good, GoodCommon, IsKnown, IsToRun, StrandAt, StrandFits}
use Rattle.stack_code.specs.Places.{IsStation, IsWorkerUnit, Station, tally_at}
use Rattle.stack_code.specs.Tables.{HasRest, IsInherent, IsInitialiser, IsInitialiserWell, IsMain, UnitAt}
use Rattle.stack_code.specs.Values.{AreKeysApart, AllFit, Fits, GoodHeap, IsMade, IsWithinAtom, code_types}
use Rattle.stack_code.specs.WellTyped.{WellTyped}
use Rattle.code_keeping.specs.Laws.{StartsWell}
use Rattle.code_keeping.proofs.Entering.{begins, entry-in, nothing-stored}
use Rattle.code_keeping.proofs.Itself.{constant-fits}
use Rattle.code_keeping.proofs.Lists.{at-some, of-some, some-there, some-to}
use Rattle.code_keeping.proofs.Making.{all-one}
use Rattle.code_keeping.proofs.Places.{first-of-crew}
use Rattle.code_keeping.proofs.Shapes.{get-map}

all-none : {A : Type 0} (P : A → Type 0) → All P []
all-none P k d l = absurd (omega (arith, l))

-- ---- the atom of a list

pick-list : (B : AtomDef → Type 0) (o : Option AtomDef) → IsSomeAnd o B → ((fields : _) (rest : _) → B (MappingAtom fields rest) → ⊥) → ((args outcome : _) (alone : _) → B (Arrow args outcome alone) → ⊥) →
    ((t : _) → B (ErrorAtom t) → ⊥) → ((t : _) → B (FutureAtom t) → ⊥) → (fixed : List Ty) × (rest : Option Ty) × (o ≡ Some (ListAtom fixed rest)) × B (ListAtom fixed rest)
pick-list B None h mapping arrow error future = absurd h
pick-list B (Some (ListAtom fixed rest)) h mapping arrow error future = (fixed, rest, refl, h)
pick-list B (Some (MappingAtom fields rest)) h mapping arrow error future = absurd (mapping fields rest h)
pick-list B (Some (Arrow args outcome alone)) h mapping arrow error future = absurd (arrow args outcome alone h)
pick-list B (Some (ErrorAtom t)) h mapping arrow error future = absurd (error t h)
pick-list B (Some (FutureAtom t)) h mapping arrow error future = absurd (future t h)

pub list-of : (env : List AtomDef) (a : ℕ) (P : List Ty → Option Ty → Type 0) → IsListAtom env a P → (fixed : List Ty) × (rest : Option Ty) × (slice_get env a ≡ Some (ListAtom fixed rest)) × P fixed rest
list-of env a P h = pick-list _ (slice_get env a) h (λ fields rest k. k) (λ args outcome alone k. k) (λ t k. k) (λ t k. k)

-- ---- the heap before the first step

module _ (code : Code) (c : Common) (input : List ℕ) (texts : List Text) where
  pub none-good : c.world ≡ first_world None texts input → GoodHeap code c
  none-good e = subst (λ w. GoodHeap code (record c { world = w })) (sym e) empty
    where
      empty : GoodHeap code (record c { world = first_world None texts input })
      empty =
          record {
            mutable = all-none _;
            immutable = ((λ n s e f. absurd (let q : ⊥ = cc in q)), (λ n l. absurd (omega (arith, l))));
            members = all-none _;
            functions = all-none _;
            valid = record { members = all-none _; messages = all-none _; captured = all-none _ };
            closed = record { members = all-none _; details = all-none _; causes = all-none _; captured = all-none _ };
            short = all-none _;
            apart = all-none _;
          }

  module _ (words : ℕ) (known : IsInherent code words) (rest : Option Ty) (is : slice_get code.atoms words ≡ Some (ListAtom [] rest)) (strings : IsSomeAnd rest (λ t. (x : Shape) → IsValid x → (In code.atoms x t.sem ↔ IsString x))) (ok : AreWords texts) where
    abbrev list : Structure
    list = new_structure (Some words) true (Items (map Str texts))

    abbrev d : Common
    d = record c { world = first_world (Some words) texts input }

    abbrev empty-list : Shape
    empty-list = ListShape false (record { ptr = null_ptr; len = 0; cap = 0; alloc = record { memory = _ }; items = []; ok = (refl, omega arith); small = omega arith }) end_of-Shape

    empty-in : In code.atoms empty-list (Atom words)
    empty-in = at-some (ShapeFits code.atoms empty-list) (slice_get code.atoms words) (ListAtom [] rest) is (omega arith, tt)

    all-closed : IsClosed d.world.heap
    all-closed =
        record {
          members = all-one (λ s. All (IsThere d.world.heap) (values_of s.members)) list (All-map (IsThere d.world.heap) Str texts (λ k t l. tt));
          details = all-none _;
          causes = all-none _;
          captured = all-none _;
        }

    -- each word is a string
    word-belongs : (t : Text) → IsText t → BelongsIf (code_types code) d.world.heap (Str t) rest
    word-belongs t text = by rest strings
      where
        by : (r : Option Ty) → IsSomeAnd r (λ t. (x : Shape) → IsValid x → (In code.atoms x t.sem ↔ IsString x)) → BelongsIf (code_types code) d.world.heap (Str t) r
        by None h = h
        by (Some r) h = (constant-fits code d all-closed (StrConstant t) text (Some r.sem) (λ x valid e. (h x valid).1 (subst IsString (sym e) tt))).0.2

    list-belongs : MembersBelong (code_types code) d.world.heap list.members (ListAtom [] rest)
    list-belongs = (omega arith, λ i v e. each texts ok.0 i v e)
      where
        each : (ts : List Text) → All IsText ts → (i : ℕ) (v : Value) → slice_get (map Str ts) i ≡ Some v → BelongsIf (code_types code) d.world.heap v rest
        each [] texts i v e = absurd (let q : ⊥ = cc in q)
        each (t ∷ ts) texts zero v e = subst (λ w. BelongsIf (code_types code) d.world.heap w rest) (some-same (Str t) v e) (word-belongs t (All-head IsText t ts texts))
        each (t ∷ ts) texts (suc i) v e = each ts (All-tail IsText t ts texts) i v e

    pub some-good : c.world ≡ first_world (Some words) texts input → GoodHeap code c
    some-good e = subst (λ w. GoodHeap code (record c { world = w })) (sym e) whole
      where
        whole : GoodHeap code d
        whole =
            record {
              mutable = all-one (IsWithinAtom code d) list (λ m. (known, (empty-list, (λ f. absurd (let q : ⊥ = cc in q), tt), refl, empty-in), at-some _ (slice_get code.atoms words) (ListAtom [] rest) is list-belongs));
              immutable = ((λ n s e f. absurd (only n s e f)), (λ n l. absurd (omega (arith, l))));
              members = all-one (λ s. All (IsMade code d) (values_of s.members)) list (All-map (IsMade code d) Str texts (λ k t l. (tt, ok.0 k t l, tt)));
              functions = all-none _;
              valid = record { members = all-one (λ s. AreValidMembers s.members) list (All-map IsValidValue Str texts ok.0); messages = all-none _; captured = all-none _ };
              closed = all-closed;
              short = all-one (λ s. size_of s.members < 2 ^ 63) list (subst (λ n. n < 2 ^ 63) (sym (length-map texts Str)) ok.1);
              apart = all-one (λ s. AreKeysApart s.members) list tt;
            }
          where
            only : (n : ℕ) (s : Structure) → slice_get (list ∷ []) n ≡ Some s → IsFalse s.mutable → ⊥
            only zero s e f = let same : list ≡ s = some-same list s e in let m : IsFalse list.mutable = subst (λ x. IsFalse x.mutable) (sym same) f in let q : ⊥ = cc in q
            only (suc n) s e f = let q : ⊥ = cc in q

    -- and the list that main takes fits its parameter
    pub list-fits : (p : SemType) → HaveSameShapes code.atoms (Atom words) p → Fits code d (Struct 0) p
    list-fits p same = (all-closed, (omega arith, tt, tt), λ x valid (unmarked, inside). (same x valid).0 inside)

-- ---- strand 0 and its units

all-contained : {A : Type 0} (P : A → Type 0) (xs : List A) → ((x : A) → Contains xs x → P x) → All P xs
all-contained P [] f = all-none P
all-contained P (x ∷ xs) f = both (f x (0, omega arith, refl)) (all-contained P xs (λ y (k, l, e). f y (suc k, omega (arith, l), e)))
  where
    both : P x → All P xs → All P (x ∷ xs)
    both h more zero d l = h
    both h more (suc k) d l = more k d (omega (arith, l))

module _ (code : Code) (t : WellTyped code) where
  abbrev IsFirst : ℕ → Type 0
  IsFirst unit = IsInitialiser code unit ⊎ (unit ≡ code.start)

  no-worker : (unit : ℕ) (g : CodeUnit) → slice_get code.units unit ≡ Some g → IsFirst unit → ¬ (IsWorkerUnit code unit)
  no-worker unit g e (inl initial) w = (t.fields.workers unit g e w).3 initial
  no-worker unit g e (inr main) w = (t.fields.workers unit g e w).4 (sym main)

  initialiser : (unit : ℕ) → IsInitialiser code unit → UnitAt code unit (IsInitialiserWell code unit)
  initialiser unit initial = All-contains (λ n. UnitAt code n (IsInitialiserWell code n)) code.initialisers unit t.fields.initialisers initial

  captures-none : (unit : ℕ) (g : CodeUnit) → slice_get code.units unit ≡ Some g → IsFirst unit → g.captured ≡ []
  captures-none unit g e (inl initial) = (of-some (IsInitialiserWell code unit) (slice_get code.units unit) g e (initialiser unit initial)).1
  captures-none unit g e (inr main) = (of-some (IsMain code) (slice_get code.units code.start) g (ap (λ n. slice_get code.units n) (sym main) ∙ e) t.fields.main).0

  pub frame-fits : (c : Common) (unit : ℕ) (args : List Value) (g : CodeUnit) → slice_get code.units unit ≡ Some g → IsFirst unit → AllFit code c args g.params → TopFits code c (record { unit = unit; role = None; control = entry args g })
  frame-fits c unit args g e first fit =
      let station : Station = record { function = unit; worker = 0 } in
      let stationed : IsStation code unit station = (first-of-crew code unit g e, λ z. no-worker unit g e first) in
      let bounded : IsBoundedAt code g station _ g.first = ((t.places g.first).typed unit g e (entry-in code t unit g e) station stationed).1 in
      let none : tally_at code g.first ≡ None = (bounded.0 refl).3 (no-worker unit g e first) in
      begins code t c unit g e station stationed args None
      (subst (λ cs. AllFit code c args (g.params ++ cs)) (sym (captures-none unit g e first)) (subst (λ ps. AllFit code c args ps) (sym (append-nil g.params)) fit))
      (subst (λ k. TallyIs code c None k) (sym none) tt) (no-worker unit g e first)

  -- ---- the first state

  module _ (texts : List Text) (input : List ℕ) (ticks : ℕ) (words : Option ℕ) where
    abbrev launch : Launch
    launch = record { variables = length code.variables; main = code.start; words = words }

    abbrev now : List (ℕ × List Value) → Common
    now us = record (first_common launch texts input ticks) { to_run = us }

    abbrev main-strand : Strand
    main-strand = record { unit = code.start; role = None; status = IsActive; taken = false }

    -- it is the only one
    only : (P : ℕ → Strand → Type 0) → P 0 main-strand → (n : ℕ) (s : Strand) → slice_get (main-strand ∷ []) n ≡ Some s → P n s
    only P h zero s e = subst (λ s. P 0 s) (some-same main-strand s e) h
    only P h (suc n) s e = absurd (let q : ⊥ = cc in q)

    common-good : (us : List (ℕ × List Value)) → GoodHeap code (now us) → All (IsToRun code (now us)) us → GoodCommon code (now us) Picking
    common-good us heap run =
        record {
          nearly = record {
            heap = heap;
            variables = nothing-stored code (now us) (length code.variables) code.variables refl;
            strands = only (StrandFits code (now us)) (record { end = tt; need = λ need e. absurd (let q : ⊥ = cc in q); before = λ k end e. absurd (let q : ⊥ = cc in q); taken = λ h. absurd (let q : ⊥ = cc in q) });
            activations = λ a x e. absurd (let q : ⊥ = cc in q);
            to_run = run;
            ready = record {
              active = all-one (λ n. StrandAt code (now us) n (λ s. s.status ≡ IsActive)) 0 refl;
              once = λ i j d lt l. absurd (omega (arith, lt, l));
              known = only (λ n s. s.status ≡ IsActive → IsKnown code (now us) Picking n) (λ e. (0, omega arith, refl));
              running = tt;
              there = omega arith;
            };
            main = (refl, refl);
          };
          settled = only (λ n s. (need : Need) → s.status ≡ IsBlocked need → ¬ (IsTrue (met (now us) need))) (λ need e. absurd (let q : ⊥ = cc in q));
        }

    -- with the frame of the first unit
    abbrev state : List (ℕ × List Value) → Frame Standing → State Standing
    state us f = record { common = now us; frames = []; others = (f ∷ []) ∷ [] }

    lowest-is : (c : Common) (unit : ℕ) → slice_get c.strands 0 ≡ Some main-strand → IsFirst unit → IsLowest code c 0 unit
    lowest-is c unit e (inl initial) = inr (refl, initial)
    lowest-is c unit e (inr main) = inl (at-some (λ s. s.unit ≡ unit) (slice_get c.strands 0) main-strand e (sym main))

    state-good : (us : List (ℕ × List Value)) (unit : ℕ) (args : List Value) (g : CodeUnit) → slice_get code.units unit ≡ Some g → IsFirst unit → AllFit code (now us) args g.params → GoodCommon code (now us) Picking →
        Good code Picking (state us (record { unit = unit; role = None; control = entry args g }))
    state-good us unit args g e first fit common =
        record {
          fits = record {
            good = common;
            others = ((λ idle. (frame-fits (now us) unit args g e first fit, tt, tt, lowest-is (now us) unit refl first)), tt);
            count = refl;
            frames = refl;
          };
          ended = ended (record { unit = unit; role = None; control = entry args g });
        }
      where
        ended : (f : Frame Standing) (n : ℕ) → IsIdle Picking (now us) n → IsTrue (has_ended (now us) n) → get_or ((f ∷ []) ∷ []) n [] ≡ []
        ended f zero idle h = absurd (let q : ⊥ = cc in q)
        ended f (suc n) idle h = refl

    -- whichever unit comes first
    begins-good : (fillers : ℕ → List Filler) (all : List (ℕ × List Value)) → ((us : List (ℕ × List Value)) → GoodHeap code (now us)) → ((us : List (ℕ × List Value)) → All (IsToRun code (now us)) all) → (s : State Standing) →
        begins_with (codes fillers code) (first_common launch texts input ticks) all ≡ Some s → Good code Picking s
    begins-good fillers [] heap run s e = absurd (let q : ⊥ = cc in q)
    begins-good fillers ((unit, args) ∷ us) heap run s e =
        let (first, there) = All-head (IsToRun code (now us)) (unit, args) us (run us) in
        let (g, eg, fit) = some-there (λ x. AllFit code (now us) args x.params) (slice_get code.units unit) there in
        let is : Some (state us (record { unit = unit; role = None; control = entry args g })) ≡ Some s =
        sym (ap (λ o. option_map (λ f. state us f) (option_map (λ k. record { unit = unit; role = None; control = k }) (option_map (entry args) o))) eg) ∙ e in
        subst (λ s. Good code Picking s) (some-same _ s is)
        (state-good us unit args g eg first fit (common-good us (heap us) (All-tail (IsToRun code (now us)) (unit, args) us (run us))))

    all-run : (us : List (ℕ × List Value)) (u : CodeUnit) → slice_get code.units code.start ≡ Some u → AllFit code (now us) (main_arguments words) u.params →
        All (IsToRun code (now us)) (map (λ n. (n, [])) code.initialisers ++ (code.start, main_arguments words) ∷ [])
    all-run us u e fit =
        All-append (IsToRun code (now us)) (map (λ n. (n, [])) code.initialisers) ((code.start, main_arguments words) ∷ [])
        (All-map (IsToRun code (now us)) (λ n. (n, [])) code.initialisers (all-contained (λ n. IsToRun code (now us) (n, [])) code.initialisers
        (λ n initial. (inl initial, some-to (IsInitialiserWell code n) (λ x. AllFit code (now us) [] x.params) (slice_get code.units n) (λ x w. subst (λ ps. AllFit code (now us) [] ps) (sym w.0) tt) (initialiser n initial)))))
        (all-one (IsToRun code (now us)) (code.start, main_arguments words) (inr refl, at-some (λ x. AllFit code (now us) (main_arguments words) x.params) (slice_get code.units code.start) u e fit))

-- ---- the words that main takes

-- the only one
single : (ps front : List SemType) (p : SemType) → length ps ≡ 1 → ps ≡ front ++ p ∷ [] → ps ≡ p ∷ []
single ps [] p one e = e
single ps (x ∷ front) p one e = absurd (let l : length ps ≡ suc (length (front ++ p ∷ [])) = ap length e in let m : length (front ++ p ∷ []) ≡ length front + 1 = length-append front (p ∷ []) in omega (arith, one, l, m))

-- what begins with these words of main is good
abbrev BeginsGood : Code → (ℕ → List Filler) → List Text → List ℕ → ℕ → State Standing → Option ℕ → Type 0
BeginsGood code fillers texts input ticks s words =
    begins_with (codes fillers code) (first_common (record { variables = length code.variables; main = code.start; words = words }) texts input ticks)
    (map (λ n. (n, [])) code.initialisers ++ (code.start, main_arguments words) ∷ []) ≡ Some s → Good code Picking s

pub starts-well : StartsWell
starts-well code fillers texts input ticks s t ok e =
    let (u, eu, main) = some-there (IsMain code) (slice_get code.units code.start) t.fields.main in by u eu main.2
  where
    launched : (u : CodeUnit) → slice_get code.units code.start ≡ Some u → (codes fillers code).launch.words ≡ (if length u.params == 0 then None else Some code.words)
    launched u eu = ap (λ o. words_of o code.words) (get-map unit_facts code.units code.start ∙ ap (λ o. option_map unit_facts o) eu)

    without : (u : CodeUnit) → slice_get code.units code.start ≡ Some u → u.params ≡ [] → BeginsGood code fillers texts input ticks s None
    without u eu none =
        begins-good code t texts input ticks None fillers (map (λ n. (n, [])) code.initialisers ++ (code.start, []) ∷ [])
        (λ us. none-good code (now code t texts input ticks None us) input texts refl)
        (λ us. all-run code t texts input ticks None us u eu (subst (λ ps. AllFit code (now code t texts input ticks None us) [] ps) (sym none) tt)) s

    with-words : (u : CodeUnit) → slice_get code.units code.start ≡ Some u → length u.params ≡ 1 → u.rest ≡ Some code.words →
        IsListAtom code.atoms code.words (λ fixed rest. IsSomeAnd rest (λ t. (x : Shape) → IsValid x → (In code.atoms x t.sem ↔ IsString x))) → BeginsGood code fillers texts input ticks s (Some code.words)
    with-words u eu one rest strings =
        let rests = t.fields.rests code.start u eu in
        let known : IsInherent code code.words = All-head (IsInherent code) code.words [] (subst (λ r. All (IsInherent code) (option_to_list r)) rest rests.1) in
        let (lists, (front, p, last, same)) = subst (λ r. HasRest code u r) rest rests.0 in
        let (fixed, items, is, empty) = list-of code.atoms code.words (λ fixed rest. fixed ≡ []) lists in
        let here : slice_get code.atoms code.words ≡ Some (ListAtom [] items) = subst (λ f. slice_get code.atoms code.words ≡ Some (ListAtom f items)) empty is in
        let of-strings = of-some _ (slice_get code.atoms code.words) (ListAtom [] items) here strings in
        begins-good code t texts input ticks (Some code.words) fillers (map (λ n. (n, [])) code.initialisers ++ (code.start, Struct 0 ∷ []) ∷ [])
        (λ us. some-good code (now code t texts input ticks (Some code.words) us) input texts code.words known items here of-strings ok refl)
        (λ us. all-run code t texts input ticks (Some code.words) us u eu
        (subst (λ ps. AllFit code (now code t texts input ticks (Some code.words) us) (Struct 0 ∷ []) ps) (sym (single u.params front p one last))
        (list-fits code (now code t texts input ticks (Some code.words) us) input texts code.words known items here of-strings ok p same, tt))) s

    by : (u : CodeUnit) → slice_get code.units code.start ≡ Some u → (((u.params ≡ []) × (code.words ≡ 0)) ⊎ ((length u.params ≡ 1) × (u.rest ≡ Some code.words)
        × IsListAtom code.atoms code.words (λ fixed rest. IsSomeAnd rest (λ t. (x : Shape) → IsValid x → (In code.atoms x t.sem ↔ IsString x))))) → Good code Picking s
    by u eu (inl (none, unused)) = subst (BeginsGood code fillers texts input ticks s) (sym (launched u eu ∙ ap (λ ps. if length ps == 0 then None else Some code.words) none)) (without u eu none) e
    by u eu (inr (one, rest, strings)) = subst (BeginsGood code fillers texts input ticks s) (sym (launched u eu ∙ ap (λ n. if n == 0 then None else Some code.words) one)) (with-words u eu one rest strings) e
