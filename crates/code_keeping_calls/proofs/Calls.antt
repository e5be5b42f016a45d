-- What a frame asks for at a call and at a start of a function value.
use Rattle.std.proofs.Common.{◌≡◌, ◌≢◌, ◌<◌, ◌+◌, ◌^◌, ◌∙◌, ℕ, zero, suc, Bool, true, false, List, [], ◌∷◌, ◌++◌, Option, Some, None, inl, inr, length, reverse, refl, sym, ap, subst, arith}
use Rattle.std.proofs.lemmas.List.{length-append}
use Rattle.std.proofs.lemmas.List.Elements.{All-cons, All-nil}
use Rattle.std.specs.Prelude.{All, IsSomeAnd, get_or, if◌then◌else◌, nat_le, nat_lt, option_map, option_to_list, slice_get}
use Rattle.bal_base.specs.declared.fault.LimitKind.TheVariants.{Cells, Strands}
use Rattle.bal_base.specs.declared.shape.Shape.{Shape, Nil as NilShape, Bool as BoolShape, Int as IntShape, Str as StrShape, List', Mapping', Error', Function as FunctionShape, Future', Row_of-Shape, end_of-Shape, more_of-Shape, items-the_row-Shape as shapes_in}
use Rattle.bal_base.specs.Valid.{AreValid, IsValid}
use Rattle.type_model.specs.declared.atoms.AtomDef.{AtomDef}
use Rattle.type_model.specs.declared.atoms.AtomDef.TheVariants.{List as ListAtom, Mapping as MappingAtom, Arrow, Error as ErrorAtom, Future as FutureAtom}
use Rattle.type_model.specs.declared.basic.SemType.{SemType, Atom}
use Rattle.type_model.specs.Membership.{AllIn, Fits as ShapeFits, In}
use Rattle.operations.specs.declared.operation.Operation.{Operation}
use Rattle.operations.specs.declared.operation.Operation.TheVariants as op
use Rattle.operations.specs.Kinds.{IsFunction, IsFutureOf}
use Rattle.operations.specs.Rows.{AreBelow, IsWithin, MayGive, NeverFails, OneAndMore, ResultHas}
use Rattle.operations.specs.Typing.{OpTyped}
use Rattle.value_model.specs.declared.filler.Filler.{Filler}
use Rattle.value_model.specs.declared.value.Value.{Value}
use Rattle.value_model.specs.declared.value.Value.TheVariants.{Function, Future}
use Rattle.value_model.specs.Heap.{FunctionObject, cells}
use Rattle.value_model.specs.Meaning.{Answers}
use Rattle.op_model.specs.CallRows.{checked, passed, starts, with_rest}
use Rattle.op_model.specs.Common.{Common, Role, Strand}
use Rattle.op_model.specs.Effects.{Beyond, Effect, Enters, Spawns, with_world}
use Rattle.op_model.specs.ProgramFacts.{UnitFacts}
use Rattle.op_model.specs.Limits.{most_cells, most_strands}
use Rattle.op_model.specs.Local.{Later, Local, acts, takes, with_stack}
use Rattle.op_model.specs.Performs.{Performs}
use Rattle.op_model.specs.Strands.{strand_made}
use Rattle.machine_model.specs.Keeping.{AskFits, EffectFits}
use Rattle.machine_model.specs.Machine.{Ask, Frame, asks, captured_slots, goes_to}
use Rattle.machine_model.specs.Runs.{Running}
use Rattle.stack_code.specs.declared.code.Code.{Code}
use Rattle.stack_code.specs.declared.code.StackMap.{StackMap}
use Rattle.stack_code.specs.declared.code.Unit.{Unit as CodeUnit}
use Rattle.stack_code.specs.CodeMachine.{Standing, code_facts, codes, obeys, standing, unit_facts}
use Rattle.stack_code.specs.Commands.{Do, command_at}
use Rattle.stack_code.specs.Flow.{DoesTyped}
use Rattle.stack_code.specs.Frames.{AwaitsResult, TallyIs, TopFits}
use Rattle.stack_code.specs.Good.{GoodCommon, IsLater, code_invariant}
use Rattle.stack_code.specs.Messages.{IsBelow}
use Rattle.stack_code.specs.Places.{IsIn, no_map, stack_at, surroundings, tally_at}
use Rattle.stack_code.specs.Tables.{IsCallable, IsFutureOf as IsFutureOfUnit}
use Rattle.stack_code.specs.Values.{AllFit, Fits, IsWithinUnit, code_types}
use Rattle.stack_code.specs.WellTyped.{WellTyped}
use Rattle.code_keeping.specs.Kinds.{Functions}
use Rattle.code_keeping.specs.Laws.{AskComes}
use Rattle.code_keeping.proofs.Calling.{ends-with}
use Rattle.code_keeping.proofs.Doing.{quietly-behind, well-behind}
use Rattle.code_keeping.proofs.Growing.{one-given}
use Rattle.code_keeping.proofs.Lists.{all-at, at-some, of-some, some-there, there, zip-both}
use Rattle.code_keeping.proofs.OfKind.{of-kind}
use Rattle.code_keeping.proofs.Operands.{a-function, functions}
use Rattle.code_keeping.proofs.Places.{IsAt, at-place, typed-by, typed-in}
use Rattle.code_keeping.proofs.Shapes.{get-map}
use Rattle.code_keeping.proofs.Staying.{above, all-later, tally-later, unit-later}
use Rattle.code_keeping.proofs.Taking.{IsTaken, take-operands, zip-length}
use Rattle.code_keeping_talk.proofs.Following.{later-follows}
use Rattle.code_keeping_starts.proofs.Spawning.{d as with-strand, good-so, later as strand-later, many, new, new-there}
use Rattle.code_keeping_starts.proofs.Starting.{enters}
use Rattle.code_keeping_calls.specs.Laws.{ValuesAreCalled, ValuesAreStarted}
use Rattle.code_keeping_calls.proofs.Arrows.{callable, gives-all}
use Rattle.code_keeping_calls.proofs.Passing.{Passed, passed-fit}

-- ---- operands

-- a map has fewer operands than a list has places
few-at : (ms : List StackMap) → All (λ m. length m.stack < 2 ^ 63) ms → (p : ℕ) → length (get_or ms p no_map).stack < 2 ^ 63
few-at [] h p = omega arith
few-at (m ∷ ms) h zero = h 0 m (omega arith)
few-at (m ∷ ms) h (suc p) = few-at ms (λ k d l. h (suc k) d (omega (arith, l))) p

few-operands : (code : Code) (t : WellTyped code) (p : ℕ) → length (stack_at code p) < 2 ^ 63
few-operands code t p = few-at code.maps t.fields.stacks p

-- what a function value is called with
pub record IsValueCall (code : Code) (c : Common) (a : SemType) (args : List SemType) (n : ℕ) (vs : List Value) : Type 0 where
  pub o : FunctionObject
  pub there : slice_get c.world.heap.functions n ≡ Some o
  pub u : CodeUnit
  pub unit : slice_get code.units o.unit ≡ Some u
  pub function : Fits code c (Function n) a
  pub fit : AllFit code c vs args
  pub few : length vs < 2 ^ 63
  pub never : NeverFails code.atoms a args

module _ (code : Code) (t : WellTyped code) (c : Common) (good : GoodCommon code c Running) where
  value-call : (a : SemType) (args : List SemType) (n : ℕ) (vs : List Value) → Fits code c (Function n) a → AllFit code c vs args → length vs < 2 ^ 63 → NeverFails code.atoms a args → IsValueCall code c a args n vs
  value-call a args n vs fv fit few never =
      let (o, eo) = there c.world.heap.functions n fv.1.0 in
      let (u, eu, captured) = some-there (λ u. AllFit code c o.captured u.captured) (slice_get code.units o.unit) (all-at (IsWithinUnit code c) c.world.heap.functions n o good.nearly.heap.functions eo).1 in
      record { o = o; there = eo; u = u; unit = eu; function = fv; fit = fit; few = few; never = never }

  module _ (a : SemType) (args : List SemType) (n : ℕ) (vs : List Value) (k : IsValueCall code c a args n vs) where
    abbrev u : CodeUnit
    u = k.u

    abbrev d : Common
    d = with_world c (with_rest u.rest (length u.params) c.world vs)

    abbrev all-args : List Value
    all-args = passed u.rest (length u.params) c.world vs ++ k.o.captured

    can-be-called : IsCallable code k.o.unit
    can-be-called = callable code t c good.nearly.heap n k.o k.there u k.unit a args k.function vs k.fit k.few k.never

    may : (x : Shape) → IsValid x → In code.atoms x u.result → MayGive code.atoms a args x
    may = gives-all code t c good.nearly.heap n k.o k.there u k.unit a args k.function vs k.fit k.few k.never

    all-fit : Passed code t c good n k.o k.there u k.unit a args k.function vs k.fit k.few k.never d (passed u.rest (length u.params) c.world vs) → AllFit code d all-args (u.params ++ u.captured)
    all-fit p =
        zip-both (Fits code d) (passed u.rest (length u.params) c.world vs) k.o.captured u.params u.captured p.arguments
        (all-later code None c d (p.later None) k.o.captured u.captured (of-some (λ u. AllFit code c k.o.captured u.captured) (slice_get code.units k.o.unit) u k.unit (all-at (IsWithinUnit code c) c.world.heap.functions n k.o good.nearly.heap.functions k.there).1))

-- ---- the frame

module _ (code : Code) (fillers : ℕ → List Filler) (natives : Answers) (t : WellTyped code) (c : Common) (depth : ℕ) (good : GoodCommon code c Running) (f : Frame Standing) (fits : TopFits code c f) (at : IsAt code c f) (count : ℕ) where
  abbrev p : ℕ
  p = f.control.place

  abbrev l : Local
  l = f.control.local

  abbrev Looks : Ask Standing → Type 0
  Looks ask = AskFits natives (codes fillers code) (code_invariant code) c depth f ask × AskComes natives (code_facts fillers code) c depth f ask

  abbrev Fit : List Value → Effect → Type 0
  Fit below effect = EffectFits natives (codes fillers code) (code_invariant code) c depth f (standing (p + 1) f.control.traps (with_stack l below)) effect

  -- a place at which a function value and its arguments are taken
  module _ (o : Operation) (ec : command_at code p ≡ Some (Do o)) (Gives : SemType → List SemType → Shape → Type 0)
      (row : (operands : List SemType) (result : Option SemType) → OpTyped code.atoms (surroundings code at.u at.station) o operands result →
      OneAndMore operands (λ f args. (length args ≡ count) × IsWithin code.atoms IsFunction f × NeverFails code.atoms f args × ResultHas code.atoms result (Gives f args)))
      (begins : (captured : List ℕ) → acts captured o l ≡ takes o l (suc count)) where
    abbrev typed : DoesTyped code at.u at.station p o
    typed = typed-by code at.u at.station p (Do o) ec (typed-in code t f.unit at.u at.is at.station at.stationed p at.here.0)

    -- what comes of each call with operands that fit
    abbrev EachCall : Type 0
    EachCall =
        (a : SemType) (args : List SemType) → typed.operands ≡ a ∷ args → ResultHas code.atoms typed.result (Gives a args) → (n : ℕ) (vs below : List Value) → l.stack ≡ reverse (Function n ∷ vs) ++ below → AllFit code c (reverse below) typed.rest →
        (k : IsValueCall code c a args n vs) → (effect : Effect) × Fit below effect × ((e : Effect) → Performs (code_facts fillers code) natives o (Function n ∷ vs) (record { unit = f.unit; role = f.role; depth = depth }) c e → e ≡ effect)
        × Performs (code_facts fillers code) natives o (Function n ∷ vs) (record { unit = f.unit; role = f.role; depth = depth }) c effect

    looks-so : EachCall → Looks ((codes fillers code).look f.unit f.control)
    looks-so each =
        let captured = captured_slots (code_facts fillers code) f.unit in
        subst (λ x. Looks (obeys captured f.control x)) (sym ec)
        (subst (λ q. Looks (asks (standing (p + 1) f.control.traps) q)) (sym (begins captured)) (by typed.operands refl (row typed.operands typed.result typed.typed)))
      where
        few : (os : List SemType) → typed.operands ≡ os → length os < 2 ^ 63
        few os e =
            let all = few-operands code t p in
            let long : length (stack_at code p) ≡ length typed.rest + length os = ap length (typed.stack ∙ ap (λ z. typed.rest ++ z) e) ∙ length-append typed.rest os in
            omega (arith, all, long)

        with-taken : (a : SemType) (args : List SemType) → typed.operands ≡ a ∷ args → length args ≡ count → IsWithin code.atoms IsFunction a → NeverFails code.atoms a args → ResultHas code.atoms typed.result (Gives a args) →
            IsTaken (Fits code c) o l typed.rest (a ∷ args) → Looks (asks (standing (p + 1) f.control.traps) (takes o l (suc count)))
        with-taken a args e as-many is-function never has taken = on taken.args taken.fit taken.is taken.stack
          where
            on : (xs : List Value) → AllFit code c xs (a ∷ args) → takes o l (suc (length args)) ≡ Later o xs (with_stack l taken.below) → l.stack ≡ reverse xs ++ taken.below → Looks (asks (standing (p + 1) f.control.traps) (takes o l (suc count)))
            on [] fit is stack = absurd fit
            on (v ∷ vs) (fv, fit) is stack =
                a-function c.world.heap (λ z. Fits code c z a → takes o l (suc (length args)) ≡ Later o (z ∷ vs) (with_stack l taken.below) → l.stack ≡ reverse (z ∷ vs) ++ taken.below → Looks (asks (standing (p + 1) f.control.traps) (takes o l (suc count)))) v
                (of-kind code t c good.nearly.heap (λ k. k ≡ Functions) v a fv (λ x h. functions x (is-function x h)))
                (λ n fn is stack.
                let k = value-call code t c good a args n vs fn fit (let m = few (a ∷ args) e in let z = zip-length (Fits code c) vs args fit in omega (arith, m, z)) never in
                let (effect, ok, only, performs) = each a args e has n vs taken.below stack taken.others k in
                subst (λ q. Looks (asks (standing (p + 1) f.control.traps) q)) (sym (ap (λ j. takes o l (suc j)) (sym as-many) ∙ is))
                ((λ other does. subst (Fit taken.below) (sym (only other does)) ok), (λ none. none effect performs))) fv is stack

        by : (os : List SemType) → typed.operands ≡ os → OneAndMore os (λ f args. (length args ≡ count) × IsWithin code.atoms IsFunction f × NeverFails code.atoms f args × ResultHas code.atoms typed.result (Gives f args)) →
            Looks (asks (standing (p + 1) f.control.traps) (takes o l (suc count)))
        by [] e h = absurd h
        by (a ∷ args) e (as-many, is-function, never, has) =
            with-taken a args e as-many is-function never has (take-operands (Fits code c) o l typed.rest (a ∷ args) (subst (λ ts. AllFit code c (reverse l.stack) ts) (typed.stack ∙ ap (λ os. typed.rest ++ os) e) fits.1))

  -- the function and its unit, as what performs sees them
  module _ (n : ℕ) (q : FunctionObject) (eq : slice_get c.world.heap.functions n ≡ Some q) (u : CodeUnit) (eu : slice_get code.units q.unit ≡ Some u) (P : FunctionObject → UnitFacts → Type 0) where
    facts-there : slice_get (code_facts fillers code).units q.unit ≡ Some (unit_facts u)
    facts-there = get-map unit_facts code.units q.unit ∙ ap (λ o. option_map unit_facts o) eu

    at-function : P q (unit_facts u) → IsSomeAnd (slice_get c.world.heap.functions n) (λ f. IsSomeAnd (slice_get (code_facts fillers code).units f.unit) (λ v. P f v))
    at-function h = at-some (λ f. IsSomeAnd (slice_get (code_facts fillers code).units f.unit) (λ v. P f v)) (slice_get c.world.heap.functions n) q eq (at-some (λ v. P q v) (slice_get (code_facts fillers code).units q.unit) (unit_facts u) facts-there h)

    of-function : IsSomeAnd (slice_get c.world.heap.functions n) (λ f. IsSomeAnd (slice_get (code_facts fillers code).units f.unit) (λ v. P f v)) → P q (unit_facts u)
    of-function h = of-some (λ v. P q v) (slice_get (code_facts fillers code).units q.unit) (unit_facts u) facts-there (of-some (λ f. IsSomeAnd (slice_get (code_facts fillers code).units f.unit) (λ v. P f v)) (slice_get c.world.heap.functions n) q eq h)

  -- ---- a call

  module _ (ec : command_at code p ≡ Some (Do (op.CallValue count))) where
    abbrev call-typed : DoesTyped code at.u at.station p (op.CallValue count)
    call-typed = typed (op.CallValue count) ec (λ f args. MayGive code.atoms f args) (λ operands result h. h) (λ captured. refl)

    module _ (a : SemType) (args : List SemType) (has : ResultHas code.atoms call-typed.result (MayGive code.atoms a args)) (n : ℕ) (vs below : List Value) (is : l.stack ≡ reverse (Function n ∷ vs) ++ below) (others : AllFit code c (reverse below) call-typed.rest)
        (k : IsValueCall code c a args n vs) where
      abbrev after : Common
      after = d code t c good a args n vs k

      abbrev effect : Effect
      effect = checked after (Enters k.o.unit (all-args code t c good a args n vs k) after)

      module _ (ok : Passed code t c good n k.o k.there k.u k.unit a args k.function vs k.fit k.few k.never after (passed k.u.rest (length k.u.params) c.world vs)) where
        awaits-so : (r : Option SemType) → call-typed.result ≡ r → AwaitsResult code after (goes_to f (standing (p + 1) f.control.traps (with_stack l below))) k.o.unit
        awaits-so None er = absurd (subst (λ r. ResultHas code.atoms r (MayGive code.atoms a args)) er has)
        awaits-so (Some r) er =
            let next = call-typed.next (λ h. h) in
            let e = ends-with (λ s t. IsWithin code.atoms (λ x. In code.atoms x t) s) call-typed.rest r (stack_at code (p + 1)) (subst (λ z. AreBelow code.atoms (call-typed.rest ++ option_to_list z) (stack_at code (p + 1))) er next.1) in
            let gives : ResultHas code.atoms (Some r) (MayGive code.atoms a args) = subst (λ z. ResultHas code.atoms z (MayGive code.atoms a args)) er has in
            record {
              call = p;
              rest = e.front;
              result = e.last;
              behind = refl;
              inside = at-some (λ u. IsIn u p) (slice_get code.units f.unit) at.u at.is at.here.0;
              is_call = inr (count, ec);
              stack = e.is;
              stands = well-behind code f at.u at.is at.station (op.CallValue count) ec call-typed (λ h. h) c after (ok.later None) (reverse (Function n ∷ vs)) below [] is others fits.0
                  (subst (λ k. TallyIs code after f.role k) (sym next.2) (tally-later code c after f.role (tally_at code p) (ok.later f.role) fits.0.1)) (unit-later code f.role c after (ok.later f.role) f.unit fits.0.2);
              operands = above code after (reverse below) call-typed.rest e.front (all-later code None c after (ok.later None) (reverse below) call-typed.rest others) e.below;
              below = at-some (λ u. IsBelow code u.result e.last) (slice_get code.units k.o.unit) k.u k.unit (λ x h. e.at x (h.0, gives x h.0 (may code t c good a args n vs k x h.0 h.1)));
            }

        entered : Fit below (Enters k.o.unit (all-args code t c good a args n vs k) after)
        entered = (
          ok.sound,
          ok.keeps,
          ok.later,
          (λ z e. enters code t after k.o.unit k.u k.unit (can-be-called code t c good a args n vs k).1 fillers (all-args code t c good a args n vs k) (all-fit code t c good a args n vs k ok) z e),
          awaits-so call-typed.result refl,
        )

      called : Fit below effect
      called = by (nat_le (cells after.world.heap) most_cells) refl
        where
          by : (b : Bool) → nat_le (cells after.world.heap) most_cells ≡ b → Fit below (if b then Enters k.o.unit (all-args code t c good a args n vs k) after else Beyond Cells)
          by true e = entered (passed-fit code t c good n k.o k.there k.u k.unit a args k.function vs k.fit k.few k.never k.u.rest refl e)
          by false e = tt

    pub call-done : Looks ((codes fillers code).look f.unit f.control)
    call-done =
        looks-so (op.CallValue count) ec (λ f args. MayGive code.atoms f args) (λ operands result h. h) (λ captured. refl)
        (λ a args e has n vs below is others k. (
          effect a args has n vs below is others k,
          called a args has n vs below is others k,
          (λ other does. of-function n k.o k.there k.u k.unit _ does),
          at-function n k.o k.there k.u k.unit _ refl,
        ))

  -- ---- a start

  -- each future of the unit's result is one of what the function may give
  module _ (P : Shape → Type 0) (outcome : SemType) (each : (x : Shape) → IsValid x → In code.atoms x outcome → P x) where
    all-results : (m : _) (row : Row_of-Shape m) → AreValid row → AllIn code.atoms row outcome → All P (shapes_in m row)
    all-results m end_of-Shape valid h = All-nil P
    all-results m (more_of-Shape x row) (v, valid) (i, h) = All-cons P x (shapes_in _ row) (each x v i) (all-results _ row valid h)

    future-of : (x : Shape) → IsValid x → ShapeFits code.atoms x (FutureAtom outcome) → IsFutureOf P x
    future-of (Future' _ row) valid h = all-results _ row valid h
    future-of NilShape valid h = absurd h
    future-of (BoolShape b) valid h = absurd h
    future-of (IntShape i) valid h = absurd h
    future-of (StrShape s) valid h = absurd h
    future-of (List' mark _ items) valid h = absurd h
    future-of (Mapping' mark _ fields) valid h = absurd h
    future-of (Error' _ detail) valid h = absurd h
    future-of (FunctionShape isolated graph) valid h = absurd h

  module _ (ec : command_at code p ≡ Some (Do (op.StartValue count))) where
    abbrev start-typed : DoesTyped code at.u at.station p (op.StartValue count)
    start-typed = typed (op.StartValue count) ec (λ f args. IsFutureOf (MayGive code.atoms f args)) (λ operands result h. h) (λ captured. refl)

    module _ (a : SemType) (args : List SemType) (has : ResultHas code.atoms start-typed.result (IsFutureOf (MayGive code.atoms a args))) (n : ℕ) (vs below : List Value) (is : l.stack ≡ reverse (Function n ∷ vs) ++ below) (others : AllFit code c (reverse below) start-typed.rest)
        (k : IsValueCall code c a args n vs) where
      abbrev soon : Common
      soon = d code t c good a args n vs k

      abbrev start-effect : Effect
      start-effect = checked soon (starts soon f.role k.o.unit (all-args code t c good a args n vs k))

      module _ (ok : Passed code t c good n k.o k.there k.u k.unit a args k.function vs k.fit k.few k.never soon (passed k.u.rest (length k.u.params) c.world vs)) where
        abbrev z : Common
        z = with-strand code soon ok.sound k.o.unit None

        later-z : (q : Option Role) → IsLater q c z
        later-z q = later-follows q c soon z (ok.later q) (strand-later code soon ok.sound k.o.unit None q)

        not-first : length c.strands ≢ 0
        not-first e = let l = good.nearly.ready.there in omega (arith, l, e)

        of-unit : (x : Shape) → IsValid x → In code.atoms x (Atom k.u.future) → IsFutureOf (MayGive code.atoms a args) x
        of-unit x valid inside =
            let (e, ee, of) = some-there (IsFutureOfUnit code k.u) (slice_get code.atoms k.u.future) (((t.fields.atoms k.o.unit k.u k.unit).1 (can-be-called code t c good a args n vs k).1 (can-be-called code t c good a args n vs k).2).1) in
            by e ee of
          where
            by : (e : AtomDef) → slice_get code.atoms k.u.future ≡ Some e → IsFutureOfUnit code k.u e → IsFutureOf (MayGive code.atoms a args) x
            by (FutureAtom outcome) ee same =
                future-of (MayGive code.atoms a args) outcome (λ y v i. may code t c good a args n vs k y v ((same y v).0 i)) x valid (of-some (ShapeFits code.atoms x) (slice_get code.atoms k.u.future) (FutureAtom outcome) ee inside)
            by (ListAtom fixed rest) ee h = absurd h
            by (MappingAtom fields rest) ee h = absurd h
            by (Arrow from to alone) ee h = absurd h
            by (ErrorAtom detail) ee h = absurd h

        future-fits : AllFit code z (Future (length c.strands) k.o.unit ∷ []) (option_to_list start-typed.result)
        future-fits =
            one-given code z start-typed.result (IsFutureOf (MayGive code.atoms a args)) (Future (length c.strands) k.o.unit) has ok.sound.nearly.heap.closed
            (tt, tt, (not-first, at-some (λ (s : Strand). (s.unit ≡ k.o.unit) × (s.role ≡ None)) (slice_get z.strands (length c.strands)) (new code soon ok.sound k.o.unit None) (new-there code soon ok.sound k.o.unit None) (refl, refl), can-be-called code t c good a args n vs k))
            (λ x valid s. of-unit x valid (of-some (λ q. In code.atoms x (Atom q.1)) (slice_get (code_types code).units k.o.unit) (k.u.arrow, k.u.future)
            (get-map (λ (u : CodeUnit). (u.arrow, u.future)) code.units k.o.unit ∙ ap (λ o. option_map (λ (u : CodeUnit). (u.arrow, u.future)) o) k.unit) s))

        begun : Fit below (Spawns (record { unit = k.o.unit; args = all-args code t c good a args n vs k; role = None } ∷ []) f.role (Future (length c.strands) k.o.unit ∷ []) z)
        begun = (
          good-so code soon ok.sound k.o.unit None,
          refl,
          many code soon ok.sound k.o.unit None,
          (λ q apart. later-z q),
          inl refl,
          quietly-behind code f at.u at.is at.station (op.StartValue count) ec start-typed (λ h. h) refl c z (later-z f.role) (reverse (Function n ∷ vs)) below (Future (length c.strands) k.o.unit ∷ []) is others future-fits fits.0,
          (
            (
              (λ m e. enters code t z k.o.unit k.u k.unit (can-be-called code t c good a args n vs k).1 fillers (all-args code t c good a args n vs k)
                  (all-later code None soon z (strand-later code soon ok.sound k.o.unit None None) (all-args code t c good a args n vs k) (k.u.params ++ k.u.captured) (all-fit code t c good a args n vs k ok)) m e),
              tt,
              inl (at-some (λ (s : Strand). s.unit ≡ k.o.unit) (slice_get z.strands (length c.strands)) (new code soon ok.sound k.o.unit None) (new-there code soon ok.sound k.o.unit None) refl),
            ),
            tt,
          ),
        )

      started : Fit below start-effect
      started = by (nat_le (cells soon.world.heap) most_cells) refl
        where
          on : (b : Bool) → nat_le (cells soon.world.heap) most_cells ≡ true → Fit below (if b then Spawns (record { unit = k.o.unit; args = all-args code t c good a args n vs k; role = None } ∷ []) f.role (Future (length c.strands) k.o.unit ∷ []) (strand_made k.o.unit None soon) else Beyond Strands)
          on true e = begun (passed-fit code t c good n k.o k.there k.u k.unit a args k.function vs k.fit k.few k.never k.u.rest refl e)
          on false e = tt

          by : (b : Bool) → nat_le (cells soon.world.heap) most_cells ≡ b → Fit below (if b then starts soon f.role k.o.unit (all-args code t c good a args n vs k) else Beyond Cells)
          by true e = on (nat_lt (length soon.strands) most_strands) e
          by false e = tt

    pub start-done : Looks ((codes fillers code).look f.unit f.control)
    start-done =
        looks-so (op.StartValue count) ec (λ f args. IsFutureOf (MayGive code.atoms f args)) (λ operands result h. h) (λ captured. refl)
        (λ a args e has n vs below is others k. (
          start-effect a args has n vs below is others k,
          started a args has n vs below is others k,
          (λ other does. of-function n k.o k.there k.u k.unit _ does),
          at-function n k.o k.there k.u k.unit _ refl,
        ))

pub values-are-called : (natives : Answers) → ValuesAreCalled natives
values-are-called natives fillers count code c t = (
  (λ depth f good fits ec. (call-done code fillers natives t c depth good f fits (at-place code c f fits.0) count ec).0),
  (λ depth f good fits ec. (call-done code fillers natives t c depth good f fits (at-place code c f fits.0) count ec).1),
)

pub values-are-started : (natives : Answers) → ValuesAreStarted natives
values-are-started natives fillers count code c t = (
  (λ depth f good fits ec. (start-done code fillers natives t c depth good f fits (at-place code c f fits.0) count ec).0),
  (λ depth f good fits ec. (start-done code fillers natives t c depth good f fits (at-place code c f fits.0) count ec).1),
)
