-- Anonymous functions: what they capture is known where they stand, and their value flows in a unit of its own.
use Rattle.std.proofs.Common.{◌≡◌, ◌≤◌, ◌+◌, ◌-◌, ◌∙◌, ◌++◌, ℕ, Bool, true, List, [], ◌∷◌, length, map, take, replicate, All, Option, None, Some, append-nil, append_assoc, arith, length-append, refl, sym, subst, ap}
use Rattle.std.specs.Prelude.{is_some}
use Rattle.std.specs.List.{AllZip}
use Rattle.std.proofs.lemmas.List.{length-map}
use Rattle.std.proofs.lemmas.List.Elements.{All-append, All-cons, All-head, All-tail, length_all_zip}
use Rattle.bal_base.specs.declared.place.Place.{Place}
use Rattle.bal_tree.specs.declared.name.Word.{Word}
use Rattle.bal_tree.specs.declared.params.Param.{Param}
use Rattle.bal_tree.specs.declared.params.Params.{Params}
use Rattle.bal_tree.specs.declared.types.TypeTree.{TypeTree}
use Rattle.checks.specs.Checks.{Gives, ◌▷◌, gives_some}
use Rattle.checks.specs.Questions.{adds}
use Rattle.descriptors.specs.declared.names.Names.{Names}
use Rattle.needs.specs.Needs.{asks, does, in_turn, in_turn_from}
use Rattle.operations.specs.Rows.{Surroundings}
use Rattle.type_model.specs.declared.answers.TypeLimit.{TypeLimit}
use Rattle.type_model.specs.declared.atoms.AtomDef.{AtomDef}
use Rattle.type_model.specs.declared.basic.SemType.{SemType}
use Rattle.type_model.specs.declared.basic.Ty.{Ty}
use Rattle.type_model.specs.Calls.{Asked}
use Rattle.typed_tree.proofs.SeenParts.{para_out}
use Rattle.typed_tree.specs.declared.expr.AnonymousFunction.{AnonymousFunction}
use Rattle.typed_tree.specs.declared.expr.TypedExpr.{TypedExpr, TypedExpr-F, map-TypedExpr, out-TypedExpr, para-TypedExpr}
use Rattle.typed_tree.specs.declared.expr.TypedExpr.TheOpen as layer
use Rattle.typed_tree.specs.declared.unit.Captured.{Captured}
use Rattle.typed_tree.specs.Listed.{Listed, members, nothing, one, ◌&◌, if_there}
use Rattle.typed_tree.specs.SharedTypes.{Shared, sem_of}
use Rattle.typed_tree.specs.Units.{OfAnonymous}
use Rattle.typed_tree.specs.Views.{IsFunctionOf}
use Rattle.expr_needs.specs.declared.expected.Expected.TheVariants as expected
use Rattle.expr_needs.specs.ExprTable.{Reading, anonymous_needs, as_wanted, parameter_needs, rest_needs, signature_needs}
use Rattle.expr_needs.specs.Needs.{Need, BeginsAnonymous, BeginsValue, Describes, HasParameter, HasRest, IsWanted, MakesAnonymous}
use Rattle.flow_narrowing.specs.declared.flow.Flow.{Flow as CheckedFlow}
use Rattle.flow_narrowing.specs.Flows.{now}
use Rattle.check_words.specs.Calls.{Capture, captured_as, captures, makes_anonymous, typed_unit}
use Rattle.check_words.specs.Sharing.{SameCaptured, SameFlow}
use Rattle.check_words.specs.State.{AreLast, IsLast, State, UnitAtWork, Ways, all_but, ways_or_same}
use Rattle.check_words.proofs.Standing.{back-have, front-have}
use Rattle.check_laws.specs.Laws.{IsReady}
use Rattle.eval_model.specs.TaskWalk.{TasksOver}
use Rattle.eval_model.specs.Trees.{body_tasks}
use Rattle.eval_model.specs.Walk.{ExprOver}
use Rattle.tree_promises.specs.Flows.{Around, flow_ways}
use Rattle.tree_promises.specs.Known.{Flow, Point, plain, told}
use Rattle.tree_promises.specs.Laws.{MadeExprsKeepFlows}
use Rattle.tree_promises.specs.MadeFlows.{AllKnown, IsKnown, MadeKeepsFlow}
use Rattle.tree_promises.specs.Placed.{Placed, anonymous, first_known}
use Rattle.tree_promises.specs.WellTyped.{around_of}
use Rattle.tree_promises.proofs.Order.{below-itself}
use Rattle.typed_needs.specs.Asked.{AllIsAsked}
use Rattle.typed_needs.specs.Between.{IsSoFar, IsStanding, IsUnitAt, units_in}
use Rattle.typed_needs.specs.Going.{IsSameUnit}
use Rattle.typed_needs.proofs.Asking.{all-is-asked}
use Rattle.typed_needs.proofs.Placed.{all-but-last, last-same}
use Rattle.calm_needs.proofs.PlacedParts.{one-units, units-append, units_of}
use Rattle.typed_exprs.specs.Lines.{Left, Path, Run}
use Rattle.typed_exprs.proofs.Steps.{parted, so-far}
use Rattle.flow_needs.specs.Quiet.{KnowsOn, KnowsSame}
use Rattle.flow_needs.specs.Runs.{ComesToFlow, IsBaseAt, IsFlowingUnit, KnowsFlow}
use Rattle.flow_needs.specs.Slots.{HasOwnSlots, HaveSlots}
use Rattle.flow_needs.proofs.Entering.{Inside, IsFoundIn, Valued, captures-found, described, entered, parameter-added, rest-added, valued}
use Rattle.flow_needs.proofs.Growing.{as_live, comes-plain, known, known-alike}
use Rattle.flow_needs.proofs.InTurn.{begin_with, begins-typed, nothing_known, turn-begins, turn-slots}
use Rattle.flow_needs.proofs.Known.{all-variables-are-known}
use Rattle.flow_needs.proofs.Narrowing.{all-ways-are-narrower}
use Rattle.flow_needs.proofs.Own.{all-found, cons-of}
use Rattle.flow_needs.proofs.Quieting.{captured-then, knows-at-hand, knows-then}
use Rattle.flow_needs.proofs.Reading.{now-shared, within-more}
use Rattle.flow_needs.proofs.Stepping.{FlowLine, nothing-run, slots-within}

-- ---- units, one by one

split-unit : (kept vs : List UnitAtWork) (u : UnitAtWork) → AllZip IsSameUnit (kept ++ u ∷ []) vs → (later : List UnitAtWork) × (v : UnitAtWork) × (vs ≡ later ++ v ∷ []) × IsSameUnit u v
split-unit [] (v ∷ []) u each = ([], v, refl, each.0)
split-unit [] (v ∷ w ∷ vs) u each = absurd each.1
split-unit [] [] u each = absurd each
split-unit (k ∷ kept) (v ∷ vs) u each = let (later, w, is, same) = split-unit kept vs u each.1 in (v ∷ later, w, ap (λ xs. v ∷ xs) is, same)
split-unit (k ∷ kept) [] u each = absurd each

none-over : {A : Type 0} (xs ys : List A) → length (xs ++ ys) ≡ length xs → ys ≡ []
none-over xs [] e = refl
none-over xs (y ∷ ys) e = absurd (let more = length-append xs (y ∷ ys) in omega (arith, e, more))

-- the unit at hand, where as many go on
goes-last : (s t : State) (u v : UnitAtWork) → Path s t → IsLast s.units u → IsLast t.units v → IsSameUnit u v
goes-last s t u v path last hand =
    let g = path.goes in
    let long = length_all_zip IsSameUnit s.units g.going g.each in
    let all : t.units ≡ g.going ++ g.above = g.units in
    let none : g.above ≡ [] = none-over g.going g.above (sym (ap length all) ∙ path.many ∙ long) in
    let same : t.units ≡ g.going = all ∙ ap (λ xs. g.going ++ xs) none ∙ append-nil g.going in
    let (later, w, is, unit) = split-unit last.kept g.going u (subst (λ us. AllZip IsSameUnit us g.going) last.is g.each) in
    let one : w ≡ v = last-same t.units w v (record { kept = later; is = same ∙ is }) hand in
    subst (λ (x : UnitAtWork). IsSameUnit u x) one unit

split-known : (kept vs : List UnitAtWork) (u : UnitAtWork) → AllZip KnowsSame (kept ++ u ∷ []) vs
    → (later : List UnitAtWork) × (v : UnitAtWork) × (vs ≡ later ++ v ∷ []) × AllZip KnowsSame kept later × KnowsSame u v
split-known [] (v ∷ []) u each = ([], v, refl, tt, each.0)
split-known [] (v ∷ w ∷ vs) u each = absurd each.1
split-known [] [] u each = absurd each
split-known (k ∷ kept) (v ∷ vs) u each = let (later, w, is, all, same) = split-known kept vs u each.1 in (v ∷ later, w, ap (λ xs. v ∷ xs) is, (each.0, all), same)
split-known (k ∷ kept) [] u each = absurd each

-- ---- the unit ends

abbrev function_of : Bool → UnitAtWork → ℕ → AnonymousFunction
function_of isolated u first = record { isolated = isolated; unit = typed_unit u (first + 1) (first + 2); args = first; captured = u.captured }

pub record Ended (isolated : Bool) (at : Place) (old new : State) : Type 0 where
  pub unit : UnitAtWork
  pub at_hand : IsLast old.units unit
  pub first : ℕ
  pub value : TypedExpr
  pub last : AreLast old.found 1 (value ∷ [])
  pub part : TypedExpr
  pub type : Shared
  pub view : IsFunctionOf (function_of isolated unit first) value type at part
  pub found : new.found ≡ all_but 1 old.found ++ part ∷ []
  pub units : new.units ≡ all_but 1 old.units
  pub ways : new.ways ≡ None
  pub more : List AtomDef
  pub atoms : new.atoms ≡ old.atoms ++ more

pub ended : (isolated : Bool) (at : Place) (old new : State) → makes_anonymous isolated at old (Gives tt) new → Ended isolated at old new
unfolding ◌▷◌ gives_some does asks adds
ended isolated at old new (v, s1, e1, (u, s4, (w, s2, (last, e2), (x, s3, e3, (is, e4))), (first, s5, ((defs, own, number, atoms), e5), (parts, lasts, e, (value, are, t, type, view), e6)))) =
    let to-4 : s4 ≡ record s2 { units = all_but 1 s2.units; ways = None } = e4 ∙ e3 in
    let units-1 : s1.units ≡ old.units = ap (λ (s : State). s.units) e1 in
    let found-5 : s5.found ≡ old.found =
    ap (λ (s : State). s.found) e5 ∙ ap (λ (s : State). s.found) to-4 ∙ ap (λ (s : State). s.found) e2 ∙ ap (λ (s : State). s.found) e1 in
    let atoms-4 : s4.atoms ≡ old.atoms = ap (λ (s : State). s.atoms) to-4 ∙ ap (λ (s : State). s.atoms) e2 ∙ ap (λ (s : State). s.atoms) e1 in
    let units-5 : s5.units ≡ all_but 1 old.units =
    ap (λ (s : State). s.units) e5 ∙ ap (λ (s : State). s.units) to-4 ∙ ap (λ (s : State). all_but 1 s.units) e2 ∙ ap (λ us. all_but 1 us) units-1 in
    record {
      unit = u;
      at_hand = subst (λ us. IsLast us u) units-1 (subst (λ (y : UnitAtWork). IsLast s1.units y) (sym is) last);
      first = first;
      value = value;
      last = subst (λ xs. AreLast xs 1 (value ∷ [])) found-5 (subst (AreLast s5.found 1) are lasts);
      part = e;
      type = t;
      view = view;
      found = ap (λ (s : State). s.found) e6 ∙ ap (λ xs. all_but 1 xs ++ e ∷ []) found-5;
      units = ap (λ (s : State). s.units) e6 ∙ units-5;
      ways = ap (λ (s : State). s.ways) e6;
      more = defs;
      atoms = ap (λ (s : State). s.atoms) e6 ∙ atoms ∙ ap (λ xs. xs ++ defs) atoms-4;
    }

-- ---- the units in a function

para-at : (A : Type 0) (step : TypedExpr-F (TypedExpr × A) → A) (e : TypedExpr) (x : TypedExpr-F TypedExpr) → out-TypedExpr e ≡ x
    → para-TypedExpr A step e ≡ step (map-TypedExpr TypedExpr (TypedExpr × A) (λ t. (t, para-TypedExpr A step t)) x)
para-at A step e x o = para_out A step e ∙ ap (λ y. step (map-TypedExpr TypedExpr (TypedExpr × A) (λ t. (t, para-TypedExpr A step t)) y)) o

function-units : (f : AnonymousFunction) (value e : TypedExpr) (t : Shared) (at : Place) → IsFunctionOf f value t at e → units_of e ≡ anonymous f value ∷ units_of value
function-units f value e t at (g, v, o, ef, ev) =
    ap members (para-at _ _ e (layer.Function g v t at) o)
    ∙ ap (λ x. anonymous x v.value ∷ units_of v.value) ef ∙ ap (λ x. anonymous f x ∷ units_of x) ev

-- ---- what is captured is known where the function stands

module _ (env : List AtomDef) (around : Around) (live : Bool) where
  one-known : (f : CheckedFlow) (c : Capture) (d : Captured) → HaveSlots (length around.slots) f.variables → IsFoundIn f.variables c → SameCaptured (captured_as c) d
      → IsKnown env around d.slot d.narrowed (sem_of d.ty) (known env around live f)
  one-known f c d slots (name, e) same =
      let here : IsKnown env around c.0.slot (is_some c.0.narrowed) (now c.0).sem (known env around live f) =
      (all-variables-are-known env around (length around.slots)).reads (as_live env around live f) name c.0 slots e in
      let type : d.ty.value ≡ now c.0 = same.ty ∙ now-shared c.0 in
      subst (λ (t : Ty). IsKnown env around d.slot d.narrowed t.sem (known env around live f)) (sym type)
      (subst (λ b. IsKnown env around d.slot b (now c.0).sem (known env around live f)) (sym same.narrowed)
      (subst (λ n. IsKnown env around n (is_some c.0.narrowed) (now c.0).sem (known env around live f)) (sym same.slot) here))

  all-captured : (f : CheckedFlow) (cs : List Capture) (ds : List Captured) → HaveSlots (length around.slots) f.variables → All (IsFoundIn f.variables) cs
      → AllZip SameCaptured (map captured_as cs) ds → AllKnown env around ds (known env around live f)
  all-captured f [] [] slots all same = tt
  all-captured f (c ∷ cs) (d ∷ ds) slots all same =
      (one-known f c d slots (All-head (IsFoundIn f.variables) c cs all) same.0, all-captured f cs ds slots (All-tail (IsFoundIn f.variables) c cs all) same.1)
  all-captured f [] (d ∷ ds) slots all same = absurd same
  all-captured f (c ∷ cs) [] slots all same = absurd same

-- ---- the value flows in the unit

-- the unit begins with what is known of its first slots as they are declared
take-front : {A : Type 0} (xs ys : List A) → take (length xs) (xs ++ ys) ≡ xs
take-front [] ys = refl
take-front (x ∷ xs) ys = ap (λ zs. x ∷ zs) (take-front xs ys)

begins-so : (count held : ℕ) (ts : List Shared) (more types : List SemType) → types ≡ map sem_of ts ++ more → count ≡ length types → held ≡ length ts
    → first_known count (take held types) ≡ begin_with ts (nothing_known (length more))
begins-so count held ts more types is long many =
    let front : take held types ≡ map sem_of ts =
    ap (λ n. take n types) (many ∙ sym (length-map ts sem_of)) ∙ ap (λ xs. take (length (map sem_of ts)) xs) is ∙ take-front (map sem_of ts) more in
    let of-types = ap length is in let all = length-append (map sem_of ts) more in let of-front = ap length front in
    ap (λ xs. map Some xs ++ replicate (count - length (take held types)) None) front
    ∙ ap (λ n. map Some (map sem_of ts) ++ replicate n None) (let e : count - length (take held types) ≡ length more = omega (arith, of-types, all, of-front, long) in e)
    ∙ begins-typed ts (nothing_known (length more))

module _ (env : List AtomDef) where
  value-flows : (inside : Around) (m n : State) (x : ComesToFlow env inside true m n) (p : Placed) (value : TypedExpr) → x.part ≡ value → p.tree.body ≡ OfAnonymous value
      → around_of p.tree ≡ inside → Some p.known ≡ known env inside true x.was.flow → IsFlowingUnit env p
  value-flows inside m n x p value is body around begins =
      let w : Ways = ways_or_same n.ways x.now.flow in
      let K : CheckedFlow → Flow = known env inside true in
      let from : Point = plain (K x.was.flow) None in
      let end : Point = told (K w.yes) (K w.no) (plain (K x.was.flow) None) in
      let base : IsBaseAt env inside true x.was None = record { free = λ slot le lt. tt; below = tt } in
      let way : ExprOver (flow_ways env inside) value from end =
      subst (λ e. ExprOver (flow_ways env inside) e from end) is (x.leaves None base from end (below-itself env from) (below-itself env end)) in
      let last : Point = plain None None in
      let whole : TasksOver (flow_ways env inside) (body_tasks (OfAnonymous value)) from None =
      (from, end, below-itself env from, way, (end, last, below-itself env end, below-itself env last, (refl, tt))) in
      subst (λ a. TasksOver (flow_ways env a) (body_tasks p.tree.body) (plain (Some p.known) None) None) (sym around)
      (subst (λ b. TasksOver (flow_ways env inside) (body_tasks b) (plain (Some p.known) None) None) (sym body)
      (subst (λ f. TasksOver (flow_ways env inside) (body_tasks (OfAnonymous value)) (plain f None) None) (sym begins) whole))

-- ---- the line

module _ (passes : List AtomDef → Asked → TypeLimit → Type 0) (names : Names) (env : List AtomDef) (flows : MadeExprsKeepFlows) where
  -- ---- what is said of the function before its value

  in-parameter : (old : State) (p : Param) (s t : State) → Run passes names env (parameter_needs p) s t → Inside old s → Inside old t
  in-parameter old p s t run h =
      let (m, d, a) = parted passes names env (one (Describes p.ty.value)) (one (HasParameter p.name)) s t run in
      parameter-added p.name old m t a.0 (described names p.ty.value old s m d.0 h)

  in-rest : (old : State) (o : Option Param) (s t : State) → Run passes names env (if_there rest_needs o) s t → Inside old s → Inside old t
  in-rest old None s t run h = subst (λ (z : State). Inside old z) (sym (nothing-run passes names env s t run)) h
  in-rest old (Some p) s t run h =
      let (m, d, a) = parted passes names env (one (Describes p.ty.value)) (one (HasRest p.name)) s t run in
      rest-added p.name old m t a.0 (described names p.ty.value old s m d.0 h)

  in-parameters : (old : State) (ps : List Param) (start : Listed Need) (s t : State) → ((m : State) → Run passes names env start s m → Inside old m)
      → Run passes names env (in_turn_from start parameter_needs ps) s t → Inside old t
  in-parameters old [] start s t begun run = begun t run
  in-parameters old (p ∷ ps) start s t begun run =
      in-parameters old ps (start & parameter_needs p) s t
      (λ m both. let (k, first, second) = parted passes names env start (parameter_needs p) s m both in in-parameter old p k m second (begun k first)) run

  in-signature : (old : State) (ps : Params) (result : TypeTree) (s t : State) → Run passes names env (signature_needs ps result) s t → Inside old s → Inside old t
  in-signature old ps result s t run h =
      let (m, params, d) = parted passes names env (in_turn parameter_needs ps.params.items & if_there rest_needs ps.rest) (one (Describes result)) s t run in
      let (k, first, second) = parted passes names env (in_turn parameter_needs ps.params.items) (if_there rest_needs ps.rest) s m params in
      let at-k : Inside old k = in-parameters old ps.params.items nothing s k (λ z none. subst (λ (y : State). Inside old y) (sym (nothing-run passes names env s z none)) h) first in
      described names result old m t d.0 (in-rest old ps.rest k m second at-k)

  -- ---- the whole

  -- units of the parts before the function ends, from those behind it
  units-before : (place : Surroundings) (old n new : State) (value e : TypedExpr) (p : Placed) → n.found ≡ old.found ++ value ∷ [] → new.found ≡ old.found ++ e ∷ []
      → units_of e ≡ p ∷ units_of value → All (IsUnitAt place) (units_in new.found) → All (IsUnitAt place) (units_in n.found)
  units-before place old n new value e p before behind is h =
      let all : units_in new.found ≡ units_in old.found ++ p ∷ units_of value =
      ap (λ (xs : List TypedExpr). units_in xs) behind ∙ units-append old.found (e ∷ []) ∙ ap (λ us. units_in old.found ++ us) (one-units e ∙ is) in
      let here = subst (All (IsUnitAt place)) all h in
      let front = front-have (IsUnitAt place) (units_in old.found) (p ∷ units_of value) here in
      let back = back-have (IsUnitAt place) (units_in old.found) (p ∷ units_of value) here in
      subst (All (IsUnitAt place))
      (sym (ap (λ (xs : List TypedExpr). units_in xs) before ∙ units-append old.found (value ∷ []) ∙ ap (λ us. units_in old.found ++ us) (one-units value)))
      (All-append (IsUnitAt place) (units_in old.found) (units_of value) front (All-tail (IsUnitAt place) p (units_of value) back))

  -- the slots of the unit that ends, as the place of its body has them
  abbrev within_of : Surroundings → UnitAtWork → Surroundings
  within_of place u = record place { slots = map sem_of u.slots; result = sem_of u.result }

  abbrev inside_of : UnitAtWork → Around
  inside_of u = record { slots = map sem_of u.slots; captured = [] }

  -- where the value ends, as it is known from the end
  far-value : (isolated : Bool) (at : Place) (place : Surroundings) (old n new : State) (E : Ended isolated at n new) → n.found ≡ old.found ++ E.value ∷ [] → new.found ≡ old.found ++ E.part ∷ []
      → IsSoFar env place new → IsSoFar env (within_of place E.unit) n
  far-value isolated at place old n new E found-value found far =
      let g : AnonymousFunction = function_of isolated E.unit E.first in
      record {
        first = (let f = far.first in (E.more ++ f.0, f.1 ∙ ap (λ xs. xs ++ f.0) E.atoms ∙ append_assoc n.atoms E.more f.0));
        placed = record { unit = E.unit; at_hand = E.at_hand; later = []; slots = sym (append-nil (map sem_of E.unit.slots)); result = refl };
        units = units-before place old n new E.value E.part (anonymous g E.value) found-value found (function-units g E.value E.part E.type at E.view) far.units;
      }

  -- the unit begins with what is known of its parameters and of what it captures
  begins-known : (old m n : State) (uses : List Word) (V : Valued old uses m) (u : UnitAtWork) (x : ComesToFlow env (inside_of u) true m n) → IsSameUnit V.unit u → KnowsSame V.unit u
      → x.was ≡ V.unit → Some (first_known (length u.slots) (take (u.params + length u.captured) (map sem_of u.slots))) ≡ known env (inside_of u) true x.was.flow
  begins-known old m n uses V u x same knows was =
      let held = length_all_zip SameCaptured V.unit.captured u.captured knows.captured in
      let params = same.params in
      let many = V.many in
      let of-slots = length-map u.slots sem_of in
      let all-slots = ap length same.slots in
      let more-slots = length-append (map sem_of V.unit.slots) same.more in
      let first-slots = length-map V.unit.slots sem_of in
      ap (λ ks. Some ks) (begins-so (length u.slots) (u.params + length u.captured) V.unit.slots same.more (map sem_of u.slots) same.slots (sym of-slots) (omega (arith, held, params, many))
      ∙ sym (turn-begins (length same.more) (length (map sem_of u.slots)) V.unit.flow.variables V.unit.slots (omega (arith, all-slots, more-slots, first-slots)) V.turn))
      ∙ ap (λ (z : UnitAtWork). known env (inside_of u) true z.flow) (sym was)

  -- what it captures is known around it
  captured-known : (around : Around) (live : Bool) (old m : State) (uses : List Word) (V : Valued old uses m) (own : HasOwnSlots old) → length own.unit.slots ≤ length around.slots
      → (ds : List Captured) → AllZip SameCaptured V.unit.captured ds → AllKnown env around ds (known env around live own.unit.flow)
  captured-known around live old m uses V own long ds same =
      let (A, hand, knows) = knows-at-hand old.units V.outer own.unit V.each own.at_hand in
      let one-a : A ≡ V.around = last-same V.outer A V.around hand V.at_hand in
      let flow : SameFlow own.unit.flow V.around.flow = subst (λ (z : UnitAtWork). SameFlow own.unit.flow z.flow) one-a knows.flow in
      let narrow = all-ways-are-narrower [] env in
      let all-in : HaveSlots (length around.slots) own.unit.flow.variables =
      record { apart = own.slots.apart; within = within-more (length own.unit.slots) (length around.slots) own.unit.flow.variables long own.slots.within } in
      let slots : HaveSlots (length around.slots) V.around.flow.variables = narrow.slots (length around.slots) own.unit.flow V.around.flow (narrow.handles own.unit.flow V.around.flow flow).0 all-in in
      subst (λ f. AllKnown env around ds f) (known-alike env around live own.unit.flow V.around.flow flow)
      (all-captured env around live V.around.flow (captures V.around.flow.variables uses) ds slots (captures-found V.around.flow.variables uses)
      (captured-then (map captured_as (captures V.around.flow.variables uses)) V.unit.captured ds V.captured same))

  -- the function comes to a part
  comes-function : (isolated : Bool) (at : Place) (around : Around) (live : Bool) (old m n new : State) (uses : List Word) (V : Valued old uses m) (E : Ended isolated at n new)
      (x : ComesToFlow env (inside_of E.unit) true m n) → IsSameUnit V.unit E.unit → (own : HasOwnSlots old) → length own.unit.slots ≤ length around.slots
      → n.found ≡ old.found ++ E.value ∷ [] → new.found ≡ old.found ++ E.part ∷ [] → ComesToFlow env around live old new
  comes-function isolated at around live old m n new uses V E x same own long found-value found =
      let g : AnonymousFunction = function_of isolated E.unit E.first in
      let last-m : IsLast m.units V.unit = record { kept = V.outer; is = V.units } in
      let part-is : x.part ≡ E.value = last-same n.found x.part E.value (record { kept = m.found; is = x.found }) (record { kept = old.found; is = found-value }) in
      let was : x.was ≡ V.unit = last-same m.units x.was V.unit x.before last-m in
      let (later, w, is-n, each, knows) = split-known V.outer n.units V.unit (subst (λ us. AllZip KnowsSame us n.units) V.units x.on.units) in
      let one-w : w ≡ E.unit = last-same n.units w E.unit (record { kept = later; is = is-n }) E.at_hand in
      let knows' : KnowsSame V.unit E.unit = subst (λ (z : UnitAtWork). KnowsSame V.unit z) one-w knows in
      let left-units : new.units ≡ later = E.units ∙ ap (λ us. all_but 1 us) is-n ∙ all-but-last later w in
      let on : KnowsOn old new = record { units = subst (λ us. AllZip KnowsSame old.units us) (sym left-units) (knows-then old.units V.outer later V.each each) } in
      let of-part : units_of E.part ≡ anonymous g E.value ∷ units_of E.value = function-units g E.value E.part E.type at E.view in
      comes-plain env around live old new E.part own.unit own.at_hand found on E.ways
      (λ base at-base.
      let made : MadeKeepsFlow env around base = flows env around base in
      made.function g E.value E.part E.type at (known env around live own.unit.flow) E.view (captured-known around live old m uses V own long E.unit.captured knows'.captured))
      (subst (All (IsFlowingUnit env)) (sym (one-units E.part ∙ of-part))
      (All-cons (IsFlowingUnit env) (anonymous g E.value) (units_of E.value)
      (value-flows env (inside_of E.unit) m n x (anonymous g E.value) E.value part-is refl refl (begins-known old m n uses V E.unit x same knows' was))
      (subst (All (IsFlowingUnit env)) (ap (λ (q : TypedExpr). units_in (q ∷ [])) part-is ∙ one-units E.value) x.units)))

  ends-so : (isolated : Bool) (at : Place) (v : Reading) → KnowsFlow passes names env v → (place : Surroundings) (around : Around) (live : Bool) (old m n new : State) (uses : List Word)
      (V : Valued old uses m) (E : Ended isolated at n new) → around.slots ≡ place.slots → Run passes names env (v.needs expected.Wanted) m n → IsStanding m → (r : TypedExpr)
      → new.found ≡ old.found ++ r ∷ [] → (own : HasOwnSlots old) → length own.unit.slots ≤ length around.slots → IsSoFar env place new → ComesToFlow env around live old new
  ends-so isolated at v kv place around live old m n new uses V E slots rv stands r more own long far =
      let last-m : IsLast m.units V.unit = record { kept = V.outer; is = V.units } in
      let ready-m : IsReady expected.Wanted m = record { unit = (let all = ap length V.units in let one-more = length-append V.outer (V.unit ∷ []) in omega (arith, all, one-more)); wants = V.wanted } in
      let left-v : Left m n = kv.leaves expected.Wanted m n ready-m rv in
      let found-n : n.found ≡ old.found ++ left-v.more.part ∷ [] = left-v.more.found ∙ ap (λ xs. xs ++ left-v.more.part ∷ []) V.found in
      let (parts, found) = all-found 1 old n new (E.value ∷ []) E.part r (left-v.more.part ∷ []) found-n E.last E.found more in
      let value-is : E.value ≡ left-v.more.part = (cons-of E.value left-v.more.part [] [] parts).0 in
      let found-value : n.found ≡ old.found ++ E.value ∷ [] = found-n ∙ ap (λ q. old.found ++ q ∷ []) (sym value-is) in
      let own-m : HasOwnSlots m = record { unit = V.unit; at_hand = last-m; slots = turn-slots V.unit.flow.variables V.unit.slots V.turn } in
      let x : ComesToFlow env (inside_of E.unit) true m n =
      kv.claim expected.Wanted (within_of place E.unit) (inside_of E.unit) true m n refl ready-m rv stands own-m (far-value isolated at place old n new E found-value found far) in
      comes-function isolated at around live old m n new uses V E x (goes-last m n V.unit E.unit left-v.path last-m E.at_hand) own long found-value found

  pub anonymous-line : (isolated : Bool) (ps : Params) (result : TypeTree) (v : Reading) (at : Place) → KnowsFlow passes names env v
      → FlowLine passes names env (λ e. anonymous_needs isolated ps result v at)
  anonymous-line isolated ps result v at kv leaves e place around live old new slots ready run standing own far =
      let uses : List Word = members v.used in
      let left = leaves e old new ready run in
      let (a, r1, r2) = parted passes names env (one BeginsAnonymous & signature_needs ps result) ((one (BeginsValue uses) & as_wanted v) & one (MakesAnonymous isolated at)) old new run in
      let (a0, sb, rs) = parted passes names env (one BeginsAnonymous) (signature_needs ps result) old a r1 in
      let (d, r3, sm) = parted passes names env (one (BeginsValue uses) & as_wanted v) (one (MakesAnonymous isolated at)) a new r2 in
      let (m, sv, rw) = parted passes names env (one (BeginsValue uses)) (as_wanted v) a d r3 in
      let (n, rv, sw) = parted passes names env (v.needs expected.Wanted) (one (IsWanted v.at)) m d rw in
      let V : Valued old uses m = valued uses old a m sv.0 (in-signature old ps result a0 a rs (entered old a0 sb.0)) in
      let asked : AllIsAsked passes names env = all-is-asked passes names env in
      let E : Ended isolated at n new = subst (λ (z : State). Ended isolated at z new) (asked.wants v.at n d sw.0) (ended isolated at d new sm.0) in
      ends-so isolated at v kv place around live old m n new uses V E slots rv sv.1 left.more.part left.more.found own
      (slots-within place around live env old own.unit slots own.at_hand (so-far env place old new left.path far)) far
