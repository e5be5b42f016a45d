-- The line of anonymous functions.
use Rattle.std.proofs.Common.{◌≡◌, ◌≤◌, ◌∙◌, ◌++◌, ◌+◌, ℕ, Bool, List, [], ◌∷◌, length, map, All, Option, Some, None, append-nil, append_assoc, arith, length-append, refl, sym, subst, ap}
use Rattle.std.specs.Prelude.{IfSome, IsSomeAnd, drop, slice_get, take}
use Rattle.std.specs.List.{AllZip}
use Rattle.std.proofs.lemmas.List.Elements.{All-append, All-cons, All-head, All-tail}
use Rattle.bal_base.specs.declared.place.Place.{Place}
use Rattle.bal_tree.specs.declared.params.Params.{Params}
use Rattle.bal_tree.specs.declared.types.TypeTree.{TypeTree}
use Rattle.descriptors.specs.declared.names.Names.{Names}
use Rattle.operations.specs.declared.operation.Operation.TheVariants.{Return}
use Rattle.operations.specs.Rows.{AreBelow, Surroundings}
use Rattle.type_model.specs.declared.answers.TypeLimit.{TypeLimit}
use Rattle.type_model.specs.declared.atoms.AtomDef.{AtomDef}
use Rattle.type_model.specs.declared.basic.SemType.{SemType}
use Rattle.type_model.specs.declared.basic.Ty.{Ty}
use Rattle.type_model.specs.Calls.{Asked}
use Rattle.type_model.specs.Inclusion.{Sub}
use Rattle.typed_tree.specs.declared.expr.TypedExpr.{TypedExpr}
use Rattle.typed_tree.specs.Listed.{members, one, ◌&◌}
use Rattle.typed_tree.specs.SharedTypes.{Shared, sem_of}
use Rattle.flow_narrowing.specs.declared.flow.Variable.{Variable}
use Rattle.expr_needs.specs.declared.expected.Expected.TheVariants as expected
use Rattle.expr_needs.specs.ExprTable.{Reading, anonymous_needs, as_wanted, signature_needs}
use Rattle.expr_needs.specs.Needs.{BeginsAnonymous, BeginsValue, IsWanted, MakesAnonymous}
use Rattle.check_words.specs.Calls.{Capture, captured_as, captures}
use Rattle.check_words.specs.Sharing.{SameCaptured}
use Rattle.check_words.specs.State.{IsLast, State, UnitAtWork, all_but}
use Rattle.check_words.proofs.Standing.{back-have, front-have}
use Rattle.check_laws.specs.Laws.{IsReady}
use Rattle.check_laws.specs.Positions.{OnUnits}
use Rattle.tree_promises.specs.Made.{AllCapturedTyped, sem}
use Rattle.tree_promises.specs.Placed.{Placed, anonymous, signature_of, slot_types}
use Rattle.tree_promises.specs.Types.{DoesTypes, IsTypedExpr, Stack}
use Rattle.tree_promises.proofs.Order.{types-itself}
use Rattle.typed_needs.specs.Anonymous.{IsOwnUnit}
use Rattle.typed_needs.specs.Between.{IsKept, IsSoFar, IsStanding, IsTypedUnit, IsUnitAt, WaysAreStored, place_within, units_in}
use Rattle.typed_needs.specs.Going.{IsSameUnit}
use Rattle.typed_needs.specs.Items.{AreFirst}
use Rattle.typed_needs.specs.Placing.{AreNamed, IsStored}
use Rattle.typed_needs.specs.TypedRuns.{ComesToTyped}
use Rattle.typed_needs.proofs.Anonymous.{anonymous-is-typed, function_of}
use Rattle.typed_needs.proofs.Asking.{wanted-leaves}
use Rattle.typed_needs.proofs.Going.{captured-then}
use Rattle.typed_needs.proofs.OnTheWay.{unit-came}
use Rattle.typed_needs.proofs.Opened.{want-is-asked}
use Rattle.typed_needs.proofs.Placed.{all-but-last, last-same}
use Rattle.calm_needs.proofs.Calming.{stored-by}
use Rattle.calm_needs.proofs.PlacedParts.{function-units, one-units, units-append, units_of}
use Rattle.typed_exprs.specs.Lines.{Claim, Knows, Left, Run}
use Rattle.typed_exprs.proofs.Steps.{before, parted}
use Rattle.typed_functions.specs.Functions.{AllFunctionsAreTyped}
use Rattle.typed_functions.proofs.Begun.{HasBegun, begun, value-begun}
use Rattle.typed_functions.proofs.Captures.{InSlots, between-these, captured-long, captured-typed, captured-types, captures-have, more-slots, types_of}
use Rattle.typed_functions.proofs.Ended.{HasEnded, ended}
use Rattle.typed_functions.proofs.Signatures.{signature-opens}

-- ---- the units around it

none-more : (xs : List UnitAtWork) → length xs ≡ 0 → xs ≡ []
none-more [] e = refl
none-more (x ∷ xs) e = absurd (omega (arith, e))

-- where the last one is another one, those before it are the same
pub others-same : (us vs : List UnitAtWork) → OnUnits us 0 vs → all_but 1 vs ≡ all_but 1 us
others-same us vs on =
    let is : vs ≡ on.kept ++ on.now ∷ [] =
    on.on.is ∙ ap (λ xs. (on.kept ++ on.now ∷ []) ++ xs) (none-more on.on.more on.on.many) ∙ append-nil (on.kept ++ on.now ∷ []) in
    ap (λ xs. all_but 1 xs) is ∙ all-but-last on.kept on.now ∙ sym (all-but-last on.kept on.was) ∙ ap (λ xs. all_but 1 xs) (sym on.at_hand)

last-long : {A : Type 0} (xs : List A) (x : A) → IsLast xs x → 1 ≤ length xs
last-long xs x l = let a = ap (λ ys. length ys) l.is in let b = length-append l.kept (x ∷ []) in omega (arith, a, b)

module _ (passes : List AtomDef → Asked → TypeLimit → Type 0) (names : Names) (env : List AtomDef) (place : Surroundings) where
  -- ---- its own unit

  -- where its value stands
  abbrev inside : UnitAtWork → Surroundings
  inside u =
      record { units = place.units; variables = place.variables; slots = map sem_of u.slots; result = sem_of u.result; workers = [] }

  -- what is returned is of the result
  returned : (u : UnitAtWork) (t : SemType) → Sub env t (sem_of u.result) → DoesTypes env (inside u) Return (t ∷ []) []
  returned u t under =
      record { below = []; operands = t ∷ []; result = None; are = refl; row = ((λ x i. under x i.0 i.1), refl); behind = λ goes. absurd (goes tt) }

  own-typed : (isolated : Bool) (u : UnitAtWork) (first : ℕ) (value : TypedExpr) → IsTypedExpr env (inside u) value → Sub env (sem value) (sem_of u.result)
      → IsTypedUnit env place (anonymous (function_of isolated u first) value)
  own-typed isolated u first value typed under =
      ([], sem value ∷ [], tt, typed [], (sem value ∷ [], [], types-itself env (sem value ∷ []), returned u (sem value) under, (refl, refl)))

  -- ---- what it captures

  record Captures (u : UnitAtWork) : Type 0 where
    pub cs : List Capture
    pub front : List SemType
    pub more : List SemType
    pub slots : map sem_of u.slots ≡ (front ++ types_of cs) ++ more
    pub params : u.params ≡ length front
    pub captured : AllZip SameCaptured (map captured_as cs) u.captured
    pub seen : All (λ (c : Capture). IsStored place c.0) cs

  -- the unit takes what it captures
  takes-captured : (u : UnitAtWork) (c : Captures u) → AreBelow env (map (λ c. sem_of c.ty) u.captured) (take (length u.captured) (drop u.params (map sem_of u.slots)))
  takes-captured u c =
      let these : take (length u.captured) (drop u.params (map sem_of u.slots)) ≡ types_of c.cs =
      ap (λ xs. take (length u.captured) (drop u.params xs)) c.slots
      ∙ between-these c.front (types_of c.cs) c.more u.params (length u.captured) c.params (captured-long c.cs u.captured c.captured) in
      subst (λ xs. AreBelow env (map (λ c. sem_of c.ty) u.captured) xs) (sym these)
      (subst (λ xs. AreBelow env xs (types_of c.cs)) (sym (captured-types c.cs u.captured c.captured)) (types-itself env (types_of c.cs)))

  captures-of : (old m : State) (b : HasBegun place old m) (u : UnitAtWork) → IsSameUnit b.unit u → IsKept place old → Captures u
  captures-of old m b u same kept =
      let cs : List Capture = captures b.around.flow.variables b.uses in
      let one : kept.stored.unit ≡ b.around = last-same old.units kept.stored.unit b.around kept.stored.at_hand b.at_hand in
      let seen : All (IsStored place) b.around.flow.variables = subst (λ (v : UnitAtWork). All (IsStored place) v.flow.variables) one kept.stored.variables in
      record {
        cs = cs;
        front = b.front;
        more = same.more;
        slots = same.slots ∙ ap (λ xs. xs ++ same.more) b.slots;
        params = same.params ∙ b.params;
        captured = captured-then (map captured_as cs) b.unit.captured u.captured b.captured same.captured;
        seen = captures-have (IsStored place) b.around.flow.variables b.uses seen;
      }

  -- ---- where its value begins

  kept-inside : (old m : State) (b : HasBegun place old m) (u : UnitAtWork) → IsStanding m → IsSameUnit b.unit u → IsKept (inside u) m
  kept-inside old m b u standing same =
      let more : All (InSlots place (map sem_of b.unit.slots ++ same.more)) b.unit.flow.variables =
      more-slots place (map sem_of b.unit.slots) same.more b.unit.flow.variables b.stored in
      let all : All (InSlots place (map sem_of u.slots)) b.unit.flow.variables = subst (λ xs. All (InSlots place xs) b.unit.flow.variables) (sym same.slots) more in
      record {
        standing = standing;
        stored = record { unit = b.unit; at_hand = record { kept = old.units; is = b.units }; variables = all };
        ways = subst (λ w. IfSome w (WaysAreStored (inside u))) (sym b.ways) tt;
      }

  named-inside : (u : UnitAtWork) → AreNamed env names place → AreNamed env names (inside u)
  named-inside u h = record { variables = h.variables; functions = h.functions }

  ready-inside : (old m : State) (b : HasBegun place old m) → IsReady expected.Wanted m
  ready-inside old m b =
      record { unit = last-long m.units b.unit (record { kept = old.units; is = b.units }); wants = last-long m.wants (Some b.want) b.wanted }

  -- ---- what is known from the end

  -- the units in the parts before the end, and that of the function
  record Around (isolated : Bool) (at : Place) (s new : State) (h : HasEnded isolated at s new) : Type 0 where
    pub own : IsUnitAt place (anonymous (function_of isolated h.unit h.first) h.value)
    pub units : All (IsUnitAt place) (units_in s.found)

  around : (isolated : Bool) (at : Place) (s new : State) (h : HasEnded isolated at s new) → All (IsUnitAt place) (units_in new.found) → Around isolated at s new h
  around isolated at s new h all =
      let own : Placed = anonymous (function_of isolated h.unit h.first) h.value in
      let kept : all_but 1 s.found ≡ h.last.kept = ap (λ xs. all_but 1 xs) h.last.is ∙ all-but-last h.last.kept h.value in
      let is : units_in new.found ≡ units_in h.last.kept ++ own ∷ units_of h.value =
      ap (λ (xs : List TypedExpr). units_in xs) (h.found ∙ ap (λ xs. xs ++ h.part ∷ []) kept) ∙ units-append h.last.kept (h.part ∷ [])
      ∙ ap (λ l. units_in h.last.kept ++ l) (one-units h.part ∙ function-units h.part h.view) in
      let all' : All (IsUnitAt place) (units_in h.last.kept ++ own ∷ units_of h.value) = subst (All (IsUnitAt place)) is all in
      let front : All (IsUnitAt place) (units_in h.last.kept) = front-have (IsUnitAt place) (units_in h.last.kept) (own ∷ units_of h.value) all' in
      let back : All (IsUnitAt place) (own ∷ units_of h.value) = back-have (IsUnitAt place) (units_in h.last.kept) (own ∷ units_of h.value) all' in
      let was : units_in s.found ≡ units_in h.last.kept ++ units_of h.value =
      ap (λ (xs : List TypedExpr). units_in xs) h.last.is ∙ units-append h.last.kept (h.value ∷ []) ∙ ap (λ l. units_in h.last.kept ++ l) (one-units h.value) in
      record {
        own = All-head (IsUnitAt place) own (units_of h.value) back;
        units = subst (All (IsUnitAt place)) (sym was)
            (All-append (IsUnitAt place) (units_in h.last.kept) (units_of h.value) front (All-tail (IsUnitAt place) own (units_of h.value) back));
      }

  far-inside : (isolated : Bool) (at : Place) (s new : State) (h : HasEnded isolated at s new) → All (IsUnitAt place) (units_in s.found) → IsSoFar env place new
      → IsSoFar env (inside h.unit) s
  far-inside isolated at s new h units far =
      record {
        first = by far.first;
        placed = record { unit = h.unit; at_hand = h.at_hand; later = []; slots = sym (append-nil (map sem_of h.unit.slots)); result = refl };
        units = units;
      }
    where
      by : AreFirst env new.atoms → AreFirst env s.atoms
      by (more, is) = (h.more ++ more, is ∙ ap (λ xs. xs ++ more) h.atoms ∙ append_assoc s.atoms h.more more)

  own-unit : (u : UnitAtWork) (isolated : Bool) (first : ℕ) (value : TypedExpr) (s : State) → Captures u → first ≡ length s.atoms
      → IsUnitAt place (anonymous (function_of isolated u first) value) → IsSomeAnd (slice_get place.units u.number) (IsOwnUnit env u s)
  own-unit u isolated first value s c number is =
      let own : IsOwnUnit env u s (signature_of (Some (anonymous (function_of isolated u first) value))) =
      record { captured = takes-captured u c; arrow = ap (λ n. n + 1) number } in
      subst (λ o. IsSomeAnd o (IsOwnUnit env u s)) (sym is) own

  -- ---- all of it

  -- the value is met between these states, and the function is made behind it
  module _ (isolated : Bool) (v : Reading) (at : Place) (knows : Knows passes names env v) (old m n new : State) (kept : IsKept place old) (far : IsSoFar env place new)
      (named : AreNamed env names place) (b : HasBegun place old m) (standing : IsStanding m) (run : Run passes names env (v.needs expected.Wanted) m n)
      (asked : Run passes names env (one (IsWanted v.at)) n n) (made : Run passes names env (one (MakesAnonymous isolated at)) n new) where
    h : HasEnded isolated at n new
    h = ended isolated at n new made.0

    left : Left m n
    left = knows.leaves expected.Wanted m n (ready-inside old m b) run

    same : IsSameUnit b.unit h.unit
    same =
        let c = unit-came m n h.unit left.path.goes left.path.many h.at_hand in
        subst (λ (u : UnitAtWork). IsSameUnit u h.unit) (last-same m.units c.was b.unit c.at_hand (record { kept = old.units; is = b.units })) c.same

    seen : Around isolated at n new h
    seen = around isolated at n new h far.units

    far-n : IsSoFar env (inside h.unit) n
    far-n = far-inside isolated at n new h seen.units far

    x : ComesToTyped env (inside h.unit) m n
    x = knows.claim expected.Wanted (inside h.unit) m n (ready-inside old m b) run (kept-inside old m b h.unit standing same) far-n (named-inside h.unit named)

    value-is : h.value ≡ x.part
    value-is = last-same n.found h.value x.part h.last (record { kept = m.found; is = x.found })

    under : Sub env (sem x.part) (sem_of h.unit.result)
    under =
        let wants : IsLast n.wants (Some b.want) = subst (λ ws. IsLast ws (Some b.want)) (sym left.more.same.wants) b.wanted in
        let got = want-is-asked env passes names v.at n n b.want x.part (before env (inside h.unit) n x.kept far-n) asked.0 wants (record { kept = m.found; is = x.found }) in
        let result : sem_of h.unit.result ≡ sem_of b.want = same.result ∙ ap (λ (t : Ty). t.sem) b.result in
        subst (λ t. Sub env (sem x.part) t) (sym result) got.0

    caught : Captures h.unit
    caught = captures-of old m b h.unit same kept

    units : new.units ≡ old.units
    units =
        h.units ∙ others-same m.units n.units left.more.same.units ∙ ap (λ xs. all_but 1 xs) b.units ∙ all-but-last old.units b.unit

    kept-new : IsKept place new
    kept-new =
        record { standing = made.1; stored = stored-by place old new units kept.stored; ways = subst (λ w. IfSome w (WaysAreStored place)) (sym h.ways) tt }

    found : new.found ≡ old.found ++ h.part ∷ []
    found =
        h.found
        ∙ ap (λ xs. xs ++ h.part ∷ []) (ap (λ xs. all_but 1 xs) x.found ∙ all-but-last m.found x.part ∙ b.found)

    typed : IsTypedExpr env place h.part
    typed =
        let t = anonymous-is-typed passes names env place isolated at n new h.unit (before env place new kept-new far) made.0 h.at_hand
        (captured-typed env place caught.cs h.unit.captured caught.captured caught.seen)
        (own-unit h.unit isolated h.first h.value n caught h.number seen.own) in
        subst (λ e. IsTypedExpr env place e)
        (last-same new.found t.part h.part (record { kept = all_but 1 n.found; is = t.found }) (record { kept = all_but 1 n.found; is = h.found })) t.typed

    own-units : All (IsTypedUnit env place) (units_in (h.part ∷ []))
    own-units =
        let value : IsTypedExpr env (inside h.unit) h.value = subst (λ e. IsTypedExpr env (inside h.unit) e) (sym value-is) x.typed in
        let below : Sub env (sem h.value) (sem_of h.unit.result) = subst (λ e. Sub env (sem e) (sem_of h.unit.result)) (sym value-is) under in
        let own : Placed = anonymous (function_of isolated h.unit h.first) h.value in
        let these : All (IsTypedUnit env place) (units_in (x.part ∷ [])) = x.units in
        let rest : All (IsTypedUnit env place) (units_of h.value) =
        subst (All (IsTypedUnit env place)) (one-units x.part ∙ ap (λ (e : TypedExpr). units_of e) (sym value-is)) these in
        subst (All (IsTypedUnit env place)) (sym (one-units h.part ∙ function-units h.part h.view))
        (All-cons (IsTypedUnit env place) own (units_of h.value) (own-typed isolated h.unit h.first h.value value below) rest)

    pub function-comes : ComesToTyped env place old new
    function-comes = record { part = h.part; found = found; typed = typed; units = own-units; kept = kept-new }

  function-typed : (isolated : Bool) (ps : Params) (result : TypeTree) (v : Reading) (at : Place) → Knows passes names env v → (old new : State)
      → Run passes names env (anonymous_needs isolated ps result v at) old new → IsKept place old → IsSoFar env place new → AreNamed env names place → ComesToTyped env place old new
  function-typed isolated ps result v at knows old new run kept far named =
      let (m2, first, rest) =
      parted passes names env (one BeginsAnonymous & signature_needs ps result) ((one (BeginsValue (members v.used)) & as_wanted v) & one (MakesAnonymous isolated at)) old new run in
      let (m1, begins, signs) = parted passes names env (one BeginsAnonymous) (signature_needs ps result) old m2 first in
      let (m5, value, makes) = parted passes names env (one (BeginsValue (members v.used)) & as_wanted v) (one (MakesAnonymous isolated at)) m2 new rest in
      let (m3, opens, wanted) = parted passes names env (one (BeginsValue (members v.used))) (as_wanted v) m2 m5 value in
      let (m4, needs, asks) = parted passes names env (v.needs expected.Wanted) (one (IsWanted v.at)) m3 m5 wanted in
      let same : m5 ≡ m4 = wanted-leaves passes v.at m4 m5 tt asks.0 in
      let asked : Run passes names env (one (IsWanted v.at)) m4 m4 = subst (λ (s : State). Run passes names env (one (IsWanted v.at)) m4 s) same asks in
      let made : Run passes names env (one (MakesAnonymous isolated at)) m4 new = subst (λ (s : State). Run passes names env (one (MakesAnonymous isolated at)) s new) same makes in
      let opened = signature-opens passes names env place old ps result m1 m2 (begun place old m1 begins.0) signs in
      let b : HasBegun place old m3 = value-begun place old m2 m3 (members v.used) opened opens.0 in
      function-comes isolated v at knows old m3 m4 new kept far named b opens.1 needs asked made

pub all-functions-are-typed : (passes : List AtomDef → Asked → TypeLimit → Type 0) → AllFunctionsAreTyped passes
all-functions-are-typed passes names env isolated ps result v at knows e place old new ready run kept far named =
    function-typed passes names env place isolated ps result v at knows old new run kept far named
