-- Lines that enter ways.
use Rattle.std.proofs.Common.{◌≡◌, ◌∙◌, ◌++◌, Bool, true, false, List, [], ◌∷◌, All, append_assoc, arith, refl, sym, subst, ap}
use Rattle.std.proofs.lemmas.List.Elements.{All-append}
use Rattle.bal_base.specs.declared.place.Place.{Place}
use Rattle.descriptors.specs.declared.names.Names.{Names}
use Rattle.operations.specs.Rows.{Surroundings}
use Rattle.type_model.specs.declared.answers.TypeLimit.{TypeLimit}
use Rattle.type_model.specs.declared.atoms.AtomDef.{AtomDef}
use Rattle.type_model.specs.Calls.{Asked}
use Rattle.typed_tree.specs.declared.expr.TypedExpr.{TypedExpr}
use Rattle.typed_tree.specs.Listed.{one, ◌&◌}
use Rattle.expr_needs.specs.declared.expected.Expected.TheVariants as expected
use Rattle.expr_needs.specs.declared.operators.Family.TheVariants.{Condition}
use Rattle.expr_needs.specs.declared.kind.Kind.TheVariants as kind
use Rattle.expr_needs.specs.ExprTable.{Reading, against, binary_needs, condition_needs, conditional_needs, freely}
use Rattle.expr_needs.specs.Needs.{Chooses, IsOf, Splits, Switches}
use Rattle.expr_needs.specs.Operators.{expectation, made_of}
use Rattle.check_words.specs.State.{AreLast, ChoiceAtWork, IsLast, State, all_but}
use Rattle.check_laws.specs.Laws.{IsReady}
use Rattle.tree_promises.specs.Types.{IsTypedExpr}
use Rattle.typed_needs.specs.Asked.{IsOfIt}
use Rattle.typed_needs.specs.Between.{IsKept, IsSoFar, IsTypedUnit, units_in}
use Rattle.typed_needs.specs.Choices.{ChoicesAreTyped}
use Rattle.typed_needs.specs.Pieces.{ConditionsAreTyped as PiecesAreTyped, IsBefore, MakesTyped}
use Rattle.typed_needs.specs.Placing.{AreNamed}
use Rattle.typed_needs.proofs.Choices.{choices-are-typed}
use Rattle.typed_needs.proofs.Conditions.{conditions-are-typed}
use Rattle.calm_needs.proofs.PlacedParts.{units-append}
use Rattle.calm_needs.specs.Calm.{AllNeedsAreCalm, ChoiceIsStored, ClosesChoice, IsStoredAt, NeedsAreCalm}
use Rattle.calm_needs.specs.Staying.{AllWaysStayOn, Stays, WaysStayOn}
use Rattle.typed_exprs.specs.Conditions.{AllConditionsAreTyped}
use Rattle.typed_exprs.specs.Lines.{Claim, Knows, Path, Run}
use Rattle.typed_exprs.proofs.Operands.{against-left, against-typed, two-found, two-units}
use Rattle.typed_exprs.proofs.Operators.{lasts, of-kind-ready}
use Rattle.typed_exprs.proofs.Plain.{none-ready}
use Rattle.typed_exprs.proofs.Prefixes.{behind}
use Rattle.typed_exprs.proofs.Steps.{Step, before, calm-path, finish, keeps, parted, path-on, so-far, stored-here}

module _ (passes : List AtomDef → Asked → TypeLimit → Type 0) (names : Names) (env : List AtomDef) (calm : NeedsAreCalm passes names) (stay : WaysStayOn passes names) where
  stays-path : (s t : State) → Stays s t → Path s t
  stays-path s t h = calm-path s t h.on h.units

  made-path : (holds : Bool) (at : Place) (s t : State) → Step passes names env (made_of (Condition holds) at) s t → Path s t
  made-path true at s t x = stays-path s t (stay.conjoins at s t x.0)
  made-path false at s t x = stays-path s t (stay.disjoins at s t x.0)

  -- an operand that is a condition, one way of which was entered
  record Entered (place : Surroundings) (old new : State) : Type 0 where
    pub part : TypedExpr
    pub found : new.found ≡ old.found ++ part ∷ []
    pub typed : IsTypedExpr env place part
    pub units : All (IsTypedUnit env place) (units_in (part ∷ []))
    pub kept : IsKept place new
    pub truth : IsOfIt passes names env kind.Truth part
    pub choice : ChoiceAtWork
    pub at_hand : IsLast new.choices choice
    pub stored : ChoiceIsStored place choice

  entered-path : (way : Bool) (c : Reading) → Knows passes names env c → (old k new : State) → IsReady (expectation kind.Truth) old → Run passes names env (against kind.Truth c) old k
      → Step passes names env (Splits way) k new → Path old new
  entered-path way c kc old k new ready run s =
      path-on old k new (against-left passes names env kind.Truth c kc old k ready run).path (stays-path k new (stay.splits way k new s.0))

  entered : (way : Bool) (c : Reading) → Knows passes names env c → (place : Surroundings) (old k new : State) → IsReady (expectation kind.Truth) old
      → Run passes names env (against kind.Truth c) old k → Step passes names env (Splits way) k new → IsKept place old → IsSoFar env place new → AreNamed env names place → Entered place old new
  entered way c kc place old k new ready run s kept far named =
      let far-k = so-far env place k new (stays-path k new (stay.splits way k new s.0)) far in
      let x = against-typed passes names env kind.Truth c kc place old k ready run kept far-k named in
      let opened = calm.splits way place k new (stored-here place k x.kept) s.0 in
      record {
        part = x.part;
        found = opened.found ∙ x.found;
        typed = x.typed;
        units = x.units;
        kept = keeps place new s.1 opened.stored;
        truth = x.holds;
        choice = opened.choice;
        at_hand = record { kept = k.choices; is = opened.choices };
        stored = opened.is_stored;
      }

  ready-behind : (s t : State) → Path s t → IsReady expected.Nothing s → IsReady expected.Nothing t
  ready-behind s t path ready = record { unit = (let u = ready.unit in let q = path.many in omega (arith, u, q)); wants = tt }

  truth-behind : (s t : State) → Path s t → IsReady (expectation kind.Truth) s → IsReady (expectation kind.Truth) t
  truth-behind s t path ready = record { unit = (let u = ready.unit in let q = path.many in omega (arith, u, q)); wants = tt }

  -- ---- `a && b` and `a || b`

  closed : (holds : Bool) (at : Place) (place : Surroundings) (s t : State) (c : ChoiceAtWork) → IsStoredAt place s → Step passes names env (made_of (Condition holds) at) s t → IsLast s.choices c
      → ChoiceIsStored place c → ClosesChoice place s t
  closed true at place s t c h x last known = calm.conjoins at place s t c h x.0 last known
  closed false at place s t c h x last known = calm.disjoins at place s t c h x.0 last known

  joined : (holds : Bool) (at : Place) (place : Surroundings) (s t : State) (a b : TypedExpr) → IsBefore env t → Step passes names env (made_of (Condition holds) at) s t
      → AreLast s.found 2 (a ∷ b ∷ []) → IsTypedExpr env place a → IsTypedExpr env place b → IsOfIt passes names env kind.Truth a → IsOfIt passes names env kind.Truth b
      → MakesTyped passes names env place 2 s t
  joined true at place s t a b after x last ta tb ha hb =
      let pieces : PiecesAreTyped passes names env place = conditions-are-typed env passes names place in pieces.conjunctions at s t a b after x.0 last ta tb ha hb
  joined false at place s t a b after x last ta tb ha hb =
      let pieces : PiecesAreTyped passes names env place = conditions-are-typed env passes names place in pieces.disjunctions at s t a b after x.0 last ta tb ha hb

  both : (holds : Bool) (a b : Reading) (at : Place) → Knows passes names env a → Knows passes names env b → Claim passes names env (λ e. binary_needs (Condition holds) a b at e)
  both holds a b at ka kb e place old new ready run kept far named =
      let (m, ra, rest) = parted passes names env (a.needs (expectation kind.Truth) & one (IsOf kind.Truth a.at) & one (Splits holds)) (against kind.Truth b & one (made_of (Condition holds) at)) old new run in
      let (k, rk, ss) = behind passes names env calm kind.Truth a (Splits holds) old m ra in
      let (n, rb, s) = parted passes names env (against kind.Truth b) (one (made_of (Condition holds) at)) m new rest in
      let ready-a = of-kind-ready passes names env calm e kind.Truth old ready in
      let ready-b = truth-behind old m (entered-path holds a ka old k m ready-a rk ss) ready-a in
      let left-b = against-left passes names env kind.Truth b kb m n ready-b rb in
      let far-n = so-far env place n new (made-path holds at n new s) far in
      let far-m = so-far env place m n left-b.path far-n in
      let x = entered holds a ka place old k m ready-a rk ss kept far-m named in
      let y = against-typed passes names env kind.Truth b kb place m n ready-b rb x.kept far-n named in
      let last : IsLast n.choices x.choice = subst (λ cs. IsLast cs x.choice) (sym left-b.more.same.choices) x.at_hand in
      let c = closed holds at place n new x.choice (stored-here place n y.kept) s last x.stored in
      let parts : List TypedExpr = x.part ∷ y.part ∷ [] in
      let found = two-found passes names env old m n x.part y.part x.found y.found in
      let kept-new : IsKept place new = keeps place new s.1 c.stored in
      finish passes names env place 2 parts old n new found refl
      (joined holds at place n new x.part y.part (before env place new kept-new far) s (lasts passes names env calm old n parts 2 found refl) x.typed y.typed x.truth y.holds)
      c.units (two-units passes names env place x.part y.part x.units y.units) kept-new

  -- ---- `c ? a : b`

  conditional : (c a b : Reading) (at : Place) → Knows passes names env c → Knows passes names env a → Knows passes names env b → Claim passes names env (λ e. conditional_needs c a b at)
  conditional c a b at kc ka kb e place old new ready run kept far named =
      let (m, rc, rest) = parted passes names env (condition_needs c) ((freely a & one Switches) & freely b & one (Chooses at)) old new run in
      let (k, rk, ss) = parted passes names env (against kind.Truth c) (one (Splits true)) old m rc in
      let (q, rq, more) = parted passes names env (freely a & one Switches) (freely b & one (Chooses at)) m new rest in
      let (p, ra, sw) = parted passes names env (freely a) (one Switches) m q rq in
      let (r, rb, sc) = parted passes names env (freely b) (one (Chooses at)) q new more in
      let ready-c = of-kind-ready passes names env calm e kind.Truth old ready in
      let ready-m = ready-behind old m (entered-path true c kc old k m ready-c rk ss) (none-ready passes names env calm e old ready) in
      let left-a = ka.leaves expected.Nothing m p ready-m ra in
      let path-q = stays-path p q (stay.switches p q sw.0) in
      let ready-q = ready-behind m q (path-on m p q left-a.path path-q) ready-m in
      let left-b = kb.leaves expected.Nothing q r ready-q rb in
      let far-r = so-far env place r new (stays-path r new (stay.chooses at r new sc.0)) far in
      let far-q = so-far env place q r left-b.path far-r in
      let far-p = so-far env place p q path-q far-q in
      let far-m = so-far env place m p left-a.path far-p in
      let x = entered true c kc place old k m ready-c rk ss kept far-m named in
      let y = ka.claim expected.Nothing place m p ready-m ra x.kept far-p named in
      let last-p : IsLast p.choices x.choice = subst (λ cs. IsLast cs x.choice) (sym left-a.more.same.choices) x.at_hand in
      let changed = calm.switches place p q x.choice (stored-here place p y.kept) sw.0 last-p x.stored in
      let z = kb.claim expected.Nothing place q r ready-q rb (keeps place q sw.1 changed.stored) far-r named in
      let last-r : IsLast r.choices changed.choice =
      subst (λ cs. IsLast cs changed.choice) (sym left-b.more.same.choices) (record { kept = all_but 1 p.choices; is = changed.choices }) in
      let shut : ClosesChoice place r new = calm.chooses at place r new changed.choice (stored-here place r z.kept) sc.0 last-r changed.is_stored in
      let found-q : q.found ≡ old.found ++ x.part ∷ y.part ∷ [] = two-found passes names env old m q x.part y.part x.found (changed.found ∙ y.found) in
      let found : r.found ≡ old.found ++ x.part ∷ y.part ∷ z.part ∷ [] =
      z.found ∙ ap (λ xs. xs ++ z.part ∷ []) found-q ∙ append_assoc old.found (x.part ∷ y.part ∷ []) (z.part ∷ []) in
      let units : All (IsTypedUnit env place) (units_in (x.part ∷ y.part ∷ z.part ∷ [])) =
      subst (All (IsTypedUnit env place)) (sym (units-append (x.part ∷ y.part ∷ []) (z.part ∷ [])))
      (All-append (IsTypedUnit env place) (units_in (x.part ∷ y.part ∷ [])) (units_in (z.part ∷ [])) (two-units passes names env place x.part y.part x.units y.units) z.units) in
      let kept-new : IsKept place new = keeps place new sc.1 shut.stored in
      let choices : ChoicesAreTyped passes names env place = choices-are-typed env passes names place in
      let parts : List TypedExpr = x.part ∷ y.part ∷ z.part ∷ [] in
      finish passes names env place 3 parts old r new found refl
      (choices.choices at r new x.part y.part z.part (before env place r z.kept far-r) (before env place new kept-new far) sc.0 (lasts passes names env calm old r parts 3 found refl)
      x.typed y.typed z.typed x.truth) shut.units units kept-new

pub all-conditions-are-typed : (passes : List AtomDef → Asked → TypeLimit → Type 0) → AllNeedsAreCalm passes → AllWaysStayOn passes → AllConditionsAreTyped passes
all-conditions-are-typed passes calm stay names env =
    record { both = both passes names env (calm names) (stay names); conditional = conditional passes names env (calm names) (stay names) }
