-- Operators: what they make of their operands.
use Rattle.std.proofs.Common.{◌≡◌, ◌∙◌, ◌++◌, inl, inr, ℕ, Bool, true, false, List, [], ◌∷◌, length, All, arith, refl, sym, subst, ap}
use Rattle.std.specs.Prelude.{◌⊎◌}
use Rattle.bal_base.specs.declared.place.Place.{Place}
use Rattle.bal_base.specs.declared.shape.Shape.{Shape}
use Rattle.checks.specs.Checks.{Gives}
use Rattle.descriptors.specs.declared.names.Names.{Names}
use Rattle.operations.specs.Kinds.{IsBoolean}
use Rattle.operations.specs.Rows.{Surroundings}
use Rattle.type_model.specs.declared.answers.TypeLimit.{TypeLimit}
use Rattle.type_model.specs.declared.atoms.AtomDef.{AtomDef}
use Rattle.type_model.specs.declared.basic.SemType.{SemType}
use Rattle.type_model.specs.Calls.{Asked}
use Rattle.type_model.specs.Inclusion.{HasExactly}
use Rattle.typed_tree.specs.declared.expr.TypedExpr.{TypedExpr}
use Rattle.typed_tree.specs.declared.form.Operator.{Operator}
use Rattle.typed_tree.specs.Listed.{Listed, one, ◌&◌}
use Rattle.expr_needs.specs.declared.expected.Expected.{Expected}
use Rattle.expr_needs.specs.declared.kind.Kind.{Kind}
use Rattle.expr_needs.specs.declared.kind.Kind.TheVariants as kind
use Rattle.expr_needs.specs.ExprTable.{Reading, against}
use Rattle.expr_needs.specs.Needs.{Need, Adds, Compares, Decides, Forms, IsOf, IsSort}
use Rattle.expr_needs.specs.Operators.{expectation}
use Rattle.check_words.specs.Kinds.{IsOfKind}
use Rattle.check_words.specs.Meets.{meets}
use Rattle.check_words.specs.State.{AreLast, IsLast, State}
use Rattle.check_words.specs.Values.{operator_of, sort_kind}
use Rattle.check_laws.specs.Laws.{IsReady}
use Rattle.tree_promises.specs.Made.{GivenBy, OperandsFit, TwoInts, TwoStrings, sem}
use Rattle.tree_promises.specs.Types.{IsTypedExpr}
use Rattle.typed_needs.specs.Asked.{AllIsAsked, IsOfIt}
use Rattle.typed_needs.specs.Between.{IsKept, IsSoFar, IsStanding, IsTypedUnit, units_in}
use Rattle.typed_needs.specs.Pieces.{IsBefore, MakesTyped}
use Rattle.typed_needs.specs.Placing.{AreNamed}
use Rattle.typed_needs.specs.TypedRuns.{ComesToTyped}
use Rattle.typed_needs.proofs.Asking.{all-is-asked, is-of-leaves}
use Rattle.typed_needs.proofs.Opened.{comparison-is-typed, operator-is-typed, sum-is-typed}
use Rattle.calm_needs.specs.Calm.{IsCalm, IsCalmNeed, NeedsAreCalm}
use Rattle.typed_exprs.specs.Lines.{Knows, Left, Path, Run}
use Rattle.typed_exprs.proofs.Operands.{Operand, against-left, against-typed, none-expected, two-found, two-units}
use Rattle.typed_exprs.proofs.Steps.{Step, before, calm-keeps, calm-path, finish, parted, path-on, so-far, still-ready}

module _ (passes : List AtomDef → Asked → TypeLimit → Type 0) (names : Names) (env : List AtomDef) (calm : NeedsAreCalm passes names) where
  -- ---- a step that is calm

  pub calm-so : (need : Need) → IsCalmNeed need → (m new : State) → Step passes names env need m new → IsCalm m new
  calm-so need is m new s = calm.calm need is m new s.0

  pub step-path : (need : Need) → IsCalmNeed need → (m new : State) → Step passes names env need m new → Path m new
  step-path need is m new s = let c = calm-so need is m new s in calm-path m new c.on c.units

  -- one that makes a part of the last ones
  pub made-with : (place : Surroundings) (count : ℕ) (parts : List TypedExpr) (old m new : State) → m.found ≡ old.found ++ parts → length parts ≡ count
      → All (IsTypedUnit env place) (units_in parts) → IsKept place m → IsCalm m new → IsStanding new → MakesTyped passes names env place count m new → ComesToTyped env place old new
  made-with place count parts old m new found many units kept c standing made =
      finish passes names env place count parts old m new found many made c.units units (calm-keeps place m new c standing kept)

  pub made-step : (need : Need) → IsCalmNeed need → (place : Surroundings) (count : ℕ) (parts : List TypedExpr) (old m new : State) → m.found ≡ old.found ++ parts
      → length parts ≡ count → All (IsTypedUnit env place) (units_in parts) → IsKept place m → Step passes names env need m new → MakesTyped passes names env place count m new
      → ComesToTyped env place old new
  made-step need is place count parts old m new found many units kept s made =
      made-with place count parts old m new found many units kept (calm-so need is m new s) s.1 made

  pub lasts : (old m : State) (parts : List TypedExpr) (count : ℕ) → m.found ≡ old.found ++ parts → length parts ≡ count → AreLast m.found count parts
  lasts old m parts count is many = record { kept = old.found; is = is; many = many }

  -- ---- readiness

  pub of-kind-ready : (e : Expected) (k : Kind) (s : State) → IsReady e s → IsReady (expectation k) s
  of-kind-ready e k s h = record { unit = h.unit; wants = none-expected passes names env k _ }

  pub left-ready : (e : Expected) (s t : State) → Left s t → IsReady e s → IsReady e t
  left-ready e s t l h = still-ready e s t l.path.many l.more.same.wants h

  -- ---- two operands of one kind, and what is formed of them

  module _ (truth : SemType) (boolean : HasExactly env truth IsBoolean) where
    pub formed : (o : Operator) (k r : Kind) → ((x y : TypedExpr) → IsOfIt passes names env k x → IsOfIt passes names env k y → OperandsFit env o (sem x ∷ sem y ∷ []))
        → ((x : Shape) → GivenBy o x → IsOfKind r x) → (a b : Reading) (at : Place) → Knows passes names env a → Knows passes names env b
        → (e : Expected) (place : Surroundings) (old new : State) → IsReady e old → Run passes names env (against k a & against k b & one (Forms o 2 r at)) old new
        → IsKept place old → IsSoFar env place new → AreNamed env names place → ComesToTyped env place old new
    formed o k r fits gives a b at ka kb e place old new ready run kept far named =
        let (m, ra, rest) = parted passes names env (against k a) (against k b & one (Forms o 2 r at)) old new run in
        let (n, rb, s) = parted passes names env (against k b) (one (Forms o 2 r at)) m new rest in
        let ready-a = of-kind-ready e k old ready in
        let left-a = against-left passes names env k a ka old m ready-a ra in
        let ready-b = left-ready (expectation k) old m left-a ready-a in
        let left-b = against-left passes names env k b kb m n ready-b rb in
        let far-n = so-far env place n new (step-path (Forms o 2 r at) tt n new s) far in
        let far-m = so-far env place m n left-b.path far-n in
        let x = against-typed passes names env k a ka place old m ready-a ra kept far-m named in
        let y = against-typed passes names env k b kb place m n ready-b rb x.kept far-n named in
        let parts : List TypedExpr = x.part ∷ y.part ∷ [] in
        let found = two-found passes names env old m n x.part y.part x.found y.found in
        let kept-new = calm-keeps place n new (calm-so (Forms o 2 r at) tt n new s) s.1 y.kept in
        made-step (Forms o 2 r at) tt place 2 parts old n new found refl (two-units passes names env place x.part y.part x.units y.units) y.kept s
        (operator-is-typed env passes names place o 2 r at n new parts truth (before env place new kept-new far) s.0 (lasts old n parts 2 found refl) (x.typed, (y.typed, tt))
        (fits x.part y.part x.holds y.holds) gives boolean)

    -- ---- operands of a sort that the first one decides

    abbrev OfSort : Bool → TypedExpr → Type 0
    OfSort ints e = IsOfIt passes names env (sort_kind ints) e

    abbrev sorted_needs : Reading → Reading → Need → Listed Need
    sorted_needs a b need =
        (a.needs (expectation kind.IntOrText) & one (IsOf kind.IntOrText a.at) & one (Decides a.at)) & (b.needs (expectation kind.IntOrText) & one (IsSort b.at)) & one need

    -- the first operand, its kind, and what it decides
    record Sorted (place : Surroundings) (old new : State) : Type 0 where
      pub ints : Bool
      pub operand : Operand passes names env place (OfSort ints) old new
      pub sorts : IsLast new.sorts ints

    -- the states behind the first operand
    record SortedLeft (old new : State) : Type 0 where
      pub many : length new.units ≡ length old.units
      pub path : Path old new

    first-left : (a : Reading) → Knows passes names env a → (old new : State) → IsReady (expectation kind.IntOrText) old
        → Run passes names env (a.needs (expectation kind.IntOrText) & one (IsOf kind.IntOrText a.at) & one (Decides a.at)) old new → SortedLeft old new
    first-left a ka old new ready run =
        let (m, ra, rest) = parted passes names env (a.needs (expectation kind.IntOrText)) (one (IsOf kind.IntOrText a.at) & one (Decides a.at)) old new run in
        let (n, si, sd) = parted passes names env (one (IsOf kind.IntOrText a.at)) (one (Decides a.at)) m new rest in
        let left = ka.leaves (expectation kind.IntOrText) old m ready ra in
        let all = path-on old m new left.path (path-on m n new (step-path (IsOf kind.IntOrText a.at) tt m n si) (step-path (Decides a.at) tt n new sd)) in
        record { many = all.many; path = all }

    first-sorted : (a : Reading) → Knows passes names env a → (place : Surroundings) (old new : State) → IsReady (expectation kind.IntOrText) old
        → Run passes names env (a.needs (expectation kind.IntOrText) & one (IsOf kind.IntOrText a.at) & one (Decides a.at)) old new → IsKept place old → IsSoFar env place new
        → AreNamed env names place → Sorted place old new
    first-sorted a ka place old new ready run kept far named =
        let (m, ra, rest) = parted passes names env (a.needs (expectation kind.IntOrText)) (one (IsOf kind.IntOrText a.at) & one (Decides a.at)) old new run in
        let (n, si, sd) = parted passes names env (one (IsOf kind.IntOrText a.at)) (one (Decides a.at)) m new rest in
        let far-n = so-far env place n new (step-path (Decides a.at) tt n new sd) far in
        let far-m = so-far env place m n (step-path (IsOf kind.IntOrText a.at) tt m n si) far-n in
        let c = ka.claim (expectation kind.IntOrText) place old m ready ra kept far-m named in
        let same : n ≡ m = is-of-leaves passes kind.IntOrText a.at m n tt si.0 in
        let found : n.found ≡ old.found ++ c.part ∷ [] = ap (λ (s : State). s.found) same ∙ c.found in
        let kept-n = calm-keeps place m n (calm-so (IsOf kind.IntOrText a.at) tt m n si) si.1 c.kept in
        let all : AllIsAsked passes names env = all-is-asked passes names env in
        let (ints, is, of) = all.sorts a.at n new c.part (before env place n kept-n far-n) sd.0 (record { kept = old.found; is = found }) in
        record {
          ints = ints;
          operand = record {
            part = c.part;
            found = ap (λ (s : State). s.found) is ∙ found;
            typed = c.typed;
            units = c.units;
            kept = calm-keeps place n new (calm-so (Decides a.at) tt n new sd) sd.1 kept-n;
            holds = of;
          };
          sorts = record { kept = n.sorts; is = ap (λ (s : State). s.sorts) is };
        }

    -- what both make is typed, whatever the first one decides
    abbrev MadeOfSort : Need → Type 0
    MadeOfSort need =
        (place : Surroundings) (n new : State) (x y : TypedExpr) (ints : Bool) → IsBefore env new → meets passes names need n (Gives tt) new → IsLast n.sorts ints → AreLast n.found 2 (x ∷ y ∷ [])
        → IsTypedExpr env place x → IsTypedExpr env place y → OfSort ints x → OfSort ints y → MakesTyped passes names env place 2 n new

    pub sorted : (need : Need) → IsCalmNeed need → MadeOfSort need → (a b : Reading) → Knows passes names env a → Knows passes names env b
        → (e : Expected) (place : Surroundings) (old new : State) → IsReady e old → Run passes names env (sorted_needs a b need) old new
        → IsKept place old → IsSoFar env place new → AreNamed env names place → ComesToTyped env place old new
    sorted need is-calm made a b ka kb e place old new ready run kept far named =
        let first : Listed Need = a.needs (expectation kind.IntOrText) & one (IsOf kind.IntOrText a.at) & one (Decides a.at) in
        let second : Listed Need = b.needs (expectation kind.IntOrText) & one (IsSort b.at) in
        let (m, ra, rest) = parted passes names env first (second & one need) old new run in
        let (n, rb, s) = parted passes names env second (one need) m new rest in
        let (k, rk, ss) = parted passes names env (b.needs (expectation kind.IntOrText)) (one (IsSort b.at)) m n rb in
        let ready-a = of-kind-ready e kind.IntOrText old ready in
        let left-a = first-left a ka old m ready-a ra in
        let ready-b : IsReady (expectation kind.IntOrText) m = record { unit = (let u = ready.unit in let q = left-a.many in omega (arith, u, q)); wants = tt } in
        let left-b = kb.leaves (expectation kind.IntOrText) m k ready-b rk in
        let far-n = so-far env place n new (step-path need is-calm n new s) far in
        let far-k = so-far env place k n (step-path (IsSort b.at) tt k n ss) far-n in
        let far-m = so-far env place m k left-b.path far-k in
        let x = first-sorted a ka place old m ready-a ra kept far-m named in
        let y = kb.claim (expectation kind.IntOrText) place m k ready-b rk x.operand.kept far-k named in
        let sort-k : IsLast k.sorts x.ints = subst (λ l. IsLast l x.ints) (sym left-b.more.same.sorts) x.sorts in
        let all : AllIsAsked passes names env = all-is-asked passes names env in
        let (of, same) = all.of_sorts b.at k n y.part x.ints (before env place k y.kept far-k) ss.0 sort-k (record { kept = m.found; is = y.found }) in
        let found-n : n.found ≡ m.found ++ y.part ∷ [] = ap (λ (t : State). t.found) same ∙ y.found in
        let sort-n : IsLast n.sorts x.ints = subst (λ (t : State). IsLast t.sorts x.ints) (sym same) sort-k in
        let kept-n = calm-keeps place k n (calm-so (IsSort b.at) tt k n ss) ss.1 y.kept in
        let parts : List TypedExpr = x.operand.part ∷ y.part ∷ [] in
        let found = two-found passes names env old m n x.operand.part y.part x.operand.found found-n in
        let kept-new = calm-keeps place n new (calm-so need is-calm n new s) s.1 kept-n in
        made-step need is-calm place 2 parts old n new found refl (two-units passes names env place x.operand.part y.part x.operand.units y.units) kept-n s
        (made place n new x.operand.part y.part x.ints (before env place new kept-new far) s.0 sort-n (lasts old n parts 2 found refl) x.operand.typed y.typed x.operand.holds of)

    pub sum-made : (at : Place) → MadeOfSort (Adds at)
    sum-made at place n new x y ints after met sort ends tx ty hx hy =
        sum-is-typed env passes names place at n new (x ∷ y ∷ []) ints truth after met sort ends (tx, (ty, tt)) (fits ints hx hy) boolean
      where
        fits : (ints : Bool) → OfSort ints x → OfSort ints y → OperandsFit env (operator_of ints) (sem x ∷ sem y ∷ [])
        fits true hx hy = (hx, hy)
        fits false hx hy = (hx, hy)

    pub order-made : (o : Operator) → ((x y : SemType) → TwoInts env (x ∷ y ∷ []) ⊎ TwoStrings env (x ∷ y ∷ []) → OperandsFit env o (x ∷ y ∷ []))
        → ((x : Shape) → GivenBy o x → IsBoolean x) → (at : Place) → MadeOfSort (Compares o at)
    order-made o fits gives at place n new x y ints after met sort ends tx ty hx hy =
        comparison-is-typed env passes names place o at n new (x ∷ y ∷ []) truth after met ends (tx, (ty, tt)) (fits (sem x) (sem y) (by ints hx hy)) gives boolean
      where
        by : (ints : Bool) → OfSort ints x → OfSort ints y → TwoInts env (sem x ∷ sem y ∷ []) ⊎ TwoStrings env (sem x ∷ sem y ∷ [])
        by true hx hy = inl (hx, hy)
        by false hx hy = inr (hx, hy)
