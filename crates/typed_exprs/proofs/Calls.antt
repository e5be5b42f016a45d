-- Calls, argument by argument.
use Rattle.std.proofs.Common.{◌≡◌, ◌≤◌, ◌∙◌, ◌++◌, ◌+◌, ℕ, suc, Bool, true, false, List, [], ◌∷◌, length, All, Option, Some, None, append-nil, append_assoc, arith, length-append, refl, sym, subst, ap}
use Rattle.bal_base.specs.declared.fault.FaultCode.TheVariants.{Unknown}
use Rattle.bal_base.specs.declared.place.Place.{Place}
use Rattle.bal_tree.specs.declared.name.Word.{Word}
use Rattle.checks.specs.Checks.{Gives, ◌▷◌, gives_some}
use Rattle.descriptors.specs.declared.names.Names.{Names}
use Rattle.descriptors.specs.declared.names.Signature.{Signature}
use Rattle.needs.specs.Needs.{in_turn}
use Rattle.operations.specs.declared.library.LibraryCall.{LibraryCall}
use Rattle.operations.specs.declared.library.LibraryCall.TheVariants.{Push}
use Rattle.operations.specs.Rows.{Surroundings}
use Rattle.type_model.specs.declared.answers.Keys.TheVariants.{AnyIndex}
use Rattle.type_model.specs.declared.answers.TypeLimit.{TypeLimit}
use Rattle.type_model.specs.declared.atoms.AtomDef.{AtomDef}
use Rattle.type_model.specs.declared.basic.Ty.{Ty}
use Rattle.type_model.specs.Calls.{Asked}
use Rattle.type_model.proofs.SameTypes.{In-same}
use Rattle.typed_tree.specs.declared.expr.TypedExpr.{TypedExpr}
use Rattle.typed_tree.specs.Listed.{one, ◌&◌}
use Rattle.typed_tree.specs.SharedTypes.{Shared, sem_of}
use Rattle.expr_needs.specs.declared.expected.Expected.TheVariants as expected
use Rattle.expr_needs.specs.ExprTable.{Reading, argument_needs, called_needs, callee_needs, freely, method_needs, receiver_needs}
use Rattle.expr_needs.specs.Needs.{ExpectsArgument, Fails, IsArgument, MakesCall, Starts}
use Rattle.check_words.specs.Calls.{expects_argument, expects_by, expects_of_library, expects_pushed, parameter_of, wants_copy, wants_kind}
use Rattle.check_words.specs.Library.{LibraryRow, Takes}
use Rattle.check_words.specs.Members.{IsStored}
use Rattle.check_words.specs.State.{AreLast, CallAtWork, Called, OfFunction, OfLibrary, OfValue, IsLast, State}
use Rattle.check_words.specs.Words.{Atoms, wants, wants_some}
use Rattle.check_laws.specs.Laws.{IsReady}
use Rattle.tree_promises.specs.Made.{AreTypedExprs}
use Rattle.typed_needs.specs.Between.{IsKept, IsSoFar, IsTypedUnit, units_in}
use Rattle.typed_needs.specs.FunctionCalls.{ArgumentFits, ArgumentsFit, FunctionCallsAreTyped, WantsParameter}
use Rattle.typed_needs.specs.Pieces.{IsBefore, MakesTyped}
use Rattle.typed_needs.specs.Placing.{AreNamed}
use Rattle.typed_needs.specs.TypedRuns.{ComesToTyped}
use Rattle.typed_needs.specs.ValueCalls.{ValueCallIsTyped}
use Rattle.typed_needs.proofs.FunctionCalls.{function-calls-are-typed}
use Rattle.typed_needs.proofs.Items.{want-put}
use Rattle.typed_needs.proofs.Strict.{never}
use Rattle.typed_needs.proofs.ValueCalls.{value-call-is-typed}
use Rattle.calm_needs.specs.Calm.{AllNeedsAreCalm, NeedsAreCalm}
use Rattle.typed_calls.specs.Callees.{AllCalleesAreOpened, HoldsCallee, IsStartable}
use Rattle.typed_calls.specs.LibraryCalls.{AllLibraryCallsAreTyped, BelowIf, LibraryArgumentFits, LibraryArgumentsFit, LibraryCallsAreTyped}
use Rattle.typed_calls.specs.ValueStarts.{ValueStartIsTyped, ValueStartsAreTyped}
use Rattle.typed_exprs.specs.Calls.{AllCallsAreTyped, CallsAreTyped}
use Rattle.typed_exprs.specs.Lines.{Claim, Knows, Path, Run}
use Rattle.typed_exprs.proofs.Callees.{Opens, callee-opened, callee-path, method-opened, method-path}
use Rattle.typed_exprs.proofs.Loops.{Chain, chain-path, chained, go, more-units, replaced-last, typed-more, units-more, want-more}
use Rattle.typed_exprs.proofs.Operators.{calm-so, made-step, step-path}
use Rattle.typed_exprs.proofs.Steps.{Step, before, calm-keeps, parted, path-on, so-far}

-- ---- what is wanted of an argument

module _ (passes : List AtomDef → Asked → TypeLimit → Type 0) where
  some-wanted : (P : Atoms → Ty → Type 0) (u : Unit {0}) (old new : State) → wants_some P old (Gives u) new → 1 ≤ length new.wants
  unfolding ◌▷◌
  some-wanted P u old new (t, mid, first, put) = let (x, same, is) = want-put (Some t) u mid new put in want-more x mid new is

  none-wanted : (u : Unit {0}) (old new : State) → wants None old (Gives u) new → 1 ≤ length new.wants
  none-wanted u old new put = let (x, same, is) = want-put None u old new put in want-more x old new is

  copy-wanted : (ts : List Ty) (u : Unit {0}) (old new : State) → wants_copy ts old (Gives u) new → 1 ≤ length new.wants
  unfolding gives_some
  copy-wanted [] u old new (bad, same) = absurd bad
  copy-wanted (t ∷ ts) u old new put = some-wanted _ u old new put

  kind-wanted : (k : Takes) (u : Unit {0}) (old new : State) → wants_kind k old (Gives u) new → 1 ≤ length new.wants
  kind-wanted None u old new put = none-wanted u old new put
  kind-wanted (Some k) u old new put = some-wanted _ u old new put

  pushed-wanted : (receiver : Option Shared) (at : Place) (u : Unit {0}) (old new : State) → expects_pushed passes receiver at old (Gives u) new → 1 ≤ length new.wants
  unfolding ◌▷◌ gives_some
  pushed-wanted None at u old new (bad, same) = absurd bad
  pushed-wanted (Some t) at u old new (m, mid, first, put) = some-wanted (IsStored t.value AnyIndex m) u mid new put

  library-wanted : (call : LibraryCall) (receiver : Option Shared) (k : Takes) (at : Place) (u : Unit {0}) (old new : State) → expects_of_library passes call receiver k at old (Gives u) new
      → 1 ≤ length new.wants
  library-wanted Push receiver k at u old new put = pushed-wanted receiver at u old new put
  library-wanted call receiver k at u old new put = kind-wanted k u old new put

  by-wanted : (callee : Called) (n : ℕ) (at : Place) (u : Unit {0}) (old new : State) → expects_by passes callee n at old (Gives u) new → 1 ≤ length new.wants
  by-wanted (OfFunction f) n at u old new put = copy-wanted (parameter_of f n) u old new put
  by-wanted OfValue n at u old new put = none-wanted u old new put
  by-wanted (OfLibrary r receiver) n at u old new put = library-wanted r.call receiver _ at u old new put

  argument-wanted : (at : Place) (old new : State) → expects_argument passes at old (Gives tt) new → 1 ≤ length new.wants
  unfolding ◌▷◌
  argument-wanted at old new (c, mid, first, put) = by-wanted c.callee c.args at tt mid new put

-- ---- arguments that fit

module _ (env : List AtomDef) where
  abbrev FitsAt : Called → ℕ → TypedExpr → Type 0
  FitsAt (OfFunction f) n e = ArgumentFits env (parameter_of f n) e
  FitsAt OfValue n e = Unit {0}
  FitsAt (OfLibrary r receiver) n e = LibraryArgumentFits env r receiver n e

  abbrev AllFit : Called → List TypedExpr → Type 0
  AllFit (OfFunction f) es = ArgumentsFit env f 0 es
  AllFit OfValue es = Unit {0}
  AllFit (OfLibrary r receiver) es = LibraryArgumentsFit env r receiver 0 es

  function-more : (f : Signature) (k : ℕ) (es : List TypedExpr) (e : TypedExpr) → ArgumentsFit env f k es → ArgumentFits env (parameter_of f (k + length es)) e → ArgumentsFit env f k (es ++ e ∷ [])
  function-more f k [] e fit fits = (subst (λ n. ArgumentFits env (parameter_of f n) e) (omega arith) fits, tt)
  function-more f k (x ∷ es) e fit fits = (fit.0, function-more f (suc k) es e fit.1 (subst (λ n. ArgumentFits env (parameter_of f n) e) (omega arith) fits))

  library-more : (r : LibraryRow) (receiver : Option Shared) (k : ℕ) (es : List TypedExpr) (e : TypedExpr) → LibraryArgumentsFit env r receiver k es
      → LibraryArgumentFits env r receiver (k + length es) e → LibraryArgumentsFit env r receiver k (es ++ e ∷ [])
  library-more r receiver k [] e fit fits = (subst (λ n. LibraryArgumentFits env r receiver n e) (omega arith) fits, tt)
  library-more r receiver k (x ∷ es) e fit fits = (fit.0, library-more r receiver (suc k) es e fit.1 (subst (λ n. LibraryArgumentFits env r receiver n e) (omega arith) fits))

  fit-more : (callee : Called) (es : List TypedExpr) (e : TypedExpr) → AllFit callee es → FitsAt callee (length es) e → AllFit callee (es ++ e ∷ [])
  fit-more (OfFunction f) es e fit fits = function-more f 0 es e fit (subst (λ n. ArgumentFits env (parameter_of f n) e) (omega arith) fits)
  fit-more OfValue es e fit fits = tt
  fit-more (OfLibrary r receiver) es e fit fits = library-more r receiver 0 es e fit (subst (λ n. LibraryArgumentFits env r receiver n e) (omega arith) fits)

  none-fit : (callee : Called) → AllFit callee []
  none-fit (OfFunction f) = tt
  none-fit OfValue = tt
  none-fit (OfLibrary r receiver) = tt

  below-parameter : (ts : List Ty) (w : Shared) (e : TypedExpr) → WantsParameter ts w → BelowIf env (Some w) e → ArgumentFits env ts e
  below-parameter [] w e same below = absurd same
  below-parameter (t ∷ ts) w e same below = λ x valid i. (In-same env x t.sem (sem_of w) same).1 (below x valid i)

-- so many arguments of this are there
abbrev at_work : Called → ℕ → CallAtWork
at_work callee n = record { callee = callee; args = n }

module _ (passes : List AtomDef → Asked → TypeLimit → Type 0) (names : Names) (env : List AtomDef) (calm : NeedsAreCalm passes names) (all-callees : AllCalleesAreOpened passes)
    (all-library : AllLibraryCallsAreTyped passes) (all-starts : ValueStartsAreTyped passes) where
  -- a call that is open, with its arguments so far behind what belongs to it
  record HoldsCall (place : Surroundings) (base : State) (callee : Called) (belong : List TypedExpr) (done : List Reading) (s : State) : Type 0 where
    pub calls : s.calls ≡ base.calls ++ at_work callee (length done) ∷ []
    pub args : List TypedExpr
    pub found : s.found ≡ base.found ++ (belong ++ args)
    pub many : length args ≡ length done
    pub typed : AreTypedExprs env place (belong ++ args)
    pub units : All (IsTypedUnit env place) (units_in (belong ++ args))
    pub kept : IsKept place s
    pub fit : AllFit env callee args

  -- what is wanted of the next argument; what is below it fits
  abbrev Expects : Called → ℕ → State → State → Type 0
  Expects callee n old new = (w : Option Shared) × (new ≡ record old { wants = old.wants ++ w ∷ [] }) × ((e : TypedExpr) → BelowIf env w e → FitsAt env callee n e)

  expects : (callee : Called) (n : ℕ) (place : Surroundings) (at : Place) (old new : State) → IsBefore env old → IsBefore env new → Step passes names env (ExpectsArgument at) old new
      → IsLast old.calls (at_work callee n) → Expects callee n old new
  expects (OfFunction f) n place at old new before after s last =
      let functions : FunctionCallsAreTyped passes names env place = function-calls-are-typed passes names env place in
      let (w, is, wanted) = functions.expected f at old new (at_work (OfFunction f) n) s.0 last refl in
      (Some w, is, (λ e below. below-parameter env (parameter_of f n) w e wanted below))
  expects OfValue n place at old new before after s last =
      let library : LibraryCallsAreTyped passes names env place = all-library names env place in
      (None, library.unwanted at old new (at_work OfValue n) s.0 last refl, (λ e below. tt))
  expects (OfLibrary r receiver) n place at old new before after s last =
      let library : LibraryCallsAreTyped passes names env place = all-library names env place in
      library.expected r receiver at old new (at_work (OfLibrary r receiver) n) before after s.0 last refl

  -- ---- an argument

  wanted-ready : (at : Place) (old a : State) → Step passes names env (ExpectsArgument at) old a → 1 ≤ length old.units → IsReady expected.Wanted a
  wanted-ready at old a s unit =
      record { unit = more-units old a (step-path passes names env calm (ExpectsArgument at) tt old a s) unit; wants = argument-wanted passes at old a s.0 }

  argument-path : (at : Place) (x : Reading) → Knows passes names env x → (old new : State) → 1 ≤ length old.units → Run passes names env (argument_needs at x) old new → Path old new
  argument-path at x kx old new unit run =
      let (a, se, rest) = parted passes names env (one (ExpectsArgument at)) (x.needs expected.Wanted & one (IsArgument x.at)) old new run in
      let (b, rx, si) = parted passes names env (x.needs expected.Wanted) (one (IsArgument x.at)) a new rest in
      let left = kx.leaves expected.Wanted a b (wanted-ready at old a se unit) rx in
      path-on old a new (step-path passes names env calm (ExpectsArgument at) tt old a se)
      (path-on a b new left.path (step-path passes names env calm (IsArgument x.at) tt b new si))

  argument-taken : (at : Place) (place : Surroundings) → AreNamed env names place → (base : State) (callee : Called) (belong : List TypedExpr) (done : List Reading) (x : Reading)
      → Knows passes names env x → (old new : State) → 1 ≤ length old.units → Run passes names env (argument_needs at x) old new → IsSoFar env place new
      → HoldsCall place base callee belong done old → HoldsCall place base callee belong (done ++ x ∷ []) new
  argument-taken at place named base callee belong done x kx old new unit run far h =
      let (a, se, rest) = parted passes names env (one (ExpectsArgument at)) (x.needs expected.Wanted & one (IsArgument x.at)) old new run in
      let (b, rx, si) = parted passes names env (x.needs expected.Wanted) (one (IsArgument x.at)) a new rest in
      let ready = wanted-ready at old a se unit in
      let left = kx.leaves expected.Wanted a b ready rx in
      let far-b = so-far env place b new (step-path passes names env calm (IsArgument x.at) tt b new si) far in
      let far-a = so-far env place a b left.path far-b in
      let far-old = so-far env place old a (step-path passes names env calm (ExpectsArgument at) tt old a se) far-a in
      let kept-a = calm-keeps place old a (calm-so passes names env calm (ExpectsArgument at) tt old a se) se.1 h.kept in
      let n : ℕ = length done in
      let (w, is, fits) = expects callee n place at old a (before env place old h.kept far-old) (before env place a kept-a far-a) se (record { kept = base.calls; is = h.calls }) in
      let y = kx.claim expected.Wanted place a b ready rx kept-a far-b named in
      let calls-b : b.calls ≡ base.calls ++ at_work callee n ∷ [] = left.more.same.calls ∙ ap (λ (s : State). s.calls) is ∙ h.calls in
      let library : LibraryCallsAreTyped passes names env place = all-library names env place in
      let (now, below) = library.below x.at b new (at_work callee n) y.part w (before env place b y.kept far-b) si.0 (record { kept = base.calls; is = calls-b }) (record { kept = a.found; is = y.found })
      (record { kept = old.wants; is = left.more.same.wants ∙ ap (λ (s : State). s.wants) is }) in
      let more : suc n ≡ length (done ++ x ∷ []) = (let d = length-append done (x ∷ []) in omega (arith, d)) in
      let found-b : b.found ≡ base.found ++ (belong ++ (h.args ++ y.part ∷ [])) =
      y.found ∙ ap (λ (s : State). s.found ++ y.part ∷ []) is ∙ ap (λ xs. xs ++ y.part ∷ []) h.found ∙ append_assoc base.found (belong ++ h.args) (y.part ∷ [])
      ∙ ap (λ xs. base.found ++ xs) (append_assoc belong h.args (y.part ∷ [])) in
      let same : (belong ++ h.args) ++ y.part ∷ [] ≡ belong ++ (h.args ++ y.part ∷ []) = append_assoc belong h.args (y.part ∷ []) in
      record {
        calls = ap (λ (s : State). s.calls) now ∙ replaced-last b.calls base.calls (at_work callee n) (at_work callee (suc n)) calls-b ∙ ap (λ k. base.calls ++ at_work callee k ∷ []) more;
        args = h.args ++ y.part ∷ [];
        found = ap (λ (s : State). s.found) now ∙ found-b;
        many = (let l = length-append h.args (y.part ∷ []) in let d = length-append done (x ∷ []) in let m = h.many in omega (arith, l, d, m));
        typed = subst (AreTypedExprs env place) same (typed-more env place (belong ++ h.args) (y.part ∷ []) h.typed (y.typed, tt));
        units = subst (λ xs. All (IsTypedUnit env place) (units_in xs)) same (units-more env place (belong ++ h.args) (y.part ∷ []) h.units y.units);
        kept = calm-keeps place b new (calm-so passes names env calm (IsArgument x.at) tt b new si) si.1 y.kept;
        fit = fit-more env callee h.args y.part h.fit (subst (λ k. FitsAt env callee k y.part) (sym h.many) (fits y.part below));
      }

  -- ---- the call

  -- so many parts are those of the call
  record CallTyped (place : Surroundings) (parts : List TypedExpr) (s t : State) : Type 0 where
    pub count : ℕ
    pub many : length parts ≡ count
    pub made : MakesTyped passes names env place count s t

  last-args : (xs base belong args : List TypedExpr) (n : ℕ) → xs ≡ base ++ (belong ++ args) → length args ≡ n → AreLast xs (length belong + n) (belong ++ args)
  last-args xs base belong args n is many = record { kept = base; is = is; many = (let l = length-append belong args in omega (arith, l, many)) }

  module _ (at : Place) (place : Surroundings) (base s t : State) (n : ℕ) (belong args : List TypedExpr) (found : s.found ≡ base.found ++ (belong ++ args)) (many : length args ≡ n)
      (typed : AreTypedExprs env place (belong ++ args)) (ready : IsBefore env s) (after : IsBefore env t) (far : IsSoFar env place t) where
    -- of a function nothing belongs to it
    function-parts : belong ≡ [] → AreLast s.found n args × AreTypedExprs env place args × (length (belong ++ args) ≡ n)
    function-parts is = (
      record { kept = base.found; is = found ∙ ap (λ xs. base.found ++ (xs ++ args)) is; many = many },
      subst (λ xs. AreTypedExprs env place (xs ++ args)) is typed,
      ap (λ xs. length (xs ++ args)) is ∙ many,
    )

    value-parts : (f : TypedExpr) → belong ≡ f ∷ [] → AreLast s.found (suc n) (f ∷ args) × AreTypedExprs env place (f ∷ args) × (length (belong ++ args) ≡ suc n)
    value-parts f is = (
      record { kept = base.found; is = found ∙ ap (λ xs. base.found ++ (xs ++ args)) is; many = (let m = many in omega (arith, m)) },
      subst (λ xs. AreTypedExprs env place (xs ++ args)) is typed,
      ap (λ xs. length (xs ++ args)) is ∙ (let m = many in omega (arith, m)),
    )

    called : (callee : Called) → HoldsCallee env place (length args) callee belong → IsLast s.calls (at_work callee n) → AllFit env callee args → Step passes names env (MakesCall at) s t
        → CallTyped place (belong ++ args) s t
    called (OfFunction f) (none, takes, unit) last fit x =
        let (lasts, parts, count) = function-parts none in
        let functions : FunctionCallsAreTyped passes names env place = function-calls-are-typed passes names env place in
        record { count = n; many = count; made = functions.called at f s t (at_work (OfFunction f) n) args after x.0 last refl many takes lasts parts fit unit }
    called OfValue (f, is, function) last fit x =
        let (lasts, parts, count) = value-parts f is in
        let value : ValueCallIsTyped passes names env place = value-call-is-typed passes names env place in
        record { count = suc n; many = count; made = value at s t (at_work OfValue n) f args ready after x.0 last refl many lasts parts function }
    called (OfLibrary r receiver) holds last fit x =
        let library : LibraryCallsAreTyped passes names env place = all-library names env place in
        record {
          count = length belong + n;
          many = (let l = length-append belong args in let m = many in omega (arith, l, m));
          made = library.called r receiver at s t (at_work (OfLibrary r receiver) n) belong args ready after far.first x.0 last refl many holds (last-args s.found base.found belong args n found many) typed fit;
        }

    started : (here : Place) (callee : Called) → IsStartable callee → IsKept place s → HoldsCallee env place (length args) callee belong → IsLast s.calls (at_work callee n)
        → AllFit env callee args → Step passes names env (Starts here at) s t → CallTyped place (belong ++ args) s t
    started here (OfFunction f) startable kept (none, takes, unit) last fit x =
        let (lasts, parts, count) = function-parts none in
        let functions : FunctionCallsAreTyped passes names env place = function-calls-are-typed passes names env place in
        record { count = n; many = count; made = functions.started here at f s t (at_work (OfFunction f) n) args after x.0 last refl many takes lasts parts fit unit }
    started here OfValue startable kept (f, is, function) last fit x =
        let (lasts, parts, count) = value-parts f is in
        let value : ValueStartIsTyped passes names env place = all-starts names env place in
        record { count = suc n; many = count; made = value here at s t (at_work OfValue n) f args kept.standing.env ready after far.first x.0 last refl many lasts parts function }
    started here (OfLibrary r receiver) startable kept holds last fit x = absurd startable

  -- ---- the lines

  -- what has been opened, and behind it the arguments
  arguments : (started : Bool) (at : Place) (args : List Reading) → All (Knows passes names env) args → (place : Surroundings) → AreNamed env names place → (old a b : State) → 1 ≤ length a.units
      → Chain passes names env (argument_needs at) args a b → IsSoFar env place b → (o : Opens passes names env calm all-callees place started (length args) old a)
      → HoldsCall place old o.callee o.belong args b
  arguments started at args known place named old a b unit chain far o =
      let all : o.belong ++ [] ≡ o.belong = append-nil o.belong in
      go passes names env (argument_needs at) place (Knows passes names env) (argument-path at) (HoldsCall place old o.callee o.belong) (argument-taken at place named old o.callee o.belong)
      args [] known a b unit chain far
      (record {
        calls = o.calls;
        args = [];
        found = o.found ∙ ap (λ xs. old.found ++ xs) (sym all);
        many = refl;
        typed = subst (AreTypedExprs env place) (sym all) o.typed;
        units = subst (λ xs. All (IsTypedUnit env place) (units_in xs)) (sym all) o.units;
        kept = o.kept;
        fit = none-fit env o.callee;
      })

  -- where the call is made
  made-call : (at : Place) (args : List Reading) (started : Bool) (place : Surroundings) (old a b new : State) (o : Opens passes names env calm all-callees place started (length args) old a)
      → HoldsCall place old o.callee o.belong args b → IsSoFar env place b → IsSoFar env place new → Step passes names env (MakesCall at) b new → ComesToTyped env place old new
  made-call at args started place old a b new o h far-b far s =
      let kept-new = calm-keeps place b new (calm-so passes names env calm (MakesCall at) tt b new s) s.1 h.kept in
      let holds : HoldsCallee env place (length h.args) o.callee o.belong = subst (λ k. HoldsCallee env place k o.callee o.belong) (sym h.many) o.holds in
      let c = called at place old b new (length args) o.belong h.args h.found h.many h.typed (before env place b h.kept far-b) (before env place new kept-new far) far o.callee holds
      (record { kept = old.calls; is = h.calls }) h.fit s in
      made-step passes names env calm (MakesCall at) tt place c.count (o.belong ++ h.args) old b new h.found c.many h.units h.kept s c.made

  function : (f : Reading) (args : List Reading) (at : Place) → Knows passes names env f → All (Knows passes names env) args
      → Claim passes names env (λ e. called_needs false f args at & one (MakesCall at))
  function f args at kf known e place old new ready run kept far named =
      let (b, rc, s) = parted passes names env (called_needs false f args at) (one (MakesCall at)) old new run in
      let (a, ro, ra) = parted passes names env (callee_needs false f.name f (length args) at) (in_turn (argument_needs at) args) old b rc in
      let chain = chained passes names env (argument_needs at) args a b ra in
      let path-a = callee-path passes names env calm all-callees false f.name f (length args) at kf old a ready.unit ro in
      let unit-a = more-units old a path-a ready.unit in
      let far-b = so-far env place b new (step-path passes names env calm (MakesCall at) tt b new s) far in
      let far-a = so-far env place a b (chain-path passes names env (argument_needs at) place (Knows passes names env) (argument-path at) args known a b unit-a chain) far-b in
      let o = callee-opened passes names env calm all-callees false f.name f (length args) at kf place old a ready.unit ro kept far-a named in
      made-call at args false place old a b new o (arguments false at args known place named old a b unit-a chain far-b o) far-b far s

  method : (a : Reading) (m : Word) (args : List Reading) (at : Place) → Knows passes names env a → All (Knows passes names env) args
      → Claim passes names env (λ e. method_needs a m args at & one (MakesCall at))
  method x m args at kx known e place old new ready run kept far named =
      let (b, rc, s) = parted passes names env (method_needs x m args at) (one (MakesCall at)) old new run in
      let (a, ro, ra) = parted passes names env (receiver_needs x m (length args) at) (in_turn (argument_needs at) args) old b rc in
      let chain = chained passes names env (argument_needs at) args a b ra in
      let path-a = method-path passes names env calm all-callees x m (length args) at kx old a ready.unit ro in
      let unit-a = more-units old a path-a ready.unit in
      let far-b = so-far env place b new (step-path passes names env calm (MakesCall at) tt b new s) far in
      let far-a = so-far env place a b (chain-path passes names env (argument_needs at) place (Knows passes names env) (argument-path at) args known a b unit-a chain) far-b in
      let o = method-opened passes names env calm all-callees x m (length args) at kx place old a ready.unit ro kept far-a named in
      made-call at args false place old a b new o (arguments false at args known place named old a b unit-a chain far-b o) far-b far s

  starts : (f : Reading) (args : List Reading) (at here behind : Place) → Knows passes names env f → All (Knows passes names env) args
      → Claim passes names env (λ e. called_needs true f args at & one (Starts here behind))
  starts f args at here behind kf known e place old new ready run kept far named =
      let (b, rc, s) = parted passes names env (called_needs true f args at) (one (Starts here behind)) old new run in
      let (a, ro, ra) = parted passes names env (callee_needs true f.name f (length args) at) (in_turn (argument_needs at) args) old b rc in
      let chain = chained passes names env (argument_needs at) args a b ra in
      let path-a = callee-path passes names env calm all-callees true f.name f (length args) at kf old a ready.unit ro in
      let unit-a = more-units old a path-a ready.unit in
      let far-b = so-far env place b new (step-path passes names env calm (Starts here behind) tt b new s) far in
      let far-a = so-far env place a b (chain-path passes names env (argument_needs at) place (Knows passes names env) (argument-path at) args known a b unit-a chain) far-b in
      let o = callee-opened passes names env calm all-callees true f.name f (length args) at kf place old a ready.unit ro kept far-a named in
      let h = arguments true at args known place named old a b unit-a chain far-b o in
      let kept-new = calm-keeps place b new (calm-so passes names env calm (Starts here behind) tt b new s) s.1 h.kept in
      let holds : HoldsCallee env place (length h.args) o.callee o.belong = subst (λ k. HoldsCallee env place k o.callee o.belong) (sym h.many) o.holds in
      let c = started behind place old b new (length args) o.belong h.args h.found h.many h.typed (before env place b h.kept far-b) (before env place new kept-new far) far here o.callee
      (o.startable refl) h.kept holds (record { kept = old.calls; is = h.calls }) h.fit s in
      made-step passes names env calm (Starts here behind) tt place c.count (o.belong ++ h.args) old b new h.found c.many h.units h.kept s c.made

  no-method : (a : Reading) (m : Word) (here behind : Place) → Claim passes names env (λ e. (freely a & one (Fails Unknown m.at)) & one (Starts here behind))
  no-method a m here behind e place old new ready run kept far named =
      let (b, rb, s) = parted passes names env (freely a & one (Fails Unknown m.at)) (one (Starts here behind)) old new run in
      let (k, ra, bad) = parted passes names env (freely a) (one (Fails Unknown m.at)) old b rb in
      absurd (never Unknown m.at k b bad.0)

  calls-are-typed : CallsAreTyped passes names env
  calls-are-typed = record { function = function; method = method; started = starts; no_method = no-method }

pub all-calls-are-typed : (passes : List AtomDef → Asked → TypeLimit → Type 0) → AllNeedsAreCalm passes → AllCalleesAreOpened passes → AllLibraryCallsAreTyped passes → ValueStartsAreTyped passes
    → AllCallsAreTyped passes
all-calls-are-typed passes calm all-callees all-library all-starts names env = calls-are-typed passes names env (calm names) all-callees all-library all-starts
