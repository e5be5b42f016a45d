-- Calls of functions, argument by argument.
use Rattle.std.proofs.Common.{◌≡◌, ◌≤◌, ◌∙◌, ◌++◌, ◌+◌, ◌-◌, ℕ, suc, true, false, List, [], ◌∷◌, length, map, All, Option, Some, None, append-nil, append_assoc, arith, length-append, refl, sym, subst, ap}
use Rattle.std.specs.Prelude.{◌||◌, IsSomeAnd, is_some, nat_le, option_map, slice_get}
use Rattle.std.specs.List.{AllZip}
use Rattle.std.proofs.lemmas.Bool.{and_parts, leb-true}
use Rattle.std.proofs.lemmas.List.{length-map, map-append}
use Rattle.std.proofs.lemmas.List.Elements.{All-cons, All-nil}
use Rattle.std.proofs.lemmas.Option.{slice_get_past}
use Rattle.bal_base.specs.declared.place.Place.{Place}
use Rattle.bal_base.specs.declared.shape.Shape.{Shape}
use Rattle.checks.specs.Checks.{Gives, ◌▷◌, gives_some}
use Rattle.descriptors.specs.declared.names.Names.{Names}
use Rattle.descriptors.specs.declared.names.Signature.{Signature}
use Rattle.descriptors.specs.Described.{IsCopy, plain}
use Rattle.needs.specs.Needs.{does}
use Rattle.operations.specs.declared.operation.Operation.{Operation}
use Rattle.operations.specs.declared.operation.Operation.TheVariants.{Call, MakeList, Start}
use Rattle.operations.specs.Rows.{AreBelow, ResultHas, Signature as UnitSignature, Surroundings}
use Rattle.operations.specs.Structures.{ItemsFit, MayStandIn}
use Rattle.operations.specs.Typing.{OpTyped}
use Rattle.type_model.specs.declared.answers.TypeLimit.{TypeLimit}
use Rattle.type_model.specs.declared.atoms.AtomDef.{AtomDef}
use Rattle.type_model.specs.declared.basic.SemType.{SemType, Atom}
use Rattle.type_model.specs.declared.basic.Ty.{Ty}
use Rattle.type_model.specs.Calls.{Asked}
use Rattle.type_model.specs.Defined.{TyBelow}
use Rattle.type_model.specs.Inclusion.{Sub}
use Rattle.type_model.specs.Membership.{In}
use Rattle.type_model.specs.SameType.{IsSameType}
use Rattle.type_model.proofs.SameTypes.{In-same}
use Rattle.typed_tree.specs.declared.expr.TypedExpr.{TypedExpr}
use Rattle.typed_tree.specs.declared.form.StrictForm.TheVariants as form
use Rattle.typed_tree.specs.SharedTypes.{Shared, sem_of}
use Rattle.held_operations.specs.Constructs.{passed_count, rest_operations}
use Rattle.eval_model.specs.Walk.{OpsOver}
use Rattle.expr_needs.specs.Needs.{MakesCall, Starts}
use Rattle.flow_narrowing.specs.Flows.{IfShared}
use Rattle.check_words.specs.Calls.{callee_unit, expects_argument, expects_by, function_takes, is_argument, makes_call, makes_call_of, one_more, parameter_of, starts, starts_of, wants_copy}
use Rattle.check_words.specs.State.{AreLast, CallAtWork, Called, IsLast, OfFunction, State, all_but, replaced}
use Rattle.check_words.specs.Words.{below_if, closes_call}
use Rattle.check_words.proofs.Standing.{last-has}
use Rattle.tree_promises.specs.Made.{LeadsTo, MadeIsTyped, sem}
use Rattle.tree_promises.specs.Types.{DoesTypes, Stack, type_ways}
use Rattle.tree_promises.proofs.Pieces.{made-is-typed}
use Rattle.typed_needs.specs.FunctionCalls.{ArgumentFits, ArgumentIsExpected, ArgumentIsTaken, ArgumentsFit, FunctionCallsAreTyped, FunctionIsTyped, WantsParameter}
use Rattle.typed_needs.specs.Pieces.{IsBefore}
use Rattle.typed_needs.specs.Placing.{AreRestLists, IsUnitOf, parameter_types}
use Rattle.typed_needs.proofs.Asking.{below-if-leaves, below-if-so}
use Rattle.typed_needs.proofs.AtomKinds.{as-list, list-of}
use Rattle.typed_needs.proofs.Items.{same-some, want-put}
use Rattle.typed_needs.proofs.Leaving.{made}
use Rattle.typed_needs.proofs.Opened.{as-before, last-defined, sub-later}
use Rattle.typed_needs.proofs.Placed.{get-behind, last-same}
use Rattle.typed_needs.proofs.Strict.{does-row, strict-typed}

-- ---- parameters by their numbers

-- the type of a parameter, by the fixed one with its number and the rest
abbrev parameter_by : Option Ty → Option Ty → List Ty
parameter_by (Some t) rest = t ∷ []
parameter_by None (Some t) = t ∷ []
parameter_by None None = []

fixed-parameter : (f : Signature) (n : ℕ) (t : Ty) → slice_get f.params n ≡ Some t → parameter_of f n ≡ t ∷ []
fixed-parameter f n t is = ap (λ o. parameter_by o f.rest) is

rest-parameter : (f : Signature) (n : ℕ) (t : Ty) → length f.params ≤ n → f.rest ≡ Some t → parameter_of f n ≡ t ∷ []
rest-parameter f n t le is = ap (λ o. parameter_by o f.rest) (slice_get_past f.params n le) ∙ ap (λ o. parameter_by None o) is

module _ (env : List AtomDef) where
  abbrev Under : TypedExpr → Ty → Type 0
  Under e t = Sub env (sem e) t.sem

  -- the arguments of fixed parameters, and those behind them
  record Split (f : Signature) (ps : List Ty) (es : List TypedExpr) : Type 0 where
    pub firsts : List TypedExpr
    pub others : List TypedExpr
    pub is : es ≡ firsts ++ others
    pub many : length firsts ≡ length ps
    pub fit : AllZip Under firsts ps
    pub behind : ArgumentsFit env f (length f.params) others

  split-arguments : (f : Signature) (before ps : List Ty) (es : List TypedExpr) → f.params ≡ before ++ ps → ArgumentsFit env f (length before) es → length ps ≤ length es → Split f ps es
  split-arguments f before [] es is fit le =
      let same : length f.params ≡ length before = ap length is ∙ ap length (append-nil before) in
      record { firsts = []; others = es; is = refl; many = refl; fit = tt; behind = subst (λ n. ArgumentsFit env f n es) (sym same) fit }
  split-arguments f before (p ∷ ps) [] is fit le = absurd (omega (arith, le))
  split-arguments f before (p ∷ ps) (e ∷ es) is fit le =
      let there : slice_get f.params (length before) ≡ Some p = ap (λ ts. slice_get ts (length before)) is ∙ get-behind before p ps in
      let under : Under e p = subst (λ ts. ArgumentFits env ts e) (fixed-parameter f (length before) p there) fit.0 in
      let long : suc (length before) ≡ length (before ++ p ∷ []) = (let l = length-append before (p ∷ []) in omega (arith, l)) in
      let s = split-arguments f (before ++ p ∷ []) ps es (is ∙ sym (append_assoc before (p ∷ []) ps)) (subst (λ n. ArgumentsFit env f n es) long fit.1) (omega (arith, le)) in
      record { firsts = e ∷ s.firsts; others = s.others; is = ap (λ l. e ∷ l) s.is; many = ap suc s.many; fit = (under, s.fit); behind = s.behind }

  -- those behind them are items of what takes the rest
  rest-items : (f : Signature) (t u : Ty) (es : List TypedExpr) (k j : ℕ) → f.rest ≡ Some t → Sub env t.sem u.sem → length f.params ≤ k → ArgumentsFit env f k es
      → ItemsFit env (map sem es) j [] (Some u)
  rest-items f t u [] k j is within le fit = tt
  rest-items f t u (e ∷ es) k j is within le fit = (
    (λ x i. within x i.0 (subst (λ ts. ArgumentFits env ts e) (rest-parameter f k t le is) fit.0 x i.0 i.1)),
    rest-items f t u es (suc k) (j + 1) is within (omega (arith, le)) fit.1,
  )

  below-through : (es : List TypedExpr) (ps : List Ty) (us : List SemType) → AllZip Under es ps → AllZip (Sub env) (map (λ t. t.sem) ps) us → AreBelow env (map sem es) us
  below-through [] [] [] f g = tt
  below-through (e ∷ es) (p ∷ ps) (u ∷ us) f g = ((λ x i. g.0 x i.0 (f.0 x i.0 i.1)), below-through es ps us f.1 g.1)
  below-through [] [] (u ∷ us) f g = absurd g
  below-through [] (p ∷ ps) us f g = absurd f
  below-through (e ∷ es) [] us f g = absurd f
  below-through (e ∷ es) (p ∷ ps) [] f g = absurd g

  -- and what takes the rest behind them
  below-rest : (es : List TypedExpr) (ps : List Ty) (atom : ℕ) (us : List SemType) → AllZip Under es ps → AllZip (Sub env) (map (λ t. t.sem) ps ++ Atom atom ∷ []) us
      → AreBelow env (map sem es ++ Atom atom ∷ []) us
  below-rest [] [] atom (u ∷ []) f g = ((λ x i. g.0 x i.0 i.1), tt)
  below-rest (e ∷ es) (p ∷ ps) atom (u ∷ us) f g = ((λ x i. g.0 x i.0 (f.0 x i.0 i.1)), below-rest es ps atom us f.1 g.1)
  below-rest [] [] atom [] f g = absurd g
  below-rest [] [] atom (u ∷ v ∷ us) f g = absurd g.1
  below-rest [] (p ∷ ps) atom us f g = absurd f
  below-rest (e ∷ es) [] atom us f g = absurd f
  below-rest (e ∷ es) (p ∷ ps) atom [] f g = absurd g

  -- ---- the operations

  module _ (place : Surroundings) (f : Signature) (u : UnitSignature) (unit : IsUnitOf env f u) (args : List TypedExpr) (fit : ArgumentsFit env f 0 args) (t : SemType)
      (op : ℕ → Operation) (row : (n : ℕ) (operands : Stack) → length operands ≡ n → AreBelow env operands u.params → OpTyped env place (op n) operands (Some t)) where
    abbrev lists : Option Ty → Option ℕ
    lists rest = option_map (λ r. f.lists) rest

    abbrev Leads : Option Ty → Type 0
    Leads rest =
        LeadsTo env place (rest_operations (length args) (length f.params) (lists rest) (op (passed_count (length args) (length f.params) (lists rest)) ∷ [])) (map sem args) t

    one-op : (n : ℕ) (operands : Stack) → OpTyped env place (op n) operands (Some t) → LeadsTo env place (op n ∷ []) operands t
    one-op n operands row = let pieces : MadeIsTyped env place t = made-is-typed env place t in pieces.one_row (op n) operands t row

    params-by : (rest : Option Ty) → f.rest ≡ rest → AllZip (Sub env) (parameter_types env (record f { rest = rest })) u.params
    params-by rest is = subst (λ r. AllZip (Sub env) (parameter_types env (record f { rest = r })) u.params) is unit.params

    without-rest : f.rest ≡ None → length args ≡ length f.params → Leads None
    without-rest is many =
        let s = split-arguments f [] f.params args refl fit (omega (arith, many)) in
        let short : length args ≡ length s.firsts + length s.others = ap length s.is ∙ length-append s.firsts s.others in
        let none : s.others ≡ [] = none-left s.others (let m = s.many in omega (arith, many, short, m)) in
        let all : args ≡ s.firsts = s.is ∙ ap (λ l. s.firsts ++ l) none ∙ append-nil s.firsts in
        let params : AllZip (Sub env) (map (λ t. t.sem) f.params) u.params = subst (λ l. AllZip (Sub env) l u.params) (append-nil (map (λ t. t.sem) f.params)) (params-by None is) in
        one-op (length args) (map sem args) (row (length args) (map sem args) (length-map args sem)
        (below-through args f.params u.params (subst (λ l. AllZip Under l f.params) (sym all) s.fit) params))
      where
        none-left : (es : List TypedExpr) → length es ≡ 0 → es ≡ []
        none-left [] e = refl
        none-left (x ∷ es) e = absurd (omega (arith, e))

    -- the list of the rest, over what is below it
    rest-row : (r : Ty) → f.rest ≡ Some r → (others : List TypedExpr) (n : ℕ) → length others ≡ n → ArgumentsFit env f (length f.params) others
        → OpTyped env place (MakeList f.lists false n) (map sem others) (Some (Atom f.lists))
    rest-row r is others n many behind =
        let (fixed, rest, there, (none, some)) = list-of env f.lists _ (lists-by (Some r) is) in (
          length-map others sem ∙ many,
          as-list env f.lists fixed rest _ there (subst (λ l. (length l ≤ n) × ItemsFit env (map sem others) 0 l rest) (sym none) (omega arith, by rest some)),
          all-stand (map sem others),
          (λ x valid i. i.0),
        )
      where
        lists-by : (rest : Option Ty) → f.rest ≡ rest → AreRestLists env rest f.lists
        lists-by rest is = subst (λ o. AreRestLists env o f.lists) is unit.lists

        by : (rest : Option Ty) → IsSomeAnd rest (λ v. Sub env r.sem v.sem) → ItemsFit env (map sem others) 0 [] rest
        by (Some v) within = rest-items f r v others (length f.params) 0 is within (omega arith) behind
        by None h = absurd h

        all-stand : (ss : List SemType) → All (MayStandIn env false) ss
        all-stand [] = All-nil _
        all-stand (s ∷ ss) = All-cons (MayStandIn env false) s ss (λ bad. absurd (let q : ⊥ = cc in q)) (all-stand ss)

    with-rest : (r : Ty) → f.rest ≡ Some r → length f.params ≤ length args → Leads (Some r)
    with-rest r is le below =
        let s = split-arguments f [] f.params args refl fit le in
        let n : ℕ = length args - length f.params in
        let short : length args ≡ length s.firsts + length s.others = ap length s.is ∙ length-append s.firsts s.others in
        let many : length s.others ≡ n = (let m = s.many in omega (arith, short, m)) in
        let firsts : Stack = map sem s.firsts in
        let parts : below ++ map sem args ≡ (below ++ firsts) ++ map sem s.others =
        ap (λ l. below ++ map sem l) s.is ∙ ap (λ l. below ++ l) (map-append sem s.firsts s.others) ∙ sym (append_assoc below firsts (map sem s.others)) in
        let made = does-row env place (MakeList f.lists false n) (below ++ firsts) (map sem s.others) (Atom f.lists) (rest-row r is s.others n many s.behind) in
        let operands : Stack = firsts ++ Atom f.lists ∷ [] in
        let all : length operands ≡ suc (length f.params) = (let l = length-append firsts (Atom f.lists ∷ []) in let k = length-map s.firsts sem in let m = s.many in omega (arith, l, k, m)) in
        let called = one-op (suc (length f.params)) operands (row (suc (length f.params)) operands all (below-rest s.firsts f.params f.lists u.params s.fit (params-by (Some r) is))) below in (
          (below ++ firsts) ++ Atom f.lists ∷ [],
          subst (λ p. DoesTypes env place (MakeList f.lists false n) p ((below ++ firsts) ++ Atom f.lists ∷ [])) (sym parts) made,
          subst (λ p. OpsOver (type_ways env place) (op (suc (length f.params)) ∷ []) p (below ++ t ∷ [])) (sym (append_assoc below firsts (Atom f.lists ∷ []))) called,
        )

    pub leads : function_takes f (length args) ≡ true → Leads f.rest
    leads takes = by f.rest refl (and_parts (nat_le (length f.params) (length args)) _ takes)
      where
        by : (rest : Option Ty) → f.rest ≡ rest → (nat_le (length f.params) (length args) ≡ true) × ((is_some f.rest || nat_le (length args) (length f.params)) ≡ true) → Leads rest
        by (Some r) is (le, more) = with-rest r is (leb-true (length f.params) (length args) le)
        by None is (le, more) =
            let first = leb-true (length f.params) (length args) le in
            let last : nat_le (length args) (length f.params) ≡ true = subst (λ (o : Option Ty). (is_some o || nat_le (length args) (length f.params)) ≡ true) is more in
            let second = leb-true (length args) (length f.params) last in
            without-rest is (omega (arith, first, second))

-- ---- what is asked of arguments

module _ (passes : List AtomDef → Asked → TypeLimit → Type 0) where
  copy-wanted : (ts : List Ty) (old new : State) → wants_copy ts old (Gives tt) new → (w : Shared) × (new ≡ record old { wants = old.wants ++ Some w ∷ [] }) × WantsParameter ts w
  unfolding ◌▷◌ gives_some
  copy-wanted [] old new (bad, same) = absurd bad
  copy-wanted (t ∷ ts) old new (u, mid, (copy, same), put) =
      let (x, alike, is) = want-put (Some u) tt mid new put in
      let (v, has, value) = same-some (Some u) x u alike refl in (
        v,
        is ∙ ap (λ (s : State). record s { wants = s.wants ++ x ∷ [] }) same ∙ ap (λ (o : Option Shared). record old { wants = old.wants ++ o ∷ [] }) has,
        subst (λ (y : Ty). IsSameType t.sem y.sem) (sym value) copy.sem,
      )

  pub expected-opened : (at : Place) (old new : State) → expects_argument passes at old (Gives tt) new → (c : CallAtWork) × IsLast old.calls c × expects_by passes c.callee c.args at old (Gives tt) new
  unfolding ◌▷◌ gives_some
  expected-opened at old new (c, mid, (last, same), met) = (c, last, subst (λ (s : State). expects_by passes c.callee c.args at s (Gives tt) new) same met)

  -- an argument, step by step
  pub record ArgumentOpened (at : Place) (old new : State) : Type 0 where
    pub c : CallAtWork
    pub w : Option Shared
    pub e : TypedExpr
    pub below : State
    pub last_call : IsLast old.calls c
    pub last_want : IsLast old.wants w
    pub last_part : IsLast old.found e
    pub is_below : below_if passes w e at old (Gives tt) below
    pub all : new ≡ record old { calls = replaced old.calls (one_more c); wants = all_but 1 old.wants }

  pub argument-opened : (at : Place) (old new : State) → is_argument passes at old (Gives tt) new → ArgumentOpened at old new
  unfolding ◌▷◌ gives_some does
  argument-opened at old new (c, s1, (l1, e1), (w, s2, (l2, e2), (e, s3, (l3, e3), (u, s4, below, (v, s5, e5, e6))))) =
      let two : s2 ≡ old = e2 ∙ e1 in
      let three : s3 ≡ old = e3 ∙ two in
      let four : s4 ≡ old = below-if-leaves passes w e at s3 s4 u below ∙ three in
      record {
        c = c;
        w = w;
        e = e;
        below = s4;
        last_call = l1;
        last_want = subst (λ (s : State). IsLast s.wants w) e1 l2;
        last_part = subst (λ (s : State). IsLast s.found e) two l3;
        is_below = subst (λ (s : State). below_if passes w e at s (Gives tt) s4) three below;
        all = e6 ∙ ap (λ (s : State). record s { calls = replaced s.calls (one_more c) }) (e5 ∙ ap (λ (s : State). record s { wants = all_but 1 s.wants }) four);
      }

  pub call-closed : (c : CallAtWork) (old new : State) → closes_call old (Gives c) new → IsLast old.calls c × (new.found ≡ old.found) × (new.atoms ≡ old.atoms)
  unfolding ◌▷◌ gives_some does
  call-closed c old new (d, s, (last, first), (u, t, second, (same, third))) =
      let all : new ≡ record s { calls = all_but 1 s.calls } = third ∙ second in (
        subst (λ (x : CallAtWork). IsLast old.calls x) (sym same) last,
        ap (λ (x : State). x.found) all ∙ ap (λ (x : State). x.found) first,
        ap (λ (x : State). x.atoms) all ∙ ap (λ (x : State). x.atoms) first,
      )

  called-opened : (at : Place) (old new : State) → makes_call passes at old (Gives tt) new
      → (c : CallAtWork) × (mid : State) × IsLast old.calls c × (mid.found ≡ old.found) × makes_call_of passes c.callee c.args at mid (Gives tt) new
  unfolding ◌▷◌
  called-opened at old new (c, mid, closed, met) = let (last, found, atoms) = call-closed c old mid closed in (c, mid, last, found, met)

  started-opened : (here at : Place) (old new : State) → starts passes here at old (Gives tt) new
      → (c : CallAtWork) × (mid : State) × IsLast old.calls c × (mid.found ≡ old.found) × starts_of passes c.callee c.args here at mid (Gives tt) new
  unfolding ◌▷◌
  started-opened here at old new (c, mid, closed, met) = let (last, found, atoms) = call-closed c old mid closed in (c, mid, last, found, met)

  module _ (names : Names) (env : List AtomDef) (place : Surroundings) where
    expected : ArgumentIsExpected passes names env place
    expected f at old new c met last is =
        let (d, l, asked) = expected-opened at old new met in
        let one : d ≡ c = last-same old.calls d c l last in
        let asked' : expects_by passes c.callee c.args at old (Gives tt) new = subst (λ (x : CallAtWork). expects_by passes x.callee x.args at old (Gives tt) new) one asked in
        copy-wanted (parameter_of f c.args) old new (subst (λ (k : Called). expects_by passes k c.args at old (Gives tt) new) is asked')

    fits-parameter : (ts : List Ty) (e : TypedExpr) (w : Shared) (at : Place) (old below : State) → IsBefore env old → IsLast old.found e → IsLast old.wants (Some w) → WantsParameter ts w
        → below_if passes (Some w) e at old (Gives tt) below → ArgumentFits env ts e
    fits-parameter [] e w at old below before last want wanted met = absurd wanted
    fits-parameter (t ∷ ts) e w at old below before last want wanted met =
        let there : IfShared (TyBelow (length old.atoms)) (Some w) = last-has (IfShared (TyBelow (length old.atoms))) old.wants (Some w) want before.stands.wants in
        let under : Sub env (sem e) (sem_of w) =
        sub-later env old.atoms (sem e) (sem_of w) before.keeps (last-defined env old e before last) there.0 (below-if-so passes w e at tt old below met) in
        λ x valid i. (In-same env x t.sem (sem_of w) wanted).1 (under x valid i)

    taken : ArgumentIsTaken passes names env place
    taken f at old new c e w before met lc le lw wanted =
        let o = argument-opened at old new met in
        let ec : o.c ≡ c = last-same old.calls o.c c o.last_call lc in
        let ee : o.e ≡ e = last-same old.found o.e e o.last_part le in
        let ew : o.w ≡ Some w = last-same old.wants o.w (Some w) o.last_want lw in
        let met' : below_if passes (Some w) e at old (Gives tt) o.below =
        subst (λ (p : TypedExpr). below_if passes (Some w) p at old (Gives tt) o.below) ee (subst (λ (v : Option Shared). below_if passes v o.e at old (Gives tt) o.below) ew o.is_below) in (
          subst (λ (x : CallAtWork). new ≡ record old { calls = replaced old.calls (one_more x); wants = all_but 1 old.wants }) ec o.all,
          fits-parameter (parameter_of f c.args) e w at old o.below before le lw wanted met',
        )

    -- ---- calls and starts

    at-unit : (f : Signature) → IsSomeAnd (slice_get place.units f.unit) (IsUnitOf env f) → (u : UnitSignature) × (slice_get place.units f.unit ≡ Some u) × IsUnitOf env f u
    at-unit f h = by (slice_get place.units f.unit) refl h
      where
        by : (o : Option UnitSignature) → slice_get place.units f.unit ≡ o → IsSomeAnd o (IsUnitOf env f) → (u : UnitSignature) × (slice_get place.units f.unit ≡ Some u) × IsUnitOf env f u
        by (Some u) is h = (u, is, h)
        by None is h = absurd h

    call-row : (f : Signature) (u : UnitSignature) (t : SemType) → slice_get place.units f.unit ≡ Some u → IsUnitOf env f u → Sub env f.result.sem t
        → (n : ℕ) (operands : Stack) → length operands ≡ n → AreBelow env operands u.params → OpTyped env place (Call f.unit n) operands (Some t)
    call-row f u t is unit under n operands many below =
        (many, subst (λ o. IsSomeAnd o (λ v. AreBelow env operands v.params × ResultHas env (Some t) (λ x. In env x v.result))) (sym is) (below, (λ x valid i. under x valid (unit.result x valid i))))

    start-row : (f : Signature) (u : UnitSignature) (t : SemType) → slice_get place.units f.unit ≡ Some u → IsUnitOf env f u → ((x : Shape) → In env x (Atom f.future) → In env x t)
        → (n : ℕ) (operands : Stack) → length operands ≡ n → AreBelow env operands u.params → OpTyped env place (Start f.unit n) operands (Some t)
    start-row f u t is unit under n operands many below = (
      many,
      subst (λ o. IsSomeAnd o (λ v. AreBelow env operands v.params × ResultHas env (Some t) (λ x. In env x (Atom v.future)))) (sym is)
          (below, (λ x valid i. under x (subst (λ k. In env x (Atom k)) unit.future i))),
    )

    called : (at : Place) → FunctionIsTyped passes names env place (MakesCall at)
    called at f old new c args after met last is many takes lasts typed fit there =
        let (d, mid, l, found, made-of) = called-opened at old new met in
        let one : d ≡ c = last-same old.calls d c l last in
        let made-of' : makes_call_of passes (OfFunction f) c.args at mid (Gives tt) new =
        subst (λ (k : Called). makes_call_of passes k c.args at mid (Gives tt) new) is (subst (λ (x : CallAtWork). makes_call_of passes x.callee x.args at mid (Gives tt) new) one made-of) in
        let (u, unit-is, unit) = at-unit f there in
        as-before env passes names place c.args old mid new found
        (strict-typed env passes names place (form.Call (callee_unit f)) c.args args (λ env. IsCopy f.result) at mid new after (subst (λ xs. AreLast xs c.args args) (sym found) lasts) typed
        (made c.args _ tt mid new made-of')
        (λ t copy defined keeps. leads env place f u unit args fit (sem_of t) (λ n. Call f.unit n)
        (call-row f u (sem_of t) unit-is unit (λ x valid i. (In-same env x f.result.sem (sem_of t) copy.sem).0 i)) takes))

    started : (here at : Place) → FunctionIsTyped passes names env place (Starts here at)
    started here at f old new c args after met last is many takes lasts typed fit there =
        let (d, mid, l, found, made-of) = started-opened here at old new met in
        let one : d ≡ c = last-same old.calls d c l last in
        let made-of' : starts_of passes (OfFunction f) c.args here at mid (Gives tt) new =
        subst (λ (k : Called). starts_of passes k c.args here at mid (Gives tt) new) is (subst (λ (x : CallAtWork). starts_of passes x.callee x.args here at mid (Gives tt) new) one made-of) in
        let (u, unit-is, unit) = at-unit f there in
        as-before env passes names place c.args old mid new found
        (strict-typed env passes names place (form.Start (callee_unit f)) c.args args (λ env t. t ≡ plain (Atom f.future)) at mid new after (subst (λ xs. AreLast xs c.args args) (sym found) lasts) typed
        (made c.args _ tt mid new made-of')
        (λ t same defined keeps. leads env place f u unit args fit (sem_of t) (λ n. Start f.unit n)
        (start-row f u (sem_of t) unit-is unit (λ x i. subst (λ (y : Ty). In env x y.sem) (sym same) i)) takes))

    pub function-calls-are-typed : FunctionCallsAreTyped passes names env place
    function-calls-are-typed = record { expected = expected; taken = taken; called = called; started = started }
