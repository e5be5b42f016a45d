-- Values of statements: what their runs come to, whatever is asked of them.
use Rattle.std.proofs.Common.{All, Bool, List, Some, [], ap, arith, length-append, subst, sym, ◌++◌, ◌∙◌, ◌∷◌, ◌≡◌}
use Rattle.std.proofs.lemmas.List.Elements.{All-nil}
use Rattle.std.specs.Prelude.{length, ◌≤◌}
use Rattle.check_laws.specs.Laws.{IsReady}
use Rattle.check_words.specs.State.{IsLast, State}
use Rattle.descriptors.specs.declared.names.Names.{Names}
use Rattle.expr_needs.specs.ExprTable.{Reading, against, as_wanted}
use Rattle.expr_needs.specs.Needs.{IsOf, IsWanted}
use Rattle.expr_needs.specs.Operators.{expectation}
use Rattle.expr_needs.specs.declared.expected.Expected.TheVariants as expected
use Rattle.expr_needs.specs.declared.kind.Kind.{Kind}
use Rattle.operations.specs.Rows.{Surroundings}
use Rattle.tree_promises.specs.Made.{sem}
use Rattle.type_model.specs.Calls.{Asked}
use Rattle.type_model.specs.Inclusion.{Sub}
use Rattle.type_model.specs.declared.answers.TypeLimit.{TypeLimit}
use Rattle.type_model.specs.declared.atoms.AtomDef.{AtomDef}
use Rattle.typed_bodies.proofs.Aside.{IsAside, aside-itself}
use Rattle.typed_bodies.proofs.Onward.{IsMoved}
use Rattle.typed_bodies.proofs.Puts.{PutsOf, done}
use Rattle.typed_bodies.proofs.Trails.{BlockAt, MatchAt, aside-keeps, back-aside, back-put, in-units}
use Rattle.typed_bodies.specs.Claims.{ComesToStmt, IsDone, IsOnTheWay, KnowsValue}
use Rattle.typed_exprs.proofs.Operands.{Operand, none-expected}
use Rattle.typed_exprs.proofs.Steps.{before, keeps, parted, stored-here}
use Rattle.typed_exprs.specs.Lines.{Left, Run}
use Rattle.typed_needs.proofs.Asking.{is-of-leaves, wanted-leaves}
use Rattle.typed_needs.proofs.Opened.{kind-is-asked, want-is-asked}
use Rattle.typed_needs.proofs.Placed.{last-same}
use Rattle.typed_needs.specs.Asked.{IsOfIt}
use Rattle.typed_needs.specs.Between.{IsKept, IsSoFar, IsStanding, IsTypedUnit, units_in}
use Rattle.calm_needs.specs.Calm.{IsStoredAt}
use Rattle.typed_stmts.proofs.Words.{put-before}
use Rattle.typed_stmts.specs.Adding.{AddsTyped}
use Rattle.typed_tree.specs.Listed.{one}
use Rattle.typed_tree.specs.SharedTypes.{Shared, sem_of}
use Rattle.typed_tree.specs.declared.expr.TypedExpr.{TypedExpr}

pub nothing-ready : (s : State) → 1 ≤ length s.units → IsReady expected.Nothing s
nothing-ready s unit = record { unit = unit; wants = tt }

-- what is wanted has been put
pub wanted-ready : (s : State) (t : Shared) → 1 ≤ length s.units → IsLast s.wants (Some t) → IsReady expected.Wanted s
wanted-ready s t unit last =
    record { unit = unit; wants = (let e = ap length last.is in let l = length-append last.kept (Some t ∷ []) in omega (arith, e, l)) }

module _ (passes : List AtomDef → Asked → TypeLimit → Type 0) (names : Names) (env : List AtomDef) (place : Surroundings) (Can : State → Type 0) where
  abbrev pub Knows : Reading → Type 0
  Knows = KnowsValue passes names env place Can

  abbrev pub Given : (TypedExpr → Type 0) → State → State → Type 0
  Given = Operand passes names env place

  pub kind-ready : (k : Kind) (s : State) → 1 ≤ length s.units → IsReady (expectation k) s
  kind-ready k s unit = record { unit = unit; wants = none-expected passes names env k (length s.wants) }

  -- ---- values of a kind

  pub kind-left : (k : Kind) (a : Reading) → Knows a → (old m : State) → 1 ≤ length old.units → Run passes names env (against k a) old m → Left old m
  kind-left k a knows old m unit run =
      let (n, ra, rs) = parted passes names env (a.needs (expectation k)) (one (IsOf k a.at)) old m run in
      subst (λ (s : State). Left old s) (sym (is-of-leaves passes k a.at n m tt rs.0)) (knows.leaves (expectation k) old n (kind-ready k old unit) ra)

  pub kind-given : (k : Kind) (a : Reading) → Knows a → (old m : State) → Can old → 1 ≤ length old.units → Run passes names env (against k a) old m → IsKept place old
      → IsSoFar env place m → Given (IsOfIt passes names env k) old m
  kind-given k a knows old m can unit run kept far =
      let (n, ra, rs) = parted passes names env (a.needs (expectation k)) (one (IsOf k a.at)) old m run in
      let same : m ≡ n = is-of-leaves passes k a.at n m tt rs.0 in
      let far' : IsSoFar env place n = subst (IsSoFar env place) same far in
      let c = knows.claim (expectation k) old n can (kind-ready k old unit) ra kept far' in
      let asked = kind-is-asked env passes names k a.at n m c.part (before env place n c.kept far') rs.0 (record { kept = old.found; is = c.found }) in
      subst (λ (s : State). Given (IsOfIt passes names env k) old s) (sym same)
      (record { part = c.part; found = c.found; typed = c.typed; units = c.units; kept = c.kept; holds = asked.0 })

  -- ---- values below what is wanted

  pub want-left : (a : Reading) → Knows a → (old m : State) → IsReady expected.Wanted old → Run passes names env (as_wanted a) old m → Left old m
  want-left a knows old m ready run =
      let (n, ra, rs) = parted passes names env (a.needs expected.Wanted) (one (IsWanted a.at)) old m run in
      subst (λ (s : State). Left old s) (sym (wanted-leaves passes a.at n m tt rs.0)) (knows.leaves expected.Wanted old n ready ra)

  pub want-given : (a : Reading) → Knows a → (t : Shared) (old m : State) → Can old → IsReady expected.Wanted old → Run passes names env (as_wanted a) old m → IsKept place old
      → IsLast old.wants (Some t) → IsSoFar env place m → Given (λ e. Sub env (sem e) (sem_of t)) old m
  want-given a knows t old m can ready run kept wanted far =
      let (n, ra, rs) = parted passes names env (a.needs expected.Wanted) (one (IsWanted a.at)) old m run in
      let same : m ≡ n = wanted-leaves passes a.at n m tt rs.0 in
      let far' : IsSoFar env place n = subst (IsSoFar env place) same far in
      let left = knows.leaves expected.Wanted old n ready ra in
      let c = knows.claim expected.Wanted old n can ready ra kept far' in
      let here : IsLast n.wants (Some t) = subst (λ ws. IsLast ws (Some t)) (sym left.more.same.wants) wanted in
      let asked = want-is-asked env passes names a.at n m t c.part (before env place n c.kept far') rs.0 here (record { kept = old.found; is = c.found }) in
      subst (λ (s : State). Given (λ e. Sub env (sem e) (sem_of t)) old s) (sym same)
      (record { part = c.part; found = c.found; typed = c.typed; units = c.units; kept = c.kept; holds = asked.0 })

  -- ---- a statement that is put behind one value

  -- `k`: behind the value; `m`: behind what is asked of it, or wanted, then
  pub value-put-behind : (inside : Bool) (P : TypedExpr → Type 0) (old k m new : State) (left : Left old k) → IsAside k m → (IsStanding k → IsStanding m) → new.found ≡ old.found
      → new.matches ≡ old.matches → IsMoved m new → (IsStoredAt place m → IsStoredAt place new) → IsStanding new → PutsOf (left.more.part ∷ []) m new
      → (IsSoFar env place k → Given P old k) → ((x : Given P old k) → m.found ≡ old.found ++ x.part ∷ [] → IsKept place m → IsSoFar env place m → AddsTyped env place inside [] m new)
      → IsOnTheWay env place new → ComesToStmt env place inside old new
  value-put-behind inside P old k m new left aside standing-m same matched moved stored standing put given typed way =
      let found : m.found ≡ old.found ++ left.more.part ∷ [] = aside.stays.found ∙ left.more.found in
      let found-new : m.found ≡ new.found ++ left.more.part ∷ [] = found ∙ ap (λ xs. xs ++ left.more.part ∷ []) (sym same) in
      let matches : new.matches ≡ m.matches = matched ∙ sym (aside.stays.matches ∙ left.more.same.matches) in
      let far-m = back-put env place (left.more.part ∷ []) [] [] m new put (in-units m new moved.on moved.site) found-new (λ h. All-nil (BlockAt env place))
      (λ h all. subst (All (MatchAt env place)) matches all) way in
      let far-k = back-aside env place k m aside.stays far-m in
      let x = given far-k.parts in
      let one : x.part ≡ left.more.part =
      last-same k.found x.part left.more.part (record { kept = old.found; is = x.found }) (record { kept = old.found; is = left.more.found }) in
      let units : All (IsTypedUnit env place) (units_in (left.more.part ∷ [])) = subst (λ (e : TypedExpr). All (IsTypedUnit env place) (units_in (e ∷ []))) one x.units in
      let kept-m = aside-keeps env place k m aside (standing-m x.kept.standing) x.kept in
      record {
        adds = put-before (IsDone env place inside) [] old m new (aside.stays.blocks ∙ left.more.blocks)
            (done env place inside (left.more.part ∷ []) [] [] m new (typed x (aside.stays.found ∙ x.found) kept-m far-m.parts) put units (All-nil (IsTypedUnit env place)));
        kept = keeps place new standing (stored (stored-here place m kept-m));
      }

  -- at once
  pub value-put : (inside : Bool) (P : TypedExpr → Type 0) (old m new : State) (left : Left old m) → new.found ≡ old.found → new.matches ≡ old.matches → IsMoved m new
      → (IsStoredAt place m → IsStoredAt place new) → IsStanding new → PutsOf (left.more.part ∷ []) m new → (IsSoFar env place m → Given P old m)
      → ((x : Given P old m) → AddsTyped env place inside [] m new) → IsOnTheWay env place new → ComesToStmt env place inside old new
  value-put inside P old m new left same matched moved stored standing put given typed way =
      value-put-behind inside P old m m new left (aside-itself m) (λ h. h) same matched moved stored standing put given (λ x found kept far. typed x) way
