-- Assignments to members, with an operator and without one.
use Rattle.std.proofs.Common.{All, Bool, IfSome, List, Option, Some, [], ap, append_assoc, arith, refl, subst, sym, ◌++◌, ◌∙◌, ◌∷◌, ◌≡◌}
use Rattle.std.proofs.lemmas.List.Elements.{All-append, All-nil}
use Rattle.bal_base.specs.declared.place.Place.{Place}
use Rattle.calm_needs.proofs.PlacedParts.{units-append}
use Rattle.check_laws.specs.StmtLaws.{HasUnit}
use Rattle.check_words.specs.State.{AreLast, IsLast, State}
use Rattle.descriptors.specs.declared.names.Names.{Names}
use Rattle.expr_needs.specs.ExprTable.{Reading, as_wanted}
use Rattle.expr_needs.specs.Needs.{ExpectsStored, Need, Stores}
use Rattle.operations.specs.Rows.{Surroundings}
use Rattle.tree_promises.specs.Laws.{MadeStatementsAreTyped}
use Rattle.tree_promises.specs.Made.{AreTypedExprs, sem}
use Rattle.tree_promises.specs.Types.{IsTypedExpr}
use Rattle.type_model.specs.Calls.{Asked}
use Rattle.type_model.specs.Inclusion.{Sub}
use Rattle.type_model.specs.declared.answers.TypeLimit.{TypeLimit}
use Rattle.type_model.specs.declared.atoms.AtomDef.{AtomDef}
use Rattle.typed_bodies.proofs.Aside.{IsAside, aside-expects}
use Rattle.typed_bodies.proofs.Onward.{IsMoved, onward-stores}
use Rattle.typed_bodies.proofs.Puts.{PutsOf, done, stores-put}
use Rattle.typed_bodies.proofs.Targets.{KnowsTarget, Target, TargetIs}
use Rattle.typed_bodies.proofs.Trails.{BlockAt, MatchAt, OnWay, aside-keeps, back-aside, back-put, back-value, in-on, in-stays, in-units}
use Rattle.typed_bodies.proofs.Values.{Given, Knows, want-given, want-left, wanted-ready}
use Rattle.typed_bodies.specs.Claims.{ComesToStmt, IsDone, StaysIn, StmtClaim}
use Rattle.typed_exprs.proofs.Steps.{Step, before, keeps, parted, stored-here}
use Rattle.typed_exprs.specs.Lines.{Left, Run}
use Rattle.typed_needs.proofs.Placed.{last-same}
use Rattle.typed_needs.specs.Between.{IsKept, IsStanding, IsTypedUnit, units_in}
use Rattle.calm_needs.specs.Calm.{IsStoredAt}
use Rattle.typed_stmts.proofs.Storing.{expected-opened, stored-expected, stores-are-typed}
use Rattle.typed_stmts.proofs.Words.{put-before}
use Rattle.typed_stmts.specs.Adding.{AddsTyped}
use Rattle.typed_stmts.specs.Stored.{AllMayStand, StoresAreTyped}
use Rattle.typed_tree.specs.Listed.{Listed, one, ◌&◌}
use Rattle.typed_tree.specs.SharedTypes.{Shared, sem_of}
use Rattle.typed_tree.specs.declared.expr.TypedExpr.{TypedExpr}

module _ (made : MadeStatementsAreTyped) (passes : List AtomDef → Asked → TypeLimit → Type 0) (names : Names) (env : List AtomDef) (place : Surroundings)
    (Can : State → Type 0) (can : (s t : State) → StaysIn s t → Can s → Can t) where
  abbrev pub KnowsIt : Listed Need → Type 0
  KnowsIt = KnowsTarget passes names env place Can can

  -- ---- a target, and what is expected to be stored there

  -- `n`: behind the target; something is wanted then
  pub record Expects (needs : Listed Need) (at : Place) (k : KnowsIt needs) (old p : State) : Type 0 where
    pub n : State
    pub unit : HasUnit old
    pub run : Run passes names env needs old n
    pub step : Step passes names env (ExpectsStored at) n p
    pub target : Target passes names env place Can can old n
    pub same : target ≡ k.target old n unit run
    pub aside : IsAside n p
    pub want : Shared
    pub all : p ≡ record n { wants = n.wants ++ Some want ∷ [] }

  pub expects : (needs : Listed Need) (at : Place) → (k : KnowsIt needs) → (old p : State) → HasUnit old → Run passes names env (needs & one (ExpectsStored at)) old p → Expects needs at k old p
  expects needs at k old p unit run =
      let (n, r, s) = parted passes names env needs (one (ExpectsStored at)) old p run in
      let o = expected-opened passes at n p s.0 in
      record { n = n; unit = unit; run = r; step = s; target = k.target old n unit r; same = refl; aside = aside-expects passes at n p tt s.0; want = o.want; all = o.all }

  pub record ExpectsIs (needs : Listed Need) (at : Place) (k : KnowsIt needs) (old p : State) (e : Expects needs at k old p) : Type 0 where
    pub is : TargetIs passes names env place Can can old e.n e.target
    pub kept : IsKept place p
    pub may : AllMayStand passes names env e.target.access e.target.container e.target.key (sem_of e.want)

  pub two-last : (needs : Listed Need) (at : Place) (k : KnowsIt needs) (old p : State) (e : Expects needs at k old p) → AreLast e.n.found 2 (e.target.container ∷ e.target.key ∷ [])
  two-last needs at k old p e = record { kept = old.found; is = e.target.found; many = refl }

  pub last-access-of : (needs : Listed Need) (at : Place) (k : KnowsIt needs) (old p : State) (e : Expects needs at k old p) → IsLast e.n.accesses e.target.access
  last-access-of needs at k old p e = record { kept = old.accesses; is = e.target.accesses }

  pub expects-in : (needs : Listed Need) (at : Place) (k : KnowsIt needs) (old p : State) → Expects needs at k old p → StaysIn old p
  expects-in needs at k old p e = in-on old e.n p e.target.stays (in-stays e.n p e.aside.stays)

  pub expects-is : (needs : Listed Need) (at : Place) (k : KnowsIt needs) (old p : State) (e : Expects needs at k old p) → Can old → IsKept place old → OnWay env place p
      → ExpectsIs needs at k old p e
  expects-is needs at k old p e c kept way =
      let way-n = back-aside env place e.n p e.aside.stays way in
      let x = k.claim old e.n e.unit e.run c kept way-n in
      let x' : TargetIs passes names env place Can can old e.n e.target = subst (λ t. TargetIs passes names env place Can can old e.n t) (sym e.same) x in
      let kept-p = aside-keeps env place e.n p e.aside e.step.1 x'.kept in
      let (w, all, may) = stored-expected passes names env at e.n p e.target.container e.target.key e.target.access (before env place e.n x'.kept way-n.parts)
      (before env place p kept-p way.parts) e.step.0 (two-last needs at k old p e) (last-access-of needs at k old p e) in
      let one-want : Some w ≡ Some e.want =
      last-same p.wants (Some w) (Some e.want) (record { kept = e.n.wants; is = ap (λ (s : State). s.wants) all }) (record { kept = e.n.wants; is = ap (λ (s : State). s.wants) e.all }) in
      record { is = x'; kept = kept-p; may = subst (λ (o : Option Shared). IfSome o (λ y. AllMayStand passes names env e.target.access e.target.container e.target.key (sem_of y))) one-want may }

  pub three-typed : (old n : State) (t : Target passes names env place Can can old n) (e : TypedExpr) → TargetIs passes names env place Can can old n t → IsTypedExpr env place e
      → AreTypedExprs env place (t.container ∷ t.key ∷ e ∷ [])
  three-typed old n t e is typed = (is.container_typed, (is.key_typed, (typed, tt)))

  three-units : (a b e : TypedExpr) → All (IsTypedUnit env place) (units_in (a ∷ b ∷ [])) → All (IsTypedUnit env place) (units_in (e ∷ [])) → All (IsTypedUnit env place) (units_in (a ∷ b ∷ e ∷ []))
  three-units a b e h k =
      subst (All (IsTypedUnit env place)) (sym (units-append (a ∷ b ∷ []) (e ∷ []))) (All-append (IsTypedUnit env place) (units_in (a ∷ b ∷ [])) (units_in (e ∷ [])) h k)

  -- ---- a statement that is put behind a target and a value

  -- `p`: behind the target and what is asked of it; `q`: behind the value
  module _ (needs : Listed Need) (at : Place) (k : KnowsIt needs) (inside : Bool) (old p0 p q new : State) (e : Expects needs at k old p0)
      (found-p : p.found ≡ e.n.found) (blocks-p : p.blocks ≡ e.n.blocks) (matches-p : p.matches ≡ e.n.matches) (left : Left p q) (found : new.found ≡ old.found)
      (matches : new.matches ≡ old.matches) (moved : IsMoved q new) where
    abbrev Parts : List TypedExpr
    Parts = e.target.container ∷ e.target.key ∷ left.more.part ∷ []

    found-q : q.found ≡ old.found ++ Parts
    found-q =
        left.more.found ∙ ap (λ xs. xs ++ left.more.part ∷ []) (found-p ∙ e.target.found)
        ∙ append_assoc old.found (e.target.container ∷ e.target.key ∷ []) (left.more.part ∷ [])

    pub lasts-q : AreLast q.found 3 Parts
    lasts-q = record { kept = old.found; is = found-q; many = refl }

    pub way-q : PutsOf Parts q new → OnWay env place new → OnWay env place q
    way-q put way =
        back-put env place Parts [] [] q new put (in-units q new moved.on moved.site) (found-q ∙ ap (λ xs. xs ++ Parts) (sym found)) (λ h. All-nil (BlockAt env place))
        (λ h all. subst (All (MatchAt env place)) (matches ∙ sym (left.more.same.matches ∙ matches-p ∙ e.target.matches)) all) way

    pub target-put : PutsOf Parts q new → (IsStoredAt place q → IsStoredAt place new) → IsStanding new → TargetIs passes names env place Can can old e.n e.target
        → (P : TypedExpr → Type 0) → (x : Given passes names env place Can P p q) → (x.part ≡ left.more.part → AddsTyped env place inside [] q new) → ComesToStmt env place inside old new
    target-put put stored standing is P x typed =
        let one : x.part ≡ left.more.part = last-same q.found x.part left.more.part (record { kept = p.found; is = x.found }) (record { kept = p.found; is = left.more.found }) in
        let units = three-units e.target.container e.target.key left.more.part is.units (subst (λ (y : TypedExpr). All (IsTypedUnit env place) (units_in (y ∷ []))) one x.units) in
        record {
          adds = put-before (IsDone env place inside) [] old q new (left.more.blocks ∙ blocks-p ∙ e.target.blocks)
              (done env place inside Parts [] [] q new (typed one) put units (All-nil (IsTypedUnit env place)));
          kept = keeps place new standing (stored (stored-here place q x.kept));
        }

  -- ---- `a[i] = e;` and `a.f = e;`

  pub stored : (needs : Listed Need) (there at : Place) (r : Reading) → KnowsIt needs → Knows passes names env place Can r
      → StmtClaim passes names env place Can (λ w. (needs & one (ExpectsStored there)) & as_wanted r & one (Stores at))
  stored needs there at r kt kr w old new c block more run kept way =
      let (p, rt, rest) = parted passes names env (needs & one (ExpectsStored there)) (as_wanted r & one (Stores at)) old new run in
      let (q, rv, s) = parted passes names env (as_wanted r) (one (Stores at)) p new rest in
      let e = expects needs there kt old p block.unit rt in
      let t = e.target in
      let in-p = expects-in needs there kt old p e in
      let unit : HasUnit p = (let u = block.unit in let m = in-p.many in omega (arith, u, m)) in
      let last-want : IsLast p.wants (Some e.want) = record { kept = e.n.wants; is = ap (λ (x : State). x.wants) e.all } in
      let ready = wanted-ready p e.want unit last-want in
      let left = want-left passes names env place Can r kr p q ready rv in
      let h = onward-stores at q new tt s.0 in
      let lasts = lasts-q needs there kt w.loop old p p q new e e.aside.stays.found e.aside.stays.blocks e.aside.stays.matches left more.found more.same.matches h.moved in
      let put = stores-put made passes names env place w.loop at q new (t.container ∷ t.key ∷ left.more.part ∷ []) s.0 lasts in
      let far-q = way-q needs there kt w.loop old p p q new e e.aside.stays.found e.aside.stays.blocks e.aside.stays.matches left more.found more.same.matches h.moved put way in
      let far-p = back-value env place p q left far-q in
      let is = expects-is needs there kt old p e c kept far-p in
      let x = want-given passes names env place Can r kr e.want p q (can old p in-p c) ready rv is.kept last-want far-q.parts in
      let access : IsLast q.accesses t.access =
      subst (λ xs. IsLast xs t.access) (sym (left.more.same.accesses ∙ ap (λ (y : State). y.accesses) e.all)) (last-access-of needs there kt old p e) in
      let st : StoresAreTyped passes names env place = stores-are-typed passes names env place made in
      target-put needs there kt w.loop old p p q new e e.aside.stays.found e.aside.stays.blocks e.aside.stays.matches left more.found more.same.matches h.moved put (h.stored place) s.1 is.is
      (λ y. Sub env (sem y) (sem_of e.want)) x
      (λ is-part. st.stores w.loop at q new t.container t.key left.more.part t.access s.0 access lasts
      (three-typed old e.n t left.more.part is.is (subst (λ (y : TypedExpr). IsTypedExpr env place y) is-part x.typed)) is.is.container_is is.is.key_is
      (λ y valid i. is.may y valid (subst (λ (z : TypedExpr). Sub env (sem z) (sem_of e.want)) is-part x.holds y valid i)))
