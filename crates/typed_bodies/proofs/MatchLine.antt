-- Matches as a whole.
use Rattle.std.proofs.Common.{All, Bool, List, [], ap, arith, inr, subst, sym, ◌++◌, ◌∙◌, ◌∷◌, ◌≡◌}
use Rattle.std.proofs.lemmas.List.Elements.{All-append, All-cons, All-nil}
use Rattle.bal_base.specs.declared.place.Place.{Place}
use Rattle.calm_needs.proofs.Calming.{on-beside}
use Rattle.check_laws.specs.StmtLaws.{HasUnit}
use Rattle.check_words.proofs.Standing.{front-have}
use Rattle.check_words.specs.State.{IsLast, MatchAtWork, State}
use Rattle.check_words.specs.StmtViews.{IsMatch}
use Rattle.descriptors.specs.declared.names.Names.{Names}
use Rattle.expr_needs.specs.ExprTable.{Reading, freely}
use Rattle.expr_needs.specs.Needs.{BeginsMatch, MakesMatch, Need}
use Rattle.expr_needs.specs.declared.expected.Expected.TheVariants as expected
use Rattle.needs.specs.Needs.{in_turn}
use Rattle.operations.specs.Kinds.{IsBoolean}
use Rattle.operations.specs.Rows.{Surroundings}
use Rattle.stmt_needs.specs.StmtTable.{StmtReading}
use Rattle.tree_promises.specs.Laws.{MadeStatementsAreTyped}
use Rattle.tree_promises.specs.Types.{IsTypedExpr}
use Rattle.type_model.specs.Calls.{Asked}
use Rattle.type_model.specs.Inclusion.{HasExactly}
use Rattle.type_model.specs.declared.answers.TypeLimit.{TypeLimit}
use Rattle.type_model.specs.declared.atoms.AtomDef.{AtomDef}
use Rattle.type_model.specs.declared.basic.SemType.{SemType}
use Rattle.typed_bodies.proofs.Clauses.{AddsClauses, adds-all, adds-none, back-clauses}
use Rattle.typed_bodies.proofs.Matches.{MatchBegun, MatchMade, match-begins-so, match-made}
use Rattle.typed_bodies.proofs.Puts.{done}
use Rattle.typed_bodies.proofs.StmtUnits.{HasUnits, matched-units}
use Rattle.typed_bodies.proofs.Trails.{BlockAt, MatchAt, OnWay, back, back-put, in-on, in-run, in-units}
use Rattle.typed_bodies.proofs.Values.{Knows, nothing-ready}
use Rattle.typed_bodies.specs.Claims.{AllClausesKnown, AreDoneClauses, ComesToClauses, ComesToStmt, HasMoreClauses, IsDone, MatchIsKept, StaysIn, StmtClaim}
use Rattle.typed_bodies.specs.Units.{units_of_clauses}
use Rattle.typed_exprs.proofs.Steps.{Step, keeps, parted, stored-here}
use Rattle.typed_exprs.specs.Lines.{Left, Run}
use Rattle.typed_needs.proofs.Placed.{last-same}
use Rattle.typed_needs.specs.Between.{IsKept, IsTypedUnit, IsUnitAt, units_in}
use Rattle.typed_needs.specs.Placing.{IsPlaced}
use Rattle.typed_needs.specs.TypedRuns.{ComesToTyped}
use Rattle.typed_stmts.proofs.Keeping.{stored-beside}
use Rattle.typed_stmts.proofs.Matching.{match-opened, match-typed}
use Rattle.typed_stmts.proofs.Words.{put-before, put-weaker}
use Rattle.typed_stmts.specs.Adding.{AddsStmt}
use Rattle.typed_tree.specs.Listed.{Listed, nothing, one, ◌&◌}
use Rattle.typed_tree.specs.declared.expr.TypedExpr.{TypedExpr}
use Rattle.typed_tree.specs.declared.stmt.TypedStmt.{TypedStmt}

module _ (made : MadeStatementsAreTyped) (passes : List AtomDef → Asked → TypeLimit → Type 0) (names : Names) (env : List AtomDef) (place : Surroundings)
    (Can : State → Type 0) (can : (s t : State) → StaysIn s t → Can s → Can t) where
  match-put : (any : Bool) (at : Place) (m new : State) (e : TypedExpr) (x : MatchAtWork) → Step passes names env (MakesMatch any at) m new → IsLast m.found e → IsLast m.matches x
      → IsPlaced place new → AddsStmt (HasUnits (units_in (e ∷ []) ++ units_of_clauses x.clauses)) [] m new
  match-put any at m new e x s last match placed =
      let o = match-opened passes place any at m new s.0 placed in
      let P : TypedStmt → Type 0 = IsMatch o.own o.subject o.done.clauses at in
      let ee : o.subject ≡ e = last-same m.found o.subject e o.last_part last in
      let em : o.done ≡ x = last-same m.matches o.done x o.last_match match in
      put-weaker P (HasUnits (units_in (e ∷ []) ++ units_of_clauses x.clauses)) [] m new
      (λ t v. matched-units o.own o.subject o.done.clauses at t v ∙ ap (λ (y : TypedExpr). units_in (y ∷ []) ++ units_of_clauses o.done.clauses) ee
      ∙ ap (λ (y : MatchAtWork). units_in (e ∷ []) ++ units_of_clauses y.clauses) em) o.put

  -- what stands where; `k`: behind the value, `l`: behind the begin of the match, `m`: behind its clauses
  record MatchRun (e : Reading) (needs : Listed Need) (any : Bool) (at : Place) (old new : State) : Type 0 where
    pub k : State
    pub l : State
    pub m : State
    pub value : Run passes names env (freely e) old k
    pub begins : Step passes names env (BeginsMatch e.name e.at) k l
    pub run : Run passes names env needs l m
    pub step : Step passes names env (MakesMatch any at) m new
    pub unit : HasUnit old
    pub left : Left old k
    pub begun : MatchBegun k l
    pub unit_l : HasUnit l
    pub in_l : StaysIn old l
    pub there : l.matches ≡ k.matches ++ begun.begun ∷ []
    pub has : HasMoreClauses k.matches begun.begun l m
    pub made_so : MatchMade has.now m new

  match-run : (inside : Bool) (e : Reading) (needs : Listed Need) (any : Bool) (at : Place) → Knows passes names env place Can e
      → AddsClauses made passes names env place Can can inside needs → (old new : State) → HasUnit old
      → Run passes names env ((freely e & one (BeginsMatch e.name e.at)) & needs & one (MakesMatch any at)) old new → MatchRun e needs any at old new
  match-run inside e needs any at ke adds old new unit run =
      let (l, r1, r2) = parted passes names env (freely e & one (BeginsMatch e.name e.at)) (needs & one (MakesMatch any at)) old new run in
      let (k, re, sb) = parted passes names env (freely e) (one (BeginsMatch e.name e.at)) old l r1 in
      let (m, rc, s) = parted passes names env needs (one (MakesMatch any at)) l new r2 in
      let left = ke.leaves expected.Nothing old k (nothing-ready old unit) re in
      let b = match-begins-so e.name e.at k l sb.0 in
      let in-k = in-run old k left.path.goes left.more.same in
      let in-l = in-on old k l in-k (in-units k l (on-beside k l (ap (λ (s : State). s.atoms) b.all) (ap (λ (s : State). s.units) b.all)) (ap (λ (s : State). s.site) b.all)) in
      let unit-l : HasUnit l = (let u = unit in let q = in-l.many in omega (arith, u, q)) in
      let there : l.matches ≡ k.matches ++ b.begun ∷ [] = ap (λ (s : State). s.matches) b.all in
      let has = adds.more k.matches b.begun l m unit-l there rc in
      record {
        k = k;
        l = l;
        m = m;
        value = re;
        begins = sb;
        run = rc;
        step = s;
        unit = unit;
        left = left;
        begun = b;
        unit_l = unit-l;
        in_l = in-l;
        there = there;
        has = has;
        made_so = match-made passes any at has.now m new s.0 (record { kept = k.matches; is = has.matches });
      }

  module _ (e : Reading) (needs : Listed Need) (any : Bool) (at : Place) (old new : State) (r : MatchRun e needs any at old new) where
    abbrev part : TypedExpr
    part = r.left.more.part

    found-m : r.m.found ≡ old.found ++ part ∷ []
    found-m = r.has.found ∙ ap (λ (s : State). s.found) r.begun.all ∙ r.left.more.found

    last-part : IsLast r.m.found part
    last-part = record { kept = old.found; is = found-m }

    last-match-m : IsLast r.m.matches r.has.now
    last-match-m = record { kept = r.k.matches; is = r.has.matches }

    blocks-m : r.m.blocks ≡ old.blocks
    blocks-m = r.has.blocks ∙ ap (λ (s : State). s.blocks) r.begun.all ∙ r.left.more.blocks

    way-m : new.found ≡ old.found → new.matches ≡ old.matches → OnWay env place new → OnWay env place r.m
    way-m found matches way =
        let put = match-put any at r.m new part r.has.now r.step last-part last-match-m way.parts.placed in
        back-put env place (part ∷ []) (units_of_clauses r.has.now.clauses) [] r.m new put (in-units r.m new r.made_so.moved.on r.made_so.moved.site)
        (found-m ∙ ap (λ xs. xs ++ part ∷ []) (sym found)) (λ h. All-nil (BlockAt env place))
        (λ h all. subst (All (MatchAt env place)) (sym r.has.matches)
        (All-append (MatchAt env place) r.k.matches (r.has.now ∷ []) (subst (All (MatchAt env place)) (matches ∙ sym r.left.more.same.matches) all)
        (All-cons (MatchAt env place) r.has.now [] h (All-nil (MatchAt env place))))) way

    way-k : OnWay env place r.m → OnWay env place r.k
    way-k way =
        let way-l = back-clauses env place r.k.matches r.begun.begun r.l r.m r.has r.there way in
        back env place r.k r.l
        (in-units r.k r.l (on-beside r.k r.l (ap (λ (s : State). s.atoms) r.begun.all) (ap (λ (s : State). s.units) r.begun.all)) (ap (λ (s : State). s.site) r.begun.all))
        (λ p h. subst (λ (xs : List TypedExpr). All (IsUnitAt p) (units_in xs)) (ap (λ (s : State). s.found) r.begun.all) h)
        (λ h. subst (All (BlockAt env place)) (ap (λ (s : State). s.blocks) r.begun.all) h)
        (λ h. front-have (MatchAt env place) r.k.matches (r.begun.begun ∷ []) (subst (All (MatchAt env place)) r.there h)) way-l

    none-done : (inside : Bool) → AreDoneClauses env place inside r.begun.begun.clauses
    none-done inside =
        subst (λ cs. AreDoneClauses env place inside cs) (sym r.begun.clauses) (record { typed = tt; units = All-nil (IsTypedUnit env place) })

    match-done : (inside : Bool) (truth : SemType) → HasExactly env truth IsBoolean → (x : ComesToTyped env place old r.k) → ComesToClauses env place inside r.k.matches r.m
        → OnWay env place new → ComesToStmt env place inside old new
    match-done inside truth booleans x y way =
        let ex : x.part ≡ part = last-same r.k.found x.part part (record { kept = old.found; is = x.found }) (record { kept = old.found; is = r.left.more.found }) in
        let en : y.now ≡ r.has.now = last-same r.m.matches y.now r.has.now (record { kept = r.k.matches; is = y.matches }) last-match-m in
        let d : AreDoneClauses env place inside r.has.now.clauses = subst (λ (z : MatchAtWork). AreDoneClauses env place inside z.clauses) en y.done in
        let known : MatchIsKept place r.has.now = subst (λ (z : MatchAtWork). MatchIsKept place z) en y.known in
        let put = match-put any at r.m new part r.has.now r.step last-part last-match-m way.parts.placed in
        let typed = match-typed passes made names env place inside any at r.m new part r.has.now truth booleans r.step.0 last-part
        (subst (λ (z : TypedExpr). IsTypedExpr env place z) ex x.typed) last-match-m d.typed way.parts.placed in
        record {
          adds = put-before (IsDone env place inside) [] old r.m new blocks-m
              (done env place inside (part ∷ []) (units_of_clauses r.has.now.clauses) [] r.m new typed put
              (subst (λ (z : TypedExpr). All (IsTypedUnit env place) (units_in (z ∷ []))) ex x.units) d.units);
          kept = keeps place new r.step.1 (r.made_so.stored place known);
        }

  match-comes : (inside : Bool) (e : Reading) (needs : Listed Need) (any : Bool) (at : Place) (truth : SemType) → HasExactly env truth IsBoolean → Knows passes names env place Can e
      → AddsClauses made passes names env place Can can inside needs → (old new : State) → MatchRun e needs any at old new → Can old → new.found ≡ old.found → new.matches ≡ old.matches
      → IsKept place old → OnWay env place new → ComesToStmt env place inside old new
  match-comes inside e needs any at truth booleans ke adds old new r can-old found matches kept way =
      let far-m = way-m e needs any at old new r found matches way in
      let far-k = way-k e needs any at old new r far-m in
      let x = ke.claim expected.Nothing old r.k can-old (nothing-ready old r.unit) r.value kept far-k.parts in
      let stored-k = stored-here place r.k x.kept in
      let stored-l = stored-beside place r.k r.l (ap (λ (s : State). s.units) r.begun.all) (inr (ap (λ (s : State). s.ways) r.begun.all)) stored-k in
      let kept-l = keeps place r.l r.begins.1 stored-l in
      let y = adds.claim r.k.matches r.begun.begun r.l r.m (can old r.l r.in_l can-old) r.unit_l r.there r.run kept-l (r.begun.known place stored-k.stored)
      (none-done e needs any at old new r inside) far-m in
      match-done e needs any at old new r inside truth booleans x y way

  pub matched : (truth : SemType) → HasExactly env truth IsBoolean → (e : Reading) (clauses : List StmtReading) (any : Bool) (at : Place) → Knows passes names env place Can e
      → AllClausesKnown passes names env place Can clauses
      → StmtClaim passes names env place Can (λ w. (freely e & one (BeginsMatch e.name e.at)) & in_turn (λ (c : StmtReading). c.needs w) clauses & one (MakesMatch any at))
  matched truth booleans e clauses any at ke known w old new can-old block more run kept way =
      let adds = adds-all made passes names env place Can can clauses known w nothing (adds-none made passes names env place Can can w.loop) in
      match-comes w.loop e (in_turn (λ (c : StmtReading). c.needs w) clauses) any at truth booleans ke adds old new
      (match-run w.loop e (in_turn (λ (c : StmtReading). c.needs w) clauses) any at ke adds old new block.unit run) can-old more.found more.same.matches kept way
