-- How what is known of the end goes back from state to state, and what is kept goes forth.
use Rattle.std.proofs.Common.{All, List, [], ap, arith, length, length-append, refl, subst, sym, ◌++◌, ◌∙◌, ◌∷◌, ◌≡◌}
use Rattle.std.proofs.lemmas.List.Elements.{All-append, All-cons, All-head, All-nil}
use Rattle.calm_needs.proofs.PlacedParts.{units-append}
use Rattle.check_laws.specs.Laws.{IsElseSame}
use Rattle.check_laws.specs.Positions.{OnUnits}
use Rattle.check_laws.specs.StmtLaws.{IsOneBlockMore, IsOneStmtMore}
use Rattle.check_words.proofs.Standing.{back-have, front-have}
use Rattle.check_words.specs.State.{BlockAtWork, MatchAtWork, State, UnitAtWork}
use Rattle.operations.specs.Rows.{Surroundings}
use Rattle.tree_promises.specs.Placed.{Placed}
use Rattle.type_model.specs.declared.atoms.AtomDef.{AtomDef}
use Rattle.typed_bodies.proofs.Aside.{IsAside, Stays}
use Rattle.typed_bodies.proofs.StmtUnits.{HasUnits, stmts-append}
use Rattle.typed_bodies.specs.Claims.{IsOnTheWay, StaysIn}
use Rattle.typed_bodies.specs.Units.{units_of_clauses, units_of_stmts}
use Rattle.typed_exprs.proofs.Steps.{fewer-first, keeps, so-far, stays-goes, stored-here}
use Rattle.typed_exprs.specs.Lines.{Left}
use Rattle.typed_needs.proofs.Going.{each-long, goes-on, goes-self}
use Rattle.typed_needs.proofs.OnTheWay.{places-are-kept}
use Rattle.typed_needs.specs.Between.{IsKept, IsStanding, IsUnitAt, units_in}
use Rattle.typed_needs.specs.Going.{GoesOn}
use Rattle.calm_needs.specs.Calm.{StaysOn}
use Rattle.typed_stmts.specs.Adding.{AddsStmt}
use Rattle.typed_tree.specs.declared.expr.TypedExpr.{TypedExpr}
use Rattle.typed_tree.specs.declared.stmt.TypedStmt.{TypedStmt}

-- ---- units that stay

pub as-many : (us vs : List UnitAtWork) → OnUnits us 0 vs → length vs ≡ length us
as-many us vs on =
    let a = ap length on.at_hand in let b = ap length on.on.is in let c = length-append on.kept (on.was ∷ []) in let d = length-append (on.kept ++ on.now ∷ []) on.on.more in
    let e = length-append on.kept (on.now ∷ []) in let f = on.on.many in omega (arith, a, b, c, d, e, f)

pub in-on : (r s t : State) → StaysIn r s → StaysIn s t → StaysIn r t
in-on r s t f g = record { goes = goes-on r s t f.goes g.goes; many = g.many ∙ f.many; site = g.site ∙ f.site }

pub in-same : (s : State) → StaysIn s s
in-same s = record { goes = goes-self s; many = refl; site = refl }

pub in-units : (s t : State) → StaysOn s t → t.site ≡ s.site → StaysIn s t
in-units s t on site = record { goes = stays-goes s t on; many = each-long s.units t.units on.each; site = site }

pub in-stays : (s t : State) → Stays s t → StaysIn s t
in-stays s t h = in-units s t h.on h.site

-- behind a whole run
pub in-run : (s t : State) → GoesOn s t → IsElseSame s t → StaysIn s t
in-run s t goes same = record { goes = goes; many = as-many s.units t.units same.units; site = same.site }

module _ (env : List AtomDef) (place : Surroundings) where
  abbrev pub BlockAt : BlockAtWork → Type 0
  BlockAt b = All (IsUnitAt place) (units_of_stmts b.stmts)

  abbrev pub MatchAt : MatchAtWork → Type 0
  MatchAt m = All (IsUnitAt place) (units_of_clauses m.clauses)

  abbrev pub OnWay : State → Type 0
  OnWay = IsOnTheWay env place

  -- ---- what is known from the end

  pub back : (s t : State) → StaysIn s t → ((p : Surroundings) → All (IsUnitAt p) (units_in t.found) → All (IsUnitAt p) (units_in s.found))
      → (All BlockAt t.blocks → All BlockAt s.blocks) → (All MatchAt t.matches → All MatchAt s.matches) → OnWay t → OnWay s
  back s t stays found blocks matches h =
      record {
        parts = so-far env place s t (record { goes = stays.goes; many = stays.many; units = found }) h.parts;
        blocks = blocks h.blocks;
        matches = matches h.matches;
      }

  same-found : (s t : State) → t.found ≡ s.found → (p : Surroundings) → All (IsUnitAt p) (units_in t.found) → All (IsUnitAt p) (units_in s.found)
  same-found s t is p h = subst (λ (xs : List TypedExpr). All (IsUnitAt p) (units_in xs)) is h

  same-blocks : (s t : State) → t.blocks ≡ s.blocks → All BlockAt t.blocks → All BlockAt s.blocks
  same-blocks s t is h = subst (All BlockAt) is h

  same-matches : (s t : State) → t.matches ≡ s.matches → All MatchAt t.matches → All MatchAt s.matches
  same-matches s t is h = subst (All MatchAt) is h

  -- where the parts, the blocks and the matches are the same
  pub back-same : (s t : State) → StaysIn s t → t.found ≡ s.found → t.blocks ≡ s.blocks → t.matches ≡ s.matches → OnWay t → OnWay s
  back-same s t stays found blocks matches h = back s t stays (same-found s t found) (same-blocks s t blocks) (same-matches s t matches) h

  pub back-aside : (s t : State) → Stays s t → OnWay t → OnWay s
  back-aside s t h way = back-same s t (in-stays s t h) h.found h.blocks h.matches way

  -- one part more
  pub back-value : (s t : State) → Left s t → OnWay t → OnWay s
  back-value s t left h =
      back s t (in-run s t left.path.goes left.more.same) left.path.units (same-blocks s t left.more.blocks) (same-matches s t left.more.same.matches) h

  -- one block more
  pub back-blocks : (s t : State) (b : BlockAtWork) → StaysIn s t → t.found ≡ s.found → t.blocks ≡ s.blocks ++ b ∷ [] → t.matches ≡ s.matches → OnWay t → OnWay s
  back-blocks s t b stays found blocks matches h =
      back s t stays (same-found s t found) (λ all. front-have BlockAt s.blocks (b ∷ []) (subst (All BlockAt) blocks all)) (same-matches s t matches) h

  pub back-block : (s t : State) → GoesOn s t → IsOneBlockMore s t → OnWay t → OnWay s
  back-block s t goes one h = back-blocks s t one.block (in-run s t goes one.same) one.found one.blocks one.same.matches h

  -- one statement more in the block at hand
  pub back-stmt : (s t : State) → GoesOn s t → IsOneStmtMore s t → OnWay t → OnWay s
  back-stmt s t goes one h =
      back s t (in-run s t goes one.same) (same-found s t one.found) (λ all. subst (All BlockAt) (sym one.was) (fewer one.around one.block one.stmt (subst (All BlockAt) one.now all)))
      (same-matches s t one.same.matches) h
    where
      fewer : (around : List BlockAtWork) (b : BlockAtWork) (x : TypedStmt) → All BlockAt (around ++ record b { stmts = b.stmts ++ x ∷ [] } ∷ []) → All BlockAt (around ++ b ∷ [])
      fewer around b x all =
          let last : BlockAt (record b { stmts = b.stmts ++ x ∷ [] }) = All-head BlockAt (record b { stmts = b.stmts ++ x ∷ [] }) [] (back-have BlockAt around (record b { stmts = b.stmts ++ x ∷ [] } ∷ []) all) in
          All-append BlockAt around (b ∷ []) (front-have BlockAt around (record b { stmts = b.stmts ++ x ∷ [] } ∷ []) all)
          (All-cons BlockAt b [] (front-have (IsUnitAt place) (units_of_stmts b.stmts) (units_of_stmts (x ∷ [])) (subst (All (IsUnitAt place)) (stmts-append b.stmts (x ∷ [])) last)) (All-nil BlockAt))

  -- A statement is put: its units are those of the parts and of what stood in the blocks that are gone.
  module _ (es : List TypedExpr) (inner : List Placed) (waiting : List BlockAtWork) (s t : State) (put : AddsStmt (HasUnits (units_in es ++ inner)) waiting s t) where
    -- the units of the new statement are units of the place
    stmt-units : All BlockAt t.blocks → All (IsUnitAt place) (units_in es ++ inner)
    stmt-units all =
        let b : BlockAtWork = record put.block { stmts = put.block.stmts ++ put.stmt ∷ [] } in
        let last : BlockAt b = All-head BlockAt b [] (back-have BlockAt put.around (b ∷ []) (subst (All BlockAt) put.now all)) in
        subst (All (IsUnitAt place)) put.holds
        (back-have (IsUnitAt place) (units_of_stmts put.block.stmts) (units_of_stmts (put.stmt ∷ [])) (subst (All (IsUnitAt place)) (stmts-append put.block.stmts (put.stmt ∷ [])) last))

    put-blocks : (All (IsUnitAt place) inner → All BlockAt waiting) → All BlockAt t.blocks → All BlockAt s.blocks
    put-blocks inside all =
        let b : BlockAtWork = record put.block { stmts = put.block.stmts ++ put.stmt ∷ [] } in
        let there = subst (All BlockAt) put.now all in
        let last : BlockAt b = All-head BlockAt b [] (back-have BlockAt put.around (b ∷ []) there) in
        let kept = front-have (IsUnitAt place) (units_of_stmts put.block.stmts) (units_of_stmts (put.stmt ∷ [])) (subst (All (IsUnitAt place)) (stmts-append put.block.stmts (put.stmt ∷ [])) last) in
        subst (All BlockAt) (sym put.was)
        (All-append BlockAt put.around (put.block ∷ waiting) (front-have BlockAt put.around (b ∷ []) there)
        (All-cons BlockAt put.block waiting kept (inside (back-have (IsUnitAt place) (units_in es) inner (stmt-units all)))))

    pub back-put : StaysIn s t → s.found ≡ t.found ++ es → (All (IsUnitAt place) inner → All BlockAt waiting)
        → (All (IsUnitAt place) inner → All MatchAt t.matches → All MatchAt s.matches) → OnWay t → OnWay s
    back-put stays found blocks matches h =
        let units = stmt-units h.blocks in
        let parts = All-append (IsUnitAt place) (units_in t.found) (units_in es) h.parts.units (front-have (IsUnitAt place) (units_in es) inner units) in
        let found-so : All (IsUnitAt place) (units_in s.found) =
        subst (λ (xs : List TypedExpr). All (IsUnitAt place) (units_in xs)) (sym found) (subst (All (IsUnitAt place)) (sym (units-append t.found es)) parts) in
        record {
          parts = record {
            first = fewer-first env s t stays.goes h.parts.first;
            placed = places-are-kept place s t stays.goes stays.many h.parts.placed;
            units = found-so;
          };
          blocks = put-blocks blocks h.blocks;
          matches = matches (back-have (IsUnitAt place) (units_in es) inner units) h.matches;
        }

  -- ---- what is kept

  pub aside-keeps : (s t : State) → IsAside s t → IsStanding t → IsKept place s → IsKept place t
  aside-keeps s t aside standing h = keeps place t standing (aside.stored place (stored-here place s h))
