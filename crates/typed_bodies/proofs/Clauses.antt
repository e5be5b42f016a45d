-- Clauses of matches, one behind another.
use Rattle.std.proofs.Common.{All, Bool, List, [], ap, append-nil, append_assoc, arith, refl, subst, sym, inl, ◌++◌, ◌∙◌, ◌∷◌, ◌≡◌}
use Rattle.std.proofs.lemmas.List.Elements.{All-append, All-cons, All-head, All-nil}
use Rattle.bal_base.specs.declared.place.Place.{Place}
use Rattle.bal_tree.specs.declared.stmt.Pattern.{Pattern}
use Rattle.calm_needs.proofs.Calming.{on-beside}
use Rattle.check_laws.specs.StmtLaws.{HasUnit}
use Rattle.check_words.proofs.Standing.{back-have, front-have}
use Rattle.check_words.specs.State.{BlockAtWork, MatchAtWork, State, all_but}
use Rattle.descriptors.specs.declared.names.Names.{Names}
use Rattle.expr_needs.specs.Needs.{BeginsClause, EndsClause, Need}
use Rattle.needs.specs.Needs.{in_turn_from, in_turn}
use Rattle.operations.specs.Rows.{Surroundings}
use Rattle.stmt_needs.specs.StmtTable.{StmtReading, Within, pattern_needs}
use Rattle.tree_promises.specs.Laws.{MadeStatementsAreTyped}
use Rattle.type_model.specs.Calls.{Asked}
use Rattle.type_model.specs.declared.answers.TypeLimit.{TypeLimit}
use Rattle.type_model.specs.declared.atoms.AtomDef.{AtomDef}
use Rattle.typed_bodies.proofs.Blocks.{met-nothing}
use Rattle.typed_bodies.proofs.Matches.{ClauseEnded, IsOnMatch, clause-ended, on-match-clause, on-match-on, on-match-pattern}
use Rattle.typed_bodies.proofs.Trails.{BlockAt, MatchAt, OnWay, back, in-on, in-run, in-same, in-units}
use Rattle.typed_bodies.specs.Claims.{AllClausesKnown, AreDone, AreDoneClauses, ComesToClauses, HasMoreClauses, KnowsBlock, KnowsClauses, MatchIsKept, StaysIn}
use Rattle.typed_bodies.specs.Units.{units_of_clauses, units_of_stmts}
use Rattle.typed_exprs.proofs.Steps.{Step, keeps, parted, stored-here}
use Rattle.typed_exprs.specs.Lines.{Run}
use Rattle.typed_needs.proofs.Placed.{all-but-last, last-same}
use Rattle.typed_needs.specs.Between.{IsKept, IsTypedUnit, IsUnitAt, units_in}
use Rattle.typed_stmts.proofs.Keeping.{stored-beside}
use Rattle.typed_stmts.proofs.Matching.{clauses-more}
use Rattle.typed_tree.specs.Listed.{Listed, nothing, one, ◌&◌}
use Rattle.typed_tree.specs.declared.expr.TypedExpr.{TypedExpr}
use Rattle.typed_tree.specs.declared.stmt.TypedClause.{TypedClause, out-TypedClause}

pub clauses-append : (cs ds : List TypedClause) → units_of_clauses (cs ++ ds) ≡ units_of_clauses cs ++ units_of_clauses ds
clauses-append [] ds = refl
clauses-append (c ∷ cs) ds =
    ap (λ l. units_of_stmts (out-TypedClause c).stmts.items ++ l) (clauses-append cs ds)
    ∙ sym (append_assoc (units_of_stmts (out-TypedClause c).stmts.items) (units_of_clauses cs) (units_of_clauses ds))

pub more-on : (around : List MatchAtWork) (was : MatchAtWork) (r s t : State) → (f : HasMoreClauses around was r s) → HasMoreClauses around f.now s t → HasMoreClauses around was r t
more-on around was r s t f g =
    record {
      stays = in-on r s t f.stays g.stays;
      found = g.found ∙ f.found;
      blocks = g.blocks ∙ f.blocks;
      now = g.now;
      more = f.more ++ g.more;
      matches = g.matches;
      clauses = g.clauses ∙ ap (λ l. l ++ g.more) f.clauses ∙ append_assoc was.clauses f.more g.more;
    }

pub no-more : (around : List MatchAtWork) (was : MatchAtWork) (s : State) → s.matches ≡ around ++ was ∷ [] → HasMoreClauses around was s s
no-more around was s e =
    record { stays = in-same s; found = refl; blocks = refl; now = was; more = []; matches = e; clauses = sym (append-nil was.clauses) }

module _ (env : List AtomDef) (place : Surroundings) where
  abbrev pub AtPlace : List TypedClause → Type 0
  AtPlace cs = All (IsUnitAt place) (units_of_clauses cs)

  -- of fewer clauses in the match at hand
  pub fewer : (around : List MatchAtWork) (was now : MatchAtWork) (more : List TypedClause) → now.clauses ≡ was.clauses ++ more → All (MatchAt env place) (around ++ now ∷ [])
      → All (MatchAt env place) (around ++ was ∷ [])
  fewer around was now more clauses all =
      let there : AtPlace now.clauses = All-head (MatchAt env place) now [] (back-have (MatchAt env place) around (now ∷ []) all) in
      let units = subst (All (IsUnitAt place)) (ap (λ (cs : List TypedClause). units_of_clauses cs) clauses ∙ clauses-append was.clauses more) there in
      All-append (MatchAt env place) around (was ∷ []) (front-have (MatchAt env place) around (now ∷ []) all)
      (All-cons (MatchAt env place) was [] (front-have (IsUnitAt place) (units_of_clauses was.clauses) (units_of_clauses more) units) (All-nil (MatchAt env place)))

  -- and of those that are more
  pub others : (around : List MatchAtWork) (was now : MatchAtWork) (more : List TypedClause) → now.clauses ≡ was.clauses ++ more → All (MatchAt env place) (around ++ now ∷ [])
      → AtPlace more
  others around was now more clauses all =
      let there : AtPlace now.clauses = All-head (MatchAt env place) now [] (back-have (MatchAt env place) around (now ∷ []) all) in
      let units = subst (All (IsUnitAt place)) (ap (λ (cs : List TypedClause). units_of_clauses cs) clauses ∙ clauses-append was.clauses more) there in
      back-have (IsUnitAt place) (units_of_clauses was.clauses) (units_of_clauses more) units

  pub back-clauses : (around : List MatchAtWork) (was : MatchAtWork) (s t : State) → HasMoreClauses around was s t → s.matches ≡ around ++ was ∷ [] → OnWay env place t
      → OnWay env place s
  back-clauses around was s t h e way =
      back env place s t h.stays (λ p all. subst (λ (xs : List TypedExpr). All (IsUnitAt p) (units_in xs)) h.found all) (λ all. subst (All (BlockAt env place)) h.blocks all)
      (λ all. subst (All (MatchAt env place)) (sym e) (fewer around was h.now h.more h.clauses (subst (All (MatchAt env place)) h.matches all))) way

module _ (made : MadeStatementsAreTyped) (passes : List AtomDef → Asked → TypeLimit → Type 0) (names : Names) (env : List AtomDef) (place : Surroundings)
    (Can : State → Type 0) (can : (s t : State) → StaysIn s t → Can s → Can t) where
  -- what is known of needs that come to some clauses
  pub record AddsClauses (inside : Bool) (needs : Listed Need) : Type 0 where
    pub more : (around : List MatchAtWork) (was : MatchAtWork) (s t : State) → HasUnit s → s.matches ≡ around ++ was ∷ [] → Run passes names env needs s t → HasMoreClauses around was s t
    pub claim : (around : List MatchAtWork) (was : MatchAtWork) (s t : State) → Can s → HasUnit s → s.matches ≡ around ++ was ∷ [] → Run passes names env needs s t → IsKept place s
        → MatchIsKept place was → AreDoneClauses env place inside was.clauses → OnWay env place t → ComesToClauses env place inside around t

  pub adds-none : (inside : Bool) → AddsClauses inside nothing
  adds-none inside =
      record {
        more = λ around was s t unit e run. subst (λ (x : State). HasMoreClauses around was s x) (sym (met-nothing made passes names env place Can can s t run)) (no-more around was s e);
        claim = λ around was s t c unit e run kept known done way.
            subst (λ (x : State). ComesToClauses env place inside around x) (sym (met-nothing made passes names env place Can can s t run))
            (record { now = was; matches = e; known = known; done = done; kept = kept });
      }

  adds-one : (w : Within) (needs : Within → Listed Need) → KnowsClauses passes names env place Can needs → AddsClauses w.loop (needs w)
  adds-one w needs k =
      record {
        more = λ around was s t unit e run. k.more w around was s t unit e run;
        claim = λ around was s t c unit e run kept known done way. k.claim w around was s t c unit e run kept known done way;
      }

  unit-behind : (s t : State) → StaysIn s t → HasUnit s → HasUnit t
  unit-behind s t stays unit = let u = unit in let q = stays.many in omega (arith, u, q)

  adds-both : (inside : Bool) (needs later : Listed Need) → AddsClauses inside needs → AddsClauses inside later → AddsClauses inside (needs & later)
  adds-both inside needs later first second =
      record {
        more = λ around was s t unit e run. let (m, x, y) = parted passes names env needs later s t run in
            let f = first.more around was s m unit e x in
            more-on around was s m t f (second.more around f.now m t (unit-behind s m f.stays unit) f.matches y);
        claim = λ around was s t c unit e run kept known done way. let (m, x, y) = parted passes names env needs later s t run in
            let f = first.more around was s m unit e x in
            let unit-m = unit-behind s m f.stays unit in
            let way-m = back-clauses env place around f.now m t (second.more around f.now m t unit-m f.matches y) f.matches way in
            let a = first.claim around was s m c unit e x kept known done way-m in
            second.claim around a.now m t (can s m f.stays c) unit-m a.matches y a.kept a.known a.done way;
      }

  pub adds-all : (cs : List StmtReading) → AllClausesKnown passes names env place Can cs → (w : Within) (before : Listed Need) → AddsClauses w.loop before
      → AddsClauses w.loop (in_turn_from before (λ (c : StmtReading). c.needs w) cs)
  adds-all [] known w before adds = adds
  adds-all (c ∷ cs) known w before adds = adds-all cs known.1 w (before & c.needs w) (adds-both w.loop before (c.needs w) adds (adds-one w c.needs known.0))

  -- ---- one clause

  abbrev OnRun : Listed Need → Type 0
  OnRun needs = (around : List MatchAtWork) (was : MatchAtWork) (s t : State) → s.matches ≡ around ++ was ∷ [] → Run passes names env needs s t → IsOnMatch around was s t

  on-none : OnRun nothing
  on-none around was s t e run = subst (λ (x : State). IsOnMatch around was s x) (sym (met-nothing made passes names env place Can can s t run)) (itself around was s e)
    where
      itself : (around : List MatchAtWork) (was : MatchAtWork) (s : State) → s.matches ≡ around ++ was ∷ [] → IsOnMatch around was s s
      itself around was s e =
          record {
            moved = record { on = on-beside s s refl refl; site = refl };
            found = refl;
            blocks = refl;
            choices = refl;
            now = was;
            matches = e;
            clauses = refl;
            known = λ p h. h;
            stored = λ p k h. h;
            seen = λ vs h. h;
            sees = λ vs h k. k;
          }

  on-patterns : (ps : List Pattern) (before : Listed Need) → OnRun before → OnRun (in_turn_from before pattern_needs ps)
  on-patterns [] before on = on
  on-patterns (p ∷ ps) before on = on-patterns ps (before & pattern_needs p) (both before p on)
    where
      both : (before : Listed Need) (p : Pattern) → OnRun before → OnRun (before & pattern_needs p)
      both before p on around was s t e run =
          let (m, x, y) = parted passes names env before (pattern_needs p) s t run in
          let f = on around was s m e x in
          on-match-on around was s m t f (on-match-pattern names p around f.now m t tt f.matches y.0)

  -- what stands where; `l`: behind its patterns, `m`: behind its body
  record ClauseRun (any : Bool) (body : Within → Listed Need) (at : Place) (w : Within) (around : List MatchAtWork) (was : MatchAtWork) (old new : State) : Type 0 where
    pub l : State
    pub m : State
    pub opens : IsOnMatch around was old l
    pub opened : (k : State) × Step passes names env (BeginsClause any) k l
    pub unit_l : HasUnit l
    pub in_l : StaysIn old l
    pub run : Run passes names env (body w) l m
    pub step : Step passes names env (EndsClause at) m new
    pub block : BlockAtWork
    pub blocks : m.blocks ≡ old.blocks ++ block ∷ []
    pub found : m.found ≡ old.found
    pub in_m : StaysIn l m
    pub ended : ClauseEnded around opens.now m new
    pub same : block ≡ ended.block

  clause-run : (ps : List Pattern) (any : Bool) (body : Within → Listed Need) (at : Place) → KnowsBlock passes names env place Can body → (w : Within) (around : List MatchAtWork)
      (was : MatchAtWork) (old new : State) → HasUnit old → old.matches ≡ around ++ was ∷ []
      → Run passes names env ((in_turn pattern_needs ps & one (BeginsClause any)) & body w & one (EndsClause at)) old new → ClauseRun any body at w around was old new
  clause-run ps any body at kb w around was old new unit e run =
      let (l, r1, r2) = parted passes names env (in_turn pattern_needs ps & one (BeginsClause any)) (body w & one (EndsClause at)) old new run in
      let (k, rp, sb) = parted passes names env (in_turn pattern_needs ps) (one (BeginsClause any)) old l r1 in
      let (m, rb, se) = parted passes names env (body w) (one (EndsClause at)) l new r2 in
      let f = on-patterns ps nothing on-none around was old k e rp in
      let h : IsOnMatch around was old l = on-match-on around was old k l f (on-match-clause passes any around f.now k l tt f.matches sb.0) in
      let in-l = in-units old l h.moved.on h.moved.site in
      let unit-l = unit-behind old l in-l unit in
      let b = kb.more w l m unit-l rb in
      let goes = kb.goes w l m unit-l rb in
      let c = clause-ended at around h.now m new (b.same.matches ∙ h.matches) se.0 in
      record {
        l = l;
        m = m;
        opens = h;
        opened = (k, sb);
        unit_l = unit-l;
        in_l = in-l;
        run = rb;
        step = se;
        block = b.block;
        blocks = b.blocks ∙ ap (λ bs. bs ++ b.block ∷ []) h.blocks;
        found = b.found ∙ h.found;
        in_m = in-run l m goes b.same;
        ended = c;
        same = last-same m.blocks b.block c.block (record { kept = l.blocks; is = b.blocks }) c.last;
      }

  clause-has : (any : Bool) (body : Within → Listed Need) (at : Place) (w : Within) (around : List MatchAtWork) (was : MatchAtWork) (old new : State)
      → ClauseRun any body at w around was old new → HasMoreClauses around was old new
  clause-has any body at w around was old new r =
      record {
        stays = in-on old r.m new (in-on old r.l r.m r.in_l r.in_m)
            (in-units r.m new (on-beside r.m new (ap (λ (s : State). s.atoms) r.ended.all) (ap (λ (s : State). s.units) r.ended.all)) (ap (λ (s : State). s.site) r.ended.all));
        found = ap (λ (s : State). s.found) r.ended.all ∙ r.found;
        blocks = ap (λ (s : State). s.blocks) r.ended.all ∙ ap (λ bs. all_but 1 bs) r.blocks ∙ all-but-last old.blocks r.block;
        now = r.ended.now;
        more = r.ended.clause ∷ [];
        matches = r.ended.matches;
        clauses = r.ended.clauses ∙ ap (λ cs. cs ++ r.ended.clause ∷ []) r.opens.clauses;
      }

  -- the units of its body are those of the clause
  clause-back : (any : Bool) (body : Within → Listed Need) (at : Place) (w : Within) (around : List MatchAtWork) (was : MatchAtWork) (old new : State)
      → (r : ClauseRun any body at w around was old new) → r.m.matches ≡ around ++ r.opens.now ∷ [] → OnWay env place new → OnWay env place r.m
  clause-back any body at w around was old new r e way =
      let all = subst (All (MatchAt env place)) r.ended.matches way.matches in
      let units = others env place around r.opens.now r.ended.now (r.ended.clause ∷ []) r.ended.clauses all in
      let own : BlockAt env place r.block =
      subst (λ (b : BlockAtWork). BlockAt env place b) (sym r.same)
      (subst (λ ss. All (IsUnitAt place) (units_of_stmts ss)) r.ended.stmts (subst (All (IsUnitAt place)) (append-nil (units_of_stmts (out-TypedClause r.ended.clause).stmts.items)) units)) in
      let blocks-new : new.blocks ≡ old.blocks = ap (λ (s : State). s.blocks) r.ended.all ∙ ap (λ bs. all_but 1 bs) r.blocks ∙ all-but-last old.blocks r.block in
      back env place r.m new
      (in-units r.m new (on-beside r.m new (ap (λ (s : State). s.atoms) r.ended.all) (ap (λ (s : State). s.units) r.ended.all)) (ap (λ (s : State). s.site) r.ended.all))
      (λ p h. subst (λ (xs : List TypedExpr). All (IsUnitAt p) (units_in xs)) (ap (λ (s : State). s.found) r.ended.all) h)
      (λ h. subst (All (BlockAt env place)) (sym r.blocks)
      (All-append (BlockAt env place) old.blocks (r.block ∷ []) (subst (All (BlockAt env place)) blocks-new h) (All-cons (BlockAt env place) r.block [] own (All-nil (BlockAt env place)))))
      (λ h. subst (All (MatchAt env place)) (sym e) (fewer env place around r.opens.now r.ended.now (r.ended.clause ∷ []) r.ended.clauses all)) way

  one-more-done : (inside : Bool) (cs : List TypedClause) (c : TypedClause) → AreDoneClauses env place inside cs → AreDone env place inside (out-TypedClause c).stmts.items
      → AreDoneClauses env place inside (cs ++ c ∷ [])
  one-more-done inside cs c h d =
      record {
        typed = clauses-more env place inside cs c h.typed d.typed;
        units = subst (All (IsTypedUnit env place)) (sym (clauses-append cs (c ∷ [])))
            (All-append (IsTypedUnit env place) (units_of_clauses cs) (units_of_clauses (c ∷ [])) h.units
            (subst (All (IsTypedUnit env place)) (sym (append-nil (units_of_stmts (out-TypedClause c).stmts.items))) d.units));
      }

  clause-comes : (any : Bool) (body : Within → Listed Need) (at : Place) → KnowsBlock passes names env place Can body → (w : Within) (around : List MatchAtWork) (was : MatchAtWork)
      (old new : State) → (r : ClauseRun any body at w around was old new) → r.m.matches ≡ around ++ r.opens.now ∷ []
      → ((u : HasUnit r.l) → Can r.l → IsKept place r.l → OnWay env place r.m → (b : BlockAtWork) × (r.m.blocks ≡ r.l.blocks ++ b ∷ []) × AreDone env place w.loop b.stmts × IsKept place r.m)
      → Can old → IsKept place old → MatchIsKept place was → AreDoneClauses env place w.loop was.clauses → OnWay env place new → ComesToClauses env place w.loop around new
  clause-comes any body at kb w around was old new r e inner c kept known done way =
      let way-m = clause-back any body at w around was old new r e way in
      let (k, sb) = r.opened in
      let kept-l = keeps place r.l sb.1 (r.opens.stored place known (stored-here place old kept)) in
      let (b, blocks, d, kept-m) = inner r.unit_l (can old r.l r.in_l c) kept-l way-m in
      let is : b ≡ r.ended.block =
      last-same r.m.blocks b r.ended.block (record { kept = r.l.blocks; is = blocks }) r.ended.last in
      let own : AreDone env place w.loop (out-TypedClause r.ended.clause).stmts.items =
      subst (λ ss. AreDone env place w.loop ss) (ap (λ (x : BlockAtWork). x.stmts) is ∙ sym r.ended.stmts) d in
      let stored-m = stored-here place r.m kept-m in
      record {
        now = r.ended.now;
        matches = r.ended.matches;
        known = r.ended.known place stored-m.stored (r.opens.known place known);
        done = subst (λ cs. AreDoneClauses env place w.loop cs) (sym (r.ended.clauses ∙ ap (λ cs. cs ++ r.ended.clause ∷ []) r.opens.clauses))
            (one-more-done w.loop was.clauses r.ended.clause done own);
        kept = keeps place new r.step.1
            (stored-beside place r.m new (ap (λ (s : State). s.units) r.ended.all) (inl (ap (λ (s : State). s.ways) r.ended.all)) stored-m);
      }

  pub clause : (ps : List Pattern) (any : Bool) (body : Within → Listed Need) (at : Place) → KnowsBlock passes names env place Can body
      → KnowsClauses passes names env place Can (λ w. (in_turn pattern_needs ps & one (BeginsClause any)) & body w & one (EndsClause at))
  clause ps any body at kb =
      record {
        more = λ w around was old new unit e run. clause-has any body at w around was old new (clause-run ps any body at kb w around was old new unit e run);
        claim = λ w around was old new c unit e run kept known done way. so w around was old new c kept known done way (clause-run ps any body at kb w around was old new unit e run);
      }
    where
      so : (w : Within) (around : List MatchAtWork) (was : MatchAtWork) (old new : State) → Can old → IsKept place old → MatchIsKept place was
          → AreDoneClauses env place w.loop was.clauses → OnWay env place new → ClauseRun any body at w around was old new → ComesToClauses env place w.loop around new
      so w around was old new c kept known done way r =
          let more = kb.more w r.l r.m r.unit_l r.run in
          clause-comes any body at kb w around was old new r (more.same.matches ∙ r.opens.matches)
          (λ unit can-l kept-l way-m. let x = kb.claim w r.l r.m can-l unit more r.run kept-l way-m in (x.block, x.blocks, x.done, x.kept)) c kept known done way
