-- What matches leave of the flow.
use Rattle.std.proofs.Common.{◌≡◌, ◌⊎◌, ⊎_elim, inl, inr, ℕ, zero, suc, Bool, true, false, List, [], ◌∷◌, Option, Some, None, refl, sym, subst}
use Rattle.std.specs.Prelude.{◌==◌, if◌then◌else◌, slice_get, slice_set}
use Rattle.std.specs.Global.{Box, Vec}
use Rattle.bal_base.specs.declared.place.Place.{Place}
use Rattle.type_model.specs.declared.atoms.AtomDef.{AtomDef}
use Rattle.type_model.specs.declared.basic.SemType.{SemType}
use Rattle.operations.specs.declared.operation.Constant.{Constant}
use Rattle.typed_tree.specs.declared.expr.TypedExpr.{TypedExpr}
use Rattle.typed_tree.specs.declared.expr.TypedExpr.TheOpen as expr_layer
use Rattle.typed_tree.specs.declared.stmt.TypedClause.{TypedClause, out-TypedClause}
use Rattle.typed_tree.specs.declared.stmt.TypedPattern.{TypedPattern}
use Rattle.typed_tree.specs.declared.stmt.TypedStmt.{TypedStmt, out-TypedStmt}
use Rattle.typed_tree.specs.declared.stmt.TypedStmt.TheOpen as layer
use Rattle.held_operations.specs.Operation.{singleton}
use Rattle.eval_model.specs.Walk.{PatternOver, PatternsOver, StmtOver}
use Rattle.eval_model.specs.Ways.{Turns, Ways}
use Rattle.tree_promises.specs.Flows.{Around, Narrows, flow_ways}
use Rattle.tree_promises.specs.Known.{Below, Flow, FlowBelow, Known, Point, loaded, narrowed, plain, stored, told, with_twin}
use Rattle.tree_promises.specs.Layers.{ClausesLayerOver, StmtLayerOver}
use Rattle.tree_promises.specs.MadeMatchFlows.{ClausesLeave, ClausesNowhere, MadeMatchKeepsFlow, PatternLeaves, PatternsLeave}
use Rattle.tree_promises.specs.MadeStmtFlows.{LoopFlow, loop_points}
use Rattle.tree_promises.proofs.FlowPieces.{from-view, gets}
use Rattle.tree_promises.proofs.Layered.{stmt-by-layer}
use Rattle.tree_promises.proofs.Order.{below-itself, below-then}
use Rattle.tree_promises.proofs.Sets.{loaded-known, plain-wider, set-get}

-- ---- slots that hold the same

set-keeps : (ks : Known) (slot i : ℕ) (t : SemType) → slice_get ks i ≡ Some (Some t) → slice_get (slice_set ks slot (Some t)) i ≡ Some (Some t)
set-keeps [] slot i t e = absurd (let bad : ⊥ = cc in bad)
set-keeps (k ∷ ks) zero zero t e = refl
set-keeps (k ∷ ks) zero (suc i) t e = e
set-keeps (k ∷ ks) (suc slot) zero t e = e
set-keeps (k ∷ ks) (suc slot) (suc i) t e = set-keeps ks slot i t e

narrowed-get : (twin : Option (ℕ × ℕ)) (own : ℕ) (t : SemType) (ks : Known) (k : Option SemType) → slice_get ks own ≡ Some k
    → slice_get (narrowed (with_twin own twin) t ks) own ≡ Some (Some t)
narrowed-get None own t ks k e = set-get ks own k t e
narrowed-get (Some (one, other)) own t ks k e = by (one == own)
  where
    by : (b : Bool) → slice_get (narrowed (if b then own ∷ other ∷ [] else own ∷ []) t ks) own ≡ Some (Some t)
    by true = set-keeps (slice_set ks own (Some t)) other own t (set-get ks own k t e)
    by false = set-get ks own k t e

module _ (env : List AtomDef) (around : Around) (loop : Option LoopFlow) where
  abbrev W : Ways Point
  W = flow_ways env around

  abbrev Loop : Option (Turns Point)
  Loop = loop_points loop

  abbrev at : Flow → Point
  at f = plain f None

  itself : (p : Point) → Below env p p
  itself = below-itself env

  wider : (f g : Flow) (q : Point) → FlowBelow env f g → Below env (at g) q → Below env (at f) q
  wider f g q c d = below-then env (at f) (at g) q (plain-wider env f g None c) d

  -- ---- where no way leads

  module _ (own : ℕ) where
    pattern-nowhere : (c : Option Constant) (Next : Point → Type 0) → Next (at None) → PatternOver W own c Next (at None) (at None)
    pattern-nowhere (Some c) Next next =
        let l : Point = loaded own (at None) in
        (at None, at None, at None, (l, (tt, itself l), (at None, inr (itself (at None)), itself (at None))), itself (at None), itself (at None), itself (at None), next)
    pattern-nowhere None Next next = itself (at None)

    patterns-nowhere : (ps : List TypedPattern) → PatternsOver W own ps (at None) (at None) (at None)
    patterns-nowhere [] = itself (at None)
    patterns-nowhere (p ∷ ps) = pattern-nowhere p.value (λ n. PatternsOver W own ps (at None) n (at None)) (patterns-nowhere ps)

    clauses-nowhere : (cs : List TypedClause) (h : Flow) (q : Point) → ClausesNowhere env around loop cs h → Below env (at h) q → ClausesLayerOver W cs Loop own (at None) q
    clauses-nowhere [] h q none d = wider None h q tt d
    clauses-nowhere (c ∷ cs) h q (m, block, under, more) d = (
      at None,
      at None,
      at m,
      patterns-nowhere (out-TypedClause c).patterns.items,
      block (at None) (at m) (itself (at None)) (itself (at m)),
      wider m h q under d,
      clauses-nowhere cs h q more d,
    )

    -- ---- pattern by pattern

    module _ (twin : Option (ℕ × ℕ)) where
      abbrev slots : List ℕ
      slots = with_twin own twin

      -- what is known where nothing fitted so far
      abbrev left_at : Known → Point
      left_at ks = record { flow = Some ks; on_true = Some ks; on_false = Some ks; of = None; twin = twin; base = None }

      enters : (ks : Known) (f : Flow) → FlowBelow env (Some ks) f → Below env (left_at ks) (at f)
      enters ks f c = record { flow = c; on_true = c; on_false = c; of = inl refl; twin = inl refl; base = refl }

      -- what is left behind patterns, unless they took all
      abbrev Found : (Known → SemType → Type 0) → Type 0 → Point → Type 0
      Found next nowhere n =
          ((ks : Known) × (left : SemType) × (n ≡ left_at ks) × (slice_get ks own ≡ Some (Some left)) × next ks left) ⊎ ((n ≡ at None) × nowhere)

      pattern-over : (c : Option Constant) (ks : Known) (left : SemType) (body : Flow) (rest : Known → SemType → Type 0) (nowhere : Type 0)
          (Next : Point → Point → Type 0) (Then : Point → Type 0) → slice_get ks own ≡ Some (Some left)
          → PatternLeaves env around loop slots c ks left body rest nowhere
          → ((js : Known) (l : SemType) → slice_get js own ≡ Some (Some l) → rest js l → (n : Point) × Next (left_at js) n × Then n)
          → (nowhere → Then (at None)) → (n : Point) × PatternOver W own c (λ m. Next m n) (at body) (left_at ks) × Then n
      pattern-over None ks left body rest nowhere Next Then has (all, none) go gone = (at None, enters ks body all, gone none)
      pattern-over (Some c) ks left body rest nowhere Next Then has (holds, fails, truly, falsely, fits, others) go gone =
          let l : Point = loaded own (left_at ks) in
          let m : Point = told (Some (narrowed slots holds ks)) (Some (narrowed slots fails ks)) l in
          let narrows : Narrows env (singleton c) l m =
          record {
            slot = own;
            known = ks;
            from = left;
            holds = holds;
            fails = fails;
            of = refl;
            flow = refl;
            has = has;
            on_true = truly;
            on_false = falsely;
            behind = itself m;
          } in
          let behind = go (narrowed slots fails ks) fails (narrowed-get twin own fails ks (Some left) has) others in (
            behind.0,
            (
              m,
              left_at (narrowed slots holds ks),
              left_at (narrowed slots fails ks),
              (l, (inr (left, has, tt), itself l), (m, inl narrows, itself m)),
              itself (left_at (narrowed slots holds ks)),
              enters (narrowed slots holds ks) body fits,
              itself (left_at (narrowed slots fails ks)),
              behind.1,
            ),
            behind.2,
          )

      patterns-over : (ps : List TypedPattern) (ks : Known) (left : SemType) (body : Flow) (next : Known → SemType → Type 0) (nowhere : Type 0)
          → slice_get ks own ≡ Some (Some left) → PatternsLeave env around loop slots ps ks left body next nowhere
          → (n : Point) × PatternsOver W own ps (at body) (left_at ks) n × Found next nowhere n
      patterns-over [] ks left body next nowhere has more = (left_at ks, itself (left_at ks), inl (ks, left, refl, has, more))
      patterns-over (p ∷ ps) ks left body next nowhere has more =
          pattern-over p.value ks left body (λ k l. PatternsLeave env around loop slots ps k l body next nowhere) nowhere
          (λ m n. PatternsOver W own ps (at body) m n) (Found next nowhere) has more
          (λ js l known x. patterns-over ps js l body next nowhere known x) (λ none. inr (refl, none))

      clauses-over : (cs : List TypedClause) (ks : Known) (left : SemType) (h : Flow) (q : Point) → slice_get ks own ≡ Some (Some left)
          → ClausesLeave env around loop slots cs ks left h → Below env (at h) q → ClausesLayerOver W cs Loop own (left_at ks) q
      clauses-over [] ks left h q has under d = below-then env (left_at ks) (at h) q (enters ks h under) d
      clauses-over (c ∷ cs) ks left h q has (body, m, ps, block, under) d =
          let walk = patterns-over (out-TypedClause c).patterns.items ks left body (λ k l. ClausesLeave env around loop slots cs k l h)
          (ClausesNowhere env around loop cs h) has ps in (
            walk.0,
            at body,
            at m,
            walk.1,
            block (at body) (at m) (itself (at body)) (itself (at m)),
            wider m h q under d,
            ⊎_elim (λ (ks', left', is, has', more). subst (λ n. ClausesLayerOver W cs Loop own n q) (sym is) (clauses-over cs ks' left' h q has' more d))
                (λ (is, none). subst (λ n. ClausesLayerOver W cs Loop own n q) (sym is) (clauses-nowhere cs h q none d)) walk.2,
          )

  -- ---- statements

  pub made-match-keeps-flow : (s : TypedStmt) (here : Place) → MadeMatchKeepsFlow env around loop s here
  made-match-keeps-flow s here =
      record {
        on_variable = λ own slot narrow u there subject clauses ks k t h is local known held free cs p q c d.
            let m : Point = loaded slot (at (Some ks)) in
            view own subject clauses is p q (
              m,
              stored own t m,
              from-view env around subject.value (expr_layer.Local slot narrow u there) p m local
                  (gets env around slot narrow u p m (Some ks) None c known (loaded-known env slot p (Some ks) None c)),
              (tt, t, held, itself (stored own t m)),
              clauses-over own (Some (own, slot)) clauses.items (slice_set ks own (Some t)) t h q (set-get ks own k t free) cs d,
            );
        on_value = λ own subject clauses f ks k t h is leaves held free cs p q c d.
            let m : Point = at (Some ks) in
            view own subject clauses is p q (
              m,
              stored own t m,
              leaves p m c (itself m),
              (tt, t, held, itself (stored own t m)),
              clauses-over own None clauses.items (slice_set ks own (Some t)) t h q (set-get ks own k t free) cs d,
            );
        nowhere = λ own subject clauses f t h is leaves held cs p q c d.
            view own subject clauses is p q
            (at None, at None, leaves p (at None) c (itself (at None)), (tt, t, held, itself (at None)), clauses-nowhere own clauses.items h q cs d);
      }
    where
      view : (own : ℕ) (subject : Box TypedExpr) (clauses : Vec TypedClause) → out-TypedStmt s ≡ layer.Match own subject clauses here → (p q : Point)
          → StmtLayerOver W (layer.Match own subject clauses here) Loop p q → StmtOver W s Loop p q
      view own subject clauses is p q way = stmt-by-layer W s Loop p q (subst (λ k. StmtLayerOver W k Loop p q) (sym is) way)
