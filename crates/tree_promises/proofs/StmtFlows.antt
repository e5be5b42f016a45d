-- What statements leave of the flow.
use Rattle.std.proofs.Common.{◌≡◌, ◌++◌, inl, ℕ, List, [], ◌∷◌, Option, Some, None, refl, sym, subst}
use Rattle.std.specs.Prelude.{slice_get}
use Rattle.std.specs.Global.{Box, Vec}
use Rattle.bal_base.specs.declared.place.Place.{Place}
use Rattle.type_model.specs.declared.atoms.AtomDef.{AtomDef}
use Rattle.type_model.specs.declared.basic.SemType.{SemType}
use Rattle.typed_tree.specs.declared.expr.TypedExpr.{TypedExpr}
use Rattle.typed_tree.specs.declared.stmt.PerformForm.{PerformForm}
use Rattle.typed_tree.specs.declared.stmt.PerformForm.TheVariants as perform
use Rattle.typed_tree.specs.declared.stmt.TypedClause.{TypedClause}
use Rattle.typed_tree.specs.declared.stmt.TypedStmt.{TypedStmt, TypedStmt-F, out-TypedStmt}
use Rattle.typed_tree.specs.declared.stmt.TypedStmt.TheOpen as layer
use Rattle.held_operations.specs.Constructs.{perform_operations}
use Rattle.eval_model.specs.Walk.{BlockOver, LeavesOver, StmtOver}
use Rattle.eval_model.specs.Ways.{Turns, Ways}
use Rattle.tree_promises.specs.Flows.{Around, flow_ways}
use Rattle.tree_promises.specs.Known.{Below, Flow, FlowBelow, Point, plain, set_in, told}
use Rattle.tree_promises.specs.Layers.{StmtLayerOver}
use Rattle.tree_promises.specs.MadeFlows.{AllKeep, OpsKeep}
use Rattle.tree_promises.specs.MadeStmtFlows.{BlockLeaves, Condition, LoopFlow, MadeBlocksKeepFlow, MadeStmtKeepsFlow, Value, loop_points, turns_of}
use Rattle.tree_promises.proofs.FlowPieces.{ops-over, parts-over}
use Rattle.tree_promises.proofs.Layered.{stmt-by-layer}
use Rattle.tree_promises.proofs.Order.{below-itself, below-then}
use Rattle.tree_promises.proofs.Sets.{plain-wider}

module _ (env : List AtomDef) (around : Around) (loop : Option LoopFlow) where
  abbrev W : Ways Point
  W = flow_ways env around

  abbrev Loop : Option (Turns Point)
  Loop = loop_points loop

  abbrev at : Flow → Point
  at f = plain f None

  itself : (p : Point) → Below env p p
  itself = below-itself env

  wider : (f g : Flow) (q : Point) → FlowBelow env f g → Below env (at g) q → Below env (at f) q
  wider f g q c d = below-then env (at f) (at g) q (plain-wider env f g None c) d

  -- no way leads on
  nowhere : (q : Point) (h : Flow) → Below env (at h) q → Below env (at None) q
  nowhere q h d = wider None h q tt d

  abbrev Over : TypedStmt-F TypedStmt TypedClause → Point → Point → Type 0
  Over l p q = StmtLayerOver W l Loop p q

  set : (slot : ℕ) (value : Box TypedExpr) (here : Place) (f g h : Flow) (t : SemType) → Value env around value.value f g → slice_get around.slots slot ≡ Some t
      → FlowBelow env (set_in slot t g) h → (p q : Point) → Below env p (at f) → Below env (at h) q → Over (layer.Set slot value here) p q
  set slot value here f g h t leaves held under p q c d =
      (at g, leaves p (at g) c (itself (at g)), (tt, t, held, wider (set_in slot t g) h q under d))

  performed : (form : PerformForm) (parts : Vec TypedExpr) (here : Place) (f : Flow) → AllKeep env around None parts.items f
      → OpsKeep env around None (perform_operations form) f → (p q : Point) → Below env p (at f) → Below env (at f) q → Over (layer.Perform form parts here) p q
  performed form parts here f keep ops p q c d =
      (at f, parts-over env around None parts.items p f keep c, ops-over env around None (perform_operations form) (at f) q f ops (itself (at f)) d)

  panicked : (parts : Vec TypedExpr) (here : Place) (f h : Flow) → AllKeep env around None parts.items f
      → (p q : Point) → Below env p (at f) → Below env (at h) q → Over (layer.Perform perform.Panic parts here) p q
  panicked parts here f h keep p q c d =
      (at f, parts-over env around None parts.items p f keep c, (at None, itself (at None), nowhere q h d))

  branched : (k : Box TypedExpr) (first second : Vec TypedStmt) (here : Place) (f g met unmet i j h : Flow) → Condition env around k.value f g met unmet
      → BlockLeaves env around loop first.items met i → BlockLeaves env around loop second.items unmet j → FlowBelow env i h → FlowBelow env j h
      → (p q : Point) → Below env p (at f) → Below env (at h) q → Over (layer.If k first second here) p q
  branched k first second here f g met unmet i j h condition a b ih jh p q c d =
      let m : Point = told met unmet (at g) in (
        m,
        condition p m c (itself m),
        (
          at met,
          at i,
          at unmet,
          at j,
          itself (at met),
          a (at met) (at i) (itself (at met)) (itself (at i)),
          wider i h q ih d,
          itself (at unmet),
          b (at unmet) (at j) (itself (at unmet)) (itself (at j)),
          wider j h q jh d,
        ),
      )

  repeated : (k : Box TypedExpr) (body : Vec TypedStmt) (here : Place) (f g met unmet i h : Flow) (l : LoopFlow) → FlowBelow env f l.head
      → Condition env around k.value l.head g met unmet → BlockLeaves env around (Some l) body.items met i → FlowBelow env i l.head
      → FlowBelow env unmet l.exit → FlowBelow env l.exit h → (p q : Point) → Below env p (at f) → Below env (at h) q → Over (layer.While k body here) p q
  repeated k body here f g met unmet i h l begins condition turn again out behind p q c d =
      let m : Point = told met unmet (at g) in
      let head : Point = at l.head in (
        turns_of l,
        below-then env p (at f) head c (plain-wider env f l.head None begins),
        (
          head,
          m,
          at met,
          at unmet,
          at met,
          at i,
          itself head,
          condition head m (itself head) (itself m),
          itself (at met),
          itself (at unmet),
          plain-wider env unmet l.exit None out,
          itself (at met),
          turn (at met) (at i) (itself (at met)) (itself (at i)),
          plain-wider env i l.head None again,
        ),
        wider l.exit h q behind d,
      )

  returned : (value : Box TypedExpr) (here : Place) (f g h : Flow) → Value env around value.value f g
      → (p q : Point) → Below env p (at f) → Below env (at h) q → Over (layer.Return (Some value) here) p q
  returned value here f g h leaves p q c d = (at g, leaves p (at g) c (itself (at g)), nowhere q h d)

  -- whatever waits
  said : (p : Point) (f : Flow) → Below env p (at f) → Below env (plain p.flow p.base) (at f)
  said p f c = record { flow = c.flow; on_true = c.flow; on_false = c.flow; of = inl refl; twin = inl refl; base = c.base }

  nil-returned : (here : Place) (f h : Flow) (p q : Point) → Below env p (at f) → Below env (at h) q → Over (layer.Return None here) p q
  nil-returned here f h p q c d = (at f, said p f c, (at None, itself (at None), nowhere q h d))

  -- out of the loop, or to its next turn
  leaves : (point : LoopFlow → Flow) (turn : Turns Point → Point) → ((l : LoopFlow) → turn (turns_of l) ≡ at (point l)) → (o : Option LoopFlow) (l : LoopFlow)
      → o ≡ Some l → (f : Flow) (p : Point) → Below env p (at f) → FlowBelow env f (point l) → LeavesOver W (loop_points o) turn p
  leaves point turn same (Some k) l is f p c under =
      let is' : k ≡ l = cc in
      subst (λ z. Below env p z) (sym (same k))
      (below-then env p (at f) (at (point k)) c (plain-wider env f (point k) None (subst (λ (z : LoopFlow). FlowBelow env f (point z)) (sym is') under)))
  leaves point turn same None l is f p c under = absurd (let bad : ⊥ = cc in bad)

  stops : (p q : Point) (f h : Flow) → Below env p (at f) → Below env (at h) q → W.stops p q
  stops p q f h c d = subst (λ b. Below env (plain None b) q) c.base (nowhere q h d)

  pub made-stmt-keeps-flow : (s : TypedStmt) (here : Place) → MadeStmtKeepsFlow env around loop s here
  made-stmt-keeps-flow s here =
      record {
        set = λ slot value f g h t is leaves held under p q c d. view (layer.Set slot value here) is p q (set slot value here f g h t leaves held under p q c d);
        performed = λ form parts f is keep ops p q c d. view (layer.Perform form parts here) is p q (performed form parts here f keep ops p q c d);
        panicked = λ parts f h is keep p q c d. view (layer.Perform perform.Panic parts here) is p q (panicked parts here f h keep p q c d);
        branched = λ k first second f g met unmet i j h is condition a b ih jh p q c d.
            view (layer.If k first second here) is p q (branched k first second here f g met unmet i j h condition a b ih jh p q c d);
        repeated = λ k body f g met unmet i h l is begins condition turn again out behind p q c d.
            view (layer.While k body here) is p q (repeated k body here f g met unmet i h l begins condition turn again out behind p q c d);
        returned = λ value f g h is leaves p q c d. view (layer.Return (Some value) here) is p q (returned value here f g h leaves p q c d);
        nil_returned = λ f h is p q c d. view (layer.Return None here) is p q (nil-returned here f h p q c d);
        blocked = λ ss f h is block p q c d. view (layer.Block ss here) is p q (block p q c d);
        broken = λ f h l is inside under p q c d.
            view (layer.Break here) is p q (leaves (λ k. k.exit) (λ t. t.exit) (λ k. refl) loop l inside f p c under, stops p q f h c d);
        continued = λ f h l is inside under p q c d.
            view (layer.Continue here) is p q (leaves (λ k. k.head) (λ t. t.head) (λ k. refl) loop l inside f p c under, stops p q f h c d);
      }
    where
      view : (l : TypedStmt-F TypedStmt TypedClause) → out-TypedStmt s ≡ l → (p q : Point) → Over l p q → StmtOver W s Loop p q
      view l is p q way = stmt-by-layer W s Loop p q (subst (λ k. Over k p q) (sym is) way)

  -- one behind another
  one-behind : (ss : List TypedStmt) (s : TypedStmt) (p m q : Point) → BlockOver W ss Loop p m → ((k : Point) → Below env k m → StmtOver W s Loop k q)
      → BlockOver W (ss ++ s ∷ []) Loop p q
  one-behind [] s p m q c stmt = (q, stmt p c, itself q)
  one-behind (x ∷ ss) s p m q (k, first, more) stmt = (k, first, one-behind ss s k m q more stmt)

  pub made-blocks-keep-flow : MadeBlocksKeepFlow env around loop
  made-blocks-keep-flow =
      record {
        none = λ f p q c d. below-then env p (at f) q c d;
        one_more = λ ss s f g h block stmt p q c d.
            one-behind ss s p (at g) q (block p (at g) c (itself (at g))) (λ k b. stmt k q b d);
      }
