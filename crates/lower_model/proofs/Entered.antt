-- Where an expression is taken apart, the code has opened a trap if the expression is one, and else it has done nothing.
use Rattle.std.proofs.Common.{◌≡◌, ◌∙◌, ℕ, suc, List, [], ◌∷◌, Option, Some, sym, ap, arith, length, inl, inr, true, false}
use Rattle.std.specs.Prelude.{Bool}
use Rattle.value_model.specs.declared.value.Value.{Value}
use Rattle.typed_tree.specs.declared.expr.TypedExpr.{TypedExpr}
use Rattle.eval_model.specs.Expressions.{eval}
use Rattle.eval_model.specs.Tasks.{Task, Eval, Exec, Do, Get, Choose, Turn, Guard}
use Rattle.eval_model.specs.TaskWalk.{TasksOver, body_of}
use Rattle.eval_model.specs.Walk.{BlockOver, ExprOver}
use Rattle.eval_model.specs.Ways.{Turns, Ways}
use Rattle.eval_model.proofs.TaskWalk.{eval-over}
use Rattle.stack_code.specs.declared.code.Code.{Code}
use Rattle.lower_model.specs.Following.{waiting}
use Rattle.lower_model.specs.Lowered.{Opens, Spot, code_ways}
use Rattle.lower_model.proofs.CodeWays.{are-ways, expr-stays, loop-stays}
use Rattle.lower_model.proofs.Guarded.{eval-leaves, opens_trap, waits_too}
use Rattle.lower_model.proofs.TaskWays.{task-stays}

module _ (code : Code) where
  abbrev W : Ways Spot
  W = code_ways code

  abbrev Over : List Task → Spot → Option (Turns Spot) → Type 0
  Over = TasksOver W

  -- ---- as many traps are open as will be closed

  abbrev Counts : List Task → Spot → Type 0
  Counts ts p = length p.landings ≡ length (waiting ts)

  still : (ts : List Task) (p q : Spot) → q.landings ≡ p.landings → Counts ts q → Counts ts p
  still ts p q same counts = ap length (sym same) ∙ counts

  open-traps : (ts : List Task) (p : Spot) (loop : Option (Turns Spot)) → Over ts p loop → Counts ts p
  open-traps [] p loop (none, end) = ap length end
  open-traps (Turn t ∷ ts) p loop (l, outer, is, c, at, f) =
      still ts p l.exit (loop-stays code t (λ l. BlockOver W (body_of t) (Some l)) l at ∙ c.1) (open-traps ts l.exit outer f)
  open-traps (Guard vs ∷ ts) p loop (m, q, outer, none, c, (landing, (h, is, leaves, lands)), f) = still (Guard vs ∷ ts) p m c.1 (ap length is ∙ ap suc (open-traps ts q outer f))
  open-traps (Eval e ∷ ts) p loop (m, q, c, at, f) = still ts p q (task-stays code (Eval e) loop m q at ∙ c.1) (open-traps ts q loop f)
  open-traps (Exec s ∷ ts) p loop (m, q, c, at, f) = still ts p q (task-stays code (Exec s) loop m q at ∙ c.1) (open-traps ts q loop f)
  open-traps (Do op ∷ ts) p loop (m, q, c, at, f) = still ts p q (task-stays code (Do op) loop m q at ∙ c.1) (open-traps ts q loop f)
  open-traps (Get x y ∷ ts) p loop (m, q, c, at, f) = still ts p q (task-stays code (Get x y) loop m q at ∙ c.1) (open-traps ts q loop f)
  open-traps (Choose a b ∷ ts) p loop (m, q, c, at, f) = still ts p q (task-stays code (Choose a b) loop m q at ∙ c.1) (open-traps ts q loop f)

  -- ---- expressions

  abbrev pub Entered : Bool → Spot → Spot → Type 0
  Entered true p a = (landing : ℕ) × Opens code landing p a
  Entered false p a = a ≡ p

  abbrev Arrives : Spot → Spot → Type 0
  Arrives = W.arrives

  by-count : (opens : Bool) (vs : List Value) (ws : List (List Value)) (p a : Spot) → Arrives p a → length p.landings ≡ length ws → length a.landings ≡ length (waits_too opens vs ws) → Entered opens p a
  by-count false vs ws p a (inl is) before then = is
  by-count false vs ws p a (inr (landing, (h, is))) before then =
      absurd (let more : length a.landings ≡ suc (length p.landings) = ap (λ s. length s.landings) is in omega (arith, more, before, then))
  by-count true vs ws p a (inr opens) before then = opens
  by-count true vs ws p a (inl is) before then = absurd (let more : length a.landings ≡ length p.landings = ap (λ s. length s.landings) is in omega (arith, more, before, then))

  abbrev pub Enters : TypedExpr → List Value → List Task → Spot → Type 0
  Enters e vs ts p = (a : Spot) × (loop : Option (Turns Spot)) × Entered (opens_trap e) p a × Over (eval e vs ts) a loop

  pub entered : (e : TypedExpr) (vs : List Value) (ts : List Task) (p q : Spot) (loop : Option (Turns Spot)) → ExprOver W e p q → Over ts q loop → Enters e vs ts p
  entered e vs ts p q loop at f =
      let g = eval-over W (are-ways code) e vs ts p q loop at f in
      let before = still ts p q (expr-stays code e p q at) (open-traps ts q loop f) in
      let then = open-traps (eval e vs ts) g.0 g.1 g.3 ∙ ap length (eval-leaves e vs ts) in
      (g.0, g.1, by-count (opens_trap e) vs (waiting ts) p g.0 g.2 before then, g.3)
