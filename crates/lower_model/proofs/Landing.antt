-- A panic goes on alike in a frame of the package and in the frame of the code that follows it.
use Rattle.std.proofs.Common.{◌≡◌, ◌∙◌, List, [], ◌∷◌, Option, Some, refl, sym, subst, ap, map}
use Rattle.value_model.specs.declared.value.Value.{Value}
use Rattle.op_model.specs.Local.{Local, with_stack}
use Rattle.machine_model.specs.Following.{Both}
use Rattle.eval_model.specs.Tasks.{Task, Eval, Exec, Do, Get, Choose, Turn, Guard, doing}
use Rattle.eval_model.specs.TaskWalk.{TasksOver, body_of}
use Rattle.eval_model.specs.Trees.{caught}
use Rattle.eval_model.specs.Walk.{BlockOver}
use Rattle.eval_model.specs.Ways.{Turns, Ways}
use Rattle.eval_model.proofs.TaskWalk.{comes-over}
use Rattle.stack_code.specs.declared.code.Code.{Code}
use Rattle.stack_code.specs.CodeMachine.{OpenedTrap, lands, standing}
use Rattle.lower_model.specs.Following.{Follows, landings_of, waiting}
use Rattle.lower_model.specs.Lowered.{Comes, Spot, code_ways}
use Rattle.lower_model.proofs.CodeWays.{are-ways, loop-stays}
use Rattle.lower_model.proofs.Lists.{same-head, same-tail}
use Rattle.lower_model.proofs.TaskWays.{task-stays}

module _ (code : Code) where
  abbrev W : Ways Spot
  W = code_ways code

  abbrev pub belows : List OpenedTrap → List (List Value)
  belows traps = map (λ t. t.below) traps

  -- from the point on there is a way through the tasks, in traps in which waits what waits there
  pub record Ready (ts : List Task) (p : Spot) (loop : Option (Turns Spot)) (traps : List OpenedTrap) : Type 0 where
    pub way : TasksOver W ts p loop
    pub landings : p.landings ≡ landings_of traps
    pub below : waiting ts ≡ belows traps

  pub ready-follows : (l : Local) (ts : List Task) (p : Spot) (loop : Option (Turns Spot)) (traps : List OpenedTrap) → Ready ts p loop traps → Follows code (doing l ts) (standing p.place traps l)
  ready-follows l ts p loop traps r =
      record { local = refl; way = (loop, subst (λ x. TasksOver W ts (record { place = p.place; landings = x }) loop) r.landings r.way); below = r.below }

  -- ---- panics

  abbrev Caught : Local → Value → List Task → List OpenedTrap → Type 0
  Caught l e ts traps = Both (Follows code) (caught l e ts) (lands l e traps)

  nothing-lands : (l : Local) (e : Value) (traps : List OpenedTrap) → [] ≡ belows traps → Caught l e [] traps
  nothing-lands l e [] is = tt
  nothing-lands l e (t ∷ traps) is = absurd (let bad : ⊥ = cc in bad)

  it-lands : (l : Local) (e : Value) (vs : List Value) (ts : List Task) (p : Spot) (loop : Option (Turns Spot)) (traps : List OpenedTrap) → TasksOver W (Guard vs ∷ ts) p loop → p.landings ≡ landings_of traps → vs ∷ waiting ts ≡ belows traps → Caught l e (Guard vs ∷ ts) traps
  it-lands l e vs ts p loop [] way ls w = absurd (let bad : ⊥ = cc in bad)
  it-lands l e vs ts p loop (t ∷ traps) (m, q, outer, none, c, (landing, (h, is, leaves, goes)), f) ls w =
      let all : landing ∷ q.landings ≡ t.landing ∷ landings_of traps = sym is ∙ c.1 ∙ ls in
      let there = same-head landing t.landing q.landings (landings_of traps) all in
      let others = same-tail landing t.landing q.landings (landings_of traps) all in
      record {
        local = ap (λ v. with_stack l (e ∷ v)) (same-head vs t.below (waiting ts) (belows traps) w);
        way = (outer, comes-over W (are-ways code) ts outer (subst (λ x. Comes code x q.place) there goes, others) f);
        below = same-tail vs t.below (waiting ts) (belows traps) w;
      }

  pub catches : (ts : List Task) (l : Local) (e : Value) (p : Spot) (loop : Option (Turns Spot)) (traps : List OpenedTrap) → TasksOver W ts p loop → p.landings ≡ landings_of traps → waiting ts ≡ belows traps → Caught l e ts traps
  catches [] l e p loop traps way ls w = nothing-lands l e traps w
  catches (Guard vs ∷ ts) l e p loop traps way ls w = it-lands l e vs ts p loop traps way ls w
  catches (Turn t ∷ ts) l e p loop traps (k, outer, is, c, at, f) ls w = catches ts l e k.exit outer traps f (loop-stays code t (λ l. BlockOver W (body_of t) (Some l)) k at ∙ c.1 ∙ ls) w
  catches (Eval x ∷ ts) l e p loop traps (m, q, c, at, f) ls w = catches ts l e q loop traps f (task-stays code (Eval x) loop m q at ∙ c.1 ∙ ls) w
  catches (Exec x ∷ ts) l e p loop traps (m, q, c, at, f) ls w = catches ts l e q loop traps f (task-stays code (Exec x) loop m q at ∙ c.1 ∙ ls) w
  catches (Do op ∷ ts) l e p loop traps (m, q, c, at, f) ls w = catches ts l e q loop traps f (task-stays code (Do op) loop m q at ∙ c.1 ∙ ls) w
  catches (Get x y ∷ ts) l e p loop traps (m, q, c, at, f) ls w = catches ts l e q loop traps f (task-stays code (Get x y) loop m q at ∙ c.1 ∙ ls) w
  catches (Choose a b ∷ ts) l e p loop traps (m, q, c, at, f) ls w = catches ts l e q loop traps f (task-stays code (Choose a b) loop m q at ∙ c.1 ∙ ls) w
