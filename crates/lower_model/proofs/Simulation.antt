-- The code of a package does what the package means: a line for each task.
use Rattle.std.proofs.Common.{◌≡◌, ◌∙◌, ℕ, Bool, ◌+◌, ◌++◌, List, [], ◌∷◌, Option, Some, None, refl, sym, subst, ap, inl, ⊎_elim, true, false}
use Rattle.std.specs.Prelude.{slice_get}
use Rattle.type_model.specs.declared.atoms.AtomDef.{AtomDef}
use Rattle.type_model.specs.declared.basic.SemType.{SemType}
use Rattle.operations.specs.declared.operation.Operation.{Operation}
use Rattle.operations.specs.declared.operation.Operation.TheVariants.{Load, Test, Cast}
use Rattle.value_model.specs.declared.filler.Filler.{Filler}
use Rattle.value_model.specs.declared.value.Value.{Value}
use Rattle.value_model.specs.declared.value.Value.TheVariants.{Nil, Bool as Truth, Int, Str, Struct, Error, Function as FunctionValue, Future}
use Rattle.value_model.specs.Meaning.{Answers}
use Rattle.value_model.specs.Stands.{Belongs}
use Rattle.value_model.specs.World.{Gave}
use Rattle.typed_tree.specs.declared.expr.TypedExpr.{TypedExpr}
use Rattle.typed_tree.specs.declared.package.TypedPackage.{TypedPackage}
use Rattle.op_model.specs.Common.{Common, Caller}
use Rattle.op_model.specs.Effects.{lifted}
use Rattle.op_model.specs.ProgramFacts.{own_types}
use Rattle.op_model.specs.Local.{Local, Act, Now, Later, Never, acts, with_stack, pushed, loaded, taken, takes}
use Rattle.machine_model.specs.Machine.{Machine, Ask, On, Does, Stuck, asks as asks_of, captured_slots}
use Rattle.machine_model.specs.Following.{Quiet, here as stays, step as steps, pass as passes, Held, ComesTo}
use Rattle.machine_model.proofs.Quietly.{quietly}
use Rattle.eval_model.specs.Expressions.{eval}
use Rattle.eval_model.specs.Loops.{turn}
use Rattle.eval_model.specs.Narrowed.{AreFineTasks}
use Rattle.eval_model.specs.Statements.{branch, exec}
use Rattle.eval_model.specs.Tasks.{Branch, Task, Eval, Exec, Do, Get, Choose, Turn, Guard, Doing, doing}
use Rattle.eval_model.specs.TaskWalk.{TasksOver}
use Rattle.eval_model.specs.Trees.{chosen, next_of, trees}
use Rattle.eval_model.specs.Ways.{Turns, Ways}
use Rattle.eval_model.proofs.TaskWalk.{branch-over, exec-over, turn-over}
use Rattle.stack_code.specs.declared.code.Code.{Code}
use Rattle.stack_code.specs.Commands.{Command, Do as DoIt, GoToIfNot}
use Rattle.stack_code.specs.CodeMachine.{OpenedTrap, Standing, standing, branches, code_facts, codes, lands, obeys}
use Rattle.lower_model.specs.Following.{Follows, landings_of, waiting}
use Rattle.lower_model.specs.Lowered.{Closes, Comes, Has, IsSameOperation, Spot, after, by, cast, code_ways, here, inside, same, test}
use Rattle.lower_model.proofs.CodeWays.{are-ways}
use Rattle.lower_model.proofs.Entered.{Entered, entered}
use Rattle.lower_model.proofs.Guarded.{branch-leaves, eval-leaves, exec-leaves, opens_trap, turn-leaves, waits_too}
use Rattle.lower_model.proofs.SameOperations.{alike, casting, loading, same-talk}
use Rattle.lower_model.proofs.Landing.{Ready, belows, catches, ready-follows}
use Rattle.lower_model.proofs.Lists.{same-tail}

module _ (atoms : List AtomDef) (p : TypedPackage) (fillers : ℕ → List Filler) (code : Code) (natives : Answers) (caller : Caller) (common : Common) where
  abbrev M : Machine Doing
  M = trees atoms fillers p

  abbrev N : Machine Standing
  N = codes fillers code

  abbrev W : Ways Spot
  W = code_ways code

  abbrev Loops : Type 0
  Loops = Option (Turns Spot)

  abbrev captured : List ℕ
  captured = captured_slots (code_facts fillers code) caller.unit

  abbrev Goes : Standing → Standing → Type 0
  Goes = Quiet natives N caller common

  -- the frame of the code comes to what this frame asks
  abbrev pub Answer : Doing → Ask Doing → Standing → Type 0
  Answer = ComesTo M N (Follows code) natives caller common

  abbrev asks_for : ℕ → List OpenedTrap → Local → Option Command → Ask Standing
  asks_for place traps l o = obeys captured (standing place traps l) o

  jumps : (from to : ℕ) (traps : List OpenedTrap) (l : Local) → Comes code from to → Goes (standing from traps l) (standing to traps l)
  jumps from to traps l here = stays
  jumps from to traps l (by h c) = steps (ap (λ o. asks_for from traps l o) h) (jumps _ to traps l c)

  -- jumps before an answer
  after-jumps : (d : Doing) (ask : Ask Doing) (from to : ℕ) (traps : List OpenedTrap) (l : Local) → Comes code from to → Answer d ask (standing to traps l) → Answer d ask (standing from traps l)
  after-jumps d (On a) from to traps l c (e, q, r) = (e, quietly natives N (jumps from to traps l c) q, r)
  after-jumps d (Does op vs k) from to traps l c (e, m, other, q, is, like, held) = (e, m, other, quietly natives N (jumps from to traps l c) q, is, like, held)
  after-jumps d Stuck from to traps l c (e, q, is) = (e, quietly natives N (jumps from to traps l c) q, is)

  -- where nothing is to be done, the frame that follows follows still
  stands : (d : Doing) (l : Local) (ts : List Task) (q : Spot) (loop : Loops) (traps : List OpenedTrap) → Ready code ts q loop traps → Answer d (On (doing l ts)) (standing q.place traps l)
  stands d l ts q loop traps r = (standing q.place traps l, stays, ready-follows code l ts q loop traps r)

  -- ---- operations

  holds : (op also : Operation) → IsSameOperation op also → (d : Doing) (s : Standing) (l : Local) (ts : List Task) (q : Spot) (loop : Loops) (traps : List OpenedTrap) → Follows code d s → Ready code ts q loop traps → Held M N (Follows code) op also d s (doing l ts) (standing q.place traps l)
  holds op also is d s l ts q loop traps f r =
      record {
        talk = same-talk op also is;
        waits = λ goes. f;
        resumes = λ goes vs. ready-follows code (with_stack l (vs ++ l.stack)) ts q loop traps r;
        catches = λ e. catches code ts l e q loop traps r.way r.landings r.below;
      }

  one-answers : (d : Doing) (l : Local) (ts : List Task) (m : Spot) (loop : Loops) (traps : List OpenedTrap) (act : Act) → N.look caller.unit (standing m.place traps l) ≡ asks_of (standing (m.place + 1) traps) act → Follows code d (standing m.place traps l) → Ready code ts (after m) loop traps → Answer d (asks_of (λ x. doing x ts) act) (standing m.place traps l)
  one-answers d l ts m loop traps (Now x) e f r = (standing (m.place + 1) traps x, steps e stays, ready-follows code x ts (after m) loop traps r)
  one-answers d l ts m loop traps (Later op vs x) e f r =
      (standing m.place traps l, standing (m.place + 1) traps x, op, stays, e, alike N.facts natives op op same, holds op op same d (standing m.place traps l) x ts (after m) loop traps f r)
  one-answers d l ts m loop traps Never e f r = (standing m.place traps l, stays, e)

  -- how an operation that takes one operand begins
  abbrev one_taken : Operation → Local → List Value → Act
  one_taken op l [] = Never
  one_taken op l (v ∷ rest) = Later op (v ∷ []) (with_stack l rest)

  unary-answers : (d : Doing) (op also : Operation) (l : Local) (stack : List Value) (ts : List Task) (m : Spot) (loop : Loops) (traps : List OpenedTrap) → IsSameOperation op also → N.look caller.unit (standing m.place traps l) ≡ asks_of (standing (m.place + 1) traps) (one_taken also l stack) → Follows code d (standing m.place traps l) → Ready code ts (after m) loop traps → Answer d (asks_of (λ x. doing x ts) (one_taken op l stack)) (standing m.place traps l)
  unary-answers d op also l [] ts m loop traps is e f r = (standing m.place traps l, stays, e)
  unary-answers d op also l (v ∷ rest) ts m loop traps is e f r = (
    standing m.place traps l,
    standing (m.place + 1) traps (with_stack l rest),
    also,
    stays,
    e,
    alike N.facts natives op also is,
    holds op also is d (standing m.place traps l) (with_stack l rest) ts (after m) loop traps f r,
  )

  one-taken : (op : Operation) (l : Local) → takes op l 1 ≡ one_taken op l l.stack
  one-taken op l = by-stack l.stack
    where
      by-stack : (stack : List Value) → taken op l 1 [] stack ≡ one_taken op l stack
      by-stack [] = refl
      by-stack (v ∷ rest) = refl

  op-answers : (d : Doing) (op also : Operation) (l : Local) (ts : List Task) (m : Spot) (loop : Loops) (traps : List OpenedTrap) → IsSameOperation op also → Has code m.place (DoIt also) → Follows code d (standing m.place traps l) → Ready code ts (after m) loop traps → Answer d (asks_of (λ x. doing x ts) (acts captured op l)) (standing m.place traps l)
  op-answers d op _ l ts m loop traps same h f r = one-answers d l ts m loop traps (acts captured op l) (ap (λ o. asks_for m.place traps l o) h) f r
  op-answers d _ _ l ts m loop traps (test {s = s} {t = t} e) h f r =
      subst (λ a. Answer d (asks_of (λ x. doing x ts) a) (standing m.place traps l)) (sym (one-taken (Test s) l))
      (unary-answers d (Test s) (Test t) l l.stack ts m loop traps (test e) (ap (λ o. asks_for m.place traps l o) h ∙ ap (λ a. asks_of (standing (m.place + 1) traps) a) (one-taken (Test t) l)) f r)
  op-answers d _ _ l ts m loop traps (cast {s = s} {t = t} e) h f r =
      subst (λ a. Answer d (asks_of (λ x. doing x ts) a) (standing m.place traps l)) (sym (one-taken (Cast s) l))
      (unary-answers d (Cast s) (Cast t) l l.stack ts m loop traps (cast e) (ap (λ o. asks_for m.place traps l o) h ∙ ap (λ a. asks_of (standing (m.place + 1) traps) a) (one-taken (Cast t) l)) f r)

  -- ---- narrowed variables

  abbrev HoldsHere : Local → ℕ → SemType → Type 0
  HoldsHere l slot t = (v : Value) × (slice_get l.slots slot ≡ Some (Some v)) × Belongs (own_types N.facts) common.world.heap v t

  -- the cast behind a load gives back what was loaded
  loaded-answers : (d : Doing) (slot : ℕ) (t : SemType) (l : Local) (ts : List Task) (m : Spot) (loop : Loops) (traps : List OpenedTrap) → HoldsHere l slot t → Has code m.place (DoIt (Load slot)) → Has code (m.place + 1) (DoIt (Cast t)) → Ready code ts (after (after m)) loop traps → Answer d (asks_of (λ x. doing x ts) (acts captured (Load slot) l)) (standing m.place traps l)
  loaded-answers d slot t l ts m loop traps (v, is, belongs) load casts r =
      let x = pushed l v in
      let act : acts captured (Load slot) l ≡ Now x = ap (λ found. loaded l slot found) is in
      let look : N.look caller.unit (standing m.place traps l) ≡ On (standing (m.place + 1) traps x) = ap (λ o. asks_for m.place traps l o) load ∙ ap (λ a. asks_of (standing (m.place + 1) traps) a) act in
      subst (λ a. Answer d (asks_of (λ x. doing x ts) a) (standing m.place traps l)) (sym act) (
        standing (m.place + 1 + 1) traps x,
        steps look
            (passes (ap (λ o. asks_for (m.place + 1) traps x o) casts) (Gave (v ∷ []) common.world, inl (belongs, refl), refl)
            (λ effect h. h.2 ∙ ap (lifted common) (⊎_elim (λ y. y.1) (λ y. absurd (y.0 belongs)) h.1))
            stays),
        ready-follows code x ts (after (after m)) loop traps r,
      )

  -- ---- choices

  fork-answers : (d : Doing) (x y : Branch) (ts : List Task) (l : Local) (stack : List Value) (m a b : Spot) (traps : List OpenedTrap) → Has code m.place (GoToIfNot b.place) → l.stack ≡ stack → ((loop : Loops) × Ready code (branch x ts) (after m) loop traps) → ((loop : Loops) × Ready code (branch y ts) b loop traps) → Answer d (chosen x y ts l stack) (standing m.place traps l)
  fork-answers d x y ts l stack m a b traps h is first second = by-stack stack is
    where
      look : (stack : List Value) → l.stack ≡ stack → N.look caller.unit (standing m.place traps l) ≡ branches (m.place + 1) b.place traps l stack
      look stack is = ap (λ o. asks_for m.place traps l o) h ∙ ap (λ s. branches (m.place + 1) b.place traps l s) is

      by-stack : (stack : List Value) → l.stack ≡ stack → Answer d (chosen x y ts l stack) (standing m.place traps l)
      by-stack (Truth true ∷ rest) is =
          (standing (m.place + 1) traps (with_stack l rest), steps (look (Truth true ∷ rest) is) stays, ready-follows code (with_stack l rest) (branch x ts) (after m) first.0 traps first.1)
      by-stack (Truth false ∷ rest) is =
          (standing b.place traps (with_stack l rest), steps (look (Truth false ∷ rest) is) stays, ready-follows code (with_stack l rest) (branch y ts) b second.0 traps second.1)
      by-stack (Nil ∷ rest) is = (standing m.place traps l, stays, look (Nil ∷ rest) is)
      by-stack (Int z ∷ rest) is = (standing m.place traps l, stays, look (Int z ∷ rest) is)
      by-stack (Str z ∷ rest) is = (standing m.place traps l, stays, look (Str z ∷ rest) is)
      by-stack (Struct z ∷ rest) is = (standing m.place traps l, stays, look (Struct z ∷ rest) is)
      by-stack (Error z ∷ rest) is = (standing m.place traps l, stays, look (Error z ∷ rest) is)
      by-stack (FunctionValue z ∷ rest) is = (standing m.place traps l, stays, look (FunctionValue z ∷ rest) is)
      by-stack (Future u z ∷ rest) is = (standing m.place traps l, stays, look (Future u z ∷ rest) is)
      by-stack [] is = (standing m.place traps l, stays, look [] is)

  -- ---- tasks, each at the point where it begins

  eval-answers : (e : TypedExpr) (l : Local) (ts : List Task) (m a : Spot) (loop : Loops) (traps : List OpenedTrap) (opens : Bool) → m.landings ≡ landings_of traps → waiting ts ≡ belows code traps → Entered code opens m a → TasksOver W (eval e l.stack ts) a loop → waiting (eval e l.stack ts) ≡ waits_too opens l.stack (waiting ts) → Answer (doing l (Eval e ∷ ts)) (On (doing l (eval e l.stack ts))) (standing m.place traps l)
  eval-answers e l ts m a loop traps false ls w is f v =
      stands (doing l (Eval e ∷ ts)) l (eval e l.stack ts) m loop traps (record { way = subst (λ x. TasksOver W (eval e l.stack ts) x loop) is f; landings = ls; below = v ∙ w })
  eval-answers e l ts m a loop traps true ls w (landing, (h, is)) f v =
      let new : OpenedTrap = record { landing = landing; below = l.stack } in (
        standing (m.place + 1) (new ∷ traps) l,
        steps (ap (λ o. asks_for m.place traps l o) h) stays,
        ready-follows code l (eval e l.stack ts) (inside landing m) loop (new ∷ traps)
            (record { way = subst (λ x. TasksOver W (eval e l.stack ts) x loop) is f; landings = ap (λ x. landing ∷ x) ls; below = v ∙ ap (λ x. l.stack ∷ x) w }),
      )

  guard-answers : (vs : List Value) (l : Local) (ts : List Task) (m q : Spot) (loop : Loops) (traps : List OpenedTrap) (landing : ℕ) → Closes code landing m q → TasksOver W ts q loop → m.landings ≡ landings_of traps → vs ∷ waiting ts ≡ belows code traps → Answer (doing l (Guard vs ∷ ts)) (On (doing l ts)) (standing m.place traps l)
  guard-answers vs l ts m q loop [] landing c f ls w = absurd (let bad : ⊥ = cc in bad)
  guard-answers vs l ts m q loop (t ∷ traps) landing (h, is, leaves, lands) f ls w =
      let look : N.look caller.unit (standing m.place (t ∷ traps) l) ≡ On (standing (m.place + 1) traps l) = ap (λ o. asks_for m.place (t ∷ traps) l o) h in (
        standing q.place traps l,
        steps look (jumps (m.place + 1) q.place traps l leaves),
        ready-follows code l ts q loop traps
            (record { way = f; landings = same-tail landing t.landing q.landings (landings_of traps) (sym is ∙ ls); below = same-tail vs t.below (waiting ts) (belows code traps) w }),
      )

  -- every task
  pub task-answers : (l : Local) (ts : List Task) (q : Spot) (loop : Loops) (traps : List OpenedTrap) → AreFineTasks N.facts common l ts → TasksOver W ts q loop → q.landings ≡ landings_of traps → waiting ts ≡ belows code traps → Answer (doing l ts) (next_of captured l ts) (standing q.place traps l)
  task-answers l [] q loop traps fine f ls w = absurd fine
  task-answers l (Eval e ∷ ts) q loop traps fine (m, n, c, at, f) ls w =
      let g = entered code e l.stack ts m n loop at f in
      after-jumps (doing l (Eval e ∷ ts)) (On (doing l (eval e l.stack ts))) q.place m.place traps l c.0
      (eval-answers e l ts m g.0 g.1 traps (opens_trap e) (c.1 ∙ ls) w g.2 g.3 (eval-leaves e l.stack ts))
  task-answers l (Exec s ∷ ts) q loop traps fine (m, n, c, at, f) ls w =
      let g = exec-over W (are-ways code) s ts m n loop at f in
      after-jumps (doing l (Exec s ∷ ts)) (On (doing l (exec s ts))) q.place m.place traps l c.0
      (stands (doing l (Exec s ∷ ts)) l (exec s ts) m g.0 traps (record { way = g.1; landings = c.1 ∙ ls; below = exec-leaves W s ts q loop (m, n, c, at, f) ∙ w }))
  task-answers l (Do op ∷ ts) q loop traps fine (m, n, c, ((also, h, e), is), f) ls w =
      let d = doing l (Do op ∷ ts) in
      let g = subst (λ x. TasksOver W ts x loop) is f in
      after-jumps d (asks_of (λ x. doing x ts) (acts captured op l)) q.place m.place traps l c.0
      (op-answers d op also l ts m loop traps e h (ready-follows code l (Do op ∷ ts) m loop traps (record { way = (m, after m, (here, refl), ((also, h, e), refl), g); landings = c.1 ∙ ls; below = w })) (record { way = g; landings = c.1 ∙ ls; below = w }))
  task-answers l (Get slot None ∷ ts) q loop traps fine (m, n, c, ((also, h, e), is), f) ls w =
      let d = doing l (Get slot None ∷ ts) in
      let g = subst (λ x. TasksOver W ts x loop) is f in
      after-jumps d (asks_of (λ x. doing x ts) (acts captured (Load slot) l)) q.place m.place traps l c.0
      (op-answers d (Load slot) also l ts m loop traps e h (ready-follows code l (Get slot None ∷ ts) m loop traps (record { way = (m, after m, (here, refl), ((also, h, e), refl), g); landings = c.1 ∙ ls; below = w })) (record { way = g; landings = c.1 ∙ ls; below = w }))
  task-answers l (Get slot (Some t) ∷ ts) q loop traps (v, (held, belongs)) (m, n, c, (k, ((first, h, e), is), ((also, h', e'), is')), f) ls w =
      let cast_to = casting N.facts common t also e' in
      let load = subst (λ o. Has code m.place (DoIt o)) (loading N.facts slot first e) h in
      let casts = subst (λ x. Has code x.place (DoIt (Cast cast_to.0))) is (subst (λ o. Has code k.place (DoIt o)) cast_to.2 h') in
      let g = subst (λ x. TasksOver W ts x loop) (is' ∙ ap (λ x. after x) is) f in
      after-jumps (doing l (Get slot (Some t) ∷ ts)) (asks_of (λ x. doing x ts) (acts captured (Load slot) l)) q.place m.place traps l c.0
      (loaded-answers (doing l (Get slot (Some t) ∷ ts)) slot cast_to.0 l ts m loop traps (v, held, cast_to.1 v belongs) load casts (record { way = g; landings = c.1 ∙ ls; below = w }))
  task-answers l (Choose x y ∷ ts) q loop traps fine (m, n, c, (a, b, (t, is), first, (u, as_well), second), f) ls w =
      let i = branch-over W (are-ways code) x ts a n loop first f in
      let j = branch-over W (are-ways code) y ts b n loop second f in
      after-jumps (doing l (Choose x y ∷ ts)) (chosen x y ts l l.stack) q.place m.place traps l c.0
      (fork-answers (doing l (Choose x y ∷ ts)) x y ts l l.stack m a b traps u refl
      (i.0, record { way = subst (λ z. TasksOver W (branch x ts) z i.0) is i.1; landings = c.1 ∙ ls; below = branch-leaves x ts ∙ w })
      (j.0, record { way = j.1; landings = as_well ∙ c.1 ∙ ls; below = branch-leaves y ts ∙ w }))
  task-answers l (Turn turning ∷ ts) q loop traps fine (k, outer, is, c, at, f) ls w =
      after-jumps (doing l (Turn turning ∷ ts)) (On (doing l (turn turning ts))) q.place k.head.place traps l c.0
      (stands (doing l (Turn turning ∷ ts)) l (turn turning ts) k.head outer traps (record { way = turn-over W (are-ways code) turning ts k outer at f; landings = c.1 ∙ ls; below = turn-leaves turning ts ∙ w }))
  task-answers l (Guard vs ∷ ts) q loop traps fine (m, n, outer, none, c, (landing, end), f) ls w =
      after-jumps (doing l (Guard vs ∷ ts)) (On (doing l ts)) q.place m.place traps l c.0 (guard-answers vs l ts m n outer traps landing end f (c.1 ∙ ls) w)
