-- What each operation of a package is, each operation is for which a frame of it asks. So frames of a package without `start` ask for none.
use Rattle.std.proofs.Common.{◌≡◌, ◌≢◌, ◌∙◌, ℕ, List, [], ◌∷◌, Option, Some, None, refl, sym, subst, ap, inl, inr, arith, true, false}
use Rattle.std.specs.Prelude.{Contains, option_map}
use Rattle.std.proofs.lemmas.Option.{none-some}
use Rattle.type_model.specs.declared.atoms.AtomDef.{AtomDef}
use Rattle.operations.specs.declared.operation.Operation.{Operation}
use Rattle.operations.specs.declared.operation.Operation.TheVariants as op
use Rattle.typed_tree.specs.declared.package.TypedPackage.{TypedPackage}
use Rattle.typed_tree.specs.Units.{UnitTree, unit_at}
use Rattle.value_model.specs.declared.filler.Filler.{Filler}
use Rattle.value_model.specs.declared.value.Value.{Value}
use Rattle.value_model.specs.declared.value.Value.TheVariants.{Bool as Truth}
use Rattle.value_model.specs.Meaning.{Answers}
use Rattle.op_model.specs.Local.{Act, Later as Awaited, Local, Never, Now, acts}
use Rattle.machine_model.specs.Machine.{Ask, On, Does, Stuck, Machine, asks, captured_slots}
use Rattle.machine_model.proofs.Once.{some-same}
use Rattle.eval_model.specs.Laws.{HasWay}
use Rattle.eval_model.specs.TaskWalk.{TasksOver}
use Rattle.eval_model.specs.Tasks.{Branch, Choose, Do, Doing, Eval, Exec, Get, Guard, Task, Turn, doing}
use Rattle.eval_model.specs.Trees.{body_tasks, caught, chosen, entered, next_of, trees}
use Rattle.eval_model.specs.Ways.{AreWays}
use Rattle.eval_model.proofs.TaskWalk.{choices-keep, evals-keep, execs-keep, turns-keep}
use Rattle.worker_waits.proofs.Asking.{ActsAre, acts-are}
use Rattle.lowered_ends.specs.Starting.{AwaitsNamed, DoesOnly, HasNoStart, StartsNone, WaitsAreNamed, only}
use Rattle.lowered_ends.proofs.Frames.{AreKept}

-- ---- ways of operations

only-ways : (P : Operation → Type 0) → AreWays (only P)
only-ways P = record { here = λ p. tt; come = λ p q r a b. tt; stays = λ p. tt; opens = λ p a b q g. tt; closes = λ p a b q g. tt; ends = λ p q a e. tt }

-- ---- what a frame asks

abbrev op_of : Ask Doing → Operation
op_of (On x) = op.Pop
op_of (Does o vs k) = o
op_of Stuck = op.Pop

abbrev left_of : Ask Doing → List Task
left_of (On x) = x.tasks
left_of (Does o vs k) = k.tasks
left_of Stuck = []

asks-left : (ts : List Task) (act : Act) (o : Operation) (vs : List Value) (k : Doing) → asks (λ m. doing m ts) act ≡ Does o vs k → k.tasks ≡ ts
asks-left ts (Now l) o vs k e = absurd (let q : ⊥ = cc in q)
asks-left ts (Awaited other us l) o vs k e = sym (ap left_of e)
asks-left ts Never o vs k e = absurd (let q : ⊥ = cc in q)

goes-left : (ts : List Task) (act : Act) (b : Doing) → asks (λ m. doing m ts) act ≡ On b → b.tasks ≡ ts
goes-left ts (Now l) b e = sym (ap left_of e)
goes-left ts (Awaited other us l) b e = absurd (let q : ⊥ = cc in q)
goes-left ts Never b e = absurd (let q : ⊥ = cc in q)

pub choice-asks : (first second : Branch) (ts : List Task) (l : Local) (stack : List Value) (o : Operation) (vs : List Value) (k : Doing) → chosen first second ts l stack ≡ Does o vs k → ⊥
choice-asks first second ts l (Truth true ∷ rest) o vs k e = cc
choice-asks first second ts l (Truth false ∷ rest) o vs k e = cc
choice-asks first second ts l _ o vs k e = cc

-- ---- where each operation is one of these, loads and ticks among them

module _ (P : Operation → Type 0) (loads : (slot : ℕ) → P (op.Load slot)) (tick : P op.Tick) where
  -- there is a way through what a frame still has to do
  abbrev Goes : List Task → Type 0
  Goes ts = HasWay (only P) ts tt

  behind : (t : Task) (ts : List Task) → Goes (t ∷ ts) → Goes ts
  behind (Turn loop) ts (around, (l, outer, same, comes, turns, rest)) = (outer, rest)
  behind (Guard vs) ts (around, (m, q, outer, same, comes, closes, rest)) = (outer, rest)
  behind (Eval e) ts (around, (m, q, comes, over, rest)) = (around, rest)
  behind (Exec s) ts (around, (m, q, comes, over, rest)) = (around, rest)
  behind (Do o) ts (around, (m, q, comes, over, rest)) = (around, rest)
  behind (Get slot narrowed) ts (around, (m, q, comes, over, rest)) = (around, rest)
  behind (Choose first second) ts (around, (m, q, comes, over, rest)) = (around, rest)

  does-this : (o : Operation) (ts : List Task) → Goes (Do o ∷ ts) → P o
  does-this o ts (around, (m, q, comes, over, rest)) = over

  -- the operation is this one, or a load
  asked-one : (first : Operation) (ts : List Task) (act : Act) → ActsAre first act → P first → (o : Operation) (vs : List Value) (k : Doing) → asks (λ m. doing m ts) act ≡ Does o vs k → P o
  asked-one first ts (Now l) are h o vs k e = absurd (let q : ⊥ = cc in q)
  asked-one first ts (Awaited other us l) (inl is) h o vs k e = subst P (sym is ∙ ap op_of e) h
  asked-one first ts (Awaited other us l) (inr (slot, is)) h o vs k e = subst P (sym is ∙ ap op_of e) (loads slot)
  asked-one first ts Never are h o vs k e = absurd (let q : ⊥ = cc in q)

  module _ (captured : List ℕ) (l : Local) where
    choice-goes : (first second : Branch) (ts : List Task) → Goes (Choose first second ∷ ts) → (stack : List Value) (b : Doing) → chosen first second ts l stack ≡ On b → Goes b.tasks
    choice-goes first second ts way (Truth true ∷ rest) b e = subst Goes (ap left_of e) ((choices-keep (only P) (only-ways P) first second ts tt way).5)
    choice-goes first second ts way (Truth false ∷ rest) b e = subst Goes (ap left_of e) ((choices-keep (only P) (only-ways P) first second ts tt way).7)
    choice-goes first second ts way _ b e = absurd (let q : ⊥ = cc in q)

    goes-on : (ts : List Task) (b : Doing) → Goes ts → next_of captured l ts ≡ On b → Goes b.tasks
    goes-on [] b way e = absurd (let q : ⊥ = cc in q)
    goes-on (Eval x ∷ ts) b way e = subst Goes (ap left_of e) ((evals-keep (only P) (only-ways P) x l.stack ts tt way).4)
    goes-on (Exec s ∷ ts) b way e = subst Goes (ap left_of e) ((execs-keep (only P) (only-ways P) s ts tt way).2)
    goes-on (Do o ∷ ts) b way e = subst Goes (sym (goes-left ts (acts captured o l) b e)) (behind (Do o) ts way)
    goes-on (Get slot narrowed ∷ ts) b way e = subst Goes (sym (goes-left ts (acts captured (op.Load slot) l) b e)) (behind (Get slot narrowed) ts way)
    goes-on (Choose first second ∷ ts) b way e = choice-goes first second ts way l.stack b e
    goes-on (Turn loop ∷ ts) b way e = subst Goes (ap left_of e) ((turns-keep (only P) (only-ways P) loop ts tt way).2)
    goes-on (Guard vs ∷ ts) b way e = subst Goes (ap left_of e) (behind (Guard vs) ts way)

    asks-one : (ts : List Task) (o : Operation) (vs : List Value) (k : Doing) → Goes ts → next_of captured l ts ≡ Does o vs k → P o × Goes k.tasks
    asks-one [] o vs k way e = absurd (let q : ⊥ = cc in q)
    asks-one (Eval x ∷ ts) o vs k way e = absurd (let q : ⊥ = cc in q)
    asks-one (Exec s ∷ ts) o vs k way e = absurd (let q : ⊥ = cc in q)
    asks-one (Do first ∷ ts) o vs k way e = (
      asked-one first ts (acts captured first l) (acts-are captured first l) (does-this first ts way) o vs k e,
      subst Goes (sym (asks-left ts (acts captured first l) o vs k e)) (behind (Do first) ts way),
    )
    asks-one (Get slot narrowed ∷ ts) o vs k way e = (
      asked-one (op.Load slot) ts (acts captured (op.Load slot) l) (acts-are captured (op.Load slot) l) (loads slot) o vs k e,
      subst Goes (sym (asks-left ts (acts captured (op.Load slot) l) o vs k e)) (behind (Get slot narrowed) ts way),
    )
    asks-one (Choose first second ∷ ts) o vs k way e = absurd (choice-asks first second ts l l.stack o vs k e)
    asks-one (Turn loop ∷ ts) o vs k way e = absurd (let q : ⊥ = cc in q)
    asks-one (Guard us ∷ ts) o vs k way e = absurd (let q : ⊥ = cc in q)

  lands-on : (l : Local) (e : Value) (ts : List Task) (x : Doing) → Goes ts → caught l e ts ≡ Some x → Goes x.tasks
  lands-on l e [] x way is = absurd (none-some x is)
  lands-on l e (Guard vs ∷ ts) x way is = subst (λ d. Goes d.tasks) (some-same _ x is) (behind (Guard vs) ts way)
  lands-on l e (Eval y ∷ ts) x way is = lands-on l e ts x (behind (Eval y) ts way) is
  lands-on l e (Exec s ∷ ts) x way is = lands-on l e ts x (behind (Exec s) ts way) is
  lands-on l e (Do o ∷ ts) x way is = lands-on l e ts x (behind (Do o) ts way) is
  lands-on l e (Get slot narrowed ∷ ts) x way is = lands-on l e ts x (behind (Get slot narrowed) ts way) is
  lands-on l e (Choose first second ∷ ts) x way is = lands-on l e ts x (behind (Choose first second) ts way) is
  lands-on l e (Turn loop ∷ ts) x way is = lands-on l e ts x (behind (Turn loop) ts way) is

  enters-so : (p : TypedPackage) → DoesOnly P p → (unit : ℕ) (args : List Value) (x : Doing) → option_map (entered args) (unit_at p unit) ≡ Some x → Goes x.tasks
  enters-so p only-these unit args x e = by (unit_at p unit) (only-these unit) e
    where
      by : (o : Option UnitTree) → ((u : UnitTree) → o ≡ Some u → TasksOver (only P) (body_tasks u.body) tt None) → option_map (entered args) o ≡ Some x → Goes x.tasks
      by None h e = absurd (none-some x e)
      by (Some u) h e = subst (λ d. Goes d.tasks) (some-same (entered args u) x e) (None, (tt, tt, tt, tick, h u refl))

-- ---- packages

load-starts-none : (slot : ℕ) → StartsNone (op.Load slot)
load-starts-none slot (inl (unit, count, e)) = let q : ⊥ = cc in q
load-starts-none slot (inr (count, e)) = let q : ⊥ = cc in q

tick-starts-none : StartsNone op.Tick
tick-starts-none (inl (unit, count, e)) = let q : ⊥ = cc in q
tick-starts-none (inr (count, e)) = let q : ⊥ = cc in q

none-awaited : (w : ℕ) → Contains [] w → w ≢ 0
none-awaited w (k, lt, same) = absurd (omega (arith, lt))

-- what such a package's frame still has to do starts nothing, and waits for named workers and futures alone
abbrev pub AsksNone : Doing → Type 0
AsksNone d = HasWay (only StartsNone) d.tasks tt × HasWay (only AwaitsNamed) d.tasks tt

module _ (natives : Answers) (atoms : List AtomDef) (fillers : ℕ → List Filler) (p : TypedPackage) (none : HasNoStart p) (named : WaitsAreNamed p) where
  abbrev M : Machine Doing
  M = trees atoms fillers p

  abbrev slots : ℕ → List ℕ
  slots unit = captured_slots M.facts unit

  starts-nothing : (unit : ℕ) (d k : Doing) (o : Operation) (vs : List Value) → AsksNone d → M.look unit d ≡ Does o vs k → StartsNone o × HasWay (only StartsNone) k.tasks tt
  starts-nothing unit d k o vs way e = asks-one StartsNone load-starts-none tick-starts-none (slots unit) d.local d.tasks o vs k way.0 e

  pub awaits-named : (unit : ℕ) (d k : Doing) (o : Operation) (vs : List Value) → AsksNone d → M.look unit d ≡ Does o vs k → AwaitsNamed o × HasWay (only AwaitsNamed) k.tasks tt
  awaits-named unit d k o vs way e = asks-one AwaitsNamed (λ slot. none-awaited) none-awaited (slots unit) d.local d.tasks o vs k way.1 e

  pub kept-none : AreKept natives M AsksNone
  kept-none =
      record {
        goes = λ unit a b way e. (goes-on StartsNone load-starts-none tick-starts-none (slots unit) a.local a.tasks b way.0 e, goes-on AwaitsNamed (λ slot. none-awaited) none-awaited (slots unit) a.local a.tasks b way.1 e);
        asks = λ unit a k o vs way e. let h = starts-nothing unit a k o vs way e in (h.0, (h.1, (awaits-named unit a k o vs way e).1));
        resumes = λ k vs way. way;
        catches = λ k x e way is. (lands-on StartsNone load-starts-none tick-starts-none k.local e k.tasks x way.0 is, lands-on AwaitsNamed (λ slot. none-awaited) none-awaited k.local e k.tasks x way.1 is);
        enters = λ unit args x e. (enters-so StartsNone load-starts-none tick-starts-none p none unit args x e, enters-so AwaitsNamed (λ slot. none-awaited) none-awaited p named unit args x e);
      }
