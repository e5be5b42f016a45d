-- A package and the one whose variables are read as declared have the same outcomes.
use Rattle.std.proofs.Common.{◌≡◌, ◌++◌, ◌∙◌, ℕ, Bool, true, false, List, [], ◌∷◌, Option, Some, None, length, refl, sym, subst, ap}
use Rattle.std.specs.Prelude.{map, option_map, ⊤}
use Rattle.std.specs.List.{AllZip}
use denote.Hole.Carrier
use Rattle.bal_base.specs.declared.place.Place.{Place}
use Rattle.type_model.specs.declared.atoms.AtomDef.{AtomDef}
use Rattle.operations.specs.declared.operation.Constant.TheVariants as constant
use Rattle.operations.specs.declared.operation.Operation.TheVariants.{Const, Load, StoreModule}
use Rattle.value_model.specs.declared.filler.Filler.{Filler}
use Rattle.value_model.specs.declared.value.Value.{Value}
use Rattle.value_model.specs.declared.value.Value.TheVariants.{Nil, Bool as Truth, Int, Str, Struct, Error, Function as FunctionValue, Future}
use Rattle.value_model.specs.Meaning.{Answers}
use Rattle.typed_tree.specs.declared.expr.TypedExpr.{Implied, out-TypedExpr}
use Rattle.typed_tree.specs.declared.package.Initial.{Initial}
use Rattle.typed_tree.specs.declared.package.TypedPackage.{TypedPackage}
use Rattle.typed_tree.specs.declared.stmt.TypedStmt.{TypedStmt}
use Rattle.typed_tree.specs.declared.unit.TypedBody.TheVariants.{Block as BlockBody, Expr as ValueBody}
use Rattle.typed_tree.specs.declared.unit.TypedWorker.{TypedWorker}
use Rattle.typed_tree.specs.SharedTypes.{Shared}
use Rattle.typed_tree.specs.Units.{UnitBody, UnitTree, unit_at}
use Rattle.op_model.specs.Common.{Common, Caller}
use Rattle.op_model.specs.Levels.{numbers_from}
use Rattle.op_model.specs.Local.{Act, Later, Local, Never, Now, acts, pushed, with_stack}
use Rattle.machine_model.specs.Following.{Both, ComesTo, FramesFollow, here, step}
use Rattle.machine_model.specs.Machine.{Ask, Machine, On, Stuck, asks as asks_of, captured_slots, first_slots, words_of}
use Rattle.machine_model.proofs.SameOutcomes.{followers-do-the-same}
use Rattle.eval_model.specs.Expressions.{eval}
use Rattle.eval_model.specs.Statements.{branch, exec, exec_layer}
use Rattle.eval_model.specs.Tasks.{Block, Branch, Choose, Do, Doing, Eval, Exec, Get, Guard, Task, Turn, doing, execs}
use Rattle.eval_model.specs.Trees.{at_end, body_tasks, caught, chosen, entered, facts_of, initialises, launch_of, next_of, starts_named, trees, unit_facts, worker_facts, workers_in}
use Rattle.eval_model.proofs.Settled.{doing-settles}
use Rattle.declared_reads.specs.Declared.{AreDeclared, IsDeclared, IsDeclaredInitial, IsDeclaredWorker, IsEnd, IsNever}
use Rattle.declared_reads.specs.Laws.{DeclaredDoesTheSame}
use Rattle.declared_reads.proofs.Following.{SameBranch, SameTasks, branch-same, chooses_so, does_so, eval-same, evals_so, exec-same, execs-same, execs_so, gets_so, guards_so, more, never, none, turn-same, turns_so}
use Rattle.declared_reads.proofs.Units.{IsBody, IsUnit, of_anonymous, of_function, of_initialiser, of_worker, unit-zip}

-- ---- what units do

pub execs-append : (ss us : List TypedStmt) (ts : List Task) → execs (ss ++ us) ts ≡ execs ss (execs us ts)
execs-append [] us ts = refl
execs-append (s ∷ ss) us ts = ap (λ x. Exec s ∷ x) (execs-append ss us ts)

end-same : (ends : Bool) (end : List TypedStmt) → IsEnd ends end → SameTasks (at_end ends) (execs end (at_end ends))
end-same true end is = subst (λ ss. SameTasks (at_end true) (execs ss (at_end true))) (sym is) (more (does_so _) (more (does_so _) none))
end-same false end (s, is, stuck) = subst (λ ss. SameTasks [] (execs ss [])) (sym is) (never s stuck)

ended-same : (ends : Bool) (ss us : List TypedStmt) → AreDeclared ends ss us → SameTasks (execs ss (at_end ends)) (execs us (at_end ends))
ended-same ends ss us (vs, end, z, last, is) =
    subst (λ x. SameTasks (execs ss (at_end ends)) x) (sym (ap (λ xs. execs xs (at_end ends)) is ∙ execs-append vs end (at_end ends)))
    (execs-same ss vs z (end-same ends end last))

named-same : (ws vs : List TypedWorker) {ts us : List Task} → AllZip IsDeclaredWorker ws vs → SameTasks ts us → SameTasks (starts_named ws ts) (starts_named vs us)
named-same [] [] z h = h
named-same [] (v ∷ vs) z h = absurd z
named-same (w ∷ ws) [] z h = absurd z
named-same (w ∷ ws) (v ∷ vs) z h = more (does_so _) h

values-same : (vs ws : List Initial) {ts us : List Task} → AllZip IsDeclaredInitial vs ws → SameTasks ts us → SameTasks (initialises vs ts) (initialises ws us)
values-same [] [] z h = h
values-same [] (w ∷ ws) z h = absurd z
values-same (v ∷ vs) [] z h = absurd z
values-same (v ∷ vs) (w ∷ ws) {ts} {us} z h =
    subst (λ n. SameTasks (initialises (v ∷ vs) ts) (Eval w.value.value ∷ Do (StoreModule n) ∷ initialises ws us)) (sym z.0.0)
    (more (evals_so v.value.value w.value.value z.0.1) (more (does_so _) (values-same vs ws z.1 h)))

body-same : {b c : UnitBody} → IsBody b c → SameTasks (body_tasks b) (body_tasks c)
body-same (of_function (BlockBody initial workers rest ends close) (BlockBody initial' workers' rest' ends' close') (first, crew, last, e)) =
    execs-same initial.items initial'.items first (named-same workers.items workers'.items crew
    (subst (λ x. SameTasks (execs rest.items (at_end ends)) (execs rest'.items (at_end x))) (sym e) (ended-same ends rest.items rest'.items last)))
body-same (of_function (ValueBody value) (ValueBody value') is) = more (evals_so value.value value'.value is) (more (does_so _) none)
body-same (of_function (BlockBody initial workers rest ends close) (ValueBody value) is) = absurd is
body-same (of_function (ValueBody value) (BlockBody initial workers rest ends close) is) = absurd is
body-same (of_worker ss us ends is) = ended-same ends ss us is
body-same (of_anonymous e f is) = more (evals_so e f is) (more (does_so _) none)
body-same (of_initialiser vs ws z) = values-same vs ws z (more (does_so _) (more (does_so _) none))

-- ---- what is known of them

worker-facts : (ws vs : List TypedWorker) → AllZip IsDeclaredWorker ws vs → map worker_facts ws ≡ map worker_facts vs
worker-facts [] [] z = refl
worker-facts [] (v ∷ vs) z = absurd z
worker-facts (w ∷ ws) [] z = absurd z
worker-facts (w ∷ ws) (v ∷ vs) z =
    λ i. record { unit = (sym z.0.unit i).number; captured = map (λ c. c.slot) (sym z.0.captured i) } ∷ worker-facts ws vs z.1 i

workers-same : {b c : UnitBody} → IsBody b c → workers_in b ≡ workers_in c
workers-same (of_function (BlockBody initial workers rest ends close) (BlockBody initial' workers' rest' ends' close') (first, crew, last, e)) = worker-facts workers.items workers'.items crew
workers-same (of_function (ValueBody value) (ValueBody value') is) = refl
workers-same (of_function (BlockBody initial workers rest ends close) (ValueBody value) is) = absurd is
workers-same (of_function (ValueBody value) (BlockBody initial workers rest ends close) is) = absurd is
workers-same (of_worker ss us ends is) = refl
workers-same (of_anonymous e f is) = refl
workers-same (of_initialiser vs ws z) = refl

known-same : (u v : UnitTree) → IsUnit u v → unit_facts (Some u) ≡ unit_facts (Some v)
known-same u v is =
    λ i. let x = sym is.unit i in record { params = x.params; rest = x.rest; arrow = x.arrow; future = x.future; workers = workers-same is.body i }

facts-same : (u v : Option UnitTree) → Both (IsUnit) u v → unit_facts u ≡ unit_facts v
facts-same (Some u) (Some v) is = known-same u v is
facts-same (Some u) None is = absurd is
facts-same None (Some v) is = absurd is
facts-same None None is = refl

told-same : (u v : Option UnitTree) → Both (IsUnit) u v → option_map (λ u. unit_facts (Some u)) u ≡ option_map (λ u. unit_facts (Some u)) v
told-same (Some u) (Some v) is = ap Some (known-same u v is)
told-same (Some u) None is = absurd is
told-same None (Some v) is = absurd is
told-same None None is = refl

pub launch-same : (p q : TypedPackage) → IsDeclared p q → launch_of p ≡ launch_of q
launch-same p q is =
    λ i. record {
      variables = length (sym is.variables i).items;
      main = sym is.start i;
      words = words_of ((told-same (unit_at p p.start) (unit_at q p.start) (unit-zip p q is p.start) ∙ ap (λ n. option_map (λ u. unit_facts (Some u)) (unit_at q n)) (sym is.start)) i) (sym is.words i);
    }

-- ---- the machines side by side

module _ (natives : Answers) (atoms : List AtomDef) (fillers : ℕ → List Filler) (p q : TypedPackage) (is : IsDeclared p q) where
  abbrev M : Machine Doing
  M = trees atoms fillers p

  abbrev N : Machine Doing
  N = trees atoms fillers q

  abbrev Same : List Task → List Task → Type 0
  Same = SameTasks

  pub record Follows (d e : Doing) : Type 0 where
    pub local : e.local ≡ d.local
    pub tasks : Same d.tasks e.tasks

  follows : (l : Local) {ts us : List Task} → Same ts us → Follows (doing l ts) (doing l us)
  follows l h = record { local = refl; tasks = h }

  initialisers-same : {A B : Type 0} (f : A → ℕ) (g : B → ℕ) (R : A → B → Type 0) → ((x : A) (y : B) → R x y → f x ≡ g y) → (xs : List A) (ys : List B) → AllZip R xs ys → map f xs ≡ map g ys
  initialisers-same f g R each [] [] z = refl
  initialisers-same f g R each [] (y ∷ ys) z = absurd z
  initialisers-same f g R each (x ∷ xs) [] z = absurd z
  initialisers-same f g R each (x ∷ xs) (y ∷ ys) z = λ i. each x y z.0 i ∷ initialisers-same f g R each xs ys z.1 i

  pub same-facts : facts_of atoms fillers p ≡ facts_of atoms fillers q
  same-facts =
      λ i. record {
        atoms = atoms;
        units = map (λ n. facts-same (unit_at p n) (unit_at q n) (unit-zip p q is n) i) (numbers_from 0 (sym is.units i));
        initialisers = initialisers-same (λ x. x.unit.number) (λ x. x.unit.number) _ (λ x y r. ap (λ u. u.number) (sym r.0)) p.initialisers.items q.initialisers.items is.initialisers i;
        fillers = fillers;
      }

  -- ---- panics

  catches : (l : Local) (e : Value) {ts us : List Task} → Same ts us → Both Follows (caught l e ts) (caught l e us)
  catches l e none = tt
  catches l e (never s stuck) = tt
  catches l e (more (guards_so vs) h) = follows (with_stack l (e ∷ vs)) h
  catches l e (more (evals_so x y z) h) = catches l e h
  catches l e (more (execs_so s u x) h) = catches l e h
  catches l e (more (does_so op) h) = catches l e h
  catches l e (more (gets_so slot s t) h) = catches l e h
  catches l e (more (chooses_so a b) h) = catches l e h
  catches l e (more (turns_so loop other x) h) = catches l e h

  module _ (caller : Caller) (common : Common) where
    abbrev captured : List ℕ
    captured = captured_slots (facts_of atoms fillers p) caller.unit

    abbrev Answer : Doing → Ask Doing → Doing → Type 0
    Answer = ComesTo M N Follows natives caller common

    looks : (l : Local) (us : List Task) → N.look caller.unit (doing l us) ≡ next_of captured l us
    looks l us = ap (λ facts. next_of (captured_slots facts caller.unit) l us) (sym same-facts)

    goes : (d : Doing) (l m : Local) {ts' us us' : List Task} → next_of captured l us ≡ On (doing m us') → Same ts' us' → Answer d (On (doing m ts')) (doing l us)
    goes d l m {ts'} {us} {us'} e h = (doing m us', step (looks l us ∙ e) here, follows m h)

    acts-answer : (l : Local) (ts us rest : List Task) (act : Act) → next_of captured l rest ≡ asks_of (λ m. doing m us) act → Same ts us → (d : Doing) → Follows d (doing l rest) → Answer d (asks_of (λ m. doing m ts) act) (doing l rest)
    acts-answer l ts us rest (Now m) e h d g = (doing m us, step (looks l rest ∙ e) here, follows m h)
    acts-answer l ts us rest (Later op vs m) e h d g = (
      doing l rest,
      doing m us,
      op,
      here,
      looks l rest ∙ e,
      (λ vs caller c effect. (λ x. x, λ x. x)),
      record {
        talk = refl;
        waits = λ x. g;
        resumes = λ x vs. follows (with_stack m (vs ++ m.stack)) h;
        catches = λ x. catches m x h;
      },
    )
    acts-answer l ts us rest Never e h d g = (doing l rest, here, looks l rest ∙ e)

    choice-answers : (l : Local) (a b c d : Branch) {ts us : List Task} → SameBranch a c → SameBranch b d → Same ts us → (stack : List Value) → l.stack ≡ stack → Answer (doing l (Choose a b ∷ ts)) (chosen a b ts l stack) (doing l (Choose c d ∷ us))
    choice-answers l a b c d {ts} {us} h k r stack at = by stack at
      where
        look : (stack : List Value) → l.stack ≡ stack → N.look caller.unit (doing l (Choose c d ∷ us)) ≡ chosen c d us l stack
        look stack at = looks l (Choose c d ∷ us) ∙ ap (λ s. chosen c d us l s) at

        by : (stack : List Value) → l.stack ≡ stack → Answer (doing l (Choose a b ∷ ts)) (chosen a b ts l stack) (doing l (Choose c d ∷ us))
        by (Truth true ∷ rest) at = (doing (with_stack l rest) (branch c us), step (look (Truth true ∷ rest) at) here, follows (with_stack l rest) (branch-same h r))
        by (Truth false ∷ rest) at = (doing (with_stack l rest) (branch d us), step (look (Truth false ∷ rest) at) here, follows (with_stack l rest) (branch-same k r))
        by (Nil ∷ rest) at = (doing l (Choose c d ∷ us), here, look (Nil ∷ rest) at)
        by (Int z ∷ rest) at = (doing l (Choose c d ∷ us), here, look (Int z ∷ rest) at)
        by (Str z ∷ rest) at = (doing l (Choose c d ∷ us), here, look (Str z ∷ rest) at)
        by (Struct z ∷ rest) at = (doing l (Choose c d ∷ us), here, look (Struct z ∷ rest) at)
        by (Error z ∷ rest) at = (doing l (Choose c d ∷ us), here, look (Error z ∷ rest) at)
        by (FunctionValue z ∷ rest) at = (doing l (Choose c d ∷ us), here, look (FunctionValue z ∷ rest) at)
        by (Future u z ∷ rest) at = (doing l (Choose c d ∷ us), here, look (Future u z ∷ rest) at)
        by [] at = (doing l (Choose c d ∷ us), here, look [] at)

    -- a statement that can't be done comes to where nothing can be done
    nil-goes : (type : Shared) (at : Place) (stack : List Value) (ts : List Task) → eval (Implied constant.Nil type at) stack ts ≡ Do (Const constant.Nil) ∷ ts
    unfolding out-TypedExpr Carrier.out
    nil-goes type at stack ts = refl

    stuck-answers : (l : Local) (s : TypedStmt) → IsNever s → Answer (doing l []) Stuck (doing l (Exec s ∷ []))
    stuck-answers l s stuck =
        let last = Choose (Block stuck.first.items) (Block stuck.second.items) ∷ [] in
        let first : exec s [] ≡ Eval (Implied constant.Nil stuck.type stuck.at) ∷ last = ap (λ x. exec_layer x []) stuck.is ∙ ap (λ e. Eval e ∷ last) stuck.nil in (
          doing (pushed l Nil) last,
          step (looks l (Exec s ∷ []) ∙ ap (λ ts. On (doing l ts)) first)
              (step (looks l (Eval (Implied constant.Nil stuck.type stuck.at) ∷ last) ∙ ap (λ ts. On (doing l ts)) (nil-goes stuck.type stuck.at l.stack last))
              (step (looks l (Do (Const constant.Nil) ∷ last)) here)),
          looks (pushed l Nil) last,
        )

    task-answers : (l : Local) (ts us : List Task) → Same ts us → Answer (doing l ts) (next_of captured l ts) (doing l us)
    task-answers l _ _ none = (doing l [], here, looks l [])
    task-answers l _ _ (never s stuck) = stuck-answers l s stuck
    task-answers l _ _ (more {ts = ts} {us = us} (evals_so e f x) h) = goes (doing l (Eval e ∷ ts)) l l refl (eval-same e f l.stack x h)
    task-answers l _ _ (more {ts = ts} {us = us} (execs_so s u x) h) = goes (doing l (Exec s ∷ ts)) l l refl (exec-same s u x h)
    task-answers l _ _ (more {ts = ts} {us = us} (does_so op) h) =
        acts-answer l ts us (Do op ∷ us) (acts captured op l) refl h (doing l (Do op ∷ ts)) (follows l (more (does_so op) h))
    task-answers l _ _ (more {ts = ts} {us = us} (gets_so slot s t) h) =
        acts-answer l ts us (Get slot t ∷ us) (acts captured (Load slot) l) refl h (doing l (Get slot s ∷ ts)) (follows l (more (gets_so slot s t) h))
    task-answers l _ _ (more {ts = ts} {us = us} (chooses_so {a = a} {b = b} {c = c} {d = d} x y) h) = choice-answers l a b c d x y h l.stack refl
    task-answers l _ _ (more {ts = ts} {us = us} (turns_so loop other x) h) = goes (doing l (Turn loop ∷ ts)) l l refl (turn-same x h)
    task-answers l _ _ (more {ts = ts} {us = us} (guards_so vs) h) = goes (doing l (Guard vs ∷ ts)) l l refl h

    answers : (d e : Doing) → Follows d e → Answer d (M.look caller.unit d) e
    answers d e f = subst (λ l. Answer d (M.look caller.unit d) (doing l e.tasks)) (sym f.local) (task-answers d.local d.tasks e.tasks f.tasks)

  -- ---- the law

  unit-follows : (args : List Value) (u v : UnitTree) → IsUnit u v → Follows (entered args u) (entered args v)
  unit-follows args u v at =
      record { local = ap (λ x. record { slots = first_slots (length x.slots) args; stack = [] }) at.unit; tasks = more (does_so _) (body-same at.body) }

  units-follow : (args : List Value) (u v : Option UnitTree) → Both IsUnit u v → Both Follows (option_map (entered args) u) (option_map (entered args) v)
  units-follow args (Some u) (Some v) at = unit-follows args u v at
  units-follow args (Some u) None at = at
  units-follow args None (Some v) at = at
  units-follow args None None at = tt

  pub frames-follow : FramesFollow natives M N Follows (λ c d. ⊤)
  frames-follow =
      record {
        facts = same-facts;
        launch = launch-same p q is;
        enters = λ unit args. units-follow args (unit_at p unit) (unit_at q unit) (unit-zip p q is unit);
        answers = λ caller c d e fine f. answers caller c d e f;
      }

pub declared-does-the-same : (natives : Answers) → DeclaredDoesTheSame natives
declared-does-the-same natives atoms fillers p q is =
    followers-do-the-same natives (trees atoms fillers p) (trees atoms fillers q) (Follows natives atoms fillers p q is) (λ c d. ⊤) (frames-follow natives atoms fillers p q is)
    (λ words input ticks s f fs texts reached at. tt) (doing-settles atoms fillers p)
