-- What is known of a frame is kept by each of its steps: by those that it makes by itself, and by operations.
use Rattle.std.proofs.Common.{◌≡◌, ◌⊎◌, ◌++◌, ◌∙◌, ℕ, zero, suc, Bool, true, false, List, [], ◌∷◌, Option, Some, None, refl, sym, subst, ap, inl, inr}
use Rattle.std.specs.Prelude.{IsTrue, nat_le, slice_get, ⊤}
use Rattle.std.proofs.lemmas.Option.{none-some}
use Rattle.type_model.specs.declared.basic.SemType.{SemType}
use Rattle.operations.specs.declared.operation.Constant.TheVariants as constant
use Rattle.operations.specs.declared.operation.Operation.{Operation}
use Rattle.operations.specs.declared.operation.Operation.TheVariants as op
use Rattle.value_model.specs.declared.value.Value.{Value}
use Rattle.value_model.specs.declared.value.Value.TheVariants.{Nil, Bool as Truth}
use Rattle.value_model.specs.Meaning.{Answers}
use Rattle.value_model.specs.World.{Came, Gave, Threw, PassesCells}
use Rattle.op_model.specs.Common.{Caller, Common}
use Rattle.op_model.specs.Effects.{Effect, Gives, Fails, Waits, Enters, Leaves, Spawns, NoTick, Beyond, lifted, with_world}
use Rattle.op_model.specs.ProgramFacts.{ProgramFacts, own_types}
use Rattle.op_model.specs.Local.{Act, Later as Awaited, Local, Never, Now, acts, loaded, taken, with_stack}
use Rattle.op_model.specs.Performs.{Performs}
use Rattle.machine_model.specs.Machine.{Ask, On, Does, Stuck, asks as asks_of}
use Rattle.machine_model.proofs.Once.{some-same}
use Rattle.machine_model.proofs.Shapes.{in-if}
use Rattle.eval_model.specs.Laws.{HasWay}
use Rattle.eval_model.specs.Narrowed.{AreFineTasks, HoldsIn}
use Rattle.eval_model.specs.Tasks.{Branch, Choose, Do, Doing, Eval, Exec, Get, Guard, Task, Turn, doing}
use Rattle.eval_model.specs.Trees.{caught, chosen, next_of}
use Rattle.eval_model.proofs.TaskWalk.{choices-keep, evals-keep, execs-keep, turns-keep}
use Rattle.worker_waits.proofs.Asking.{ActsAre, acts-are}
use Rattle.declared_reads.specs.Declared.{IsAnything}
use Rattle.declared_reads.proofs.KnownStates.{IsLong}
use Rattle.declared_reads.proofs.Knowing.{HasNil, Held, Known, Knows, Loaded, Nothing, Nowhere, Shown, Tested, after, are-ways, if_not, if_so, knowing, knows-on}

-- a way goes on from here through what is left to be done
abbrev pub Goes : List Task → Known → Type 0
Goes ts p = HasWay knowing ts p

-- a frame that isn't about to go on
abbrev pub Rests : Doing → Type 0
Rests d = Goes d.tasks Nothing

-- ---- what is left behind a task

-- behind the end of a trap, wherever that is
pub lands-on : (l : Local) (e : Value) (ts : List Task) (p : Known) (x : Doing) → Goes ts p → caught l e ts ≡ Some x → Rests x
lands-on l e [] p x way is = absurd (none-some x is)
lands-on l e (Guard vs ∷ ts) p x (around, (m, q, outer, none, comes, closes, rest)) is =
    subst (λ d. Goes d.tasks Nothing) (some-same _ x is) (subst (λ k. Goes ts k) closes (outer, rest))
lands-on l e (Turn loop ∷ ts) p x (around, (k, outer, same, comes, turns, rest)) is = lands-on l e ts _ x (outer, rest) is
lands-on l e (Eval y ∷ ts) p x (around, (m, q, comes, over, rest)) is = lands-on l e ts q x (around, rest) is
lands-on l e (Exec s ∷ ts) p x (around, (m, q, comes, over, rest)) is = lands-on l e ts q x (around, rest) is
lands-on l e (Do o ∷ ts) p x (around, (m, q, comes, over, rest)) is = lands-on l e ts q x (around, rest) is
lands-on l e (Get slot narrowed ∷ ts) p x (around, (m, q, comes, over, rest)) is = lands-on l e ts q x (around, rest) is
lands-on l e (Choose first second ∷ ts) p x (around, (m, q, comes, over, rest)) is = lands-on l e ts q x (around, rest) is

-- ---- effects

-- a panic, or a limit
abbrev IsFault : Effect → Type 0
IsFault (Fails e d) = ⊤
IsFault (Beyond limit) = ⊤
IsFault (Gives vs d) = ⊥
IsFault (Waits need) = ⊥
IsFault (Enters unit args d) = ⊥
IsFault (Leaves v) = ⊥
IsFault (Spawns ss role vs d) = ⊥
IsFault NoTick = ⊥

fault-short : (effect : Effect) → IsFault effect → IsLong effect → ⊥
fault-short (Fails e d) f h = h
fault-short (Beyond limit) f h = h
fault-short (Gives vs d) f h = f
fault-short (Waits need) f h = f
fault-short (Enters unit args d) f h = f
fault-short (Leaves v) f h = f
fault-short (Spawns ss role vs d) f h = f
fault-short NoTick f h = f

lifted-short : (c : Common) (came : Came) → IsLong (lifted c came) → ⊥
lifted-short c (Gave vs w) h = h
lifted-short c (Threw e w) h = h
lifted-short c PassesCells h = h

module _ (facts : ProgramFacts) (natives : Answers) where
  -- a load that is asked for panics
  load-faults : (slot : ℕ) (vs : List Value) (who : Caller) (c : Common) (effect : Effect) → Performs facts natives (op.Load slot) vs who c effect → IsFault effect
  load-faults slot [] who c effect h = subst IsFault (sym h) (in-if (nat_le _ _) (λ came. IsFault (lifted c came)) (Threw _ _) PassesCells (λ b. tt) (λ b. tt))
  load-faults slot (v ∷ vs) who c effect h = absurd h

  test-short : (t : SemType) (vs : List Value) (who : Caller) (c : Common) (effect : Effect) → Performs facts natives (op.Test t) vs who c effect → IsLong effect → ⊥
  test-short t [] who c effect h long = h
  test-short t (v ∷ []) who c effect (came, tells, is) long = lifted-short c came (subst IsLong is long)
  test-short t (v ∷ w ∷ vs) who c effect h long = h

  return-short : (vs : List Value) (who : Caller) (c : Common) (effect : Effect) → Performs facts natives op.Return vs who c effect → IsLong effect → ⊥
  return-short [] who c effect h long = h
  return-short (v ∷ []) who c effect is long = subst IsLong is long
  return-short (v ∷ w ∷ vs) who c effect h long = h

  return-gives-none : (vs ws : List Value) (who : Caller) (c d : Common) → Performs facts natives op.Return vs who c (Gives ws d) → ⊥
  return-gives-none [] ws who c d h = h
  return-gives-none (v ∷ []) ws who c d is = let bad : ⊥ = cc in bad
  return-gives-none (v ∷ w ∷ vs) ws who c d h = h

  -- nothing is known behind what takes long
  long-plain : (o : Operation) (vs : List Value) (who : Caller) (c : Common) (effect : Effect) → Performs facts natives o vs who c effect → IsLong effect → (p : Known) → after o p ≡ Nothing
  long-plain (op.Load slot) vs who c effect h long p = absurd (fault-short effect (load-faults slot vs who c effect h) long)
  long-plain (op.Test t) vs who c effect h long p = absurd (test-short t vs who c effect h long)
  long-plain op.Return vs who c effect h long p = absurd (return-short vs who c effect h long)
  long-plain (op.Const k) vs who c effect h long p = absurd h
  long-plain o vs who c effect h long p = refl

  -- ---- acts

  taken-not-now : (o : Operation) (l m : Local) (n : ℕ) (args stack : List Value) → taken o l n args stack ≡ Now m → ⊥
  taken-not-now o l m zero args stack e = let bad : ⊥ = cc in bad
  taken-not-now o l m (suc n) args [] e = let bad : ⊥ = cc in bad
  taken-not-now o l m (suc n) args (v ∷ stack) e = taken-not-now o l m n (v ∷ args) stack e

  abbrev now_of : Local → Act → Local
  now_of l (Now x) = x
  now_of l (Awaited o vs x) = x
  now_of l Never = l

  abbrev args_of : Act → List Value
  args_of (Now x) = []
  args_of (Awaited o vs x) = vs
  args_of Never = []

  abbrev op_of : Act → Operation
  op_of (Now x) = op.Pop
  op_of (Awaited o vs x) = o
  op_of Never = op.Pop

  module _ (c : Common) where
    abbrev K : Known → Local → Type 0
    K = Knows facts c

    -- a frame that is about to go on
    abbrev pub Runs : Doing → Type 0
    Runs d = (p : Known) × Goes d.tasks p × K p d.local

    pub rests-run : (d : Doing) → Rests d → Runs d
    rests-run d h = (Nothing, h, tt)

    loaded-now : (l m : Local) (slot : ℕ) (o : Option (Option Value)) → slice_get l.slots slot ≡ o → loaded l slot o ≡ Now m → K (Loaded slot) m
    loaded-now l m slot (Some (Some v)) is e = subst (λ x. K (Loaded slot) x) (ap (now_of l) e) (v, l.stack, is, refl)
    loaded-now l m slot (Some None) is e = absurd (let bad : ⊥ = cc in bad)
    loaded-now l m slot None is e = absurd (let bad : ⊥ = cc in bad)

    -- what is known behind an operation that is done at once
    now-knows : (captured : List ℕ) (l m : Local) (o : Operation) (p : Known) → acts captured o l ≡ Now m → K (after o p) m
    now-knows captured l m (op.Load slot) p e = loaded-now l m slot (slice_get l.slots slot) refl e
    now-knows captured l m (op.Test t) p e = absurd (taken-not-now (op.Test t) l m 1 [] l.stack e)
    now-knows captured l m op.Return p e = absurd (taken-not-now op.Return l m 1 [] l.stack e)
    now-knows captured l m (op.Const constant.Nil) p e = subst (λ x. K HasNil x) (ap (now_of l) e) (l.stack, refl)
    now-knows captured l m o p e = tt

    -- ---- what is known behind a test that was given

    module _ (who : Caller) (ws : List Value) (d : Common) where
      told : (t : SemType) (s : ℕ) (v : Value) (slots : Local) → slice_get slots.slots s ≡ Some (Some v) → Performs facts natives (op.Test t) (v ∷ []) who c (Gives ws d) → Knows facts d (Tested s t) (with_stack slots (ws ++ slots.stack))
      told t s v l held (came, (b, so, is), e) =
          let gave : Gives ws d ≡ Gives (Truth b ∷ []) (with_world c c.world) = e ∙ ap (lifted c) is in
          let first : ws ≡ Truth b ∷ [] = ap given_of gave in
          let later : d ≡ with_world c c.world = ap common_of gave in
          subst (λ x. Knows facts d (Tested s t) (with_stack l (x ++ l.stack))) (sym first)
          (subst (λ x. Knows facts x (Tested s t) (with_stack l (Truth b ∷ l.stack))) (sym later) (v, b, l.stack, held, refl, so.0))
        where
          given_of : Effect → List Value
          given_of (Gives vs x) = vs
          given_of _ = []

          common_of : Effect → Common
          common_of (Gives vs x) = x
          common_of _ = c

      tested : (t : SemType) (s : ℕ) (l m : Local) (vs : List Value) (o : Operation) → K (Loaded s) l → taken (op.Test t) l 1 [] l.stack ≡ Awaited o vs m → Performs facts natives (op.Test t) vs who c (Gives ws d) → Knows facts d (Tested s t) (with_stack m (ws ++ m.stack))
      tested t s l m vs o (v, rest, held, at) e h =
          let act : Awaited (op.Test t) (v ∷ []) (with_stack l rest) ≡ Awaited o vs m = ap (taken (op.Test t) l 1 []) (sym at) ∙ e in
          subst (λ x. Knows facts d (Tested s t) (with_stack x (ws ++ x.stack))) (ap (now_of l) act)
          (told t s v (with_stack l rest) held (subst (λ x. Performs facts natives (op.Test t) x who c (Gives ws d)) (sym (ap args_of act)) h))

      given-knows : (captured : List ℕ) (l m : Local) (first : Operation) (vs : List Value) (p : Known) → K p l → acts captured first l ≡ Awaited first vs m → Performs facts natives first vs who c (Gives ws d) → Knows facts d (after first p) (with_stack m (ws ++ m.stack))
      given-knows captured l m (op.Load slot) vs p h e performs = absurd (load-faults slot vs who c (Gives ws d) performs)
      given-knows captured l m op.Return vs p h e performs = absurd (return-gives-none vs ws who c d performs)
      given-knows captured l m (op.Const k) vs p h e performs = absurd performs
      given-knows captured l m (op.Test t) vs (Loaded s) h e performs = tested t s l m vs (op.Test t) h e performs
      given-knows captured l m (op.Test t) vs Nothing h e performs = tt
      given-knows captured l m (op.Test t) vs (Tested s u) h e performs = tt
      given-knows captured l m (op.Test t) vs (Held s) h e performs = tt
      given-knows captured l m (op.Test t) vs (Shown s u) h e performs = tt
      given-knows captured l m (op.Test t) vs HasNil h e performs = tt
      given-knows captured l m (op.Test t) vs Nowhere h e performs = tt
      given-knows captured l m first vs p h e performs = tt

      gives-knows : (captured : List ℕ) (l m : Local) (first o : Operation) (vs : List Value) (p : Known) → (o ≡ first) ⊎ ((slot : ℕ) × (o ≡ op.Load slot)) → K p l → acts captured first l ≡ Awaited o vs m → Performs facts natives o vs who c (Gives ws d) → Knows facts d (after first p) (with_stack m (ws ++ m.stack))
      gives-knows captured l m first o vs p (inl is) h e performs =
          given-knows captured l m first vs p h (e ∙ ap (λ x. Awaited x vs m) is) (subst (λ x. Performs facts natives x vs who c (Gives ws d)) is performs)
      gives-knows captured l m first o vs p (inr (slot, is)) h e performs =
          absurd (load-faults slot vs who c (Gives ws d) (subst (λ x. Performs facts natives x vs who c (Gives ws d)) is performs))

    -- ---- steps that a frame makes by itself

    abbrev doing_of : Doing → Ask Doing → Doing
    doing_of d (On x) = x
    doing_of d (Does o vs x) = x
    doing_of d Stuck = d

    done-at : (captured : List ℕ) (l : Local) (first : Operation) (ts : List Task) (b : Doing) (m q : Known) (act : Act) → acts captured first l ≡ act → asks_of (λ x. doing x ts) act ≡ On b → (q ≡ after first m) ⊎ (q ≡ Nothing) → Goes ts q → Runs b
    done-at captured l first ts b m q (Now x) is e (inl at) way = subst Runs (ap (doing_of b) e) (q, way, subst (λ k. K k x) (sym at) (now-knows captured l x first m is))
    done-at captured l first ts b m q (Now x) is e (inr at) way = subst Runs (ap (doing_of b) e) (q, way, subst (λ k. K k x) (sym at) tt)
    done-at captured l first ts b m q (Awaited o vs x) is e at way = absurd (let bad : ⊥ = cc in bad)
    done-at captured l first ts b m q Never is e at way = absurd (let bad : ⊥ = cc in bad)

    if-so-knows : (m q : Known) (l : Local) (rest : List Value) → l.stack ≡ Truth true ∷ rest → K m l → (q ≡ if_so m) ⊎ (q ≡ Nothing) → K q (with_stack l rest)
    if-so-knows m q l rest at h (inr e) = subst (λ k. K k (with_stack l rest)) (sym e) tt
    if-so-knows m q l rest at h (inl e) = subst (λ k. K k (with_stack l rest)) (sym e) (by m h)
      where
        by : (m : Known) → K m l → K (if_so m) (with_stack l rest)
        by (Tested s t) (v, b, more, held, is, so) = (v, held, so (is-true (ap first_of (sym is ∙ at))))
          where
            first_of : List Value → Value
            first_of (x ∷ xs) = x
            first_of [] = Nil

            truth_of : Value → Bool
            truth_of (Truth b) = b
            truth_of _ = true

            is-true : Truth b ≡ Truth true → IsTrue b
            is-true same = ap truth_of same
        by HasNil (more, is) = let bad : Nil ∷ more ≡ Truth true ∷ rest = sym is ∙ at in let z : ⊥ = cc in z
        by Nothing h = tt
        by (Loaded s) h = tt
        by (Held s) h = tt
        by (Shown s t) h = tt
        by Nowhere h = tt

    if-not-knows : (m q : Known) (l : Local) (rest : List Value) → l.stack ≡ Truth false ∷ rest → K m l → (q ≡ if_not m) ⊎ (q ≡ Nothing) → K q (with_stack l rest)
    if-not-knows m q l rest at h (inr e) = subst (λ k. K k (with_stack l rest)) (sym e) tt
    if-not-knows m q l rest at h (inl e) = subst (λ k. K k (with_stack l rest)) (sym e) (by m h)
      where
        by : (m : Known) → K m l → K (if_not m) (with_stack l rest)
        by (Tested s t) (v, b, more, held, is, so) = (v, held)
        by HasNil (more, is) = let bad : Nil ∷ more ≡ Truth false ∷ rest = sym is ∙ at in let z : ⊥ = cc in z
        by Nothing h = tt
        by (Loaded s) h = tt
        by (Held s) h = tt
        by (Shown s t) h = tt
        by Nowhere h = tt

    choice-goes : (l : Local) (first second : Branch) (ts : List Task) (p : Known) → Goes (Choose first second ∷ ts) p → K p l → (stack : List Value) → l.stack ≡ stack → (b : Doing) → chosen first second ts l stack ≡ On b → Runs b
    choice-goes l first second ts p way h (Truth true ∷ rest) at b e =
        let (m, x, y, comes, so, goes, not, other) = choices-keep knowing are-ways first second ts p way in
        subst Runs (ap (doing_of b) e) (x, goes, if-so-knows m x l rest at (knows-on facts c p m l comes h) so)
    choice-goes l first second ts p way h (Truth false ∷ rest) at b e =
        let (m, x, y, comes, so, goes, not, other) = choices-keep knowing are-ways first second ts p way in
        subst Runs (ap (doing_of b) e) (y, other, if-not-knows m y l rest at (knows-on facts c p m l comes h) not)
    choice-goes l first second ts p way h _ at b e = absurd (let bad : ⊥ = cc in bad)

    pub goes-on : (captured : List ℕ) (l : Local) (ts : List Task) (b : Doing) → Runs (doing l ts) → next_of captured l ts ≡ On b → Runs b
    goes-on captured l [] b h e = absurd (let bad : ⊥ = cc in bad)
    goes-on captured l (Eval x ∷ ts) b (p, way, h) e =
        let (m, a, comes, arrives, goes) = evals-keep knowing are-ways x l.stack ts p way in
        subst Runs (ap (doing_of b) e) (a, goes, arrived m a arrives (knows-on facts c p m l comes h))
      where
        arrived : (m a : Known) → (a ≡ m) ⊎ (a ≡ Nothing) → K m l → K a l
        arrived m a (inl e) h = subst (λ k. K k l) (sym e) h
        arrived m a (inr e) h = subst (λ k. K k l) (sym e) tt
    goes-on captured l (Exec s ∷ ts) b (p, way, h) e =
        let (m, comes, goes) = execs-keep knowing are-ways s ts p way in
        subst Runs (ap (doing_of b) e) (m, goes, knows-on facts c p m l comes h)
    goes-on captured l (Do o ∷ ts) b (p, (around, (m, q, comes, at, rest)), h) e = done-at captured l o ts b m q (acts captured o l) refl e at (around, rest)
    goes-on captured l (Get slot narrowed ∷ ts) b (p, (around, (m, q, comes, (gets, at), rest)), h) e =
        done-at captured l (op.Load slot) ts b m q (acts captured (op.Load slot) l) refl e (inr at) (around, rest)
    goes-on captured l (Choose first second ∷ ts) b (p, way, h) e = choice-goes l first second ts p way h l.stack refl b e
    goes-on captured l (Turn loop ∷ ts) b (p, way, h) e =
        let (m, comes, goes) = turns-keep knowing are-ways loop ts p way in
        subst Runs (ap (doing_of b) e) (m, goes, knows-on facts c p m l comes h)
    goes-on captured l (Guard vs ∷ ts) b (p, (around, (m, q, outer, none, comes, closes, rest)), h) e =
        subst Runs (ap (doing_of b) e) (q, (outer, rest), subst (λ k. K k l) (sym closes) tt)

    -- ---- what is asked

    -- where the frame `d` asks for the operation and `k` awaits its result
    pub record Asked (d k : Doing) (o : Operation) (vs : List Value) : Type 0 where
      pub way : (q : Known) × Goes k.tasks q
      pub gives : (who : Caller) (ws : List Value) (x : Common) → Performs facts natives o vs who c (Gives ws x) → (q : Known) × Goes k.tasks q × Knows facts x q (with_stack k.local (ws ++ k.local.stack))
      pub long : (who : Caller) (effect : Effect) → Performs facts natives o vs who c effect → IsLong effect → Rests d × Rests k

    asked-at : (captured : List ℕ) (l : Local) (first : Operation) (t : Task) (ts : List Task) (k : Doing) (o : Operation) (vs : List Value) (p m q : Known) (act : Act) → acts captured first l ≡ act → asks_of (λ x. doing x ts) act ≡ Does o vs k →
        ActsAre first act → K m l → (q ≡ after first m) ⊎ (q ≡ Nothing) → Goes ts q → (q ≡ Nothing → Rests (doing l (t ∷ ts))) → Asked (doing l (t ∷ ts)) k o vs
    asked-at captured l first t ts k o vs p m q (Now x) is e are h at way back = absurd (let bad : ⊥ = cc in bad)
    asked-at captured l first t ts k o vs p m q Never is e are h at way back = absurd (let bad : ⊥ = cc in bad)
    asked-at captured l first t ts k o vs p m q (Awaited o' vs' x) is e are h at way back =
        subst (λ y. Asked (doing l (t ∷ ts)) y o vs) (ap (doing_of k) e)
        (subst (λ y. Asked (doing l (t ∷ ts)) (doing x ts) y vs) (ap asked_of e)
        (subst (λ y. Asked (doing l (t ∷ ts)) (doing x ts) o' y) (ap given_of e)
        (record {
          way = (q, way);
          gives = λ who ws y performs. (q, way, knows who ws y performs at);
          long = λ who effect performs long. let none = plain who effect performs long at in (back none, subst (λ z. Goes ts z) none way);
        })))
      where
        asked_of : Ask Doing → Operation
        asked_of (Does y us z) = y
        asked_of _ = op.Pop

        given_of : Ask Doing → List Value
        given_of (Does y us z) = us
        given_of _ = []

        knows : (who : Caller) (ws : List Value) (y : Common) → Performs facts natives o' vs' who c (Gives ws y) → (q ≡ after first m) ⊎ (q ≡ Nothing) → Knows facts y q (with_stack x (ws ++ x.stack))
        knows who ws y performs (inl same) = subst (λ z. Knows facts y z (with_stack x (ws ++ x.stack))) (sym same) (gives-knows who ws y captured l x first o' vs' m are h is performs)
        knows who ws y performs (inr same) = subst (λ z. Knows facts y z (with_stack x (ws ++ x.stack))) (sym same) tt

        plain : (who : Caller) (effect : Effect) → Performs facts natives o' vs' who c effect → IsLong effect → (q ≡ after first m) ⊎ (q ≡ Nothing) → q ≡ Nothing
        plain who effect performs long (inr same) = same
        plain who effect performs long (inl same) = same ∙ by are
          where
            by : (o' ≡ first) ⊎ ((slot : ℕ) × (o' ≡ op.Load slot)) → after first m ≡ Nothing
            by (inl is) = long-plain first vs' who c effect (subst (λ z. Performs facts natives z vs' who c effect) is performs) long m
            by (inr (slot, is)) = absurd (fault-short effect (load-faults slot vs' who c effect (subst (λ z. Performs facts natives z vs' who c effect) is performs)) long)

    choice-asks : (first second : Branch) (ts : List Task) (l : Local) (stack : List Value) (o : Operation) (vs : List Value) (k : Doing) → chosen first second ts l stack ≡ Does o vs k → ⊥
    choice-asks first second ts l (Truth true ∷ rest) o vs k e = cc
    choice-asks first second ts l (Truth false ∷ rest) o vs k e = cc
    choice-asks first second ts l _ o vs k e = cc

    pub asks-one : (captured : List ℕ) (l : Local) (ts : List Task) (o : Operation) (vs : List Value) (k : Doing) → Runs (doing l ts) → next_of captured l ts ≡ Does o vs k → Asked (doing l ts) k o vs
    asks-one captured l [] o vs k h e = absurd (let bad : ⊥ = cc in bad)
    asks-one captured l (Eval x ∷ ts) o vs k h e = absurd (let bad : ⊥ = cc in bad)
    asks-one captured l (Exec s ∷ ts) o vs k h e = absurd (let bad : ⊥ = cc in bad)
    asks-one captured l (Do first ∷ ts) o vs k (p, (around, (m, q, comes, at, rest)), h) e =
        asked-at captured l first (Do first) ts k o vs p m q (acts captured first l) refl e (acts-are captured first l) (knows-on facts c p m l comes h) at (around, rest)
        (λ none. (around, (Nothing, q, inl refl, inr none, rest)))
    asks-one captured l (Get slot narrowed ∷ ts) o vs k (p, (around, (m, q, comes, (gets, at), rest)), h) e =
        asked-load captured l slot narrowed ts k o vs q (acts captured (op.Load slot) l) e (acts-are captured (op.Load slot) l) at (around, rest)
      where
        asked-load : (captured : List ℕ) (l : Local) (slot : ℕ) (narrowed : _) (ts : List Task) (k : Doing) (o : Operation) (vs : List Value) (q : Known) (act : Act) → asks_of (λ x. doing x ts) act ≡ Does o vs k → ActsAre (op.Load slot) act → q ≡ Nothing → Goes ts q → Asked (doing l (Get slot narrowed ∷ ts)) k o vs
        asked-load captured l slot narrowed ts k o vs q (Now x) e are at way = absurd (let bad : ⊥ = cc in bad)
        asked-load captured l slot narrowed ts k o vs q Never e are at way = absurd (let bad : ⊥ = cc in bad)
        asked-load captured l slot narrowed ts k o vs q (Awaited o' vs' x) e are at way =
            subst (λ y. Asked (doing l (Get slot narrowed ∷ ts)) y o vs) (ap (doing_of k) e)
            (subst (λ y. Asked (doing l (Get slot narrowed ∷ ts)) (doing x ts) y vs) (ap asked_of e)
            (subst (λ y. Asked (doing l (Get slot narrowed ∷ ts)) (doing x ts) o' y) (ap given_of e)
            (record {
              way = (q, way);
              gives = λ who ws y performs. (q, way, subst (λ z. Knows facts y z (with_stack x (ws ++ x.stack))) (sym at) tt);
              long = λ who effect performs long. absurd (fault-short effect (by are who effect performs) long);
            })))
          where
            asked_of : Ask Doing → Operation
            asked_of (Does y us z) = y
            asked_of _ = op.Pop

            given_of : Ask Doing → List Value
            given_of (Does y us z) = us
            given_of _ = []

            by : (o' ≡ op.Load slot) ⊎ ((n : ℕ) × (o' ≡ op.Load n)) → (who : Caller) (effect : Effect) → Performs facts natives o' vs' who c effect → IsFault effect
            by (inl is) who effect performs = load-faults slot vs' who c effect (subst (λ z. Performs facts natives z vs' who c effect) is performs)
            by (inr (n, is)) who effect performs = load-faults n vs' who c effect (subst (λ z. Performs facts natives z vs' who c effect) is performs)
    asks-one captured l (Choose first second ∷ ts) o vs k h e = absurd (choice-asks first second ts l l.stack o vs k e)
    asks-one captured l (Turn loop ∷ ts) o vs k h e = absurd (let bad : ⊥ = cc in bad)
    asks-one captured l (Guard us ∷ ts) o vs k h e = absurd (let bad : ⊥ = cc in bad)

    -- ---- what is known is what narrowed reads need

    pub runs-fine : (l : Local) (ts : List Task) → Runs (doing l ts) → AreFineTasks facts c l ts
    runs-fine l [] (p, (around, (none, ends)), h) = absurd (subst (λ k. K k l) ends h)
    runs-fine l (Get slot (Some t) ∷ ts) (p, (around, (m, q, comes, (gets, at), rest)), h) = by gets (knows-on facts c p m l comes h)
      where
        by : (m ≡ Shown slot t) ⊎ ((m ≡ Held slot) × IsAnything t) → K m l → (v : Value) × HoldsIn facts c l slot t v
        by (inl e) k = let (v, held, belongs) = subst (λ z. K z l) e k in (v, (held, belongs))
        by (inr (e, anything)) k = let (v, held) = subst (λ z. K z l) e k in (v, (held, (λ s valid stands. anything (own_types facts).atoms s)))
    runs-fine l (Get slot None ∷ ts) h = tt
    runs-fine l (Eval e ∷ ts) h = tt
    runs-fine l (Exec s ∷ ts) h = tt
    runs-fine l (Do o ∷ ts) h = tt
    runs-fine l (Choose first second ∷ ts) h = tt
    runs-fine l (Turn loop ∷ ts) h = tt
    runs-fine l (Guard vs ∷ ts) h = tt
