-- In a package in which each function has a plan, calls and named workers begin with all their events left.
use Rattle.std.proofs.Common.{◌≡◌, ◌<◌, ◌++◌, ◌==◌, ◌∙◌, ℕ, zero, suc, Bool, true, false, List, [], ◌∷◌, Option, Some, None, IsSomeAnd, map, length, refl, sym, subst, ap, inl, inr, arith}
use Rattle.std.proofs.lemmas.Bool.{false≢true, ltb-true}
use Rattle.std.proofs.lemmas.List.{length-map}
use Rattle.std.proofs.lemmas.Option.{none-some}
use Rattle.std.specs.Prelude.{◌&&◌, ◌||◌, All, get_or, nat_lt, not, option_map, slice_get}
use Rattle.bal_base.specs.declared.place.Place.{Place}
use Rattle.type_model.specs.declared.answers.TypeLimit.{TypeLimit}
use Rattle.type_model.specs.declared.atoms.AtomDef.{AtomDef}
use Rattle.type_model.specs.declared.basic.SemType.{SemType}
use Rattle.type_model.specs.Calls.{Asked}
use Rattle.value_model.specs.declared.filler.Filler.{Filler}
use Rattle.value_model.specs.declared.value.Value.{Value}
use Rattle.value_model.specs.Meaning.{Answers}
use Rattle.typed_tree.specs.declared.event.EventKind.{EventKind}
use Rattle.typed_tree.specs.declared.event.EventKind.TheVariants.{Send, Post, Done, Receive, Flush, Wait, End}
use Rattle.typed_tree.specs.declared.expr.TypedExpr.{TypedExpr}
use Rattle.typed_tree.specs.declared.package.Initial.{Initial}
use Rattle.typed_tree.specs.declared.package.TypedPackage.{TypedPackage}
use Rattle.typed_tree.specs.declared.stmt.TypedStmt.{TypedStmt}
use Rattle.typed_tree.specs.declared.unit.TypedBody.{TypedBody}
use Rattle.typed_tree.specs.declared.unit.TypedBody.TheVariants.{Block as BlockBody, Expr as ValueBody}
use Rattle.typed_tree.specs.declared.unit.TypedWorker.{TypedWorker}
use Rattle.typed_tree.specs.Exprs.{place_of}
use Rattle.typed_tree.specs.Listed.{Listed, nothing, one, ◌&◌, run}
use Rattle.typed_tree.specs.SharedTypes.{sem_of}
use Rattle.typed_tree.specs.Units.{UnitBody, UnitTree, OfFunction, OfWorker, OfAnonymous, OfInitialiser, unit_at}
use Rattle.op_model.specs.ProgramFacts.{UnitFacts, WorkerFacts}
use Rattle.op_model.specs.Levels.{numbers_from}
use Rattle.machine_model.specs.Machine.{Machine}
use Rattle.machine_model.proofs.BoardMakes.{numbers-at}
use Rattle.machine_model.proofs.Once.{some-same}
use Rattle.machine_model.proofs.Places.{from-map}
use Rattle.eval_model.specs.Tasks.{Do, Doing, Eval, Task, execs}
use Rattle.eval_model.specs.Trees.{at_end, body_tasks, entered, initialises, starts_named, trees, unit_facts, worker_facts, workers_in}
use Rattle.operations.specs.declared.operation.Operation.TheVariants as op
use Rattle.worker_pairing.specs.Events.{ArePaired, Crew, IsOrderable, Needs, NeedsAs, count, events_of}
use Rattle.worker_pairing.specs.Faults.{crew_of, names_other, rank_in}
use Rattle.worker_pairing.specs.Marks.{Mark, Says, Early, Returns, Member, Members, Saying, SoFar, expr_marks, kinds, member_of, members_of_body, named_member, nothing_yet, stmts_marks, with_mark}
use Rattle.worker_pairing.proofs.Plans.{plans-pair-up}
use Rattle.worker_pairing.proofs.Said.{Each, behind_initial, each-both, each-by, end_saying, member-said, plans-are-good, said_in, text-said}
use Rattle.worker_waits.specs.Agreement.{all_good, names_one, none_said, steps_in}
use Rattle.worker_waits.specs.Laws.{PlannedNeverRing}
use Rattle.worker_waits.specs.Left.{AheadOf, Lasts, Makes, Begins, Step, expr_shown, nothing_shown, stmts_shown, tasks_shown}
use Rattle.worker_waits.specs.Planned.{ArePlanned, AreOfWorker, HasPlan, worker_tree, workers_of}
use Rattle.worker_waits.proofs.Agreeing.{all-agree, expr-agrees}
use Rattle.worker_waits.proofs.Ahead.{ahead-less, block-ahead, execs-ahead}
use Rattle.worker_waits.proofs.LeftStmts.{execs-show}
use Rattle.worker_waits.proofs.Stepping.{AtStep}
use Rattle.worker_waits.proofs.Told.{fair, same-sizes, told-expr, told-nothing, told-stmts}
use Rattle.worker_waits.proofs.TreeFits.{Unstarted}
use Rattle.worker_waits.proofs.TreeKeeping.{Begun, PeerThere}
use Rattle.worker_waits.proofs.TreeStanding.{trees-never-ring}

-- ---- events by marks

join : (a b : Bool) → a ≡ true → b ≡ true → (a && b) ≡ true
join true b e h = h
join false b e h = absurd (false≢true e)

-- an event of a worker is right: it stands behind the initial part, is made whenever the worker gets there, and names another worker if any
abbrev IsGood : Saying → Type 0
IsGood s = (s.initial ≡ false) × (s.inner ≡ false) × (names_one s.kind ≡ true)

good-marks : (initial : Bool) (l : Listed Mark) (r : SoFar) → Each IsGood (said_in initial l r) → all_good l ≡ true
good-marks initial nothing r h = refl
good-marks initial (one (Says kind at inner type)) r ((out, plain, named), rest) = join (not inner) (names_one kind) (ap not plain) named
good-marks initial (one Early) r h = refl
good-marks initial (one (Returns type at)) r h = refl
good-marks initial (p & q) r h =
    let b = each-both IsGood (said_in initial p r) _ h in
    join (all_good p) (all_good q) (good-marks initial p r b.0) (good-marks initial q _ b.1)

-- nothing is said in the initial part
silent-marks : (l : Listed Mark) (r : SoFar) → Each IsGood (said_in true l r) → (none_said l ≡ true) × (said_in true l r ≡ [])
silent-marks nothing r h = (refl, refl)
silent-marks (one (Says kind at inner type)) r ((out, plain, named), rest) = absurd (false≢true (sym out))
silent-marks (one Early) r h = (refl, refl)
silent-marks (one (Returns type at)) r h = (refl, refl)
silent-marks (p & q) r h =
    let b = each-both IsGood (said_in true p r) _ h in
    let x = silent-marks p r b.0 in
    let y = silent-marks q (run (with_mark true) p r) b.1 in
    (join (none_said p) (none_said q) x.0 y.0, ap (λ l. l ++ said_in true q (run (with_mark true) p r)) x.1 ∙ y.1)

map-both : {A B : Type 0} (f : A → B) (xs ys : List A) → map f (xs ++ ys) ≡ map f xs ++ map f ys
map-both f [] ys = refl
map-both f (x ∷ xs) ys = ap (λ l. f x ∷ l) (map-both f xs ys)

abbrev kind_of : Saying → EventKind
kind_of s = s.kind

steps-said : (initial : Bool) (l : Listed Mark) (r : SoFar) → map Makes (map kind_of (said_in initial l r)) ≡ steps_in l
steps-said initial nothing r = refl
steps-said initial (one (Says kind at inner type)) r = refl
steps-said initial (one Early) r = refl
steps-said initial (one (Returns type at)) r = refl
steps-said initial (p & q) r =
    ap (map Makes) (map-both kind_of (said_in initial p r) _) ∙ map-both Makes (map kind_of (said_in initial p r)) _ ∙ ap (λ l. l ++ map Makes (map kind_of (said_in initial q (run (with_mark initial) p r)))) (steps-said initial p r) ∙ ap (λ l. steps_in p ++ l) (steps-said initial q (run (with_mark initial) p r))

-- a worker whose events are right: nothing stands in the initial part, and its events are those of the rest, and its end
record IsRight (m : Member) (initial rest : Listed Mark) : Type 0 where
  silent : none_said initial ≡ true
  good : all_good rest ≡ true
  events : List EventKind
  steps : map Makes events ≡ steps_in rest
  ends : kinds m ≡ events ++ End ∷ []

right : (result : SemType) (initial rest : Listed Mark) (end : Place) → Each IsGood (member_of result initial rest end).sayings → IsRight (member_of result initial rest end) initial rest
right result initial rest end h =
    let said = member-said result initial rest end in
    let b = each-both IsGood (said_in true initial nothing_yet) _ (subst (Each IsGood) said h) in
    let c = each-both IsGood (said_in false rest (behind_initial initial)) _ b.1 in
    let s = silent-marks initial nothing_yet b.0 in
    record {
      silent = s.0;
      good = good-marks false rest (behind_initial initial) c.0;
      events = map kind_of (said_in false rest (behind_initial initial));
      steps = steps-said false rest (behind_initial initial);
      ends = ap (map kind_of) (said ∙ ap (λ l. l ++ (said_in false rest (behind_initial initial) ++ (end_saying initial rest end ∷ []))) s.1) ∙ map-both kind_of (said_in false rest (behind_initial initial)) (end_saying initial rest end ∷ []);
    }

-- ---- members of functions with a plan

peer-below : (n workers own : ℕ) → (nat_lt n workers && not (n == own)) ≡ true → n < workers
peer-below n workers own h = by (nat_lt n workers) refl h
  where
    by : (b : Bool) → nat_lt n workers ≡ b → (b && not (n == own)) ≡ true → n < workers
    by true e k = ltb-true n workers e
    by false e k = absurd (false≢true k)

names-peer : (workers own : ℕ) (kind : EventKind) → names_other workers own kind ≡ true → (names_one kind ≡ true) × PeerThere workers kind
names-peer workers own (Send (Some w)) h = (refl, peer-below w workers own h)
names-peer workers own (Post (Some w)) h = (refl, peer-below w workers own h)
names-peer workers own (Receive (Some w)) h = (refl, peer-below w workers own h)
names-peer workers own (Done (Some w)) h = (refl, tt)
names-peer workers own (Flush (Some w)) h = (refl, tt)
names-peer workers own (Wait ns) h = (refl, tt)
names-peer workers own End h = (refl, tt)
names-peer workers own (Send None) h = absurd (false≢true h)
names-peer workers own (Post None) h = absurd (false≢true h)
names-peer workers own (Receive None) h = absurd (false≢true h)
names-peer workers own (Done None) h = absurd (false≢true h)
names-peer workers own (Flush None) h = absurd (false≢true h)

both-false : (a b : Bool) → (a || not b) ≡ false → (a ≡ false) × (b ≡ true)
both-false true b h = absurd (false≢true (sym h))
both-false false true h = (refl, refl)
both-false false false h = absurd (false≢true (sym h))

each-first : {A : Type 0} (P Q : A → Type 0) (xs : List A) → Each (λ x. P x × Q x) xs → Each P xs
each-first P Q [] h = tt
each-first P Q (x ∷ xs) ((a, b), h) = (a, each-first P Q xs h)

each-at : {A : Type 0} (P : A → Type 0) (xs : List A) (j : ℕ) (x : A) → Each P xs → slice_get xs j ≡ Some x → P x
each-at P [] zero x h e = absurd (none-some x e)
each-at P [] (suc j) x h e = absurd (none-some x e)
each-at P (y ∷ xs) zero x h e = subst P (some-same y x e) h.0
each-at P (y ∷ xs) (suc j) x h e = each-at P xs j x h.1 e

get-map : {A B : Type 0} (f : A → B) (xs : List A) (j : ℕ) (x : A) → slice_get xs j ≡ Some x → slice_get (map f xs) j ≡ Some (f x)
get-map f [] zero x e = absurd (none-some x e)
get-map f [] (suc j) x e = absurd (none-some x e)
get-map f (y ∷ xs) zero x e = ap (λ z. Some (f z)) (some-same y x e)
get-map f (y ∷ xs) (suc j) x e = get-map f xs j x e

or-get : {A : Type 0} (xs : List A) (j : ℕ) (x d : A) → slice_get xs j ≡ Some x → get_or xs j d ≡ x
or-get [] zero x d e = absurd (none-some x e)
or-get [] (suc j) x d e = absurd (none-some x e)
or-get (y ∷ xs) zero x d e = some-same y x e
or-get (y ∷ xs) (suc j) x d e = or-get xs j x d e

append-none : (xs : List Step) → xs ++ [] ≡ xs
append-none [] = refl
append-none (x ∷ xs) = ap (λ l. x ∷ l) (append-none xs)

-- ---- how bodies begin

end-shown : (ends : Bool) → ((tasks_shown (at_end ends)).wrong ≡ 0) × ((tasks_shown (at_end ends)).own [] ≡ []) × ((n m : ℕ) → AheadOf n m (at_end ends))
end-shown true = (refl, refl, λ n m. tt)
end-shown false = (refl, refl, λ n m. tt)

rest-lasts : (ss : List TypedStmt) (ends : Bool) → all_good (stmts_marks ss) ≡ true → Lasts (execs ss (at_end ends)) (steps_in (stmts_marks ss)) × ((n m : ℕ) → AheadOf n m (execs ss (at_end ends)))
rest-lasts ss ends good =
    let e = end-shown ends in
    let w = e.0 in
    let made = (all-agree ss).made good in
    let z = made.0 in
    let shows = execs-show ss (at_end ends) (omega (arith, w, z)) in (
      record { wrong = shows.0; left = shows.1 [] ∙ ap (λ k. (stmts_shown ss).own k) e.1 ∙ made.1 [] ∙ append-none (steps_in (stmts_marks ss)); ahead = execs-ahead ss (at_end ends) 0 0 (e.2 _ _) },
      λ n m. execs-ahead ss (at_end ends) n m (e.2 _ _),
    )

ticked : (ts : List Task) (steps : List Step) → Lasts ts steps → Lasts (Do op.Tick ∷ ts) steps
ticked ts steps h = let w = h.wrong in record { wrong = omega (arith, w); left = h.left; ahead = ahead-less ts _ _ _ _ (omega arith) (omega arith) h.ahead }

initial-lasts : (ss : List TypedStmt) (ts : List Task) (steps : List Step) → none_said (stmts_marks ss) ≡ true → Lasts ts steps → Lasts (execs ss ts) steps
initial-lasts ss ts steps silent h =
    let none = (all-agree ss).silent silent in
    let size = none.0 in
    let right = none.1 in
    let w = h.wrong in
    let shows = execs-show ss ts (omega (arith, w, right)) in
    record { wrong = shows.0; left = shows.1 [] ∙ fair (stmts_shown ss) (told-stmts ss) size _ ∙ h.left; ahead = block-ahead ss ts 0 0 size h.ahead }

value-lasts : (value : TypedExpr) (ts : List Task) (steps : List Step) → none_said (expr_marks value) ≡ true → Lasts ts steps → Lasts (Eval value ∷ ts) steps
value-lasts value ts steps silent h =
    let none = (expr-agrees value).silent silent in
    let size = none.0 in
    let right = none.1 in
    let w = h.wrong in
    let m = (same-sizes (expr_shown value) nothing_shown (told-expr value) told-nothing (fair (expr_shown value) (told-expr value) size)).1 in
    record { wrong = omega (arith, w, right); left = fair (expr_shown value) (told-expr value) size _ ∙ h.left; ahead = ahead-less ts _ _ _ _ (omega (arith, size)) (omega (arith, m)) h.ahead }

begins-named : (ts : List Task) (steps : List Step) → Lasts ts steps → ((n m : ℕ) → AheadOf n m ts) → Lasts (Do op.Workers ∷ ts) (Begins ∷ steps)
begins-named ts steps h ahead = let w = h.wrong in record { wrong = omega (arith, w); left = ap (λ l. Begins ∷ l) h.left; ahead = ahead _ _ }

-- the end of an expression's body
return-lasts : Lasts (Do op.Return ∷ []) []
return-lasts = record { wrong = refl; left = refl; ahead = tt }

values-lasts : (values : List Initial) (ts : List Task) → All (λ i. none_said (expr_marks i.value.value) ≡ true) values → Lasts ts [] → Lasts (initialises values ts) []
values-lasts [] ts all h = h
values-lasts (i ∷ values) ts all h =
    let rest = values-lasts values ts (λ k d lt. all (suc k) d (omega (arith, lt))) h in
    let w = rest.wrong in
    value-lasts i.value.value (Do (op.StoreModule i.variable) ∷ initialises values ts) [] (all 0 i (omega arith)) (record { wrong = omega (arith, w); left = rest.left; ahead = ahead-less (initialises values ts) _ _ _ _ (omega arith) (omega arith) rest.ahead })

-- ---- the crew of each unit

abbrev pub body_crew : SemType → UnitBody → Crew
body_crew result (OfFunction body) = crew_of (members_of_body result body)
body_crew result (OfWorker stmts ends) = [] ∷ []
body_crew result (OfAnonymous value) = [] ∷ []
body_crew result (OfInitialiser values) = [] ∷ []

abbrev pub unit_crew : Option UnitTree → Crew
unit_crew (Some u) = body_crew (sem_of u.unit.result) u.body
unit_crew None = [] ∷ []

no-events : (w : ℕ) → events_of ([] ∷ []) w ≡ []
no-events zero = refl
no-events (suc zero) = refl
no-events (suc (suc w)) = refl

none-here : (i : ℕ) (P : EventKind → Type 0) → IsSomeAnd (slice_get [] i) P → ⊥
none-here zero P h = h
none-here (suc i) P h = h

calm-needs : (w i u j : ℕ) → Needs ([] ∷ []) w i u j → ⊥
calm-needs w i u j needs = none-here i (λ e. NeedsAs ([] ∷ []) e w i u j) (subst (λ es. IsSomeAnd (slice_get es i) (λ e. NeedsAs ([] ∷ []) e w i u j)) (no-events w) needs)

calm-counts : (is : EventKind → Bool) (w : ℕ) → count is (events_of ([] ∷ []) w) ≡ 0
calm-counts is w = ap (count is) (no-events w)

-- a crew without events is paired and ordered
calm-crew : ArePaired ([] ∷ []) × IsOrderable ([] ∷ [])
calm-crew = (
  (λ v w. calm-counts _ v ∙ sym (calm-counts _ w)),
  (
    (λ w i. 0),
    record {
      rises = λ w i j lt there. (let l = ap length (no-events w) in absurd (omega (arith, there, l)));
      follows = λ w i u j needs. absurd (calm-needs w i u j needs);
    },
  ),
)

module _ (passes : List AtomDef → Asked → TypeLimit → Type 0) (p : TypedPackage) (planned : ArePlanned passes p) where
  abbrev pub K : ℕ → Crew
  K n = unit_crew (unit_at p n)

  -- ---- members with a plan

  member-good : (ms : Members) → HasPlan passes ms → (w : ℕ) (m : Member) → slice_get ms w ≡ Some m → Each (λ s. IsGood s × (names_other (length ms) w s.kind ≡ true)) m.sayings
  member-good ms (at, old, plan, new, is) w m there =
      let good = plans-are-good passes at ms old plan new is in
      each-by (λ s. IsGood s × (names_other (length ms) w s.kind ≡ true)) m.sayings (λ j s e.
      let among = text-said w j ms m s there e in
      let peer = both-false s.initial (names_other (length ms) w s.kind) (good.peers (record { worker = w; number = j; saying = s }) among) in
      ((peer.0, good.unconditional (record { worker = w; number = j; saying = s }) among, (names-peer (length ms) w s.kind peer.1).0), peer.1))

  right-member : (ms : Members) → HasPlan passes ms → (w : ℕ) (result : SemType) (initial rest : Listed Mark) (end : Place) → slice_get ms w ≡ Some (member_of result initial rest end) → IsRight (member_of result initial rest end) initial rest
  right-member ms plan w result initial rest end there =
      right result initial rest end (each-first IsGood (λ s. names_other (length ms) w s.kind ≡ true) _ (member-good ms plan w (member_of result initial rest end) there))

  -- ---- calls

  first-of : (n : ℕ) (u : UnitTree) (w : ℕ) (m : Member) (body : TypedBody) → unit_at p n ≡ Some u → u.body ≡ OfFunction body → slice_get (members_of_body (sem_of u.unit.result) body) w ≡ Some m → events_of (K n) w ≡ kinds m
  first-of n u w m body there is member =
      let crew : K n ≡ crew_of (members_of_body (sem_of u.unit.result) body) = ap unit_crew there ∙ ap (body_crew (sem_of u.unit.result)) is in
      ap (λ c. events_of c w) crew ∙ or-get (crew_of (members_of_body (sem_of u.unit.result) body)) w (kinds m) [] (get-map kinds (members_of_body (sem_of u.unit.result) body) w m member)

  block-begins : (n : ℕ) (u : UnitTree) (initial rest : List TypedStmt) (workers : List TypedWorker) (ends : Bool) (es : List EventKind) → none_said (stmts_marks initial) ≡ true → all_good (stmts_marks rest) ≡ true → map Makes es ≡ steps_in (stmts_marks rest) → events_of (K n) 0 ≡ es ++ End ∷ [] →
      Unstarted K n (Do op.Tick ∷ execs initial (starts_named workers (execs rest (at_end ends))))
  block-begins n u initial rest [] ends es silent good steps all =
      let r = rest-lasts rest ends good in
      inr (steps_in (stmts_marks rest), ticked _ _ (initial-lasts initial (execs rest (at_end ends)) _ silent r.0), inl (es, sym steps))
  block-begins n u initial rest (w ∷ ws) ends es silent good steps all =
      let r = rest-lasts rest ends good in
      inr (Begins ∷ steps_in (stmts_marks rest), ticked _ _ (initial-lasts initial (Do op.Workers ∷ execs rest (at_end ends)) _ silent (begins-named (execs rest (at_end ends)) _ r.0 r.1)), inr (es, ap (λ l. Begins ∷ l) (sym steps), all))

  tree-begins : (n : ℕ) (u : UnitTree) → unit_at p n ≡ Some u → (b : UnitBody) → u.body ≡ b → Unstarted K n (Do op.Tick ∷ body_tasks b)
  tree-begins n u there (OfFunction (BlockBody initial workers rest ends close)) is =
      let plan = planned.functions n u (BlockBody initial workers rest ends close) there is in
      let r = right-member (members_of_body (sem_of u.unit.result) (BlockBody initial workers rest ends close)) plan 0 (sem_of u.unit.result) (stmts_marks initial.items) (stmts_marks rest.items) close refl in
      block-begins n u initial.items rest.items workers.items ends r.events r.silent r.good r.steps (first-of n u 0 _ (BlockBody initial workers rest ends close) there is refl ∙ r.ends)
  tree-begins n u there (OfFunction (ValueBody value)) is =
      let plan = planned.functions n u (ValueBody value) there is in
      let r = right-member (members_of_body (sem_of u.unit.result) (ValueBody value)) plan 0 (sem_of u.unit.result) nothing (expr_marks value.value) (place_of value.value) refl in
      let made = (expr-agrees value.value).made r.good in
      let w = made.0 in
      inr (steps_in (expr_marks value.value), record { wrong = omega (arith, w); left = made.1 [] ∙ append-none (steps_in (expr_marks value.value)); ahead = tt }, inl (r.events, sym r.steps))
  tree-begins n u there (OfWorker stmts ends) is = by (planned.workers n u stmts ends there is)
    where
      by : AreOfWorker p stmts → Unstarted K n (Do op.Tick ∷ execs stmts (at_end ends))
      by k = of-body k.body k.is k.among
        where
          of-body : (body : TypedBody) → k.function.body ≡ OfFunction body → slice_get (workers_of body) k.place ≡ Some k.worker → Unstarted K n (Do op.Tick ∷ execs stmts (at_end ends))
          of-body (ValueBody value) f among = absurd (none-at k.place k.worker among)
            where
              none-at : (i : ℕ) (w : TypedWorker) → slice_get [] i ≡ Some w → ⊥
              none-at zero w e = none-some w e
              none-at (suc i) w e = none-some w e
          of-body (BlockBody initial workers rest others close) f among =
              let ms : Members = members_of_body (sem_of k.function.unit.result) (BlockBody initial workers rest others close) in
              let plan = planned.functions k.number k.function (BlockBody initial workers rest others close) k.there f in
              let r = right-member ms plan (suc k.place) (sem_of k.worker.unit.result) nothing (stmts_marks k.worker.stmts.items) k.worker.close (get-map named_member workers.items k.place k.worker among) in
              let l = rest-lasts k.worker.stmts.items ends r.good in
              subst (λ ss. Unstarted K n (Do op.Tick ∷ execs ss (at_end ends))) (sym k.same) (inr (steps_in (stmts_marks k.worker.stmts.items), ticked _ _ l.0, inl (r.events, sym r.steps)))
  tree-begins n u there (OfAnonymous value) is =
      inr ([], ticked _ _ (value-lasts value (Do op.Return ∷ []) [] (planned.anonymous n u value there is) return-lasts), inl ([], refl))
  tree-begins n u there (OfInitialiser values) is =
      let e = end-shown true in
      inr ([], ticked _ _ (values-lasts values (at_end true) (planned.initial n u values there is) (record { wrong = e.0; left = e.1; ahead = e.2 0 0 })), inl ([], refl))

  module _ (atoms : List AtomDef) (fillers : ℕ → List Filler) where
    abbrev M : Machine Doing
    M = trees atoms fillers p

    calls : (n : ℕ) (args : List Value) (k : Doing) → M.enter n args ≡ Some k → Unstarted K n k.tasks
    calls n args k e = by (unit_at p n) refl e
      where
        by : (o : Option UnitTree) → unit_at p n ≡ o → option_map (entered args) o ≡ Some k → Unstarted K n k.tasks
        by None is e = absurd (none-some k e)
        by (Some u) is e = subst (λ d. Unstarted K n d.tasks) (some-same (entered args u) k e) (tree-begins n u is u.body refl)

    facts-of : (n : ℕ) (u : UnitFacts) → slice_get M.facts.units n ≡ Some u → unit_facts (unit_at p n) ≡ u
    facts-of n u e =
        let h = from-map (λ m. unit_facts (unit_at p m)) (numbers_from 0 p.units) n u e in
        let number = numbers-at 0 p.units n h.0 h.1 in
        ap (λ m. unit_facts (unit_at p m)) (omega (arith, number)) ∙ h.2

    crew-begins : (n i : ℕ) (x : WorkerFacts) (args : List Value) (k : Doing) → slice_get (unit_facts (unit_at p n)).workers i ≡ Some x → M.enter x.unit args ≡ Some k → (steps : List Step) × Lasts k.tasks steps × AtStep (events_of (K n) (suc i)) 0 steps
    crew-begins n i x args k at enters = by (unit_at p n) refl at
      where
        none-at : (i : ℕ) (w : WorkerFacts) → slice_get [] i ≡ Some w → ⊥
        none-at zero w e = none-some w e
        none-at (suc i) w e = none-some w e

        named : (u : UnitTree) (initial workers rest : _) (ends : Bool) (close : Place) → unit_at p n ≡ Some u → u.body ≡ OfFunction (BlockBody initial workers rest ends close) → slice_get (map worker_facts workers.items) i ≡ Some x → (steps : List Step) × Lasts k.tasks steps × AtStep (events_of (K n) (suc i)) 0 steps
        named u initial workers rest ends close there is at =
            let w = from-map worker_facts workers.items i x at in
            let ms : Members = members_of_body (sem_of u.unit.result) (BlockBody initial workers rest ends close) in
            let plan = planned.functions n u (BlockBody initial workers rest ends close) there is in
            let member = get-map named_member workers.items i w.0 w.1 in
            let r = right-member ms plan (suc i) (sem_of w.0.unit.result) nothing (stmts_marks w.0.stmts.items) w.0.close member in
            let l = rest-lasts w.0.stmts.items w.0.ends r.good in
            let own = planned.named n u (BlockBody initial workers rest ends close) there is i w.0 w.1 in
            let enters' : option_map (entered args) (Some (worker_tree w.0)) ≡ Some k = ap (option_map (entered args)) (sym own) ∙ ap (λ m. option_map (entered args) (unit_at p m)) (ap (λ z. z.unit) w.2) ∙ enters in (
              steps_in (stmts_marks w.0.stmts.items),
              subst (λ d. Lasts d.tasks (steps_in (stmts_marks w.0.stmts.items))) (some-same (entered args (worker_tree w.0)) k enters') (ticked _ _ l.0),
              ap (map Makes) (first-of n u (suc i) (named_member w.0) (BlockBody initial workers rest ends close) there is member ∙ r.ends) ∙ map-both Makes r.events (End ∷ []) ∙ ap (λ l. l ++ Makes End ∷ []) r.steps,
            )

        by-body : (u : UnitTree) → unit_at p n ≡ Some u → (b : UnitBody) → u.body ≡ b → slice_get (workers_in b) i ≡ Some x → (steps : List Step) × Lasts k.tasks steps × AtStep (events_of (K n) (suc i)) 0 steps
        by-body u there (OfFunction (BlockBody initial workers rest ends close)) is at = named u initial workers rest ends close there is at
        by-body u there (OfFunction (ValueBody value)) is at = absurd (none-at i x at)
        by-body u there (OfWorker stmts ends) is at = absurd (none-at i x at)
        by-body u there (OfAnonymous value) is at = absurd (none-at i x at)
        by-body u there (OfInitialiser values) is at = absurd (none-at i x at)

        by : (o : Option UnitTree) → unit_at p n ≡ o → slice_get (unit_facts o).workers i ≡ Some x → (steps : List Step) × Lasts k.tasks steps × AtStep (events_of (K n) (suc i)) 0 steps
        by None is at = absurd (none-at i x at)
        by (Some u) is at = by-body u is u.body refl at

    body-size : (result : SemType) (b : UnitBody) → length (body_crew result b) ≡ suc (length (workers_in b))
    body-size result (OfFunction (BlockBody initial workers rest ends close)) = ap suc (length-map (map named_member workers.items) kinds ∙ length-map workers.items named_member ∙ sym (length-map workers.items worker_facts))
    body-size result (OfFunction (ValueBody value)) = refl
    body-size result (OfWorker stmts ends) = refl
    body-size result (OfAnonymous value) = refl
    body-size result (OfInitialiser values) = refl

    sizes : (n : ℕ) (u : UnitFacts) → slice_get M.facts.units n ≡ Some u → length (K n) ≡ suc (length u.workers)
    sizes n u e = by (unit_at p n) refl ∙ ap (λ z. suc (length z.workers)) (facts-of n u e)
      where
        by : (o : Option UnitTree) → unit_at p n ≡ o → length (unit_crew o) ≡ suc (length (unit_facts o).workers)
        by None is = refl
        by (Some t) is = body-size (sem_of t.unit.result) t.body

    function-peers : (ms : Members) → HasPlan passes ms → (w i : ℕ) (e : EventKind) → slice_get (events_of (crew_of ms) w) i ≡ Some e → PeerThere (length (crew_of ms)) e
    function-peers ms plan w i e at = subst (λ k. PeerThere k e) (sym (length-map ms kinds)) (by (slice_get ms w) refl)
      where
        no-member : (ms : Members) (w : ℕ) → slice_get ms w ≡ None → events_of (crew_of ms) w ≡ []
        no-member [] zero is = refl
        no-member [] (suc w) is = refl
        no-member (m ∷ ms) zero is = absurd (none-some m (sym is))
        no-member (m ∷ ms) (suc w) is = no-member ms w is

        by : (o : Option Member) → slice_get ms w ≡ o → PeerThere (length ms) e
        by None is = absurd (none-here i (λ x. x ≡ e) (subst (λ l. IsSomeAnd (slice_get l i) (λ x. x ≡ e)) (no-member ms w is) (subst (λ o. IsSomeAnd o (λ x. x ≡ e)) (sym at) refl)))
        by (Some m) is =
            let events : events_of (crew_of ms) w ≡ kinds m = or-get (crew_of ms) w (kinds m) [] (get-map kinds ms w m is) in
            let s = from-map kind_of m.sayings i e (ap (λ l. slice_get l i) (sym events) ∙ at) in
            let good = each-at (λ s. IsGood s × (names_other (length ms) w s.kind ≡ true)) m.sayings i s.0 (member-good ms plan w m is) s.1 in
            subst (PeerThere (length ms)) s.2 (names-peer (length ms) w s.0.kind good.1).1

    calm-peers : (w i : ℕ) (e : EventKind) → slice_get (events_of ([] ∷ []) w) i ≡ Some e → PeerThere 1 e
    calm-peers w i e at = absurd (none-here i (λ x. x ≡ e) (subst (λ l. IsSomeAnd (slice_get l i) (λ x. x ≡ e)) (no-events w) (subst (λ o. IsSomeAnd o (λ x. x ≡ e)) (sym at) refl)))

    peers : (n w i : ℕ) (e : EventKind) → slice_get (events_of (K n) w) i ≡ Some e → PeerThere (length (K n)) e
    peers n w i e at = by (unit_at p n) refl at
      where
        by-body : (u : UnitTree) → unit_at p n ≡ Some u → (b : UnitBody) → u.body ≡ b → slice_get (events_of (body_crew (sem_of u.unit.result) b) w) i ≡ Some e → PeerThere (length (body_crew (sem_of u.unit.result) b)) e
        by-body u there (OfFunction body) is at = function-peers (members_of_body (sem_of u.unit.result) body) (planned.functions n u body there is) w i e at
        by-body u there (OfWorker stmts ends) is at = calm-peers w i e at
        by-body u there (OfAnonymous value) is at = calm-peers w i e at
        by-body u there (OfInitialiser values) is at = calm-peers w i e at

        by : (o : Option UnitTree) → unit_at p n ≡ o → slice_get (events_of (unit_crew o) w) i ≡ Some e → PeerThere (length (unit_crew o)) e
        by None is at = calm-peers w i e at
        by (Some u) is at = by-body u is u.body refl at

    pub begun-well : Begun K M
    begun-well =
        record {
          calls = calls;
          crews = λ n i u x args k is at enters. crew-begins n i x args k (ap (λ z. slice_get z.workers i) (facts-of n u is) ∙ at) enters;
          sizes = sizes;
          peers = peers;
        }

  -- ---- messages are paired, and events are numbered

  good-crews : (n : ℕ) → ArePaired (K n) × IsOrderable (K n)
  good-crews n = by (unit_at p n) refl
    where
      by-body : (u : UnitTree) → unit_at p n ≡ Some u → (b : UnitBody) → u.body ≡ b → ArePaired (body_crew (sem_of u.unit.result) b) × IsOrderable (body_crew (sem_of u.unit.result) b)
      by-body u there (OfFunction body) is =
          let plan = planned.functions n u body there is in
          let h = plans-pair-up passes plan.0 (members_of_body (sem_of u.unit.result) body) plan.1 plan.3 plan.2 plan.4 in
          (h.0, (rank_in (members_of_body (sem_of u.unit.result) body) plan.2.ranks, h.1))
      by-body u there (OfWorker stmts ends) is = calm-crew
      by-body u there (OfAnonymous value) is = calm-crew
      by-body u there (OfInitialiser values) is = calm-crew

      by : (o : Option UnitTree) → unit_at p n ≡ o → ArePaired (unit_crew o) × IsOrderable (unit_crew o)
      by None is = calm-crew
      by (Some u) is = by-body u is u.body refl

pub planned-never-ring : (passes : List AtomDef → Asked → TypeLimit → Type 0) (natives : Answers) → PlannedNeverRing passes natives
planned-never-ring passes natives atoms fillers p planned = trees-never-ring natives (K passes p planned) atoms fillers p (begun-well passes p planned atoms fillers) (good-crews passes p planned)
