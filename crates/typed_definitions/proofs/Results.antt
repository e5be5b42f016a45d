-- Workers of a function as they are made, and what they give as it is told.
use Rattle.checks.specs.Checks.{gives_some}
use Rattle.std.proofs.Common.{Err, List, Ok, Result, Some, [], ap, arith, false, length, length-append, map, subst, suc, sym, zero, ℕ, ◌++◌, ◌+◌, ◌<◌, ◌∙◌, ◌∷◌, ◌≡◌, ◌≤◌}
use Rattle.std.specs.Prelude.{IsSomeAnd, slice_get, ⊤}
use Rattle.bal_base.specs.declared.fault.Fault.{Fault}
use Rattle.bal_tree.specs.declared.def.Worker.{Worker}
use Rattle.bal_tree.specs.declared.stmt.Block.{out-Block}
use Rattle.check_laws.specs.Laws.{KeepsPositions}
use Rattle.check_laws.specs.StmtLaws.{HasUnit, IsOneBlockMore, KeptStmtPositions}
use Rattle.check_words.specs.State.{Site, State, UnitAtWork}
use Rattle.descriptors.specs.declared.names.Names.{Names}
use Rattle.expr_needs.specs.Needs.{BeginsWorker, EndsWorker, Need}
use Rattle.kept_done.specs.Done.{DoneIsKept, TreesEndNone}
use Rattle.operations.specs.Rows.{Surroundings}
use Rattle.stmt_needs.specs.PackageTable.{numbered, numbered_from, worker_needs}
use Rattle.stmt_needs.specs.StmtTable.{in_block, read_block}
use Rattle.tree_places.specs.UsedInStmts.{used_in_block}
use Rattle.type_model.specs.Calls.{Asked}
use Rattle.type_model.specs.Inclusion.{Sub}
use Rattle.type_model.specs.declared.answers.TypeLimit.{TypeLimit}
use Rattle.type_model.specs.declared.atoms.AtomDef.{AtomDef}
use Rattle.typed_bodies.proofs.Trails.{as-many}
use Rattle.typed_definitions.proofs.Begun.{AllTold}
use Rattle.typed_exprs.proofs.Steps.{parted}
use Rattle.typed_exprs.specs.Lines.{Run}
use Rattle.typed_needs.proofs.OnTheWay.{unit-came}
use Rattle.typed_needs.proofs.Placed.{last-same}
use Rattle.typed_needs.specs.Going.{IsSameUnit}
use Rattle.typed_needs.specs.WholeRuns.{RunsGoOn}
use Rattle.typed_tree.specs.Listed.{Listed, members, nothing, one, ◌&◌}
use Rattle.typed_tree.specs.SharedTypes.{Shared, sem_of}
use Rattle.typed_tree.specs.declared.unit.TypedUnit.{TypedUnit}
use Rattle.typed_tree.specs.declared.unit.TypedWorker.{TypedWorker}
use Rattle.typed_trees.proofs.Leaving.{only-met}
use Rattle.typed_units.proofs.Beginning.{worker-begun, worker-ended}
use Rattle.typed_units.proofs.Functions.{Beside, worker-beside}

-- what the worker gives is what is told of the one with this number
pub record IsTold (results : List (Result Shared Fault)) (number : ℕ) (w : TypedWorker) : Type 0 where
  pub type : Shared
  pub told : slice_get results number ≡ Some (Ok type)
  pub gives : sem_of w.unit.result ≡ sem_of type

abbrev pub AreTold : List (Result Shared Fault) → ℕ → List TypedWorker → Type 0
AreTold results n [] = ⊤
AreTold results n (w ∷ ws) = IsTold results n w × AreTold results (suc n) ws

told-more : (results : List (Result Shared Fault)) (n : ℕ) (ws : List TypedWorker) (w : TypedWorker) → AreTold results n ws → IsTold results (n + length ws) w
    → AreTold results n (ws ++ w ∷ [])
told-more results n [] w h t = (subst (λ k. IsTold results k w) (omega arith) t, tt)
told-more results n (v ∷ ws) w h t = (h.0, told-more results (suc n) ws w h.1 (subst (λ k. IsTold results k w) (omega arith) t))

-- one worker more
pub record WorkerMade (number : ℕ) (old new : State) : Type 0 where
  pub worker : TypedWorker
  pub workers : new.done.workers ≡ old.done.workers ++ worker ∷ []
  pub functions : new.done.functions ≡ old.done.functions
  pub initialisers : new.done.initialisers ≡ old.done.initialisers
  pub variables : new.done.variables ≡ old.done.variables
  pub told : IsTold old.site.results number worker

module _ (passes : List AtomDef → Asked → TypeLimit → Type 0) (positions : KeptStmtPositions passes) (goes : RunsGoOn passes) (done : DoneIsKept passes) (trees : TreesEndNone) (names : Names)
    (env : List AtomDef) (place : Surroundings) where
  pub worker-made : (x : Worker) (number : ℕ) (old new : State) → HasUnit old → Run passes names env (worker_needs number x) old new → WorkerMade number old new
  worker-made x number old new unit run =
      let begins : Listed Need = one (BeginsWorker x number (members (used_in_block x.body))) in
      let body : Listed Need = (read_block x.body).needs (in_block false) in
      let ends : Listed Need = one (EndsWorker x (out-Block x.body).close) in
      let (a, rb, rest) = parted passes names env begins (body & ends) old new run in
      let (b, inner, re) = parted passes names env body ends a new rest in
      let start = worker-begun place x number (members (used_in_block x.body)) old a rb.0 in
      let end = worker-ended passes x (out-Block x.body).close b new re.0 in
      let unit-a : HasUnit a = (let e = ap length start.units in let l = length-append old.units (start.unit ∷ []) in omega (arith, e, l)) in
      let met = only-met passes names env body a b inner in
      let q : KeepsPositions passes names HasUnit IsOneBlockMore body = (positions names).block x.body (in_block false) in
      let more : IsOneBlockMore a b = q.comes a b unit-a met in
      let kept = done names body a b (trees.block x.body (in_block false)) met in
      let c = unit-came a b end.unit ((goes names).block x.body (in_block false) a b unit-a met) (as-many a.units b.units more.same.units) end.at_hand in
      let same : IsSameUnit start.unit end.unit =
      subst (λ (u : UnitAtWork). IsSameUnit u end.unit) (last-same a.units c.was start.unit c.at_hand (record { kept = old.units; is = start.units })) c.same in
      record {
        worker = end.worker;
        workers = end.workers ∙ ap (λ ws. ws ++ end.worker ∷ []) (kept.workers ∙ start.workers);
        functions = end.functions ∙ kept.functions ∙ start.functions;
        initialisers = end.initialisers ∙ kept.initialisers ∙ start.initialisers;
        variables = end.variables ∙ kept.variables ∙ start.variables;
        told = record { type = start.result; told = start.told; gives = ap (λ (u : TypedUnit). sem_of u.result) end.is.1 ∙ same.result ∙ start.gives };
      }

  -- ---- all of them

  -- Behind those that are done by now stands none, and the next one has this number.
  pub record Done (next : ℕ) (old new : State) : Type 0 where
    pub told : AreTold old.site.results 1 new.done.workers
    pub functions : new.done.functions ≡ old.done.functions
    pub initialisers : new.done.initialisers ≡ old.done.initialisers
    pub variables : new.done.variables ≡ old.done.variables
    pub many : next ≡ suc (length new.done.workers)
    pub site : new.site ≡ old.site
    pub unit : HasUnit new

  abbrev pub Makes : ℕ → Listed Need → Type 0
  Makes next needs = (old new : State) → HasUnit old → old.done.workers ≡ [] → Run passes names env needs old new → Done next old new

  workers-made : (xs : List Worker) (n : ℕ) (before : Listed Need) → Makes n before → Makes (n + length xs) (numbered_from before worker_needs n xs)
  workers-made [] n before f = λ old new unit none run. subst (λ k. Done k old new) (omega arith) (f old new unit none run)
  workers-made (x ∷ xs) n before f = λ old new unit none run.
      subst (λ k. Done k old new) (omega arith) (workers-made xs (suc n) (before & worker_needs n x) step old new unit none run)
    where
      step : Makes (suc n) (before & worker_needs n x)
      step old new unit none run =
          let (m, ra, rb) = parted passes names env before (worker_needs n x) old new run in
          let d = f old m unit none ra in
          let w = worker-made x n m new d.unit rb in
          let b : Beside m new = worker-beside passes positions goes names env place x n m new d.unit rb in
          let many : length new.done.workers ≡ suc (length m.done.workers) =
          (let e = ap length w.workers in let l = length-append m.done.workers (w.worker ∷ []) in omega (arith, e, l)) in
          let here : IsTold old.site.results n w.worker = subst (λ (s : Site). IsTold s.results n w.worker) d.site w.told in
          let at : IsTold old.site.results (1 + length m.done.workers) w.worker = subst (λ k. IsTold old.site.results k w.worker) (let e = d.many in omega (arith, e)) here in
          record {
            told = subst (AreTold old.site.results 1) (sym w.workers) (told-more old.site.results 1 m.done.workers w.worker d.told at);
            functions = w.functions ∙ d.functions;
            initialisers = w.initialisers ∙ d.initialisers;
            variables = w.variables ∙ d.variables;
            many = (let e = d.many in omega (arith, e, many));
            site = b.stays.site ∙ d.site;
            unit = subst (λ us. 1 ≤ length us) (sym b.units) d.unit;
          }

  none-made : Makes 1 nothing
  unfolding gives_some
  none-made old new unit none (is, same) =
      record {
        told = subst (AreTold old.site.results 1) (sym (ap (λ (s : State). s.done.workers) same ∙ none)) tt;
        functions = ap (λ (s : State). s.done.functions) same;
        initialisers = ap (λ (s : State). s.done.initialisers) same;
        variables = ap (λ (s : State). s.done.variables) same;
        many = (let e = ap (λ (s : State). length s.done.workers) same ∙ ap length none in omega (arith, e));
        site = ap (λ (s : State). s.site) same;
        unit = subst (λ (s : State). HasUnit s) (sym same) unit;
      }

  pub all-made : (xs : List Worker) → Makes (1 + length xs) (numbered worker_needs 1 xs)
  all-made xs = workers-made xs 1 nothing none-made

-- ---- what the workers give, as it is told

pub told-at : (env : List AtomDef) (results : List (Result Shared Fault)) (n : ℕ) (ws : List TypedWorker) (k : ℕ) (t : Shared) → AreTold results n ws → k < length ws
    → slice_get results (n + k) ≡ Some (Ok t) → IsSomeAnd (slice_get (map (λ (w : TypedWorker). sem_of w.unit.result) ws) k) (λ s. Sub env s (sem_of t))
told-at env results n [] k t h lt e = absurd (omega (arith, lt))
told-at env results n (w ∷ ws) zero t h lt e =
    let is = h.0 in
    let here : slice_get results n ≡ Some (Ok t) = subst (λ k. slice_get results k ≡ Some (Ok t)) (omega arith) e in
    let told = is.told in
    let same : is.type ≡ t = cc in
    let all : sem_of w.unit.result ≡ sem_of t = is.gives ∙ ap sem_of same in
    subst (λ s. Sub env (sem_of w.unit.result) s) all (λ x valid i. i)
told-at env results n (w ∷ ws) (suc k) t h lt e =
    told-at env results (suc n) ws k t h.1 (omega (arith, lt)) (subst (λ i. slice_get results i ≡ Some (Ok t)) (omega arith) e)

-- those of the others, by their numbers among these
fewer : (r : Result Shared Fault) (rs : List (Result Shared Fault)) (n : ℕ) (ws : List TypedWorker) → AreTold (r ∷ rs) (suc n) ws → AreTold rs n ws
fewer r rs n [] h = tt
fewer r rs n (w ∷ ws) h = (record { type = h.0.type; told = h.0.told; gives = h.0.gives }, fewer r rs (suc n) ws h.1)

-- none of them is a fault
pub told-without : (r : Result Shared Fault) (rs : List (Result Shared Fault)) (ws : List TypedWorker) → AreTold (r ∷ rs) 1 ws → AreTold rs 0 ws
told-without r rs ws h = fewer r rs 0 ws h

pub all-told : (results : List (Result Shared Fault)) (ws : List TypedWorker) → AreTold results 0 ws → length results ≡ length ws → AllTold results
all-told [] ws h e = tt
all-told (r ∷ rs) [] h e = absurd (omega (arith, e))
all-told (Ok t ∷ rs) (w ∷ ws) h e = all-told rs ws (fewer (Ok t) rs 0 ws h.1) (omega (arith, e))
all-told (Err f ∷ rs) (w ∷ ws) h e = (let told = h.0.told in let bad : ⊥ = cc in bad)
