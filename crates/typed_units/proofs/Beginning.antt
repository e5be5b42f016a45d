-- Workers where they begin and where they end.
use Rattle.std.proofs.Common.{All, Bool, Err, List, None, Ok, Option, Result, Some, [], ap, append_assoc, arith, false, length, length-append, map, subst, suc, sym, true, ℕ, ◌++◌, ◌∙◌, ◌∷◌, ◌≡◌}
use Rattle.std.proofs.lemmas.List.Elements.{All-cons, All-nil}
use Rattle.std.specs.List.{list_any}
use Rattle.std.specs.Prelude.{pred, slice_get, take, ◌||◌}
use Rattle.bal_base.specs.declared.fault.Fault.{Fault}
use Rattle.bal_base.specs.declared.fault.FaultCode.TheVariants.{Duplicate}
use Rattle.bal_base.specs.declared.fault.FaultCode.{FaultCode}
use Rattle.bal_base.specs.declared.place.Place.{Place}
use Rattle.bal_tree.specs.declared.def.Worker.{Worker}
use Rattle.bal_tree.specs.declared.name.Word.{Word}
use Rattle.check_words.specs.Actions.{known_result, result_of}
use Rattle.check_words.specs.Calls.{Capture, captures, closes_unit, new_number}
use Rattle.check_words.specs.State.{BlockAtWork, IsLast, Site, State, UnitAtWork, all_but}
use Rattle.check_words.specs.Units.{begins_worker, ends_by, ends_worker, in_worker, is_worker_new, typed_worker, worker_unit}
use Rattle.check_words.specs.Words.{by_handles, done, fails, unless}
use Rattle.type_model.specs.Places.{is_same_text}
use Rattle.checks.specs.Checks.{Gives, either, gives_some, refuses, ◌▷◌}
use Rattle.needs.specs.Needs.{does}
use Rattle.operations.specs.Rows.{Surroundings}
use Rattle.type_model.specs.Calls.{Asked}
use Rattle.type_model.specs.declared.answers.TypeLimit.{TypeLimit}
use Rattle.type_model.specs.declared.atoms.AtomDef.{AtomDef}
use Rattle.type_model.specs.declared.basic.SemType.{SemType}
use Rattle.type_model.specs.declared.basic.Ty.{Ty}
use Rattle.typed_functions.proofs.Begun.{AreIn, by-handles}
use Rattle.typed_functions.proofs.Captures.{InSlots}
use Rattle.typed_needs.proofs.Placed.{get-behind}
use Rattle.typed_needs.proofs.Leaving.{LeavesAll, all-asking, all-some, all-then}
use Rattle.typed_needs.proofs.Questions.{is-below-adds-none}
use Rattle.typed_stmts.proofs.Words.{block-closed}
use Rattle.typed_tree.specs.SharedTypes.{Shared, sem_of}
use Rattle.typed_tree.specs.declared.unit.TypedWorker.{TypedWorker}

-- ---- checks that change nothing

all-refuses : {A : Type 0} (P : State → Fault → Type 0) → LeavesAll (refuses {S = State} {A = A} P)
unfolding refuses
all-refuses P old new a x = absurd x

all-unless : (b : Bool) (code : FaultCode) (at : Place) → LeavesAll (unless b code at)
all-unless true code at = all-some _
all-unless false code at = all-refuses _

worker-new-leaves : (w : Worker) (number : ℕ) → LeavesAll (is_worker_new w number)
worker-new-leaves w number =
    all-then _ _ (all-some _) (λ site. all-then _ _ (all-some _) (λ u.
    by (list_any (λ v. is_same_text v.name w.name.name) u.flow.variables || list_any (is_same_text w.name.name) (take (pred number) site.workers))))
  where
    by : (b : Bool) → LeavesAll (either b (fails Duplicate w.name.at) done)
    by true = all-refuses _
    by false = all-some _

known-leaves : (r : Option (Result Shared Fault)) → LeavesAll (known_result r)
known-leaves (Some (Ok t)) = all-some _
known-leaves (Some (Err fault)) = all-refuses _
known-leaves None = all-some _

result-leaves : (number : ℕ) → LeavesAll (result_of number)
result-leaves number = all-then _ _ (all-some _) (λ site. known-leaves (slice_get site.results number))

known-told : (r : Option (Result Shared Fault)) (t : Shared) (old new : State) → known_result r old (Gives t) new → r ≡ Some (Ok t)
unfolding gives_some refuses
known-told (Some (Ok u)) t old new (is, e) = ap (λ (x : Shared). Some (Ok x)) (sym is)
known-told (Some (Err fault)) t old new x = absurd x
known-told None t old new (x, e) = absurd x

result-told : (number : ℕ) (old new : State) (t : Shared) → result_of number old (Gives t) new → slice_get old.site.results number ≡ Some (Ok t)
unfolding ◌▷◌ gives_some
result-told number old new t (site, a, (is, e), known) = subst (λ (x : Site). slice_get x.results number ≡ Some (Ok t)) is (known-told (slice_get site.results number) t a new known)

pub ends-leaves : (passes : List AtomDef → Asked → TypeLimit → Type 0) (ends : Bool) (u : UnitAtWork) (close : Place) → LeavesAll (ends_by passes ends u close)
ends-leaves passes false u close = all-some _
ends-leaves passes true u close =
    all-then _ _ (all-some _) (λ nil. all-then _ _ (all-asking _ (is-below-adds-none passes _ _ (Some close))) (λ b. all-unless b _ close))

-- ---- where a worker begins

abbrev declared_types : List Capture → List SemType
declared_types cs = map sem_of (map (λ (c : Capture). c.0.declared) cs)

-- captured variables stand in the first slots
worker-in : (place : Surroundings) (front : List SemType) (cs : List Capture) → All (InSlots place (front ++ declared_types cs)) (in_worker (length front) cs)
worker-in place front [] = All-nil _
worker-in place front (c ∷ cs) =
    let t : SemType = sem_of c.0.declared in
    let long : length (front ++ t ∷ []) ≡ suc (length front) = (let more = length-append front (t ∷ []) in omega (arith, more)) in
    let slots : (front ++ t ∷ []) ++ declared_types cs ≡ front ++ declared_types (c ∷ cs) = append_assoc front (t ∷ []) (declared_types cs) in
    let rest : All (InSlots place ((front ++ t ∷ []) ++ declared_types cs)) (in_worker (length (front ++ t ∷ [])) cs) = worker-in place (front ++ t ∷ []) cs in
    let rest' : All (InSlots place (front ++ declared_types (c ∷ cs))) (in_worker (length (front ++ t ∷ [])) cs) =
    subst (λ xs. All (InSlots place xs) (in_worker (length (front ++ t ∷ [])) cs)) slots rest in
    All-cons (InSlots place (front ++ declared_types (c ∷ cs)))
    (record { name = c.0.name; slot = length front; declared = c.0.declared; narrowed = c.0.narrowed; fixed = c.0.fixed; assigned = c.0.assigned; captured = true })
    (in_worker (suc (length front)) cs) (get-behind front t (declared_types cs))
    (subst (λ n. All (InSlots place (front ++ declared_types (c ∷ cs))) (in_worker n cs)) long rest')

-- Its unit stands on those that were there, with its variables in its slots; all else is as it was, but that a number is taken.
pub record WorkerBegun (place : Surroundings) (number : ℕ) (old new : State) : Type 0 where
  pub unit : UnitAtWork
  pub units : new.units ≡ old.units ++ unit ∷ []
  pub worker : unit.worker ≡ number
  -- its result, as it is told
  pub result : Shared
  pub told : slice_get old.site.results number ≡ Some (Ok result)
  pub gives : sem_of unit.result ≡ sem_of result
  pub stored : AreIn place unit
  pub ways : new.ways ≡ None
  pub atoms : new.atoms ≡ old.atoms
  pub site : new.site ≡ old.site
  pub found : new.found ≡ old.found
  pub blocks : new.blocks ≡ old.blocks
  pub matches : new.matches ≡ old.matches
  pub workers : new.done.workers ≡ old.done.workers
  pub functions : new.done.functions ≡ old.done.functions
  pub initialisers : new.done.initialisers ≡ old.done.initialisers
  pub variables : new.done.variables ≡ old.done.variables

pub number-taken : (n : ℕ) (old new : State) → new_number old (Gives n) new → (k : ℕ) × (new ≡ record old { done = record old.done { next_unit = k } })
unfolding ◌▷◌ gives_some does
number-taken n old new (m, a, (is, ea), (u, b, eb, (same, ec))) =
    (suc m, ec ∙ eb ∙ ap (λ (s : State). record s { done = record s.done { next_unit = suc m } }) ea)

pub worker-begun : (place : Surroundings) (w : Worker) (number : ℕ) (uses : List Word) (old new : State) → begins_worker w number uses old (Gives tt) new → WorkerBegun place number old new
unfolding ◌▷◌ gives_some by_handles does
worker-begun place w number uses old new (u0, s1, fresh, (result, s2, resulted, (around, s3, (last, e3), (n, s4, numbered, (v, s5, (same, e5), is))))) =
    let cs : List Capture = captures around.flow.variables uses in
    let unit : UnitAtWork = worker_unit n number result around.flow.reached cs in
    let e1 : s1 ≡ old = worker-new-leaves w number old s1 u0 fresh in
    let e2 : s2 ≡ s1 = result-leaves number s1 s2 result resulted in
    let (k, e4) = number-taken n s3 s4 numbered in
    let all : new ≡ record old { units = old.units ++ v ∷ []; ways = None; done = record old.done { next_unit = k } } =
    is ∙ ap (λ (s : State). record s { units = s.units ++ v ∷ []; ways = None }) (e5 ∙ e4 ∙ ap (λ (s : State). record s { done = record s.done { next_unit = k } }) (e3 ∙ e2 ∙ e1)) in
    record {
      unit = v;
      units = ap (λ (s : State). s.units) all;
      worker = same.worker;
      result = result;
      told = subst (λ (s : State). slice_get s.site.results number ≡ Some (Ok result)) e1 (result-told number s1 s2 result resulted);
      gives = ap (λ (t : Ty). t.sem) same.result;
      stored = by-handles place unit v same (worker-in place [] cs);
      ways = ap (λ (s : State). s.ways) all;
      atoms = ap (λ (s : State). s.atoms) all;
      site = ap (λ (s : State). s.site) all;
      found = ap (λ (s : State). s.found) all;
      blocks = ap (λ (s : State). s.blocks) all;
      matches = ap (λ (s : State). s.matches) all;
      workers = ap (λ (s : State). s.done.workers) all;
      functions = ap (λ (s : State). s.done.functions) all;
      initialisers = ap (λ (s : State). s.done.initialisers) all;
      variables = ap (λ (s : State). s.done.variables) all;
    }

-- ---- where it ends

-- the unit and the block at hand are gone, and a worker is made of them
pub record WorkerEnded (passes : List AtomDef → Asked → TypeLimit → Type 0) (w : Worker) (close : Place) (old new : State) : Type 0 where
  pub unit : UnitAtWork
  pub at_hand : IsLast old.units unit
  pub block : BlockAtWork
  pub last : IsLast old.blocks block
  pub worker : TypedWorker
  pub is : typed_worker w unit unit.flow.reached worker
  pub stmts : worker.stmts.items ≡ block.stmts
  pub workers : new.done.workers ≡ old.done.workers ++ worker ∷ []
  pub functions : new.done.functions ≡ old.done.functions
  pub initialisers : new.done.initialisers ≡ old.done.initialisers
  pub variables : new.done.variables ≡ old.done.variables
  pub atoms : new.atoms ≡ old.atoms
  pub found : new.found ≡ old.found
  pub blocks : new.blocks ≡ all_but 1 old.blocks
  pub matches : new.matches ≡ old.matches
  pub units : new.units ≡ all_but 1 old.units
  pub site : new.site ≡ old.site
  pub ways : new.ways ≡ None
  -- where its end is reached it is asked whether nil is its result
  pub between : State
  pub same_atoms : between.atoms ≡ old.atoms
  pub behind : State
  pub ends : ends_by passes unit.flow.reached unit close between (Gives tt) behind

pub unit-gone : (u : UnitAtWork) (old new : State) → closes_unit old (Gives u) new → IsLast old.units u × (new ≡ record old { units = all_but 1 old.units; ways = None })
unfolding ◌▷◌ gives_some does
unit-gone u old new (w, a, (last, ea), (x, b, eb, (same, ec))) =
    (subst (λ y. IsLast old.units y) (sym same) last, ec ∙ eb ∙ ap (λ (s : State). record s { units = all_but 1 s.units; ways = None }) ea)

pub worker-ended : (passes : List AtomDef → Asked → TypeLimit → Type 0) (w : Worker) (close : Place) (old new : State) → ends_worker passes w close old (Gives tt) new
    → WorkerEnded passes w close old new
unfolding ◌▷◌ gives_some does
worker-ended passes w close old new (u, s1, closed, (v, s2, ended, (b, s3, blocked, (t, s4, ((is, stmts, at), e4), e5)))) =
    let (last, e1) = unit-gone u old s1 closed in
    let e2 : s2 ≡ s1 = ends-leaves passes u.flow.reached u close s1 s2 v ended in
    let (lb, e3) = block-closed b s2 s3 blocked in
    let front : s2 ≡ record old { units = all_but 1 old.units; ways = None } = e2 ∙ e1 in
    let all : new ≡ record old { units = all_but 1 old.units; ways = None; blocks = all_but 1 old.blocks; done = record old.done { workers = old.done.workers ++ t ∷ [] } } =
    e5 ∙ ap (λ (s : State). record s { done = record s.done { workers = s.done.workers ++ t ∷ [] } }) (e4 ∙ e3 ∙ ap (λ (s : State). record s { blocks = all_but 1 s.blocks }) front) in
    record {
      unit = u;
      at_hand = last;
      block = b;
      last = subst (λ (s : State). IsLast s.blocks b) front lb;
      worker = t;
      is = is;
      stmts = stmts;
      workers = ap (λ (s : State). s.done.workers) all;
      functions = ap (λ (s : State). s.done.functions) all;
      initialisers = ap (λ (s : State). s.done.initialisers) all;
      variables = ap (λ (s : State). s.done.variables) all;
      atoms = ap (λ (s : State). s.atoms) all;
      found = ap (λ (s : State). s.found) all;
      blocks = ap (λ (s : State). s.blocks) all;
      matches = ap (λ (s : State). s.matches) all;
      units = ap (λ (s : State). s.units) all;
      site = ap (λ (s : State). s.site) all;
      ways = ap (λ (s : State). s.ways) all;
      between = s1;
      same_atoms = ap (λ (s : State). s.atoms) e1;
      behind = s2;
      ends = ended;
    }
