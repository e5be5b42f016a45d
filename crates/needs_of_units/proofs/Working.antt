-- Workers that begin and end, as answers of calls, and that what stands still stands.
use Rattle.std.proofs.Common.{◌≡◌, ◌++◌, ◌∙◌, ℕ, suc, Bool, true, false, List, [], ◌∷◌, length, All, Option, Some, None, Result, Ok, Err, IfOk, slice_get, get_or, ◌<◌, map, ap, refl, subst, sym}
use Rattle.std.specs.List.{AllZip}
use Rattle.std.proofs.lemmas.Option.{slice_get-get_or}
use Rattle.bal_base.specs.declared.fault.Fault.{Fault}
use Rattle.bal_base.specs.declared.fault.FaultCode.TheVariants.{Duplicate}
use Rattle.bal_base.specs.declared.fault.Kept.TheVariants.{Nothing}
use Rattle.bal_base.specs.declared.place.Place.{Place}
use Rattle.bal_base.specs.declared.text.Name.{Name}
use Rattle.bal_base.specs.declared.stop.Stop.{Stop}
use Rattle.bal_base.specs.declared.stop.Stop.TheVariants.{Memory, Fault as OwnFault}
use Rattle.bal_tree.specs.declared.def.Worker.{Worker}
use Rattle.bal_tree.specs.declared.name.Word.{Word}
use Rattle.checks.specs.Checks.{Comes, either, refuses}
use Rattle.checks.specs.Questions.{IsFault}
use Rattle.checks.proofs.Steps.{ran_out}
use Rattle.flow_narrowing.specs.Flows.{VariableBelow}
use Rattle.typed_tree.specs.declared.unit.TypedWorker.{TypedWorker}
use Rattle.typed_tree.specs.SharedTypes.{Shared}
use Rattle.check_words.specs.Actions.{known_result, result_of}
use Rattle.check_words.specs.Calls.{Capture, captures, new_number, opens_unit}
use Rattle.check_words.specs.Statements.{closes_block}
use Rattle.check_words.specs.Sharing.{SameShared, SameUnit, SameVariable}
use Rattle.check_words.specs.Stands.{SharedBelow, Stands, UnitBelow}
use Rattle.check_words.specs.State.{BlockAtWork, State, UnitAtWork}
use Rattle.check_words.specs.Units.{in_worker, is_worker_new, typed_worker, worker_unit}
use Rattle.check_words.specs.Words.{done, fails}
use Rattle.check_words.proofs.Coming.{became-this, failed, given, next}
use Rattle.check_words.proofs.Flowing.{unit-now}
use Rattle.check_words.proofs.Standing.{shared-below}
use Rattle.flow_narrowing.specs.declared.flow.Variable.{Variable}
use Rattle.needs_of_units.proofs.Beginning.{bare-below}
use Rattle.needs_of_units.proofs.Capturing.{captures-below, same-unit-below, with-captures-below}
use Rattle.needs_of_units.proofs.Naming.{all-at}
use Rattle.needs_of_units.specs.declared.captures.Capture.{Capture as CaptureHeld}
use Rattle.needs_of_units.specs.Captures.{capture_of, inner_from, inner_variable, with_captures}
use Rattle.needs_of_units.specs.Parts.{GivesShared, IsKnown, adds_worker, is_taken, opens_worker}
use Rattle.needs_of_units.specs.Units.{bare_unit}

-- ---- names of workers

-- whether a name is taken, as it was found
pub taken-is : (u : UnitAtWork) (workers ws : List Name) (name : Name) (number : ℕ) (b : Bool) → ws ≡ workers → b ≡ is_taken u ws name number → is_taken u workers name number ≡ b
taken-is u workers ws name number b e f = ap (λ xs. is_taken u xs name number) (sym e) ∙ sym f

module _ (s : State) (kept : List UnitAtWork) (u : UnitAtWork) (is : s.units ≡ kept ++ u ∷ []) (w : Worker) (number : ℕ) where
  pub worker-new : is_taken u s.site.workers w.name.name number ≡ false → Comes (is_worker_new w number) s (Ok tt) s
  worker-new e =
      next _ _ _ _ _ s.site s (given _ s s.site refl)
      (next _ _ _ _ _ u s (unit-now s kept u is) (by (is_taken u s.site.workers w.name.name number) e))
    where
      by : (b : Bool) → b ≡ false → Comes (either b (fails Duplicate w.name.at) done) s (Ok tt) s
      by false e = given _ s tt refl
      by true e = absurd (cc)

  pub worker-refused : (f : Fault) → is_taken u s.site.workers w.name.name number ≡ true → IsFault Duplicate (Some w.name.at) Nothing f
      → Comes (is_worker_new w number) s (Err (OwnFault f)) s
  worker-refused f e fault =
      next _ _ _ _ _ s.site s (given _ s s.site refl)
      (next _ _ _ _ _ u s (unit-now s kept u is) (by (is_taken u s.site.workers w.name.name number) e))
    where
      by : (b : Bool) → b ≡ true → Comes (either b (fails Duplicate w.name.at) done) s (Err (OwnFault f)) s
      by true e = failed _ Duplicate w.name.at s f fault
      by false e = absurd (cc)

-- ---- what workers give

refused : (A : Type 0) (P : State → Fault → Type 0) (s : State) (f : Fault) → P s f → Comes {A = A} (refuses P) s (Err (OwnFault f)) s
unfolding Comes refuses
refused A P s f p = (p, refl)

pub found-at : (xs ys : List (Result Shared Fault)) (i : ℕ) (found : Result Shared Fault) → ys ≡ xs → i < length ys → found ≡ get_or ys i found → slice_get xs i ≡ Some found
found-at xs ys i found are lt e = subst (λ zs. slice_get zs i ≡ Some found) are (slice_get-get_or ys i found lt ∙ ap (λ x. Some x) (sym e))

pub result-is : (number : ℕ) (s : State) (found : Result Shared Fault) (r : Result Shared (Stop Fault)) → slice_get s.site.results number ≡ Some found → IsKnown found r
    → GivesShared number s r
result-is number s (Ok t) (Ok u) at same =
    (t, same, next _ _ _ _ _ s.site s (given _ s s.site refl) (subst (λ r. Comes (known_result r) s (Ok t) s) (sym at) (given _ s t refl)))
result-is number s (Err fault) (Err (OwnFault f)) at same =
    next _ _ _ _ _ s.site s (given _ s s.site refl)
    (subst (λ r. Comes (known_result r) s (Err (OwnFault f)) s) (sym at) (refused _ (λ s f. f ≡ fault) s f same))
result-is number s (Ok t) (Err (OwnFault f)) at same = absurd same
result-is number s (Err fault) (Ok u) at same = absurd same
result-is number s (Ok t) (Err Memory) at same = ran_out _ s s
result-is number s (Err fault) (Err Memory) at same = ran_out _ s s

pub result-below : (number : ℕ) (s : State) (found : Result Shared Fault) (r : Result Shared (Stop Fault)) → slice_get s.site.results number ≡ Some found → IsKnown found r
    → Stands s → IfOk r (SharedBelow (length s.atoms))
result-below number s found r at same h = by found r same (all-at (λ x. IfOk x (SharedBelow (length s.atoms))) s.site.results number found at h.site)
  where
    by : (found : Result Shared Fault) (r : Result Shared (Stop Fault)) → IsKnown found r → IfOk found (SharedBelow (length s.atoms)) → IfOk r (SharedBelow (length s.atoms))
    by (Ok t) (Ok u) same h = shared-below (length s.atoms) t u same h
    by (Err fault) (Ok u) same h = absurd same
    by found (Err stop) same h = tt

pub result-out : (number : ℕ) (s : State) → GivesShared number s (Err Memory)
result-out number s = ran_out _ s s

pub shown-nothing : (fault : Fault) → fault.kept ≡ Nothing → record { code = fault.code; at = fault.at; kept = Nothing } ≡ fault
shown-nothing fault e = ap (λ k. record { code = fault.code; at = fault.at; kept = k }) (sym e)

-- ---- units of workers

from-worker : (slot : ℕ) (cs : List Capture) → inner_from true slot cs ≡ in_worker slot cs
from-worker slot [] = refl
from-worker slot (c ∷ cs) = ap (λ vs. inner_variable true slot c ∷ vs) (from-worker (suc slot) cs)

pub worker-is : (number worker : ℕ) (t gives : Shared) (reached : Bool) (cs : List Capture) (v : UnitAtWork) → SameShared t gives
    → SameUnit (with_captures true cs (bare_unit number worker gives reached)) v → SameUnit (worker_unit number worker t reached cs) v
worker-is number worker t gives reached cs v same h =
    record {
      number = h.number;
      worker = h.worker;
      slots = h.slots;
      params = h.params;
      rest = h.rest;
      rest_member = h.rest_member;
      result = h.result ∙ same;
      arrow = h.arrow;
      future = h.future;
      captured = h.captured;
      flow = record { variables = subst (λ vs. AllZip SameVariable vs v.flow.variables) (from-worker 0 cs) h.flow.variables; reached = h.flow.reached };
    }

-- ---- workers that end

pub worker-added : (s mid : State) (b : BlockAtWork) → Comes closes_block s (Ok b) mid → (w : Worker) (u : UnitAtWork) (close : Place) (t : TypedWorker)
    → typed_worker w u u.flow.reached t → t.stmts.items ≡ b.stmts → t.close ≡ close → (ts : List TypedWorker) → ts ≡ mid.done.workers ++ t ∷ []
    → Comes (adds_worker w u close) s (Ok tt) (record mid { done = record mid.done { workers = ts } })
worker-added s mid b closed w u close t typed stmts at ts more =
    next _ _ _ _ _ b mid closed
    (next _ _ _ _ _ t mid (given _ mid t (typed, stmts, at)) (became-this _ mid _ (ap (λ xs. record mid { done = record mid.done { workers = xs } }) more)))

-- the unit of a worker is opened
pub worker-opened : (s mid new : State) (kept : List UnitAtWork) (u : UnitAtWork) (n number : ℕ) (t : Shared) (uses : List Word) → mid.units ≡ s.units → mid.units ≡ kept ++ u ∷ []
    → Comes new_number s (Ok n) mid → Comes (opens_unit (worker_unit n number t u.flow.reached (captures u.flow.variables uses))) mid (Ok tt) new
    → Comes (opens_worker number t uses) s (Ok tt) new
worker-opened s mid new kept u n number t uses same is taken opened = next _ _ _ _ _ u s (unit-now s kept u (sym same ∙ is)) (next _ _ _ _ _ n mid taken opened)

-- the unit of a worker, begun with nothing in it
module _ (number worker own : ℕ) (t gives : Shared) (reached : Bool) (vs us : List Variable) (uses : List Word) (cs every : List CaptureHeld) (u v : UnitAtWork)
    (small : own ≡ worker) (found : map capture_of cs ≡ captures us uses) (are : us ≡ vs) (all : every ≡ cs) (bare : u ≡ bare_unit number own gives reached)
    (h : SameUnit (with_captures true (map capture_of every) u) v) where
  these : map capture_of every ≡ captures vs uses
  these = ap (map capture_of) all ∙ found ∙ ap (λ x. captures x uses) are

  pub worker-from-bare : SameShared t gives → SameUnit (worker_unit number worker t reached (captures vs uses)) v
  worker-from-bare same =
      worker-is number worker t gives reached (captures vs uses) v same
      (subst (λ x. SameUnit (with_captures true (captures vs uses) x) v) (bare ∙ ap (λ k. bare_unit number k gives reached) small)
      (subst (λ x. SameUnit (with_captures true x u) v) these h))

  pub worker-below : (n : ℕ) → SharedBelow n gives → All (VariableBelow n) vs → UnitBelow n v
  worker-below n below flow =
      same-unit-below n (with_captures true (map capture_of every) u) v h
      (with-captures-below n true (map capture_of every) u (subst (All (λ c. VariableBelow n c.0)) (sym these) (captures-below n vs uses flow))
      (bare-below n number own gives reached u bare below))
