-- The worker of the worked code stands where it should, and the codes that break a rule are refused.
use Rattle.std.proofs.Common.{◌≡◌, ◌<◌, ◌∙◌, ℕ, zero, suc, pos, List, [], ◌∷◌, ◌++◌, Option, Some, None, length, refl, sym, ap, subst, arith}
use Rattle.std.specs.Prelude.{All, Any, IsSomeAnd, slice_get, slice_index_or}
use Rattle.bal_base.specs.declared.shape.Shape.{Int}
use Rattle.type_model.specs.declared.atoms.AtomDef.{AtomDef}
use Rattle.type_model.specs.declared.basic.SemType.{SemType}
use Rattle.type_model.specs.Membership.{In}
use Rattle.operations.specs.declared.operation.Operation.{Operation}
use Rattle.operations.specs.declared.operation.Operation.TheVariants as op
use Rattle.operations.specs.Rows.{IsWithin, One}
use Rattle.operations.specs.Uses.{atoms_made, units_valued, use_of}
use Rattle.machine_model.proofs.Once.{some-same}
use Rattle.stack_code.specs.declared.code.Spawn.{Spawn}
use Rattle.stack_code.specs.declared.code.StackMap.{StackMap}
use Rattle.stack_code.specs.declared.code.Unit.{Unit as CodeUnit}
use Rattle.stack_code.specs.Commands.{Do, command_at}
use Rattle.stack_code.specs.Places.{IsIn, IsStation, IsWorkerUnit, Station, crew, map_at, tally_at}
use Rattle.stack_code.specs.Flow.{no_messages, DoesTyped, HasEntry, IsBoundedAt, IsTypedAt}
use Rattle.stack_code.specs.Laws.{NoneBreaks}
use Rattle.stack_code.specs.Messages.{DoesAt, IsReceive, IsSend, NamesAwaited, NamesPeers, worker}
use Rattle.stack_code.specs.Tables.{HasNumbers, IsCallable, IsInherent, NamesUnits, UsesWell}
use Rattle.stack_code.specs.Worked.{LandingIsRefused, ReturnIsRefused, TrappedWorkersAreRefused, WorkerStands, WrongCrewIsRefused, nil, return_above_result, seven, trapped_workers, unit_from, worked, wrong_crew}

pub none-breaks : NoneBreaks
none-breaks code p t (broken, before) = broken ((λ e. t.fields), t.places p)

-- ---- numbers and lists

pub numbers-differ : {A : Type 0} (a b : ℕ) → a < b → Some a ≡ Some b → A
numbers-differ a b l e = absurd (let q : a ≡ b = some-same a b e in omega (arith, q, l))

pub none-differs : {A : Type 0} {X : Type 0} {x : X} → None ≡ Some x → A
none-differs e = absurd (let q : ⊥ = cc in q)

pub nothing-there : {A : Type 0} (P : A → Type 0) → All P []
nothing-there P k d l = absurd (omega (arith, l))

some-by : {A : Type 0} (P : A → Type 0) (o : Option A) (x : A) → o ≡ Some x → IsSomeAnd o P → P x
some-by P o x e h = subst (λ r. IsSomeAnd r P) e h

-- ---- the two units of a code with a worker

abbrev pub at : ℕ → ℕ → Station
at f w = record { function = f; worker = w }

abbrev pub second : CodeUnit
second = unit_from 5 10 0 0 []

pub is-worker : IsWorkerUnit worked 1
is-worker = (0, _, omega arith, refl, (0, _, omega arith, refl, refl))

-- the worker's unit is the worker 1 of main, and nothing else
pub station-of-worker : (f w : ℕ) → IsStation worked 1 (at f w) → at f w ≡ at 0 1
station-of-worker zero zero (e, own) = numbers-differ 0 1 (omega arith) e
station-of-worker zero (suc zero) (e, own) = refl
station-of-worker zero (suc (suc w)) (e, own) = none-differs e
station-of-worker (suc zero) zero (e, own) = absurd (own refl is-worker)
station-of-worker (suc zero) (suc w) (e, own) = none-differs e
station-of-worker (suc (suc f)) w (e, own) = none-differs e

-- ---- the worker's entry

entry : HasEntry worked second (at 0 1) (IsWorkerUnit worked 1)
entry = (refl, refl, (λ w. refl), (λ n. absurd (n is-worker)))

typed-entry : IsTypedAt worked second (at 0 1) 5
typed-entry =
    record {
      command = record { rest = []; operands = []; result = None; stack = refl; typed = (refl, refl); kept = nothing-there _; unstarted = (λ e. absurd (let q : ⊥ = cc in q)); next = (λ n. ((omega arith, omega arith), tt, refl)) };
      begins = nothing-there _;
      defined = nothing-there _;
    }

-- no unit but the second has the place
pub of-second : (P : ℕ → CodeUnit → Type 0) → P 1 second → (n : ℕ) (u : CodeUnit) → slice_get worked.units n ≡ Some u → IsIn u 5 → P n u
of-second P p zero u e inside = absurd (let k : 5 < 5 = subst (λ x. 5 < x.end) (sym (some-same _ u e)) inside.1 in omega (arith, k))
of-second P p (suc zero) u e inside = subst (λ x. P 1 x) (some-same second u e) p
of-second P p (suc (suc n)) u e inside = none-differs e

does-tick : (P : Operation → Type 0) → P op.Tick → (o : Operation) → command_at worked 5 ≡ Some (Do o) → P o
does-tick P p o e = subst P (let q : op.Tick ≡ o = cc in q) p

quiet-send : (w : ℕ) → DoesAt worked 5 (IsSend w) → ⊥
quiet-send w e = let q : ⊥ = cc in q

quiet-receive : (w : ℕ) → DoesAt worked 5 (IsReceive w) → ⊥
quiet-receive w e = let q : ⊥ = cc in q

pub worker-stands : WorkerStands
worker-stands =
    record {
      typed = λ n u e inside station is. of-second (λ n u. (station : Station) → IsStation worked n station → IsTypedAt worked u station 5 × IsBoundedAt worked u station (IsWorkerUnit worked n) 5)
          (λ station is. subst (λ s. IsTypedAt worked second s 5 × IsBoundedAt worked second s (IsWorkerUnit worked 1) 5) (sym (station-of-worker station.function station.worker is)) (typed-entry, ((λ e. entry), (λ e. absurd (omega (arith, e))))))
          n u e inside station is;
      uses = λ n u e inside. of-second (λ n u. UsesWell worked n u 5)
          (record {
            numbers = λ station is. subst (λ s. HasNumbers worked (length (crew worked s.function)) (map_at worked 5)) (sym (station-of-worker station.function station.worker is)) (λ c. (refl, refl));
            named = λ o e. does-tick (NamesUnits worked) (nothing-there _, nothing-there _) o e;
            starts = λ e. absurd (let q : ⊥ = cc in q);
            made = λ o e. does-tick (λ o. All (IsInherent worked) (atoms_made (use_of o))) (nothing-there _) o e;
            functions = λ o e. does-tick (λ o. All (IsCallable worked) (units_valued (use_of o))) (nothing-there _) o e;
          })
          n u e inside;
      talks = record {
        workers = λ f v o of e. does-tick (λ o. NamesPeers worked (worker worked f v) 5 o × NamesAwaited worked 5 o) (nothing-there _, nothing-there _) o e;
        sends = λ f v w n s. absurd (quiet-send w s.1);
        receives = λ f v w n r. absurd (quiet-receive v r.1);
        returns = λ f v tally of e. absurd (let q : ⊥ = cc in q);
      };
    }

-- ---- refused: the numbers of another crew

wrong-worker : (m : StackMap) → IsWorkerUnit (wrong_crew m) 1
wrong-worker m = (0, _, omega arith, refl, (0, _, omega arith, refl, refl))

pub wrong-crew : WrongCrewIsRefused
wrong-crew h =
    let numbers = (h.uses 1 second refl (omega arith, omega arith)).numbers (at 0 1) (refl, λ z. absurd (omega (arith, z))) in
    let two : 1 ≡ 2 = (numbers refl).0 in
    omega (arith, two)

-- ---- refused: a trap round the start of workers

abbrev main-of : CodeUnit
main-of = unit_from 0 6 1 2 (record { unit = 1; slots = [] } ∷ [])

-- no worker of these is the unit 0
no-zero : (w : Spawn) → (suc zero ≡ w.unit) → w.unit ≡ 0 → ⊥
no-zero w e d = omega (arith, e, d)

in-spawns : (j : ℕ) (w : Spawn) → j < 1 → slice_index_or (record { unit = 1; slots = [] } ∷ []) j w ≡ w → w.unit ≡ 0 → ⊥
in-spawns zero w l e d = no-zero w (ap (λ x. x.unit) e) d
in-spawns (suc j) w l e d = absurd (omega (arith, l))

in-units : (landing : StackMap) (k : ℕ) (u : CodeUnit) → k < 2 → slice_index_or (trapped_workers landing).units k u ≡ u → Any (λ (w : Spawn). w.unit ≡ 0) u.workers → ⊥
in-units landing zero u l e h = by (subst (λ x. Any (λ (w : Spawn). w.unit ≡ 0) x.workers) (sym e) h)
  where
    by : Any (λ (w : Spawn). w.unit ≡ 0) (record { unit = 1; slots = [] } ∷ []) → ⊥
    by (j, w, m, d, is) = in-spawns j w m d is
in-units landing (suc zero) u l e h = by (subst (λ x. Any (λ (w : Spawn). w.unit ≡ 0) x.workers) (sym e) h)
  where
    by : Any (λ (w : Spawn). w.unit ≡ 0) [] → ⊥
    by (j, w, m, d, is) = absurd (omega (arith, m))
in-units landing (suc (suc k)) u l e h = absurd (omega (arith, l))

pub trapped-workers : TrappedWorkersAreRefused
trapped-workers landing h =
    let typed = ((h.typed 0 main-of refl (omega arith, omega arith)) (at 0 0) (refl, λ z (k, u, l, e, any). in-units landing k u l e any)).0 in
    let (lands, own, tallies, goes) = typed.command in
    let none : None ≡ tally_at (trapped_workers landing) 4 = tallies 2 (omega arith, omega arith) (0, omega arith, refl) in
    let some : Some (no_messages 2) ≡ tally_at (trapped_workers landing) 4 = tallies 3 (omega arith, omega arith) (0, omega arith, refl) in
    none-differs (none ∙ sym some)

-- ---- refused: a landing without its error

no-last : {A : Type 0} (own : List A) (x : A) → [] ≡ own ++ x ∷ [] → ⊥
no-last [] x e = let q : ⊥ = cc in q
no-last (y ∷ own) x e = let q : ⊥ = cc in q

no-workers : (u : CodeUnit) (k : ℕ) (v : CodeUnit) (n : ℕ) → u.workers ≡ [] → k < 1 → slice_index_or (u ∷ []) k v ≡ v → Any (λ (w : Spawn). w.unit ≡ n) v.workers → ⊥
no-workers u zero v n none l e h = by (subst (λ ws. Any (λ (w : Spawn). w.unit ≡ n) ws) none (subst (λ x. Any (λ (w : Spawn). w.unit ≡ n) x.workers) (sym e) h))
  where
    by : Any (λ (w : Spawn). w.unit ≡ n) [] → ⊥
    by (j, w, m, d, is) = absurd (omega (arith, m))
no-workers u (suc k) v n none l e h = absurd (omega (arith, l))

pub landing-refused : LandingIsRefused
landing-refused h =
    let typed = ((h.typed 0 (unit_from 0 5 1 2 []) refl (omega arith, omega arith)) (at 0 0) (refl, λ z (k, u, l, e, any). no-workers (unit_from 0 5 1 2 []) k u 0 refl l e any)).0 in
    let (lands, (own, error, stack, same, errors), tallies, goes) = typed.command in
    no-last own error stack

-- ---- refused: a return above the unit's result

one-operand : (env : List AtomDef) (rest os : List SemType) → seven ∷ [] ≡ rest ++ os → One os (λ v. IsWithin env (λ x. In env x nil) v) → ⊥
one-operand env [] [] e h = absurd h
one-operand env [] (a ∷ []) e h =
    let is : seven ≡ a = head-same seven a [] [] e in
    let within : IsWithin env (λ x. In env x nil) seven = subst (λ t. IsWithin env (λ x. In env x nil) t) (sym is) h in
    within (Int (pos 7)) ((omega arith, omega arith), (omega arith, omega arith))
  where
    head-same : (x y : SemType) (xs ys : List SemType) → x ∷ xs ≡ y ∷ ys → x ≡ y
    head-same x y xs ys e = let q : x ≡ y = cc in q
one-operand env [] (a ∷ b ∷ os) e h = absurd h
one-operand env (r ∷ rest) [] e h = absurd h
one-operand env (r ∷ rest) (a ∷ []) e h = let l : 1 ≡ length (r ∷ rest ++ a ∷ []) = ap length e in let m : 0 < length (rest ++ a ∷ []) = more rest in omega (arith, l, m)
  where
    more : (xs : List SemType) → 0 < length (xs ++ a ∷ [])
    more [] = omega arith
    more (x ∷ xs) = omega arith
one-operand env (r ∷ rest) (a ∷ b ∷ os) e h = absurd h

pub return-refused : ReturnIsRefused
return-refused h =
    let typed = ((h.typed 0 (unit_from 0 3 1 2 []) refl (omega arith, omega arith)) (at 0 0) (refl, λ z (k, u, l, e, any). no-workers (unit_from 0 3 1 2 []) k u 0 refl l e any)).0 in
    let d : DoesTyped return_above_result (unit_from 0 3 1 2 []) (at 0 0) 2 op.Return = typed.command in
    one-operand return_above_result.atoms d.rest d.operands d.stack d.typed.0
