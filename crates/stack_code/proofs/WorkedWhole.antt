-- The worked code is well typed, field by field and place by place.
use Rattle.std.proofs.Common.{◌≡◌, ◌≢◌, ◌<◌, ◌≤◌, ◌∙◌, ℕ, zero, suc, pos, List, [], ◌∷◌, ◌++◌, Some, None, inl, inr, length, refl, sym, ap, subst, arith, ◌^◌, Bool, true, false}
use Rattle.std.specs.Prelude.{All, Any, ◌⊎◌, IsSomeAnd, get_or, option_to_list, slice_get, slice_index_or, ◌&&◌, nat_lt}
use Rattle.std.proofs.lemmas.Bool.{ltb-true}
use Rattle.std.proofs.lemmas.List.Elements.{All-cons, All-nil}
use Rattle.std.specs.List.{list_all}
use Rattle.bal_base.specs.declared.shape.Shape.{Shape, Nil as NilShape, Bool as BoolShape, Int, Str, List', Mapping', Error', Function, Future'}
use Rattle.bal_base.specs.Valid.{IsValid}
use Rattle.type_model.specs.declared.basic.SemType.{SemType}
use Rattle.type_model.specs.Anydata.{IsAnydata}
use Rattle.type_model.specs.Defined.{DefBelow, IsDefined}
use Rattle.type_model.specs.Membership.{In}
use Rattle.type_model.specs.Places.{HasDistinctFields}
use Rattle.operations.specs.declared.operation.Constant.TheVariants.{Nil, Int as IntConstant}
use Rattle.operations.specs.declared.operation.Operation.{Operation}
use Rattle.operations.specs.declared.operation.Operation.TheVariants as op
use Rattle.operations.specs.Uses.{atoms_made, units_called, units_used, units_valued, use_of}
use Rattle.machine_model.proofs.Once.{some-same}
use Rattle.stack_code.specs.declared.code.Spawn.{Spawn}
use Rattle.stack_code.specs.declared.code.StackMap.{StackMap}
use Rattle.stack_code.specs.declared.code.Unit.{Unit as CodeUnit}
use Rattle.stack_code.specs.Commands.{Do, command_at}
use Rattle.stack_code.specs.Flow.{IsBoundedAt, IsTypedAt}
use Rattle.stack_code.specs.Messages.{DoesAt, HasAll, IsOf, IsReceive, IsSend, MessageFits, NamesAwaited, NamesPeers, ReceivesAt, ReceivesWell, ReturnsWell, SendsAt, SendsWell}
use Rattle.stack_code.specs.Places.{IsIn, IsStation, IsWorkerUnit, Station, Tally, crew, map_at, tally_at}
use Rattle.stack_code.specs.Tables.{CapturesWell, EachUnit, HasFields, HasNumbers, HasOwnAtoms, HasRest, HasSlots, HasTextNames, IsCallable, IsConstant, IsInherent, IsInitialiser, IsWorkerWell, UnitAt, UsesWell}
use Rattle.stack_code.specs.WellTyped.{WellTyped}
use Rattle.stack_code.specs.Worked.{nil, seven, unit_from, worked}
use Rattle.stack_code.proofs.WorkedHolds.{at, is-worker, none-differs, nothing-there, second, station-of-worker}

-- ---- lists

all-one : {A : Type 0} (P : A → Type 0) (x : A) → P x → All P (x ∷ [])
all-one P x h zero d l = h
all-one P x h (suc k) d l = absurd (omega (arith, l))

all-two : {A : Type 0} (P : A → Type 0) (x y : A) → P x → P y → All P (x ∷ y ∷ [])
all-two P x y h i zero d l = h
all-two P x y h i (suc zero) d l = i
all-two P x y h i (suc (suc k)) d l = absurd (omega (arith, l))

all-three : {A : Type 0} (P : A → Type 0) (x y z : A) → P x → P y → P z → All P (x ∷ y ∷ z ∷ [])
all-three P x y z h i j zero d l = h
all-three P x y z h i j (suc zero) d l = i
all-three P x y z h i j (suc (suc zero)) d l = j
all-three P x y z h i j (suc (suc (suc k))) d l = absurd (omega (arith, l))

last-same : (a b : SemType) (rest : List SemType) → a ∷ [] ≡ rest ++ b ∷ [] → a ≡ b
last-same a b [] e = let q : a ≡ b = cc in q
last-same a b (x ∷ rest) e = absurd (let l : 1 ≡ length (x ∷ rest ++ b ∷ []) = ap length e in let m : 0 < length (rest ++ b ∷ []) = more rest in omega (arith, l, m))
  where
    more : (xs : List SemType) → 0 < length (xs ++ b ∷ [])
    more [] = omega arith
    more (x ∷ xs) = omega arith

-- ---- units

abbrev first : CodeUnit
first = unit_from 0 5 1 2 (record { unit = 1; slots = [] } ∷ [])

each-unit : (P : ℕ → CodeUnit → Type 0) → P 0 first → P 1 second → EachUnit worked P
each-unit P p q zero u e = subst (λ x. P 0 x) (some-same first u e) p
each-unit P p q (suc zero) u e = subst (λ x. P 1 x) (some-same second u e) q
each-unit P p q (suc (suc n)) u e = none-differs e

in-spawns : (n j : ℕ) (w : Spawn) → n ≢ 1 → j < 1 → slice_index_or (record { unit = 1; slots = [] } ∷ []) j w ≡ w → w.unit ≡ n → ⊥
in-spawns n zero w ne l e d = ne (sym (ap (λ (x : Spawn). x.unit) e ∙ d))
in-spawns n (suc j) w ne l e d = absurd (omega (arith, l))

in-none : (n j : ℕ) (w : Spawn) → j < 0 → ⊥
in-none n j w l = absurd (omega (arith, l))

in-units : (n k : ℕ) (u : CodeUnit) → n ≢ 1 → k < 2 → slice_index_or worked.units k u ≡ u → Any (λ (w : Spawn). w.unit ≡ n) u.workers → ⊥
in-units n zero u ne l e h = by (subst (λ x. Any (λ (w : Spawn). w.unit ≡ n) x.workers) (sym e) h)
  where
    by : Any (λ (w : Spawn). w.unit ≡ n) (record { unit = 1; slots = [] } ∷ []) → ⊥
    by (j, w, m, d, is) = in-spawns n j w ne m d is
in-units n (suc zero) u ne l e h = by (subst (λ x. Any (λ (w : Spawn). w.unit ≡ n) x.workers) (sym e) h)
  where
    by : Any (λ (w : Spawn). w.unit ≡ n) [] → ⊥
    by (j, w, m, d, is) = in-none n j w m
in-units n (suc (suc k)) u ne l e h = absurd (omega (arith, l))

no-worker : IsWorkerUnit worked 0 → ⊥
no-worker (k, u, l, e, any) = in-units 0 k u (λ e. absurd (omega (arith, e))) l e any

no-initialiser : (n : ℕ) → IsInitialiser worked n → ⊥
no-initialiser n (k, l, e) = absurd (omega (arith, l))

station-of-main : (f w : ℕ) → IsStation worked 0 (at f w) → at f w ≡ at 0 0
station-of-main zero zero s = refl
station-of-main zero (suc zero) (e, own) = absurd (let q : 1 ≡ 0 = some-same 1 0 e in omega (arith, q))
station-of-main zero (suc (suc w)) (e, own) = none-differs e
station-of-main (suc zero) zero (e, own) = absurd (let q : 1 ≡ 0 = some-same 1 0 e in omega (arith, q))
station-of-main (suc zero) (suc w) (e, own) = none-differs e
station-of-main (suc (suc f)) w (e, own) = none-differs e

-- ---- shapes

nil-shape : (x : Shape) → In worked.atoms x nil → x ≡ NilShape
nil-shape NilShape h = refl
nil-shape (BoolShape b) h = absurd h
nil-shape (Int i) h = absurd h
nil-shape (Str t) h = absurd h
nil-shape (List' mark _ items) h = absurd h
nil-shape (Mapping' mark _ fields) h = absurd h
nil-shape (Error' _ detail) h = absurd h
nil-shape (Function isolated graph) h = absurd h
nil-shape (Future' _ results) h = absurd h

int-data : (x : Shape) → In worked.atoms x seven → IsAnydata x
int-data (Int i) h = tt
int-data NilShape h = absurd h
int-data (BoolShape b) h = absurd h
int-data (Str t) h = absurd h
int-data (List' mark _ items) h = absurd h
int-data (Mapping' mark _ fields) h = absurd h
int-data (Error' _ detail) h = absurd h
int-data (Function isolated graph) h = absurd h
int-data (Future' _ results) h = absurd h

in-seven : In worked.atoms (Int (pos 7)) seven
in-seven = (omega arith, omega arith)

same-types : (s : SemType) (x : Shape) → IsValid x × In worked.atoms x s → In worked.atoms x s
same-types s x h = h.1

-- ---- fields

-- a test of all maps of a list
all-few : (ms : List StackMap) → list_all (λ m. nat_lt (length m.stack) (2 ^ 63)) ms ≡ true → All (λ m. length m.stack < 2 ^ 63) ms
all-few [] e = All-nil _
all-few (m ∷ ms) e = let (a, b) = both (nat_lt (length m.stack) (2 ^ 63)) (list_all (λ m. nat_lt (length m.stack) (2 ^ 63)) ms) e in All-cons (λ (m : StackMap). length m.stack < 2 ^ 63) m ms (ltb-true (length m.stack) (2 ^ 63) a) (all-few ms b)
  where
    both : (a b : Bool) → (a && b) ≡ true → (a ≡ true) × (b ≡ true)
    both true b e = (refl, e)
    both false b e = absurd (let q : ⊥ = cc in q)

fields : HasFields worked
fields =
    record {
      types = record {
        definitions = all-three (DefBelow 3) _ _ _ (nothing-there _, tt) (omega arith, tt) tt;
        fields = all-three HasDistinctFields _ _ _ tt tt tt;
        names = all-three (HasTextNames worked) _ _ _ tt tt tt;
        tested = nothing-there _;
        variables = nothing-there _;
        units = each-unit (λ n u. All (IsDefined worked.atoms) u.params × All (IsDefined worked.atoms) u.captured × All (IsDefined worked.atoms) u.slots × IsDefined worked.atoms u.result)
            (nothing-there _, nothing-there _, nothing-there _, tt) (nothing-there _, nothing-there _, nothing-there _, tt);
      };
      constants = all-two (IsConstant worked) (IntConstant (pos 7)) Nil (omega arith, omega arith) tt;
      places = (refl, omega arith, (refl, omega arith, refl));
      maps = refl;
      stacks = all-few worked.maps refl;
      slots = each-unit (λ n u. HasSlots worked u) tt tt;
      rests = each-unit (λ n u. HasRest worked u u.rest × All (IsInherent worked) (option_to_list u.rest)) (tt, nothing-there _) (tt, nothing-there _);
      atoms = each-unit (HasOwnAtoms worked)
          ((λ h. absurd (not-own h)), (λ w i. (((0, refl, (tt, refl)), (λ x v. ((λ h. h), (λ h. h)))), (λ x v. ((λ h. h), (λ h. h))))))
          ((λ h. (refl, refl)), (λ w i. absurd (w is-worker)));
      spawns = each-unit (λ n u. All (CapturesWell worked u) u.workers) (all-one (CapturesWell worked first) (record { unit = 1; slots = [] }) tt) (nothing-there _);
      workers = each-unit (λ n u. IsWorkerUnit worked n → IsWorkerWell worked n u) (λ h. absurd (no-worker h)) (λ h. (refl, refl, refl, no-initialiser 1, (λ e. absurd (omega (arith, e))), refl));
      initialisers = nothing-there _;
      main = (refl, (λ x h. inl (nil-shape x h.1)), inl (refl, refl));
      inherent = nothing-there _;
    }
  where
    not-own : IsWorkerUnit worked 0 ⊎ IsInitialiser worked 0 → ⊥
    not-own (inl w) = no-worker w
    not-own (inr i) = no-initialiser 0 i

-- ---- places of main

in-main : (p : ℕ) → p < 5 → IsTypedAt worked first (at 0 0) p
in-main zero l =
    record { command = record { rest = []; operands = []; result = None; stack = refl; typed = (refl, refl); kept = nothing-there _; unstarted = λ e. absurd (let q : ⊥ = cc in q); next = λ n. ((omega arith, omega arith), tt, refl) }; begins = nothing-there _; defined = nothing-there _ }
in-main (suc zero) l =
    record { command = record { rest = []; operands = []; result = None; stack = refl; typed = (refl, refl); kept = nothing-there _; unstarted = λ e. refl; next = λ n. ((omega arith, omega arith), tt, refl) }; begins = nothing-there _; defined = nothing-there _ }
in-main (suc (suc zero)) l =
    record { command = record { rest = []; operands = []; result = Some seven; stack = refl; typed = (refl, (λ x v e. subst (λ y. In worked.atoms y seven) (sym e) in-seven)); kept = nothing-there _; unstarted = λ e. absurd (let q : ⊥ = cc in q); next = λ n. ((omega arith, omega arith), (same-types seven, tt), refl) }; begins = nothing-there _; defined = nothing-there _ }
in-main (suc (suc (suc zero))) l =
    record { command = record { rest = []; operands = seven ∷ []; result = Some nil; stack = refl; typed = ((λ x h. inl (int-data x h.1)), (λ x v e. subst (λ y. In worked.atoms y nil) (sym e) tt)); kept = nothing-there _; unstarted = λ e. absurd (let q : ⊥ = cc in q); next = λ n. ((omega arith, omega arith), (same-types nil, tt), refl) }; begins = nothing-there _; defined = all-one (IsDefined worked.atoms) seven tt }
in-main (suc (suc (suc (suc zero)))) l =
    record { command = record { rest = []; operands = nil ∷ []; result = None; stack = refl; typed = (same-types nil, refl); kept = nothing-there _; unstarted = λ e. absurd (let q : ⊥ = cc in q); next = λ n. absurd (n tt) }; begins = nothing-there _; defined = all-one (IsDefined worked.atoms) nil tt }
in-main (suc (suc (suc (suc (suc p))))) l = absurd (omega (arith, l))

bounds-main : (p : ℕ) → p < 5 → IsBoundedAt worked first (at 0 0) (IsWorkerUnit worked 0) p
bounds-main p l = ((λ e. (refl, refl, (λ w. absurd (no-worker w)), (λ n. refl))), (λ e. refl))

-- ---- places of the worker

in-worker : (p : ℕ) → 5 ≤ p → p < 10 → IsTypedAt worked second (at 0 1) p
in-worker zero m l = absurd (omega (arith, m))
in-worker (suc zero) m l = absurd (omega (arith, m))
in-worker (suc (suc zero)) m l = absurd (omega (arith, m))
in-worker (suc (suc (suc zero))) m l = absurd (omega (arith, m))
in-worker (suc (suc (suc (suc zero)))) m l = absurd (omega (arith, m))
in-worker (suc (suc (suc (suc (suc zero))))) m l =
    record { command = record { rest = []; operands = []; result = None; stack = refl; typed = (refl, refl); kept = nothing-there _; unstarted = λ e. absurd (let q : ⊥ = cc in q); next = λ n. ((omega arith, omega arith), tt, refl) }; begins = nothing-there _; defined = nothing-there _ }
in-worker (suc (suc (suc (suc (suc (suc zero)))))) m l =
    record { command = record { rest = []; operands = []; result = Some seven; stack = refl; typed = (refl, refl); kept = nothing-there _; unstarted = λ e. absurd (let q : ⊥ = cc in q); next = λ n. ((omega arith, omega arith), (same-types seven, tt), refl) }; begins = nothing-there _; defined = nothing-there _ }
in-worker (suc (suc (suc (suc (suc (suc (suc zero))))))) m l =
    record { command = record { rest = []; operands = seven ∷ []; result = None; stack = refl; typed = refl; kept = nothing-there _; unstarted = λ e. absurd (let q : ⊥ = cc in q); next = λ n. ((omega arith, omega arith), tt, refl) }; begins = nothing-there _; defined = all-one (IsDefined worked.atoms) seven tt }
in-worker (suc (suc (suc (suc (suc (suc (suc (suc zero)))))))) m l =
    record { command = record { rest = []; operands = []; result = Some nil; stack = refl; typed = (refl, (λ x v e. subst (λ y. In worked.atoms y nil) (sym e) tt)); kept = nothing-there _; unstarted = λ e. absurd (let q : ⊥ = cc in q); next = λ n. ((omega arith, omega arith), (same-types nil, tt), refl) }; begins = nothing-there _; defined = nothing-there _ }
in-worker (suc (suc (suc (suc (suc (suc (suc (suc (suc zero))))))))) m l =
    record { command = record { rest = []; operands = nil ∷ []; result = None; stack = refl; typed = (same-types nil, refl); kept = nothing-there _; unstarted = λ e. absurd (let q : ⊥ = cc in q); next = λ n. absurd (n tt) }; begins = nothing-there _; defined = all-one (IsDefined worked.atoms) nil tt }
in-worker (suc (suc (suc (suc (suc (suc (suc (suc (suc (suc p)))))))))) m l = absurd (omega (arith, l))

bounds-worker : (p : ℕ) → 5 ≤ p → p < 10 → IsBoundedAt worked second (at 0 1) (IsWorkerUnit worked 1) p
bounds-worker p m l = ((λ e. (refl, refl, (λ w. refl), (λ n. absurd (n is-worker)))), (λ e. refl))

typed : (p : ℕ) → EachUnit worked (λ n u. IsIn u p → (station : Station) → IsStation worked n station → IsTypedAt worked u station p × IsBoundedAt worked u station (IsWorkerUnit worked n) p)
typed p =
    each-unit (λ n u. IsIn u p → (station : Station) → IsStation worked n station → IsTypedAt worked u station p × IsBoundedAt worked u station (IsWorkerUnit worked n) p)
    (λ inside station is. subst (λ s. IsTypedAt worked first s p × IsBoundedAt worked first s (IsWorkerUnit worked 0) p) (sym (station-of-main station.function station.worker is)) (in-main p inside.1, bounds-main p inside.1))
    (λ inside station is. subst (λ s. IsTypedAt worked second s p × IsBoundedAt worked second s (IsWorkerUnit worked 1) p) (sym (station-of-worker station.function station.worker is)) (in-worker p inside.0 inside.1, bounds-worker p inside.0 inside.1))

-- ---- what places name: no place names a unit or an atom

-- the ten operations
abbrev Quiet : Operation → Type 0
Quiet o = (units_used (use_of o) ≡ []) × (units_called (use_of o) ≡ []) × (atoms_made (use_of o) ≡ []) × (units_valued (use_of o) ≡ [])

quiet : (p : ℕ) (o : Operation) → command_at worked p ≡ Some (Do o) → Quiet o
quiet p o e = by p e
  where
    so : (x : Operation) → Quiet x → Some (Do x) ≡ Some (Do o) → Quiet o
    so x q e = subst Quiet (let k : x ≡ o = cc in k) q

    by : (p : ℕ) → command_at worked p ≡ Some (Do o) → Quiet o
    by zero e = so op.Tick (refl, refl, refl, refl) e
    by (suc zero) e = so op.Workers (refl, refl, refl, refl) e
    by (suc (suc zero)) e = so (op.Const (IntConstant (pos 7))) (refl, refl, refl, refl) e
    by (suc (suc (suc zero))) e = so (op.Send 1) (refl, refl, refl, refl) e
    by (suc (suc (suc (suc zero)))) e = so op.Return (refl, refl, refl, refl) e
    by (suc (suc (suc (suc (suc zero))))) e = so op.Tick (refl, refl, refl, refl) e
    by (suc (suc (suc (suc (suc (suc zero)))))) e = so (op.Receive 0) (refl, refl, refl, refl) e
    by (suc (suc (suc (suc (suc (suc (suc zero))))))) e = so op.Pop (refl, refl, refl, refl) e
    by (suc (suc (suc (suc (suc (suc (suc (suc zero)))))))) e = so (op.Const Nil) (refl, refl, refl, refl) e
    by (suc (suc (suc (suc (suc (suc (suc (suc (suc zero))))))))) e = so op.Return (refl, refl, refl, refl) e
    by (suc (suc (suc (suc (suc (suc (suc (suc (suc (suc p)))))))))) e = absurd (let q : ⊥ = cc in q)

all-none : {A : Type 0} (P : A → Type 0) (xs : List A) → xs ≡ [] → All P xs
all-none P xs e = subst (λ ys. All P ys) (sym e) (nothing-there P)

uses-so : (n p : ℕ) (u : CodeUnit) → ((station : Station) → IsStation worked n station → HasNumbers worked (length (crew worked station.function)) (map_at worked p)) → (command_at worked p ≡ Some (Do op.Workers) → u.workers ≢ []) → UsesWell worked n u p
uses-so n p u numbers starts =
    record {
      numbers = numbers;
      named = λ o e. (all-none (λ n. (¬ (IsWorkerUnit worked n)) × (¬ (IsInitialiser worked n))) (units_used (use_of o)) (quiet p o e).0, all-none (λ n. UnitAt worked n (λ u. u.captured ≡ [])) (units_called (use_of o)) (quiet p o e).1);
      starts = starts;
      made = λ o e. all-none (IsInherent worked) (atoms_made (use_of o)) (quiet p o e).2;
      functions = λ o e. all-none (IsCallable worked) (units_valued (use_of o)) (quiet p o e).3;
    }

numbers-at : (p : ℕ) → HasNumbers worked 2 (map_at worked p)
numbers-at zero c = absurd (let q : ⊥ = cc in q)
numbers-at (suc zero) c = absurd (let q : ⊥ = cc in q)
numbers-at (suc (suc zero)) c = (refl, refl)
numbers-at (suc (suc (suc zero))) c = (refl, refl)
numbers-at (suc (suc (suc (suc zero)))) c = (refl, refl)
numbers-at (suc (suc (suc (suc (suc zero))))) c = (refl, refl)
numbers-at (suc (suc (suc (suc (suc (suc zero)))))) c = (refl, refl)
numbers-at (suc (suc (suc (suc (suc (suc (suc zero))))))) c = (refl, refl)
numbers-at (suc (suc (suc (suc (suc (suc (suc (suc zero)))))))) c = (refl, refl)
numbers-at (suc (suc (suc (suc (suc (suc (suc (suc (suc zero))))))))) c = (refl, refl)
numbers-at (suc (suc (suc (suc (suc (suc (suc (suc (suc (suc p)))))))))) c = absurd (let q : ⊥ = cc in q)

-- workers start at place 1 alone
only-start : (p : ℕ) → command_at worked p ≡ Some (Do op.Workers) → p ≡ 1
only-start (suc zero) e = refl
only-start zero e = absurd (let q : ⊥ = cc in q)
only-start (suc (suc zero)) e = absurd (let q : ⊥ = cc in q)
only-start (suc (suc (suc zero))) e = absurd (let q : ⊥ = cc in q)
only-start (suc (suc (suc (suc zero)))) e = absurd (let q : ⊥ = cc in q)
only-start (suc (suc (suc (suc (suc zero))))) e = absurd (let q : ⊥ = cc in q)
only-start (suc (suc (suc (suc (suc (suc zero)))))) e = absurd (let q : ⊥ = cc in q)
only-start (suc (suc (suc (suc (suc (suc (suc zero))))))) e = absurd (let q : ⊥ = cc in q)
only-start (suc (suc (suc (suc (suc (suc (suc (suc zero)))))))) e = absurd (let q : ⊥ = cc in q)
only-start (suc (suc (suc (suc (suc (suc (suc (suc (suc zero))))))))) e = absurd (let q : ⊥ = cc in q)
only-start (suc (suc (suc (suc (suc (suc (suc (suc (suc (suc p)))))))))) e = absurd (let q : ⊥ = cc in q)

uses : (p : ℕ) → EachUnit worked (λ n u. IsIn u p → UsesWell worked n u p)
uses p =
    each-unit (λ n u. IsIn u p → UsesWell worked n u p)
    (λ inside. uses-so 0 p first (λ station is. subst (λ s. HasNumbers worked (length (crew worked s.function)) (map_at worked p)) (sym (station-of-main station.function station.worker is)) (numbers-at p)) (λ e h. absurd (let q : ⊥ = cc in q)))
    (λ inside. uses-so 1 p second (λ station is. subst (λ s. HasNumbers worked (length (crew worked s.function)) (map_at worked p)) (sym (station-of-worker station.function station.worker is)) (numbers-at p)) (λ e h. absurd (let k = only-start p e in omega (arith, k, inside.0))))

-- ---- messages

send-place : (p w : ℕ) → DoesAt worked p (IsSend w) → (p ≡ 3) × (w ≡ 1)
send-place zero w e = absurd (let q : ⊥ = cc in q)
send-place (suc zero) w e = absurd (let q : ⊥ = cc in q)
send-place (suc (suc zero)) w e = absurd (let q : ⊥ = cc in q)
send-place (suc (suc (suc zero))) w e = (refl, (let q : 1 ≡ w = cc in sym q))
send-place (suc (suc (suc (suc zero)))) w e = absurd (let q : ⊥ = cc in q)
send-place (suc (suc (suc (suc (suc zero))))) w e = absurd (let q : ⊥ = cc in q)
send-place (suc (suc (suc (suc (suc (suc zero)))))) w e = absurd (let q : ⊥ = cc in q)
send-place (suc (suc (suc (suc (suc (suc (suc zero))))))) w e = absurd (let q : ⊥ = cc in q)
send-place (suc (suc (suc (suc (suc (suc (suc (suc zero)))))))) w e = absurd (let q : ⊥ = cc in q)
send-place (suc (suc (suc (suc (suc (suc (suc (suc (suc zero))))))))) w e = absurd (let q : ⊥ = cc in q)
send-place (suc (suc (suc (suc (suc (suc (suc (suc (suc (suc p)))))))))) w e = absurd e

receive-place : (p v : ℕ) → DoesAt worked p (IsReceive v) → (p ≡ 6) × (v ≡ 0)
receive-place zero v e = absurd (let q : ⊥ = cc in q)
receive-place (suc zero) v e = absurd (let q : ⊥ = cc in q)
receive-place (suc (suc zero)) v e = absurd (let q : ⊥ = cc in q)
receive-place (suc (suc (suc zero))) v e = absurd (let q : ⊥ = cc in q)
receive-place (suc (suc (suc (suc zero)))) v e = absurd (let q : ⊥ = cc in q)
receive-place (suc (suc (suc (suc (suc zero))))) v e = absurd (let q : ⊥ = cc in q)
receive-place (suc (suc (suc (suc (suc (suc zero)))))) v e = (refl, (let q : 0 ≡ v = cc in sym q))
receive-place (suc (suc (suc (suc (suc (suc (suc zero))))))) v e = absurd (let q : ⊥ = cc in q)
receive-place (suc (suc (suc (suc (suc (suc (suc (suc zero)))))))) v e = absurd (let q : ⊥ = cc in q)
receive-place (suc (suc (suc (suc (suc (suc (suc (suc (suc zero))))))))) v e = absurd (let q : ⊥ = cc in q)
receive-place (suc (suc (suc (suc (suc (suc (suc (suc (suc (suc p)))))))))) v e = absurd e

of-main : (f v p : ℕ) → p < 5 → IsOf worked (at f v) p → at f v ≡ at 0 0
of-main f v p l (zero, station, inside) = station-of-main f v station
of-main f v p l (suc zero, station, inside) = absurd (omega (arith, l, inside.0))
of-main f v p l (suc (suc n), station, inside) = absurd inside

of-worker : (f v p : ℕ) → 5 ≤ p → IsOf worked (at f v) p → at f v ≡ at 0 1
of-worker f v p m (zero, station, inside) = absurd (omega (arith, m, inside.1))
of-worker f v p m (suc zero, station, inside) = station-of-worker f v station
of-worker f v p m (suc (suc n), station, inside) = absurd inside

-- the send and the receive, of the worker 0 of main to the worker 1, with the number 0
the-send : SendsAt worked 0 0 1 0 3
the-send = ((0, (refl, λ z. no-worker), (omega arith, omega arith)), refl, refl)

the-receive : ReceivesAt worked 0 0 1 0 6
the-receive = ((1, (refl, λ z. absurd (omega (arith, z))), (omega arith, omega arith)), refl, refl)

fits : MessageFits worked 3 6
fits s t (rest, e) (more, d) x h = subst (λ z. In worked.atoms x z) (sym (last-same seven s rest e) ∙ last-same seven t more d) h.1

by-numbers : (P : (f v w n : ℕ) → Type 0) → (f v w n : ℕ) → f ≡ 0 → v ≡ 0 → w ≡ 1 → n ≡ 0 → P 0 0 1 0 → P f v w n
by-numbers P f v w n ef ev ew en h =
    subst (λ f. P f v w n) (sym ef) (subst (λ v. P 0 v w n) (sym ev) (subst (λ w. P 0 0 w n) (sym ew) (subst (λ n. P 0 0 1 n) (sym en) h)))

number-is : (w n : ℕ) → w ≡ 1 → slice_get (0 ∷ 0 ∷ []) w ≡ Some n → n ≡ 0
number-is w n ew e = let q : Some 0 ≡ Some n = subst (λ w. slice_get (0 ∷ 0 ∷ []) w ≡ Some n) ew e in sym (some-same 0 n q)

first-is : (v n : ℕ) → v ≡ 0 → slice_get (0 ∷ 0 ∷ []) v ≡ Some n → n ≡ 0
first-is v n ev e = let q : Some 0 ≡ Some n = subst (λ v. slice_get (0 ∷ 0 ∷ []) v ≡ Some n) ev e in sym (some-same 0 n q)

fits-at : (p q : ℕ) → p ≡ 3 → q ≡ 6 → MessageFits worked p q
fits-at p q ep eq = subst (λ p. MessageFits worked p q) (sym ep) (subst (λ q. MessageFits worked 3 q) (sym eq) fits)

sends : (p : ℕ) → SendsWell worked p
sends p f v w n s =
    let (ep, ew) = send-place p w s.1 in
    let there : SendsAt worked f v w n 3 = subst (λ p. SendsAt worked f v w n p) ep s in
    let who : at f v ≡ at 0 0 = of-main f v 3 (omega arith) there.0 in (
      by-numbers (λ f v w n. (q : ℕ) × ReceivesAt worked f v w n q) f v w n (ap (λ (s : Station). s.function) who) (ap (λ (s : Station). s.worker) who) ew (number-is w n ew there.2) (6, the-receive),
      (λ q r. fits-at p q ep (receive-place q v r.1).0),
    )

receives : (q : ℕ) → ReceivesWell worked q
receives q f v w n r =
    let (eq, ev) = receive-place q v r.1 in
    let there : ReceivesAt worked f v w n 6 = subst (λ q. ReceivesAt worked f v w n q) eq r in
    let who : at f w ≡ at 0 1 = of-worker f w 6 (omega arith) there.0 in (
      by-numbers (λ f v w n. (p : ℕ) × SendsAt worked f v w n p) f v w n (ap (λ (s : Station). s.function) who) ev (ap (λ (s : Station). s.worker) who) (first-is v n ev there.2) (3, the-send),
      (λ p s. fits-at p q (send-place p w s.1).0 eq),
    )

-- who is named
named : (p f v : ℕ) (o : Operation) → IsOf worked (at f v) p → command_at worked p ≡ Some (Do o) → NamesPeers worked (at f v) p o × NamesAwaited worked p o
named p f v o of e = by p of e
  where
    so : (p : ℕ) (x : Operation) → NamesPeers worked (at f v) p x × NamesAwaited worked p x → Some (Do x) ≡ Some (Do o) → NamesPeers worked (at f v) p o × NamesAwaited worked p o
    so p x h e = subst (λ o. NamesPeers worked (at f v) p o × NamesAwaited worked p o) (let k : x ≡ o = cc in k) h

    by : (p : ℕ) → IsOf worked (at f v) p → command_at worked p ≡ Some (Do o) → NamesPeers worked (at f v) p o × NamesAwaited worked p o
    by zero of e = so 0 op.Tick (nothing-there _, nothing-there _) e
    by (suc zero) of e = so 1 op.Workers (nothing-there _, nothing-there _) e
    by (suc (suc zero)) of e = so 2 (op.Const (IntConstant (pos 7))) (nothing-there _, nothing-there _) e
    by (suc (suc (suc zero))) of e = so 3 (op.Send 1) (subst (λ s. NamesPeers worked s 3 (op.Send 1)) (sym (of-main f v 3 (omega arith) of)) (all-one (λ w. (w < length (crew worked 0)) × (w ≢ 0) × (tally_at worked 3 ≢ None)) 1 (omega arith, (λ z. absurd (omega (arith, z))), (λ z. absurd (let q : ⊥ = cc in q)))), nothing-there _) e
    by (suc (suc (suc (suc zero)))) of e = so 4 op.Return (nothing-there _, nothing-there _) e
    by (suc (suc (suc (suc (suc zero))))) of e = so 5 op.Tick (nothing-there _, nothing-there _) e
    by (suc (suc (suc (suc (suc (suc zero)))))) of e = so 6 (op.Receive 0) (subst (λ s. NamesPeers worked s 6 (op.Receive 0)) (sym (of-worker f v 6 (omega arith) of)) (all-one (λ w. (w < length (crew worked 0)) × (w ≢ 1) × (tally_at worked 6 ≢ None)) 0 (omega arith, (λ z. absurd (omega (arith, z))), (λ z. absurd (let q : ⊥ = cc in q)))), nothing-there _) e
    by (suc (suc (suc (suc (suc (suc (suc zero))))))) of e = so 7 op.Pop (nothing-there _, nothing-there _) e
    by (suc (suc (suc (suc (suc (suc (suc (suc zero)))))))) of e = so 8 (op.Const Nil) (nothing-there _, nothing-there _) e
    by (suc (suc (suc (suc (suc (suc (suc (suc (suc zero))))))))) of e = so 9 op.Return (nothing-there _, nothing-there _) e
    by (suc (suc (suc (suc (suc (suc (suc (suc (suc (suc p)))))))))) of e = absurd (let q : ⊥ = cc in q)

-- ---- returns

abbrev main-tally : Tally
main-tally = record { sent = 0 ∷ 1 ∷ []; received = 0 ∷ 0 ∷ [] }

abbrev worker-tally : Tally
worker-tally = record { sent = 0 ∷ 0 ∷ []; received = 1 ∷ 0 ∷ [] }

main-all : HasAll worked (at 0 0) main-tally
main-all p w of = (sent, received)
  where
    sent : DoesAt worked p (IsSend w) → IsSomeAnd (tally_at worked p) (λ t. get_or t.sent w 0 < get_or main-tally.sent w 0)
    sent d =
        let (ep, ew) = send-place p w d in
        subst (λ p. IsSomeAnd (tally_at worked p) (λ t. get_or t.sent w 0 < get_or main-tally.sent w 0)) (sym ep) (subst (λ w. get_or (0 ∷ 0 ∷ []) w 0 < get_or (0 ∷ 1 ∷ []) w 0) (sym ew) (omega arith))

    received : DoesAt worked p (IsReceive w) → IsSomeAnd (tally_at worked p) (λ t. get_or t.received w 0 < get_or main-tally.received w 0)
    received d =
        let (ep, ew) = receive-place p w d in
        let other : at 0 0 ≡ at 0 1 = of-worker 0 0 6 (omega arith) (subst (λ p. IsOf worked (at 0 0) p) ep of) in
        absurd (let q : 0 ≡ 1 = ap (λ (s : Station). s.worker) other in omega (arith, q))

worker-all : HasAll worked (at 0 1) worker-tally
worker-all p w of = (sent, received)
  where
    sent : DoesAt worked p (IsSend w) → IsSomeAnd (tally_at worked p) (λ t. get_or t.sent w 0 < get_or worker-tally.sent w 0)
    sent d =
        let (ep, ew) = send-place p w d in
        let other : at 0 1 ≡ at 0 0 = of-main 0 1 3 (omega arith) (subst (λ p. IsOf worked (at 0 1) p) ep of) in
        absurd (let q : 1 ≡ 0 = ap (λ (s : Station). s.worker) other in omega (arith, q))

    received : DoesAt worked p (IsReceive w) → IsSomeAnd (tally_at worked p) (λ t. get_or t.received w 0 < get_or worker-tally.received w 0)
    received d =
        let (ep, ew) = receive-place p w d in
        subst (λ p. IsSomeAnd (tally_at worked p) (λ t. get_or t.received w 0 < get_or worker-tally.received w 0)) (sym ep) (subst (λ w. get_or (0 ∷ 0 ∷ []) w 0 < get_or (1 ∷ 0 ∷ []) w 0) (sym ew) (omega arith))

returns : (p f v : ℕ) (tally : Tally) → IsOf worked (at f v) p → command_at worked p ≡ Some (Do op.Return) → tally_at worked p ≡ Some tally → ReturnsWell worked f v p tally
returns p f v tally of e t = by p of e t
  where
    by : (p : ℕ) → IsOf worked (at f v) p → command_at worked p ≡ Some (Do op.Return) → tally_at worked p ≡ Some tally → ReturnsWell worked f v p tally
    by zero of e t = absurd (let q : ⊥ = cc in q)
    by (suc zero) of e t = absurd (let q : ⊥ = cc in q)
    by (suc (suc zero)) of e t = absurd (let q : ⊥ = cc in q)
    by (suc (suc (suc zero))) of e t = absurd (let q : ⊥ = cc in q)
    by (suc (suc (suc (suc zero)))) of e t = inl (subst (λ s. HasAll worked s tally) (sym (of-main f v 4 (omega arith) of)) (subst (λ z. HasAll worked (at 0 0) z) (some-same main-tally tally t) main-all))
    by (suc (suc (suc (suc (suc zero))))) of e t = absurd (let q : ⊥ = cc in q)
    by (suc (suc (suc (suc (suc (suc zero)))))) of e t = absurd (let q : ⊥ = cc in q)
    by (suc (suc (suc (suc (suc (suc (suc zero))))))) of e t = absurd (let q : ⊥ = cc in q)
    by (suc (suc (suc (suc (suc (suc (suc (suc zero)))))))) of e t = absurd (let q : ⊥ = cc in q)
    by (suc (suc (suc (suc (suc (suc (suc (suc (suc zero))))))))) of e t = inl (subst (λ s. HasAll worked s tally) (sym (of-worker f v 9 (omega arith) of)) (subst (λ z. HasAll worked (at 0 1) z) (some-same worker-tally tally t) worker-all))
    by (suc (suc (suc (suc (suc (suc (suc (suc (suc (suc p)))))))))) of e t = absurd (let q : ⊥ = cc in q)

-- ---- the whole

pub worked-is-well-typed : WellTyped worked
worked-is-well-typed =
    record {
      fields = fields;
      places = λ p. record {
        typed = typed p;
        uses = uses p;
        talks = record {
          workers = λ f v o of e. named p f v o of e;
          sends = sends p;
          receives = receives p;
          returns = λ f v tally of e t. returns p f v tally of e t;
        };
      };
    }
