-- Where a frame stands in well-typed code: its unit, the worker that the unit is, and what is typed there; and traps by places.
use Rattle.std.proofs.Common.{◌≡◌, ◌≤◌, ◌∙◌, ◌+◌, ◌-◌, ℕ, suc, List, ◌∷◌, Option, Some, None, refl, ap, arith}
use Rattle.std.specs.Prelude.{slice_get, ⊤}
use Rattle.operations.specs.declared.operation.Operation.{Operation}
use Rattle.op_model.specs.Common.{Common, Role}
use Rattle.machine_model.specs.Machine.{Frame}
use Rattle.stack_code.specs.declared.code.Code.{Code}
use Rattle.stack_code.specs.declared.code.Unit.{Unit as CodeUnit}
use Rattle.stack_code.specs.CodeMachine.{Standing}
use Rattle.stack_code.specs.Commands.{Command, CloseTrap, Do, GoTo, GoToIfNot, OpenTrap, command_at}
use Rattle.stack_code.specs.Flow.{IsTypedAt, IsTypedBy}
use Rattle.stack_code.specs.Frames.{IsOfItsUnit, StandsIn, StandsWell}
use Rattle.stack_code.specs.Places.{IsIn, IsStation, Station, crew, crew_of, traps_at, traps_from, traps_then}
use Rattle.stack_code.specs.WellTyped.{WellTyped}
use Rattle.code_keeping.proofs.Lists.{of-some, some-there}

pub record IsAt (code : Code) (c : Common) (f : Frame Standing) : Type 0 where
  pub u : CodeUnit
  pub is : slice_get code.units f.unit ≡ Some u
  pub station : Station
  pub stationed : IsStation code f.unit station
  pub here : StandsIn code c f.control.place f.control.local.slots f.control.local.stack f.control.traps u

-- a unit that is no named worker's is the default worker of its own function
pub first-of-crew : (code : Code) (unit : ℕ) (u : CodeUnit) → slice_get code.units unit ≡ Some u → slice_get (crew code unit) 0 ≡ Some unit
first-of-crew code unit u e = ap (λ o. slice_get (crew_of unit o) 0) e

station-of : (code : Code) (c : Common) (unit : ℕ) (u : CodeUnit) (role : Option Role) → slice_get code.units unit ≡ Some u → IsOfItsUnit code c unit role → (station : Station) × IsStation code unit station
station-of code c unit u None e own = (record { function = unit; worker = 0 }, (first-of-crew code unit u e, λ z. own))
station-of code c unit u (Some r) e (own, open-end) =
    let (x, is, h) = some-there _ (slice_get c.activations r.activation) own in (record { function = x.unit; worker = r.worker }, h)

pub at-place : (code : Code) (c : Common) (f : Frame Standing) → StandsWell code c f → IsAt code c f
at-place code c f (unit, tally, own) =
    let (u, is, here) = some-there _ (slice_get code.units f.unit) unit in
    let (station, stationed) = station-of code c f.unit u f.role is own in
    record { u = u; is = is; station = station; stationed = stationed; here = here }

pub typed-in : (code : Code) → WellTyped code → (unit : ℕ) (u : CodeUnit) → slice_get code.units unit ≡ Some u → (station : Station) → IsStation code unit station → (q : ℕ) → IsIn u q → IsTypedAt code u station q
typed-in code t unit u e station s q inside = ((t.places q).typed unit u e inside station s).0

pub typed-by : (code : Code) (u : CodeUnit) (station : Station) (q : ℕ) (command : _) → command_at code q ≡ Some command → IsTypedAt code u station q → IsTypedBy code u station q command
typed-by code u station q command e t = of-some (IsTypedBy code u station q) (command_at code q) command e t.command

-- ---- traps in whose reach the next place is

module _ (code : Code) (u : CodeUnit) (p : ℕ) (le : u.first ≤ p) where
  then-traps : traps_at code u (p + 1) ≡ traps_then p (command_at code p) (traps_at code u p)
  then-traps = ap (λ k. traps_from code u.first k) next ∙ ap (λ k. traps_then k (command_at code k) (traps_from code u.first (p - u.first))) back
    where
      next : p + 1 - u.first ≡ suc (p - u.first)
      next = omega (arith, le)

      back : u.first + (p - u.first) ≡ p
      back = omega (arith, le)

  pub done-behind : (o : Operation) (ts : List ℕ) → command_at code p ≡ Some (Do o) → traps_at code u p ≡ Some ts → traps_at code u (p + 1) ≡ Some ts
  done-behind o ts ec et = then-traps ∙ (ap (λ x. traps_then p x (traps_at code u p)) ec ∙ ap (λ r. traps_then p (Some (Do o)) r) et)

  pub nothing-behind : (o : Operation) → command_at code p ≡ Some (Do o) → traps_at code u p ≡ None → traps_at code u (p + 1) ≡ None
  nothing-behind o ec et = then-traps ∙ (ap (λ x. traps_then p x (traps_at code u p)) ec ∙ ap (λ r. traps_then p (Some (Do o)) r) et)

  pub opened-behind : (landing : ℕ) (ts : List ℕ) → command_at code p ≡ Some (OpenTrap landing) → traps_at code u p ≡ Some ts → traps_at code u (p + 1) ≡ Some (p ∷ ts)
  opened-behind landing ts ec et = then-traps ∙ (ap (λ x. traps_then p x (traps_at code u p)) ec ∙ ap (λ o. traps_then p (Some (OpenTrap landing)) o) et)

  pub closed-behind : (t : ℕ) (ts : List ℕ) → command_at code p ≡ Some CloseTrap → traps_at code u p ≡ Some (t ∷ ts) → traps_at code u (p + 1) ≡ Some ts
  closed-behind t ts ec et = then-traps ∙ (ap (λ x. traps_then p x (traps_at code u p)) ec ∙ ap (λ o. traps_then p (Some CloseTrap) o) et)

  -- what goes to a place changes no traps
  abbrev pub Goes : Command → Type 0
  Goes (GoTo to) = ⊤
  Goes (GoToIfNot to) = ⊤
  Goes (Do o) = ⊥
  Goes (OpenTrap to) = ⊥
  Goes CloseTrap = ⊥

  pub jumped-behind : (command : Command) → command_at code p ≡ Some command → Goes command → traps_at code u (p + 1) ≡ traps_at code u p
  jumped-behind command ec goes = then-traps ∙ (ap (λ x. traps_then p x (traps_at code u p)) ec ∙ by command goes (traps_at code u p))
    where
      by : (command : Command) → Goes command → (r : Option (List ℕ)) → traps_then p (Some command) r ≡ r
      by (GoTo to) g None = refl
      by (GoTo to) g (Some ts) = refl
      by (GoToIfNot to) g None = refl
      by (GoToIfNot to) g (Some ts) = refl
      by (Do o) g r = absurd g
      by (OpenTrap to) g r = absurd g
      by CloseTrap g r = absurd g
