-- The laws of needs: what a list of needs comes to, member by member, and how runs are put together.
use Rattle.std.specs.Prelude.{◌≡◌, ◌↔◌, List, [], ◌∷◌, ◌++◌, Option, Some, None, IsSome}
use Rattle.bal_base.specs.declared.fault.Fault.{Fault}
use Rattle.bal_base.specs.declared.stop.Stop.{Stop}
use Rattle.bal_base.specs.declared.stop.Stop.TheVariants.{Memory}
use Rattle.checks.specs.Checks.{Check, Gives, Refuses, Comes}
use Rattle.typed_tree.specs.Listed.{Listed, nothing, one, ◌&◌, members}
use Rattle.needs.specs.Needs.{Going, all_met, answer, Runs}

module _ {S N : Type 0} (meets : N → Check S (Unit {0})) where
  -- ---- member by member

  -- each need of a list is met, the first one first
  abbrev pub AreMet : List N → S → S → Type 0
  AreMet [] old new = new ≡ old
  AreMet (need ∷ needs) old new = (mid : S) × meets need old (Gives tt) mid × AreMet needs mid new

  -- those before one need are met, and then this one is refused; what stands behind it is of no account
  abbrev pub IsRefusedBehind : List N → N → S → Fault → S → Type 0
  IsRefusedBehind before need old f new = (mid : S) × AreMet before old mid × meets need mid (Refuses f) new

  abbrev pub FirstRefuses : List N → S → Fault → S → Type 0
  FirstRefuses needs old f new =
      (before : List N) × (need : N) × (behind : List N) × (needs ≡ before ++ need ∷ behind) × IsRefusedBehind before need old f new

  -- all needs are met exactly where each in turn is
  abbrev pub MetInTurn : Type 0
  MetInTurn = (needs : Listed N) (old new : S) → all_met meets needs old (Gives tt) new ↔ AreMet (members needs) old new

  -- they are refused with the fault of the first one that is refused
  abbrev pub RefusedByFirst : Type 0
  RefusedByFirst = (needs : Listed N) (old : S) (f : Fault) (new : S) → all_met meets needs old (Refuses f) new ↔ FirstRefuses (members needs) old f new

  -- ---- runs

  abbrev pub RunsNothing : Type 0
  RunsNothing = (s : Going S) → Runs meets nothing s s

  -- what a call answered is what the run of its need comes to
  abbrev pub RunsOne : Type 0
  RunsOne = (need : N) (old new : Going S) → old.1 ≡ None → Comes (meets need) old.0 (answer new.1) new.0 → Runs meets (one need) old new

  abbrev pub RunsBoth : Type 0
  RunsBoth = (p q : Listed N) (old mid new : Going S) → Runs meets p old mid → Runs meets q mid new → Runs meets (p & q) old new

  -- what has stopped stays
  abbrev pub RunsStopped : Type 0
  RunsStopped = (needs : Listed N) (s : Going S) → IsSome s.1 → Runs meets needs s s

  -- there was no memory
  abbrev pub RunsOut : Type 0
  RunsOut = (needs : Listed N) (old new : Going S) → old.1 ≡ None → new.1 ≡ Some Memory → Runs meets needs old new
