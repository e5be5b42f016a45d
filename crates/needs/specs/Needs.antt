-- What a construct needs, as data: one need behind another, and what becomes of a state where they are met in turn.
use Rattle.std.specs.Prelude.{◌≡◌, List, Option, Some, None, Result, Ok, Err, fold}
use Rattle.bal_base.specs.declared.fault.Fault.{Fault}
use Rattle.bal_base.specs.declared.stop.Stop.{Stop}
use Rattle.type_model.specs.declared.atoms.AtomDef.{AtomDef}
use Rattle.checks.specs.Checks.{Check, Gives, Refuses, Comes, gives, ◌▷◌}
use Rattle.typed_tree.specs.Listed.{Listed, nothing, one, ◌&◌}

-- ---- checks of a state

-- the state becomes so, and nothing is refused
unfoldable pub does : {S : Type 0} → (S → S → Type 0) → Check S (Unit {0})
does P old (Gives u) new = P old new
does P old (Refuses f) new = ⊥

-- A question over the atoms of a state: it changes nothing else. `atoms_of` are a state's atoms, and `over` is the state over others.
unfoldable pub asks : {S A : Type 0} → (S → List AtomDef) → (List AtomDef → S → S) → Check (List AtomDef) A → Check S A
asks atoms_of over question old o new = question (atoms_of old) o (atoms_of new) × (new ≡ over (atoms_of new) old)

-- ---- lists of needs

-- the needs of each member, one behind another, behind these
abbrev pub in_turn_from : {N X : Type 0} → Listed N → (X → Listed N) → List X → Listed N
in_turn_from start f xs = fold (λ l x. l & f x) start xs

abbrev pub in_turn : {N X : Type 0} → (X → Listed N) → List X → Listed N
in_turn = in_turn_from nothing

-- ---- work that may have stopped

-- a state, and why the work stopped there, if it did
abbrev pub Going : Type 0 → Type 0
Going S = S × Option (Stop Fault)

-- why the work stopped, as the answer of a call
abbrev pub answer : Option (Stop Fault) → Result (Unit {0}) (Stop Fault)
answer None = Ok tt
answer (Some stop) = Err stop

-- `meets`: what it means that one need is met
module _ {S N : Type 0} (meets : N → Check S (Unit {0})) where
  -- one need behind another: the first that is refused gives the fault, and what stands behind it is of no account
  abbrev pub all_met : Listed N → Check S (Unit {0})
  all_met nothing = gives tt
  all_met (one need) = meets need
  all_met (p & q) = all_met p ▷ λ u. all_met q

  abbrev RunsFrom : Option (Stop Fault) → Listed N → Going S → Going S → Type 0
  RunsFrom None needs old new = Comes (all_met needs) old.0 (answer new.1) new.0
  RunsFrom (Some stop) needs old new = new ≡ old

  -- the needs are met in turn, until the work stops; what had stopped before stays as it is
  unfoldable pub Runs : Listed N → Going S → Going S → Type 0
  Runs needs old new = RunsFrom old.1 needs old new
