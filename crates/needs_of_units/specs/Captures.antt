-- Variables that a body captures, in its unit.
use Rattle.std.specs.Prelude.{◌≡◌, ◌++◌, ℕ, suc, Bool, true, false, List, [], ◌∷◌, Option, None, length, map}
use Rattle.flow_narrowing.specs.declared.flow.Variable.{Variable}
use Rattle.typed_tree.specs.declared.unit.Captured.{Captured}
use Rattle.typed_tree.specs.SharedTypes.{Shared}
use Rattle.check_words.specs.Calls.{Capture, captured_as}
use Rattle.check_words.specs.Sharing.{SameCaptured, SameShared, SameVariable}
use Rattle.check_words.specs.State.{UnitAtWork, shared_now, with_variable}
use Rattle.needs_of_units.specs.declared.captures.Capture.{Capture as CaptureHeld}

abbrev pub capture_of : CaptureHeld → Capture
capture_of c = (c.variable.now, c.at)

-- in a worker the slot is of the type of the slot around and the variable is narrowed as there; in an anonymous function it is of the
-- type that it has where it is captured
abbrev pub inner_type : Bool → Capture → Shared
inner_type true c = c.0.declared
inner_type false c = shared_now c.0

abbrev pub inner_narrowed : Bool → Capture → Option Shared
inner_narrowed true c = c.0.narrowed
inner_narrowed false c = None

abbrev pub inner_variable : Bool → ℕ → Capture → Variable
inner_variable worker slot c =
    record {
      name = c.0.name;
      slot = slot;
      declared = inner_type worker c;
      narrowed = inner_narrowed worker c;
      fixed = c.0.fixed;
      assigned = c.0.assigned;
      captured = true;
    }

abbrev pub inner_from : Bool → ℕ → List Capture → List Variable
inner_from worker slot [] = []
inner_from worker slot (c ∷ cs) = inner_variable worker slot c ∷ inner_from worker (suc slot) cs

-- the captured variables stand in the next slots
abbrev pub with_captures : Bool → List Capture → UnitAtWork → UnitAtWork
with_captures worker cs u =
    record u {
      slots = u.slots ++ map (inner_type worker) cs;
      captured = u.captured ++ map captured_as cs;
      flow = record { variables = u.flow.variables ++ inner_from worker (length u.slots) cs; reached = u.flow.reached };
    }

-- one more, by other handles
pub record IsCapturedInto (worker : Bool) (c : Capture) (u v : UnitAtWork) : Type 0 where
  pub ty : Shared
  pub captured : Captured
  pub variable : Variable
  pub same_type : SameShared (inner_type worker c) ty
  pub same_captured : SameCaptured (captured_as c) captured
  pub same_variable : SameVariable (inner_variable worker (length u.slots) c) variable
  pub after : v ≡ record u { slots = u.slots ++ ty ∷ []; captured = u.captured ++ captured ∷ []; flow = with_variable variable u.flow }
