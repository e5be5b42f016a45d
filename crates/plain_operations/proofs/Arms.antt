-- An arm of the table of operations.
use Rattle.std.proofs.Common.{◌≡◌, List, Result, sym, subst}
use Rattle.std.specs.Prelude.{IfOk}
use Rattle.value_model.specs.declared.value.Value.{Value}
use Rattle.plain_run.specs.declared.effect.Performed.{Performed}
use Rattle.plain_run.specs.declared.facts.ProgramFacts.{ProgramFacts}
use Rattle.plain_run.specs.declared.held.Caller.{Caller}
use Rattle.plain_run.specs.declared.held.Common.{Common}
use Rattle.held_operations.specs.declared.op.Op.{Op}
use Rattle.plain_run.specs.Effects.{IsPerformed}
use Rattle.held_operations.specs.Operation.{operation_of}
use Rattle.plain_run.proofs.Given.{if-ok}

-- `Cause` says why an operation is not told
module _ (Cause : Op → Type 0) (facts : ProgramFacts) (caller : Caller) (vs : List Value) (old new : Common) where
  -- what is said of an operation and of what was answered for it
  abbrev pub Says : Op → Performed → Type 0
  Says o done = IsPerformed facts (operation_of o) vs caller old new (Cause o) done

  -- the operation is this one, and its body gave this
  pub arm : {E : Type 0} (o p : Op) (r : Result Performed E) → o ≡ p → IfOk r (Says p) → IfOk r (Says o)
  arm o p r e h = subst (λ x. IfOk r (Says x)) (sym e) h

  -- and so whoever asks
  pub arm-asked : {E : Type 0} (o p : Op) (r : Result Performed E) → o ≡ p → IfOk r (λ done. (a : Caller) → IsPerformed facts (operation_of p) vs a old new (Cause p) done) → IfOk r (Says o)
  arm-asked o p r e h = arm o p r e (if-ok (λ done. (a : Caller) → IsPerformed facts (operation_of p) vs a old new (Cause p) done) (Says p) r (λ done g. g caller) h)

  -- and so whatever is known of the program
  pub arm-known : {E : Type 0} (o p : Op) (r : Result Performed E) → o ≡ p → IfOk r (λ done. (f : ProgramFacts) → IsPerformed f (operation_of p) vs caller old new (Cause p) done) → IfOk r (Says o)
  arm-known o p r e h = arm o p r e (if-ok (λ done. (f : ProgramFacts) → IsPerformed f (operation_of p) vs caller old new (Cause p) done) (Says p) r (λ done g. g facts) h)

  -- and so whoever asks, and whatever is known
  pub arm-any : {E : Type 0} (o p : Op) (r : Result Performed E) → o ≡ p → IfOk r (λ done. (f : ProgramFacts) (a : Caller) → IsPerformed f (operation_of p) vs a old new (Cause p) done) → IfOk r (Says o)
  arm-any o p r e h = arm o p r e (if-ok (λ done. (f : ProgramFacts) (a : Caller) → IsPerformed f (operation_of p) vs a old new (Cause p) done) (Says p) r (λ done g. g facts caller) h)

  -- its body needs no memory
  pub arm-one : (o p : Op) (done : Performed) → o ≡ p → Says p done → Says o done
  arm-one o p done e h = subst (λ x. Says x done) (sym e) h
