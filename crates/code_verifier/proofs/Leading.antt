-- Limits that are passed by questions to which a need leads.
use Rattle.std.proofs.Common.{List, Result, Ok, Err}
use Rattle.bal_base.specs.declared.stop.Stop.{Stop}
use Rattle.bal_base.specs.declared.stop.Stop.TheVariants.{Fault, Memory}
use Rattle.bal_base.specs.Stops.{IfFault}
use Rattle.type_model.specs.declared.answers.TypeLimit.{TypeLimit}
use Rattle.type_model.specs.declared.atoms.AtomDef.{AtomDef}
use Rattle.type_model.specs.Calls.{Asked}
use Rattle.type_model.specs.declared.basic.SemType.{SemType}
use Rattle.code_verifier.specs.LedTo.{AsksAbove, AsksBelow, SomePasses}

module _ (passes : List AtomDef → Asked → TypeLimit → Type 0) (env : List AtomDef) where
  -- the question that passes is led to
  pub fault-leads : (L : Asked → Type 0) (asked : Asked) → L asked → {A : Type 0} (r : Result A (Stop TypeLimit)) → IfFault r (passes env asked) → IfFault r (SomePasses passes env L)
  fault-leads L asked leads (Ok a) h = tt
  fault-leads L asked leads (Err Memory) h = tt
  fault-leads L asked leads (Err (Fault limit)) h = (asked, leads, h)

  -- the same of a stop that is handed on
  pub stop-leads : (L : Asked → Type 0) (asked : Asked) → L asked → (A B : Type 0) (stop : Stop TypeLimit) → IfFault {T = A} (Err stop) (passes env asked) → IfFault {T = B} (Err stop) (SomePasses passes env L)
  stop-leads L asked leads A B Memory h = tt
  stop-leads L asked leads A B (Fault limit) h = (asked, leads, h)

  -- what leads there leads on
  pub fault-on : (L M : Asked → Type 0) → ((asked : Asked) → L asked → M asked) → {A : Type 0} (r : Result A (Stop TypeLimit)) → IfFault r (SomePasses passes env L) → IfFault r (SomePasses passes env M)
  fault-on L M on (Ok a) h = tt
  fault-on L M on (Err Memory) h = tt
  fault-on L M on (Err (Fault limit)) (asked, leads, h) = (asked, on asked leads, h)

  pub stop-on : (L M : Asked → Type 0) → ((asked : Asked) → L asked → M asked) → (A B : Type 0) (stop : Stop TypeLimit) → IfFault {T = A} (Err stop) (SomePasses passes env L) → IfFault {T = B} (Err stop) (SomePasses passes env M)
  stop-on L M on A B Memory h = tt
  stop-on L M on A B (Fault limit) (asked, leads, h) = (asked, on asked leads, h)

-- a limit that is handed on
pub stop-passed : (P : TypeLimit → Type 0) (A B : Type 0) (stop : Stop TypeLimit) → IfFault {T = A} (Err stop) P → IfFault {T = B} (Err stop) P
stop-passed P A B Memory h = tt
stop-passed P A B (Fault limit) h = h

-- a type that is asked about in other words
pub below-on : (s : SemType) (P Q : SemType → Type 0) → ((want : SemType) → P want → Q want) → (asked : Asked) → AsksBelow s P asked → AsksBelow s Q asked
below-on s P Q on asked (want, is, e) = (want, on want is, e)

pub above-on : (t : SemType) (P Q : SemType → Type 0) → ((want : SemType) → P want → Q want) → (asked : Asked) → AsksAbove t P asked → AsksAbove t Q asked
above-on t P Q on asked (want, is, e) = (want, on want is, e)
