-- Types that were made where memory may be wanted, as what a check on a draft gives.
use Rattle.std.proofs.Common.{◌≡◌, ℕ, Bool, List, Result, Ok, Err, IfOk, refl}
use Rattle.bal_base.specs.declared.fault.Fault.{Fault}
use Rattle.bal_base.specs.declared.stop.Memory.{Memory as NoMemory}
use Rattle.bal_base.specs.declared.stop.Stop.{Stop}
use Rattle.bal_tree.specs.declared.types.BuiltinType.{BuiltinType}
use Rattle.type_model.specs.declared.atoms.AtomDef.{AtomDef}
use Rattle.type_model.specs.declared.basic.BasicSet.{BasicSet}
use Rattle.type_model.specs.declared.basic.SemType.{Basic}
use Rattle.type_model.specs.declared.basic.Ty.{Ty}
use Rattle.type_model.specs.Defined.{TyBelow}
use Rattle.checks.specs.Checks.{gives}
use Rattle.descriptors.specs.declared.draft.Draft.{Draft}
use Rattle.descriptors.specs.declared.names.Names.{Names}
use Rattle.descriptors.specs.Described.{AreCopies, Atoms, IsAnyFunction, IsBuiltin, IsIntersection, IsOptional, IsUnion, plain}
use Rattle.descriptors.specs.Drafts.{AreNamesBelow, Drafts, wherever}
use Rattle.descriptors.specs.Steps.{AllBelow, AreOwnTypes, lifted}
use Rattle.descriptors.proofs.Yielding.{plain-below}
use Rattle.descriptors.proofs.Drafting.{drafts-just, drafts-lifted}

-- a basic set
pub made-basic : (G : ℕ → Type 0) (d : Draft) (set : BasicSet) (t : Ty) → t ≡ plain (Basic set) → Drafts G TyBelow (gives (plain (Basic set))) d (Ok t) d
made-basic G d set t e = drafts-just G TyBelow d (plain (Basic set)) t e (λ n le g. plain-below n (Basic set) tt)

module _ (names : Names) (d : Draft) where
  -- what is so over whatever atoms
  made : {A : Type 0} (G : ℕ → Type 0) (Q : ℕ → A → Type 0) (P : Atoms → A → Type 0) (m : Result A NoMemory) (r : Result A (Stop Fault)) → r ≡ lifted m
      → IfOk m (λ a. (over : List AtomDef) → P over a) → IfOk m (λ a. (n : ℕ) → G n → Q n a) → Drafts G Q (wherever names A P) d r d
  made G Q P (Ok a) r e is below = drafts-lifted G Q d _ (Ok a) r e (λ env own. is env) (λ n le g. below n g)
  made G Q P (Err m) r e is below = drafts-lifted G Q d _ (Err m) r e tt (λ n le g. tt)

  pub made-optional : (t : Ty) (m : Result Ty NoMemory) (r : Result Ty (Stop Fault)) → r ≡ lifted m → IfOk m (λ u. (over : List AtomDef) → IsOptional t over u)
      → IfOk m (λ u. (n : ℕ) → TyBelow n t → TyBelow n u) → Drafts (λ n. TyBelow n t) TyBelow (wherever names Ty (IsOptional t)) d r d
  made-optional t = made (λ n. TyBelow n t) TyBelow (IsOptional t)

  both-below : (s t : Ty) (m : Result Ty NoMemory) → IfOk m (λ u. (n : ℕ) → TyBelow n s → TyBelow n t → TyBelow n u) → IfOk m (λ u. (n : ℕ) → TyBelow n s × TyBelow n t → TyBelow n u)
  both-below s t (Ok u) h = λ n p. h n p.0 p.1
  both-below s t (Err m) h = tt

  pub made-union : (s t : Ty) (m : Result Ty NoMemory) (r : Result Ty (Stop Fault)) → r ≡ lifted m → IfOk m (λ u. (over : List AtomDef) → IsUnion s t over u)
      → IfOk m (λ u. (n : ℕ) → TyBelow n s → TyBelow n t → TyBelow n u) → Drafts (λ n. TyBelow n s × TyBelow n t) TyBelow (wherever names Ty (IsUnion s t)) d r d
  made-union s t m r e is below = made (λ n. TyBelow n s × TyBelow n t) TyBelow (IsUnion s t) m r e is (both-below s t m below)

  pub made-intersection : (b : Bool) (s t : Ty) (m : Result Ty NoMemory) (r : Result Ty (Stop Fault)) → r ≡ lifted m → IfOk m (λ u. (over : List AtomDef) → IsIntersection b s t over u)
      → IfOk m (λ u. (n : ℕ) → TyBelow n s → TyBelow n t → TyBelow n u) → Drafts (λ n. TyBelow n s × TyBelow n t) TyBelow (wherever names Ty (IsIntersection b s t)) d r d
  made-intersection b s t m r e is below = made (λ n. TyBelow n s × TyBelow n t) TyBelow (IsIntersection b s t) m r e is (both-below s t m below)

  pub made-copies : (count : ℕ) (t : Ty) (ts : List Ty) → ((over : List AtomDef) → AreCopies count t over ts) → ((n : ℕ) → TyBelow n t → AllBelow n ts)
      → Drafts (λ n. TyBelow n t) AllBelow (wherever names (List Ty) (AreCopies count t)) d (Ok ts) d
  made-copies count t ts = made (λ n. TyBelow n t) AllBelow (AreCopies count t) (Ok ts) (Ok ts) refl

  -- what is so where the language's own types are what they are
  made_own : (P : Atoms → Ty → Type 0) (m : Result Ty NoMemory) (r : Result Ty (Stop Fault)) → r ≡ lifted m
      → IfOk m (λ t. (env : List AtomDef) → AreOwnTypes env names.own → P env t) → IfOk m (λ t. (n : ℕ) → AreNamesBelow names n → TyBelow n t)
      → Drafts (AreNamesBelow names) TyBelow (wherever names Ty P) d r d
  made_own P (Ok t) r e is below = drafts-lifted (AreNamesBelow names) TyBelow d _ (Ok t) r e is (λ n le g. below n g)
  made_own P (Err m) r e is below = drafts-lifted (AreNamesBelow names) TyBelow d _ (Err m) r e tt (λ n le g. tt)

  pub made-builtin : (b : BuiltinType) (m : Result Ty NoMemory) (r : Result Ty (Stop Fault)) → r ≡ lifted m
      → IfOk m (λ t. (env : List AtomDef) → AreOwnTypes env names.own → IsBuiltin b env t) → IfOk m (λ t. (n : ℕ) → AreNamesBelow names n → TyBelow n t)
      → Drafts (AreNamesBelow names) TyBelow (wherever names Ty (IsBuiltin b)) d r d
  made-builtin b = made_own (IsBuiltin b)

  pub made-any_function : (b : Bool) (m : Result Ty NoMemory) (r : Result Ty (Stop Fault)) → r ≡ lifted m
      → IfOk m (λ t. (env : List AtomDef) → AreOwnTypes env names.own → IsAnyFunction b env t) → IfOk m (λ t. (n : ℕ) → AreNamesBelow names n → TyBelow n t)
      → Drafts (AreNamesBelow names) TyBelow (wherever names Ty (IsAnyFunction b)) d r d
  made-any_function b = made_own (IsAnyFunction b)
