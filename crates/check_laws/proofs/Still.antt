-- Checks that change atoms alone, whatever they come to.
use Rattle.std.proofs.Common.{◌≡◌, Bool, true, false, List, [], ◌∷◌, Option, None, Some, Ok, Err, inl, inr, ap, ◌∙◌}
use Rattle.std.specs.Global.{Box}
use Rattle.bal_base.specs.declared.fault.Fault.{Fault}
use Rattle.bal_base.specs.declared.fault.FaultCode.{FaultCode}
use Rattle.bal_base.specs.declared.place.Place.{Place}
use Rattle.bal_tree.specs.declared.def.FunctionDef.{FunctionDef}
use Rattle.bal_tree.specs.declared.def.Worker.{Worker}
use Rattle.bal_tree.specs.declared.types.TypeTree.{TypeTree}
use Rattle.checks.specs.Checks.{Check, Gives, Outcome, Refuses, gives_some, refuses, ◌▷◌}
use Rattle.descriptors.specs.declared.names.Names.{Names}
use Rattle.needs.specs.Needs.{asks}
use Rattle.type_model.specs.declared.answers.TypeLimit.{TypeLimit}
use Rattle.type_model.specs.declared.atoms.AtomDef.{AtomDef}
use Rattle.type_model.specs.Calls.{Asked}
use Rattle.typed_tree.specs.SharedTypes.{Shared}
use Rattle.check_words.specs.State.{State, UnitAtWork}
use Rattle.check_words.specs.Units.{descriptor_type, ends_by, result_or_fault, signature_of, worker_results}
use Rattle.check_words.specs.Words.{Atoms, asking, unless}

-- only the atoms are others
abbrev pub IsStill : State → State → Type 0
IsStill old new = new ≡ record old { atoms = new.atoms }

abbrev pub Still : {A : Type 0} → Check State A → Type 0
Still {A} m = (old new : State) (o : Outcome A) → m old o new → IsStill old new

pub still-on : (s t u : State) → IsStill s t → IsStill t u → IsStill s u
still-on s t u p q = q ∙ ap (λ (x : State). record x { atoms = u.atoms }) p

pub same-is-still : (old new : State) → new ≡ old → IsStill old new
same-is-still old new e = ap (λ (x : State). record x { atoms = new.atoms }) e

pub still-some : {A : Type 0} (P : State → A → Type 0) → Still (gives_some P)
unfolding gives_some
still-some P old new (Gives a) x = same-is-still old new x.1
still-some P old new (Refuses f) x = absurd x

pub still-then : {A B : Type 0} (m : Check State A) (next : A → Check State B) → Still m → ((a : A) → Still (next a)) → Still (m ▷ next)
unfolding ◌▷◌
still-then m next f g old new (Gives b) (a, mid, x, y) = still-on old mid new (f old mid (Gives a) x) (g a mid new (Gives b) y)
still-then m next f g old new (Refuses fault) (inl x) = f old new (Refuses fault) x
still-then m next f g old new (Refuses fault) (inr (a, mid, x, y)) = still-on old mid new (f old mid (Gives a) x) (g a mid new (Refuses fault) y)

pub still-asking : {A : Type 0} (question : Check Atoms A) → Still (asking question)
unfolding asks
still-asking question old new (Gives a) x = x.1
still-asking question old new (Refuses f) x = x.1

still-refuses : {A : Type 0} (P : State → Fault → Type 0) → Still (refuses {S = State} {A = A} P)
unfolding refuses
still-refuses P old new (Gives a) x = absurd x
still-refuses P old new (Refuses f) x = same-is-still old new x.1

still-unless : (b : Bool) (code : FaultCode) (at : Place) → Still (unless b code at)
still-unless true code at = still-some _
still-unless false code at = still-refuses _

still-descriptor : (names : Names) (tree : Option (Box TypeTree)) → Still (descriptor_type names tree)
still-descriptor names None = still-some _
still-descriptor names (Some tree) =
    still-then _ _ (still-some _) (λ site. still-then _ _ (still-asking _) (λ t. still-some _))

still-or-fault : (check : Check State Shared) → Still check → Still (result_or_fault check)
unfolding result_or_fault
still-or-fault check f old new (Gives (Ok t)) x = f old new (Gives t) x
still-or-fault check f old new (Gives (Err fault)) x = f old new (Refuses fault) x
still-or-fault check f old new (Refuses fault) x = absurd x

pub still-results : (names : Names) (ws : List Worker) → Still (worker_results names ws)
still-results names [] = still-some _
still-results names (w ∷ ws) =
    still-then _ _ (still-or-fault _ (still-descriptor names w.result)) (λ r. still-then _ _ (still-results names ws) (λ more. still-some _))

pub still-ends-by : (passes : List AtomDef → Asked → TypeLimit → Type 0) (reached : Bool) (u : UnitAtWork) (close : Place) → Still (ends_by passes reached u close)
still-ends-by passes false u close = still-some _
still-ends-by passes true u close =
    still-then _ _ (still-some _) (λ nil. still-then _ _ (still-asking _) (λ b. still-unless b _ close))

pub still-signature : (names : Names) (d : FunctionDef) → Still (signature_of names d)
still-signature names d = still-then _ _ (still-some _) (λ site. still-some _)
