-- A walk over a package, and the check of the package that it is.
use Rattle.std.specs.Prelude.{◌≡◌, ℕ, IfOk, List, Option, Some, None, Result, Ok, Err}
use Rattle.std.proofs.Common.{ap, refl, subst, sym}
use Rattle.bal_base.specs.declared.fault.Fault.{Fault}
use Rattle.bal_base.specs.declared.stop.Memory.{Memory as NoMemory}
use Rattle.bal_base.specs.declared.stop.Stop.{Stop}
use Rattle.bal_base.specs.declared.stop.Stop.TheVariants.{Memory, Fault as OwnFault}
use Rattle.bal_base.specs.declared.text.Name.{Name}
use Rattle.bal_tree.specs.declared.package.Package.{Package}
use Rattle.checks.specs.Checks.{Comes, Gives, Refuses}
use Rattle.descriptors.specs.declared.names.Names.{Names}
use Rattle.descriptors.specs.declared.names.Entry.{Entry}
use Rattle.descriptors.specs.Naming.{entry_in}
use Rattle.descriptors.specs.Steps.{lifted}
use Rattle.needs.specs.Needs.{Going, Runs}
use Rattle.type_model.specs.declared.answers.TypeLimit.{TypeLimit}
use Rattle.type_model.specs.declared.atoms.AtomDef.{AtomDef}
use Rattle.type_model.specs.Calls.{Asked}
use Rattle.typed_tree.specs.declared.package.TypedPackage.{TypedPackage}
use Rattle.stmt_needs.specs.PackageTable.{package_needs}
use Rattle.check_words.specs.State.{State}
use Rattle.check_words.specs.Units.{signature_in}
use Rattle.package_checks.specs.Checked.{IsStart, IsTyped, at_first, checked_package}
use Rattle.check_work.specs.Views.{going, state_of}
use Rattle.check_work.specs.declared.work.Work.{Work}
use Rattle.all_needs.specs.Named.{going_of, meaning_of, with_names}
use Rattle.all_needs.proofs.Named.{met-over-names}
use Rattle.stmt_checker.specs.Answers.{IsAnswer, IsFound}

-- the start by what a name stands for
pub start-of : (names : Names) (m : ℕ) (n k : Name) (e : Option Entry) (unit words : ℕ)
    → n ≡ k → e ≡ entry_in names n m → IsStart (signature_in e) unit words → IsStart (signature_in (entry_in names k m)) unit words
start-of names m n k e unit words same is h =
    subst (λ name. IsStart (signature_in (entry_in names name m)) unit words) same (subst (λ x. IsStart (signature_in x) unit words) is h)

pub found-so : (names : Names) (p : Package) (s : State) (made : Result TypedPackage NoMemory) → IfOk made (IsTyped names p s) → IsFound names p s (lifted made)
found-so names p s (Ok t) h = h
found-so names p s (Err m) h = tt

-- what holds as long as the work goes on holds where there is a typed package
pub stands-still : (names : Names) (p : Package) (s : State) (A : Type 0) (stop : Option (Stop Fault)) (r : Result TypedPackage (Stop Fault))
    → IsAnswer names p s stop r → (stop ≡ None → A) → IfOk r (λ t. A)
stands-still names p s A None (Ok t) a h = h refl
stands-still names p s A None (Err e) a h = tt
stands-still names p s A (Some stop) (Ok t) a h = absurd (cc)
stands-still names p s A (Some stop) (Err e) a h = tt

module _ (passes : List AtomDef → Asked → TypeLimit → Type 0) (names : Names) (p : Package) where
  ended : (env : List AtomDef) (after : Names) (s : State) (stop : Option (Stop Fault)) (r : Result TypedPackage (Stop Fault))
      → Runs (meaning_of passes) (package_needs p) ((names, at_first env p), None) ((after, s), stop)
      → IsAnswer names p s stop r → Comes (checked_package passes names p) env r s.atoms
  unfolding Comes Runs checked_package
  ended env after s None (Ok t) h typed =
      (s, (met-over-names passes (package_needs p) (names, at_first env p) (Gives tt) (after, s) h).1, typed, refl)
  ended env after s None (Err (OwnFault f)) h a = absurd a
  ended env after s None (Err Memory) h a = tt
  ended env after s (Some (OwnFault f)) r h a =
      subst (λ x. Comes (checked_package passes names p) env x s.atoms) (sym a)
      (s, (met-over-names passes (package_needs p) (names, at_first env p) (Refuses f) (after, s) h).1, refl)
  ended env after s (Some Memory) r h a = subst (λ x. Comes (checked_package passes names p) env x s.atoms) (sym a) tt

  -- what was at work first, and what it has come to
  pub package-ended : (env behind : List AtomDef) (after : Names) (old new : Work) (r : Result TypedPackage (Stop Fault))
      → going env old ≡ (at_first env p, None)
      → Runs (meaning_of passes) (package_needs p) (going_of env names old) (going_of behind after new)
      → IsAnswer names p (state_of behind new) new.stop r → Comes (checked_package passes names p) env r behind
  unfolding going_of
  package-ended env behind after old new r first h a =
      ended env after (state_of behind new) new.stop r
      (subst (λ (g : Going State). Runs (meaning_of passes) (package_needs p) (with_names names g) (with_names after (going behind new))) first h) a

  names-from : (after : Names) (old new : Going State)
      → old.1 ≡ None → new.1 ≡ None → Runs (meaning_of passes) (package_needs p) (with_names names old) (with_names after new) → after ≡ names
  unfolding Comes Runs
  names-from after (s, None) (t, None) e f h = (met-over-names passes (package_needs p) (names, s) (Gives tt) (after, t) h).0
  names-from after (s, None) (t, Some stop) e f h = absurd (cc)
  names-from after (s, Some stop) new e f h = absurd (cc)

  -- where it goes on to its end, the names are those that they were
  pub names-stay : (env behind : List AtomDef) (after : Names) (old new : Work)
      → going env old ≡ (at_first env p, None) → new.stop ≡ None
      → Runs (meaning_of passes) (package_needs p) (going_of env names old) (going_of behind after new) → after ≡ names
  unfolding going_of
  names-stay env behind after old new first e h = names-from after (going env old) (going behind new) (ap (λ (g : Going State). g.1) first) e h
