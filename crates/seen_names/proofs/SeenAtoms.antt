-- What a name stands for names only atoms that are there, and looking it up as a step.
use Rattle.std.proofs.Common.{◌≡◌, ◌++◌, ℕ, Bool, true, false, List, [], ◌∷◌, length, All, Option, Some, None, Result, Ok, Err, find, if◌then◌else◌, refl, subst, ap}
use Rattle.std.proofs.lemmas.Bool.{false≢true}
use Rattle.std.proofs.lemmas.List.Elements.{All-head, All-tail}
use Rattle.std.proofs.lemmas.Option.{none-some, same_Some}
use Rattle.bal_base.specs.declared.fault.Fault.{Fault}
use Rattle.bal_base.specs.declared.fault.FaultCode.{FaultCode}
use Rattle.bal_base.specs.declared.stop.Stop.{Stop}
use Rattle.bal_base.specs.declared.text.Name.{Name}
use Rattle.bal_tree.specs.declared.name.Prefix.{Prefix}
use Rattle.bal_tree.specs.declared.name.Prefix.TheVariants.{Word as WordPrefix, Int as IntPrefix}
use Rattle.bal_tree.specs.declared.name.QualifiedName.{QualifiedName}
use Rattle.checks.specs.Checks.{Comes}
use Rattle.descriptors.specs.declared.names.Entry.{Entry}
use Rattle.descriptors.specs.declared.names.Meaning.{Meaning}
use Rattle.descriptors.specs.declared.names.Names.{Names}
use Rattle.descriptors.specs.declared.names.Scope.{Scope}
use Rattle.descriptors.specs.declared.names.Source.{Source}
use Rattle.descriptors.specs.declared.names.Source.TheVariants.{Library, Module}
use Rattle.descriptors.specs.Naming.{entry_in, home_of, if_defined, if_imported, if_public, meaning_named, source_named}
use Rattle.descriptors.specs.Steps.{AreNames, MeaningBelow}
use Rattle.flow_narrowing.specs.declared.flow.Variable.{Variable}
use Rattle.flow_narrowing.specs.Flows.{VariableBelow, VariablesBelow}
use Rattle.operations.specs.declared.operation.Constant.{Constant}
use Rattle.type_model.specs.declared.atoms.AtomDef.{AtomDef}
use Rattle.type_model.specs.Places.{is_same_text}
use Rattle.typed_tree.specs.declared.expr.TypedExpr.{TypedExpr}
use Rattle.check_words.specs.Library.{LibraryRow, functions_of_int, functions_of_io, is_named}
use Rattle.check_words.specs.Seen.{Seen, as_seen, constant_of_int, from_source, in_library, in_modules, looks_up, or_function, seen_as, seen_behind, variable_or, worker_named, worker_or}
use Rattle.check_words.specs.State.{Site, State, UnitAtWork, find_variable}
use Rattle.check_words.specs.Values.{gives_named, gives_seen}
use Rattle.check_words.proofs.Coming.{given, next}
use Rattle.check_words.proofs.Flowing.{unit-now}
use Rattle.seen_names.specs.Given.{Puts, SeenBelow, ended, with_part}

-- ---- looking it up

pub looks-up : (names : Names) (q : QualifiedName) (s : State) (kept : List UnitAtWork) (u : UnitAtWork) → s.units ≡ kept ++ u ∷ []
    → Comes (looks_up names q) s (Ok (seen_as names s.site u.flow.variables q)) s
looks-up names q s kept u is =
    next _ _ _ _ _ u s (unit-now s kept u is) (given _ s (seen_as names s.site u.flow.variables q) refl)

-- and its expression behind the others
pub named-puts : (names : Names) (q : QualifiedName) (s : State) (kept : List UnitAtWork) (u : UnitAtWork) → s.units ≡ kept ++ u ∷ [] → (seen : Seen)
    → seen ≡ seen_as names s.site u.flow.variables q → (r : Result TypedExpr (Stop Fault)) → Puts (gives_seen seen q.at) r → Comes (gives_named names q) s (ended r) (with_part s r)
unfolding Puts
named-puts names q s kept u is seen so r h =
    next _ _ _ _ _ (seen_as names s.site u.flow.variables q) s (looks-up names q s kept u is) (subst (λ x. Comes (gives_seen x q.at) s (ended r) (with_part s r)) so (h s))

-- ---- variables

found-has : (P : Variable → Type 0) (vs : List Variable) (name : Name) (v : Variable) → All P vs → find_variable vs name ≡ Some v → P v
found-has P [] name v h is = absurd (none-some v is)
found-has P (u ∷ vs) name v h is = by (is_same_text u.name name) (found-has P vs name v (All-tail P u vs h)) is
  where
    by : (b : Bool) → (find_variable vs name ≡ Some v → P v) → (if b then Some u else find_variable vs name) ≡ Some v → P v
    by true behind same = subst P (same_Some u v same) (All-head P u vs h)
    by false behind same = behind same

-- ---- what modules define

abbrev is_given : {A B : Type 0} → Result A B → Bool
is_given (Ok a) = true
is_given (Err b) = false

abbrev or_that : {A B : Type 0} → A → Result A B → A
or_that a (Ok b) = b
or_that a (Err e) = a

module _ (n : ℕ) (names : Names) (scope : Scope) (below : (m : ℕ) (name : Name) (e : Entry) → entry_in names name m ≡ Some e → MeaningBelow n e.meaning) where
  public-below : (b : Bool) (e : Entry) (m : Meaning) → MeaningBelow n e.meaning → if_public names scope b e ≡ Ok m → MeaningBelow n m
  public-below true e m h is = subst (MeaningBelow n) (ap (or_that m) is) h
  public-below false e m h is = absurd (false≢true (ap is_given is))

  module _ (name : Name) (m : Meaning) where
    defined-below : (home : ℕ) (o : Option Entry) → entry_in names name home ≡ o → if_defined names scope home o ≡ Ok m → MeaningBelow n m
    defined-below home (Some e) at is = public-below _ e m (below home name e at) is
    defined-below home None at is = absurd (false≢true (ap is_given is))

    imported-below : (home : Option ℕ) → if_imported names scope name home ≡ Ok m → MeaningBelow n m
    imported-below (Some home) is = defined-below home (entry_in names name home) refl is
    imported-below None is = absurd (false≢true (ap is_given is))

  module-below : (r : Result Meaning FaultCode) (q : QualifiedName) → meaning_named names scope q ≡ r → SeenBelow n (as_seen r)
  module-below (Ok m) q is = imported-below q.word.name m (home_of names scope q.prefix) is
  module-below (Err code) q is = tt

-- ---- all names

library-below : (n : ℕ) (o : Option LibraryRow) → SeenBelow n (in_library o)
library-below n (Some r) = tt
library-below n None = tt

module _ (env : List AtomDef) (names : Names) (are : AreNames env names) (site : Site) (vs : List Variable) (q : QualifiedName) (all : VariablesBelow (length env) vs) where
  modules-below : SeenBelow (length env) (in_modules names site q)
  modules-below = module-below (length env) names site.scope are.meanings (meaning_named names site.scope q) q refl

  worker-below : (o : Option ℕ) → SeenBelow (length env) (worker_or names site q o)
  worker-below (Some w) = tt
  worker-below None = modules-below

  variable-below : (o : Option Variable) → find_variable vs q.word.name ≡ o → SeenBelow (length env) (variable_or names site q o)
  variable-below (Some v) is = found-has (VariableBelow (length env)) vs q.word.name v all is
  variable-below None is = worker-below (worker_named site.workers q)

  constant-below : (o : Option Constant) → SeenBelow (length env) (or_function q.word.name o)
  constant-below (Some c) = tt
  constant-below None = library-below (length env) (find (is_named q.word.name) functions_of_int)

  source-below : (o : Option Source) → SeenBelow (length env) (from_source names site q o)
  source-below (Some Library) = library-below (length env) (find (is_named q.word.name) functions_of_io)
  source-below (Some (Module m)) = modules-below
  source-below None = modules-below

  behind-below : (p : Option Prefix) → SeenBelow (length env) (seen_behind names site vs q p)
  behind-below None = variable-below (find_variable vs q.word.name) refl
  behind-below (Some (IntPrefix at)) = constant-below (constant_of_int q.word.name)
  behind-below (Some (WordPrefix w)) = source-below (source_named names site.scope w.name)

  pub seen-below : SeenBelow (length env) (seen_as names site vs q)
  seen-below = behind-below q.prefix
