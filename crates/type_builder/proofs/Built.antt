-- How the steps of `build` stand one behind another.
use Rattle.std.proofs.Common.{◌≡◌, ◌≤◌, ◌+◌, ◌++◌, ℕ, length, length-append, Option, None, Some, Result, refl, Ok, Err, IsErr, IsErrAnd, sym, subst, ap, ◌∙◌, arith}
use Rattle.std.specs.Option.{option_and_then}
use Rattle.std.proofs.lemmas.Bool.{false≢true}
use Rattle.std.proofs.lemmas.Option.{none-some, same_Some}
use Rattle.bal_base.specs.Stops.{IfFault}
use Rattle.bal_base.specs.declared.fault.Fault.{Fault}
use Rattle.bal_base.specs.declared.limits.TheConstants.{MOST_ATOMS}
use Rattle.bal_base.specs.declared.stop.Stop.{Stop}
use Rattle.bal_base.specs.declared.stop.Stop.TheVariants.{Memory, Fault as OwnFault}
use Rattle.bal_base.specs.declared.text.Name.{Name}
use Rattle.bal_tree.specs.declared.name.QualifiedName.{QualifiedName}
use Rattle.bal_tree.specs.declared.package.Package.{Package}
use Rattle.checks.specs.Checks.{Check, Comes}
use Rattle.checks.specs.Questions.{adds}
use Rattle.descriptors.specs.Described.{Atoms}
use Rattle.descriptors.specs.Naming.{as_type, entry_in, type_named}
use Rattle.descriptors.specs.Steps.{AreNames, AreOwnTypes, MeaningBelow}
use Rattle.descriptors.specs.declared.names.Entry.{Entry}
use Rattle.descriptors.specs.declared.names.Meaning.{Meaning}
use Rattle.descriptors.specs.declared.names.Meaning.TheVariants.{TypeName, Constant, Variable, Function}
use Rattle.descriptors.specs.declared.names.Names.{Names}
use Rattle.descriptors.specs.declared.names.OwnTypes.{OwnTypes}
use Rattle.descriptors.specs.declared.names.Scope.{Scope}
use Rattle.name_resolution.specs.Faults.{all_named}
use Rattle.name_resolution.specs.Outlines.{outlines_of}
use Rattle.name_resolution.proofs.Faultless.{are-named}
use Rattle.type_builder.proofs.KeptStages.{named-entry, same-ok, wrong}
use Rattle.type_builder.specs.MainFunction.{ResultsAreDefined, result_of}
use Rattle.type_builder.specs.AtomPlaces.{package_places, room_for}
use Rattle.type_builder.specs.Building.{AreNamesOf, defines_all}
use Rattle.type_builder.specs.Passes.{AreNamed, HaveRoom}
use Rattle.type_model.specs.declared.basic.Ty.{Ty}
use Rattle.type_model.specs.Defined.{IsDefined, TyBelow}

-- ---- answers

-- what stopped a call is handed on by `?`
pub comes-handed : {S A : Type 0} (m : Check S A) (old new : S) (stop : Stop Fault) (r : Result A (Stop Fault)) → IsErr r × IsErrAnd r (λ e. e ≡ stop) → Comes m old (Err stop) new → Comes m old r new
comes-handed m old new stop (Ok a) h y = absurd (false≢true h.0)
comes-handed m old new stop (Err s) h y = subst (λ e. Comes m old (Err e) new) (sym h.1) y

-- it was no fault
pub no-fault : {S A T : Type 0} (m : Check S A) (old new : S) (stop : Stop Fault) (r : Result T (Stop Fault)) → r ≡ Err stop → IfFault r (λ f. ⊥) → Comes m old (Err stop) new
unfolding Comes
no-fault {S} {A} {T} m old new stop r is h = none stop (subst (λ q. IfFault q (λ f. ⊥)) is h)
  where
    none : (s : Stop Fault) → IfFault {T = T} (Err s) (λ f. ⊥) → Comes m old (Err s) new
    none Memory k = tt
    none (OwnFault f) k = absurd k

-- ---- what is known on the way

pub named-so : (p : Package) (env : Atoms) (u : Unit {0}) → Comes (all_named (outlines_of p) p.main) env (Ok u) env → AreNamed p
unfolding Comes
named-so p env u h = are-named p.main (outlines_of p) env env u h

pub room-comes : (p : Package) (env other : Atoms) (r : Result (Unit {0}) (Stop Fault)) → env ≡ other → Comes (room_for (package_places p)) env r env → Comes (room_for (package_places p)) other r other
room-comes p env other r same h = subst (λ e. Comes (room_for (package_places p)) e r e) same h

pub room-so : (p : Package) (env : Atoms) (u : Unit {0}) → Comes (room_for (package_places p)) env (Ok u) env → HaveRoom (length env) p
unfolding Comes room_for
room-so p env u h = h.0

-- ---- a group is added

module _ (old new group : Atoms) where
  pub added-is : (k : ℕ) → Comes (adds (λ before defs. defs ≡ group) None) old (Ok k) new → new ≡ old ++ group
  unfolding Comes adds
  added-is k (defs, are_those, first, added) = added ∙ ap (λ ds. old ++ ds) are_those

  -- there is room for it
  pub no-limit : {A : Type 0} (m : Check Atoms A) (stop : Stop Fault) → length old + length group ≤ MOST_ATOMS → Comes (adds (λ before defs. defs ≡ group) None) old (Err stop) new → Comes m old (Err stop) new
  unfolding Comes adds
  no-limit m Memory room h = tt
  no-limit m (OwnFault f) room (defs, are_those, many, fault, same) = let long : length defs ≡ length group = ap length are_those in absurd (omega (arith, room, many, long))

-- ---- all definitions

module _ (p : Package) (own : OwnTypes) (old new group : Atoms) (names : Names) where
  pub all-defined : (was : OwnTypes) → was ≡ own → new ≡ old ++ group → AreOwnTypes new own
      → (AreOwnTypes (old ++ group) was → AreNamesOf p was old group names) → Comes (defines_all p own) old (Ok names) new
  unfolding Comes defines_all
  all-defined was same is owns f =
      (group, is, subst (λ o. AreNamesOf p o old group names) same (f (subst (λ o. AreOwnTypes (old ++ group) o) (sym same) (subst (λ e. AreOwnTypes e own) is owns))))

-- ---- which types names stand for

module _ (n : ℕ) (names : Names) (below : (m : ℕ) (name : Name) (e : Entry) → entry_in names name m ≡ Some e → MeaningBelow n e.meaning) where
  type-below : (m : Meaning) (t : Ty) → MeaningBelow n m → as_type m ≡ Ok t → TyBelow n t
  type-below (TypeName s) t h is = subst (TyBelow n) (same-ok is) h
  type-below (Constant s) t h is = subst (TyBelow n) (same-ok is) h
  type-below (Variable number final s) t h is = absurd (wrong is)
  type-below (Function s) t h is = absurd (wrong is)

  pub named-below : (scope : Scope) (name : QualifiedName) (t : Ty) → type_named names scope name ≡ Ok t → TyBelow n t
  named-below scope name t is = let found = named-entry names scope name t is in type-below found.1.meaning t (below found.0 name.word.name found.1 found.2) found.3

-- the same over the atoms that are there
pub are-names : (env : Atoms) (n : ℕ) (names : Names) → n ≡ length env → AreOwnTypes env names.own → ((m : ℕ) (name : Name) (e : Entry) → entry_in names name m ≡ Some e → MeaningBelow n e.meaning) → AreNames env names
are-names env n names same own below = record {
  types = λ scope name t is. subst (λ k. TyBelow k t) same (named-below n names below scope name t is);
  meanings = λ m name e at. subst (λ k. MeaningBelow k e.meaning) same (below m name e at);
  own = own;
}

-- what functions give is defined where names are
pub results-defined : (env : Atoms) (names : Names) (home : ℕ) → AreNames env names → ResultsAreDefined env names home
results-defined env names home are name t is = found (entry_in names name home) refl is
  where
    found : (o : Option Entry) → entry_in names name home ≡ o → option_and_then (λ e. result_of e.meaning) o ≡ Some t → IsDefined env t
    found None at h = absurd (none-some t h)
    found (Some e) at h = of e.meaning (are.meanings home name e at) h
      where
        of : (m : Meaning) → MeaningBelow (length env) m → result_of m ≡ Some t → IsDefined env t
        of (TypeName s) b h = absurd (none-some t h)
        of (Constant s) b h = absurd (none-some t h)
        of (Variable number final s) b h = absurd (none-some t h)
        of (Function f) b h = subst (IsDefined env) (same_Some f.result.sem t h) b.2.0

pub long-added : (old new group : Atoms) (first end : ℕ) → new ≡ old ++ group → first ≡ length old → first + length group ≡ end → end ≡ length new
long-added old new group first end is at long = let longer : length new ≡ length old + length group = ap length is ∙ length-append old group in omega (arith, at, long, longer)
