-- Entries that are alike, where types are named: names that have them stand for the same types.
use Rattle.std.proofs.Common.{◌≡◌, ◌==◌, ◌||◌, ℕ, zero, suc, Bool, true, false, List, [], ◌∷◌, set, cond, Option, None, Some, Ok, Err, refl, sym, ap, subst, ◌∙◌}
use Rattle.std.specs.Prelude.{slice_get}
use Rattle.std.specs.List.{AllZip}
use Rattle.std.proofs.lemmas.Option.{same_Some}
use Rattle.bal_base.specs.declared.fault.FaultCode.TheVariants.{NotPublic}
use Rattle.bal_base.specs.declared.text.Name.{Name}
use Rattle.bal_tree.specs.declared.name.QualifiedName.{QualifiedName}
use Rattle.bal_tree.specs.declared.package.Package.{Package}
use Rattle.descriptors.specs.declared.names.Entry.{Entry}
use Rattle.descriptors.specs.declared.names.Names.{Names}
use Rattle.descriptors.specs.declared.names.OwnTypes.{OwnTypes}
use Rattle.descriptors.specs.declared.names.Scope.{Scope}
use Rattle.descriptors.specs.Naming.{as_type, home_of, if_defined, if_imported, type_named, its_type}
use Rattle.name_resolution.specs.Definitions.{Placed, defines, definitions_of, scope_at}
use Rattle.type_builder.specs.Building.{first_entry}
use Rattle.type_builder.specs.Passes.{AreEntries}
use Rattle.type_builder.proofs.KnownTypes.{same-home}

-- as public, and the same type or none
abbrev pub IsAlike : Entry → Entry → Type 0
IsAlike e f = (e.public ≡ f.public) × (as_type e.meaning ≡ as_type f.meaning)

pub AreAlike : List Entry → List Entry → Type 0
AreAlike = AllZip IsAlike

pub alike-themselves : (es : List Entry) → AreAlike es es
unfolding AreAlike
alike-themselves [] = tt
alike-themselves (e ∷ es) = ((refl, refl), alike-themselves es)

pub alike-back : (es fs : List Entry) → AreAlike es fs → AreAlike fs es
unfolding AreAlike
alike-back [] [] all = tt
alike-back [] (f ∷ fs) all = absurd all
alike-back (e ∷ es) [] all = absurd all
alike-back (e ∷ es) (f ∷ fs) all = ((sym all.0.0, sym all.0.1), alike-back es fs all.1)

pub alike-set : (es fs : List Entry) (n : ℕ) (x f : Entry) → AreAlike es fs → slice_get fs n ≡ Some f → IsAlike x f → AreAlike (set es n x) fs
unfolding AreAlike
alike-set [] fs n x f all at one = all
alike-set (e ∷ es) [] n x f all at one = absurd all
alike-set (e ∷ es) (g ∷ fs) zero x f all at one = (subst (IsAlike x) (sym (same_Some g f at)) one, all.1)
alike-set (e ∷ es) (g ∷ fs) (suc n) x f all at one = (all.0, alike-set es fs n x f all.1 at one)

module _ (names others : Names) (scope : Scope) (home : ℕ) (name : Name) where
  visible : (e f : Entry) → IsAlike e f → its_type (if_defined names scope home (Some e)) ≡ its_type (if_defined others scope home (Some f))
  visible e f same = ap (λ b. its_type (cond (home == scope.«module» || b) (Ok e.meaning) (Err NotPublic))) same.0 ∙ by (home == scope.«module» || f.public)
    where
      by : (b : Bool) → its_type (cond b (Ok e.meaning) (Err NotPublic)) ≡ its_type (cond b (Ok f.meaning) (Err NotPublic))
      by true = same.1
      by false = refl

  first-alike : (ps : List Placed) (es fs : List Entry) → AreAlike es fs
      → its_type (if_defined names scope home (first_entry home name ps es)) ≡ its_type (if_defined others scope home (first_entry home name ps fs))
  unfolding AreAlike
  first-alike [] es fs all = refl
  first-alike (p ∷ ps) [] [] all = refl
  first-alike (p ∷ ps) [] (f ∷ fs) all = absurd all
  first-alike (p ∷ ps) (e ∷ es) [] all = absurd all
  first-alike (p ∷ ps) (e ∷ es) (f ∷ fs) all = by (defines home name p) (first-alike ps es fs all.1)
    where
      by : (b : Bool) → its_type (if_defined names scope home (first_entry home name ps es)) ≡ its_type (if_defined others scope home (first_entry home name ps fs))
          → its_type (if_defined names scope home (cond b (Some e) (first_entry home name ps es))) ≡ its_type (if_defined others scope home (cond b (Some f) (first_entry home name ps fs)))
      by true rest = visible e f all.0
      by false rest = rest

module _ (p : Package) (own other : OwnTypes) (es fs : List Entry) (names others : Names) (mine : AreEntries p own es names) (theirs : AreEntries p other fs others) (all : AreAlike es fs) where
  pub same-types : (q : Placed) (name : QualifiedName) → type_named names (scope_at q) name ≡ type_named others (scope_at q) name
  same-types q name =
      from (home_of names (scope_at q) name.prefix) ∙ ap (λ o. its_type (if_imported others (scope_at q) name.word.name o)) (same-home p own es names mine q name.prefix ∙ sym (same-home p other fs others theirs q name.prefix))
    where
      from : (o : Option ℕ) → its_type (if_imported names (scope_at q) name.word.name o) ≡ its_type (if_imported others (scope_at q) name.word.name o)
      from None = refl
      from (Some home) =
          ap (λ o. its_type (if_defined names (scope_at q) home o)) (mine.named home name.word.name) ∙ first-alike names others (scope_at q) home name.word.name (definitions_of p) es fs all
          ∙ sym (ap (λ o. its_type (if_defined others (scope_at q) home o)) (theirs.named home name.word.name))
