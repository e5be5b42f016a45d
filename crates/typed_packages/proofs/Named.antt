-- Names that lead to definitions lead to variables of their types and to units of their signatures.
use Rattle.std.proofs.Common.{All, Bool, List, None, Ok, Option, Some, [], ap, false, map, refl, subst, suc, sym, true, zero, ℕ, ◌==◌, ◌∙◌, ◌∷◌, ◌≡◌}
use Rattle.std.proofs.lemmas.List.Elements.{All-head, All-tail}
use Rattle.std.specs.List.{AllZip}
use Rattle.std.specs.Prelude.{IsSomeAnd, slice_get, ◌||◌}
use Rattle.bal_base.specs.declared.text.Name.{Name}
use Rattle.bal_tree.specs.declared.name.QualifiedName.{QualifiedName}
use Rattle.bal_tree.specs.declared.package.Package.{Package}
use Rattle.descriptors.specs.Described.{IsCopy}
use Rattle.descriptors.specs.Naming.{entry_in, home_of, if_defined, if_imported, if_public, meaning_named}
use Rattle.descriptors.specs.declared.names.Entry.{Entry}
use Rattle.descriptors.specs.declared.names.Meaning.TheVariants as meaning
use Rattle.descriptors.specs.declared.names.Meaning.{Meaning}
use Rattle.descriptors.specs.declared.names.Names.{Names}
use Rattle.descriptors.specs.declared.names.Scope.{Scope}
use Rattle.descriptors.specs.declared.names.Signature.{Signature}
use Rattle.name_resolution.specs.Definitions.{definitions_of}
use Rattle.operations.specs.Rows.{Signature as UnitSignature, Surroundings}
use Rattle.tree_promises.specs.Placed.{Placed, function_placed, signature_of}
use Rattle.type_model.proofs.SameTypes.{In-same}
use Rattle.type_model.specs.Inclusion.{Sub}
use Rattle.type_model.specs.declared.atoms.AtomDef.{AtomDef}
use Rattle.type_model.specs.declared.basic.SemType.{SemType}
use Rattle.type_model.specs.declared.basic.Ty.{Ty}
use Rattle.typed_definitions.specs.Functions.{IsUnitBy}
use Rattle.typed_needs.specs.Between.{IsUnitAt}
use Rattle.typed_needs.specs.Placing.{AreNamed, IsUnitOf}
use Rattle.typed_packages.proofs.Tracking.{IsFunctionDone, IsVariableDone}
use Rattle.typed_packages.specs.Naming.{NamesLead, RestsAreLists, functions_among, variables_among}
use Rattle.typed_packages.specs.Packages.{place_in}
use Rattle.typed_stmts.specs.Assigned.{TakeValues}
use Rattle.typed_tree.specs.Listed.{members}
use Rattle.typed_tree.specs.SharedTypes.{sem_of}
use Rattle.typed_tree.specs.declared.package.ModuleVariable.{ModuleVariable}
use Rattle.typed_tree.specs.declared.package.TypedPackage.{TypedPackage}
use Rattle.typed_units.specs.Functions.{unit_of_function}

-- ---- what a name stands for is what some module defines under it

record Found (names : Names) (m : Meaning) : Type 0 where
  pub home : ℕ
  pub name : Name
  pub entry : Entry
  pub there : entry_in names name home ≡ Some entry
  pub means : entry.meaning ≡ m

module _ (names : Names) (scope : Scope) (m : Meaning) where
  public-found : (visible : Bool) (home : ℕ) (name : Name) (e : Entry) → entry_in names name home ≡ Some e → if_public names scope visible e ≡ Ok m → Found names m
  public-found true home name e there is = record { home = home; name = name; entry = e; there = there; means = (let same : e.meaning ≡ m = cc in same) }
  public-found false home name e there is = absurd (let bad : ⊥ = cc in bad)

  defined-found : (home : ℕ) (name : Name) (o : Option Entry) → entry_in names name home ≡ o → if_defined names scope home o ≡ Ok m → Found names m
  defined-found home name None there is = absurd (let bad : ⊥ = cc in bad)
  defined-found home name (Some e) there is = public-found (home == scope.«module» || e.public) home name e there is

  imported-found : (name : Name) (o : Option ℕ) → if_imported names scope name o ≡ Ok m → Found names m
  imported-found name None is = absurd (let bad : ⊥ = cc in bad)
  imported-found name (Some home) is = defined-found home name (entry_in names name home) refl is

  name-found : (q : QualifiedName) → meaning_named names scope q ≡ Ok m → Found names m
  name-found q is = imported-found q.word.name (home_of names scope q.prefix) is

-- ---- lists beside one another

record At {A B : Type 0} (P : A → B → Type 0) (x : A) (ys : List B) (k : ℕ) : Type 0 where
  pub other : B
  pub there : slice_get ys k ≡ Some other
  pub holds : P x other

zip-at : {A B : Type 0} (P : A → B → Type 0) (xs : List A) (ys : List B) (k : ℕ) (x : A) → AllZip P xs ys → slice_get xs k ≡ Some x → At P x ys k
zip-at P [] ys k x h e = absurd (let bad : ⊥ = cc in bad)
zip-at P (a ∷ xs) [] k x h e = absurd h
zip-at P (a ∷ xs) (b ∷ ys) zero x h e =
    let same : a ≡ x = cc in
    record { other = b; there = refl; holds = subst (λ y. P y b) same h.0 }
zip-at P (a ∷ xs) (b ∷ ys) (suc k) x h e = let r = zip-at P xs ys k x h.1 e in record { other = r.other; there = r.there; holds = r.holds }

get-mapped : {A B : Type 0} (f : A → B) (xs : List A) (k : ℕ) (x : A) → slice_get xs k ≡ Some x → slice_get (map f xs) k ≡ Some (f x)
get-mapped f [] k x e = absurd (let bad : ⊥ = cc in bad)
get-mapped f (a ∷ xs) zero x e = (let same : a ≡ x = cc in ap (λ y. Some (f y)) same)
get-mapped f (a ∷ xs) (suc k) x e = get-mapped f xs k x e

all-at : {A : Type 0} (Q : A → Type 0) (xs : List A) (k : ℕ) (x : A) → All Q xs → slice_get xs k ≡ Some x → Q x
all-at Q [] k x h e = absurd (let bad : ⊥ = cc in bad)
all-at Q (a ∷ xs) zero x h e = (let same : a ≡ x = cc in subst Q same (All-head Q a xs h))
all-at Q (a ∷ xs) (suc k) x h e = all-at Q xs k x (All-tail Q a xs h) e

-- ---- what is done of the package is what names stand for

module _ (env : List AtomDef) (names : Names) (p : Package) (t : TypedPackage) (leads : NamesLead names p) (rests : RestsAreLists env names)
    (variables : AllZip (IsVariableDone names) (variables_among (definitions_of p)) t.variables.items)
    (functions : AllZip (IsFunctionDone env names) (functions_among (definitions_of p)) t.functions.items)
    (units : All (λ f. All (IsUnitAt (place_in t)) (members (function_placed f))) t.functions.items) where
  abbrev place : Surroundings
  place = place_in t

  -- the variable of a name is at its number, and has its type
  record VariableIsThere (number : ℕ) (s : Ty) : Type 0 where
    pub variable : ModuleVariable
    pub there : slice_get place.variables number ≡ Some (sem_of variable.ty)
    pub copied : IsCopy s variable.ty.value

  variable-there : (scope : Scope) (q : QualifiedName) (number : ℕ) (final : Bool) (s : Ty) → meaning_named names scope q ≡ Ok (meaning.Variable number final s) → VariableIsThere number s
  variable-there scope q number final s is =
      let f = name-found names scope (meaning.Variable number final s) q is in
      let (x, at, entry) = leads.variables f.home f.name f.entry number final s f.there f.means in
      let r = zip-at (IsVariableDone names) (variables_among (definitions_of p)) t.variables.items number x variables at in
      let d = r.holds in
      let there = d.there in
      let same : d.entry ≡ f.entry = cc in
      let first = d.means in
      let second = f.means in
      let type : d.type ≡ s = cc in
      record { variable = r.other; there = get-mapped (λ (v : ModuleVariable). sem_of v.ty) t.variables.items number r.other r.there; copied = subst (λ (u : Ty). IsCopy u r.other.ty.value) type d.copied }

  -- what is there of a type
  some-there : (o : Option SemType) (P : SemType → Type 0) (s : SemType) → o ≡ Some s → P s → IsSomeAnd o P
  some-there None P s e h = absurd (let bad : ⊥ = cc in bad)
  some-there (Some u) P s e h = (let same : u ≡ s = cc in subst P (sym same) h)

  unit-there : (o : Option UnitSignature) (P : UnitSignature → Type 0) (s : UnitSignature) → o ≡ Some s → P s → IsSomeAnd o P
  unit-there None P s e h = absurd (let bad : ⊥ = cc in bad)
  unit-there (Some u) P s e h = (let same : u ≡ s = cc in subst P (sym same) h)

  function-there : (scope : Scope) (q : QualifiedName) (f : Signature) → meaning_named names scope q ≡ Ok (meaning.Function f) → IsSomeAnd (slice_get place.units f.unit) (IsUnitOf env f)
  function-there scope q f is =
      let n = name-found names scope (meaning.Function f) q is in
      let (k, x, at, entry) = leads.functions n.home n.name n.entry f n.there n.means in
      let r = zip-at (IsFunctionDone env names) (functions_among (definitions_of p)) t.functions.items k x functions at in
      let d = r.holds in
      let there = d.there in
      let same : d.entry ≡ n.entry = cc in
      let first = d.means in
      let second = n.means in
      let signature : d.signature ≡ f = cc in
      let fits : IsUnitBy env f (signature_of (Some (unit_of_function r.other))) = subst (λ (g : Signature). IsUnitBy env g (signature_of (Some (unit_of_function r.other)))) signature d.fits in
      let u : Placed = unit_of_function r.other in
      let number : r.other.unit.number ≡ f.unit = d.number ∙ ap (λ (g : Signature). g.unit) signature in
      let here : IsUnitAt place u = All-head (IsUnitAt place) u _ (all-at (λ g. All (IsUnitAt place) (members (function_placed g))) t.functions.items k r.other units r.there) in
      let found : slice_get place.units f.unit ≡ Some (signature_of (Some u)) = subst (λ i. slice_get place.units i ≡ Some (signature_of (Some u))) number here in
      unit-there (slice_get place.units f.unit) (IsUnitOf env f) (signature_of (Some u)) found
      (record { params = fits.params; captured = fits.captured; result = fits.result; arrow = fits.arrow; future = fits.future; lists = rests n.home n.name n.entry f n.there n.means })

  pub are-named : AreNamed env names place
  are-named =
      record {
        variables = λ scope q number final s is.
            let v = variable-there scope q number final s is in
            some-there (slice_get place.variables number) (λ u. Sub env u s.sem) (sem_of v.variable.ty) v.there
            (λ x valid i. (In-same env x s.sem (sem_of v.variable.ty) v.copied.sem).1 i);
        functions = λ scope q f is. function-there scope q f is;
      }

  pub take-values : TakeValues env names place
  take-values scope q number final s is =
      let v = variable-there scope q number final s is in
      some-there (slice_get place.variables number) (λ u. Sub env s.sem u) (sem_of v.variable.ty) v.there
      (λ x valid i. (In-same env x s.sem (sem_of v.variable.ty) v.copied.sem).0 i)
