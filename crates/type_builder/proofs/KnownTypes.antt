-- A name that stands for a definition stands for the type of that definition's entry.
use Rattle.std.proofs.Common.{◌≡◌, ◌==◌, ◌||◌, ℕ, zero, suc, ◌+◌, Bool, true, false, List, [], ◌∷◌, length, cond, Option, None, Some, Ok, Err, ◌⊎◌, inl, inr, ◌<◌, refl, sym, ap, subst, ◌∙◌, arith}
use Rattle.std.specs.Prelude.{slice_get}
use Rattle.std.specs.List.{position_from}
use Rattle.std.specs.Option.{option_and_then}
use Rattle.std.proofs.lemmas.Option.{none-some, same_Some}
use Rattle.bal_base.specs.declared.text.Name.{Name}
use Rattle.bal_tree.specs.declared.name.Prefix.{Prefix}
use Rattle.bal_tree.specs.declared.name.Prefix.TheVariants.{Word as WordPrefix, Int as IntPrefix}
use Rattle.bal_tree.specs.declared.name.QualifiedName.{QualifiedName}
use Rattle.bal_tree.specs.declared.package.Module.{Module}
use Rattle.bal_tree.specs.declared.package.Package.{Package}
use Rattle.type_model.specs.declared.basic.Ty.{Ty}
use Rattle.descriptors.specs.declared.names.Entry.{Entry}
use Rattle.descriptors.specs.declared.names.ModuleNames.{ModuleNames}
use Rattle.descriptors.specs.declared.names.Names.{Names}
use Rattle.descriptors.specs.declared.names.OwnTypes.{OwnTypes}
use Rattle.descriptors.specs.Naming.{as_type, entry_in, file_source, home_of, if_defined, if_imported, module_of, source_in, type_named, its_type}
use Rattle.name_resolution.specs.Definitions.{Placed, defines, definitions_of, is_public, name_of, scope_at}
use Rattle.name_resolution.specs.Mentions.{home_of as home_sought}
use Rattle.name_resolution.specs.Named.{Stands, gives_type, source_at}
use Rattle.package_imports.specs.InPackage.{linked}
use Rattle.name_resolution.specs.Outlines.{import_source}
use Rattle.name_resolution.proofs.Standing.{stands-for}
use Rattle.type_builder.specs.Building.{IsFile, IsModule, first_entry}
use Rattle.name_resolution.proofs.Excerpting.{same-there}
use Rattle.type_builder.specs.Passes.{AreEntries}
use Rattle.type_builder.proofs.Entries.{both-true, same-number}
use Rattle.type_model.specs.Places.{is_same_text}
use Rattle.std.proofs.lemmas.Bool.Decides.{eqb_tells}
use Rattle.bal_base.specs.declared.fault.FaultCode.TheVariants.{NotPublic}

-- ---- lists side by side

pub as-long : {A B : Type 0} (xs : List A) (ys : List B) (i : ℕ) (x : A) → length ys ≡ length xs → slice_get xs i ≡ Some x → (y : B) × (slice_get ys i ≡ Some y)
as-long [] ys i x long at = absurd (none-some x at)
as-long (z ∷ xs) [] i x long at = absurd (omega (arith, long))
as-long (z ∷ xs) (y ∷ ys) zero x long at = (y, refl)
as-long (z ∷ xs) (y ∷ ys) (suc i) x long at = as-long xs ys i x (omega (arith, long)) at

-- ---- the first definition of a name

-- what is found stands at the first place or behind it
not-before : {X : Type 0} (test : X → Bool) (first : ℕ) (xs : List X) (n : ℕ) → n < first → position_from test first xs ≡ Some n → ⊥
not-before test first [] n lt at = none-some n at
not-before test first (x ∷ xs) n lt at = here (test x) at (not-before test (first + 1) xs n (omega (arith, lt)))
  where
    here : (b : Bool) → cond b (Some first) (position_from test (first + 1) xs) ≡ Some n → (position_from test (first + 1) xs ≡ Some n → ⊥) → ⊥
    here true at rest = let same : first ≡ n = same_Some first n at in omega (arith, same, lt)
    here false at rest = rest at

-- what is found at a place
module _ {X : Type 0} (test : X → Bool) (x : X) (first : ℕ) (xs : List X) (n : ℕ) where
  found-first : (b : Bool) → cond b (Some first) (position_from test (first + 1) xs) ≡ Some (zero + first) → b ≡ true
  found-first true at = refl
  found-first false at = let same : zero + first ≡ first = omega arith in absurd (not-before test (first + 1) xs first (omega arith) (at ∙ ap Some same))

  found-later : (b : Bool) → cond b (Some first) (position_from test (first + 1) xs) ≡ Some (suc n + first) → (b ≡ false) × (position_from test (first + 1) xs ≡ Some (n + (first + 1)))
  found-later true at = absurd (let same : first ≡ suc n + first = same_Some first (suc n + first) at in omega (arith, same))
  found-later false at = (refl, at ∙ ap Some (omega arith))

passes : {X : Type 0} (test : X → Bool) (first n : ℕ) (xs : List X) (x : X) → position_from test first xs ≡ Some (n + first) → slice_get xs n ≡ Some x → test x ≡ true
passes test first n [] x found at = absurd (none-some (n + first) found)
passes test first zero (y ∷ ys) x found at = subst (λ z. test z ≡ true) (same_Some y x at) (found-first test y first ys zero (test y) found)
passes test first (suc n) (y ∷ ys) x found at = passes test (first + 1) n ys x (found-later test y first ys n (test y) found).1 at

pub first-entry : (m : ℕ) (name : Name) (first n : ℕ) (ps : List Placed) (es : List Entry) → length es ≡ length ps → position_from (defines m name) first ps ≡ Some (n + first)
    → first_entry m name ps es ≡ slice_get es n
first-entry m name first n [] es long found = absurd (none-some (n + first) found)
first-entry m name first n (p ∷ ps) [] long found = absurd (omega (arith, long))
first-entry m name first zero (p ∷ ps) (e ∷ es) long found =
    ap (λ b. cond b (Some e) (first_entry m name ps es)) (found-first (defines m name) p first ps zero (defines m name p) found)
first-entry m name first (suc n) (p ∷ ps) (e ∷ es) long found =
    let later = found-later (defines m name) p first ps n (defines m name p) found in
    ap (λ b. cond b (Some e) (first_entry m name ps es)) later.0 ∙ first-entry m name (first + 1) n ps es (omega (arith, long)) later.1

-- ---- what a name stands for

-- what is noted of a definition
pub record IsEntryOf (q : Placed) (e : Entry) : Type 0 where
  pub public : e.public ≡ is_public q.def
  pub typed : gives_type q.def ≡ true → (t : Ty) × (as_type e.meaning ≡ Ok t)

-- each entry is that of its definition
abbrev pub AreEntriesOf : List Placed → List Entry → Type 0
AreEntriesOf ps es = (k : ℕ) (q : Placed) (e : Entry) → slice_get ps k ≡ Some q → slice_get es k ≡ Some e → IsEntryOf q e

module _ (p : Package) (own : OwnTypes) (es : List Entry) (names : Names) (entries : AreEntries p own es names) (q : Placed) where
  of-file : (prefix : Name) (m : Module) (n : ModuleNames) → IsModule (linked p) m n → source_in prefix (Some q.file) n ≡ option_and_then (λ f. import_source (linked p) f.tree.imports.items prefix) (slice_get m.files q.file)
  of-file prefix m n same = same-there (IsFile (linked p)) (λ f. import_source (linked p) f.tree.imports.items prefix) (file_source prefix) (λ f g is. is prefix) m.files n.files.items q.file same

  -- a prefix stands for the same
  same-source : (prefix : Name) → option_and_then (source_in prefix (Some q.file)) (slice_get names.modules.items q.«module») ≡ source_at p q prefix
  same-source prefix =
      same-there (IsModule (linked p)) (λ m. option_and_then (λ f. import_source (linked p) f.tree.imports.items prefix) (slice_get m.files q.file)) (source_in prefix (Some q.file)) (of-file prefix) p.modules names.modules.items
      q.«module» entries.files

  pub same-home : (prefix : Option Prefix) → home_of names (scope_at q) prefix ≡ home_sought q.«module» (source_at p q) prefix
  same-home None = refl
  same-home (Some (IntPrefix at)) = refl
  same-home (Some (WordPrefix w)) = ap (option_and_then module_of) (same-source w.name)

  seen-from : (home : ℕ) (d : Placed) (name : Name) → defines home name d ≡ true → (q.«module» == d.«module» || is_public d.def) ≡ true → (home == q.«module» || is_public d.def) ≡ true
  seen-from home d name defined seen =
      let same : home ≡ d.«module» = same-number home d.«module» (both-true (home == d.«module») (is_same_text name (name_of d.def)) defined).0 in
      ap (λ b. b || is_public d.def) (ap (λ m. m == q.«module») same ∙ turned d.«module» q.«module») ∙ seen
    where
      turned : (a b : ℕ) → (a == b) ≡ (b == a)
      turned a b = by (eqb_tells a b) (eqb_tells b a)
        where
          by : ((a == b ≡ true) × (a ≡ b)) ⊎ ((a == b ≡ false) × (a ≡ b → ⊥)) → ((b == a ≡ true) × (b ≡ a)) ⊎ ((b == a ≡ false) × (b ≡ a → ⊥)) → (a == b) ≡ (b == a)
          by (inl x) (inl y) = x.0 ∙ sym y.0
          by (inl x) (inr y) = absurd (y.1 (sym x.1))
          by (inr x) (inl y) = absurd (x.1 (sym y.1))
          by (inr x) (inr y) = x.0 ∙ sym y.0

  module _ (long : length es ≡ length (definitions_of p)) where
    -- a name stands for the type of the entry of the definition for which it stands
    pub stands-at : (name : QualifiedName) (k : ℕ) (e : Entry) → ((d : Placed) → slice_get (definitions_of p) k ≡ Some d → IsEntryOf d e) → slice_get es k ≡ Some e → Stands p q name k
        → (t : Ty) × (type_named names (scope_at q) name ≡ as_type e.meaning) × (as_type e.meaning ≡ Ok t)
    stands-at name k e of there h =
        let is = stands-for p q.«module» name.word.name k (home_sought q.«module» (source_at p q) name.prefix) h in
        let entry = of is.definition is.is in
        let typed = entry.typed is.of in
        let first : position_from (defines is.home name.word.name) 0 (definitions_of p) ≡ Some (k + 0) = is.first ∙ ap Some (omega arith) in
        let found : entry_in names name.word.name is.home ≡ Some e = entries.named is.home name.word.name ∙ first-entry is.home name.word.name 0 k (definitions_of p) es long first ∙ there in
        let defined : defines is.home name.word.name is.definition ≡ true = passes (defines is.home name.word.name) 0 k (definitions_of p) is.definition first is.is in
        let visible : (is.home == q.«module» || e.public) ≡ true = ap (λ b. is.home == q.«module» || b) entry.public ∙ seen-from is.home is.definition name.word.name defined is.seen in (
          typed.0,
          ap (λ o. its_type (if_imported names (scope_at q) name.word.name o)) (same-home name.prefix ∙ is.home_is) ∙ ap (λ o. its_type (if_defined names (scope_at q) is.home o)) found
              ∙ ap (λ b. its_type (cond b (Ok e.meaning) (Err NotPublic))) visible,
          typed.1,
        )

    -- the same by all entries
    pub stands-there : (name : QualifiedName) (k : ℕ) → AreEntriesOf (definitions_of p) es → Stands p q name k
        → (e : Entry) × (t : Ty) × (slice_get es k ≡ Some e) × (type_named names (scope_at q) name ≡ as_type e.meaning) × (as_type e.meaning ≡ Ok t)
    stands-there name k of h =
        let is = stands-for p q.«module» name.word.name k (home_sought q.«module» (source_at p q) name.prefix) h in
        let there = as-long (definitions_of p) es k is.definition long is.is in
        let at = stands-at name k there.0 (λ d d_is. of k d there.0 d_is there.1) there.1 h in (there.0, at.0, there.1, at.1, at.2)
