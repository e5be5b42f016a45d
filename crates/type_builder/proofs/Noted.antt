-- Names in which one more is noted.
use Rattle.std.proofs.Common.{◌≡◌, ◌==◌, ◌&&◌, ◌<◌, ◌+◌, ◌++◌, ℕ, zero, suc, Bool, true, false, List, [], ◌∷◌, length, set, map, take, get_or, Option, None, Some, cond, refl, sym, ap, subst, ◌∙◌, arith}
use Rattle.std.specs.Prelude.{slice_get}
use Rattle.std.specs.List.{AllZip}
use Rattle.std.specs.HashMap.{get_by}
use Rattle.std.specs.Option.{is_some, option_and_then}
use Rattle.std.specs.Cmp.Lexicographic.{bytes_decides}
use Rattle.std.proofs.lemmas.Bool.{false≢true}
use Rattle.std.proofs.lemmas.Bool.Decides.{Decides-eqb, same_from_decides}
use Rattle.std.proofs.lemmas.Option.{get_or_from_slice_get, slice_get_within}
use Rattle.std.proofs.lemmas.List.{length-map, length-take}
use Rattle.bal_base.specs.declared.text.Name.{Name}
use Rattle.bal_tree.specs.declared.package.Module.{Module}
use Rattle.bal_tree.specs.declared.package.Package.{Package}
use Rattle.descriptors.specs.declared.names.Entry.{Entry}
use Rattle.descriptors.specs.declared.names.Meaning.{Meaning}
use Rattle.descriptors.specs.declared.names.ModuleNames.{ModuleNames}
use Rattle.descriptors.specs.declared.names.Names.{Names}
use Rattle.descriptors.specs.declared.names.OwnTypes.{OwnTypes}
use Rattle.name_resolution.specs.Excerpts.{HasSameImports, IsSameFile, IsSameModule}
use Rattle.package_imports.specs.InPackage.{linked}
use Rattle.name_resolution.specs.Outlines.{import_source}
use Rattle.name_resolution.specs.Definitions.{Placed, defines, definitions_of, name_of}
use Rattle.type_builder.specs.Building.{IsFile, IsModule}
use Rattle.type_builder.specs.Passes.{AreApart, AreEmpty, AreEntries, IsNoted, entry_for, first_of}
use Rattle.type_builder.proofs.Entries.{none-first, one-noted, one-pushed}
use Rattle.type_builder.proofs.Listed.{module-there}
use Rattle.type_builder.proofs.PlaceLoops.{map-more, take-more}
use Rattle.type_model.specs.Places.{is_same_text}

same_text-turned : (s t : List ℕ) → is_same_text s t ≡ is_same_text t s
same_text-turned s t = same_from_decides (is_same_text s t) (is_same_text t s) (bytes_decides s t) ((λ h. sym ((bytes_decides t s).0 h)), (λ p. (bytes_decides t s).1 (sym p)))

-- ---- one module's names

set-same : {X : Type 0} (xs : List X) (i : ℕ) (y : X) → i < length xs → slice_get (set xs i y) i ≡ Some y
set-same [] i y lt = absurd (omega (arith, lt))
set-same (x ∷ xs) zero y lt = refl
set-same (x ∷ xs) (suc i) y lt = set-same xs i y (omega (arith, lt))

pub set-other : {X : Type 0} (xs : List X) (i k : ℕ) (y : X) → (k ≡ i → ⊥) → slice_get (set xs i y) k ≡ slice_get xs k
set-other [] i k y ne = refl
set-other (x ∷ xs) zero zero y ne = absurd (ne refl)
set-other (x ∷ xs) zero (suc k) y ne = refl
set-other (x ∷ xs) (suc i) zero y ne = refl
set-other (x ∷ xs) (suc i) (suc k) y ne = set-other xs i k y (λ e. ne (ap suc e))

-- one member of the second list is another one
zip-set : {X Y : Type 0} (R : X → Y → Type 0) (xs : List X) (ys : List Y) (i : ℕ) (old new : Y) → slice_get ys i ≡ Some old → ((x : X) → R x old → R x new) → AllZip R xs ys → AllZip R xs (set ys i new)
zip-set R [] [] i old new at f h = absurd (false≢true (ap is_some at))
zip-set R [] (y ∷ ys) i old new at f h = absurd h
zip-set R (x ∷ xs) [] i old new at f h = absurd h
zip-set R (x ∷ xs) (y ∷ ys) zero old new at f h = let same : y ≡ old = cc in (f x (subst (R x) same h.0), h.1)
zip-set R (x ∷ xs) (y ∷ ys) (suc i) old new at f h = (h.0, zip-set R xs ys i old new at f h.1)

-- both lists have one member more
pub zip-more : {X Y : Type 0} (R : X → Y → Type 0) (xs : List X) (ys : List Y) (i : ℕ) (x : X) (y : Y) → i < length xs → x ≡ get_or xs i x → AllZip R (take i xs) ys → R x y
    → AllZip R (take (i + 1) xs) (ys ++ y ∷ [])
zip-more {X} {Y} R xs ys i x y lt is h r = subst (λ zs. AllZip R zs (ys ++ y ∷ [])) (sym (take-more xs i x lt is)) (push (take i xs) ys h)
  where
    push : (us : List X) (vs : List Y) → AllZip R us vs → AllZip R (us ++ x ∷ []) (vs ++ y ∷ [])
    push [] [] k = (r, tt)
    push [] (v ∷ vs) k = absurd k
    push (u ∷ us) [] k = absurd k
    push (u ∷ us) (v ∷ vs) k = (k.0, push us vs k.1)

-- two lists are of one length
zip-through : {A B C : Type 0} (R : A → B → Type 0) (P : A → C → Type 0) (Q : B → C → Type 0) → ((a : A) (b : B) (c : C) → R a b → P a c → Q b c)
    → (xs : List A) (ys : List B) (zs : List C) → AllZip R xs ys → AllZip P xs zs → AllZip Q ys zs
zip-through R P Q f [] [] [] r p = tt
zip-through R P Q f [] [] (z ∷ zs) r p = absurd p
zip-through R P Q f [] (y ∷ ys) zs r p = absurd r
zip-through R P Q f (x ∷ xs) [] zs r p = absurd r
zip-through R P Q f (x ∷ xs) (y ∷ ys) [] r p = absurd p
zip-through R P Q f (x ∷ xs) (y ∷ ys) (z ∷ zs) r p = (f x y z r.0 p.0, zip-through R P Q f xs ys zs r.1 p.1)

-- the prefixes are also those of modules with the same imports
pub same-prefixes : (p q : Package) (xs : List ModuleNames) → HasSameImports p q → AllZip (IsModule (linked p)) p.modules xs → AllZip (IsModule (linked q)) q.modules xs
same-prefixes p q xs same known =
    zip-through IsSameModule (IsModule (linked p)) (IsModule (linked q))
    (λ m n x. zip-through IsSameFile (IsFile (linked p)) (IsFile (linked q))
    (λ f g y e h prefix. h prefix ∙ ap (λ is. import_source (linked p) is prefix) e ∙ ap (λ home. import_source home g.tree.imports.items prefix) (sym same.home)) m.files n.files x.files.items)
    p.modules q.modules xs same.modules known

pub side-by-side : {X Y : Type 0} (R : X → Y → Type 0) (xs : List X) (ys : List Y) → AllZip R xs ys → length ys ≡ length xs
side-by-side R [] [] h = refl
side-by-side R [] (y ∷ ys) h = absurd h
side-by-side R (x ∷ xs) [] h = absurd h
side-by-side R (x ∷ xs) (y ∷ ys) h = ap suc (side-by-side R xs ys h.1)

module _ (p : Placed) (m : Meaning) (old new : Names) (k : ℕ) (before now : ModuleNames) (key : Name) where
  abbrev e : Entry
  e = entry_for p m

  abbrev said : Name → Option ModuleNames → Option Entry
  said name = option_and_then (λ found. get_by (is_same_text name) found.entries)

  -- the entries of the module with this number are updated at this name
  pub one-written : new.own ≡ old.own → new.modules.items ≡ set old.modules.items k now → slice_get old.modules.items k ≡ Some before → k < length old.modules.items → now.files ≡ before.files
      → k ≡ p.«module» → key ≡ name_of p.def
      → ((name : Name) → get_by (is_same_text name) now.entries ≡ cond (is_same_text key name) (Some e) (get_by (is_same_text name) before.entries))
      → IsNoted p m old new
  one-written own modules at within files home is updates = record {
    own = own;
    files = λ there ms h. subst (AllZip (IsModule there) ms) (sym modules)
        (zip-set (IsModule there) ms old.modules.items k before now at (λ x is. subst (λ fs. AllZip (IsFile there) x.files fs.items) (sym files) is) h);
    entries = λ there name. ap (λ ns. said name (slice_get ns there)) modules ∙ entries-in there name (there == k) refl
        ∙ ap (λ n. cond ((there == n) && is_same_text name (name_of p.def)) (Some e) (said name (slice_get old.modules.items there))) home;
  }
    where
      named : (name : Name) → is_same_text key name ≡ is_same_text name (name_of p.def)
      named name = ap (λ n. is_same_text n name) is ∙ same_text-turned (name_of p.def) name

      entries-in : (there : ℕ) (name : Name) (b : Bool) → (there == k) ≡ b
          → said name (slice_get (set old.modules.items k now) there) ≡ cond ((there == k) && is_same_text name (name_of p.def)) (Some e) (said name (slice_get old.modules.items there))
      entries-in there name true same =
          let here : there ≡ k = (Decides-eqb there k).0 same in
          ap (λ n. said name (slice_get (set old.modules.items k now) n)) here ∙ ap (said name) (set-same old.modules.items k now within)
          ∙ updates name ∙ ap (λ b. cond b (Some e) (get_by (is_same_text name) before.entries)) (named name)
          ∙ sym (ap (λ b. cond (b && is_same_text name (name_of p.def)) (Some e) (said name (slice_get old.modules.items there))) same
          ∙ ap (λ o. cond (is_same_text name (name_of p.def)) (Some e) (said name o)) (ap (slice_get old.modules.items) here ∙ at))
      entries-in there name false other =
          ap (said name) (set-other old.modules.items k there now (λ same. false≢true (sym other ∙ (Decides-eqb there k).1 same)))
          ∙ sym (ap (λ b. cond (b && is_same_text name (name_of p.def)) (Some e) (said name (slice_get old.modules.items there))) other)

-- ---- entries

module _ (p : Package) (own : OwnTypes) where
  -- where no name stands for anything
  pub none-known : (names : Names) → names.own ≡ own → AllZip (IsModule (linked p)) p.modules names.modules.items → AreEmpty names.modules.items → AreEntries p own [] names
  none-known names is files empty = record {
    own_are = is;
    files = files;
    named = λ m name. nothing m name (slice_get names.modules.items m) refl ∙ sym (none-first m name (definitions_of p));
  }
    where
      nothing : (m : ℕ) (name : Name) (o : Option ModuleNames) → slice_get names.modules.items m ≡ o → option_and_then (λ found. get_by (is_same_text name) found.entries) (slice_get names.modules.items m) ≡ None
      nothing m name None at = ap (option_and_then (λ found. get_by (is_same_text name) found.entries)) at
      nothing m name (Some found) at =
          ap (option_and_then (λ found. get_by (is_same_text name) found.entries)) at
          ∙ ap (λ f. get_by (is_same_text name) f.entries) (sym (get_or_from_slice_get names.modules.items m found found at))
          ∙ empty m found (slice_get_within names.modules.items m found at) name

  -- the module of a definition is there
  pub home-there : (es : List Entry) (names : Names) (n : ℕ) (q : Placed) → AreEntries p own es names → slice_get (definitions_of p) n ≡ Some q → q.«module» < length names.modules.items
  home-there es names n q known at = let long : length names.modules.items ≡ length p.modules = side-by-side (IsModule (linked p)) p.modules names.modules.items known.files in
      let there : q.«module» < length p.modules = module-there p n q at in omega (arith, long, there)

  -- the entry of one definition more
  pub entry-pushed : (es : List Entry) (q : Placed) (m : Meaning) (old new : Names) → AreApart (definitions_of p) → slice_get (definitions_of p) (length es) ≡ Some q
      → AreEntries p own es old → IsNoted q m old new → AreEntries p own (es ++ entry_for q m ∷ []) new
  entry-pushed es q m old new apart at known noted = record {
    own_are = noted.own ∙ known.own_are;
    files = noted.files (linked p) p.modules known.files;
    named = λ home name. noted.entries home name ∙ ap (cond (defines home name q) (Some (entry_for q m))) (known.named home name) ∙ sym (one-pushed home name (entry_for q m) (definitions_of p) es q apart at);
  }

  -- as far as a loop over definitions has come
  pub firsts-more : (i : ℕ) (q : Placed) (old new : Names) → AreApart (definitions_of p) → slice_get (definitions_of p) i ≡ Some q
      → AreEntries p own (map first_of (take i (definitions_of p))) old → IsNoted q (first_of q).meaning old new → AreEntries p own (map first_of (take (i + 1) (definitions_of p))) new
  firsts-more i q old new apart at known noted =
      let lt : i < length (definitions_of p) = slice_get_within (definitions_of p) i q at in
      let is : q ≡ get_or (definitions_of p) i q = sym (get_or_from_slice_get (definitions_of p) i q q at) in
      let long : length (map first_of (take i (definitions_of p))) ≡ i = length-map (take i (definitions_of p)) first_of ∙ grind (arith, length-take, lt) in
      subst (λ es. AreEntries p own es new) (sym (map-more first_of (definitions_of p) i q lt is))
      (entry-pushed (map first_of (take i (definitions_of p))) q (first_of q).meaning old new apart (ap (slice_get (definitions_of p)) long ∙ at) known noted)

-- the entry of a definition is another one
pub entry-set : (p : Package) (own : OwnTypes) (es : List Entry) (old new : Names) (n : ℕ) (q : Placed) (m : Meaning) → AreApart (definitions_of p) → length es ≡ length (definitions_of p)
    → slice_get (definitions_of p) n ≡ Some q → AreEntries p own es old → IsNoted q m old new → AreEntries p own (set es n (entry_for q m)) new
entry-set p own es old new n q m apart long at known noted = record {
  own_are = noted.own ∙ known.own_are;
  files = noted.files (linked p) p.modules known.files;
  named = λ home name. noted.entries home name ∙ ap (cond (defines home name q) (Some (entry_for q m))) (known.named home name)
      ∙ sym (one-noted home name (entry_for q m) (definitions_of p) es n q apart long at);
}
