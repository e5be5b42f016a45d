-- The package of a folder names its modules as the folder does: by the order in which they stand in it.
use Rattle.std.proofs.Common.{◌≡◌, ◌<◌, ◌+◌, ◌||◌, ℕ, zero, suc, Bool, true, false, List, [], ◌∷◌, get_or, length, map, nat_cmp, nat_eq, refl, sym, ap, ◌∙◌, subst, eq-eqb, arith, Less}
use Rattle.std.specs.Prelude.{Contains, Option, Some, None, if◌then◌else◌, option_map, position, slice_get, unwrap_or}
use Rattle.std.specs.Cmp.Lexicographic.{slice_cmp}
use Rattle.std.specs.List.Sorted.{IsStrictlySortedBy}
use Rattle.std.proofs.lemmas.Bool.{eqb-true}
use Rattle.std.proofs.lemmas.Cmp.{nat_list_cmp_total}
use Rattle.std.proofs.lemmas.List.Quantifiers.{position-Some}
use Rattle.std.proofs.lemmas.Option.{get_or_from_slice_get, slice_get-get_or, slice_get-map, slice_get_within}
use Rattle.bal_tree.specs.declared.package.Module.{Module as ModuleOf}
use Rattle.bal_tree.specs.declared.package.Package.{Package}
use Rattle.bal_tree.specs.declared.package.SourceFile.{SourceFile}
use Rattle.manifests.specs.declared.reading.Manifest.{Manifest}
use Rattle.package_files.specs.Names.{is_empty}
use Rattle.package_imports.specs.Imports.{Home, path_to}
use Rattle.package_imports.specs.InPackage.{IsMadeOf, linked, path_in, paths_from}
use Rattle.package_imports.specs.Order.{IsEachOnce, IsOnce, has}
use Rattle.package_imports.proofs.Moved.{keeps-targets}
use Rattle.package_imports.proofs.Once.{each-once}
use Rattle.package_making.specs.Making.{files_at, module_of, modules_from, rank}
use Rattle.module_loader.specs.Files.{Taken}
use Rattle.module_loader.specs.Packages.{Makes, behind_first, graph_of, home_of, module_name, names_of, placed}
use Rattle.module_loader.specs.Targets.{NamesModules}
use Rattle.module_loader.proofs.Graphing.{graph-inside, graph-long}
use Rattle.module_loader.proofs.Links.{fewer-behind, some-folder}
use Rattle.module_loader.proofs.Lists.{map-long}
use Rattle.module_loader.proofs.Placing.{none-some, some-same}
use Rattle.module_loader.proofs.Putting.{none-passes, position-none, true-false}
use Rattle.module_loader.proofs.Sorted.{above, contains-first, contains-more, not-both}

-- ---- members and their places

at-contains : {X : Type 0} (xs : List X) (k : ℕ) (x : X) → slice_get xs k ≡ Some x → Contains xs x
at-contains [] k x e = absurd (none-some e)
at-contains (y ∷ xs) zero x e = subst (Contains (y ∷ xs)) (some-same e) (contains-first y xs)
at-contains (y ∷ xs) (suc k) x e = contains-more y x xs (at-contains xs k x e)

has-there : (xs : List ℕ) (k n : ℕ) → slice_get xs k ≡ Some n → has xs n ≡ true
has-there [] k n e = absurd (none-some e)
has-there (x ∷ xs) zero n e = ap (λ b. b || has xs n) (eq-eqb x n (some-same e))
has-there (x ∷ xs) (suc k) n e = by (nat_eq x n) (has-there xs k n e)
  where
    by : (b : Bool) → has xs n ≡ true → (b || has xs n) ≡ true
    by true h = refl
    by false h = h

once-place : (xs : List ℕ) (a b n : ℕ) → IsOnce xs → slice_get xs a ≡ Some n → slice_get xs b ≡ Some n → a ≡ b
once-place [] a b n once e f = absurd (none-some e)
once-place (x ∷ xs) zero zero n once e f = refl
once-place (x ∷ xs) zero (suc b) n once e f = absurd (true-false (sym (subst (λ i. has xs i ≡ true) (sym (some-same e)) (has-there xs b n f)) ∙ once.0))
once-place (x ∷ xs) (suc a) zero n once e f = absurd (true-false (sym (subst (λ i. has xs i ≡ true) (sym (some-same f)) (has-there xs a n e)) ∙ once.0))
once-place (x ∷ xs) (suc a) (suc b) n once e f = ap suc (once-place xs a b n once.1 e f)

-- the number stands at its rank
rank-there : (count : ℕ) (order : List ℕ) (n : ℕ) → IsEachOnce count order → n < count → slice_get order (rank order n) ≡ Some n
rank-there count order n each lt = by (position (λ j. nat_eq j n) order) refl
  where
    by : (o : Option ℕ) → position (λ j. nat_eq j n) order ≡ o → slice_get order (unwrap_or o 0) ≡ Some n
    by (Some k) e =
        let at = position-Some (λ j. nat_eq j n) order k 0 e in
        slice_get-get_or order k 0 at.0 ∙ ap Some (eqb-true (get_or order k 0) n at.1)
    by None e = absurd (true-false (sym (each.all n lt) ∙ none-passes (λ j. nat_eq j n) order (position-none (λ j. nat_eq j n) order e)))

rank-at : (count : ℕ) (order : List ℕ) (k n : ℕ) → IsEachOnce count order → slice_get order k ≡ Some n → rank order n ≡ k
rank-at count order k n each e =
    once-place order (rank order n) k n each.once (rank-there count order n each (each.inside n (has-there order k n e))) e

-- ---- folders

path-one : (name f g : List ℕ) → path_to name f ≡ path_to name g → f ≡ g
path-one [] f g e = cc e
path-one (c ∷ name) f g e = path-one name f g (cc e)

-- a folder behind another one has a name
behind-named : (x folder : List ℕ) → slice_cmp nat_cmp x folder ≡ Less → is_empty folder ≡ false
behind-named [] [] less = cc less
behind-named (c ∷ x) [] less = cc less
behind-named x (c ∷ folder) less = refl

sorted-place : (xs : List (List ℕ)) (a b : ℕ) (f : List ℕ) → IsStrictlySortedBy (slice_cmp nat_cmp) xs → slice_get xs a ≡ Some f → slice_get xs b ≡ Some f → a ≡ b
unfolding IsStrictlySortedBy
sorted-place [] a b f rising e g = absurd (none-some e)
sorted-place (x ∷ xs) zero zero f rising e g = refl
sorted-place (x ∷ xs) zero (suc b) f rising e g = absurd (itself x (subst (λ y. slice_cmp nat_cmp x y ≡ Less) (sym (some-same e)) (above (slice_cmp nat_cmp) nat_list_cmp_total x xs f rising.0 (at-contains xs b f g))))
  where
    itself : (x : List ℕ) → slice_cmp nat_cmp x x ≡ Less → ⊥
    itself x less = not-both (slice_cmp nat_cmp) nat_list_cmp_total x x less less
sorted-place (x ∷ xs) (suc a) zero f rising e g = absurd (itself x (subst (λ y. slice_cmp nat_cmp x y ≡ Less) (sym (some-same g)) (above (slice_cmp nat_cmp) nat_list_cmp_total x xs f rising.0 (at-contains xs a f e))))
  where
    itself : (x : List ℕ) → slice_cmp nat_cmp x x ≡ Less → ⊥
    itself x less = not-both (slice_cmp nat_cmp) nat_list_cmp_total x x less less
sorted-place (x ∷ xs) (suc a) (suc b) f rising e g = ap suc (sorted-place xs a b f rising.1 e g)

-- the folder of a module behind the default one, by the path under which it is imported
path-of : (name : List ℕ) (rest : List (List ℕ)) (place : ℕ) (path : List ℕ) → slice_get (map (path_to name) rest) place ≡ Some path
    → (folder : List ℕ) × (slice_get rest place ≡ Some folder) × (path ≡ path_to name folder)
path-of name rest place path e = by (slice_get rest place) refl (sym (slice_get-map (path_to name) rest place) ∙ e)
  where
    by : (o : Option (List ℕ)) → slice_get rest place ≡ o → option_map (path_to name) o ≡ Some path → (folder : List ℕ) × (slice_get rest place ≡ Some folder) × (path ≡ path_to name folder)
    by (Some folder) is e = (folder, is, sym (some-same e))
    by None is e = absurd (none-some e)

-- ---- the modules of a package, by their places

paths-at : (p : Package) (modules : List ModuleOf) (n k : ℕ) (m : ModuleOf) → slice_get modules k ≡ Some m → slice_get (paths_from p n modules) k ≡ Some (path_in p (n + k) m)
paths-at p [] n k m e = absurd (none-some e)
paths-at p (x ∷ modules) n zero m e = let z : n ≡ n + 0 = omega arith in let same : x ≡ m = some-same e in λ i. Some (path_in p (z i) (same i))
paths-at p (x ∷ modules) n (suc k) m e = paths-at p modules (suc n) k m e ∙ (let z : suc n + k ≡ n + suc k = omega arith in ap (λ j. Some (path_in p j m)) z)

paths-long : (p : Package) (modules : List ModuleOf) (n : ℕ) → length (paths_from p n modules) ≡ length modules
paths-long p [] n = refl
paths-long p (x ∷ modules) n = ap suc (paths-long p modules (suc n))

module _ (names next : List (List ℕ)) (order : List ℕ) (files : List (ℕ × SourceFile)) where
  modules-at : (place : ℕ) (numbers : List ℕ) (k n : ℕ) → slice_get numbers k ≡ Some n
      → slice_get (modules_from names next order files place numbers) k ≡ Some (module_of names next order n (files_at order files (place + k)))
  modules-at place [] k n e = absurd (none-some e)
  modules-at place (x ∷ numbers) zero n e =
      let z : place ≡ place + 0 = omega arith in let same : x ≡ n = some-same e in λ i. Some (module_of names next order (same i) (files_at order files (z i)))
  modules-at place (x ∷ numbers) (suc k) n e =
      modules-at (suc place) numbers k n e ∙ (let z : suc place + k ≡ place + suc k = omega arith in ap (λ j. Some (module_of names next order n (files_at order files j))) z)

  modules-long : (place : ℕ) (numbers : List ℕ) → length (modules_from names next order files place numbers) ≡ length numbers
  modules-long place [] = refl
  modules-long place (x ∷ numbers) = ap suc (modules-long (suc place) numbers)

-- the number of a module that isn't the main one
other-number : (k main : ℕ) → (k ≡ main → ⊥) → nat_eq k main ≡ false
other-number k main apart = by (nat_eq k main) refl
  where
    by : (b : Bool) → nat_eq k main ≡ b → b ≡ false
    by true e = absurd (apart (eqb-true k main e))
    by false e = refl

main-number : (k main : ℕ) → k ≡ main → nat_eq k main ≡ true
main-number k main same = eq-eqb k main same

-- ---- the package

module _ (manifest : Manifest) (x : List ℕ) (rest folders : List (List ℕ)) (same : folders ≡ x ∷ rest) (rising : IsStrictlySortedBy (slice_cmp nat_cmp) (x ∷ rest)) where
  -- the name of a module behind the default one
  name-behind : (place : ℕ) (folder : List ℕ) → slice_get rest place ≡ Some folder → get_or (names_of manifest folders) (suc place) [] ≡ folder
  unfolding IsStrictlySortedBy
  name-behind place folder e =
      let there : slice_get (names_of manifest folders) (suc place) ≡ Some (module_name manifest folder) =
      ap (λ l. slice_get (names_of manifest l) (suc place)) same ∙ (slice_get-map (module_name manifest) (x ∷ rest) (suc place) ∙ ap (option_map (module_name manifest)) e) in
      let named = behind-named x folder (above (slice_cmp nat_cmp) nat_list_cmp_total x rest folder rising.0 (at-contains rest place folder e)) in
      get_or_from_slice_get (names_of manifest folders) (suc place) (module_name manifest folder) [] there
      ∙ ap (λ b. if b then manifest.name else folder) named

module _ (manifest : Manifest) (taken : List Taken) (read : List SourceFile) (p : Package) (m : Makes manifest taken read p) (x : List ℕ) (rest : List (List ℕ)) (same : m.folders ≡ x ∷ rest) where
  abbrev home : Home
  home = home_of manifest m.folders

  abbrev names : List (List ℕ)
  names = names_of manifest m.folders

  abbrev graph : List (List ℕ)
  graph = graph_of manifest m.folders taken read

  abbrev here : List (ℕ × SourceFile)
  here = placed m.folders taken read

  rising : IsStrictlySortedBy (slice_cmp nat_cmp) (x ∷ rest)
  rising = subst (IsStrictlySortedBy (slice_cmp nat_cmp)) same m.modules.rising

  long : length m.folders ≡ suc (length rest)
  long = ap length same

  each : IsEachOnce (length m.folders) m.order
  each =
      let few : length home.paths < length m.folders =
      let paths = map-long (path_to manifest.name) (behind_first m.folders) in let fewer = fewer-behind m.folders (let s = long in omega arith) in omega arith in
      let count = graph-long home here 0 (length m.folders) in
      let some : 0 < length graph = let s = long in omega arith in
      subst (λ n. IsEachOnce n m.order) count (each-once graph m.order (graph-inside home here (length m.folders) few) some m.ordered)

  paths-are : home.paths ≡ map (path_to manifest.name) rest
  paths-are = ap (λ l. map (path_to manifest.name) (behind_first l)) same

  -- the module at a place of the order
  abbrev module_at : ℕ → ℕ → ModuleOf
  module_at k n = module_of names graph m.order n (files_at m.order here (0 + k))

  path-here : (k n : ℕ) → slice_get m.order k ≡ Some n → slice_get (linked p).paths k ≡ Some (path_in p k (module_at k n))
  path-here k n at =
      let z : 0 + k ≡ k = omega arith in
      paths-at p p.modules 0 k (module_at k n) (ap (λ l. slice_get l k) m.made ∙ modules-at names graph m.order here 0 m.order k n at)
      ∙ ap (λ j. Some (path_in p j (module_at k n))) z

  -- the default module has no path
  main-path : (k : ℕ) → slice_get m.order k ≡ Some 0 → slice_get (linked p).paths k ≡ Some None
  main-path k at =
      let is-main = main-number k p.main (once-place m.order k p.main 0 each.once at m.main) in
      path-here k 0 at ∙ ap (λ b. Some (if b then None else Some (path_to p.name (module_at k 0).name))) is-main

  -- each other one has that of its folder
  other-path : (k place : ℕ) (folder : List ℕ) → slice_get m.order k ≡ Some (suc place) → slice_get rest place ≡ Some folder → slice_get (linked p).paths k ≡ Some (Some (path_to manifest.name folder))
  other-path k place folder at there =
      let clash : k ≡ p.main → ⊥ = λ e. let both : suc place ≡ 0 = some-same (sym at ∙ (ap (slice_get m.order) e ∙ m.main)) in omega arith in
      let name = name-behind manifest x rest m.folders same rising place folder there in
      path-here k (suc place) at
      ∙ (ap (λ b. Some (if b then None else Some (path_to p.name (module_at k (suc place)).name))) (other-number k p.main clash)
      ∙ (λ i. Some (Some (path_to (m.name i) (name i)))))

  place-inside : (place : ℕ) (folder : List ℕ) → slice_get rest place ≡ Some folder → suc place < length m.folders
  place-inside place folder there = let lt = slice_get_within rest place folder there in let s = long in omega arith

  only-at : (number n : ℕ) (path : List ℕ) → slice_get m.order number ≡ Some n → slice_get (linked p).paths number ≡ Some (Some path)
      → (place : ℕ) × (slice_get home.paths place ≡ Some path) × (rank m.order (suc place) ≡ number)
  only-at number zero path at e = absurd (none-some (some-same (sym (main-path number at) ∙ e)))
  only-at number (suc place) path at e =
      let inside = each.inside (suc place) (has-there m.order number (suc place) at) in
      let lt : place < length rest = let s = long in omega arith in
      let folder = get_or rest place [] in
      let there : slice_get rest place ≡ Some folder = slice_get-get_or rest place [] lt in
      let is : path_to manifest.name folder ≡ path = some-same (some-same (sym (other-path number place folder at there) ∙ e)) in (
        place,
        ap (λ l. slice_get l place) paths-are ∙ (slice_get-map (path_to manifest.name) rest place ∙ (ap (option_map (path_to manifest.name)) there ∙ ap Some is)),
        rank-at (length m.folders) m.order number (suc place) each at,
      )

  order-long : length (linked p).paths ≡ length m.order
  order-long = paths-long p p.modules 0 ∙ (ap length m.made ∙ modules-long names graph m.order here 0 m.order)

  made-of-home : IsMadeOf home (rank m.order) p
  unfolding IsStrictlySortedBy
  made-of-home =
      record {
        org = m.org;
        there = λ place path e.
            let (folder, at, is) = path-of manifest.name rest place path (sym (ap (λ l. slice_get l place) paths-are) ∙ e) in
            other-path (rank m.order (suc place)) place folder (rank-there (length m.folders) m.order (suc place) each (place-inside place folder at)) at ∙ ap (λ f. Some (Some f)) (sym is);
        only = λ number path e.
            let lt : number < length m.order = let within = slice_get_within (linked p).paths number (Some path) e in let s = order-long in omega arith in
            only-at number (get_or m.order number 0) path (slice_get-get_or m.order number 0 lt) e;
        apart = λ a b path e f.
            let (folder, at, is) = path-of manifest.name rest a path (sym (ap (λ l. slice_get l a) paths-are) ∙ e) in
            let (other, there, also) = path-of manifest.name rest b path (sym (ap (λ l. slice_get l b) paths-are) ∙ f) in
            let one : folder ≡ other = path-one manifest.name folder other (sym is ∙ also) in
            sorted-place rest a b other rising.1 (subst (λ l. slice_get rest a ≡ Some l) one at) there;
      }

made-by : (manifest : Manifest) (taken : List Taken) (read : List SourceFile) (p : Package) (m : Makes manifest taken read p) (folders : List (List ℕ)) → m.folders ≡ folders → IsMadeOf (home_of manifest m.folders) (rank m.order) p
made-by manifest taken read p m [] same = absurd (let some = some-folder _ m.folders m.modules in let none = ap length same in let no-way : ⊥ = omega arith in no-way)
made-by manifest taken read p m (x ∷ rest) same = made-of-home manifest taken read p m x rest same

pub names-modules : NamesModules
names-modules files p h i = keeps-targets (home_of h.manifest h.makes.folders) (rank h.makes.order) p (made-by h.manifest h.taken h.read p h.makes h.makes.folders refl) i
