-- Each choice of definitions has a package of its own, and what that says of names is what the chosen ones say.
use Rattle.std.proofs.Common.{◌≡◌, ℕ, zero, suc, ◌+◌, ◌≤◌, Bool, true, false, List, [], ◌∷◌, ◌++◌, length, map, refl, sym, ap, ◌∙◌, arith, Option, None, Some, cond}
use Rattle.std.specs.Prelude.{nat_eq, slice_get}
use Rattle.std.specs.List.{AllZip}
use Rattle.std.specs.Option.{option_and_then}
use Rattle.std.proofs.lemmas.List.{length-map}
use Rattle.bal_base.specs.declared.text.Name.{Name}
use Rattle.bal_tree.specs.declared.package.Module.{Module}
use Rattle.bal_tree.specs.declared.package.Package.{Package}
use Rattle.bal_tree.specs.declared.package.SourceFile.{SourceFile}
use Rattle.package_imports.specs.Imports.{path_to}
use Rattle.package_imports.specs.InPackage.{linked, path_in, paths_from}
use Rattle.name_resolution.specs.Definitions.{Placed, definitions_of, in_files, in_modules, placed}
use Rattle.name_resolution.specs.Excerpts.{HasSameImports, IsExcerpt, IsSameFile, IsSameModule, picked}
use Rattle.name_resolution.specs.Named.{source_at}
use Rattle.name_resolution.specs.Outlines.{import_source, outline_of, outlines_of}
use Rattle.name_resolution.proofs.Placed.{outline_at, outlines-placed}

-- ---- what is picked

module _ (chosen : ℕ → Bool) where
  picked-few : {A : Type 0} (n : ℕ) (xs : List A) → length (picked chosen n xs) ≤ length xs
  picked-few n [] = omega arith
  picked-few n (x ∷ xs) = by (chosen n) (picked-few (suc n) xs)
    where
      by : (b : Bool) → length (picked chosen (suc n) xs) ≤ length xs → length (cond b (x ∷ picked chosen (suc n) xs) (picked chosen (suc n) xs)) ≤ length (x ∷ xs)
      by true le = omega (arith, le)
      by false le = omega (arith, le)

  pub picked-append : {A : Type 0} (n : ℕ) (xs ys : List A) → picked chosen n (xs ++ ys) ≡ picked chosen n xs ++ picked chosen (n + length xs) ys
  picked-append n [] ys = let e : n ≡ n + 0 = omega arith in ap (λ k. picked chosen k ys) e
  picked-append n (x ∷ xs) ys =
      let e : suc n + length xs ≡ n + length (x ∷ xs) = omega arith in
      by (chosen n) (picked-append (suc n) xs ys ∙ ap (λ k. picked chosen (suc n) xs ++ picked chosen k ys) e)
    where
      by : (b : Bool) → picked chosen (suc n) (xs ++ ys) ≡ picked chosen (suc n) xs ++ picked chosen (n + length (x ∷ xs)) ys
          → cond b (x ∷ picked chosen (suc n) (xs ++ ys)) (picked chosen (suc n) (xs ++ ys)) ≡ cond b (x ∷ picked chosen (suc n) xs) (picked chosen (suc n) xs) ++ picked chosen (n + length (x ∷ xs)) ys
      by true e = ap (λ zs. x ∷ zs) e
      by false e = e

  pub picked-map : {A B : Type 0} (f : A → B) (n : ℕ) (xs : List A) → picked chosen n (map f xs) ≡ map f (picked chosen n xs)
  picked-map f n [] = refl
  picked-map f n (x ∷ xs) = by (chosen n) (picked-map f (suc n) xs)
    where
      by : (b : Bool) → picked chosen (suc n) (map f xs) ≡ map f (picked chosen (suc n) xs)
          → cond b (f x ∷ picked chosen (suc n) (map f xs)) (picked chosen (suc n) (map f xs)) ≡ map f (cond b (x ∷ picked chosen (suc n) xs) (picked chosen (suc n) xs))
      by true e = ap (λ zs. f x ∷ zs) e
      by false e = e

  -- one member more
  pub picked-push : {A : Type 0} (xs : List A) (x : A) (n : ℕ) → length xs ≡ n → picked chosen 0 (xs ++ x ∷ []) ≡ picked chosen 0 xs ++ cond (chosen n) (x ∷ []) []
  picked-push xs x n e = let at : 0 + length xs ≡ n = omega (arith, e) in picked-append 0 xs (x ∷ []) ∙ ap (λ k. picked chosen 0 xs ++ picked chosen k (x ∷ [])) at

  -- ---- a package of what is picked

  abbrev file_of : ℕ → SourceFile → SourceFile
  file_of n f =
      let v = f.tree.defs in
      let few = picked-few n v.items in
      let small = v.small in record {
        name = f.name;
        text = f.text;
        tree = record {
          imports = f.tree.imports;
          defs = record {
            ptr = v.ptr;
            len = length (picked chosen n v.items);
            cap = length (picked chosen n v.items);
            alloc = v.alloc;
            items = picked chosen n v.items;
            ok = (refl, omega arith);
            small = omega (arith, few, small);
          };
          at = f.tree.at;
        };
      }

  abbrev files_from : ℕ → List SourceFile → List SourceFile
  files_from n [] = []
  files_from n (f ∷ fs) = file_of n f ∷ files_from (n + length f.tree.defs.items) fs

  abbrev modules_from : ℕ → ℕ → List Module → List Module
  modules_from n m [] = []
  modules_from n m (x ∷ xs) = record { name = x.name; imports = x.imports; files = files_from n x.files } ∷ modules_from (n + length (in_files m 0 x.files)) (suc m) xs

  pub excerpt_by : Package → Package
  excerpt_by p = record { name = p.name; org = p.org; modules = modules_from 0 0 p.modules; main = p.main }

  same-files : (n : ℕ) (fs : List SourceFile) → AllZip IsSameFile fs (files_from n fs)
  same-files n [] = tt
  same-files n (f ∷ fs) = (refl, same-files (n + length f.tree.defs.items) fs)

  same-modules : (n m : ℕ) (ms : List Module) → AllZip IsSameModule ms (modules_from n m ms)
  same-modules n m [] = tt
  same-modules n m (x ∷ xs) = (same-files n x.files, same-modules (n + length (in_files m 0 x.files)) (suc m) xs)

  files-picked : (n m k : ℕ) (fs : List SourceFile) → in_files m k (files_from n fs) ≡ picked chosen n (in_files m k fs)
  files-picked n m k [] = refl
  files-picked n m k (f ∷ fs) =
      let defs = f.tree.defs.items in
      let here = map (placed m k) defs in
      ap (λ xs. xs ++ in_files m (suc k) (files_from (n + length defs) fs)) (sym (picked-map (placed m k) n defs))
      ∙ ap (λ xs. picked chosen n here ++ xs) (files-picked (n + length defs) m (suc k) fs ∙ ap (λ l. picked chosen (n + l) (in_files m (suc k) fs)) (sym (length-map defs (placed m k))))
      ∙ sym (picked-append n here (in_files m (suc k) fs))

  modules-picked : (n m : ℕ) (ms : List Module) → in_modules m (modules_from n m ms) ≡ picked chosen n (in_modules m ms)
  modules-picked n m [] = refl
  modules-picked n m (x ∷ xs) =
      let here = in_files m 0 x.files in
      ap (λ ys. ys ++ in_modules (suc m) (modules_from (n + length here) (suc m) xs)) (files-picked n m 0 x.files)
      ∙ ap (λ ys. picked chosen n here ++ ys) (modules-picked (n + length here) (suc m) xs) ∙ sym (picked-append n here (in_modules (suc m) xs))

  -- imports name the same
  same-paths : (p q : Package) → q.name ≡ p.name → q.main ≡ p.main → (n m : ℕ) (ms : List Module) (number : ℕ) → paths_from q number (modules_from n m ms) ≡ paths_from p number ms
  same-paths p q name main n m [] number = refl
  same-paths p q name main n m (x ∷ xs) number =
      ap (λ l. path_in q number x ∷ l) (same-paths p q name main (n + length (in_files m 0 x.files)) (suc m) xs (suc number))
      ∙ (λ i. cond (nat_eq number (main i)) None (Some (path_to (name i) x.name)) ∷ paths_from p (suc number) xs)

  pub is-excerpt : (p : Package) → IsExcerpt chosen p (excerpt_by p)
  unfolding excerpt_by
  is-excerpt p = record {
    main = refl;
    imports = record { home = λ i. record { org = p.org; paths = same-paths p (excerpt_by p) refl refl 0 0 p.modules 0 i }; modules = same-modules 0 0 p.modules };
    definitions = modules-picked 0 0 p.modules;
  }

-- each package has the imports of itself
same-file : (fs : List SourceFile) → AllZip IsSameFile fs fs
same-file [] = tt
same-file (f ∷ fs) = (refl, same-file fs)

same-module : (ms : List Module) → AllZip IsSameModule ms ms
same-module [] = tt
same-module (m ∷ ms) = (same-file m.files, same-module ms)

pub same-imports : (p : Package) → HasSameImports p p
same-imports p = record { home = refl; modules = same-module p.modules }

-- ---- what it says of names

-- what is read of the members of two lists that stand at one place
pub same-there : {A B C : Type 0} (R : A → B → Type 0) (f : A → Option C) (g : B → Option C) → ((x : A) (y : B) → R x y → g y ≡ f x)
    → (xs : List A) (ys : List B) (i : ℕ) → AllZip R xs ys → option_and_then g (slice_get ys i) ≡ option_and_then f (slice_get xs i)
same-there R f g same [] [] i h = refl
same-there R f g same [] (y ∷ ys) i h = absurd h
same-there R f g same (x ∷ xs) [] i h = absurd h
same-there R f g same (x ∷ xs) (y ∷ ys) zero h = same x y h.0
same-there R f g same (x ∷ xs) (y ∷ ys) (suc i) h = same-there R f g same xs ys i h.1

module _ (p q : Package) (home : linked q ≡ linked p) (same : AllZip IsSameModule p.modules q.modules) where
  source-alike : (d : Placed) (prefix : Name) → source_at q d prefix ≡ source_at p d prefix
  source-alike d prefix =
      ap (λ h. option_and_then (λ m. option_and_then (λ f. import_source h f.tree.imports.items prefix) (slice_get m.files d.file)) (slice_get q.modules d.«module»)) home
      ∙ same-there IsSameModule (λ m. option_and_then (λ f. import_source (linked p) f.tree.imports.items prefix) (slice_get m.files d.file))
      (λ m. option_and_then (λ f. import_source (linked p) f.tree.imports.items prefix) (slice_get m.files d.file))
      (λ m n h. same-there IsSameFile (λ f. import_source (linked p) f.tree.imports.items prefix) (λ f. import_source (linked p) f.tree.imports.items prefix)
      (λ f g e. ap (λ is. import_source (linked p) is prefix) (sym e)) m.files n.files d.file h)
      p.modules q.modules d.«module» same

  outline-alike : (d : Placed) → outline_at q d ≡ outline_at p d
  outline-alike d = ap (λ s. outline_of d.«module» s d.def) (λ i prefix. source-alike d prefix i)

  outlines-alike : (ds : List Placed) → map (outline_at q) ds ≡ map (outline_at p) ds
  outlines-alike [] = refl
  outlines-alike (d ∷ ds) = ap (λ o. o ∷ map (outline_at q) ds) (outline-alike d) ∙ ap (λ os. outline_at p d ∷ os) (outlines-alike ds)

pub outlines-picked : (chosen : ℕ → Bool) (p q : Package) → IsExcerpt chosen p q → outlines_of q ≡ picked chosen 0 (outlines_of p)
outlines-picked chosen p q e =
    outlines-placed q ∙ ap (map (outline_at q)) e.definitions ∙ outlines-alike p q e.imports.home e.imports.modules (picked chosen 0 (definitions_of p))
    ∙ sym (picked-map chosen (outline_at p) 0 (definitions_of p)) ∙ ap (picked chosen 0) (sym (outlines-placed p))
