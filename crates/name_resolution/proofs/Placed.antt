-- The outlines of a package's definitions are those of its definitions with where they stand.
use Rattle.std.proofs.Common.{◌≡◌, ℕ, zero, suc, ◌+◌, List, [], ◌∷◌, ◌++◌, map, refl, sym, ap, ◌∙◌, arith, Some}
use Rattle.std.specs.Prelude.{slice_get}
use Rattle.std.specs.List.{flat_map}
use Rattle.std.specs.Option.{option_and_then}
use Rattle.std.proofs.lemmas.List.{map-append}
use Rattle.bal_tree.specs.declared.def.Def.{Def}
use Rattle.bal_tree.specs.declared.package.Module.{Module}
use Rattle.bal_tree.specs.declared.package.Package.{Package}
use Rattle.bal_tree.specs.declared.package.SourceFile.{SourceFile}
use Rattle.package_imports.specs.InPackage.{linked}
use Rattle.name_resolution.specs.Definitions.{Placed, definitions_of, in_files, in_modules, placed}
use Rattle.name_resolution.specs.Named.{source_at}
use Rattle.name_resolution.specs.Outlines.{file_outlines, import_source, outline_of, outlines_from, outlines_of}
use Rattle.name_resolution.specs.declared.outlines.Outline.{Outline}

-- what a definition says of names, as it stands there
abbrev pub outline_at : Package → Placed → Outline
outline_at p q = outline_of q.«module» (source_at p q) q.def

map-both : {A B C : Type 0} (f : B → C) (g : A → B) (h : A → C) → ((a : A) → f (g a) ≡ h a) → (xs : List A) → map f (map g xs) ≡ map h xs
map-both f g h e [] = refl
map-both f g h e (x ∷ xs) = ap (λ z. z ∷ map f (map g xs)) (e x) ∙ ap (λ zs. h x ∷ zs) (map-both f g h e xs)

module _ (p : Package) where
  there : (m : ℕ) (md : Module) (file : ℕ) (f : SourceFile) (d : Def) → slice_get p.modules m ≡ Some md → slice_get md.files file ≡ Some f
      → source_at p (placed m file d) ≡ import_source (linked p) f.tree.imports.items
  there m md file f d em ef i prefix =
      (ap (option_and_then (λ x. option_and_then (λ g. import_source (linked p) g.tree.imports.items prefix) (slice_get x.files file))) em
      ∙ ap (option_and_then (λ g. import_source (linked p) g.tree.imports.items prefix)) ef) i

  of-file : (m : ℕ) (md : Module) (file : ℕ) (f : SourceFile) → slice_get p.modules m ≡ Some md → slice_get md.files file ≡ Some f
      → map (outline_at p) (map (placed m file) f.tree.defs.items) ≡ file_outlines (linked p) m f.tree
  of-file m md file f em ef =
      map-both (outline_at p) (placed m file) (outline_of m (import_source (linked p) f.tree.imports.items)) (λ d. ap (λ s. outline_of m s d) (there m md file f d em ef)) f.tree.defs.items

  of-files : (m : ℕ) (md : Module) (file : ℕ) (fs : List SourceFile) → slice_get p.modules m ≡ Some md → ((i : ℕ) → slice_get md.files (i + file) ≡ slice_get fs i)
      → map (outline_at p) (in_files m file fs) ≡ flat_map (λ f. file_outlines (linked p) m f.tree) fs
  of-files m md file [] em es = refl
  of-files m md file (f ∷ fs) em es =
      map-append (outline_at p) (map (placed m file) f.tree.defs.items) (in_files m (suc file) fs)
      ∙ ap (λ xs. xs ++ map (outline_at p) (in_files m (suc file) fs)) (of-file m md file f em (let e : file ≡ 0 + file = omega arith in ap (slice_get md.files) e ∙ es zero))
      ∙ ap (λ xs. file_outlines (linked p) m f.tree ++ xs) (of-files m md (suc file) fs em (λ i. let e : i + suc file ≡ suc i + file = omega arith in ap (slice_get md.files) e ∙ es (suc i)))

  of-modules : (first : ℕ) (ms : List Module) → ((i : ℕ) → slice_get p.modules (i + first) ≡ slice_get ms i) → map (outline_at p) (in_modules first ms) ≡ outlines_from (linked p) first ms
  of-modules first [] es = refl
  of-modules first (m ∷ ms) es =
      map-append (outline_at p) (in_files first 0 m.files) (in_modules (suc first) ms)
      ∙ ap (λ xs. xs ++ map (outline_at p) (in_modules (suc first) ms)) (of-files first m 0 m.files (let e : first ≡ 0 + first = omega arith in ap (slice_get p.modules) e ∙ es zero) (λ i. let e : i + 0 ≡ i = omega arith in ap (slice_get m.files) e))
      ∙ ap (λ xs. flat_map (λ file. file_outlines (linked p) first file.tree) m.files ++ xs)
      (of-modules (suc first) ms (λ i. let e : i + suc first ≡ suc i + first = omega arith in ap (slice_get p.modules) e ∙ es (suc i)))

  pub outlines-placed : outlines_of p ≡ map (outline_at p) (definitions_of p)
  outlines-placed = sym (of-modules 0 p.modules (λ i. let e : i + 0 ≡ i = omega arith in ap (slice_get p.modules) e))
