-- Packages with some of the definitions of another one.
use Rattle.std.specs.Prelude.{◌≡◌, ℕ, suc, Bool, List, [], ◌∷◌, if◌then◌else◌}
use Rattle.std.specs.List.{AllZip}
use Rattle.bal_tree.specs.declared.package.Module.{Module}
use Rattle.bal_tree.specs.declared.package.Package.{Package}
use Rattle.bal_tree.specs.declared.package.SourceFile.{SourceFile}
use Rattle.package_imports.specs.InPackage.{linked}
use Rattle.name_resolution.specs.Definitions.{definitions_of}

-- the members of a list that are chosen by number, where the first one has this number
abbrev pub picked : {A : Type 0} → (ℕ → Bool) → ℕ → List A → List A
picked chosen n [] = []
picked chosen n (x ∷ xs) = if chosen n then x ∷ picked chosen (suc n) xs else picked chosen (suc n) xs

-- the same imports
abbrev pub IsSameFile : SourceFile → SourceFile → Type 0
IsSameFile f g = f.tree.imports.items ≡ g.tree.imports.items

abbrev pub IsSameModule : Module → Module → Type 0
IsSameModule m n = AllZip IsSameFile m.files n.files

-- q has the modules of p and their files, with the same imports, which name the same in both
pub record HasSameImports (p q : Package) : Type 0 where
  pub home : linked q ≡ linked p
  pub modules : AllZip IsSameModule p.modules q.modules

-- q has these of p; and of the definitions of p, in their order and where they stand, just those that are chosen by number
pub record IsExcerpt (chosen : ℕ → Bool) (p q : Package) : Type 0 where
  pub main : q.main ≡ p.main
  pub imports : HasSameImports p q
  pub definitions : definitions_of q ≡ picked chosen 0 (definitions_of p)
