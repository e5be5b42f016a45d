-- Functions that are counted on are those of the listed definitions.
use Rattle.std.specs.Prelude.{◌≡◌, ◌+◌, ◌++◌, ℕ, suc, IfOk, List, [], ◌∷◌, Result, Ok, Err, fold, map}
use Rattle.std.proofs.Common.{◌∙◌, refl, ap, sym}
use Rattle.bal_base.specs.declared.stop.Memory.{Memory}
use Rattle.bal_tree.specs.declared.def.Def.{Def}
use Rattle.bal_tree.specs.declared.package.Module.{Module}
use Rattle.bal_tree.specs.declared.package.Package.{Package}
use Rattle.bal_tree.specs.declared.package.SourceFile.{SourceFile}
use Rattle.name_resolution.specs.Definitions.{Placed, functions_in, in_files, in_modules, placed}
use Rattle.package_checks.specs.Checked.{functions_of}
use Rattle.stmt_checker.specs.Counting.{with_defs, with_files, with_modules}

abbrev added : ℕ → List Placed → ℕ
added n ps = fold (λ a x. a + x) n (map (λ p. functions_in p.def) ps)

added-both : (n : ℕ) (ps qs : List Placed) → added n (ps ++ qs) ≡ added (added n ps) qs
added-both n [] qs = refl
added-both n (p ∷ ps) qs = added-both (n + functions_in p.def) ps qs

added-defs : (n m file : ℕ) (defs : List Def) → added n (map (placed m file) defs) ≡ with_defs n defs
added-defs n m file [] = refl
added-defs n m file (d ∷ defs) = added-defs (n + functions_in d) m file defs

added-files : (n m first : ℕ) (files : List SourceFile) → added n (in_files m first files) ≡ with_files n files
added-files n m first [] = refl
added-files n m first (f ∷ files) =
    added-both n (map (placed m first) f.tree.defs.items) (in_files m (suc first) files)
    ∙ ap (λ k. added k (in_files m (suc first) files)) (added-defs n m first f.tree.defs.items)
    ∙ added-files (with_defs n f.tree.defs.items) m (suc first) files

added-modules : (n first : ℕ) (modules : List Module) → added n (in_modules first modules) ≡ with_modules n modules
added-modules n first [] = refl
added-modules n first (m ∷ modules) =
    added-both n (in_files first 0 m.files) (in_modules (suc first) modules)
    ∙ ap (λ k. added k (in_modules (suc first) modules)) (added-files n first 0 m.files)
    ∙ added-modules (with_files n m.files) (suc first) modules

pub counted : (p : Package) → functions_of p ≡ with_modules 0 p.modules
counted p = added-modules 0 0 p.modules

-- what a count over the modules gives
pub counted-if : (p : Package) (ms : List Module) (r : Result ℕ Memory) → ms ≡ p.modules → IfOk r (λ n. n ≡ with_modules 0 ms) → IfOk r (λ n. n ≡ functions_of p)
counted-if p ms (Ok n) same h = h ∙ ap (with_modules 0) same ∙ sym (counted p)
counted-if p ms (Err e) same h = h
