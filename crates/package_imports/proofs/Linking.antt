-- The paths of a package's modules, one behind the other.
use Rattle.std.proofs.Common.{◌≡◌, ◌<◌, ◌+◌, ℕ, suc, List, [], ◌∷◌, ◌++◌, length, take, get_or, Option, sym, ap, ◌∙◌, arith}
use Rattle.std.proofs.lemmas.List.{length-take, take_more}
use Rattle.bal_tree.specs.declared.package.Module.{Module}
use Rattle.bal_tree.specs.declared.package.Package.{Package}
use Rattle.package_imports.specs.InPackage.{path_in, paths_from}

module _ (p : Package) where
  paths-push : (first : ℕ) (ms : List Module) (m : Module) → paths_from p first (ms ++ m ∷ []) ≡ paths_from p first ms ++ path_in p (first + length ms) m ∷ []
  paths-push first [] m = let e : first ≡ first + 0 = omega arith in ap (λ n. path_in p n m ∷ []) e
  paths-push first (k ∷ ms) m =
      let e : suc first + length ms ≡ first + length (k ∷ ms) = omega arith in
      ap (λ l. path_in p first k ∷ l) (paths-push (suc first) ms m ∙ ap (λ n. paths_from p (suc first) ms ++ path_in p n m ∷ []) e)

  -- as far as a loop over the modules has come
  pub paths-more : (ms : List Module) (i : ℕ) (m : Module) (mid new : List (Option (List ℕ))) → i < length ms → m ≡ get_or ms i m
      → mid ≡ paths_from p 0 (take i ms) → new ≡ mid ++ path_in p i m ∷ [] → new ≡ paths_from p 0 (take (i + 1) ms)
  paths-more ms i m mid new lt at before next =
      next
      ∙ (ap (λ l. l ++ path_in p i m ∷ []) before
      ∙ sym (ap (paths_from p 0) (take_more ms i m lt)
      ∙ (ap (λ x. paths_from p 0 (take i ms ++ x ∷ [])) (sym at)
      ∙ (paths-push 0 (take i ms) m ∙ ap (λ n. paths_from p 0 (take i ms) ++ path_in p n m ∷ []) (grind (arith, length-take, lt))))))
