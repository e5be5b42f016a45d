-- An import names in a package the module that it names of the home from which the package is made.
use Rattle.std.proofs.Common.{◌≡◌, ◌+◌, ℕ, zero, suc, Bool, true, false, cond, List, [], ◌∷◌, get_or, Option, Some, None, refl, sym, ap, ◌∙◌}
use Rattle.std.specs.Prelude.{option_map, position, slice_get}
use Rattle.std.specs.List.{position_from}
use Rattle.std.specs.Cmp.Lexicographic.{bytes_decides}
use Rattle.std.proofs.lemmas.Bool.{false≢true}
use Rattle.std.proofs.lemmas.List.Quantifiers.{position-Some}
use Rattle.std.proofs.lemmas.Iterator.Adapters.{position_from-zero}
use Rattle.std.proofs.lemmas.Option.{none-some, same_Some, slice_get-get_or}
use Rattle.bal_tree.specs.declared.def.Import.{Import}
use Rattle.bal_tree.specs.declared.package.Package.{Package}
use Rattle.package_imports.specs.Imports.{Home, is_library, is_own_org, is_same, org_of, own_module, path_of, target_of}
use Rattle.package_imports.specs.InPackage.{IsMadeOf, KeepsTargets, is_path, linked, module_named, moved, target_in}
use Rattle.package_imports.specs.declared.targets.Target.TheVariants.{Library, Module}

-- ---- the first member of a list that passes a test

none-from : {X : Type 0} (test : X → Bool) (xs : List X) (first i : ℕ) (x : X) → position_from test first xs ≡ None → slice_get xs i ≡ Some x → test x ≡ true → ⊥
none-from test [] first i x e at passes = none-some x at
none-from test (y ∷ ys) first zero x e at passes = by (test y) (ap test (same_Some y x at) ∙ passes) e
  where
    by : (b : Bool) → b ≡ true → cond b (Some first) (position_from test (first + 1) ys) ≡ None → ⊥
    by true h n = none-some first (sym n)
    by false h n = false≢true h
none-from test (y ∷ ys) first (suc i) x e at passes = by (test y) e (λ n. none-from test ys (first + 1) i x n at passes)
  where
    by : (b : Bool) → cond b (Some first) (position_from test (first + 1) ys) ≡ None → (position_from test (first + 1) ys ≡ None → ⊥) → ⊥
    by true n later = none-some first (sym n)
    by false n later = later n

module _ {X : Type 0} (test : X → Bool) (xs : List X) where
  found : (i : ℕ) (d : X) → position test xs ≡ Some i → slice_get xs i ≡ Some (get_or xs i d) × (test (get_or xs i d) ≡ true)
  found i d e = let at = position-Some test xs i d e in (slice_get-get_or xs i d at.0, at.1)

  -- where one passes, one is found
  not-none : (i : ℕ) (x : X) → slice_get xs i ≡ Some x → test x ≡ true → position test xs ≡ None → ⊥
  not-none i x at passes e = none-from test xs 0 i x (sym (position_from-zero test xs) ∙ e) at passes

-- a path of a package's module that is this one
same-path : (path : List ℕ) (o : Option (List ℕ)) → is_path path o ≡ true → o ≡ Some path
same-path path None e = absurd (false≢true e)
same-path path (Some known) e = ap Some ((bytes_decides known path).0 e)

module _ (home : Home) (to : ℕ → ℕ) (p : Package) (made : IsMadeOf home to p) (i : Import) where
  abbrev path : List ℕ
  path = path_of i

  abbrev is : List ℕ → Bool
  is known = is_same known path

  its-own : is path ≡ true
  its-own = (bytes_decides path path).1 refl

  -- by what is found in the package and in the home
  by-both : (n m : Option ℕ) → position (is_path path) (linked p).paths ≡ n → position is home.paths ≡ m → n ≡ option_map (λ place. to (suc place)) m
  by-both None None en em = refl
  by-both None (Some m) en em =
      let at = found is home.paths m [] em in
      let same : get_or home.paths m [] ≡ path = (bytes_decides (get_or home.paths m []) path).0 at.1 in
      absurd (not-none (is_path path) (linked p).paths (to (suc m)) (Some path) (made.there m path (at.0 ∙ ap Some same)) its-own en)
  by-both (Some n) None en em =
      let at = found (is_path path) (linked p).paths n None en in
      let from = made.only n path (at.0 ∙ ap Some (same-path path (get_or (linked p).paths n None) at.1)) in
      absurd (not-none is home.paths from.0 path from.1 its-own em)
  by-both (Some n) (Some m) en em =
      let at = found (is_path path) (linked p).paths n None en in
      let from = made.only n path (at.0 ∙ ap Some (same-path path (get_or (linked p).paths n None) at.1)) in
      let here = found is home.paths m [] em in
      let same : get_or home.paths m [] ≡ path = (bytes_decides (get_or home.paths m []) path).0 here.1 in
      let one : from.0 ≡ m = made.apart from.0 m path from.1 (here.0 ∙ ap Some same) in
      ap Some (sym from.2 ∙ ap (λ place. to (suc place)) one)

  twice : (m : Option ℕ) → option_map Module (option_map (λ place. to (suc place)) m) ≡ option_map (moved to) (option_map Module (option_map suc m))
  twice None = refl
  twice (Some m) = refl

  own : (b : Bool) → is_own_org home.org (org_of i) ≡ b
      → option_map Module (cond b (position (is_path path) (linked p).paths) None) ≡ option_map (moved to) (option_map Module (cond b (option_map suc (position is home.paths)) None))
  own true e = ap (option_map Module) (by-both (position (is_path path) (linked p).paths) (position is home.paths) refl refl) ∙ twice (position is home.paths)
  own false e = refl

  module-moved : option_map Module (module_named (linked p) i) ≡ option_map (moved to) (option_map Module (own_module home i))
  module-moved =
      ap (λ org. option_map Module (cond (is_own_org org (org_of i)) (position (is_path path) (linked p).paths) None)) made.org
      ∙ own (is_own_org home.org (org_of i)) refl

  target-moved : target_in p i ≡ option_map (moved to) (target_of home i)
  target-moved = by (is_library i)
    where
      by : (b : Bool) → cond b (Some Library) (option_map Module (module_named (linked p) i)) ≡ option_map (moved to) (cond b (Some Library) (option_map Module (own_module home i)))
      by true = refl
      by false = module-moved

pub keeps-targets : KeepsTargets
keeps-targets home to p made i = target-moved home to p made i
