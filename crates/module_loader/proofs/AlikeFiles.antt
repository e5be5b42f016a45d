-- Files that import alike, as two readings of one text do: what is sought of their imports is the same of both.
use Rattle.std.proofs.Common.{◌≡◌, ◌==◌, ℕ, zero, suc, List, [], ◌∷◌, ◌++◌, codes, get_or, length, refl, ap, ◌∙◌}
use Rattle.std.specs.Prelude.{◌-◌, ◌&&◌, Option, Some, None, if◌then◌else◌, option_map, position, slice_get, ⊤}
use Rattle.std.specs.List.{cons_option, list_any}
use Rattle.bal_base.specs.declared.place.Place.{Place}
use Rattle.bal_tree.specs.declared.def.Import.{Import}
use Rattle.bal_tree.specs.declared.package.SourceFile.{SourceFile}
use Rattle.package_imports.specs.Imports.{Home, dotted, first_unknown, imported, is_known, is_library, is_org, is_own_org, is_same, module_number, org_of, own_module, path_of, prefix_of, target_of, word_or}
use Rattle.package_imports.specs.Repeats.{first_repeat}
use Rattle.package_imports.specs.declared.targets.Target.TheVariants.{Library, Module}
use Rattle.package_making.specs.Making.{numbered}
use Rattle.source_files.proofs.Alike.{AreAlike, IsAlike, source-alike}
use Rattle.module_loader.specs.Files.{AreRead, Taken}
use Rattle.module_loader.specs.Packages.{first_or, first_place, graph_from, imports_of, repeat_in, unknown_in}

-- ---- one import

module _ (i j : Import) (alike : IsAlike i j) where
  prefix-alike : prefix_of i ≡ prefix_of j
  prefix-alike = λ k. (word_or (alike.prefix k) (word_or (slice_get (alike.more k) (length (alike.more k) - 1)) (word_or (alike.second k) (alike.first k)))).name

  org-alike : org_of i ≡ org_of j
  org-alike = λ k. option_map (λ word. (alike.first k).name) (alike.second k)

  path-alike : path_of i ≡ path_of j
  path-alike = λ k. dotted (word_or (alike.second k) (alike.first k)).name (alike.more k)

  library-alike : is_library i ≡ is_library j
  library-alike = λ k. is_org_as k && is_same (path-alike k) (codes "io")
    where
      is_org_as : is_org (codes "ballerina") (org_of i) ≡ is_org (codes "ballerina") (org_of j)
      is_org_as = ap (is_org (codes "ballerina")) org-alike

  target-alike : (home : Home) → target_of home i ≡ target_of home j
  target-alike home = λ k. if library-alike k then Some Library else option_map Module (own k)
    where
      own : own_module home i ≡ own_module home j
      own = λ k. if is_own_org home.org (org-alike k) then option_map suc (position (λ path. is_same path (path-alike k)) home.paths) else None

-- ---- the imports of a file

repeat-alike : (before : List (List ℕ)) (is js : List Import) → AreAlike is js → first_repeat before is ≡ first_repeat before js
repeat-alike before [] [] alike = refl
repeat-alike before [] (j ∷ js) alike = absurd alike
repeat-alike before (i ∷ is) [] alike = absurd alike
repeat-alike before (i ∷ is) (j ∷ js) alike =
    let prefix = prefix-alike i j alike.0 in
    let rest = repeat-alike (before ++ prefix_of i ∷ []) is js alike.1 ∙ ap (λ p. first_repeat (before ++ p ∷ []) js) prefix in
    λ k. if list_any (is_same (prefix k)) before then Some (alike.0.at k) else rest k

unknown-alike : (home : Home) (is js : List Import) → AreAlike is js → first_unknown home is ≡ first_unknown home js
unknown-alike home [] [] alike = refl
unknown-alike home [] (j ∷ js) alike = absurd alike
unknown-alike home (i ∷ is) [] alike = absurd alike
unknown-alike home (i ∷ is) (j ∷ js) alike =
    let target = target-alike i j alike.0 home in
    let rest = unknown-alike home is js alike.1 in
    λ k. if is_known (target k) then rest k else Some (alike.0.at k)

imported-alike : (home : Home) (is js : List Import) → AreAlike is js → imported home is ≡ imported home js
imported-alike home [] [] alike = refl
imported-alike home [] (j ∷ js) alike = absurd alike
imported-alike home (i ∷ is) [] alike = absurd alike
imported-alike home (i ∷ is) (j ∷ js) alike =
    let target = target-alike i j alike.0 home in
    let rest = imported-alike home is js alike.1 in
    λ k. cons_option (module_number (target k)) (rest k)

-- ---- files

abbrev pub ImportAlike : List SourceFile → List SourceFile → Type 0
ImportAlike [] [] = ⊤
ImportAlike [] (g ∷ gs) = ⊥
ImportAlike (f ∷ fs) [] = ⊥
ImportAlike (f ∷ fs) (g ∷ gs) = AreAlike f.tree.imports.items g.tree.imports.items × ImportAlike fs gs

-- two readings of the same files
pub reads-alike : (n : ℕ) (taken : List Taken) (fs gs : List SourceFile) → AreRead n taken fs → AreRead n taken gs → ImportAlike fs gs
reads-alike n [] [] [] one other = tt
reads-alike n [] [] (g ∷ gs) one other = absurd other
reads-alike n [] (f ∷ fs) gs one other = absurd one
reads-alike n (t ∷ taken) [] gs one other = absurd one
reads-alike n (t ∷ taken) (f ∷ fs) [] one other = absurd other
reads-alike n (t ∷ taken) (f ∷ fs) (g ∷ gs) one other = (source-alike n t.name t.bytes f g one.0 other.0, reads-alike (suc n) taken fs gs one.1 other.1)

module _ (place_in : SourceFile → Option Place) (same : (f g : SourceFile) → AreAlike f.tree.imports.items g.tree.imports.items → place_in f ≡ place_in g) where
  place-alike : (fs gs : List SourceFile) → ImportAlike fs gs → first_place place_in fs ≡ first_place place_in gs
  place-alike [] [] alike = refl
  place-alike [] (g ∷ gs) alike = absurd alike
  place-alike (f ∷ fs) [] alike = absurd alike
  place-alike (f ∷ fs) (g ∷ gs) alike =
      let here = same f g alike.0 in
      let rest = place-alike fs gs alike.1 in
      λ k. first_or (here k) (rest k)

pub repeats-alike : (fs gs : List SourceFile) → ImportAlike fs gs → first_place repeat_in fs ≡ first_place repeat_in gs
repeats-alike = place-alike repeat_in (λ f g alike. repeat-alike [] f.tree.imports.items g.tree.imports.items alike)

pub unknowns-alike : (home : Home) (fs gs : List SourceFile) → ImportAlike fs gs → first_place (unknown_in home) fs ≡ first_place (unknown_in home) gs
unknowns-alike home = place-alike (unknown_in home) (λ f g alike. unknown-alike home f.tree.imports.items g.tree.imports.items alike)

-- ---- which modules import which

module _ (home : Home) (numbers : List ℕ) where
  imports-alike : (place number : ℕ) (fs gs : List SourceFile) → ImportAlike fs gs → imports_of home (numbered numbers place fs) number ≡ imports_of home (numbered numbers place gs) number
  imports-alike place number [] [] alike = refl
  imports-alike place number [] (g ∷ gs) alike = absurd alike
  imports-alike place number (f ∷ fs) [] alike = absurd alike
  imports-alike place number (f ∷ fs) (g ∷ gs) alike =
      let here = imported-alike home f.tree.imports.items g.tree.imports.items alike.0 in
      let rest = imports-alike (suc place) number fs gs alike.1 in
      λ k. (if get_or numbers place 0 == number then here k else []) ++ rest k

  pub graphs-alike : (number count : ℕ) (fs gs : List SourceFile) → ImportAlike fs gs → graph_from home (numbered numbers 0 fs) number count ≡ graph_from home (numbered numbers 0 gs) number count
  graphs-alike number zero fs gs alike = refl
  graphs-alike number (suc count) fs gs alike =
      let here = imports-alike 0 number fs gs alike in
      let rest = graphs-alike (suc number) count fs gs alike in
      λ k. here k ∷ rest k
