-- The function `main` of a package, found among its definitions.
use Rattle.std.proofs.Common.{◌≡◌, ◌==◌, ◌⊎◌, inl, inr, ℕ, zero, suc, ◌-◌, ◌+◌, ◌<◌, Bool, true, false, List, [], ◌∷◌, ◌++◌, map, refl, sym, ap, ◌∙◌, arith, Option, None, Some, cond}
use Rattle.std.specs.Prelude.{slice_get}
use Rattle.std.specs.Option.{option_and_then, option_or}
use Rattle.std.proofs.lemmas.Bool.{false≢true}
use Rattle.std.proofs.lemmas.Bool.Decides.{eqb_tells}
use Rattle.bal_tree.specs.declared.def.Def.{Def}
use Rattle.bal_tree.specs.declared.package.Module.{Module}
use Rattle.bal_tree.specs.declared.package.Package.{Package}
use Rattle.bal_tree.specs.declared.package.SourceFile.{SourceFile}
use Rattle.name_resolution.specs.Definitions.{Placed, definitions_of, in_files, in_modules, placed}
use Rattle.type_builder.specs.Listing.{first_main, main_at}
use Rattle.type_builder.specs.MainFunction.{main_among, main_if, main_in_files, main_of}

or-behind : {X : Type 0} (a b c : Option X) → option_or (option_or a b) c ≡ option_or a (option_or b c)
or-behind None b c = refl
or-behind (Some x) b c = refl

or-none : {X : Type 0} (a : Option X) → option_or a None ≡ a
or-none None = refl
or-none (Some x) = refl

module _ (home : ℕ) where
  two : (ps qs : List Placed) → first_main home (ps ++ qs) ≡ option_or (first_main home ps) (first_main home qs)
  two [] qs = refl
  two (p ∷ ps) qs = ap (option_or (main_at home p)) (two ps qs) ∙ sym (or-behind (main_at home p) (first_main home ps) (first_main home qs))

  here : (b : Bool) (d : Def) → b ≡ true → cond b (main_if d) None ≡ main_if d
  here true d e = refl
  here false d e = absurd (false≢true e)

  there : (b : Bool) (d : Def) → b ≡ false → cond b (main_if d) None ≡ None
  there false d e = refl
  there true d e = absurd (false≢true (sym e))

  module _ (m : ℕ) where
    own-defs : (home == m) ≡ true → (n : ℕ) (ds : List Def) → first_main home (map (placed m n) ds) ≡ main_among ds
    own-defs e n [] = refl
    own-defs e n (d ∷ ds) = ap (λ o. option_or o (first_main home (map (placed m n) ds))) (here (home == m) d e) ∙ ap (option_or (main_if d)) (own-defs e n ds)

    own-files : (home == m) ≡ true → (n : ℕ) (fs : List SourceFile) → first_main home (in_files m n fs) ≡ main_in_files fs
    own-files e n [] = refl
    own-files e n (f ∷ fs) =
        two (map (placed m n) f.tree.defs.items) (in_files m (suc n) fs)
        ∙ ap (λ o. option_or o (first_main home (in_files m (suc n) fs))) (own-defs e n f.tree.defs.items) ∙ ap (option_or (main_among f.tree.defs.items)) (own-files e (suc n) fs)

    other-defs : (home == m) ≡ false → (n : ℕ) (ds : List Def) → first_main home (map (placed m n) ds) ≡ None
    other-defs e n [] = refl
    other-defs e n (d ∷ ds) = ap (λ o. option_or o (first_main home (map (placed m n) ds))) (there (home == m) d e) ∙ other-defs e n ds

    other-files : (home == m) ≡ false → (n : ℕ) (fs : List SourceFile) → first_main home (in_files m n fs) ≡ None
    other-files e n [] = refl
    other-files e n (f ∷ fs) =
        two (map (placed m n) f.tree.defs.items) (in_files m (suc n) fs)
        ∙ ap (λ o. option_or o (first_main home (in_files m (suc n) fs))) (other-defs e n f.tree.defs.items) ∙ other-files e (suc n) fs

  -- behind the module
  passed : (first : ℕ) (ms : List Module) → home < first → first_main home (in_modules first ms) ≡ None
  passed first [] lt = refl
  passed first (m ∷ ms) lt =
      two (in_files first 0 m.files) (in_modules (suc first) ms)
      ∙ ap (λ o. option_or o (first_main home (in_modules (suc first) ms))) (other-files first (differs (eqb_tells home first)) 0 m.files) ∙ passed (suc first) ms (omega (arith, lt))
    where
      differs : ((home == first ≡ true) × (home ≡ first)) ⊎ ((home == first ≡ false) × (home ≡ first → ⊥)) → (home == first) ≡ false
      differs (inl e) = absurd (let same = e.1 in omega (arith, same, lt))
      differs (inr e) = e.0

  found : (first k : ℕ) (ms : List Module) → k + first ≡ home → first_main home (in_modules first ms) ≡ option_and_then (λ m. main_in_files m.files) (slice_get ms k)
  found first k [] e = refl
  found first zero (m ∷ ms) e =
      two (in_files first 0 m.files) (in_modules (suc first) ms)
      ∙ ap (λ o. option_or o (first_main home (in_modules (suc first) ms))) (own-files first (same (eqb_tells home first)) 0 m.files)
      ∙ ap (option_or (main_in_files m.files)) (passed (suc first) ms (omega (arith, e))) ∙ or-none (main_in_files m.files)
    where
      same : ((home == first ≡ true) × (home ≡ first)) ⊎ ((home == first ≡ false) × (home ≡ first → ⊥)) → (home == first) ≡ true
      same (inl t) = t.0
      same (inr t) = absurd (t.1 (omega (arith, e)))
  found first (suc k) (m ∷ ms) e =
      two (in_files first 0 m.files) (in_modules (suc first) ms)
      ∙ ap (λ o. option_or o (first_main home (in_modules (suc first) ms))) (other-files first (differs (eqb_tells home first)) 0 m.files)
      ∙ found (suc first) k ms (omega (arith, e))
    where
      differs : ((home == first ≡ true) × (home ≡ first)) ⊎ ((home == first ≡ false) × (home ≡ first → ⊥)) → (home == first) ≡ false
      differs (inl t) = absurd (let same = t.1 in omega (arith, same, e))
      differs (inr t) = t.0

pub main-listed : (p : Package) → first_main p.main (definitions_of p) ≡ main_of p
main-listed p = found p.main 0 p.main p.modules (omega arith)
