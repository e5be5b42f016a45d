-- Which modules import which: the graph as it is built, and that it names only its modules.
use Rattle.std.proofs.Common.{◌≡◌, ◌<◌, ◌+◌, ◌==◌, ◌⊎◌, inl, inr, ℕ, zero, suc, Bool, true, false, cond, List, [], ◌∷◌, ◌++◌, append_assoc, get_or, length, take, refl, sym, ap, ◌∙◌, subst, arith}
use Rattle.std.specs.Prelude.{All, Contains, Option, Some, None, if◌then◌else◌, option_map, position}
use Rattle.std.specs.List.{cons_option}
use Rattle.std.proofs.lemmas.List.{append-nil, length-take, take_more}
use Rattle.std.proofs.lemmas.List.Quantifiers.{position-Some}
use Rattle.bal_tree.specs.declared.def.Import.{Import}
use Rattle.bal_tree.specs.declared.package.SourceFile.{SourceFile}
use Rattle.graphs.specs.Ordering.{IsInside}
use Rattle.package_imports.specs.Imports.{Home, imported, is_library, is_own_org, is_same, module_number, org_of, own_module, path_of, target_of}
use Rattle.package_imports.specs.declared.targets.Target.TheVariants.{Library, Module}
use Rattle.package_making.specs.Making.{numbered}
use Rattle.module_loader.specs.Packages.{graph_from, imports_of}
use Rattle.module_loader.proofs.Lists.{all-append, all-more, all-none}

-- ---- one more file, one more module

-- what a file adds to the imports of a module
abbrev pub added : Home → ℕ → ℕ → SourceFile → List ℕ
added home number of file = if of == number then imported home file.tree.imports.items else []

imports-push : (home : Home) (numbers : List ℕ) (place number : ℕ) (files : List SourceFile) (file : SourceFile)
    → imports_of home (numbered numbers place (files ++ file ∷ [])) number ≡ imports_of home (numbered numbers place files) number ++ added home number (get_or numbers (place + length files) 0) file
imports-push home numbers place number [] file =
    let e : place + 0 ≡ place = omega arith in
    append-nil (added home number (get_or numbers place 0) file) ∙ ap (λ p. added home number (get_or numbers p 0) file) (sym e)
imports-push home numbers place number (f ∷ files) file =
    let e : suc place + length files ≡ place + suc (length files) = omega arith in
    let rest = imports-push home numbers (suc place) number files file ∙ ap (λ p. imports_of home (numbered numbers (suc place) files) number ++ added home number (get_or numbers p 0) file) e in
    ap (λ l. added home number (get_or numbers place 0) f ++ l) rest
    ∙ sym (append_assoc (added home number (get_or numbers place 0) f) (imports_of home (numbered numbers (suc place) files) number) (added home number (get_or numbers (place + suc (length files)) 0) file))

pub imports-more : (home : Home) (numbers : List ℕ) (number i : ℕ) (read : List SourceFile) (file : SourceFile) (all : List ℕ) → i < length read → get_or read i file ≡ file
    → all ≡ imports_of home (numbered numbers 0 (take i read)) number
    → all ++ added home number (get_or numbers i 0) file ≡ imports_of home (numbered numbers 0 (take (i + 1) read)) number
imports-more home numbers number i read file all lt is so =
    let long : 0 + length (take i read) ≡ i = omega (arith, length-take i read) in
    let more : take (i + 1) read ≡ take i read ++ file ∷ [] = take_more read i file lt ∙ ap (λ f. take i read ++ f ∷ []) is in
    ap (λ l. l ++ added home number (get_or numbers i 0) file) so
    ∙ (ap (λ p. imports_of home (numbered numbers 0 (take i read)) number ++ added home number (get_or numbers p 0) file) (sym long)
    ∙ (sym (imports-push home numbers 0 number (take i read) file) ∙ ap (λ fs. imports_of home (numbered numbers 0 fs) number) (sym more)))

graph-push : (home : Home) (files : List (ℕ × SourceFile)) (number count : ℕ) → graph_from home files number (suc count) ≡ graph_from home files number count ++ imports_of home files (number + count) ∷ []
graph-push home files number zero = let e : number ≡ number + 0 = omega arith in ap (λ n. imports_of home files n ∷ []) e
graph-push home files number (suc count) =
    let e : suc number + count ≡ number + suc count = omega arith in
    ap (λ l. imports_of home files number ∷ l) (graph-push home files (suc number) count ∙ ap (λ n. graph_from home files (suc number) count ++ imports_of home files n ∷ []) e)

pub graph-more : (home : Home) (files : List (ℕ × SourceFile)) (number : ℕ) (next : List (List ℕ)) (all : List ℕ) → next ≡ graph_from home files 0 number → all ≡ imports_of home files number
    → next ++ all ∷ [] ≡ graph_from home files 0 (number + 1)
graph-more home files number next all so is =
    let e : 0 + number ≡ number = omega arith in
    let one : number + 1 ≡ suc number = omega arith in
    (λ j. so j ++ is j ∷ [])
    ∙ (ap (λ n. graph_from home files 0 number ++ imports_of home files n ∷ []) (sym e) ∙ (sym (graph-push home files 0 number) ∙ ap (graph_from home files 0) (sym one)))

-- ---- only modules of the graph are imported

module _ (home : Home) (count : ℕ) (few : length home.paths < count) where
  own-inside : (i : Import) (j : ℕ) → own_module home i ≡ Some j → j < count
  own-inside i j e = by (is_own_org home.org (org_of i)) e
    where
      placed : (o : Option ℕ) → position (λ path. is_same path (path_of i)) home.paths ≡ o → option_map suc o ≡ Some j → j < count
      placed (Some p) is e =
          let at = (position-Some (λ path. is_same path (path_of i)) home.paths p [] is).0 in
          let same : suc p ≡ j = cc in
          omega arith
      placed None is e = absurd (let no-way : ⊥ = cc in no-way)

      by : (b : Bool) → cond b (option_map suc (position (λ path. is_same path (path_of i)) home.paths)) None ≡ Some j → j < count
      by true e = placed (position (λ path. is_same path (path_of i)) home.paths) refl e
      by false e = absurd (let no-way : ⊥ = cc in no-way)

  module-inside : (i : Import) (j : ℕ) → module_number (target_of home i) ≡ Some j → j < count
  module-inside i j e = by (is_library i) e
    where
      own : (o : Option ℕ) → own_module home i ≡ o → module_number (option_map Module o) ≡ Some j → j < count
      own (Some k) is e = own-inside i j (is ∙ e)
      own None is e = absurd (let no-way : ⊥ = cc in no-way)

      by : (b : Bool) → module_number (cond b (Some Library) (option_map Module (own_module home i))) ≡ Some j → j < count
      by true e = absurd (let no-way : ⊥ = cc in no-way)
      by false e = own (own_module home i) refl e

  abbrev Below : ℕ → Type 0
  Below j = j < count

  imported-inside : (imports : List Import) → All Below (imported home imports)
  imported-inside [] = all-none Below
  imported-inside (i ∷ imports) = by (module_number (target_of home i)) refl (imported-inside imports)
    where
      by : (o : Option ℕ) → module_number (target_of home i) ≡ o → All Below (imported home imports) → All Below (cons_option o (imported home imports))
      by (Some j) is rest = all-more Below j (imported home imports) (module-inside i j is) rest
      by None is rest = rest

  imports-inside : (files : List (ℕ × SourceFile)) (number : ℕ) → All Below (imports_of home files number)
  imports-inside [] number = all-none Below
  imports-inside (f ∷ files) number =
      all-append Below (added home number f.0 f.1) (imports_of home files number) (by (f.0 == number)) (imports-inside files number)
    where
      by : (b : Bool) → All Below (cond b (imported home f.1.tree.imports.items) [])
      by true = imported-inside f.1.tree.imports.items
      by false = all-none Below

  rows-inside : (files : List (ℕ × SourceFile)) (number rows : ℕ) → All (All Below) (graph_from home files number rows)
  rows-inside files number zero = all-none (All Below)
  rows-inside files number (suc rows) =
      all-more (All Below) (imports_of home files number) (graph_from home files (suc number) rows) (imports-inside files number) (rows-inside files (suc number) rows)

pub graph-long : (home : Home) (files : List (ℕ × SourceFile)) (number count : ℕ) → length (graph_from home files number count) ≡ count
graph-long home files number zero = refl
graph-long home files number (suc count) = ap suc (graph-long home files (suc number) count)

rows-below : (rows : List (List ℕ)) (count : ℕ) → All (All (λ j. j < count)) rows → (i j : ℕ) → Contains (get_or rows i []) j → j < count
rows-below rows count all i j (k, lt, e) = by (lt-or rows i)
  where
    lt-or : (rows : List (List ℕ)) (i : ℕ) → (i < length rows) ⊎ (get_or rows i [] ≡ [])
    lt-or [] i = inr refl
    lt-or (r ∷ rows) zero = inl (omega arith)
    lt-or (r ∷ rows) (suc i) = elim (lt-or rows i) [ inl lt ↦ inl (omega arith) | inr e ↦ inr e ]

    by : (i < length rows) ⊎ (get_or rows i [] ≡ []) → j < count
    by (inl within) = subst (λ n. n < count) e (all i [] within k j lt)
    by (inr none) = absurd (let short : length (get_or rows i []) ≡ 0 = ap length none in let no-way : ⊥ = omega arith in no-way)

pub graph-inside : (home : Home) (files : List (ℕ × SourceFile)) (count : ℕ) → length home.paths < count → IsInside (graph_from home files 0 count)
graph-inside home files count few i j follows =
    subst (λ n. j < n) (sym (graph-long home files 0 count)) (rows-below (graph_from home files 0 count) count (rows-inside home count few files 0 count) i j follows)
