-- What a folder holds is one: its source files, its manifest, and their modules.
use Rattle.std.proofs.Common.{◌≡◌, ◌<◌, ◌⊎◌, ℕ, zero, suc, List, [], ◌∷◌, map, nat_cmp, refl, sym, ap, ◌∙◌, inl, inr, subst, arith}
use Rattle.std.specs.Prelude.{All, Contains, Some, None, slice_get}
use Rattle.std.specs.Cmp.Lexicographic.{slice_cmp}
use Rattle.std.proofs.lemmas.Cmp.{nat_list_cmp_total}
use Rattle.bal_base.specs.declared.fault.Refusal.{Refusal}
use Rattle.bal_tree.specs.declared.package.SourceFile.{SourceFile}
use Rattle.folder_files.specs.Files.{Files, HasFile, names}
use Rattle.manifests.specs.Manifests.{IsBad, Says, manifest_of}
use Rattle.manifests.specs.declared.reading.Manifest.{Manifest}
use Rattle.package_files.specs.Listings.{IsFirst, IsListed, manifest_name}
use Rattle.package_files.specs.Names.{module_of}
use Rattle.package_modules.specs.Modules.{AreModules}
use Rattle.module_loader.specs.Faults.{IsBadManifest}
use Rattle.module_loader.specs.Files.{AreTaken, IsManifest, Taken, taken_names}
use Rattle.module_loader.proofs.Lists.{all-first, all-rest}
use Rattle.module_loader.proofs.Placing.{some-same}
use Rattle.module_loader.proofs.Sorted.{sorted-one}

-- ---- the file with a name

pub three : (m n : ℕ) → (m < n) ⊎ ((m ≡ n) ⊎ (n < m))
three m n = grind arith

first-one : (all : List (List ℕ)) (name : List ℕ) (m n : ℕ) → IsFirst all name m → IsFirst all name n → m ≡ n
first-one all name m n one other = by (three m n)
  where
    by : (m < n) ⊎ ((m ≡ n) ⊎ (n < m)) → m ≡ n
    by (inl less) = absurd (other.1 m less one.0)
    by (inr (inl same)) = same
    by (inr (inr more)) = absurd (one.1 n more other.0)

pub file-one : (files : Files) (name a b : List ℕ) → HasFile files name a → HasFile files name b → a ≡ b
file-one files name a b (m, first, has) (n, second, other) =
    let same = first-one (names files) name m n first second in
    some-same (sym has ∙ (ap (slice_get (map (λ f. f.1) files)) same ∙ other))

listed : (files : Files) (name bytes : List ℕ) → HasFile files name bytes → IsListed (names files) name
listed files name bytes (n, first, has) = (n, first.0)

-- ---- its source files

module _ (files : Files) where
  -- a source file that lies there
  abbrev Lies : Taken → Type 0
  Lies t = HasFile files t.name t.bytes × (module_of t.name ≡ Some t.folder)

  all-lie : (taken : List Taken) → AreTaken files taken → All Lies taken
  all-lie taken are = λ k d lt. (are.lie k d lt, are.folders k d lt)

  named : (taken : List Taken) (name : List ℕ) → All Lies taken → Contains (taken_names taken) name → (t : Taken) × Lies t × (t.name ≡ name)
  named [] name all (k, lt, e) = absurd (let no-way : ⊥ = omega arith in no-way)
  named (t ∷ taken) name all (zero, lt, e) = (t, all-first Lies t taken all, e)
  named (t ∷ taken) name all (suc k, lt, e) = named taken name (all-rest Lies t taken all) (k, omega arith, e)

  names-in : (taken other : List Taken) → AreTaken files taken → AreTaken files other → (name : List ℕ) → Contains (taken_names taken) name → Contains (taken_names other) name
  names-in taken other are others name here =
      let (t, lies, is) = named taken name (all-lie taken are) here in
      subst (Contains (taken_names other)) is (others.all t.name t.folder (listed files t.name t.bytes lies.0) lies.1)

  same-taken : (t u : Taken) → Lies t → Lies u → t.name ≡ u.name → t ≡ u
  same-taken t u one other name =
      let bytes = file-one files u.name t.bytes u.bytes (subst (λ n. HasFile files n t.bytes) name one.0) other.0 in
      let folder : t.folder ≡ u.folder = some-same (sym one.1 ∙ (ap module_of name ∙ other.1)) in
      λ i. record { name = name i; folder = folder i; bytes = bytes i }

  all-same : (taken other : List Taken) → All Lies taken → All Lies other → taken_names taken ≡ taken_names other → taken ≡ other
  all-same [] [] all also e = refl
  all-same [] (u ∷ other) all also e = cc e
  all-same (t ∷ taken) [] all also e = cc e
  all-same (t ∷ taken) (u ∷ other) all also e =
      let here = same-taken t u (all-first Lies t taken all) (all-first Lies u other also) (cc e) in
      let rest = all-same taken other (all-rest Lies t taken all) (all-rest Lies u other also) (cc e) in
      λ i. here i ∷ rest i

  pub taken-one : (taken other : List Taken) → AreTaken files taken → AreTaken files other → taken ≡ other
  taken-one taken other are others =
      all-same taken other (all-lie taken are) (all-lie other others)
      (sorted-one (slice_cmp nat_cmp) nat_list_cmp_total (taken_names taken) (taken_names other) are.rising others.rising (names-in taken other are others) (names-in other taken others are))

-- ---- its manifest

says-one : (bytes : List ℕ) (m n : Manifest) → Says bytes m → Says bytes n → m ≡ n
says-one bytes m n (d, is, of) (e, also, other) =
    let same = some-same (sym is.2 ∙ also.2) in
    some-same (sym of ∙ (ap manifest_of same ∙ other))

says-good : (bytes : List ℕ) (m : Manifest) → Says bytes m → IsBad bytes → ⊥
says-good bytes m (d, is, of) (inl (inl long)) = let short = is.0 in omega arith
says-good bytes m (d, is, of) (inl (inr (inl not))) = not is.1
says-good bytes m (d, is, of) (inl (inr (inr none))) = let both : Some d ≡ None = sym is.2 ∙ none in cc both
says-good bytes m (d, is, of) (inr (e, also, none)) =
    let same = some-same (sym is.2 ∙ also.2) in
    let both : Some m ≡ None = sym of ∙ (ap manifest_of same ∙ none) in
    cc both

pub manifest-one : (files : Files) (m n : Manifest) → IsManifest files m → IsManifest files n → m ≡ n
manifest-one files m n (inl (a, has, says)) (inl (b, other, also)) =
    says-one b m n (subst (λ l. Says l m) (file-one files manifest_name a b has other) says) also
manifest-one files m n (inl (a, has, says)) (inr (none, is)) = absurd (none (listed files manifest_name a has))
manifest-one files m n (inr (none, is)) (inl (b, other, also)) = absurd (none (listed files manifest_name b other))
manifest-one files m n (inr (none, is)) (inr (also, other)) = is ∙ sym other

pub manifest-good : (files : Files) (m : Manifest) (r : Refusal) (read : List SourceFile) → IsManifest files m → IsBadManifest files r read → ⊥
manifest-good files m r read (inl (a, has, says)) bad =
    says-good bad.bytes m (subst (λ l. Says l m) (file-one files manifest_name a bad.bytes has bad.has) says) bad.bad
manifest-good files m r read (inr (none, is)) bad = none (listed files manifest_name bad.bytes bad.has)

-- ---- its modules

abbrev Either : List (List ℕ) → List ℕ → Type 0
Either folders name = (name ≡ []) ⊎ Contains folders name

modules-in : (folders names others : List (List ℕ)) → AreModules folders names → AreModules folders others → (name : List ℕ) → Contains names name → Contains others name
modules-in folders names others are also name here = by (are.are name here)
  where
    by : Either folders name → Contains others name
    by (inl none) = subst (Contains others) (sym none) also.default
    by (inr there) = also.all name there

pub modules-one : (folders names others : List (List ℕ)) → AreModules folders names → AreModules folders others → names ≡ others
modules-one folders names others are also =
    sorted-one (slice_cmp nat_cmp) nat_list_cmp_total names others are.rising also.rising (modules-in folders names others are also) (modules-in folders others names also are)
