-- A folder's files make a package or are refused for one reason: never both, and never for two.
use Rattle.std.proofs.Common.{◌≡◌, ◌≤◌, ◌<◌, ◌+◌, ◌⊎◌, ℕ, zero, suc, List, [], ◌∷◌, get_or, length, map, take, refl, sym, ap, ◌∙◌, inl, inr, subst, arith}
use Rattle.std.specs.Prelude.{Option, Some, None, slice_get}
use Rattle.std.proofs.lemmas.List.Sums.{sum_by-cons}
use Rattle.bal_base.specs.declared.fault.Refusal.{Refusal}
use Rattle.bal_base.specs.declared.fault.FaultCode.TheVariants.{Duplicate, NoModule}
use Rattle.bal_tree.specs.declared.package.Package.{Package}
use Rattle.bal_tree.specs.declared.package.SourceFile.{SourceFile}
use Rattle.folder_files.specs.Files.{Files}
use Rattle.graphs.specs.Cycles.{ComesFirst, IsFirstCycle, IsOnCycle}
use Rattle.manifests.specs.declared.reading.Manifest.{Manifest}
use Rattle.package_imports.specs.Cycles.{IsLeastCycle}
use Rattle.source_files.specs.Files.{IsSource, IsUnread}
use Rattle.source_files.specs.Told.{refusal_of}
use Rattle.module_loader.specs.Faults.{HasBadFile, HasBadImports, HasCycle, HasLinkFault, HasManyFiles, HasRepeat, HasUnknown, IsLinkFault, IsReadingFault, IsRefusedFor, IsTooLongAt, IsUnreadAt, at_import, cyclic, too_large}
use Rattle.module_loader.specs.Files.{AreRead, AreTaken, Taken, total}
use Rattle.module_loader.specs.Packages.{Makes, PackageOf, first_place, graph_of, home_of, names_of, numbers_of, repeat_in, unknown_in}
use Rattle.module_loader.specs.declared.limits.TheConstants.{MOST_FILES, MOST_MODULES, MOST_PACKAGE_BYTES}
use Rattle.module_loader.proofs.AlikeFiles.{ImportAlike, graphs-alike, reads-alike, repeats-alike, unknowns-alike}
use Rattle.module_loader.proofs.OneFolder.{manifest-good, manifest-one, modules-one, taken-one, three}
use Rattle.module_loader.proofs.Placing.{some-same}

none-and-some : {X : Type 0} {o : Option X} {x : X} → o ≡ None → o ≡ Some x → ⊥
none-and-some none some = let both = sym none ∙ some in cc both

-- ---- while files are read

-- those at the front of what was read
source-at : (n : ℕ) (taken : List Taken) (read : List SourceFile) (k : ℕ) (t : Taken) → AreRead n taken read → slice_get taken k ≡ Some t → (source : SourceFile) × IsSource (n + k) t.name t.bytes source
source-at n [] read k t are e = absurd (none-and-some refl e)
source-at n (u ∷ taken) [] k t are e = absurd are
source-at n (u ∷ taken) (s ∷ read) zero t are e =
    (s, subst (λ m. IsSource m t.name t.bytes s) (let z : n ≡ n + 0 = omega arith in z) (subst (λ (x : Taken). IsSource n x.name x.bytes s) (some-same e) are.0))
source-at n (u ∷ taken) (s ∷ read) (suc k) t are e =
    let (source, is) = source-at (suc n) taken read k t are.1 e in
    (source, subst (λ m. IsSource m t.name t.bytes source) (let z : suc n + k ≡ n + suc k = omega arith in z) is)

source-here : (taken : List Taken) (read : List SourceFile) (k : ℕ) (t : Taken) → AreRead 0 taken read → slice_get taken k ≡ Some t → (source : SourceFile) × IsSource k t.name t.bytes source
source-here taken read k t are e =
    let (source, is) = source-at 0 taken read k t are e in
    (source, subst (λ m. IsSource m t.name t.bytes source) (let z : 0 + k ≡ k = omega arith in z) is)

taken-before : (taken : List Taken) (j k : ℕ) (t : Taken) → slice_get taken k ≡ Some t → k < j → slice_get (take j taken) k ≡ Some t
taken-before [] j k t e lt = absurd (none-and-some refl e)
taken-before (u ∷ taken) zero k t e lt = absurd (let no-way : ⊥ = omega arith in no-way)
taken-before (u ∷ taken) (suc j) zero t e lt = e
taken-before (u ∷ taken) (suc j) (suc k) t e lt = taken-before taken j k t e (omega arith)

total-first : (t : Taken) (taken : List Taken) → total (t ∷ taken) ≡ length t.bytes + total taken
total-first t taken = sum_by-cons (λ n. n) (length t.bytes) (map (λ (u : Taken). length u.bytes) taken)

total-before : (taken : List Taken) (k : ℕ) → total (take k taken) ≤ total taken
total-before taken zero = omega arith
total-before [] (suc k) = omega arith
total-before (t ∷ taken) (suc k) =
    let rest = total-before taken k in
    let front : total (take (suc k) (t ∷ taken)) ≡ length t.bytes + total (take k taken) = total-first t (take k taken) in
    let whole = total-first t taken in
    omega arith

total-more : (taken : List Taken) (j k : ℕ) → j ≤ k → total (take j taken) ≤ total (take k taken)
total-more taken zero k le = omega arith
total-more taken (suc j) zero le = absurd (let no-way : ⊥ = omega arith in no-way)
total-more [] (suc j) (suc k) le = omega arith
total-more (t ∷ taken) (suc j) (suc k) le =
    let rest = total-more taken j k (omega arith) in
    let front : total (take (suc j) (t ∷ taken)) ≡ length t.bytes + total (take j taken) = total-first t (take j taken) in
    let further : total (take (suc k) (t ∷ taken)) ≡ length t.bytes + total (take k taken) = total-first t (take k taken) in
    omega arith

-- a file that comes to no tree isn't read
unread-or-read : (number : ℕ) (t : Taken) (r : Refusal) → IsUnread number t.name t.bytes r → (source : SourceFile) × IsSource number t.name t.bytes source → ⊥
unread-or-read number t r unread (source, is) = unread.no_tree source.tree is.reads

-- and is refused for one reason
unread-one : (number : ℕ) (name bytes : List ℕ) (q r : Refusal) → IsUnread number name bytes q → IsUnread number name bytes r → q ≡ r
unread-one number name bytes q r one other = one.is ∙ (ap (refusal_of name bytes) (sym (one.only other.fault other.has)) ∙ sym other.is)

module _ (taken : List Taken) where
  -- all files are read, and they aren't too long together
  pub reading-good : (read : List SourceFile) (r : Refusal) (some : List SourceFile) → AreRead 0 taken read → total taken ≤ MOST_PACKAGE_BYTES → IsReadingFault taken r some → ⊥
  reading-good read r some are small (inl f) = unread-or-read f.number f.file r f.unread (source-here taken read f.number f.file are f.there)
  reading-good read r some are small (inr f) = let less = total-before taken (f.number + 1) in let more = f.many in omega arith

  -- one comes to no tree, where more are read
  read-later : (j k : ℕ) (t : Taken) (read : List SourceFile) (r : Refusal) → AreRead 0 (take j taken) read → slice_get taken k ≡ Some t → IsUnread k t.name t.bytes r → k < j → ⊥
  read-later j k t read r are there unread lt = unread-or-read k t r unread (source-here (take j taken) read k t are (taken-before taken j k t there lt))

  unreads-one : (q r : Refusal) (read other : List SourceFile) → IsUnreadAt taken q read → IsUnreadAt taken r other → q ≡ r
  unreads-one q r read other f g = by (three f.number g.number)
    where
      by : (f.number < g.number) ⊎ ((f.number ≡ g.number) ⊎ (g.number < f.number)) → q ≡ r
      by (inl less) = absurd (read-later g.number f.number f.file other q g.reads f.there f.unread less)
      by (inr (inl same)) =
          let file : f.file ≡ g.file = some-same (sym f.there ∙ (ap (slice_get taken) same ∙ g.there)) in
          let here : IsUnread g.number g.file.name g.file.bytes q = subst (λ (t : Taken). IsUnread g.number t.name t.bytes q) file (subst (λ n. IsUnread n f.file.name f.file.bytes q) same f.unread) in
          unread-one g.number g.file.name g.file.bytes q r here g.unread
      by (inr (inr more)) = absurd (read-later f.number g.number g.file read r f.reads g.there g.unread more)

  -- where they come to be too long, those before are read
  unread-or-long : (q r : Refusal) (read other : List SourceFile) → IsUnreadAt taken q read → IsTooLongAt taken r other → ⊥
  unread-or-long q r read other f g = by (three f.number g.number)
    where
      by : (f.number < g.number) ⊎ ((f.number ≡ g.number) ⊎ (g.number < f.number)) → ⊥
      by (inl less) = read-later (g.number + 1) f.number f.file other q g.reads f.there f.unread (omega arith)
      by (inr (inl same)) = read-later (g.number + 1) f.number f.file other q g.reads f.there f.unread (omega arith)
      by (inr (inr more)) = let less = total-more taken (g.number + 1) f.number (omega arith) in let many = g.many in let small = f.small in omega arith

  longs-one : (q r : Refusal) (read other : List SourceFile) → IsTooLongAt taken q read → IsTooLongAt taken r other → q ≡ r
  longs-one q r read other f g = by (three f.number g.number)
    where
      by : (f.number < g.number) ⊎ ((f.number ≡ g.number) ⊎ (g.number < f.number)) → q ≡ r
      by (inl less) = absurd (let more = total-more taken (f.number + 1) g.number (omega arith) in let many = f.many in let small = g.small in let no-way : ⊥ = omega arith in no-way)
      by (inr (inl same)) = f.is ∙ (ap (λ n. too_large (total (take (n + 1) taken))) same ∙ sym g.is)
      by (inr (inr greater)) = absurd (let more = total-more taken (g.number + 1) f.number (omega arith) in let many = g.many in let small = f.small in let no-way : ⊥ = omega arith in no-way)

  pub reading-one : (q r : Refusal) (read other : List SourceFile) → IsReadingFault taken q read → IsReadingFault taken r other → q ≡ r
  reading-one q r read other (inl f) (inl g) = unreads-one q r read other f g
  reading-one q r read other (inl f) (inr g) = absurd (unread-or-long q r read other f g)
  reading-one q r read other (inr f) (inl g) = absurd (unread-or-long r q other read g f)
  reading-one q r read other (inr f) (inr g) = longs-one q r read other f g

-- ---- the cycle that is shown

first-one : (xs ys : List ℕ) → length xs ≡ length ys → ComesFirst xs ys → ComesFirst ys xs → xs ≡ ys
first-one [] [] long p q = refl
first-one [] (y ∷ ys) long p q = absurd (let no-way : ⊥ = omega arith in no-way)
first-one (x ∷ xs) [] long p q = absurd p
first-one (x ∷ xs) (y ∷ ys) long (inl less) (inl more) = absurd (let no-way : ⊥ = omega arith in no-way)
first-one (x ∷ xs) (y ∷ ys) long (inl less) (inr (same, q)) = absurd (let no-way : ⊥ = omega arith in no-way)
first-one (x ∷ xs) (y ∷ ys) long (inr (same, p)) (inl more) = absurd (let no-way : ⊥ = omega arith in no-way)
first-one (x ∷ xs) (y ∷ ys) long (inr (same, p)) (inr (back, q)) = let rest = first-one xs ys (omega arith) p q in λ i. same i ∷ rest i

cycle-one : (next : List (List ℕ)) (first : ℕ) (xs ys : List ℕ) → IsFirstCycle next first xs → IsFirstCycle next first ys → xs ≡ ys
cycle-one next first xs ys f g =
    let less = f.shortest ys g.cycle in
    let more = g.shortest xs f.cycle in
    first-one xs ys (omega arith) (f.earliest ys g.cycle (omega arith)) (g.earliest xs f.cycle (omega arith))

least-one : (next : List (List ℕ)) (m n : ℕ) (xs ys : List ℕ) → IsLeastCycle next m xs → IsLeastCycle next n ys → m ∷ xs ≡ n ∷ ys
least-one next m n xs ys f g = by (three m n)
  where
    by : (m < n) ⊎ ((m ≡ n) ⊎ (n < m)) → m ∷ xs ≡ n ∷ ys
    by (inl less) = absurd (g.least m less (xs, f.cycle.cycle))
    by (inr (inl same)) = let rest = cycle-one next n xs ys (subst (λ k. IsFirstCycle next k xs) same f.cycle) g.cycle in λ i. same i ∷ rest i
    by (inr (inr more)) = absurd (f.least n more (ys, g.cycle.cycle))

-- ---- where all files are read

module _ (manifest : Manifest) (folders : List (List ℕ)) (taken : List Taken) (read other : List SourceFile) (alike : ImportAlike read other) where
  repeats : first_place repeat_in read ≡ first_place repeat_in other
  repeats = repeats-alike read other alike

  unknowns : first_place (unknown_in (home_of manifest folders)) read ≡ first_place (unknown_in (home_of manifest folders)) other
  unknowns = unknowns-alike (home_of manifest folders) read other alike

  graphs : graph_of manifest folders taken read ≡ graph_of manifest folders taken other
  graphs = graphs-alike (home_of manifest folders) (numbers_of folders taken) 0 (length folders) read other alike

  -- nothing of it is so where a package is made
  pub link-good : (r : Refusal) → length folders ≤ MOST_MODULES → first_place repeat_in read ≡ None → first_place (unknown_in (home_of manifest folders)) read ≡ None
      → ((i : ℕ) → ¬ IsOnCycle (graph_of manifest folders taken read) i) → IsLinkFault manifest folders taken other r → ⊥
  link-good r few unrepeated known acyclic (inl many) = let more = many.0 in omega arith
  link-good r few unrepeated known acyclic (inr (less, inl f)) = none-and-some (sym repeats ∙ unrepeated) f.first
  link-good r few unrepeated known acyclic (inr (less, inr (inl f))) = none-and-some (sym unknowns ∙ known) f.first
  link-good r few unrepeated known acyclic (inr (less, inr (inr f))) =
      acyclic f.first (subst (λ g. IsOnCycle g f.first) (sym graphs) (f.others, f.least.cycle.cycle))

  repeat-one : (q r : Refusal) → HasRepeat manifest folders taken read q → HasRepeat manifest folders taken other r → q ≡ r
  repeat-one q r f g = f.is ∙ (ap (at_import taken Duplicate) (some-same (sym f.first ∙ (repeats ∙ g.first))) ∙ sym g.is)

  unknown-one : (q r : Refusal) → HasUnknown manifest folders taken read q → HasUnknown manifest folders taken other r → q ≡ r
  unknown-one q r f g = f.is ∙ (ap (at_import taken NoModule) (some-same (sym f.first ∙ (unknowns ∙ g.first))) ∙ sym g.is)

  cycles-one : (q r : Refusal) → HasCycle manifest folders taken read q → HasCycle manifest folders taken other r → q ≡ r
  cycles-one q r f g =
      let same = least-one (graph_of manifest folders taken other) f.first g.first f.others g.others (subst (λ n. IsLeastCycle n f.first f.others) graphs f.least) g.least in
      f.is ∙ (ap (λ l. cyclic (map (λ i. get_or (names_of manifest folders) i []) l)) same ∙ sym g.is)

  pub link-one : (q r : Refusal) → IsLinkFault manifest folders taken read q → IsLinkFault manifest folders taken other r → q ≡ r
  link-one q r (inl f) (inl g) = f.1 ∙ sym g.1
  link-one q r (inl f) (inr g) = absurd (let many = f.0 in let few = g.0 in let no-way : ⊥ = omega arith in no-way)
  link-one q r (inr f) (inl g) = absurd (let many = g.0 in let few = f.0 in let no-way : ⊥ = omega arith in no-way)
  link-one q r (inr (few, inl f)) (inr (less, inl g)) = repeat-one q r f g
  link-one q r (inr (few, inl f)) (inr (less, inr (inl g))) = absurd (none-and-some (repeats ∙ g.unrepeated) f.first)
  link-one q r (inr (few, inl f)) (inr (less, inr (inr g))) = absurd (none-and-some (repeats ∙ g.unrepeated) f.first)
  link-one q r (inr (few, inr (inl f))) (inr (less, inl g)) = absurd (none-and-some (sym repeats ∙ f.unrepeated) g.first)
  link-one q r (inr (few, inr (inl f))) (inr (less, inr (inl g))) = unknown-one q r f g
  link-one q r (inr (few, inr (inl f))) (inr (less, inr (inr g))) = absurd (none-and-some (unknowns ∙ g.known) f.first)
  link-one q r (inr (few, inr (inr f))) (inr (less, inl g)) = absurd (none-and-some (sym repeats ∙ f.unrepeated) g.first)
  link-one q r (inr (few, inr (inr f))) (inr (less, inr (inl g))) = absurd (none-and-some (sym unknowns ∙ f.known) g.first)
  link-one q r (inr (few, inr (inr f))) (inr (less, inr (inr g))) = cycles-one q r f g

-- ---- of a folder

module _ (files : Files) where
  few-or-many : (taken : List Taken) (r : Refusal) (read : List SourceFile) → AreTaken files taken → length taken ≤ MOST_FILES → HasManyFiles files r read → ⊥
  few-or-many taken r read are few f =
      let same = taken-one files taken f.taken are f.are in
      let less = subst (λ l. length l ≤ MOST_FILES) same few in
      let many = f.many in
      omega arith

  -- its modules and imports make a package, or they don't
  links-good : (p : Package) (r : Refusal) (read : List SourceFile) → PackageOf files p → HasBadImports files r read → ⊥
  links-good p r read made f =
      let found = made.are.found in
      let taken = taken-one files made.taken f.taken found.are f.are.found.are in
      let manifest = manifest-one files made.manifest f.manifest found.says f.are.found.says in
      let reads = subst (λ l. AreRead 0 l made.read) taken made.are.reads in
      let makes = subst (λ l. Makes f.manifest l made.read p) taken (subst (λ m. Makes m made.taken made.read p) manifest made.makes) in
      let folders = modules-one _ f.fault.folders makes.folders f.fault.modules makes.modules in
      link-good f.manifest makes.folders f.taken made.read read (reads-alike 0 f.taken made.read read reads f.are.reads) r makes.few makes.unrepeated makes.known makes.acyclic
      (subst (λ l. IsLinkFault f.manifest l f.taken read r) folders f.fault.fault)

  links-one : (q r : Refusal) (read other : List SourceFile) → HasBadImports files q read → HasBadImports files r other → q ≡ r
  links-one q r read other f g =
      let taken = taken-one files f.taken g.taken f.are.found.are g.are.found.are in
      let manifest = manifest-one files f.manifest g.manifest f.are.found.says g.are.found.says in
      let reads = subst (λ l. AreRead 0 l read) taken f.are.reads in
      let fault = subst (λ l. HasLinkFault g.manifest l read q) taken (subst (λ m. HasLinkFault m f.taken read q) manifest f.fault) in
      let folders = modules-one _ g.fault.folders fault.folders g.fault.modules fault.modules in
      link-one g.manifest fault.folders g.taken read other (reads-alike 0 g.taken read other reads g.are.reads) q r fault.fault
      (subst (λ l. IsLinkFault g.manifest l g.taken other r) folders g.fault.fault)

  pub package-or-refused : (p : Package) (r : Refusal) (read : List SourceFile) → PackageOf files p → IsRefusedFor files r read → ⊥
  package-or-refused p r read made (inl f) = few-or-many made.taken r read made.are.found.are made.are.found.few f
  package-or-refused p r read made (inr (inl f)) = manifest-good files made.manifest r read made.are.found.says f.bad
  package-or-refused p r read made (inr (inr (inl f))) =
      let same = taken-one files f.taken made.taken f.found.are made.are.found.are in
      reading-good made.taken made.read r read made.are.reads made.are.small (subst (λ l. IsReadingFault l r read) same f.fault)
  package-or-refused p r read made (inr (inr (inr f))) = links-good p r read made f

  files-one : (q r : Refusal) (read other : List SourceFile) → HasBadFile files q read → HasBadFile files r other → q ≡ r
  files-one q r read other f g =
      let same = taken-one files f.taken g.taken f.found.are g.found.are in
      reading-one g.taken q r read other (subst (λ l. IsReadingFault l q read) same f.fault) g.fault

  file-or-imports : (q r : Refusal) (read other : List SourceFile) → HasBadFile files q read → HasBadImports files r other → ⊥
  file-or-imports q r read other f g =
      let same = taken-one files f.taken g.taken f.found.are g.are.found.are in
      reading-good g.taken other q read g.are.reads g.are.small (subst (λ l. IsReadingFault l q read) same f.fault)

  many-one : (q r : Refusal) (read other : List SourceFile) → HasManyFiles files q read → HasManyFiles files r other → q ≡ r
  many-one q r read other f g =
      let same = taken-one files f.taken g.taken f.are g.are in
      f.is ∙ (ap (λ (l : List Taken). too_large (length l)) same ∙ sym g.is)

  pub refusal-one : (q r : Refusal) (read other : List SourceFile) → IsRefusedFor files q read → IsRefusedFor files r other → q ≡ r
  refusal-one q r read other (inl f) (inl g) = many-one q r read other f g
  refusal-one q r read other (inl f) (inr (inl g)) = absurd (few-or-many g.taken q read g.are g.few f)
  refusal-one q r read other (inl f) (inr (inr (inl g))) = absurd (few-or-many g.taken q read g.found.are g.found.few f)
  refusal-one q r read other (inl f) (inr (inr (inr g))) = absurd (few-or-many g.taken q read g.are.found.are g.are.found.few f)
  refusal-one q r read other (inr (inl f)) (inl g) = absurd (few-or-many f.taken r other f.are f.few g)
  refusal-one q r read other (inr (inl f)) (inr (inl g)) = f.bad.is ∙ sym g.bad.is
  refusal-one q r read other (inr (inl f)) (inr (inr (inl g))) = absurd (manifest-good files g.manifest q read g.found.says f.bad)
  refusal-one q r read other (inr (inl f)) (inr (inr (inr g))) = absurd (manifest-good files g.manifest q read g.are.found.says f.bad)
  refusal-one q r read other (inr (inr (inl f))) (inl g) = absurd (few-or-many f.taken r other f.found.are f.found.few g)
  refusal-one q r read other (inr (inr (inl f))) (inr (inl g)) = absurd (manifest-good files f.manifest r other f.found.says g.bad)
  refusal-one q r read other (inr (inr (inl f))) (inr (inr (inl g))) = files-one q r read other f g
  refusal-one q r read other (inr (inr (inl f))) (inr (inr (inr g))) = absurd (file-or-imports q r read other f g)
  refusal-one q r read other (inr (inr (inr f))) (inl g) = absurd (few-or-many f.taken r other f.are.found.are f.are.found.few g)
  refusal-one q r read other (inr (inr (inr f))) (inr (inl g)) = absurd (manifest-good files f.manifest r other f.are.found.says g.bad)
  refusal-one q r read other (inr (inr (inr f))) (inr (inr (inl g))) = absurd (file-or-imports r q other read g f)
  refusal-one q r read other (inr (inr (inr f))) (inr (inr (inr g))) = links-one q r read other f g
