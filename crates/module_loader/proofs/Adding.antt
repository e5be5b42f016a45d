-- Source files that are read one after another: one more is read, or is refused.
use Rattle.std.proofs.Common.{◌≡◌, ◌≤◌, ◌<◌, ◌+◌, ◌⊎◌, ℕ, suc, List, [], ◌∷◌, ◌++◌, length, map, take, get_or, refl, sym, ap, ◌∙◌, inl, inr, subst, arith}
use Rattle.std.specs.Prelude.{Option, Some, None, IfSome, slice_get, sum, option_map}
use Rattle.std.proofs.lemmas.List.{take_all, take_more}
use Rattle.std.proofs.lemmas.Option.{get_or_from_slice_get, slice_get-get_or, slice_get-map}
use Rattle.bal_base.specs.declared.fault.Refusal.{Refusal}
use Rattle.bal_io.specs.Content.{CanOpen}
use Rattle.bal_tree.specs.declared.package.SourceFile.{SourceFile}
use Rattle.folder_files.specs.Files.{Files, IsFrontOf}
use Rattle.source_files.specs.Files.{IsSource, IsUnread}
use Rattle.source_files.proofs.Unread.{front-source, front-unread}
use Rattle.module_loader.specs.Faults.{IsReadingFault, too_large}
use Rattle.module_loader.specs.Files.{AreRead, Taken, total}
use Rattle.module_loader.specs.inner.Begun.{Adds, AreReadFrom, IsTooMuch, IsUnreadNext}
use Rattle.module_loader.specs.inner.Sources.{AreThere, bytes_at, taken_from, taken_in}
use Rattle.module_loader.specs.declared.limits.TheConstants.{MOST_PACKAGE_BYTES}
use Rattle.module_loader.specs.declared.reading.Reading.{Reading}
use Rattle.module_loader.specs.declared.sources.Source.{Source}
use Rattle.module_loader.proofs.Lists.{map-long, map-push, sum-push}
use Rattle.module_loader.proofs.Taking.{bytes-are}

-- ---- lists of files

pub read-push : (n : ℕ) (taken : List Taken) (read : List SourceFile) (t : Taken) (source : SourceFile) → AreRead n taken read
    → IsSource (n + length read) t.name t.bytes source → AreRead n (taken ++ t ∷ []) (read ++ source ∷ [])
read-push n [] [] t source are is = let e : n + 0 ≡ n = omega arith in (subst (λ k. IsSource k t.name t.bytes source) e is, tt)
read-push n [] (s ∷ read) t source are is = absurd are
read-push n (u ∷ taken) [] t source are is = absurd are
read-push n (u ∷ taken) (s ∷ read) t source are is =
    let e : n + suc (length read) ≡ suc n + length read = omega arith in
    (are.0, read-push (suc n) taken read t source are.1 (subst (λ k. IsSource k t.name t.bytes source) e is))

pub read-long : (n : ℕ) (taken : List Taken) (read : List SourceFile) → AreRead n taken read → length taken ≡ length read
read-long n [] [] are = refl
read-long n [] (s ∷ read) are = absurd are
read-long n (u ∷ taken) [] are = absurd are
read-long n (u ∷ taken) (s ∷ read) are = ap suc (read-long (suc n) taken read are.1)

pub total-push : (taken : List Taken) (t : Taken) → total (taken ++ t ∷ []) ≡ total taken + length t.bytes
total-push taken t =
    let size : Taken → ℕ = λ (u : Taken). length u.bytes in
    ap sum (map-push size taken t) ∙ sum-push (map size taken) (length t.bytes)

-- ---- so far

-- the files of the first sources are read, as far as the folder tells its files
pub record AreReadSoFar (told : Option Files) (sources : List Source) (i : ℕ) (reading : Reading) : Type 0 where
  pub taken : List Taken
  pub reads : AreRead 0 taken reading.read.items
  pub size : reading.bytes ≡ total taken
  pub are : IfSome told (λ files. taken ≡ take i (taken_in files sources))

pub none-read : (told : Option Files) (sources : List Source) (reading : Reading) → reading.read.items ≡ [] → reading.bytes ≡ 0 → AreReadSoFar told sources 0 reading
none-read told sources reading none zero-bytes =
    record { taken = []; reads = subst (AreRead 0 []) (sym none) tt; size = zero-bytes; are = by told }
  where
    by : (w : Option Files) → IfSome w (λ files. [] ≡ take 0 (taken_in files sources))
    by (Some files) = refl
    by None = tt

module _ (sources : List Source) (i : ℕ) (s : Source) (lt : i < length sources) (is : get_or sources i s ≡ s) (old new : Reading) (front : List ℕ) where
  -- the file of the source, of which the bytes are those that were read
  abbrev here : Taken
  here = record { name = s.name; folder = s.folder; bytes = front }

  long : (files : Files) → i < length (taken_in files sources)
  long files = subst (λ n. i < n) (sym (map-long (taken_from files) sources)) lt

  there-is : (files : Files) → slice_get (taken_in files sources) i ≡ Some (taken_from files s)
  there-is files =
      slice_get-map (taken_from files) sources i ∙ ap (option_map (taken_from files)) (slice_get-get_or sources i s lt ∙ ap Some is)

  next-taken : (files : Files) → take (i + 1) (taken_in files sources) ≡ take i (taken_in files sources) ++ taken_from files s ∷ []
  next-taken files =
      take_more (taken_in files sources) i (taken_from files s) (long files)
      ∙ ap (λ t. take i (taken_in files sources) ++ t ∷ []) (get_or_from_slice_get (taken_in files sources) i (taken_from files s) (taken_from files s) (there-is files))

  -- what was read are the bytes of the file, where it came to a tree
  whole : (files : Files) (file : SourceFile) (n : ℕ) → s.number < length files → IsFrontOf files s.number front → IsSource n s.name front file → here ≡ taken_from files s
  whole files file n opens of source =
      let same = (front-source n s.name of.0 front file of.2 source).1 ∙ bytes-are files s.number of.0 opens of.1 in
      λ j. record { name = s.name; folder = s.folder; bytes = same j }

  pub one-more : (w : Option Files) → IfSome w (λ files. AreThere files sources) → AreReadSoFar w sources i old → length old.read.items ≡ i → IfSome w (λ files. IsFrontOf files s.number front) → Adds old new s.name front
      → AreReadSoFar w sources (i + 1) new
  one-more w opens so count of adds =
      record {
        taken = so.taken ++ here ∷ [];
        reads = subst (AreRead 0 (so.taken ++ here ∷ [])) (sym adds.read) (read-push 0 so.taken old.read.items here adds.file so.reads (subst (λ n. IsSource n s.name front adds.file) (let e : length old.read.items ≡ 0 + length old.read.items = omega arith in e) adds.source));
        size = adds.size ∙ (ap (λ n. n + length front) so.size ∙ sym (total-push so.taken here));
        are = by w opens so.are of;
      }
    where
      by : (w : Option Files) → IfSome w (λ files. AreThere files sources) → IfSome w (λ files. so.taken ≡ take i (taken_in files sources)) → IfSome w (λ files. IsFrontOf files s.number front)
          → IfSome w (λ files. so.taken ++ here ∷ [] ≡ take (i + 1) (taken_in files sources))
      by (Some files) opens are of =
          let opened = subst (λ (x : Source). x.number < length files) is (opens i s lt) in
          (λ j. are j ++ whole files adds.file (length old.read.items) opened of adds.source j ∷ []) ∙ sym (next-taken files)
      by None opens are of = tt

  -- the refusal that comes of it
  pub one-refused : (w : Option Files) (r : Refusal) → IfSome w (λ files. AreThere files sources) → AreReadSoFar w sources i old → length old.read.items ≡ i → old.bytes ≤ MOST_PACKAGE_BYTES
      → IfSome w (λ files. IsFrontOf files s.number front) → IsUnreadNext old new s.name front r ⊎ IsTooMuch old new s.name front r
      → IfSome w (λ files. IsReadingFault (taken_in files sources) r new.read.items)
  one-refused (Some files) r opens so count small of (inl unread) =
      let opened = subst (λ (x : Source). x.number < length files) is (opens i s lt) in
      let same = bytes-are files s.number of.0 opened of.1 in
      inl (record {
        number = i;
        file = taken_from files s;
        there = there-is files;
        reads = subst (AreRead 0 (take i (taken_in files sources))) (sym unread.0) (subst (λ l. AreRead 0 l old.read.items) so.are so.reads);
        small = subst (λ n. n ≤ MOST_PACKAGE_BYTES) (so.size ∙ ap total so.are) small;
        unread = subst (λ n. IsUnread n s.name (bytes_at files s.number) r) count
            (subst (λ l. IsUnread (length old.read.items) s.name l r) same (front-unread (length old.read.items) s.name of.0 front r of.2 unread.1));
      })
  one-refused (Some files) r opens so count small of (inr much) =
      let more = one-more (Some files) opens so count of much.0 in
      let size = more.size ∙ ap total more.are in
      inr (record {
        number = i;
        there = long files;
        reads = subst (λ l. AreRead 0 l new.read.items) more.are more.reads;
        small = subst (λ n. n ≤ MOST_PACKAGE_BYTES) (so.size ∙ ap total so.are) small;
        many = subst (λ n. MOST_PACKAGE_BYTES < n) size much.1;
        is = much.2 ∙ ap too_large size;
      })
  one-refused None r opens so count small of h = tt

-- all of them are read
pub all-read : (w : Option Files) (sources : List Source) (i : ℕ) (reading : Reading) → length sources ≤ i → reading.bytes ≤ MOST_PACKAGE_BYTES → AreReadSoFar w sources i reading → AreReadFrom w sources reading.read.items
all-read w sources i reading end small so =
    record { taken = so.taken; reads = so.reads; small = subst (λ n. n ≤ MOST_PACKAGE_BYTES) so.size small; are = by w so.are }
  where
    by : (w : Option Files) → IfSome w (λ files. so.taken ≡ take i (taken_in files sources)) → IfSome w (λ files. so.taken ≡ taken_in files sources)
    by (Some files) are = are ∙ take_all i (taken_in files sources) (let l = map-long (taken_from files) sources in omega arith)
    by None are = tt

-- a source can be opened
pub source-opens : (w : Option Files) (sources : List Source) (i : ℕ) (s : Source) → i < length sources → get_or sources i s ≡ s → IfSome w (λ files. AreThere files sources) → CanOpen w s.number
source-opens (Some files) sources i s lt is opens = subst (λ (x : Source). x.number < length files) is (opens i s lt)
source-opens None sources i s lt is opens = tt
