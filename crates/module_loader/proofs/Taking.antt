-- The source files of a listing, as they lie in the folder.
use Rattle.std.proofs.Common.{◌≡◌, ◌<◌, ℕ, true, List, [], ◌∷◌, length, map, nat_cmp, refl, sym, ap, ◌∙◌, subst}
use Rattle.std.specs.Prelude.{All, Contains, slice_get, Some}
use Rattle.std.specs.BTreeMap.{IsOrdered}
use Rattle.std.specs.Cmp.Lexicographic.{slice_cmp}
use Rattle.std.specs.List.Sorted.{IsStrictlySortedBy}
use Rattle.std.specs.Map.{keys_of, values_of}
use Rattle.std.specs.Option.{option_map}
use Rattle.std.specs.Ordering.{is_eq}
use Rattle.std.proofs.lemmas.List.{length-map}
use Rattle.std.proofs.lemmas.Map.Text.{is_eq-slice_cmp}
use Rattle.std.proofs.lemmas.Map.Views.{Contains-keys_from_lookup}
use Rattle.std.proofs.lemmas.Option.{slice_get-get_or, slice_get-map, slice_get_within}
use Rattle.std.proofs.lemmas.Slice.Eq.{bytes_eq-Decides}
use Rattle.folder_files.specs.Files.{Files, HasBytes, HasFile, names}
use Rattle.package_files.specs.Listings.{IsListing, found_at}
use Rattle.package_files.specs.Names.{module_of}
use Rattle.package_files.specs.declared.listing.Found.{Found}
use Rattle.package_files.specs.declared.listing.Listing.{Listing}
use Rattle.module_loader.specs.Files.{AreTaken, Taken, taken_names}
use Rattle.module_loader.specs.inner.Sources.{AreThere, bytes_at, folders_in, source_of, taken_from, taken_in}
use Rattle.module_loader.specs.declared.sources.Source.{Source}
use Rattle.module_loader.proofs.Lists.{all-mapped, map-twice}

abbrev Entry : Type 0
Entry = List ℕ × Found

-- ---- files by their numbers

pub there : (files : Files) (name : List ℕ) (number : ℕ) → slice_get (names files) number ≡ Some name → number < length files
there files name number e = subst (λ n. number < n) (length-map files (λ f. f.0)) (slice_get_within (names files) number name e)

pub has-bytes : (files : Files) (number : ℕ) → number < length files → HasBytes files number (bytes_at files number)
has-bytes files number lt =
    slice_get-map (λ f. f.1) files number ∙ ap (option_map (λ f. f.1)) (slice_get-get_or files number ([], []) lt)

pub bytes-are : (files : Files) (number : ℕ) (bytes : List ℕ) → number < length files → HasBytes files number bytes → bytes ≡ bytes_at files number
bytes-are files number bytes lt has =
    let both : Some bytes ≡ Some (bytes_at files number) = sym has ∙ has-bytes files number lt in
    let same : bytes ≡ bytes_at files number = cc in
    same

-- ---- the entries of a listing

same-names : (a b : List ℕ) → is_eq (slice_cmp nat_cmp a b) ≡ true → a ≡ b
same-names a b h = (bytes_eq-Decides a b).0 (sym (is_eq-slice_cmp a b) ∙ h)

module _ (files : Files) (listing : Listing) (is : IsListing (names files) listing) where
  abbrev Finds : Entry → Type 0
  Finds e = found_at listing.sources e.0 ≡ Some e.1

  one-lies : (e : Entry) → Finds e → HasFile files (taken_from files (source_of e)).name (taken_from files (source_of e)).bytes
  one-lies e finds =
      let first = is.sources.first e.0 e.1 finds in
      (e.1.number, first, has-bytes files e.1.number (there files e.0 e.1.number first.0))

  one-there : (e : Entry) → Finds e → (source_of e).number < length files
  one-there e finds = there files e.0 e.1.number (is.sources.first e.0 e.1 finds).0

  names-are : (es : List Entry) → taken_names (taken_in files (map source_of es)) ≡ keys_of es
  names-are [] = refl
  names-are (e ∷ es) = ap (λ l. e.0 ∷ l) (names-are es)

  module _ (finds : All Finds listing.sources.entries) (rising : IsOrdered (slice_cmp nat_cmp) listing.sources) where
    pub all-there : AreThere files (map source_of listing.sources.entries)
    all-there = all-mapped Finds (λ (s : Source). s.number < length files) source_of listing.sources.entries one-there finds

    pub all-taken : AreTaken files (taken_in files (map source_of listing.sources.entries))
    all-taken =
        let es = listing.sources.entries in
        let same = names-are es in
        let twice = map-twice source_of (taken_from files) es in
        record {
          rising = subst (IsStrictlySortedBy (slice_cmp nat_cmp)) (sym same) rising;
          lie = subst (All (λ (t : Taken). HasFile files t.name t.bytes)) (sym twice)
              (all-mapped Finds (λ (t : Taken). HasFile files t.name t.bytes) (λ e. taken_from files (source_of e)) es one-lies finds);
          folders = subst (All (λ (t : Taken). module_of t.name ≡ Some t.folder)) (sym twice)
              (all-mapped Finds (λ (t : Taken). module_of t.name ≡ Some t.folder) (λ e. taken_from files (source_of e)) es (λ e f. is.sources.folder e.0 e.1 f) finds);
          all = λ name folder listed of. subst (λ ns. Contains ns name) (sym same)
              (Contains-keys_from_lookup {eq = λ a b. is_eq (slice_cmp nat_cmp a b)} same-names name es (is.sources.all name folder listed of));
        }

-- ---- their modules

pub folders-are : (es : List (List ℕ × Found)) → folders_in (map source_of es) ≡ map (λ f. f.«module») (values_of es)
folders-are [] = refl
folders-are (e ∷ es) = ap (λ l. e.1.«module» ∷ l) (folders-are es)

pub taken-folders : (files : Files) (sources : List Source) → map (λ (t : Taken). t.folder) (taken_in files sources) ≡ folders_in sources
taken-folders files [] = refl
taken-folders files (s ∷ sources) = ap (λ l. s.folder ∷ l) (taken-folders files sources)
