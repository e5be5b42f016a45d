-- Files that can be opened, and their bytes.
use Rattle.std.proofs.Common.{◌≡◌, ◌+◌, ◌<◌, ℕ, List, length, take, Option, Some, None, refl, sym, ap, ◌∙◌, subst}
use Rattle.std.specs.Prelude.{IfSome, slice_get}
use Rattle.std.specs.Option.{option_map}
use Rattle.std.proofs.lemmas.List.{length-map}
use Rattle.std.proofs.lemmas.Option.{slice_get-map, slice_get_within}
use Rattle.bal_base.specs.declared.limits.TheConstants.{MOST_FILE_BYTES}
use Rattle.bal_io.specs.Content.{CanOpen, IsFrontAt}
use Rattle.package_files.specs.Listings.{IsListing, found_at}
use Rattle.package_files.specs.declared.listing.Found.{Found}
use Rattle.package_files.specs.declared.listing.Listing.{Listing}
use Rattle.folder_files.specs.Files.{Files, IsFrontOf, names}

whole-bytes : (all : Files) (k : ℕ) (front : List ℕ) → IsFrontAt all k (MOST_FILE_BYTES + 1) front → IsFrontOf all k front
whole-bytes all k front h = by (slice_get all k) refl
  where
    by : (o : Option (List ℕ × List ℕ)) → slice_get all k ≡ o → IsFrontOf all k front
    by (Some f) e =
        let both : Some front ≡ Some (take (MOST_FILE_BYTES + 1) f.1) = sym h ∙ (slice_get-map (λ g. take (MOST_FILE_BYTES + 1) g.1) all k ∙ ap (option_map (λ g. take (MOST_FILE_BYTES + 1) g.1)) e) in
        (f.1, slice_get-map (λ g. g.1) all k ∙ ap (option_map (λ g. g.1)) e, (let same : front ≡ take (MOST_FILE_BYTES + 1) f.1 = cc in same))
    by None e =
        absurd (let bad : Some front ≡ None = sym h ∙ (slice_get-map (λ g. take (MOST_FILE_BYTES + 1) g.1) all k ∙ ap (option_map (λ g. take (MOST_FILE_BYTES + 1) g.1)) e) in let no : ⊥ = cc in no)

pub front-of : (w : Option Files) (k : ℕ) (front : List ℕ) → IfSome w (λ all. IsFrontAt all k (MOST_FILE_BYTES + 1) front) → IfSome w (λ all. IsFrontOf all k front)
front-of (Some all) k front h = whole-bytes all k front h
front-of None k front h = tt

-- a file with a name can be opened
opens : (all : Files) (name : List ℕ) (k : ℕ) → slice_get (names all) k ≡ Some name → k < length all
opens all name k e = subst (λ n. k < n) (length-map all (λ f. f.0)) (slice_get_within (names all) k name e)

-- those that were found can be
pub source-opens : (w : Option Files) (listing : Listing) (name : List ℕ) (f : Found) → IfSome w (λ all. IsListing (names all) listing) → found_at listing.sources name ≡ Some f → CanOpen w f.number
source-opens (Some all) listing name f h e = opens all name f.number (h.sources.first name f e).0
source-opens None listing name f h e = tt
