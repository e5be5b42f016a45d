-- The files of a folder that were listed so far.
use Rattle.std.proofs.Common.{◌≡◌, ◌+◌, ◌<◌, ◌≤◌, ℕ, List, [], ◌∷◌, ◌++◌, length, take, Option, Some, None, sym, ap, ◌∙◌, subst, arith}
use Rattle.std.specs.Prelude.{IfSome}
use Rattle.std.proofs.lemmas.List.{length-map, length-take, take_all, take_more}
use Rattle.std.proofs.lemmas.Option.{get_or_from_slice_get, slice_get_within}
use Rattle.bal_io.specs.Content.{IsNameAt}
use Rattle.package_files.specs.Listings.{IsListing}
use Rattle.package_files.specs.declared.listing.Listing.{Listing}
use Rattle.folder_files.specs.Files.{Files, names}

pub counted : (w v : Option Files) (n : ℕ) → v ≡ w → IfSome w (λ all. n ≡ length all) → IfSome v (λ all. n ≤ length all)
counted w v n e count = subst (λ o. IfSome o (λ all. n ≤ length all)) (sym e) (by w count)
  where
    by : (w : Option Files) → IfSome w (λ all. n ≡ length all) → IfSome w (λ all. n ≤ length all)
    by (Some all) q = omega (arith, q)
    by None q = tt

pub listed-first : (w : Option Files) (listing : Listing) → IsListing [] listing → IfSome w (λ all. IsListing (take 0 (names all)) listing)
listed-first (Some all) listing h = h
listed-first None listing h = tt

-- one more file is listed with its number
pub listed-more : (w v : Option Files) (i : ℕ) (name : List ℕ) (old new : Listing) → v ≡ w → IfSome w (λ all. IsNameAt all i name) → IfSome w (λ all. IsListing (take i (names all)) old)
    → ((ns : List (List ℕ)) → IsListing ns old → length ns ≡ i → IsListing (ns ++ name ∷ []) new) → IfSome v (λ all. IsListing (take (i + 1) (names all)) new)
listed-more w v i name old new e at listed adds = subst (λ o. IfSome o (λ all. IsListing (take (i + 1) (names all)) new)) (sym e) (by w at listed)
  where
    by : (w : Option Files) → IfSome w (λ all. IsNameAt all i name) → IfSome w (λ all. IsListing (take i (names all)) old) → IfSome w (λ all. IsListing (take (i + 1) (names all)) new)
    by (Some all) at listed =
        let lt : i < length (names all) = slice_get_within (names all) i name at in
        let long : length (take i (names all)) ≡ i = omega (arith, lt, length-take i (names all)) in
        let more = take_more (names all) i name lt ∙ ap (λ n. take i (names all) ++ n ∷ []) (get_or_from_slice_get (names all) i name name at) in
        subst (λ ns. IsListing ns new) (sym more) (adds (take i (names all)) listed long)
    by None at listed = tt

-- all of them are
pub listed-all : (w v : Option Files) (i n : ℕ) (listing : Listing) → w ≡ v → IfSome w (λ all. IsListing (take i (names all)) listing) → IfSome v (λ all. n ≡ length all) → n ≡ i → IfSome v (λ all. IsListing (names all) listing)
listed-all w v i n listing e listed count same = by v (subst (λ o. IfSome o (λ all. IsListing (take i (names all)) listing)) e listed) count
  where
    by : (v : Option Files) → IfSome v (λ all. IsListing (take i (names all)) listing) → IfSome v (λ all. n ≡ length all) → IfSome v (λ all. IsListing (names all) listing)
    by (Some all) h q = subst (λ ns. IsListing ns listing) (whole all q) h
      where
        whole : (all : Files) → n ≡ length all → take i (names all) ≡ names all
        whole all q = take_all i (names all) (omega (arith, q, same, length-map all (λ f. f.0)))
    by None h q = tt
