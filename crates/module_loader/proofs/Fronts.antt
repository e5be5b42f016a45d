-- Manifests and their fronts: of the bytes of a file only so many are read as it may have, and one more.
use Rattle.std.proofs.Common.{◌≡◌, ◌≤◌, ◌<◌, ◌+◌, ◌⊎◌, ℕ, List, [], length, take, ap, ◌∙◌, inl, inr, subst, ⊎_elim, arith}
use Rattle.std.specs.Prelude.{Option, Some, None, IfSome}
use Rattle.std.proofs.lemmas.List.{length-take, take_all}
use Rattle.bal_base.specs.declared.limits.TheConstants.{MOST_FILE_BYTES}
use Rattle.bal_base.specs.declared.fault.Refusal.{Refusal}
use Rattle.bal_io.specs.Content.{CanOpen}
use Rattle.bal_tree.specs.declared.package.SourceFile.{SourceFile}
use Rattle.folder_files.specs.Files.{Files, IsFrontOf, names}
use Rattle.manifests.specs.Manifests.{IsBad, Says, bad_manifest, no_manifest}
use Rattle.manifests.specs.declared.reading.Manifest.{Manifest}
use Rattle.package_files.specs.Listings.{IsFirstOf, manifest_name}
use Rattle.source_files.specs.Told.{refusal_of}
use Rattle.module_loader.specs.Faults.{IsBadManifest}
use Rattle.module_loader.specs.Files.{IsManifest}
use Rattle.module_loader.proofs.Taking.{there}

short-or-long : (n : ℕ) → (n ≤ MOST_FILE_BYTES) ⊎ (MOST_FILE_BYTES < n)
short-or-long n = grind arith

short-front : (bytes front : List ℕ) → front ≡ take (MOST_FILE_BYTES + 1) bytes → length front ≤ MOST_FILE_BYTES → front ≡ bytes
short-front bytes front e short =
    let few : length bytes ≤ MOST_FILE_BYTES + 1 = omega (arith, ap length e, length-take (MOST_FILE_BYTES + 1) bytes, short) in
    e ∙ take_all (MOST_FILE_BYTES + 1) bytes few

front-long : (bytes front : List ℕ) → front ≡ take (MOST_FILE_BYTES + 1) bytes → MOST_FILE_BYTES < length front → MOST_FILE_BYTES < length bytes
front-long bytes front e long = omega (arith, ap length e, length-take (MOST_FILE_BYTES + 1) bytes, long)

front-says : (bytes front : List ℕ) (m : Manifest) → front ≡ take (MOST_FILE_BYTES + 1) bytes → Says front m → Says bytes m
front-says bytes front m e says = subst (λ l. Says l m) (short-front bytes front e says.1.0) says

front-bad : (bytes front : List ℕ) → front ≡ take (MOST_FILE_BYTES + 1) bytes → IsBad front → IsBad bytes
front-bad bytes front e bad =
    ⊎_elim (λ short. subst IsBad (short-front bytes front e short) bad) (λ long. inl (inl (front-long bytes front e long))) (short-or-long (length front))

-- ---- the answers about a manifest

pub manifest-opens : (w : Option Files) (number : ℕ) → IfSome w (λ files. IsFirstOf (names files) manifest_name (Some number)) → CanOpen w number
manifest-opens (Some files) number first = there files manifest_name number first.0
manifest-opens None number first = tt

pub manifest-says : (w : Option Files) (number : ℕ) (front : List ℕ) (m : Manifest) → IfSome w (λ files. IsFirstOf (names files) manifest_name (Some number))
    → IfSome w (λ files. IsFrontOf files number front) → Says front m → IfSome w (λ files. IsManifest files m)
manifest-says (Some files) number front m first of says = inl (of.0, (number, first, of.1), front-says of.0 front m of.2 says)
manifest-says None number front m first of says = tt

pub manifest-bad : (w : Option Files) (number : ℕ) (front : List ℕ) (r : Refusal) (read : List SourceFile) → IfSome w (λ files. IsFirstOf (names files) manifest_name (Some number))
    → IfSome w (λ files. IsFrontOf files number front) → IsBad front × (r ≡ refusal_of [] [] bad_manifest) × (read ≡ []) → IfSome w (λ files. IsBadManifest files r read)
manifest-bad (Some files) number front r read first of is =
    record { bytes = of.0; has = (number, first, of.1); bad = front-bad of.0 front of.2 is.0; is = is.1; none = is.2 }
manifest-bad None number front r read first of is = tt

pub manifest-none : (w : Option Files) (m : Manifest) → IfSome w (λ files. IsFirstOf (names files) manifest_name None) → m ≡ no_manifest → IfSome w (λ files. IsManifest files m)
manifest-none (Some files) m none is = inr (none, is)
manifest-none None m none is = tt
