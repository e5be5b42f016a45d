-- What loading a folder comes to, by what its steps came to.
use Rattle.std.proofs.Common.{◌≡◌, ◌≤◌, ◌<◌, inl, inr, List, [], length, sym, ap, ◌∙◌, subst}
use Rattle.std.specs.Prelude.{Option, Some, None, IfSome, Result, Ok, Err}
use Rattle.bal_base.specs.declared.fault.Refusal.{Refusal}
use Rattle.bal_base.specs.declared.stop.Stop.{Stop}
use Rattle.bal_base.specs.declared.stop.Stop.TheVariants.{Fault, Memory}
use Rattle.bal_tree.specs.declared.package.Package.{Package}
use Rattle.bal_tree.specs.declared.package.SourceFile.{SourceFile}
use Rattle.folder_files.specs.Files.{Files, names}
use Rattle.manifests.specs.declared.reading.Manifest.{Manifest}
use Rattle.package_files.specs.Listings.{IsFirstOf, IsListing, manifest_name}
use Rattle.package_files.specs.declared.listing.Listing.{Listing}
use Rattle.module_loader.specs.Faults.{HasLinkFault, IsBadManifest, IsReadingFault, IsRefusedFor, too_large}
use Rattle.module_loader.specs.Files.{AreAllRead, AreFound, AreRead, AreTaken, IsManifest, Taken, total}
use Rattle.module_loader.specs.Loading.{IfRefused}
use Rattle.module_loader.specs.Packages.{Makes, PackageOf, folders_of}
use Rattle.module_loader.specs.inner.Begun.{AreReadFrom}
use Rattle.module_loader.specs.inner.Sources.{AreThere, IsFound, folders_in, taken_from, taken_in}
use Rattle.module_loader.specs.declared.faults.LoadFault.{LoadFault}
use Rattle.module_loader.specs.declared.faults.LoadFault.TheVariants.{Folder, Source}
use Rattle.module_loader.specs.declared.limits.TheConstants.{MOST_FILES, MOST_PACKAGE_BYTES}
use Rattle.module_loader.specs.declared.sources.Source.{Source as SourceOf}
use Rattle.module_loader.proofs.Lists.{map-long}
use Rattle.module_loader.proofs.Taking.{taken-folders}

-- what is so of the files that are told is so of them as they are told after a call that left them
pub still : (P : Files → Type 0) (old new : Option Files) → new ≡ old → IfSome old P → IfSome new P
still P old new same h = subst (λ w. IfSome w P) (sym same) h

taken-long : (files : Files) (sources : List SourceOf) → length (taken_in files sources) ≡ length sources
taken-long files sources = map-long (taken_from files) sources

module _ (listing : Listing) (sources : List SourceOf) where
  -- ---- what was found

  pub taken-as : (w : Option Files) → IfSome w (λ files. IsListing (names files) listing) → ((files : Files) → IsListing (names files) listing → AreTaken files (taken_in files sources))
      → IfSome w (λ files. AreTaken files (taken_in files sources))
  taken-as (Some files) is taken = taken files is
  taken-as None is taken = tt

  pub found-as : (w : Option Files) → IfSome w (λ files. IsListing (names files) listing) → ((files : Files) → IsListing (names files) listing → AreTaken files (taken_in files sources))
      → ((files : Files) → IsListing (names files) listing → AreThere files sources) → IfSome w (λ files. IsFound files listing sources)
  found-as (Some files) is taken there = record { listing_is = is; taken = taken files is; there = there files is }
  found-as None is taken there = tt

  pub manifest-first : (w : Option Files) → IfSome w (λ files. IsFound files listing sources) → IfSome w (λ files. IsFirstOf (names files) manifest_name listing.manifest)
  manifest-first (Some files) found = found.listing_is.manifest
  manifest-first None found = tt

  pub opens-of : (w : Option Files) → IfSome w (λ files. IsFound files listing sources) → IfSome w (λ files. AreThere files sources)
  opens-of (Some files) found = found.there
  opens-of None found = tt

  -- ---- too many files, or a bad manifest

  pub many-refused : (w : Option Files) (r : Refusal) (read : List SourceFile) → MOST_FILES < length sources → r ≡ too_large (length sources) → read ≡ []
      → IfSome w (λ files. AreTaken files (taken_in files sources)) → IfSome w (λ files. IsRefusedFor files r read)
  many-refused (Some files) r read many is none are =
      let long = taken-long files sources in
      inl (record { taken = taken_in files sources; are = are; many = subst (λ n. MOST_FILES < n) (sym long) many; is = is ∙ ap too_large (sym long); none = none })
  many-refused None r read many is none are = tt

  pub manifest-refused : (w : Option Files) (r : Refusal) (read : List SourceFile) → length sources ≤ MOST_FILES → IfSome w (λ files. IsFound files listing sources)
      → IfSome w (λ files. IsBadManifest files r read) → IfSome w (λ files. IsRefusedFor files r read)
  manifest-refused (Some files) r read few found bad =
      inr (inl (record { taken = taken_in files sources; are = found.taken; few = subst (λ n. n ≤ MOST_FILES) (sym (taken-long files sources)) few; bad = bad }))
  manifest-refused None r read few found bad = tt

  -- ---- the files are there, and the manifest says something

  module _ (manifest : Manifest) (few : length sources ≤ MOST_FILES) where
    found-of : (files : Files) → IsFound files listing sources → IsManifest files manifest → AreFound files (taken_in files sources) manifest
    found-of files found says = record { are = found.taken; few = subst (λ n. n ≤ MOST_FILES) (sym (taken-long files sources)) few; says = says }

    pub reading-refused : (w : Option Files) (r : Refusal) (read : List SourceFile) → IfSome w (λ files. IsFound files listing sources) → IfSome w (λ files. IsManifest files manifest)
        → IfSome w (λ files. IsReadingFault (taken_in files sources) r read) → IfSome w (λ files. IsRefusedFor files r read)
    reading-refused (Some files) r read found says fault =
        inr (inr (inl (record { taken = taken_in files sources; manifest = manifest; found = found-of files found says; fault = fault })))
    reading-refused None r read found says fault = tt

    -- ---- they are read

    module _ (read : List SourceFile) where
      reads-of : (files : Files) → AreReadFrom (Some files) sources read → AreRead 0 (taken_in files sources) read
      reads-of files all = subst (λ l. AreRead 0 l read) all.are all.reads

      all-of : (files : Files) → IsFound files listing sources → IsManifest files manifest → AreReadFrom (Some files) sources read → AreAllRead files (taken_in files sources) manifest read
      all-of files found says all =
          record { found = found-of files found says; reads = reads-of files all; small = subst (λ l. total l ≤ MOST_PACKAGE_BYTES) all.are all.small }

      pub package-of : (w : Option Files) (p : Package) → IfSome w (λ files. IsFound files listing sources) → IfSome w (λ files. IsManifest files manifest) → AreReadFrom w sources read
          → ((taken : List Taken) → AreRead 0 taken read → folders_of taken ≡ folders_in sources → Makes manifest taken read p) → IfSome w (λ files. PackageOf files p)
      package-of (Some files) p found says all makes =
          record {
            taken = taken_in files sources;
            manifest = manifest;
            read = read;
            are = all-of files found says all;
            makes = makes (taken_in files sources) (reads-of files all) (taken-folders files sources);
          }
      package-of None p found says all makes = tt

      link-refused : (w : Option Files) (r : Refusal) (after : List SourceFile) → IfSome w (λ files. IsFound files listing sources) → IfSome w (λ files. IsManifest files manifest) → AreReadFrom w sources read
          → after ≡ read → ((taken : List Taken) → AreRead 0 taken read → folders_of taken ≡ folders_in sources → HasLinkFault manifest taken read r) → IfSome w (λ files. IsRefusedFor files r after)
      link-refused (Some files) r after found says all rest fault =
          subst (IsRefusedFor files r) (sym rest)
          (inr (inr (inr (record {
            taken = taken_in files sources;
            manifest = manifest;
            are = all-of files found says all;
            fault = fault (taken_in files sources) (reads-of files all) (taken-folders files sources);
          }))))
      link-refused None r after found says all rest fault = tt

      pub links-refused : (w : Option Files) (result : Result Package (Stop LoadFault)) → IfSome w (λ files. IsFound files listing sources) → IfSome w (λ files. IsManifest files manifest) → AreReadFrom w sources read
          → IfRefused result (λ r after. after ≡ read)
          → IfRefused result (λ r after. (taken : List Taken) → AreRead 0 taken read → folders_of taken ≡ folders_in sources → HasLinkFault manifest taken read r)
          → IfRefused result (λ r after. IfSome w (λ files. IsRefusedFor files r after))
      links-refused w (Ok p) found says all rest fault = tt
      links-refused w (Err Memory) found says all rest fault = tt
      links-refused w (Err (Fault Folder)) found says all rest fault = tt
      links-refused w (Err (Fault (Source r after))) found says all rest fault = link-refused w r after found says all rest fault
