-- What some packages come to.
use Rattle.std.proofs.Common.{◌≡◌, ℕ, List, [], ◌∷◌, codes, None, refl}
use Rattle.manifests.specs.declared.reading.Manifest.{Manifest}
use Rattle.module_loader.specs.Files.{Taken, total}
use Rattle.module_loader.specs.Packages.{home_of, names_of, numbers_of}

abbrev manifest : Manifest
manifest = record { name = codes "p"; org = None }

abbrev folders : List (List ℕ)
folders = [] ∷ codes "a" ∷ codes "b" ∷ []

abbrev files : List Taken
files =
    record { name = codes "main.bal"; folder = []; bytes = 1 ∷ 2 ∷ [] }
    ∷ record { name = codes "modules/b/x.bal"; folder = codes "b"; bytes = [] }
    ∷ record { name = codes "modules/a/x.bal"; folder = codes "a"; bytes = 3 ∷ [] } ∷ []

-- the default module has the package's name
named : names_of manifest folders ≡ codes "p" ∷ codes "a" ∷ codes "b" ∷ []
named = refl

-- it can't be imported
imported : (home_of manifest folders).paths ≡ codes "p.a" ∷ codes "p.b" ∷ []
imported = refl

-- each file is of the module in whose folder it lies
numbered : numbers_of folders files ≡ 0 ∷ 2 ∷ 1 ∷ []
numbered = refl

sized : total files ≡ 3
sized = refl
