-- The modules of some files.
use Rattle.std.proofs.Common.{◌≡◌, [], codes, Some, None, refl}
use Rattle.package_files.specs.Names.{module_of}

default-file : module_of (codes "main.bal") ≡ Some []
default-file = refl

module-file : module_of (codes "modules/model/item.bal") ≡ Some (codes "model")
module-file = refl

dotted-folder : module_of (codes "modules/a.b/c.bal") ≡ Some (codes "a.b")
dotted-folder = refl

manifest : module_of (codes "Ballerina.toml") ≡ None
manifest = refl

-- in a folder that is none of a module, too deep, without a name, or no folder
other-folder : module_of (codes "tests/a.bal") ≡ None
other-folder = refl

too-deep : module_of (codes "modules/a/b/c.bal") ≡ None
too-deep = refl

unnamed : module_of (codes "modules//a.bal") ≡ None
unnamed = refl

not-below : module_of (codes "modules/a.bal") ≡ None
not-below = refl

-- it ends otherwise
other-end : module_of (codes "main.bal.txt") ≡ None
other-end = refl
