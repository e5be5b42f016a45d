-- What some documents say.
use Rattle.std.proofs.Common.{◌≡◌, codes, pos, Some, None, refl}
use Rattle.toml.specs.Data.{Members, no_members, member, integer, table}
use Rattle.manifests.specs.Manifests.{manifest_of, no_manifest}

abbrev package_with : Members → Members
package_with entries = member (codes "package") (table entries) no_members

-- no table `package`, or one without a name
empty : manifest_of no_members ≡ Some no_manifest
empty = refl

unnamed : manifest_of (package_with no_members) ≡ Some no_manifest
unnamed = refl

-- a name that is no string
numbered : manifest_of (package_with (member (codes "name") (integer (pos 7)) no_members)) ≡ None
numbered = refl

-- `package` is no table
no-table : manifest_of (member (codes "package") (integer (pos 7)) no_members) ≡ Some no_manifest
no-table = refl
