-- What the manifest of a package says, by the TOML document that it is.
use Rattle.std.specs.Prelude.{◌≡◌, ◌≤◌, ◌<◌, ◌⊎◌, ℕ, if◌then◌else◌, List, length, codes, chars, IsUtf8, Option, Some, None, option_and_then, option_map}
use Rattle.toml.specs.Data.{Data, Members, string, integer, float, boolean, datetime, array, table, get, get_member, as_str}
use Rattle.toml.specs.Parse.{parse_document}
use Rattle.bal_base.specs.declared.fault.Fault.{Fault}
use Rattle.bal_base.specs.declared.fault.FaultCode.TheVariants.{BadManifest}
use Rattle.bal_base.specs.declared.fault.Kept.TheVariants.{Nothing}
use Rattle.bal_base.specs.declared.limits.TheConstants.{MOST_FILE_BYTES}
use Rattle.manifests.specs.Names.{is_dotted_name}
use Rattle.manifests.specs.declared.reading.Manifest.{Manifest}

-- what stands at the key in the table `package`, if that is a table and has the key
abbrev pub package_entry : List ℕ → Members → Option Data
package_entry key document = option_and_then (get key) (get_member (codes "package") document)

-- the name of a package that names none
abbrev pub default_name : List ℕ
default_name = codes "main"

abbrev pub name_if_dotted : List ℕ → Option (List ℕ)
name_if_dotted text = if is_dotted_name text then Some text else None

-- the name that an entry gives, unless it is no such name
abbrev pub name_of : Option Data → Option (List ℕ)
name_of None = Some default_name
name_of (Some (string bytes)) = name_if_dotted (chars bytes)
name_of (Some (integer z)) = None
name_of (Some (float x)) = None
name_of (Some (boolean b)) = None
name_of (Some (datetime d)) = None
name_of (Some (array ds)) = None
name_of (Some (table ms)) = None

-- the organisation that an entry gives: a string is one, and anything else is passed over
abbrev pub org_of : Option Data → Option (List ℕ)
org_of entry = option_map chars (option_and_then as_str entry)

-- what a document says, unless its name is none
abbrev pub manifest_of : Members → Option Manifest
manifest_of document =
    option_map (λ name. record { name = name; org = org_of (package_entry (codes "org") document) })
    (name_of (package_entry (codes "name") document))

-- what is so of a package without a manifest
abbrev pub no_manifest : Manifest
no_manifest = record { name = default_name; org = None }

-- the bytes are a text of no more bytes than a file may have, and this document
abbrev pub IsDocument : List ℕ → Members → Type 0
IsDocument bytes document = (length bytes ≤ MOST_FILE_BYTES) × IsUtf8 bytes × (parse_document bytes ≡ Some document)

-- the manifest with these bytes says so
abbrev pub Says : List ℕ → Manifest → Type 0
Says bytes m = (document : Members) × IsDocument bytes document × (manifest_of document ≡ Some m)

-- a manifest with these bytes is bad: it is too long, no text, no document, or its name is none
abbrev pub IsNoDocument : List ℕ → Type 0
IsNoDocument bytes = (MOST_FILE_BYTES < length bytes) ⊎ ((¬ (IsUtf8 bytes)) ⊎ (parse_document bytes ≡ None))

abbrev pub IsBad : List ℕ → Type 0
IsBad bytes = IsNoDocument bytes ⊎ ((document : Members) × IsDocument bytes document × (manifest_of document ≡ None))

-- the fault of a bad manifest: it has no place
abbrev pub bad_manifest : Fault
bad_manifest = record { code = BadManifest; at = None; kept = Nothing }
