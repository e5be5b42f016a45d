-- Dotted names from a place on.
use Rattle.std.specs.Prelude.{ℕ, Bool, false, ◌==◌, ◌&&◌, if◌then◌else◌, List}
use Rattle.std.specs.List.{list_all}
use Rattle.unicode_ident.specs.Ident.{is_xid_start, is_xid_continue}
use Rattle.manifests.specs.Names.{has_some, is_identifier, first_part, other_parts}
use Rattle.manifests.specs.declared.names.Part.{Part}
use Rattle.manifests.specs.declared.names.Part.TheVariants.{Begins, Underscore, Inside, Broken}

abbrev pub part_begun : ℕ → Part
part_begun c = if c == 46 then Broken else if c == 95 then Underscore else if is_xid_start c then Inside else Broken

abbrev pub part_gone_on : ℕ → Part → Part
part_gone_on c at_dot = if c == 46 then at_dot else if is_xid_continue c then Inside else Broken

-- the place behind one more character
abbrev pub part_behind : Part → ℕ → Part
part_behind Begins c = part_begun c
part_behind Underscore c = part_gone_on c Broken
part_behind Inside c = part_gone_on c Begins
part_behind Broken c = Broken

-- what is left of the part is as it has to be
abbrev pub part_is : Part → List ℕ → Bool
part_is Begins p = is_identifier p
part_is Underscore p = has_some p && list_all is_xid_continue p
part_is Inside p = list_all is_xid_continue p
part_is Broken p = false

-- what is left of a text makes it a dotted name
abbrev pub rest_is : Part → List ℕ → Bool
rest_is part text = part_is part (first_part text) && list_all is_identifier (other_parts text)
