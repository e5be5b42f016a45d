-- Parts as the check holds them, by references to the tree.
use Rattle.std.specs.Prelude.{◌≡◌, ◌++◌, List, false, map}
use Rattle.typed_tree.specs.Listed.{Listed}
use Rattle.isolation_check.specs.declared.parts.Deed.{Deed}
use Rattle.isolation_check.specs.declared.parts.Deed.TheVariants as deed
use Rattle.isolation_check.specs.declared.parts.Found.{Found}
use Rattle.isolation_check.specs.declared.parts.HeldPart.{HeldPart}
use Rattle.isolation_check.specs.Isolated.{own_parts, parts_inside}
use Rattle.isolation_check.specs.Parts.{Calls, CallsValue, Captures, Does, Noted, Part, Reads, Stores}

abbrev pub does_of : Deed → Does
does_of (deed.Reads m) = Reads m
does_of deed.Stores = Stores
does_of (deed.Calls u) = Calls u
does_of (deed.CallsValue t) = CallsValue t.now
does_of (deed.Captures cs) = Captures cs.now

abbrev pub part_of : HeldPart → Part
part_of h = record { does = does_of h.deed; at = h.at }

abbrev pub parts_of : List HeldPart → List Part
parts_of = map part_of

-- Where there was memory for all, there is so much more than before.
unfoldable pub Grows : Listed Noted → Found → Found → Type 0
Grows l old new = new.full ≡ false → (old.full ≡ false)
    × (parts_of new.own.items ≡ parts_of old.own.items ++ own_parts l)
    × (parts_of new.inside.items ≡ parts_of old.inside.items ++ parts_inside l)
