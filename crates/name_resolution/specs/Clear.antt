-- Descriptors whose names hold, and whose records give no name to two fields.
use Rattle.std.specs.Prelude.{◌≡◌, ◌++◌, Bool, true, false, List, [], ◌∷◌, ⊤}
use Rattle.std.specs.List.{list_any}
use Rattle.bal_base.specs.declared.text.Name.{Name}
use Rattle.bal_tree.specs.declared.name.QualifiedName.{QualifiedName}
use Rattle.descriptors.specs.Descriptors.{Descriptor, builtin, value, named, optional, union, intersection, array, repeated, tuple, map_of, closed_record, open_record, any_error, error_with, any_function, function_from, future_of, Descriptors, no_more, then_more, FieldDescriptors, no_field, then_field, MaybeDescriptor, absent, present}
use Rattle.type_model.specs.Places.{is_same_text}

-- Holds: what is so of each name, where it stands inside a list, a mapping, an error, a function or a future, or outside
module _ (Holds : Bool → QualifiedName → Type 0) where
  abbrev mutual
    pub IsClear : Bool → Descriptor → Type 0
    IsClear inside (builtin b) = ⊤
    IsClear inside (value v) = ⊤
    IsClear inside (named name) = Holds inside name
    IsClear inside (optional of) = IsClear inside of
    IsClear inside (union left right) = IsClear inside left × IsClear inside right
    IsClear inside (intersection left right) = IsClear inside left × IsClear inside right
    IsClear inside (array member at) = IsClear true member
    IsClear inside (repeated member n at) = IsClear true member
    IsClear inside (tuple members rest at) = AreClear true members × IsClearIf true rest
    IsClear inside (map_of member at) = IsClear true member
    IsClear inside (closed_record fields rest at) = HaveClear [] fields × IsClearIf true rest
    IsClear inside (open_record fields at) = HaveClear [] fields
    IsClear inside any_error = ⊤
    IsClear inside (error_with detail at) = IsClear true detail
    IsClear inside (any_function isolated) = ⊤
    IsClear inside (function_from isolated params rest result at) = AreClear true params × IsClearIf true rest × IsClearIf true result
    IsClear inside (future_of result at) = IsClear true result

    pub AreClear : Bool → Descriptors → Type 0
    AreClear inside no_more = ⊤
    AreClear inside (then_more d ds) = IsClear inside d × AreClear inside ds

    -- the fields of a record, behind those with the earlier names
    pub HaveClear : List Name → FieldDescriptors → Type 0
    HaveClear earlier no_field = ⊤
    HaveClear earlier (then_field name may_lack d fs) =
        (list_any (is_same_text name.name) earlier ≡ false) × IsClear true d × HaveClear (earlier ++ name.name ∷ []) fs

    pub IsClearIf : Bool → MaybeDescriptor → Type 0
    IsClearIf inside absent = ⊤
    IsClearIf inside (present d) = IsClear inside d
