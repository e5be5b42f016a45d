-- What type descriptors mention of names, in text order.
use Rattle.std.specs.Prelude.{◌++◌, ℕ, Bool, true, List, [], ◌∷◌, Option, None, Some, if◌then◌else◌}
use Rattle.std.specs.List.{list_any}
use Rattle.std.specs.Option.{option_and_then}
use Rattle.bal_base.specs.declared.text.Name.{Name}
use Rattle.bal_tree.specs.declared.name.Prefix.{Prefix}
use Rattle.bal_tree.specs.declared.name.Prefix.TheVariants.{Word as WordPrefix, Int as IntPrefix}
use Rattle.bal_tree.specs.declared.name.QualifiedName.{QualifiedName}
use Rattle.bal_tree.specs.declared.name.Word.{Word}
use Rattle.type_model.specs.Places.{is_same_text}
use Rattle.descriptors.specs.declared.names.FileNames.{FileNames}
use Rattle.descriptors.specs.declared.names.Source.{Source}
use Rattle.name_resolution.specs.declared.mentions.Mention.{Mention}
use Rattle.name_resolution.specs.declared.mentions.Mention.TheVariants.{Use, Again}
use Rattle.descriptors.specs.Descriptors.{Descriptor, builtin, value, named, optional, union, intersection, array, repeated, tuple, map_of, closed_record, open_record, any_error, error_with, any_function, function_from, future_of, Descriptors, no_more, then_more, FieldDescriptors, no_field, then_field, MaybeDescriptor, absent, present}
use Rattle.descriptors.specs.Naming.{file_source, module_of}

-- a field's name once more, where it is taken
abbrev pub again_if : Bool → Word → List Mention → List Mention
again_if taken name before = if taken then before ++ Again name.at ∷ [] else before

-- as it is read in a module, and in a file whose prefixes stand for these sources
module _ («module» : ℕ) (source : Name → Option Source) where
  -- the module in which a name with this prefix is sought
  abbrev pub home_of : Option Prefix → Option ℕ
  home_of None = Some «module»
  home_of (Some (IntPrefix at)) = None
  home_of (Some (WordPrefix prefix)) = option_and_then module_of (source prefix.name)

  abbrev pub use_of : Bool → QualifiedName → Mention
  use_of inside name = Use (home_of name.prefix) name.word.name name.at inside

  abbrev mutual
    -- What a descriptor mentions, behind what was mentioned before. `inside`: it is a part of a list, a mapping, an error, a
    -- function or a future.
    pub mentioned : Bool → Descriptor → List Mention → List Mention
    mentioned inside (builtin b) before = before
    mentioned inside (value v) before = before
    mentioned inside (named name) before = before ++ use_of inside name ∷ []
    mentioned inside (optional of) before = mentioned inside of before
    mentioned inside (union left right) before = mentioned inside right (mentioned inside left before)
    mentioned inside (intersection left right) before = mentioned inside right (mentioned inside left before)
    mentioned inside (array member at) before = mentioned true member before
    mentioned inside (repeated member n at) before = mentioned true member before
    mentioned inside (tuple members rest at) before = mentioned_if true rest (all_mentioned true members before)
    mentioned inside (map_of member at) before = mentioned true member before
    mentioned inside (closed_record fields rest at) before = mentioned_if true rest (fields_mentioned [] fields before)
    mentioned inside (open_record fields at) before = fields_mentioned [] fields before
    mentioned inside any_error before = before
    mentioned inside (error_with detail at) before = mentioned true detail before
    mentioned inside (any_function isolated) before = before
    mentioned inside (function_from isolated params rest result at) before =
        mentioned_if true result (mentioned_if true rest (all_mentioned true params before))
    mentioned inside (future_of result at) before = mentioned true result before

    pub all_mentioned : Bool → Descriptors → List Mention → List Mention
    all_mentioned inside no_more before = before
    all_mentioned inside (then_more d ds) before = all_mentioned inside ds (mentioned inside d before)

    -- the fields of a record, behind those with the earlier names
    pub fields_mentioned : List Name → FieldDescriptors → List Mention → List Mention
    fields_mentioned earlier no_field before = before
    fields_mentioned earlier (then_field name may_lack d fs) before =
        fields_mentioned (earlier ++ name.name ∷ []) fs
        (again_if (list_any (is_same_text name.name) earlier) name (mentioned true d before))

    pub mentioned_if : Bool → MaybeDescriptor → List Mention → List Mention
    mentioned_if inside absent before = before
    mentioned_if inside (present d) before = mentioned inside d before

-- what the prefixes of a file stand for
abbrev pub sources : FileNames → Name → Option Source
sources file prefix = file_source prefix file
