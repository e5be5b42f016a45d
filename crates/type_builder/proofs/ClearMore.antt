-- What holds of each name of a descriptor gives what follows from it of each.
use Rattle.std.proofs.Common.{Bool, true, false, List, [], ◌∷◌, ◌++◌, All, IfSome, Option, None, Some}
use Rattle.std.proofs.lemmas.List.Elements.{All-head, All-tail}
use Rattle.bal_base.specs.declared.text.Name.{Name}
use Rattle.bal_tree.specs.declared.name.QualifiedName.{QualifiedName}
use Rattle.bal_tree.specs.declared.params.Param.{Param}
use Rattle.descriptors.specs.Descriptors.{Descriptor, builtin, value, named, optional, union, intersection, array, repeated, tuple, map_of, closed_record, open_record, any_error, error_with, any_function, function_from, future_of, Descriptors, no_more, then_more, FieldDescriptors, no_field, then_field, MaybeDescriptor, absent, present, in_a_row}
use Rattle.name_resolution.specs.Clear.{AreClear, HaveClear, IsClear, IsClearIf}
use Rattle.name_resolution.specs.Named.{IsClearParam}
use Rattle.type_builder.specs.Meanings.{param_descriptor, rest_descriptor}
use Rattle.std.specs.Prelude.{map}

module _ (H K : Bool → QualifiedName → Type 0) (weaker : (inside : Bool) (name : QualifiedName) → H inside name → K inside name) where
  mutual
    pub clear-more : (inside : Bool) (d : Descriptor) → IsClear H inside d → IsClear K inside d
    clear-more inside (builtin b) h = tt
    clear-more inside (value v) h = tt
    clear-more inside (named name) h = weaker inside name h
    clear-more inside (optional of) h = clear-more inside of h
    clear-more inside (union left right) h = (clear-more inside left h.0, clear-more inside right h.1)
    clear-more inside (intersection left right) h = (clear-more inside left h.0, clear-more inside right h.1)
    clear-more inside (array member at) h = clear-more true member h
    clear-more inside (repeated member n at) h = clear-more true member h
    clear-more inside (tuple members rest at) h = (all-clear-more true members h.0, if-clear-more true rest h.1)
    clear-more inside (map_of member at) h = clear-more true member h
    clear-more inside (closed_record fields rest at) h = (fields-clear-more [] fields h.0, if-clear-more true rest h.1)
    clear-more inside (open_record fields at) h = fields-clear-more [] fields h
    clear-more inside any_error h = tt
    clear-more inside (error_with detail at) h = clear-more true detail h
    clear-more inside (any_function isolated) h = tt
    clear-more inside (function_from isolated params rest result at) h = (all-clear-more true params h.0, if-clear-more true rest h.1, if-clear-more true result h.2)
    clear-more inside (future_of result at) h = clear-more true result h

    pub all-clear-more : (inside : Bool) (ds : Descriptors) → AreClear H inside ds → AreClear K inside ds
    all-clear-more inside no_more h = tt
    all-clear-more inside (then_more d ds) h = (clear-more inside d h.0, all-clear-more inside ds h.1)

    pub fields-clear-more : (earlier : List Name) (fs : FieldDescriptors) → HaveClear H earlier fs → HaveClear K earlier fs
    fields-clear-more earlier no_field h = tt
    fields-clear-more earlier (then_field name may_lack d fs) h = (h.0, clear-more true d h.1, fields-clear-more (earlier ++ name.name ∷ []) fs h.2)

    pub if-clear-more : (inside : Bool) (m : MaybeDescriptor) → IsClearIf H inside m → IsClearIf K inside m
    if-clear-more inside absent h = tt
    if-clear-more inside (present d) h = clear-more inside d h

  -- parameters, in a row
  pub params-clear-more : (ps : List Param) → All (IsClearParam H) ps → AreClear K false (in_a_row (map param_descriptor ps))
  params-clear-more [] h = tt
  params-clear-more (p ∷ ps) h = (clear-more false (param_descriptor p) (All-head (IsClearParam H) p ps h), params-clear-more ps (All-tail (IsClearParam H) p ps h))

  pub rest-clear-more : (rest : Option Param) → IfSome rest (IsClearParam H) → IsClearIf K false (rest_descriptor rest)
  rest-clear-more None h = tt
  rest-clear-more (Some p) h = clear-more false (param_descriptor p) h
