-- Where nothing that a descriptor mentions is wrong, its names hold, and its records give no name to two fields.
use Rattle.std.proofs.Common.{◌≡◌, ℕ, Bool, true, false, List, [], ◌∷◌, ◌++◌, Option, refl}
use Rattle.std.specs.List.{Contains, list_any}
use Rattle.std.proofs.lemmas.List.Elements.{Contains-push, Contains-append_left}
use Rattle.bal_base.specs.declared.place.Place.{Place}
use Rattle.bal_base.specs.declared.text.Name.{Name}
use Rattle.bal_tree.specs.declared.name.QualifiedName.{QualifiedName}
use Rattle.bal_tree.specs.declared.name.Word.{Word}
use Rattle.descriptors.specs.declared.names.Source.{Source}
use Rattle.descriptors.specs.Descriptors.{Descriptor, builtin, value, named, optional, union, intersection, array, repeated, tuple, map_of, closed_record, open_record, any_error, error_with, any_function, function_from, future_of, Descriptors, no_more, then_more, FieldDescriptors, no_field, then_field, MaybeDescriptor, absent, present}
use Rattle.type_model.specs.Places.{is_same_text}
use Rattle.name_resolution.specs.Clear.{IsClear, AreClear, HaveClear, IsClearIf}
use Rattle.name_resolution.specs.Mentions.{again_if, all_mentioned, fields_mentioned, mentioned, mentioned_if, use_of}
use Rattle.name_resolution.specs.declared.mentions.Mention.{Mention}
use Rattle.name_resolution.specs.declared.mentions.Mention.TheVariants.{Again}

again-keeps : (taken : Bool) (name : Word) (before : List Mention) (x : Mention) → Contains before x → Contains (again_if taken name before) x
again-keeps true name before x c = Contains-append_left before (Again name.at ∷ []) x c
again-keeps false name before x c = c

not-again : (taken : Bool) (name : Word) (before : List Mention) → (Contains (again_if taken name before) (Again name.at) → ⊥) → taken ≡ false
not-again true name before f = absurd (f (Contains-push before (Again name.at)))
not-again false name before f = refl

module _ («module» : ℕ) (source : Name → Option Source) where
  abbrev says : Bool → Descriptor → List Mention → List Mention
  says = mentioned «module» source

  -- what was mentioned before is mentioned still
  mutual
    pub keeps : (inside : Bool) (d : Descriptor) (before : List Mention) (x : Mention) → Contains before x → Contains (says inside d before) x
    keeps inside (builtin b) before x c = c
    keeps inside (value v) before x c = c
    keeps inside (named name) before x c = Contains-append_left before (use_of «module» source inside name ∷ []) x c
    keeps inside (optional of) before x c = keeps inside of before x c
    keeps inside (union left right) before x c = keeps inside right (says inside left before) x (keeps inside left before x c)
    keeps inside (intersection left right) before x c = keeps inside right (says inside left before) x (keeps inside left before x c)
    keeps inside (array member at) before x c = keeps true member before x c
    keeps inside (repeated member n at) before x c = keeps true member before x c
    keeps inside (tuple members rest at) before x c = if-keeps true rest (all_mentioned «module» source true members before) x (all-keep true members before x c)
    keeps inside (map_of member at) before x c = keeps true member before x c
    keeps inside (closed_record fields rest at) before x c = if-keeps true rest (fields_mentioned «module» source [] fields before) x (fields-keep [] fields before x c)
    keeps inside (open_record fields at) before x c = fields-keep [] fields before x c
    keeps inside any_error before x c = c
    keeps inside (error_with detail at) before x c = keeps true detail before x c
    keeps inside (any_function isolated) before x c = c
    keeps inside (function_from isolated params rest result at) before x c =
        if-keeps true result (mentioned_if «module» source true rest (all_mentioned «module» source true params before)) x
        (if-keeps true rest (all_mentioned «module» source true params before) x (all-keep true params before x c))
    keeps inside (future_of result at) before x c = keeps true result before x c

    pub all-keep : (inside : Bool) (ds : Descriptors) (before : List Mention) (x : Mention) → Contains before x → Contains (all_mentioned «module» source inside ds before) x
    all-keep inside no_more before x c = c
    all-keep inside (then_more d ds) before x c = all-keep inside ds (says inside d before) x (keeps inside d before x c)

    pub fields-keep : (earlier : List Name) (fs : FieldDescriptors) (before : List Mention) (x : Mention) → Contains before x → Contains (fields_mentioned «module» source earlier fs before) x
    fields-keep earlier no_field before x c = c
    fields-keep earlier (then_field name may_lack d fs) before x c =
        fields-keep (earlier ++ name.name ∷ []) fs (again_if (list_any (is_same_text name.name) earlier) name (says true d before)) x
        (again-keeps (list_any (is_same_text name.name) earlier) name (says true d before) x (keeps true d before x c))

    pub if-keeps : (inside : Bool) (m : MaybeDescriptor) (before : List Mention) (x : Mention) → Contains before x → Contains (mentioned_if «module» source inside m before) x
    if-keeps inside absent before x c = c
    if-keeps inside (present d) before x c = keeps inside d before x c

  -- Fine: what is so of each mention; no name of a field is one of an earlier field
  module _ (Fine : Mention → Type 0) (Holds : Bool → QualifiedName → Type 0) (holds : (inside : Bool) (name : QualifiedName) → Fine (use_of «module» source inside name) → Holds inside name)
      (apart : (at : Place) → Fine (Again at) → ⊥) where
    abbrev AllFine : List Mention → Type 0
    AllFine ms = (x : Mention) → Contains ms x → Fine x

    mutual
      pub clear : (inside : Bool) (d : Descriptor) (before : List Mention) → AllFine (says inside d before) → IsClear Holds inside d
      clear inside (builtin b) before f = tt
      clear inside (value v) before f = tt
      clear inside (named name) before f = holds inside name (f (use_of «module» source inside name) (Contains-push before (use_of «module» source inside name)))
      clear inside (optional of) before f = clear inside of before f
      clear inside (union left right) before f =
          (clear inside left before (λ x c. f x (keeps inside right (says inside left before) x c)), clear inside right (says inside left before) f)
      clear inside (intersection left right) before f =
          (clear inside left before (λ x c. f x (keeps inside right (says inside left before) x c)), clear inside right (says inside left before) f)
      clear inside (array member at) before f = clear true member before f
      clear inside (repeated member n at) before f = clear true member before f
      clear inside (tuple members rest at) before f =
          let first = all_mentioned «module» source true members before in
          (all-clear true members before (λ x c. f x (if-keeps true rest first x c)), if-clear true rest first f)
      clear inside (map_of member at) before f = clear true member before f
      clear inside (closed_record fields rest at) before f =
          let first = fields_mentioned «module» source [] fields before in
          (fields-clear [] fields before (λ x c. f x (if-keeps true rest first x c)), if-clear true rest first f)
      clear inside (open_record fields at) before f = fields-clear [] fields before f
      clear inside any_error before f = tt
      clear inside (error_with detail at) before f = clear true detail before f
      clear inside (any_function isolated) before f = tt
      clear inside (function_from isolated params rest result at) before f =
          let first = all_mentioned «module» source true params before in
          let both = mentioned_if «module» source true rest first in (
            all-clear true params before (λ x c. f x (if-keeps true result both x (if-keeps true rest first x c))),
            if-clear true rest first (λ x c. f x (if-keeps true result both x c)),
            if-clear true result both f,
          )
      clear inside (future_of result at) before f = clear true result before f

      pub all-clear : (inside : Bool) (ds : Descriptors) (before : List Mention) → AllFine (all_mentioned «module» source inside ds before) → AreClear Holds inside ds
      all-clear inside no_more before f = tt
      all-clear inside (then_more d ds) before f =
          (clear inside d before (λ x c. f x (all-keep inside ds (says inside d before) x c)), all-clear inside ds (says inside d before) f)

      pub fields-clear : (earlier : List Name) (fs : FieldDescriptors) (before : List Mention) → AllFine (fields_mentioned «module» source earlier fs before) → HaveClear Holds earlier fs
      fields-clear earlier no_field before f = tt
      fields-clear earlier (then_field name may_lack d fs) before f =
          let taken = list_any (is_same_text name.name) earlier in
          let next = again_if taken name (says true d before) in
          let later = earlier ++ name.name ∷ [] in (
            not-again taken name (says true d before) (λ c. apart name.at (f (Again name.at) (fields-keep later fs next (Again name.at) c))),
            clear true d before (λ x c. f x (fields-keep later fs next x (again-keeps taken name (says true d before) x c))),
            fields-clear later fs next f,
          )

      pub if-clear : (inside : Bool) (m : MaybeDescriptor) (before : List Mention) → AllFine (mentioned_if «module» source inside m before) → IsClearIf Holds inside m
      if-clear inside absent before f = tt
      if-clear inside (present d) before f = clear inside d before f
