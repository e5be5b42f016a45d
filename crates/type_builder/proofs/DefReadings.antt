-- What readings of the table do with whole definitions: how many atoms they add, and that they refuse for want of room alone.
use Rattle.std.proofs.Common.{◌≡◌, ◌<◌, ◌≤◌, ℕ, ◌+◌, Bool, false, List, [], ◌∷◌, length, map, fold, Option, ap, subst, ◌∙◌, arith}
use Rattle.bal_base.specs.declared.fault.Fault.{Fault}
use Rattle.bal_base.specs.declared.limits.TheConstants.{MOST_ATOMS}
use Rattle.bal_base.specs.declared.place.Place.{Place}
use Rattle.bal_tree.specs.declared.def.ConstDef.{ConstDef}
use Rattle.bal_tree.specs.declared.def.Def.{Def}
use Rattle.bal_tree.specs.declared.def.Def.TheVariants.{«Type» as TypeOf, Const, Variable as VariableOf, Function as FunctionOf}
use Rattle.bal_tree.specs.declared.def.FunctionDef.{FunctionDef}
use Rattle.bal_tree.specs.declared.name.QualifiedName.{QualifiedName}
use Rattle.bal_tree.specs.declared.package.Package.{Package}
use Rattle.type_model.specs.declared.atoms.AtomDef.{AtomDef}
use Rattle.type_model.specs.declared.atoms.AtomDef.TheVariants.{List as ListAtom, Arrow, Future as FutureAtom}
use Rattle.type_model.specs.declared.basic.SemType.{Atom, Basic}
use Rattle.type_model.specs.declared.basic.Ty.{Ty}
use Rattle.checks.specs.Checks.{Check, Gives, Refuses, gives, ◌▷◌}
use Rattle.descriptors.specs.declared.names.Meaning.TheVariants.{TypeName, Constant, Variable, Function}
use Rattle.descriptors.specs.declared.names.Names.{Names}
use Rattle.descriptors.specs.declared.names.Scope.{Scope}
use Rattle.descriptors.specs.declared.names.Signature.{Signature}
use Rattle.descriptors.specs.Descriptors.{Descriptor, Descriptors, descriptor_if, descriptor_of, in_a_row}
use Rattle.descriptors.specs.Described.{Atoms, IsRewritten, described_by, plain, value_set}
use Rattle.name_resolution.specs.Clear.{IsClear, IsClearIf}
use Rattle.name_resolution.specs.Definitions.{Placed, is_public, scope_at}
use Rattle.name_resolution.specs.Named.{HasClearSignature, IsClearDef, IsKnown, IsKnownPart}
use Rattle.type_builder.specs.AtomPlaces.{all_places, def_places, function_places, param_places, places, places_if, value_places}
use Rattle.type_builder.specs.Meanings.{IfRewritten, IsSignature, constant_by, earlier_with, entries_by, entry_by, kept_by, meaning_by, param_descriptor, rest_descriptor, signature_by, signed_by, values_by, values_of}
use Rattle.type_builder.specs.declared.earlier.Earlier.{Earlier}
use Rattle.type_builder.specs.Passes.{placed_places}
use Rattle.type_builder.proofs.ClearMore.{clear-more, if-clear-more, params-clear-more, rest-clear-more}
use Rattle.type_builder.proofs.Counting.{Counted, Grows, all-counted, as_before, atom-counted, described-counted, gives-counted, if-counted, one_more, result-counted, some-same, then-counted}
use Rattle.type_builder.proofs.DraftReadings.{others-places, param-places}
use Rattle.type_builder.proofs.Growing.{Grown, both-grow, if-grow, then-one}
use Rattle.type_builder.proofs.Refusing.{Refusing, all-refusing, atom-refusing, described-refusing, gives-refusing, if-refusing, result-refusing, then-refusing, Stands}

module _ {S : Type 0} (size : S → ℕ) where
  counted-same : {A : Type 0} (f g : Grows) (m : Check S A) → ((before : List Place) → f before ≡ g before) → Counted size m f → Counted size m g
  counted-same f g m same c s a t before e h = c s a t before e h ∙ ap length (same before)

  refusing-same : {A : Type 0} (f g : Grows) (m : Check S A) → ((before : List Place) → f before ≡ g before) → Refusing size m f → Refusing size m g
  refusing-same f g m same r s x t before e h = subst (λ b. MOST_ATOMS < length b) (same before) (r s x t before e h)

  -- as the table has the places of a function's atoms
  abbrev in_table : FunctionDef → Grows
  in_table d before =
      value_places d.at (places_if (descriptor_if d.result) (places_if (rest_descriptor d.params.rest) (all_places (in_a_row (map param_descriptor d.params.params.items)) before)))

  same-table : (d : FunctionDef) (before : List Place) → in_table d before ≡ function_places d before
  same-table d before =
      ap (λ b. value_places d.at (places_if (descriptor_if d.result) (places_if (rest_descriptor d.params.rest) b))) (param-places before d.params.params.items)
      ∙ ap (λ b. value_places d.at (places_if (descriptor_if d.result) b)) (others-places (fold param_places before d.params.params.items) d.params.rest)

  module _ (atom : AtomDef → Place → Check S ℕ) (some : (A : Type 0) → (Atoms → A → Type 0) → Check S A)
      (atom_adds : (def : AtomDef) (at : Place) (s : S) (n : ℕ) (t : S) → atom def at s (Gives n) t → size t ≡ size s + 1)
      (some_keeps : (A : Type 0) (P : Atoms → A → Type 0) (s : S) (a : A) (t : S) → some A P s (Gives a) t → size t ≡ size s)
      (names : Names) where
    -- ---- how many atoms

    module _ (scope : Scope) where
      abbrev atom-more : (def : AtomDef) (at : Place) → Counted size (atom def at) (one_more at)
      atom-more = atom-counted size atom some atom_adds some_keeps names scope

      abbrev some-more : (A : Type 0) (P : Atoms → A → Type 0) → Counted size (some A P) as_before
      some-more = some-same size atom some atom_adds some_keeps names scope

      values-counted : (d : FunctionDef) (fixed : List Ty) (rest : Option Ty) (result : Ty) → Counted size (values_by atom some names scope d fixed rest result) (value_places d.at)
      values-counted d fixed rest result =
          then-counted size (one_more d.at) (λ b. one_more d.at (one_more d.at (one_more d.at b))) _ _ (atom-more (ListAtom fixed rest) d.at)
          (λ arguments. then-counted size (one_more d.at) (λ b. one_more d.at (one_more d.at b)) _ _ (atom-more (Arrow (Atom arguments) result.sem d.isolated) d.at)
          (λ arrow. then-counted size as_before (λ b. one_more d.at (one_more d.at b)) _ _ (some-more (Option Ty) (λ env. IfRewritten env rest))
          (λ others. then-counted size (one_more d.at) (one_more d.at) _ _ (atom-more (ListAtom [] others) d.at)
          (λ lists. then-counted size as_before (one_more d.at) _ _ (some-more Ty (IsRewritten result))
          (λ given. then-counted size (one_more d.at) as_before _ _ (atom-more (FutureAtom given.sem) d.at) (λ future. gives-counted size (values_of arrow lists future)))))))

      pub signed-counted : (unit : ℕ) (d : FunctionDef) (fixed : List Ty) (rest : Option Ty) (result : Ty) → Counted size (signed_by atom some names scope unit d fixed rest result) (value_places d.at)
      signed-counted unit d fixed rest result =
          then-counted size (value_places d.at) as_before _ _ (values-counted d fixed rest result) (λ atoms. some-more Signature (IsSignature unit d.isolated fixed rest result atoms))

      pub signature-counted : (unit : ℕ) (d : FunctionDef) → Counted size (signature_by atom some names scope unit d) (function_places d)
      signature-counted unit d =
          counted-same (in_table d) (function_places d) (signature_by atom some names scope unit d) (same-table d)
          (then-counted size (all_places params) (λ before. value_places d.at (places_if (descriptor_if d.result) (places_if (rest_descriptor d.params.rest) before))) _ _
          (all-counted size atom some atom_adds some_keeps names scope [] params)
          (λ fixed. then-counted size (places_if (rest_descriptor d.params.rest)) (λ before. value_places d.at (places_if (descriptor_if d.result) before)) _ _
          (if-counted size atom some atom_adds some_keeps names scope (rest_descriptor d.params.rest))
          (λ rest. then-counted size (places_if (descriptor_if d.result)) (value_places d.at) _ _
          (result-counted size atom some atom_adds some_keeps names scope (descriptor_if d.result)) (λ result. signed-counted unit d fixed rest result))))
        where
          params : Descriptors
          params = in_a_row (map param_descriptor d.params.params.items)

      pub constant-counted : (d : ConstDef) → Counted size (constant_by atom some names scope d) (places_if (descriptor_if d.ty))
      constant-counted d =
          then-counted size (places_if (descriptor_if d.ty)) as_before _ _ (if-counted size atom some atom_adds some_keeps names scope (descriptor_if d.ty))
          (λ declared. gives-counted size (Constant (plain (Basic (value_set d.value)))))

      -- a type, as it is kept
      kept-counted : {A : Type 0} (d : Descriptor) (next : Ty → A)
          → Counted size (described_by atom some names scope d ▷ λ t. kept_by atom some names t ▷ λ u. gives (next u)) (places d)
      kept-counted d next =
          then-counted size (places d) as_before _ _ (described-counted size atom some atom_adds some_keeps names scope d)
          (λ t. then-counted size as_before as_before _ _ (some-same size atom some atom_adds some_keeps names scope Ty (IsRewritten t)) (λ u. gives-counted size (next u)))

      pub meaning-counted : (unit : Earlier) (def : Def) → Counted size (meaning_by atom some names scope unit def) (λ before. def_places before def)
      meaning-counted unit (TypeOf d) = kept-counted (descriptor_of d.ty.value) TypeName
      meaning-counted unit (Const d) = constant-counted d
      meaning-counted unit (VariableOf d) = kept-counted (descriptor_of d.ty.value) (Variable unit.variables d.is_final)
      meaning-counted unit (FunctionOf d) = then-counted size (function_places d) as_before _ _ (signature-counted unit.functions d) (λ s. gives-counted size (Function s))

    pub entry-counted : (unit : Earlier) (p : Placed) → Counted size (entry_by atom some names unit p) (λ before. placed_places before p)
    entry-counted unit p =
        then-counted size (λ before. placed_places before p) as_before _ _ (meaning-counted (scope_at p) unit p.def) (λ m. gives-counted size (record { public = is_public p.def; meaning = m }))

    pub entries-counted : (unit : Earlier) (ps : List Placed) → Counted size (entries_by atom some names unit ps) (λ before. fold placed_places before ps)
    entries-counted unit [] = gives-counted size []
    entries-counted unit (p ∷ ps) =
        then-counted size (λ before. placed_places before p) (λ before. fold placed_places before ps) _ _ (entry-counted unit p)
        (λ e. then-counted size (λ before. fold placed_places before ps) as_before _ _ (entries-counted (earlier_with unit p.def) ps) (λ es. gives-counted size (e ∷ es)))

    -- ---- no fault but for want of room

    module _ (atom_refuses : (def : AtomDef) (at : Place) (s : S) (f : Fault) (t : S) → atom def at s (Refuses f) t → MOST_ATOMS ≤ size s)
        (some_gives : (A : Type 0) (P : Atoms → A → Type 0) (s : S) (f : Fault) (t : S) → some A P s (Refuses f) t → ⊥)
        (p : Package) (q : Placed) where
      -- each name of the descriptors that stand there stands for a type
      abbrev Typed : Bool → QualifiedName → Type 0
      Typed = Stands size atom some atom_adds some_keeps atom_refuses some_gives names (scope_at q)

      module _ (known : (inside : Bool) (name : QualifiedName) → IsKnown p q inside name → Typed inside name) where
        still : Grown as_before
        still before = omega arith

        holds : (A : Type 0) (P : Atoms → A → Type 0) → Refusing size (some A P) as_before
        holds A P s f t before e h = absurd (some_gives A P s f t h)

        one-grows : (at : Place) → Grown (one_more at)
        one-grows at = then-one as_before at still

        two-grow : (at : Place) → Grown (λ before. one_more at (one_more at before))
        two-grow at = then-one (one_more at) at (one-grows at)

        three-grow : (at : Place) → Grown (λ before. one_more at (one_more at (one_more at before)))
        three-grow at = then-one (λ before. one_more at (one_more at before)) at (two-grow at)

        values-grow : (at : Place) → Grown (value_places at)
        values-grow at = then-one (λ before. one_more at (one_more at (one_more at before))) at (three-grow at)

        atom-more-refusing : (def : AtomDef) (at : Place) → Refusing size (atom def at) (one_more at)
        atom-more-refusing = atom-refusing size atom some atom_adds some_keeps atom_refuses some_gives names (scope_at q)

        values-refusing : (d : FunctionDef) (fixed : List Ty) (rest : Option Ty) (result : Ty) → Refusing size (values_by atom some names (scope_at q) d fixed rest result) (value_places d.at)
        values-refusing d fixed rest result =
            then-refusing size (one_more d.at) (λ b. one_more d.at (one_more d.at (one_more d.at b))) _ _ (atom-more (scope_at q) (ListAtom fixed rest) d.at) (atom-more-refusing (ListAtom fixed rest) d.at) (three-grow d.at)
            (λ arguments. then-refusing size (one_more d.at) (λ b. one_more d.at (one_more d.at b)) _ _ (atom-more (scope_at q) (Arrow (Atom arguments) result.sem d.isolated) d.at)
            (atom-more-refusing (Arrow (Atom arguments) result.sem d.isolated) d.at) (two-grow d.at)
            (λ arrow. then-refusing size as_before (λ b. one_more d.at (one_more d.at b)) _ _ (some-more (scope_at q) (Option Ty) (λ env. IfRewritten env rest)) (holds (Option Ty) (λ env. IfRewritten env rest)) (two-grow d.at)
            (λ others. then-refusing size (one_more d.at) (one_more d.at) _ _ (atom-more (scope_at q) (ListAtom [] others) d.at) (atom-more-refusing (ListAtom [] others) d.at) (one-grows d.at)
            (λ lists. then-refusing size as_before (one_more d.at) _ _ (some-more (scope_at q) Ty (IsRewritten result)) (holds Ty (IsRewritten result)) (one-grows d.at)
            (λ given. then-refusing size (one_more d.at) as_before _ _ (atom-more (scope_at q) (FutureAtom given.sem) d.at) (atom-more-refusing (FutureAtom given.sem) d.at) still
            (λ future. gives-refusing size (values_of arrow lists future)))))))

        signed-refusing : (unit : ℕ) (d : FunctionDef) (fixed : List Ty) (rest : Option Ty) (result : Ty)
            → Refusing size (signed_by atom some names (scope_at q) unit d fixed rest result) (value_places d.at)
        signed-refusing unit d fixed rest result =
            then-refusing size (value_places d.at) as_before _ _ (values-counted (scope_at q) d fixed rest result) (values-refusing d fixed rest result) still
            (λ atoms. holds Signature (IsSignature unit d.isolated fixed rest result atoms))

        signature-refusing : (unit : ℕ) (d : FunctionDef) → HasClearSignature (IsKnown p q) d → Refusing size (signature_by atom some names (scope_at q) unit d) (function_places d)
        signature-refusing unit d clear =
            refusing-same (in_table d) (function_places d) (signature_by atom some names (scope_at q) unit d) (same-table d)
            (then-refusing size (all_places params) (λ before. value_places d.at (result (rest before))) _ _
            (all-counted size atom some atom_adds some_keeps names (scope_at q) [] params)
            (all-refusing size atom some atom_adds some_keeps atom_refuses some_gives names (scope_at q) false [] params (params-clear-more (IsKnown p q) Typed known d.params.params.items clear.params))
            (both-grow rest (λ before. value_places d.at (result before)) (if-grow (rest_descriptor d.params.rest)) result-grows)
            (λ fixed. then-refusing size rest (λ before. value_places d.at (result before)) _ _
            (if-counted size atom some atom_adds some_keeps names (scope_at q) (rest_descriptor d.params.rest))
            (if-refusing size atom some atom_adds some_keeps atom_refuses some_gives names (scope_at q) false (rest_descriptor d.params.rest) (rest-clear-more (IsKnown p q) Typed known d.params.rest clear.rest))
            result-grows
            (λ others. then-refusing size result (value_places d.at) _ _
            (result-counted size atom some atom_adds some_keeps names (scope_at q) (descriptor_if d.result))
            (result-refusing size atom some atom_adds some_keeps atom_refuses some_gives names (scope_at q) false (descriptor_if d.result) (if-clear-more (IsKnown p q) Typed known false (descriptor_if d.result) clear.result))
            (values-grow d.at) (λ given. signed-refusing unit d fixed others given))))
          where
            params : Descriptors
            params = in_a_row (map param_descriptor d.params.params.items)

            rest : Grows
            rest = places_if (rest_descriptor d.params.rest)

            result : Grows
            result = places_if (descriptor_if d.result)

            result-grows : Grown (λ before. value_places d.at (result before))
            result-grows = both-grow result (value_places d.at) (if-grow (descriptor_if d.result)) (values-grow d.at)

        constant-refusing : (d : ConstDef) → IsClearIf (IsKnown p q) false (descriptor_if d.ty) → Refusing size (constant_by atom some names (scope_at q) d) (places_if (descriptor_if d.ty))
        constant-refusing d clear =
            then-refusing size (places_if (descriptor_if d.ty)) as_before _ _ (if-counted size atom some atom_adds some_keeps names (scope_at q) (descriptor_if d.ty))
            (if-refusing size atom some atom_adds some_keeps atom_refuses some_gives names (scope_at q) false (descriptor_if d.ty) (if-clear-more (IsKnown p q) Typed known false (descriptor_if d.ty) clear)) still
            (λ declared. gives-refusing size (Constant (plain (Basic (value_set d.value)))))

        kept-refusing : {A : Type 0} (d : Descriptor) (next : Ty → A) → IsClear (IsKnown p q) false d
            → Refusing size (described_by atom some names (scope_at q) d ▷ λ t. kept_by atom some names t ▷ λ u. gives (next u)) (places d)
        kept-refusing d next clear =
            then-refusing size (places d) as_before _ _ (described-counted size atom some atom_adds some_keeps names (scope_at q) d)
            (described-refusing size atom some atom_adds some_keeps atom_refuses some_gives names (scope_at q) false d (clear-more (IsKnown p q) Typed known false d clear)) still
            (λ t. then-refusing size as_before as_before _ _ (some-same size atom some atom_adds some_keeps names (scope_at q) Ty (IsRewritten t)) (holds Ty (IsRewritten t)) still (λ u. gives-refusing size (next u)))

        pub meaning-refusing : (n : ℕ) (unit : Earlier) (def : Def) → IsClearDef p n q def → Refusing size (meaning_by atom some names (scope_at q) unit def) (λ before. def_places before def)
        meaning-refusing n unit (TypeOf d) clear =
            kept-refusing (descriptor_of d.ty.value) TypeName (clear-more (IsKnownPart p n q) (IsKnown p q) (λ inside name h. (h.0, h.1)) false (descriptor_of d.ty.value) clear)
        meaning-refusing n unit (Const d) clear = constant-refusing d clear
        meaning-refusing n unit (VariableOf d) clear = kept-refusing (descriptor_of d.ty.value) (Variable unit.variables d.is_final) clear
        meaning-refusing n unit (FunctionOf d) clear =
            then-refusing size (function_places d) as_before _ _ (signature-counted (scope_at q) unit.functions d) (signature-refusing unit.functions d clear) still (λ s. gives-refusing size (Function s))
