-- Definitions whose atoms stand among the finished ones: what is drafted of them is what they mean there.
use Rattle.std.proofs.Common.{◌≡◌, ℕ, false, List, [], ◌∷◌, map, Option, refl, subst}
use Rattle.bal_base.specs.declared.place.Place.{Place}
use Rattle.bal_tree.specs.declared.def.ConstDef.{ConstDef}
use Rattle.bal_tree.specs.declared.def.Def.{Def}
use Rattle.bal_tree.specs.declared.def.Def.TheVariants.{«Type» as TypeOf, Const, Variable as VariableOf, Function as FunctionOf}
use Rattle.bal_tree.specs.declared.def.FunctionDef.{FunctionDef}
use Rattle.bal_tree.specs.declared.name.QualifiedName.{QualifiedName}
use Rattle.type_model.specs.declared.atoms.AtomDef.{AtomDef}
use Rattle.type_model.specs.declared.atoms.AtomDef.TheVariants.{List as ListAtom, Arrow, Future as FutureAtom}
use Rattle.type_model.specs.declared.basic.SemType.{Atom, Basic}
use Rattle.type_model.specs.declared.basic.Ty.{Ty}
use Rattle.checks.specs.Checks.{Check, Outcome, Gives, Refuses, gives, ◌▷◌}
use Rattle.descriptors.specs.declared.draft.Draft.{Draft}
use Rattle.descriptors.specs.declared.names.Entry.{Entry}
use Rattle.descriptors.specs.declared.names.Meaning.TheVariants.{TypeName, Constant, Variable, Function}
use Rattle.descriptors.specs.declared.names.Names.{Names}
use Rattle.descriptors.specs.declared.names.Scope.{Scope}
use Rattle.descriptors.specs.declared.names.Signature.{Signature}
use Rattle.descriptors.specs.Descriptors.{Descriptor, descriptor_if, descriptor_of, in_a_row}
use Rattle.descriptors.specs.Described.{Atoms, IsRewritten, described_by, plain, value_set}
use Rattle.descriptors.specs.Drafts.{next_of, numbered_on, wherever}
use Rattle.descriptors.specs.Naming.{type_named}
use Rattle.descriptors.specs.Steps.{AreOwnTypes}
use Rattle.descriptors.proofs.Readings.{Follows, some-follows as given-follows, then-follows}
use Rattle.name_resolution.specs.Definitions.{Placed, is_public, scope_at}
use Rattle.type_builder.specs.Meanings.{IfRewritten, IsSignature, at_the_end, constant_by, earlier_with, entries, entries_by, entry_by, kept_by, meaning_by, numbered, param_descriptor, rest_descriptor, signature_by, signed_by, values_by, values_of}
use Rattle.type_builder.specs.declared.earlier.Earlier.{Earlier}
use Rattle.type_builder.proofs.SameNames.{entries-same}
use Rattle.type_builder.proofs.Standing.{IsNext, Stands, all-stand, atom-follows, described-stands, if-stands, result-stands, some-follows}

module _ (final : Atoms) (names : Names) (own : AreOwnTypes final names.own) where
  -- what is drafted is what is meant
  abbrev pub AreMeant : {A : Type 0} → Check Draft A → Check ℕ A → Type 0
  AreMeant = Follows false (Stands final names own) (IsNext final names own)

  gives-meant : {A : Type 0} (a : A) → AreMeant (gives a) (gives a)
  gives-meant a = given-follows false (Stands final names own) (IsNext final names own) (λ b. b ≡ a)

  then-meant : {A B : Type 0} (m : Check Draft A) (k : Check ℕ A) (next : A → Check Draft B) (after : A → Check ℕ B) → AreMeant m k → ((a : A) → AreMeant (next a) (after a)) → AreMeant (m ▷ next) (k ▷ after)
  then-meant = then-follows false (Stands final names own) (IsNext final names own)

  some-meant : (A : Type 0) (P : Atoms → A → Type 0) → AreMeant (wherever names A P) (at_the_end final names A P)
  some-meant = some-follows final names own

  module _ (scope : Scope) where
    atom-meant : (def : AtomDef) (at : Place) → AreMeant (numbered_on def at) (numbered final names def at)
    atom-meant = atom-follows final names own

    values-meant : (d : FunctionDef) (fixed : List Ty) (rest : Option Ty) (result : Ty)
        → AreMeant (values_by numbered_on (wherever names) names scope d fixed rest result) (values_by (numbered final names) (at_the_end final names) names scope d fixed rest result)
    values-meant d fixed rest result =
        then-meant _ _ _ _ (atom-meant (ListAtom fixed rest) d.at)
        (λ arguments. then-meant _ _ _ _ (atom-meant (Arrow (Atom arguments) result.sem d.isolated) d.at)
        (λ arrow. then-meant _ _ _ _ (some-meant (Option Ty) (λ env. IfRewritten env rest))
        (λ others. then-meant _ _ _ _ (atom-meant (ListAtom [] others) d.at)
        (λ lists. then-meant _ _ _ _ (some-meant Ty (IsRewritten result))
        (λ given. then-meant _ _ _ _ (atom-meant (FutureAtom given.sem) d.at) (λ future. gives-meant (values_of arrow lists future)))))))

    signed-meant : (unit : ℕ) (d : FunctionDef) (fixed : List Ty) (rest : Option Ty) (result : Ty)
        → AreMeant (signed_by numbered_on (wherever names) names scope unit d fixed rest result) (signed_by (numbered final names) (at_the_end final names) names scope unit d fixed rest result)
    signed-meant unit d fixed rest result =
        then-meant _ _ _ _ (values-meant d fixed rest result) (λ atoms. some-meant Signature (IsSignature unit d.isolated fixed rest result atoms))

    signature-meant : (unit : ℕ) (d : FunctionDef)
        → AreMeant (signature_by numbered_on (wherever names) names scope unit d) (signature_by (numbered final names) (at_the_end final names) names scope unit d)
    signature-meant unit d =
        then-meant _ _ _ _ (all-stand final names own scope [] (in_a_row (map param_descriptor d.params.params.items)))
        (λ fixed. then-meant _ _ _ _ (if-stands final names own scope (rest_descriptor d.params.rest))
        (λ rest. then-meant _ _ _ _ (result-stands final names own scope (descriptor_if d.result)) (λ result. signed-meant unit d fixed rest result)))

    constant-meant : (d : ConstDef) → AreMeant (constant_by numbered_on (wherever names) names scope d) (constant_by (numbered final names) (at_the_end final names) names scope d)
    constant-meant d = then-meant _ _ _ _ (if-stands final names own scope (descriptor_if d.ty)) (λ declared. gives-meant (Constant (plain (Basic (value_set d.value)))))

    kept-meant : {A : Type 0} (d : Descriptor) (next : Ty → A)
        → AreMeant (described_by numbered_on (wherever names) names scope d ▷ λ t. kept_by numbered_on (wherever names) names t ▷ λ u. gives (next u))
        (described_by (numbered final names) (at_the_end final names) names scope d ▷ λ t. kept_by (numbered final names) (at_the_end final names) names t ▷ λ u. gives (next u))
    kept-meant d next = then-meant _ _ _ _ (described-stands final names own scope d) (λ t. then-meant _ _ _ _ (some-meant Ty (IsRewritten t)) (λ u. gives-meant (next u)))

    pub meaning-meant : (unit : Earlier) (def : Def)
        → AreMeant (meaning_by numbered_on (wherever names) names scope unit def) (meaning_by (numbered final names) (at_the_end final names) names scope unit def)
    meaning-meant unit (TypeOf d) = kept-meant (descriptor_of d.ty.value) TypeName
    meaning-meant unit (Const d) = constant-meant d
    meaning-meant unit (VariableOf d) = kept-meant (descriptor_of d.ty.value) (Variable unit.variables d.is_final)
    meaning-meant unit (FunctionOf d) = then-meant _ _ _ _ (signature-meant unit.functions d) (λ s. gives-meant (Function s))

  entry-meant : (unit : Earlier) (p : Placed) → AreMeant (entry_by numbered_on (wherever names) names unit p) (entry_by (numbered final names) (at_the_end final names) names unit p)
  entry-meant unit p = then-meant _ _ _ _ (meaning-meant (scope_at p) unit p.def) (λ m. gives-meant (record { public = is_public p.def; meaning = m }))

  entries-meant : (unit : Earlier) (ps : List Placed) → AreMeant (entries_by numbered_on (wherever names) names unit ps) (entries final names unit ps)
  entries-meant unit [] = gives-meant []
  entries-meant unit (p ∷ ps) = then-meant _ _ _ _ (entry-meant unit p) (λ e. then-meant _ _ _ _ (entries-meant (earlier_with unit p.def) ps) (λ es. gives-meant (e ∷ es)))

  -- an atom's number and definition are told without names
  same-numbered : (others : Names) → numbered final names ≡ numbered final others
  unfolding numbered
  same-numbered others = λ i def at next o after. by def at next after o i
    where
      by : (def : AtomDef) (at : Place) (next after : ℕ) (o : Outcome ℕ) → numbered final names def at next o after ≡ numbered final others def at next o after
      by def at next after (Gives n) = refl
      by def at next after (Refuses f) = refl

  module _ (others : Names) (alike : (q : Placed) (name : QualifiedName) → type_named names (scope_at q) name ≡ type_named others (scope_at q) name) where
    -- Entries that are drafted are what definitions mean over the finished atoms, and over names that stand for the same types.
    pub entries-there : (unit : Earlier) (ps : List Placed) (s t : Draft) (es : List Entry) → Stands final names own t → entries_by numbered_on (wherever names) names unit ps s (Gives es) t
        → entries final others unit ps (next_of s) (Gives es) (next_of t)
    entries-there unit ps s t es stand h =
        let there = (entries-meant unit ps).forth s (next_of s) (Gives es) t tt refl stand h in
        subst (λ a. entries_by a (at_the_end final others) others unit ps (next_of s) (Gives es) (next_of t)) (same-numbered others)
        (subst (λ m. m (next_of s) (Gives es) (next_of t)) (entries-same (numbered final names) (at_the_end final names) names others alike unit ps)
        (subst (entries final names unit ps (next_of s) (Gives es)) there.1 there.2))
