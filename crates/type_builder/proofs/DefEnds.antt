-- The second pass: how it begins, and what is so at its end.
use Rattle.std.proofs.Common.{◌≡◌, ◌≤◌, ◌||◌, ℕ, suc, ◌+◌, ◌++◌, List, [], ◌∷◌, length, fold, take, cond, All, get_or, None, Some, Ok, Err, refl, sym, ap, subst, ◌∙◌, arith}
use Rattle.std.specs.Prelude.{slice_get}
use Rattle.std.proofs.lemmas.Bool.Decides.{Decides-eqb}
use Rattle.std.proofs.lemmas.List.{take_all}
use Rattle.std.proofs.lemmas.List.Elements.{All-nil}
use Rattle.std.proofs.lemmas.Option.{slice_get-get_or}
use Rattle.bal_base.specs.declared.fault.FaultCode.TheVariants.{NotPublic}
use Rattle.bal_base.specs.declared.text.Name.{Name}
use Rattle.bal_tree.specs.declared.def.Def.{Def}
use Rattle.bal_tree.specs.declared.def.Def.TheVariants.{«Type» as TypeOf, Const, Variable as VariableOf, Function as FunctionOf}
use Rattle.bal_tree.specs.declared.name.QualifiedName.{QualifiedName}
use Rattle.bal_tree.specs.declared.package.Package.{Package}
use Rattle.type_model.specs.declared.basic.BasicSet.{BasicSet}
use Rattle.type_model.specs.declared.basic.BasicSet.TheVariants.{Never}
use Rattle.type_model.specs.declared.basic.SemType.{Basic}
use Rattle.type_model.specs.Defined.{DefBelow, TyBelow}
use Rattle.type_model.specs.Places.{HasDistinctFields}
use Rattle.checks.specs.Checks.{Gives, gives_some}
use Rattle.descriptors.specs.declared.draft.Draft.{Draft}
use Rattle.descriptors.specs.declared.names.Entry.{Entry}
use Rattle.descriptors.specs.declared.names.Names.{Names}
use Rattle.descriptors.specs.declared.names.OwnTypes.{OwnTypes}
use Rattle.descriptors.specs.Described.{Atoms, plain, value_set}
use Rattle.descriptors.specs.Drafts.{AreNamesBelow, AreSound, next_of, numbered_on, wherever}
use Rattle.descriptors.specs.Naming.{as_type, entry_in, if_defined, type_named, its_type}
use Rattle.descriptors.specs.Steps.{AreOwnTypes, MeaningBelow}
use Rattle.name_resolution.specs.Definitions.{Placed, definitions_of, is_public, name_of, scope_at}
use Rattle.name_resolution.proofs.Known.{first-placed, known}
use Rattle.type_builder.specs.AtomPlaces.{package_places}
use Rattle.type_builder.specs.Building.{AreNamesOf}
use Rattle.type_builder.specs.Keeping.{AreKept, IsKeptAs}
use Rattle.type_builder.specs.Meanings.{entries, entries_by, nothing_earlier}
use Rattle.type_builder.specs.declared.earlier.Earlier.{Earlier}
use Rattle.type_builder.specs.Passes.{AreNamed, IsEmptyFrom, end_of, first_meaning, placed_places}
use Rattle.type_builder.proofs.Alike.{alike-back, alike-themselves, same-types}
use Rattle.type_builder.proofs.DefStages.{IsDefinedTo, kept-at}
use Rattle.type_builder.proofs.DefsStanding.{entries-there}
use Rattle.type_builder.proofs.KeptStages.{all-there, entry-there}
use Rattle.type_builder.proofs.KnownTypes.{as-long, first-entry}
use Rattle.type_builder.proofs.Standing.{Stands}

all-each : {X : Type 0} (P : X → Type 0) (xs : List X) → ((k : ℕ) (x : X) → slice_get xs k ≡ Some x → P x) → All P xs
all-each P xs f = λ k d lt. f k (get_or xs k d) (slice_get-get_or xs k d lt)

nothing-drafted : (names : Names) (s : Draft) → entries_by numbered_on (wherever names) names nothing_earlier [] s (Gives []) s
unfolding gives_some
nothing-drafted names s = (refl, refl)

behind : {X : Type 0} (xs ys : List X) (k : ℕ) → slice_get (xs ++ ys) (length xs + k) ≡ slice_get ys k
behind [] ys k = ap (slice_get ys) (omega arith)
behind (x ∷ xs) ys k = let e : length (x ∷ xs) + k ≡ suc (length xs + k) = omega arith in ap (slice_get (x ∷ (xs ++ ys))) e ∙ behind xs ys k

module _ (p : Package) (own : OwnTypes) (first : ℕ) (known-names : Names) (kept : AreKept p own first known-names) (named : AreNamed p) (known-below : AreNamesBelow known-names (end_of first p)) where
  -- a definition's own name, in its module
  own-name : Placed → QualifiedName
  own-name q = record { prefix = None; word = record { name = name_of q.def; at = record { file = 0; at = 0 } }; at = record { file = 0; at = 0 } }

  -- its name stands for the type of its entry
  own-type : (n : ℕ) (q : Placed) (e : Entry) → slice_get (definitions_of p) n ≡ Some q → slice_get kept.es n ≡ Some e → type_named known-names (scope_at q) (own-name q) ≡ as_type e.meaning
  unfolding own-name
  own-type n q e at there =
      let first_is = sym (first-placed p q.«module» (name_of q.def)) ∙ (known p named n q at).first ∙ ap Some (let same : n ≡ n + 0 = omega arith in same) in
      let found : entry_in known-names (name_of q.def) q.«module» ≡ Some e =
      kept.entries.named q.«module» (name_of q.def) ∙ first-entry q.«module» (name_of q.def) 0 n (definitions_of p) kept.es kept.long first_is ∙ there in
      ap (λ o. its_type (if_defined known-names (scope_at q) q.«module» o)) found ∙ ap (λ b. its_type (cond (b || e.public) (Ok e.meaning) (Err NotPublic))) ((Decides-eqb q.«module» q.«module»).1 refl)

  plain-below : (s : BasicSet) → TyBelow (end_of first p) (plain (Basic s))
  plain-below s = (tt, All-nil _, All-nil _)

  entry-below : (n : ℕ) (e : Entry) → slice_get kept.es n ≡ Some e → MeaningBelow (end_of first p) e.meaning
  entry-below n e there =
      let q = as-long kept.es (definitions_of p) n e (sym kept.long) there in
      let is = kept-at p own first known-names kept n q.0 e q.1 there in by q.0 q.0.def refl q.1 is.0 is.2
    where
      by : (q : Placed) (def : Def) → q.def ≡ def → slice_get (definitions_of p) n ≡ Some q → (start : ℕ) → IsKeptAs p own kept.es n start q e def → MeaningBelow (end_of first p) e.meaning
      by q (TypeOf d) def_is at start (t, same, was) =
          subst (λ x. MeaningBelow (end_of first p) x.meaning) (sym same) (known-below.types (scope_at q) (own-name q) t (own-type n q e at there ∙ ap (λ x. as_type x.meaning) same))
      by q (Const d) def_is at start same =
          subst (λ x. MeaningBelow (end_of first p) x.meaning) (sym (same ∙ ap (λ x. record { public = is_public q.def; meaning = first_meaning x }) def_is)) (plain-below (value_set d.value))
      by q (VariableOf d) def_is at start same =
          subst (λ x. MeaningBelow (end_of first p) x.meaning) (sym (same ∙ ap (λ x. record { public = is_public q.def; meaning = first_meaning x }) def_is)) (plain-below Never)
      by q (FunctionOf d) def_is at start same =
          subst (λ x. MeaningBelow (end_of first p) x.meaning) (sym (same ∙ ap (λ x. record { public = is_public q.def; meaning = first_meaning x }) def_is)) (plain-below Never)

  pub nothing-defined : (s : Draft) → IsEmptyFrom first s → IsDefinedTo p own first known-names kept 0 s nothing_earlier known-names
  nothing-defined s (at, none) = record {
    start = s;
    empty = (at, none);
    es = kept.es;
    entries = kept.entries;
    long = kept.long;
    alike = alike-themselves kept.es;
    left = λ k le. refl;
    below = all-each (λ e. MeaningBelow (end_of first p) e.meaning) kept.es entry-below;
    drafted = nothing-drafted known-names s;
    unit_is = refl;
    first_is = at;
    next_is = (let empty : length s.atoms.items ≡ 0 = ap length none in omega (arith, at, empty));
    sound = subst (AreSound (end_of first p)) (sym none) (All-nil (λ def. DefBelow (end_of first p) def × HasDistinctFields def));
  }

  -- ---- at the end

  module _ (places-are : fold placed_places [] (definitions_of p) ≡ package_places p) (i : ℕ) (draft : Draft) (unit : Earlier) (names : Names) (all : length (definitions_of p) ≤ i)
      (stage : IsDefinedTo p own first known-names kept i draft unit names) where
    whole : take i (definitions_of p) ≡ definitions_of p
    whole = take_all i (definitions_of p) all

    next-is : next_of draft ≡ end_of first p
    next-is = stage.next_is ∙ ap (λ xs. first + length (fold placed_places [] xs)) whole ∙ ap (λ xs. first + length xs) places-are

    pub all-long : first + length draft.atoms.items ≡ end_of first p
    all-long = let next : next_of draft ≡ end_of first p = next-is in let at : draft.first ≡ first = stage.first_is in omega (arith, next, at)

    pub all-sound : AreSound (first + length draft.atoms.items) draft.atoms.items
    all-sound = subst (λ n. AreSound n draft.atoms.items) (sym all-long) stage.sound

    pub all-below : (home : ℕ) (name : Name) (e : Entry) → entry_in names name home ≡ Some e → MeaningBelow (end_of first p) e.meaning
    all-below home name e there =
        let at = entry-there home name (definitions_of p) stage.es e (sym (stage.entries.named home name) ∙ there) in
        all-there (λ x. MeaningBelow (end_of first p) x.meaning) stage.es at.0 e stage.below at.1

    module _ (old : Atoms) (long : length old ≡ first) (owned : AreOwnTypes (old ++ draft.atoms.items) own) where
      owned-too : AreOwnTypes (old ++ draft.atoms.items) known-names.own
      owned-too = subst (AreOwnTypes (old ++ draft.atoms.items)) (sym kept.entries.own_are) owned

      stand : Stands (old ++ draft.atoms.items) known-names owned-too draft
      stand = record {
        at = λ k def at. ap (λ n. slice_get (old ++ draft.atoms.items) (n + k)) (stage.first_is ∙ sym long) ∙ behind old draft.atoms.items k ∙ at;
      }

      pub all-defined : AreNamesOf p own old draft.atoms.items names
      all-defined = record {
        own_are = stage.entries.own_are;
        files = stage.entries.files;
        es = stage.es;
        defined = subst (λ n. entries (old ++ draft.atoms.items) names nothing_earlier (definitions_of p) n (Gives stage.es) (length old + length draft.atoms.items)) (begin ∙ sym long)
            (subst (λ n. entries (old ++ draft.atoms.items) names nothing_earlier (definitions_of p) (next_of stage.start) (Gives stage.es) n) after
            (entries-there (old ++ draft.atoms.items) known-names owned-too names (same-types p own own kept.es stage.es known-names names kept.entries stage.entries (alike-back stage.es kept.es stage.alike)) nothing_earlier
            (definitions_of p) stage.start draft stage.es stand drafted-all));
        named = stage.entries.named;
      }
        where
          begin : next_of stage.start ≡ first
          begin = let none : length stage.start.atoms.items ≡ 0 = ap length stage.empty.1 in let at : stage.start.first ≡ first = stage.empty.0 in omega (arith, none, at)

          after : next_of draft ≡ length old + length draft.atoms.items
          after = let at : draft.first ≡ first = stage.first_is in omega (arith, at, long)

          drafted-all : entries_by numbered_on (wherever known-names) known-names nothing_earlier (definitions_of p) stage.start (Gives stage.es) draft
          drafted-all =
              subst (λ es. entries_by numbered_on (wherever known-names) known-names nothing_earlier (definitions_of p) stage.start (Gives es) draft) (take_all i stage.es (let many : length stage.es ≡ length (definitions_of p) = stage.long in omega (arith, many, all)))
              (subst (λ qs. entries_by numbered_on (wherever known-names) known-names nothing_earlier qs stage.start (Gives (take i stage.es)) draft) whole stage.drafted)
