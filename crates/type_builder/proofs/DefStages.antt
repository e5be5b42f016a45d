-- The second pass, definition by definition: what is so after each.
use Rattle.std.proofs.Common.{◌≡◌, ◌≤◌, ◌<◌, ℕ, zero, suc, ◌+◌, ◌++◌, Bool, true, List, [], ◌∷◌, length, fold, set, take, All, Some, Result, Ok, Err, IsErr, IsErrAnd, refl, sym, ap, subst, ◌∙◌, arith}
use Rattle.std.specs.Prelude.{slice_get}
use Rattle.std.proofs.lemmas.Bool.{false≢true}
use Rattle.std.proofs.lemmas.List.{length-set, take-set}
use Rattle.std.proofs.lemmas.List.Elements.{All-set}
use Rattle.std.proofs.lemmas.Option.{none-some}
use Rattle.bal_base.specs.declared.fault.Fault.{Fault}
use Rattle.bal_base.specs.declared.limits.TheConstants.{MOST_ATOMS}
use Rattle.bal_base.specs.declared.stop.Stop.{Stop}
use Rattle.bal_base.specs.declared.stop.Stop.TheVariants.{Memory, Fault as OwnFault}
use Rattle.bal_base.specs.Stops.{IfFault}
use Rattle.bal_tree.specs.declared.def.Def.{Def}
use Rattle.bal_tree.specs.declared.def.Def.TheVariants.{«Type» as TypeOf, Const, Variable as VariableOf, Function as FunctionOf}
use Rattle.bal_tree.specs.declared.name.QualifiedName.{QualifiedName}
use Rattle.bal_tree.specs.declared.package.Package.{Package}
use Rattle.type_model.specs.declared.basic.SemType.{Basic}
use Rattle.type_model.specs.declared.basic.Ty.{Ty}
use Rattle.type_model.specs.Defined.{TyBelow}
use Rattle.checks.specs.Checks.{Gives, Outcome, Refuses, gives_some}
use Rattle.descriptors.specs.declared.draft.Draft.{Draft}
use Rattle.descriptors.specs.declared.names.Entry.{Entry}
use Rattle.descriptors.specs.declared.names.Meaning.{Meaning}
use Rattle.descriptors.specs.declared.names.Meaning.TheVariants.{TypeName, Constant, Variable, Function}
use Rattle.descriptors.specs.declared.names.Names.{Names}
use Rattle.descriptors.specs.declared.names.OwnTypes.{OwnTypes}
use Rattle.descriptors.specs.Described.{Atoms, plain, value_set}
use Rattle.descriptors.specs.Drafts.{AreNamesBelow, AreSound, Drafts, next_of, numbered_on, wherever}
use Rattle.descriptors.specs.Naming.{as_type, entry_in}
use Rattle.descriptors.specs.Steps.{AreOwnTypes, MeaningBelow}
use Rattle.name_resolution.specs.Definitions.{Placed, definitions_of, functions_in, is_public, scope_at}
use Rattle.name_resolution.specs.Named.{IsClearDef, IsKnown, gives_type}
use Rattle.name_resolution.proofs.Known.{apart-placed, known}
use Rattle.type_builder.specs.AtomPlaces.{def_places, package_places}
use Rattle.type_builder.specs.Keeping.{AreKept, IsKeptAs, IsKeptType}
use Rattle.type_builder.specs.Meanings.{earlier_with, entries_by, entry_by, meaning_by, meaning_drafted, nothing_earlier}
use Rattle.type_builder.specs.declared.earlier.Earlier.{Earlier}
use Rattle.type_builder.specs.Passes.{AreEntries, AreNamed, HaveRoom, IsEmptyFrom, IsNoted, IsValueNoted, end_of, entry_for, first_meaning, first_of, placed_places}
use Rattle.type_builder.proofs.Adding.{started-at}
use Rattle.type_builder.proofs.Alike.{AreAlike, IsAlike, alike-set, same-types}
use Rattle.type_builder.proofs.DefRuns.{constant-is, entries-push, entry-comes, function-is, places-more, places-within, start-is, take-one, type-exchanged, units, units-more, units-within, variable-is}
use Rattle.type_builder.proofs.DraftRuns.{Typed, meaning-long, meaning-whole}
use Rattle.type_builder.proofs.KeptStages.{all-there, named-entry, entry-there, same-ok, wrong}
use Rattle.type_builder.proofs.Noted.{entry-set, set-other}
use Rattle.type_builder.proofs.Keeps.{given, refused}
use Rattle.type_builder.proofs.KnownTypes.{AreEntriesOf, as-long, stands-there}
use Rattle.type_builder.proofs.SameKept.{kept-same}
use Rattle.type_builder.proofs.SameNames.{meaning-same}

set-here : {X : Type 0} (xs : List X) (i : ℕ) (x y : X) → slice_get xs i ≡ Some y → slice_get (set xs i x) i ≡ Some x
set-here [] i x y at = absurd (none-some y at)
set-here (z ∷ xs) zero x y at = refl
set-here (z ∷ xs) (suc i) x y at = set-here xs i x y at

-- p, first: a package, whose atoms are numbered from there on; known: the names at the beginning
module _ (p : Package) (own : OwnTypes) (first : ℕ) (known-names : Names) (kept : AreKept p own first known-names) where
  abbrev ps : List Placed
  ps = definitions_of p

  abbrev end : ℕ
  end = end_of first p

  abbrev before : List Entry
  before = kept.es

  -- what is known of the entry of a definition at the beginning
  pub kept-at : (n : ℕ) (q : Placed) (e : Entry) → slice_get ps n ≡ Some q → slice_get kept.es n ≡ Some e
      → (start : ℕ) × (start ≡ first + length (fold placed_places [] (take n ps))) × IsKeptAs p own kept.es n start q e q.def
  kept-at n q e at there =
      let starts = started-at first [] (definitions_of p) n q at in
      (starts.0, start-is first [] (definitions_of p) n starts.0 q starts.1, kept.kept n starts.0 q e starts.1 there)

  are-of : AreEntriesOf (definitions_of p) kept.es
  are-of n q e at there =
      let is = kept-at n q e at there in
      let both = by n is.0 q e q.def refl is.2 in record { public = both.0; typed = both.1 }
    where
      by : (n start : ℕ) (q : Placed) (e : Entry) (def : Def) → q.def ≡ def → IsKeptAs p own kept.es n start q e def → (e.public ≡ is_public q.def) × (gives_type q.def ≡ true → (t : Ty) × (as_type e.meaning ≡ Ok t))
      by n start q e (TypeOf d) def_is (t, same, was) = (ap (λ x. x.public) same, λ h. (t, ap (λ x. as_type x.meaning) same))
      by n start q e (Const d) def_is same =
          (ap (λ x. x.public) same, λ h. (plain (Basic (value_set d.value)), ap (λ x. as_type x.meaning) same ∙ ap (λ x. as_type (first_meaning x)) def_is))
      by n start q e (VariableOf d) def_is same = (ap (λ x. x.public) same, λ h. absurd (false≢true (sym (ap gives_type def_is) ∙ h)))
      by n start q e (FunctionOf d) def_is same = (ap (λ x. x.public) same, λ h. absurd (false≢true (sym (ap gives_type def_is) ∙ h)))

  -- after so many definitions
  pub record IsDefinedTo (i : ℕ) (draft : Draft) (unit : Earlier) (names : Names) : Type 0 where
    pub start : Draft
    pub empty : IsEmptyFrom first start
    pub es : List Entry
    pub entries : AreEntries p own es names
    pub long : length es ≡ length (definitions_of p)
    pub alike : AreAlike es kept.es
    pub left : (k : ℕ) → i ≤ k → slice_get es k ≡ slice_get kept.es k
    pub below : All (λ e. MeaningBelow (end_of first p) e.meaning) es
    pub drafted : entries_by numbered_on (wherever known-names) known-names nothing_earlier (take i (definitions_of p)) start (Gives (take i es)) draft
    pub unit_is : unit ≡ units nothing_earlier (take i (definitions_of p))
    pub first_is : draft.first ≡ first
    pub next_is : next_of draft ≡ first + length (fold placed_places [] (take i (definitions_of p)))
    pub sound : AreSound (end_of first p) draft.atoms.items

  module _ (named : AreNamed p) (room : HaveRoom first p) (known-below : AreNamesBelow known-names (end_of first p)) (places-are : fold placed_places [] (definitions_of p) ≡ package_places p) where
    -- which atoms a type names, by what its name stands for
    type-below : (m : Meaning) (t : Ty) → MeaningBelow (end_of first p) m → as_type m ≡ Ok t → TyBelow (end_of first p) t
    type-below (TypeName u) t h is = subst (TyBelow (end_of first p)) (same-ok is) h
    type-below (Constant u) t h is = subst (TyBelow (end_of first p)) (same-ok is) h
    type-below (Variable number final u) t h is = absurd (wrong is)
    type-below (Function s) t h is = absurd (wrong is)

    pub now-below : (i : ℕ) (draft : Draft) (unit : Earlier) (names : Names) → IsDefinedTo i draft unit names → AreNamesBelow names (end_of first p)
    now-below i draft unit names stage = record {
      types = λ scope name t h. of-name t name (named-entry names scope name t h);
      anydata = subst (λ o. TyBelow (end_of first p) o.anydata) same-own known-below.anydata;
      isolated = subst (λ o. o.isolated < end_of first p) same-own known-below.isolated;
    }
      where
        same-own : known-names.own ≡ names.own
        same-own = kept.entries.own_are ∙ sym stage.entries.own_are

        of-name : (t : Ty) (name : QualifiedName) → (home : ℕ) × (e : Entry) × (entry_in names name.word.name home ≡ Some e) × (as_type e.meaning ≡ Ok t) → TyBelow (end_of first p) t
        of-name t name (home, e, there, is) =
            let at = entry-there home name.word.name (definitions_of p) stage.es e (sym (stage.entries.named home name.word.name) ∙ there) in
            type-below e.meaning t (all-there (λ x. MeaningBelow (end_of first p) x.meaning) stage.es at.0 e stage.below at.1) is

    module _ (i : ℕ) (draft new : Draft) (unit : Earlier) (names : Names) (q : Placed) (at : slice_get (definitions_of p) i ≡ Some q) (stage : IsDefinedTo i draft unit names) where
      -- what is drafted over the names now is drafted over those at the beginning
      as-known : (o : Outcome Meaning) → meaning_drafted names (scope_at q) unit q.def draft o new → meaning_drafted known-names (scope_at q) unit q.def draft o new
      as-known o h =
          subst (λ m. m draft o new)
          (meaning-same numbered_on (wherever known-names) names known-names (scope_at q) (same-types p own own stage.es kept.es names known-names stage.entries kept.entries stage.alike q) unit q.def)
          (subst (λ x. meaning_by numbered_on (λ A P. gives_some (λ d a. (env : Atoms) → AreOwnTypes env x → P env a)) names (scope_at q) unit q.def draft o new)
          (stage.entries.own_are ∙ sym kept.entries.own_are) h)

      more : take (i + 1) (definitions_of p) ≡ take i (definitions_of p) ++ q ∷ []
      more = take-one (definitions_of p) i q at

      -- there is room for the atoms of one definition more
      fits : next_of draft + length (def_places [] q.def) ≤ end_of first p
      fits =
          let one : length (fold placed_places [] (take (i + 1) (definitions_of p))) ≡ length (fold placed_places [] (take i (definitions_of p))) + length (def_places [] q.def) =
          ap (λ xs. length (fold placed_places [] xs)) more ∙ places-more (take i (definitions_of p)) q in
          let within : length (fold placed_places [] (take (i + 1) (definitions_of p))) ≤ length (fold placed_places [] (definitions_of p)) = places-within (i + 1) (definitions_of p) in
          let all : length (fold placed_places [] (definitions_of p)) ≡ length (package_places p) = ap length places-are in
          let next : next_of draft ≡ first + length (fold placed_places [] (take i (definitions_of p))) = stage.next_is in omega (arith, one, within, all, next)

      typed : (inside : Bool) (name : QualifiedName) → IsKnown p q inside name → Typed known-names (scope_at q) inside name
      typed inside name h = let there = stands-there p own kept.es known-names kept.entries q kept.long name h.0 are-of h.1 in (there.1, there.3 ∙ there.4)

      pub none-refused : (f : Fault) → meaning_drafted names (scope_at q) unit q.def draft (Refuses f) new → ⊥
      none-refused f h = meaning-whole known-names unit q.def draft new p q i f typed (known p named i q at).clear (let le = fits in omega (arith, le, room)) (as-known (Refuses f) h)

      -- what would stop it isn't handed on
      pub none-stopped : {A : Type 0} (stop : Stop Fault) (r : Result A (Stop Fault)) → IsErr r × IsErrAnd r (λ e. e ≡ stop)
          → Drafts (AreNamesBelow names) MeaningBelow (meaning_drafted names (scope_at q) unit q.def) draft (Err stop) new → IfFault r (λ f. ⊥)
      none-stopped stop (Ok a) e drafts = absurd (false≢true e.0)
      none-stopped {A} stop (Err other) e drafts = subst (λ s. IfFault {T = A} (Err s) (λ f. ⊥)) (sym e.1) (none stop drafts)
        where
          none : (s : Stop Fault) → Drafts (AreNamesBelow names) MeaningBelow (meaning_drafted names (scope_at q) unit q.def) draft (Err s) new → IfFault {T = A} (Err s) (λ f. ⊥)
          none Memory drafts = tt
          none (OwnFault f) drafts = none-refused f (refused (meaning_drafted names (scope_at q) unit q.def) draft new f drafts.comes)

      -- there are no more functions than atoms
      pub unit-fits : unit.functions + functions_in q.def ≤ MOST_ATOMS
      unit-fits =
          let one : (units nothing_earlier (take (i + 1) (definitions_of p))).functions ≡ (units nothing_earlier (take i (definitions_of p))).functions + functions_in q.def = ap (λ c. c.functions) (ap (units nothing_earlier) more ∙ units-more nothing_earlier (take i (definitions_of p)) q) in
          let some : (units nothing_earlier (take (i + 1) (definitions_of p))).functions ≤ 0 + length (fold placed_places [] (take (i + 1) (definitions_of p))) = units-within nothing_earlier (take (i + 1) (definitions_of p)) in
          let within : length (fold placed_places [] (take (i + 1) (definitions_of p))) ≤ length (fold placed_places [] (definitions_of p)) = places-within (i + 1) (definitions_of p) in
          let all : length (fold placed_places [] (definitions_of p)) ≡ length (package_places p) = ap length places-are in
          let is : unit.functions ≡ (units nothing_earlier (take i (definitions_of p))).functions = ap (λ c. c.functions) stage.unit_is in omega (arith, one, some, within, all, is, room)

      module _ (m : Meaning) (after : Names) (drafts : Drafts (AreNamesBelow names) MeaningBelow (meaning_drafted names (scope_at q) unit q.def) draft (Ok m) new) where
        it : meaning_drafted known-names (scope_at q) unit q.def draft (Gives m) new
        it = as-known (Gives m) (given (meaning_drafted names (scope_at q) unit q.def) draft new m drafts.comes)

        longer : next_of new ≡ next_of draft + length (def_places [] q.def)
        longer = meaning-long known-names unit q.def draft new (scope_at q) m it

        new-within : next_of new ≤ end_of first p
        new-within = let long = longer in let le = fits in omega (arith, long, le)

        -- one definition more, with these entries
        advance : (now : List Entry) (e : Entry) → AreEntries p own now after → length now ≡ length (definitions_of p) → AreAlike now kept.es → ((k : ℕ) → i < k → slice_get now k ≡ slice_get kept.es k)
            → All (λ x. MeaningBelow (end_of first p) x.meaning) now → take i now ≡ take i stage.es → slice_get now i ≡ Some e
            → entry_by numbered_on (wherever known-names) known-names unit q draft (Gives e) new → IsDefinedTo (i + 1) new (earlier_with unit q.def) after
        advance now e entries long alike left below same there comes = record {
          start = stage.start;
          empty = stage.empty;
          es = now;
          entries = entries;
          long = long;
          alike = alike;
          left = λ k le. left k (omega (arith, le));
          below = below;
          drafted = subst (λ xs. entries_by numbered_on (wherever known-names) known-names nothing_earlier xs stage.start (Gives (take (i + 1) now)) new) (sym more)
              (subst (λ ys. entries_by numbered_on (wherever known-names) known-names nothing_earlier (take i (definitions_of p) ++ q ∷ []) stage.start (Gives ys) new)
              (ap (λ ys. ys ++ e ∷ []) (sym same) ∙ sym (take-one now i e there))
              (entries-push numbered_on (wherever known-names) known-names nothing_earlier (take i (definitions_of p)) q stage.start draft new (take i stage.es) e stage.drafted
              (subst (λ u. entry_by numbered_on (wherever known-names) known-names u q draft (Gives e) new) stage.unit_is comes)));
          unit_is = ap (λ u. earlier_with u q.def) stage.unit_is ∙ sym (ap (units nothing_earlier) more ∙ units-more nothing_earlier (take i (definitions_of p)) q);
          first_is = drafts.first ∙ stage.first_is;
          next_is = longer ∙ ap (λ n. n + length (def_places [] q.def)) stage.next_is ∙ after-one;
          sound = drafts.sound (end_of first p) new-within (now-below i draft unit names stage) stage.sound;
        }
          where
            after-one : first + length (fold placed_places [] (take i (definitions_of p))) + length (def_places [] q.def) ≡ first + length (fold placed_places [] (take (i + 1) (definitions_of p)))
            after-one =
                let one : length (fold placed_places [] (take (i + 1) (definitions_of p))) ≡ length (fold placed_places [] (take i (definitions_of p))) + length (def_places [] q.def) =
                ap (λ xs. length (fold placed_places [] xs)) more ∙ places-more (take i (definitions_of p)) q in omega (arith, one)

        -- the entry of the definition, as it was at first
        old-entry : (e : Entry) × (slice_get kept.es i ≡ Some e)
        old-entry = as-long (definitions_of p) kept.es i q kept.long at

        still-there : slice_get stage.es i ≡ Some old-entry.0
        still-there = stage.left i (omega arith) ∙ old-entry.1

        -- a type or a constant: all names stand for what they did
        left-as-is : (e : Entry) → e ≡ old-entry.0 → after ≡ names → entry_by numbered_on (wherever known-names) known-names unit q draft (Gives e) new → IsDefinedTo (i + 1) new (earlier_with unit q.def) after
        left-as-is e same names-same comes =
            advance stage.es e (subst (AreEntries p own stage.es) (sym names-same) stage.entries) stage.long stage.alike (λ k le. stage.left k (omega (arith, le))) stage.below refl
            (still-there ∙ ap Some (sym same)) comes

        -- a variable or a function: its name stands for what it is
        noted-anew : IsNoted q m names after → IsAlike (entry_for q m) old-entry.0 → IsDefinedTo (i + 1) new (earlier_with unit q.def) after
        noted-anew noted alike =
            advance (set stage.es i (entry_for q m)) (entry_for q m) (entry-set p own stage.es names after i q m (apart-placed p named) stage.long at stage.entries noted)
            (length-set stage.es i (entry_for q m) ∙ stage.long) (alike-set stage.es kept.es i (entry_for q m) old-entry.0 stage.alike old-entry.1 alike)
            (λ k le. set-other stage.es i k (entry_for q m) (λ e. omega (arith, le, e)) ∙ stage.left k (omega (arith, le)))
            (All-set (λ x. MeaningBelow (end_of first p) x.meaning) stage.es i (entry_for q m) (drafts.over (end_of first p) new-within (now-below i draft unit names stage)) stage.below)
            (take-set stage.es i (entry_for q m)) (set-here stage.es i (entry_for q m) old-entry.0 still-there)
            (entry-comes numbered_on (wherever known-names) known-names unit q draft new m it)

        -- the definition by its kind
        by-kind : (def : Def) → q.def ≡ def → IsValueNoted q def m names after → IsDefinedTo (i + 1) new (earlier_with unit q.def) after
        by-kind (TypeOf d) def_is same =
            let was = kept-at i q old-entry.0 at old-entry.1 in
            of-type (subst (IsKeptAs p own kept.es i was.0 q old-entry.0) def_is was.2) was.1
          where
            of-type : {start : ℕ} → IsKeptType p own kept.es i start q old-entry.0 d → start ≡ first + length (fold placed_places [] (take i (definitions_of p))) → IsDefinedTo (i + 1) new (earlier_with unit q.def) after
            of-type {start} (t, is, kept-then) start_is =
                left-as-is (entry_for q (TypeName t)) (sym is) same
                (entry-comes numbered_on (wherever known-names) known-names unit q draft new (TypeName t)
                (subst (λ x. meaning_drafted known-names (scope_at q) unit x draft (Gives (TypeName t)) new) (sym def_is)
                (type-exchanged known-names (scope_at q) unit draft new m d t
                (λ a u env desc owned. kept-same p own kept.es known-names kept.entries kept.long are-of i start q d t kept-then known-names kept.entries.own_are (λ name. refl) env
                (subst (AreOwnTypes env) kept.entries.own_are owned) draft u a (stage.next_is ∙ sym start_is) (subst (IsClearDef p i q) def_is (known p named i q at).clear) desc)
                (subst (λ x. meaning_drafted known-names (scope_at q) unit x draft (Gives m) new) def_is it))))
        by-kind (Const d) def_is same =
            let was = kept-at i q old-entry.0 at old-entry.1 in
            let first_is : old-entry.0 ≡ first_of q = subst (IsKeptAs p own kept.es i was.0 q old-entry.0) def_is was.2 in
            let value_is : m ≡ first_meaning q.def =
            constant-is known-names (scope_at q) unit draft new m d (subst (λ x. meaning_drafted known-names (scope_at q) unit x draft (Gives m) new) def_is it) ∙ sym (ap first_meaning def_is) in
            left-as-is (entry_for q m) (ap (entry_for q) value_is ∙ sym first_is) same (entry-comes numbered_on (wherever known-names) known-names unit q draft new m it)
        by-kind (VariableOf d) def_is noted =
            let was = kept-at i q old-entry.0 at old-entry.1 in
            let first_is : old-entry.0 ≡ first_of q = subst (IsKeptAs p own kept.es i was.0 q old-entry.0) def_is was.2 in
            let value = variable-is known-names (scope_at q) unit draft new m d (subst (λ x. meaning_drafted known-names (scope_at q) unit x draft (Gives m) new) def_is it) in
            noted-anew noted (sym (ap (λ x. x.public) first_is), ap as_type value.1 ∙ sym (ap (λ x. as_type x.meaning) first_is ∙ ap (λ x. as_type (first_meaning x)) def_is))
        by-kind (FunctionOf d) def_is noted =
            let was = kept-at i q old-entry.0 at old-entry.1 in
            let first_is : old-entry.0 ≡ first_of q = subst (IsKeptAs p own kept.es i was.0 q old-entry.0) def_is was.2 in
            let value = function-is known-names (scope_at q) unit draft new m d (subst (λ x. meaning_drafted known-names (scope_at q) unit x draft (Gives m) new) def_is it) in
            noted-anew noted (sym (ap (λ x. x.public) first_is), ap as_type value.1 ∙ sym (ap (λ x. as_type x.meaning) first_is ∙ ap (λ x. as_type (first_meaning x)) def_is))

        pub one-defined : IsValueNoted q q.def m names after → IsDefinedTo (i + 1) new (earlier_with unit q.def) after
        one-defined = by-kind q.def refl
