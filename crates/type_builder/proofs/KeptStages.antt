-- The first pass, type by type: what is so after each.
use Rattle.std.proofs.Common.{◌≡◌, ◌<◌, ◌≤◌, ◌⊎◌, inl, inr, ℕ, zero, suc, ◌==◌, ◌||◌, Bool, true, false, List, [], ◌∷◌, ◌++◌, length, map, set, cond, All, Option, None, Some, Result, Ok, Err, refl, sym, ap, subst, ◌∙◌, arith}
use Rattle.std.specs.Prelude.{slice_get}
use Rattle.std.specs.List.{Contains}
use Rattle.std.proofs.lemmas.List.{length-map, length-set}
use Rattle.std.proofs.lemmas.List.Elements.{All-cons, All-nil, All-set, Contains-append_left, Contains-push, Contains-push_cases}
use Rattle.std.proofs.lemmas.Option.{none-some, same_Some, some_pair_parts, slice_get-map, slice_get_within, get_or_from_slice_get}
use Rattle.std.proofs.lemmas.Bool.{false≢true}
use Rattle.std.proofs.lemmas.Bool.Decides.{eqb_tells}
use Rattle.std.specs.Option.{option_map}
use Rattle.std.specs.Result.{is_ok}
use Rattle.bal_base.specs.declared.fault.FaultCode.TheVariants.{NotPublic}
use Rattle.bal_tree.specs.declared.name.QualifiedName.{QualifiedName}
use Rattle.type_model.specs.declared.basic.BasicSet.{BasicSet}
use Rattle.type_model.specs.declared.basic.BasicSet.TheVariants.{Never}
use Rattle.type_model.specs.declared.basic.SemType.{Basic}
use Rattle.type_model.proofs.DefinedLaws.{TyBelow-more}
use Rattle.descriptors.specs.declared.names.Scope.{Scope}
use Rattle.descriptors.specs.Described.{plain, value_set}
use Rattle.descriptors.specs.Drafts.{AreNamesBelow}
use Rattle.bal_base.specs.declared.text.Name.{Name}
use Rattle.bal_tree.specs.declared.def.Def.{Def}
use Rattle.bal_tree.specs.declared.def.Def.TheVariants.{«Type» as TypeOf, Const, Variable as VariableOf, Function as FunctionOf}
use Rattle.bal_tree.specs.declared.def.TypeDef.{TypeDef}
use Rattle.bal_tree.specs.declared.package.Package.{Package}
use Rattle.type_model.specs.declared.basic.Ty.{Ty}
use Rattle.type_model.specs.Defined.{TyBelow}
use Rattle.descriptors.specs.declared.names.Entry.{Entry}
use Rattle.descriptors.specs.declared.names.Meaning.TheVariants.{TypeName}
use Rattle.descriptors.specs.declared.names.Names.{Names}
use Rattle.descriptors.specs.declared.names.OwnTypes.{OwnTypes}
use Rattle.descriptors.specs.Naming.{as_type, entry_in, home_of, if_defined, if_imported, type_named, its_type}
use Rattle.graphs.specs.Cycles.{Follows}
use Rattle.name_resolution.specs.Definitions.{Placed, defines, definitions_of, is_public}
use Rattle.name_resolution.specs.Named.{gives_type}
use Rattle.name_resolution.specs.Outlines.{outlines_of}
use Rattle.name_resolution.specs.Resolved.{parts}
use Rattle.type_builder.specs.Building.{first_entry}
use Rattle.type_builder.specs.Keeping.{IsKeptAs}
use Rattle.type_builder.specs.Passes.{AreApart, AreEntries, IsDraftedFrom, IsNoted, IsOwnBelow, entry_for, first_meaning, first_of, started}
use Rattle.type_builder.proofs.Adding.{started-within}
use Rattle.type_builder.proofs.Noted.{entry-set, set-other}
use Rattle.type_builder.proofs.KnownTypes.{AreEntriesOf, IsEntryOf}

same_or_not : (m n : ℕ) → (m ≡ n) ⊎ (m ≡ n → ⊥)
same_or_not m n = by (eqb_tells m n)
  where
    by : ((m == n ≡ true) × (m ≡ n)) ⊎ ((m == n ≡ false) × (m ≡ n → ⊥)) → (m ≡ n) ⊎ (m ≡ n → ⊥)
    by (inl h) = inl h.1
    by (inr h) = inr h.1

-- ---- lists of which one member is set

pub set-there : {X : Type 0} (xs : List X) (n : ℕ) (x y : X) → slice_get (set xs n x) n ≡ Some y → y ≡ x
set-there [] n x y at = absurd (none-some y at)
set-there (z ∷ xs) zero x y at = sym (same_Some x y at)
set-there (z ∷ xs) (suc n) x y at = set-there xs n x y at

-- ---- what a name stands for, by entries

pub same-ok : {A B : Type 0} {x y : A} → ◌≡◌ {A = Result A B} (Ok x) (Ok y) → x ≡ y
same-ok {A} {B} {x} {y} h = ap value h
  where
    value : Result A B → A
    value (Ok z) = z
    value (Err e) = x

pub wrong : {A B : Type 0} {e : B} {x : A} → ◌≡◌ {A = Result A B} (Err e) (Ok x) → ⊥
wrong h = false≢true (ap is_ok h)

pub named-entry : (names : Names) (scope : Scope) (name : QualifiedName) (t : Ty) → type_named names scope name ≡ Ok t
    → (home : ℕ) × (e : Entry) × (entry_in names name.word.name home ≡ Some e) × (as_type e.meaning ≡ Ok t)
named-entry names scope name t h = sought (home_of names scope name.prefix) h
  where
    seen : (home : ℕ) (e : Entry) (b : Bool) → entry_in names name.word.name home ≡ Some e → its_type (cond b (Ok e.meaning) (Err NotPublic)) ≡ Ok t
        → (home : ℕ) × (e : Entry) × (entry_in names name.word.name home ≡ Some e) × (as_type e.meaning ≡ Ok t)
    seen home e true there h = (home, e, there, h)
    seen home e false there h = absurd (wrong h)

    found : (home : ℕ) (o : Option Entry) → entry_in names name.word.name home ≡ o → its_type (if_defined names scope home o) ≡ Ok t
        → (home : ℕ) × (e : Entry) × (entry_in names name.word.name home ≡ Some e) × (as_type e.meaning ≡ Ok t)
    found home None there h = absurd (wrong h)
    found home (Some e) there h = seen home e (home == scope.«module» || e.public) there h

    sought : (o : Option ℕ) → its_type (if_imported names scope name.word.name o) ≡ Ok t → (home : ℕ) × (e : Entry) × (entry_in names name.word.name home ≡ Some e) × (as_type e.meaning ≡ Ok t)
    sought None h = absurd (wrong h)
    sought (Some home) h = found home (entry_in names name.word.name home) refl h

-- an entry that is the first of a name is one of all
pub entry-there : (m : ℕ) (name : Name) (ps : List Placed) (es : List Entry) (e : Entry) → first_entry m name ps es ≡ Some e → (k : ℕ) × (slice_get es k ≡ Some e)
entry-there m name [] es e h = absurd (none-some e h)
entry-there m name (p ∷ ps) [] e h = absurd (none-some e h)
entry-there m name (p ∷ ps) (x ∷ es) e h = by (defines m name p) h (entry-there m name ps es e)
  where
    by : (b : Bool) → cond b (Some x) (first_entry m name ps es) ≡ Some e → (first_entry m name ps es ≡ Some e → (k : ℕ) × (slice_get es k ≡ Some e)) → (k : ℕ) × (slice_get (x ∷ es) k ≡ Some e)
    by true h rest = (0, h)
    by false h rest = let later = rest h in (suc later.0, later.1)

pub all-there : {X : Type 0} (P : X → Type 0) (xs : List X) (k : ℕ) (x : X) → All P xs → slice_get xs k ≡ Some x → P x
all-there P xs k x all at = subst P (get_or_from_slice_get xs k x x at) (all k x (slice_get_within xs k x at))

-- ---- stages

-- the type for which an entry stands names only the first n atoms
abbrev pub IsTypeBelow : ℕ → Entry → Type 0
IsTypeBelow n e = (t : Ty) → as_type e.meaning ≡ Ok t → TyBelow n t

module _ (p : Package) (own : OwnTypes) (first end : ℕ) where
  abbrev ps : List Placed
  ps = definitions_of p

  abbrev pub Starts : ℕ → Placed → ℕ → Type 0
  Starts n q start = slice_get (started first [] ps) n ≡ Some (q, start)

  -- Those that are done are kept, and the others are as at first.
  pub record AreDone (es : List Entry) (done : List ℕ) : Type 0 where
    pub kept : (n start : ℕ) (q : Placed) (e : Entry) → Starts n q start → slice_get es n ≡ Some e → Contains done n → IsKeptAs p own es n start q e q.def
    pub first_are : (n : ℕ) (q : Placed) (e : Entry) → slice_get ps n ≡ Some q → slice_get es n ≡ Some e → (Contains done n → ⊥) → e ≡ first_of q

  pub record IsStage (done : List ℕ) (names : Names) : Type 0 where
    pub es : List Entry
    pub entries : AreEntries p own es names
    pub long : length es ≡ length ps
    pub below : All (IsTypeBelow end) es
    pub of : AreEntriesOf ps es
    pub are_done : AreDone es done

  -- ---- the beginning

  begun : (def : Def) → gives_type def ≡ true → (t : Ty) × (as_type (first_meaning def) ≡ Ok t)
  begun (TypeOf d) h = (plain (Basic Never), refl)
  begun (Const d) h = (plain (Basic (value_set d.value)), refl)
  begun (VariableOf d) h = absurd (false≢true h)
  begun (FunctionOf d) h = absurd (false≢true h)

  plain-below : (s : BasicSet) → TyBelow end (plain (Basic s))
  plain-below s = (tt, All-nil _, All-nil _)

  begun-below : (def : Def) (t : Ty) → as_type (first_meaning def) ≡ Ok t → TyBelow end t
  begun-below (TypeOf d) t h = subst (TyBelow end) (same-ok h) (plain-below Never)
  begun-below (Const d) t h = subst (TyBelow end) (same-ok h) (plain-below (value_set d.value))
  begun-below (VariableOf d) t h = absurd (wrong h)
  begun-below (FunctionOf d) t h = absurd (wrong h)

  all-begun : (qs : List Placed) → All (IsTypeBelow end) (map first_of qs)
  all-begun [] = All-nil (IsTypeBelow end)
  all-begun (q ∷ qs) = All-cons (IsTypeBelow end) (first_of q) (map first_of qs) (begun-below q.def) (all-begun qs)

  first-there : (n : ℕ) (q : Placed) (e : Entry) → slice_get ps n ≡ Some q → slice_get (map first_of ps) n ≡ Some e → e ≡ first_of q
  first-there n q e at there = sym (same_Some (first_of q) e (sym (slice_get-map first_of ps n ∙ ap (option_map first_of) at) ∙ there))

  pub first-stage : (names : Names) → AreEntries p own (map first_of ps) names → IsStage [] names
  first-stage names entries = record {
    es = map first_of ps;
    entries = entries;
    long = length-map ps first_of;
    below = all-begun ps;
    of = λ k q e at there. let same = first-there k q e at there in record {
      public = ap (λ x. x.public) same;
      typed = λ h. let t = begun q.def h in (t.0, ap (λ x. as_type x.meaning) same ∙ t.1);
    };
    are_done = record {
      kept = λ n start q e starts there c. absurd (let lt = c.1 in omega (arith, lt));
      first_are = λ n q e at there c. first-there n q e at there;
    };
  }

  -- ---- what is known at a stage

  pub stage-below : (done : List ℕ) (names : Names) → IsOwnBelow first own → first ≤ end → IsStage done names → AreNamesBelow names end
  stage-below done names below le stage = record {
    types = λ scope name t h. of-name scope name t (named-entry names scope name t h);
    anydata = subst (λ o. TyBelow end o.anydata) (sym stage.entries.own_are) (TyBelow-more first end le own.anydata below.0);
    isolated = subst (λ o. o.isolated < end) (sym stage.entries.own_are) (let lt = below.1 in omega (arith, lt, le));
  }
    where
      of-name : (scope : Scope) (name : QualifiedName) (t : Ty) → (home : ℕ) × (e : Entry) × (entry_in names name.word.name home ≡ Some e) × (as_type e.meaning ≡ Ok t) → TyBelow end t
      of-name scope name t (home, e, there, is) =
          let at = entry-there home name.word.name ps stage.es e (sym (stage.entries.named home name.word.name) ∙ there) in
          all-there (IsTypeBelow end) stage.es at.0 e stage.below at.1 t is

  -- ---- one definition more

  -- what was kept is kept where its parts' entries are the same
  kept-still : (n start : ℕ) (q : Placed) (e : Entry) (es now : List Entry) (def : Def) → ((j : ℕ) → Follows (parts (outlines_of p)) n j → slice_get es j ≡ slice_get now j)
      → IsKeptAs p own es n start q e def → IsKeptAs p own now n start q e def
  kept-still n start q e es now (TypeOf d) same (t, is, was) =
      (t, is, record { earlier = was.earlier; long = was.long; names = was.names; were = was.were; drafted = was.drafted; same = λ j f. was.same j f ∙ same j f })
  kept-still n start q e es now (Const d) same h = h
  kept-still n start q e es now (VariableOf d) same h = h
  kept-still n start q e es now (FunctionOf d) same h = h

  module _ (done : List ℕ) (n : ℕ) where
    -- the number is new, and all parts of what is done are done, and its own
    pub record IsNext : Type 0 where
      pub new : Contains done n → ⊥
      pub closed : (i j : ℕ) → Contains done i → Follows (parts (outlines_of p)) i j → Contains done j
      pub behind : (j : ℕ) → Follows (parts (outlines_of p)) n j → Contains done j

    abbrev more : List ℕ
    more = done ++ n ∷ []

    not-more : (k : ℕ) → (Contains more k → ⊥) → Contains done k → ⊥
    not-more k f c = f (Contains-append_left done (n ∷ []) k c)

    -- a number that is none of a definition's
    pub stage-past : (names : Names) → slice_get ps n ≡ None → IsStage done names → IsStage more names
    stage-past names past stage = record {
      es = stage.es;
      entries = stage.entries;
      long = stage.long;
      below = stage.below;
      of = stage.of;
      are_done = record {
        kept = λ k start q e starts there c. by k start q e starts there (Contains-push_cases done n k c);
        first_are = λ k q e at there c. stage.are_done.first_are k q e at there (not-more k c);
      };
    }
      where
        by : (k start : ℕ) (q : Placed) (e : Entry) → Starts k q start → slice_get stage.es k ≡ Some e → Contains done k ⊎ (n ≡ k) → IsKeptAs p own stage.es k start q e q.def
        by k start q e starts there (inl c) = stage.are_done.kept k start q e starts there c
        by k start q e starts there (inr same) = absurd (none-some q (sym past ∙ ap (slice_get ps) same ∙ (started-within first [] ps k start q starts).0))

    module _ (start : ℕ) (q : Placed) (starts : Starts n q start) where
      at-n : slice_get ps n ≡ Some q
      at-n = (started-within first [] ps n start q starts).0

      same-start : (k other : ℕ) (r : Placed) → n ≡ k → Starts k r other → (q ≡ r) × (start ≡ other)
      same-start k other r same at = some_pair_parts q r start other (sym starts ∙ ap (slice_get (started first [] ps)) same ∙ at)

      -- a definition whose entry stays as it was at first
      pub stage-left : (names : Names) → ((e : Entry) (es : List Entry) → e ≡ first_of q → IsKeptAs p own es n start q e q.def) → IsNext → IsStage done names → IsStage more names
      stage-left names left next stage = record {
        es = stage.es;
        entries = stage.entries;
        long = stage.long;
        below = stage.below;
        of = stage.of;
        are_done = record {
          kept = λ k other r e at there c. by k other r e at there (Contains-push_cases done n k c);
          first_are = λ k r e at there c. stage.are_done.first_are k r e at there (not-more k c);
        };
      }
        where
          by : (k other : ℕ) (r : Placed) (e : Entry) → Starts k r other → slice_get stage.es k ≡ Some e → Contains done k ⊎ (n ≡ k) → IsKeptAs p own stage.es k other r e r.def
          by k other r e at there (inl c) = stage.are_done.kept k other r e at there c
          by k other r e at there (inr same) =
              let parts = same-start k other r same at in
              let first_is : e ≡ first_of q = stage.are_done.first_are n q e at-n (ap (slice_get stage.es) same ∙ there) next.new in
              subst (λ i. IsKeptAs p own stage.es i other r e r.def) same
              (subst (λ s. IsKeptAs p own stage.es n s r e r.def) parts.1 (subst (λ x. IsKeptAs p own stage.es n start x e x.def) parts.0 (left e stage.es first_is)))

      -- a type whose entry is the one that was drafted
      module _ (d : TypeDef) (is : q.def ≡ TypeOf d) (t : Ty) (old new : Names) (drafted : IsDraftedFrom start old q d t) (noted : IsNoted q (TypeName t) old new) (next : IsNext)
          (fits : TyBelow end t) (apart : AreApart ps) (stage : IsStage done old) where
        abbrev entry : Entry
        entry = entry_for q (TypeName t)

        abbrev now : List Entry
        now = set stage.es n entry

        elsewhere : (k : ℕ) → (n ≡ k → ⊥) → slice_get now k ≡ slice_get stage.es k
        elsewhere k other = set-other stage.es n k entry (λ e. other (sym e))

        here : (k : ℕ) (e : Entry) → n ≡ k → slice_get now k ≡ Some e → e ≡ entry
        here k e same there = set-there stage.es n entry e (ap (slice_get now) same ∙ there)

        -- what is done isn't this one
        other-than : (k : ℕ) → Contains done k → n ≡ k → ⊥
        other-than k c same = next.new (subst (Contains done) (sym same) c)

        kept-type : (e : Entry) → e ≡ entry → (def : Def) → def ≡ TypeOf d → IsKeptAs p own now n start q e def
        kept-type e same def def_is =
            subst (IsKeptAs p own now n start q e) (sym def_is)
            (t, same, record { earlier = stage.es; long = stage.long; names = old; were = stage.entries; drafted = drafted; same = λ j f. sym (elsewhere j (other-than j (next.behind j f))) })

        entries-of : AreEntriesOf ps now
        entries-of k r e at there = by (same_or_not n k)
          where
            by : (n ≡ k) ⊎ (n ≡ k → ⊥) → IsEntryOf r e
            by (inl same) =
                let it = here k e same there in
                let placed : q ≡ r = same_Some q r (sym at-n ∙ ap (slice_get ps) same ∙ at) in record {
                  public = ap (λ x. x.public) it ∙ ap (λ x. is_public x.def) placed;
                  typed = λ h. (t, ap (λ x. as_type x.meaning) it);
                }
            by (inr other) = stage.of k r e at (sym (elsewhere k other) ∙ there)

        pub stage-kept : IsStage more new
        stage-kept = record {
          es = now;
          entries = entry-set p own stage.es old new n q (TypeName t) apart stage.long at-n stage.entries noted;
          long = length-set stage.es n entry ∙ stage.long;
          below = All-set (IsTypeBelow end) stage.es n entry (λ u h. subst (TyBelow end) (same-ok h) fits) stage.below;
          of = entries-of;
          are_done = record {
            kept = λ k other r e at there c. by k other r e at there (Contains-push_cases done n k c);
            first_are = λ k r e at there c. stage.are_done.first_are k r e at (sym (elsewhere k (λ same. c (subst (Contains more) same (Contains-push done n)))) ∙ there) (not-more k c);
          };
        }
          where
            done-before : (k other : ℕ) (r : Placed) (e : Entry) → Starts k r other → slice_get now k ≡ Some e → Contains done k → IsKeptAs p own now k other r e r.def
            done-before k other r e at there c =
                kept-still k other r e stage.es now r.def (λ j f. sym (elsewhere j (other-than j (next.closed k j c f))))
                (stage.are_done.kept k other r e at (sym (elsewhere k (other-than k c)) ∙ there) c)

            by : (k other : ℕ) (r : Placed) (e : Entry) → Starts k r other → slice_get now k ≡ Some e → Contains done k ⊎ (n ≡ k) → IsKeptAs p own now k other r e r.def
            by k other r e at there (inl c) = done-before k other r e at there c
            by k other r e at there (inr same) =
                let parts = same-start k other r same at in
                subst (λ i. IsKeptAs p own now i other r e r.def) same
                (subst (λ s. IsKeptAs p own now n s r e r.def) parts.1
                (subst (λ x. IsKeptAs p own now n start x e x.def) parts.0 (kept-type e (here k e same there) q.def is)))
