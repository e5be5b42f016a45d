-- What the tests of a store say of its row.
use Rattle.std.proofs.Common.{◌≡◌, ◌∙◌, ⊎_elim, inl, inr, ◌-◌, ◌<◌, ℕ, Bool, true, false, List, [], Option, Some, None, IsSomeAnd, length, refl, sym, subst, ap}
use Rattle.std.specs.Prelude.{IsTrue, option_map, slice_get}
use Rattle.std.specs.List.{list_all}
use Rattle.std.proofs.lemmas.Bool.{false≢true}
use Rattle.std.proofs.lemmas.List.Sums.{list_all-from_AllPass}
use Rattle.std.proofs.lemmas.Option.{slice_get-map}
use Rattle.bal_base.specs.declared.text.Text.{Text}
use Rattle.type_model.specs.declared.basic.Ty.{Ty}
use Rattle.value_model.specs.declared.filler.Filler.{Filler}
use Rattle.value_model.specs.declared.filler.Filler.TheVariants.{Nothing, Nil as NilFiller, Bool as BoolFiller, Int as IntFiller, Str as StrFiller, List as NewList, Mapping as NewMapping}
use Rattle.value_model.specs.declared.panics.PanicName.TheVariants.{InherentTypeViolation, NoFillerValue}
use Rattle.value_model.specs.declared.value.Value.{Value}
use Rattle.value_model.specs.Heap.{Entries, Items, Members, Structure}
use Rattle.value_model.specs.Stands.{BelongsIf}
use Rattle.value_model.specs.World as model
use Rattle.op_model.specs.ProgramFacts.{own_types}
use Rattle.op_model.specs.Fillers.{IsThereFiller, fillers_from}
use Rattle.op_model.specs.Limits.{most_items}
use Rattle.op_model.specs.Rows.{Else, HasEntries, HasItems, StructureAt, Unless, gives_nothing, panics, within}
use Rattle.op_model.specs.Stores.{StoresAt, StoresKey, item_stored, set_entry, stored}
use Rattle.plain_run.specs.declared.facts.ProgramFacts.{ProgramFacts}
use Rattle.plain_run.specs.declared.held.Heap.{Heap}
use Rattle.plain_run.specs.declared.held.Structure.{Structure as HeldStructure}
use Rattle.plain_run.specs.declared.held.World.{World}
use Rattle.plain_run.specs.ProgramFacts.{facts_of}
use Rattle.plain_run.specs.Held.{structure_of, world_of}
use Rattle.plain_tests.specs.Tells.{TellsIf}
use Rattle.store_tests.specs.declared.tests.Test.{Test}
use Rattle.store_tests.specs.declared.tests.Test.TheVariants.{Absent, Panics, Undecided, Passed}
use Rattle.store_tests.specs.Fillers.{is_there as has_filler}
use Rattle.store_tests.specs.Questions.{KeyIsBeyond, PlaceIsBeyond}
use Rattle.store_tests.specs.Tests.{GapRow, HoldRow, IsTested, KeyRow, ListComes, ListIsBeyond, ListRow, MappingComes, MappingIsBeyond, MappingRow, MayHold, PlaceRow, TellsHold}

-- ---- the structure with a number

module _ (w : World) (n : ℕ) where
  found : (o : Option HeldStructure) → slice_get w.heap.structures n ≡ o → slice_get (world_of w).heap.structures n ≡ option_map structure_of o
  found o e = slice_get-map structure_of w.heap.structures n ∙ ap (option_map structure_of) e

  pub tested-there : (P Q : Structure → model.Came → Type 0) (C : Structure → Type 0) (v : model.World) (t : Test) (s : HeldStructure) → slice_get w.heap.structures n ≡ Some s → IsTested (P (structure_of s)) (Q (structure_of s)) v (C (structure_of s)) t → IsTested (λ came. StructureAt (world_of w) n (λ x. P x came)) (λ came. StructureAt (world_of w) n (λ x. Q x came)) v (StructureAt (world_of w) n C) t
  tested-there P Q C v t s e h =
      subst (λ o. IsTested (λ came. IsSomeAnd o (λ x. P x came)) (λ came. IsSomeAnd o (λ x. Q x came)) v (IsSomeAnd o C) t) (sym (found (Some s) e)) h

-- ---- a structure that is a list, or a mapping

module _ (facts : ProgramFacts) (w : World) (n : ℕ) (s : Structure) where
  abbrev row-of : ℕ → Value → Members → model.Came → Type 0
  row-of k v x came = HasItems (λ vs. StoresAt (own_types (facts_of facts)) (facts_of facts).fillers (world_of w) n s vs (Some k) v came) x

  abbrev comes-of : ℕ → Value → Members → model.Came → Type 0
  comes-of k v x came =
      HasItems (λ vs. came ≡ within (gives_nothing (item_stored (own_types (facts_of facts)) (facts_of facts).fillers (world_of w) n s vs k v))) x

  abbrev key-row-of : Text → Value → Members → model.Came → Type 0
  key-row-of key v x came = HasEntries (λ es. StoresKey (own_types (facts_of facts)) (facts_of facts).fillers (world_of w) n s es key v came) x

  abbrev key-comes-of : Text → Value → Members → model.Came → Type 0
  key-comes-of key v x came = HasEntries (λ es. came ≡ within (gives_nothing (stored (world_of w) n s (Entries (set_entry es key v)) []))) x

  pub list-tested : (vs : List Value) (size k : ℕ) (v : Value) (t : Test) → s.members ≡ Items vs → size ≡ length vs → ((final : model.Came) → IsTested (PlaceRow facts w s size k v final) (Else final) (world_of w) (PlaceIsBeyond facts w s (Some k) v) t) → IsTested (ListRow facts w n s k v) (ListComes facts w n s k v) (world_of w) (ListIsBeyond facts w s k v) t
  list-tested vs size k v t m z h =
      let final = within (gives_nothing (item_stored (own_types (facts_of facts)) (facts_of facts).fillers (world_of w) n s vs k v)) in
      subst (λ x. IsTested (row-of k v x) (comes-of k v x) (world_of w) (HasItems (λ us. PlaceIsBeyond facts w s (Some k) v) x) t) (sym m)
      (subst (λ i. IsTested (PlaceRow facts w s i k v final) (Else final) (world_of w) (PlaceIsBeyond facts w s (Some k) v) t) z (h final))

  pub mapping-tested : (es : List (Text × Value)) (key : Text) (v : Value) (t : Test) → s.members ≡ Entries es → ((final : model.Came) → IsTested (KeyRow facts w s key v final) (Else final) (world_of w) (KeyIsBeyond facts w s key v) t) → IsTested (MappingRow facts w n s key v) (MappingComes w n s key v) (world_of w) (MappingIsBeyond facts w s key v) t
  mapping-tested es key v t m h =
      let final = within (gives_nothing (stored (world_of w) n s (Entries (set_entry es key v)) [])) in
      subst (λ x. IsTested (key-row-of key v x) (key-comes-of key v x) (world_of w) (HasEntries (λ us. KeyIsBeyond facts w s key v) x) t) (sym m) (h final)

-- ---- what a structure may hold

module _ (facts : ProgramFacts) (w : World) (s : Structure) (t : Option Ty) (v : Value) where
  abbrev Violation : model.Came
  Violation = panics (world_of w) InherentTypeViolation

  pub held-not : (behind : model.Came → Type 0) → ¬ (MayHold facts w.heap s.mutable t v) → HoldRow facts w s t v behind Violation
  held-not behind h = by s.mutable h
    where
      by : (b : Bool) → ¬ (MayHold facts w.heap b t v) → Unless (IsTrue b) Violation (Unless (BelongsIf (own_types (facts_of facts)) (world_of w).heap v t) Violation behind) Violation
      by true h = inl (refl, inr (λ belongs. h (refl, belongs), refl))
      by false h = inr (false≢true, refl)

  pub held-tested : (behind passed : model.Came → Type 0) (cause : Type 0) (test : Test) → MayHold facts w.heap s.mutable t v → IsTested behind passed (world_of w) ⊥ test → IsTested (HoldRow facts w s t v behind) passed (world_of w) cause test
  held-tested behind passed cause Absent m h = λ came. ⊎_elim (λ u. ⊎_elim (λ x. h came x.1) (λ x. x.0 m.1) u.1) (λ u. u.0 m.0)
  held-tested behind passed cause (Panics name) m h = inl (m.0, inl (m.1, h))
  held-tested behind passed cause Undecided m h = absurd h
  held-tested behind passed cause Passed m h = λ came p. inl (m.0, inl (m.1, h came p))

-- ---- the tests of a gap

there-is : (f : Filler) → IsThereFiller f → has_filler f ≡ true
there-is Nothing h = absurd (h refl)
there-is NilFiller h = refl
there-is (BoolFiller b) h = refl
there-is (IntFiller i) h = refl
there-is (StrFiller t) h = refl
there-is (NewList a) h = refl
there-is (NewMapping a) h = refl

module _ (w : model.World) (fs : List Filler) (size k : ℕ) (final : model.Came) where
  abbrev gap : List Filler
  gap = fillers_from fs size (k - size)

  pub gap-missing : k < most_items → list_all has_filler gap ≡ false → GapRow w fs size k final (panics w NoFillerValue)
  gap-missing l h =
      inl (l, inr (λ all. false≢true (sym h ∙ list_all-from_AllPass has_filler gap (λ i d b. there-is _ (all i d b))), refl))

-- ---- what is told, in other words

pub hold-told : (facts : ProgramFacts) (h : Heap) (mutable : Bool) (wanted t : Option Ty) (v : Value) (o : Option Bool) (b told : Bool) → wanted ≡ t → o ≡ Some b → b ≡ told → TellsHold facts h mutable wanted v o → TellsHold facts h mutable t v (Some told)
hold-told facts h mutable wanted t v o b told e i j k =
    subst (λ x. TellsHold facts h mutable t v (Some x)) j (subst (TellsHold facts h mutable t v) i (subst (λ x. TellsHold facts h mutable x v o) e k))

-- of a structure that is mutable it is told of the value alone
pub mutable-told : (facts : ProgramFacts) (h : Heap) (mutable : Bool) (t : Option Ty) (v : Value) (told : Option Bool) → mutable ≡ true → TellsIf facts h v t told → TellsHold facts h mutable t v told
mutable-told facts h mutable t v (Some holds) m is = (λ b. (m, is.0 b), λ may. is.1 may.1)
mutable-told facts h mutable t v None m is = (m, is)
