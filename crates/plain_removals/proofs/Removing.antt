-- What a removal comes to is what its row says.
use Rattle.std.proofs.Common.{◌≡◌, ◌<◌, ◌≤◌, ℕ, Bool, true, false, IsTrue, IsSomeAnd, List, [], Option, Some, None, length, refl, sym, subst, ap, ◌∙◌, arith, inl, inr}
use Rattle.std.specs.Prelude.{option_map, remove, slice_get}
use Rattle.std.proofs.lemmas.Bool.{false≢true}
use Rattle.std.proofs.lemmas.Option.{slice_get-map}
use Rattle.bal_base.specs.declared.text.Text.{Text}
use Rattle.value_model.specs.declared.panics.PanicName.TheVariants.{IndexOutOfRange, InherentTypeViolation, KeyNotFound}
use Rattle.value_model.specs.declared.value.Value.{Value}
use Rattle.value_model.specs.Heap.{Structure as ModelStructure, Members, Items, Entries, entry_at}
use Rattle.value_model.specs.Stands.{MembersBelong}
use Rattle.value_model.specs.World as model
use Rattle.op_model.specs.ProgramFacts.{own_types}
use Rattle.op_model.specs.Library.{RemovesKey}
use Rattle.op_model.specs.Rows.{found, gives, panics}
use Rattle.op_model.specs.Stores.{StillFits, remove_entry, stored}
use Rattle.plain_run.specs.declared.facts.ProgramFacts.{ProgramFacts}
use Rattle.plain_run.specs.declared.held.Heap.{Heap}
use Rattle.plain_run.specs.declared.held.Structure.{Structure}
use Rattle.plain_run.specs.ProgramFacts.{facts_of}
use Rattle.plain_run.specs.Held.{heap_of, structure_of}
use Rattle.plain_structures.proofs.Standing.{entries-there, items-there}
use Rattle.plain_tests.specs.Own.{def_of}
use Rattle.plain_removals.specs.declared.place.Place.{Place}
use Rattle.plain_removals.specs.declared.removal.Removal.{Removal}
use Rattle.plain_removals.specs.declared.removal.Removal.TheVariants.{Panics, Leaves, Undecided}
use Rattle.plain_removals.specs.Members.{AllBelongIf}
use Rattle.plain_removals.specs.Removals.{IsAllowed, IsItemRemoval, IsKeyBeyond, IsKeyRemoval, IsKeyRemovalFrom, IsListRemoval, IsMappingRemoval, IsRemoval, IsRemovalFrom}

frozen : (b : Bool) → b ≡ false → ¬ (IsTrue b)
frozen b e t = false≢true (sym e ∙ t)

module _ (facts : ProgramFacts) (h : Heap) (s : ModelStructure) where
  -- what may be left in the heap may be left in each world with it
  fits-in : (w : model.World) (m : Members) → w.heap ≡ heap_of h → AllBelongIf facts h m s.atom → StillFits (own_types (facts_of facts)) w s m
  fits-in w m e fits =
      subst (λ x. IsSomeAnd (def_of (own_types (facts_of facts)) s.atom) (MembersBelong (own_types (facts_of facts)) x m)) (sym e) fits

  fits-from : (w : model.World) (m : Members) → w.heap ≡ heap_of h → StillFits (own_types (facts_of facts)) w s m → AllBelongIf facts h m s.atom
  fits-from w m e fits =
      subst (λ x. IsSomeAnd (def_of (own_types (facts_of facts)) s.atom) (MembersBelong (own_types (facts_of facts)) x m)) e fits

  -- ---- items

  module _ (vs : List Value) where
    pub no-place : IsItemRemoval facts h s vs None (Panics IndexOutOfRange)
    no-place = λ w n e. refl

    module _ (k : ℕ) where
      pub past-items : length vs ≤ k → IsItemRemoval facts h s vs (Some k) (Panics IndexOutOfRange)
      past-items past = λ w n e. inr ((λ l. omega (arith, l, past)), refl)

      pub items-frozen : k < length vs → s.mutable ≡ false → IsItemRemoval facts h s vs (Some k) (Panics InherentTypeViolation)
      items-frozen l f = λ w n e. inl (l, inr (frozen s.mutable f, refl))

      pub item-allowed : (v : Value) (removal : Removal) → k < length vs → s.mutable ≡ true → slice_get vs k ≡ Some v → IsAllowed facts h s.atom (Items (remove vs k)) v removal → IsItemRemoval facts h s vs (Some k) removal
      item-allowed v (Panics name) l t at (is, not) = λ w n e.
          inl (l, inl (t, inr ((λ fits. not (fits-from w (Items (remove vs k)) e fits)), ap (panics w) is)))
      item-allowed v (Leaves left given) l t at (is, same, fits) = λ w n e.
          let out : gives (stored w n s (Items (remove vs k)) []) v ≡ found (stored w n s (Items (remove vs k)) []) IndexOutOfRange (slice_get vs k) = sym (ap (found (stored w n s (Items (remove vs k)) []) IndexOutOfRange) at) in
          inl (l, inl (t, inl (fits-in w (Items (remove vs k)) e fits, (λ i. gives (stored w n s (is i) []) (same i)) ∙ out)))
      item-allowed v Undecided l t at beyond = (l, t, beyond)

  -- ---- entries

  module _ (es : List (Text × Value)) (key : Text) where
    -- the row, and when it is not told, by what stands at the key
    abbrev RemovalOf : Option Value → Removal → Type 0
    RemovalOf o removal =
        IsRemoval facts h s (λ w n. RemovesKey (own_types (facts_of facts)) w n s es key o) (IsKeyBeyond facts h s es key o) removal

    pub no-key : entry_at es key ≡ None → IsKeyRemoval facts h s es key (Panics KeyNotFound)
    no-key none = subst (λ o. RemovalOf o (Panics KeyNotFound)) (sym none) (λ w n e. refl)

    pub entries-frozen : (v : Value) → entry_at es key ≡ Some v → s.mutable ≡ false → IsKeyRemoval facts h s es key (Panics InherentTypeViolation)
    entries-frozen v some f = subst (λ o. RemovalOf o (Panics InherentTypeViolation)) (sym some) (λ w n e. inr (frozen s.mutable f, refl))

    entry-left : (v : Value) (removal : Removal) → s.mutable ≡ true → IsAllowed facts h s.atom (Entries (remove_entry es key)) v removal → RemovalOf (Some v) removal
    entry-left v (Panics name) t (is, not) = λ w n e.
        inl (t, inr ((λ fits. not (fits-from w (Entries (remove_entry es key)) e fits)), ap (panics w) is))
    entry-left v (Leaves left given) t (is, same, fits) = λ w n e.
        inl (t, inl (fits-in w (Entries (remove_entry es key)) e fits, λ i. gives (stored w n s (is i) []) (same i)))
    entry-left v Undecided t beyond = (t, beyond)

    pub entry-allowed : (left : List (Text × Value)) (v : Value) (removal : Removal) → entry_at es key ≡ Some v → left ≡ remove_entry es key → s.mutable ≡ true → IsAllowed facts h s.atom (Entries left) v removal → IsKeyRemoval facts h s es key removal
    entry-allowed left v removal some is t all =
        subst (λ o. RemovalOf o removal) (sym some) (entry-left v removal t (subst (λ l. IsAllowed facts h s.atom (Entries l) v removal) is all))

-- ---- the structure with a number

module _ (facts : ProgramFacts) (h : Heap) (n : ℕ) (s : Structure) (there : slice_get h.structures n ≡ Some s) where
  stands : slice_get (heap_of h).structures n ≡ Some (structure_of s)
  stands = slice_get-map structure_of h.structures n ∙ ap (option_map structure_of) there

  pub list-there : (place : Place) (removal : Option Removal) → IsRemovalFrom facts h (structure_of s) place removal → IsListRemoval facts h n place removal
  list-there place (Some removal) is = (structure_of s, stands, is)
  list-there place None is = items-there h n s there ∙ is

  pub mapping-there : (key : Text) (removal : Option Removal) → IsKeyRemovalFrom facts h (structure_of s) key removal → IsMappingRemoval facts h n key removal
  mapping-there key (Some removal) is = (structure_of s, stands, is)
  mapping-there key None is = entries-there h n s there ∙ is
