-- Values that are stored behind the last item, one after another, and what is taken back.
use Rattle.std.proofs.Common.{◌≡◌, ◌∙◌, ⊎_elim, ◌+◌, ◌-◌, ◌<◌, ℕ, zero, suc, Bool, true, false, nat_le, List, [], ◌∷◌, ◌++◌, Some, None, length, take, refl, sym, subst, ap, arith}
use Rattle.std.specs.Prelude.{All, IsTrue, nat_lt, option_and_then, slice_get, slice_set, if◌then◌else◌}
use Rattle.std.proofs.lemmas.Bool.{ltb-true}
use Rattle.std.proofs.lemmas.List.{append-nil, length-append}
use Rattle.std.proofs.lemmas.Option.{same_Some}
use Rattle.value_model.specs.declared.filler.Filler.{Filler}
use Rattle.value_model.specs.declared.panics.PanicName.{PanicName}
use Rattle.value_model.specs.declared.panics.PanicName.TheVariants.{InherentTypeViolation, NoFillerValue, TooLong}
use Rattle.value_model.specs.declared.value.Value.{Value}
use Rattle.value_model.specs.declared.value.Value.TheVariants.{Error}
use Rattle.value_model.specs.PanicName.{panic_message}
use Rattle.value_model.specs.Heap.{Items, Structure, cells}
use Rattle.value_model.specs.Stands.{BelongsIf, OwnTypes}
use Rattle.value_model.specs.World.{World, Came, Gave, Threw, PassesCells}
use Rattle.op_model.specs.Fillers.{IsThereFiller, filler_structures, filler_values, fillers_from, inner_fillers, new_ones}
use Rattle.op_model.specs.Limits.{most_cells, most_items}
use Rattle.op_model.specs.Rows.{Else, Unless, gives_nothing, makes_error, next_error, next_structure, panics, with_structures, within}
use Rattle.op_model.specs.Stores.{StoresAt, atom_of, fillers_of, fixed_fillers, item_stored, set_item, stored, structures_for, type_at_place, with_members}
use Rattle.plain_stores.proofs.Levels.{levels-none}
use Rattle.plain_stores.specs.Changes.{all_but_last, changed_at, taken_back}

-- ---- a store that gave something

threw-not : (e : Value) (x : World) (given : List Value) (w : World) → ¬ (Gave given w ≡ within (Threw e x))
threw-not e x given w h = by (nat_le (cells x.heap) most_cells) h
  where
    by : (b : Bool) → ¬ (Gave given w ≡ (if b then Threw e x else PassesCells))
    by true h = cc
    by false h = cc

nothing-gave : (x w : World) (given : List Value) → Gave given w ≡ within (gives_nothing x) → (given ≡ []) × (w ≡ x)
nothing-gave x w given h = by (nat_le (cells x.heap) most_cells) h
  where
    first : Gave given w ≡ Gave [] x → given ≡ []
    first e = cc

    second : Gave given w ≡ Gave [] x → w ≡ x
    second e = cc

    past : ¬ (Gave given w ≡ PassesCells)
    past e = cc

    by : (b : Bool) → Gave given w ≡ (if b then Gave [] x else PassesCells) → (given ≡ []) × (w ≡ x)
    by true h = (first h, second h)
    by false h = absurd (past h)

panics-not : (w : World) (name : PanicName) (given : List Value) (new : World) → ¬ (Gave given new ≡ panics w name)
panics-not w name given new h = threw-not (Error (next_error w)) (makes_error w (panic_message name) None []) given new h

pub gave-stored : (own : OwnTypes) (fillers : ℕ → List Filler) (w : World) (n : ℕ) (s : Structure) (vs : List Value) (k : ℕ) (v : Value) (given : List Value) (new : World) → StoresAt own fillers w n s vs (Some k) v (Gave given new) → (given ≡ []) × (new ≡ item_stored own fillers w n s vs k v)
gave-stored own fillers w n s vs k v given new h =
    ⊎_elim
    (λ a. ⊎_elim
    (λ b. ⊎_elim
    (λ c. ⊎_elim (λ d. nothing-gave (item_stored own fillers w n s vs k v) new given d.1) (λ d. absurd (panics-not w NoFillerValue given new d.1)) c.1)
    (λ c. absurd (panics-not w TooLong given new c.1))
    b.1)
    (λ b. absurd (panics-not w InherentTypeViolation given new b.1))
    a.1)
    (λ a. absurd (panics-not w InherentTypeViolation given new a.1))
    h

-- ---- at the end of a list there is no gap, so fillers are of no account

module _ (own : OwnTypes) (w : World) (n : ℕ) (s : Structure) (vs : List Value) (v : Value) where
  abbrev EndRow : List Filler → List Structure → Came → Type 0
  EndRow gap more =
      Unless (IsTrue s.mutable) (panics w InherentTypeViolation)
      (Unless (BelongsIf own w.heap v (option_and_then (type_at_place (length vs)) (atom_of own s))) (panics w InherentTypeViolation)
      (Unless (length vs < most_items) (panics w TooLong)
      (Unless (All IsThereFiller gap) (panics w NoFillerValue)
      (Else (within (gives_nothing (stored w n s (Items (set_item vs (length vs) (filler_values (next_structure w) gap) v)) more)))))))

  module _ (fillers : ℕ → List Filler) where
    gap-none : fillers_from (fillers_of own fillers s) (length vs) (length vs - length vs) ≡ []
    gap-none = let e : length vs - length vs ≡ 0 = omega arith in ap (fillers_from (fillers_of own fillers s) (length vs)) e

    structures-none : structures_for own fillers w [] ≡ []
    structures-none =
        ap (filler_structures (fixed_fillers own fillers) (next_structure w + length (new_ones []))) (levels-none (λ f. new_ones (inner_fillers (fixed_fillers own fillers) f)) (length own.atoms))

    to-end : (came : Came) → StoresAt own fillers w n s vs (Some (length vs)) v came → EndRow [] [] came
    to-end came h = subst (λ m. EndRow [] m came) structures-none (subst (λ g. EndRow g (structures_for own fillers w g) came) gap-none h)

    from-end : (came : Came) → EndRow [] [] came → StoresAt own fillers w n s vs (Some (length vs)) v came
    from-end came h = subst (λ g. EndRow g (structures_for own fillers w g) came) (sym gap-none) (subst (λ m. EndRow [] m came) (sym structures-none) h)

    stored-end : item_stored own fillers w n s vs (length vs) v ≡ stored w n s (Items (set_item vs (length vs) [] v)) []
    stored-end =
        ap (λ g. stored w n s (Items (set_item vs (length vs) (filler_values (next_structure w) g) v)) (structures_for own fillers w g)) gap-none
        ∙ ap (λ m. stored w n s (Items (set_item vs (length vs) [] v)) m) structures-none

  pub same-end : (f g : ℕ → List Filler) (k : ℕ) (came : Came) → k ≡ length vs → StoresAt own f w n s vs (Some k) v came → StoresAt own g w n s vs (Some (length vs)) v came
  same-end f g k came e h = from-end g came (to-end f came (subst (λ i. StoresAt own f w n s vs (Some i) v came) e h))

  pub back-end : (f g : ℕ → List Filler) (k : ℕ) (came : Came) → k ≡ length vs → StoresAt own f w n s vs (Some (length vs)) v came → StoresAt own g w n s vs (Some k) v came
  back-end f g k came e h = subst (λ i. StoresAt own g w n s vs (Some i) v came) (sym e) (from-end g came (to-end f came h))

-- ---- the last item is taken back

take-front : (vs ws : List Value) → take (length vs) (vs ++ ws) ≡ vs
take-front [] ws = refl
take-front (v ∷ vs) ws = ap (λ l. v ∷ l) (take-front vs ws)

last-taken : (vs : List Value) (v : Value) → all_but_last (vs ++ v ∷ []) ≡ vs
last-taken vs v =
    let all = length-append vs (v ∷ []) in
    let e : length (vs ++ v ∷ []) - 1 ≡ length vs = omega (arith, all) in
    ap (λ k. take k (vs ++ v ∷ [])) e ∙ take-front vs (v ∷ [])

set-end : (vs : List Value) (v : Value) → set_item vs (length vs) [] v ≡ vs ++ v ∷ []
set-end vs v = by (nat_lt (length vs) (length vs)) refl
  where
    by : (b : Bool) → nat_lt (length vs) (length vs) ≡ b → (if b then slice_set vs (length vs) v else vs ++ [] ++ v ∷ []) ≡ vs ++ v ∷ []
    by true e = let l = ltb-true (length vs) (length vs) e in absurd (omega (arith, l))
    by false e = ap (λ l. l ++ v ∷ []) (append-nil vs)

set-back : (g : Structure → Structure) (xs : List Structure) (n : ℕ) (x y : Structure) → slice_get xs n ≡ Some x → g y ≡ x → changed_at g (slice_set xs n y ++ []) n ≡ xs
set-back g [] n x y e h = refl
set-back g (z ∷ xs) zero x y e h = (λ i. (h ∙ sym (same_Some z x e)) i ∷ append-nil xs i)
set-back g (z ∷ xs) (suc n) x y e h = ap (λ l. z ∷ l) (set-back g xs n x y e h)

pub back-again : (own : OwnTypes) (fillers : ℕ → List Filler) (w : World) (n : ℕ) (s : Structure) (vs : List Value) (v : Value) (greatest : ℕ) (new : World) → slice_get w.heap.structures n ≡ Some s → s.members ≡ Items vs → greatest ≡ s.greatest → new ≡ item_stored own fillers w n s vs (length vs) v → with_structures new (changed_at (taken_back greatest) new.heap.structures n) ≡ w
back-again own fillers w n s vs v greatest new e m g h =
    let whole : new ≡ stored w n s (Items (vs ++ v ∷ [])) [] = h ∙ (stored-end own w n s vs v fillers ∙ ap (λ l. stored w n s (Items l) []) (set-end vs v)) in
    let same : taken_back greatest (with_members s (Items (vs ++ v ∷ []))) ≡ s =
    (λ i. record { atom = s.atom; mutable = s.mutable; members = (ap Items (last-taken vs v) ∙ sym m) i; greatest = g i }) in
    ap (λ x. with_structures x (changed_at (taken_back greatest) x.heap.structures n)) whole
    ∙ ap (with_structures w) (set-back (taken_back greatest) w.heap.structures n s (with_members s (Items (vs ++ v ∷ []))) e same)
