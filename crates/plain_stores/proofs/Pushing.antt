-- One value that is pushed, and those behind it.
use Rattle.std.proofs.Common.{◌≡◌, ◌∙◌, ◌-◌, ◌≤◌, inl, inr, ℕ, true, false, List, [], ◌∷◌, Option, Some, None, IsSomeAnd, drop, get_or, length, take, refl, sym, subst, ap, arith}
use Rattle.std.proofs.lemmas.List.{take_all}
use Rattle.std.specs.Prelude.{option_to_list, slice_get, if◌then◌else◌}
use Rattle.value_model.specs.declared.filler.Filler.{Filler}
use Rattle.value_model.specs.declared.value.Value.{Value}
use Rattle.value_model.specs.Heap.{Entries, Items, Members, Structure}
use Rattle.value_model.specs.Stands.{OwnTypes}
use Rattle.value_model.specs.World as model
use Rattle.op_model.specs.ProgramFacts.{own_types}
use Rattle.op_model.specs.Library.{Pushes, Then}
use Rattle.op_model.specs.Rows.{HasItems, ListAt, StructureAt, with_structures}
use Rattle.op_model.specs.Stores.{StoresAt}
use Rattle.op_model.proofs.LibraryOnce.{StoresAt-one}
use Rattle.op_model.proofs.Once.{ListAt-one}
use Rattle.plain_run.specs.declared.facts.ProgramFacts.{ProgramFacts}
use Rattle.plain_run.specs.declared.held.World.{World}
use Rattle.plain_run.specs.declared.world.Came.TheVariants.{Gave, Threw, PassesCells}
use Rattle.plain_run.specs.Came.{came_of}
use Rattle.plain_run.specs.ProgramFacts.{facts_of}
use Rattle.plain_run.specs.Held.{world_of}
use Rattle.plain_structures.specs.declared.answer.Tried.{Tried}
use Rattle.plain_structures.specs.declared.answer.Tried.TheVariants as tries
use Rattle.plain_structures.specs.Rows.{IsTried, TriedStays}
use Rattle.plain_stores.specs.declared.pushes.End.{End}
use Rattle.plain_stores.specs.Changes.{IsEnd, changed_at, has_given, is_undone, taken_back}
use Rattle.store_tests.specs.Questions.{PlaceIsBeyond, StoreIsBeyond}
use Rattle.plain_stores.specs.Questions.{PushesAreBeyond}
use Rattle.store_tests.specs.Tests.{StoresItem}
use Rattle.plain_stores.proofs.Pushed.{back-again, back-end, gave-stored, same-end}
use Rattle.plain_stores.proofs.Stored.{list-row}

true-false : true ≡ false → ⊥
true-false e = cc

-- what follows from the one list that there is
list-any : (w : model.World) (n : ℕ) (P : Structure → List Value → Type 0) (R : Type 0) → ((s : Structure) (vs : List Value) → slice_get w.heap.structures n ≡ Some s → s.members ≡ Items vs → P s vs → R) → StructureAt w n (λ s. HasItems (P s) s.members) → R
list-any w n P R f h = by (slice_get w.heap.structures n) refl h
  where
    inside : (s : Structure) → slice_get w.heap.structures n ≡ Some s → (x : Members) → s.members ≡ x → HasItems (P s) x → R
    inside s e (Items vs) m h = f s vs e m h
    inside s e (Entries es) m h = absurd h

    by : (o : Option Structure) → slice_get w.heap.structures n ≡ o → IsSomeAnd o (λ s. HasItems (P s) s.members) → R
    by (Some s) e h = inside s e s.members refl h
    by None e h = absurd h

module _ (facts : ProgramFacts) (n : ℕ) (v : Value) (vs : List Value) (old : World) (end : End) (e : IsEnd (world_of old) n (Some end)) where
  abbrev own : OwnTypes
  own = own_types (facts_of facts)

  abbrev fillers : ℕ → List Filler
  fillers = (facts_of facts).fillers

  abbrev none : ℕ → List Filler
  none a = []

  at-end : (s : Structure) (items : List Value) → slice_get (world_of old).heap.structures n ≡ Some s → s.members ≡ Items items → (end.size ≡ length items) × (end.greatest ≡ s.greatest)
  at-end s items at m =
      subst (HasItems (λ us. (end.size ≡ length us) × (end.greatest ≡ s.greatest))) m
      (subst (λ o. IsSomeAnd o (λ x. HasItems (λ us. (end.size ≡ length us) × (end.greatest ≡ x.greatest)) x.members)) at e)

  abbrev First : model.Came → Type 0
  First came = ListAt (world_of old) n (λ s items. StoresAt own none (world_of old) n s items (Some (length items)) v came)

  first-to : (came : model.Came) → StoresItem facts old n end.size v came → First came
  first-to came h =
      list-row (world_of old) n (λ s items. StoresAt own fillers (world_of old) n s items (Some end.size) v came) (λ s items. StoresAt own none (world_of old) n s items (Some (length items)) v came)
      (λ s items at m p. same-end own (world_of old) n s items v fillers none end.size came (at-end s items at m).0 p) h

  first-from : (came : model.Came) → First came → StoresItem facts old n end.size v came
  first-from came h =
      list-row (world_of old) n (λ s items. StoresAt own none (world_of old) n s items (Some (length items)) v came) (λ s items. StoresAt own fillers (world_of old) n s items (Some end.size) v came)
      (λ s items at m p. back-end own (world_of old) n s items v none fillers end.size came (at-end s items at m).0 p) h

  beyond-to : StoreIsBeyond facts old n (Some end.size) v → ListAt (world_of old) n (λ s items. PlaceIsBeyond facts old s (Some (length items)) v)
  beyond-to h =
      list-row (world_of old) n (λ s items. PlaceIsBeyond facts old s (Some end.size) v) (λ s items. PlaceIsBeyond facts old s (Some (length items)) v)
      (λ s items at m p. subst (λ k. PlaceIsBeyond facts old s (Some k) v) (at-end s items at m).0 p) h

  -- ---- the first one gave nothing

  pub push-stops : (first : Tried) (new : World) → has_given first ≡ false → IsTried (StoresItem facts old n end.size v) (StoreIsBeyond facts old n (Some end.size) v) new first → IsTried (Pushes own n (v ∷ vs) (world_of old)) (PushesAreBeyond facts n (v ∷ vs) old) new first
  push-stops (tries.Came (Gave x)) new g h = absurd (true-false g)
  push-stops (tries.Came (Threw x)) new g h = (came_of (Threw x) new, first-to (came_of (Threw x) new) h, refl)
  push-stops (tries.Came PassesCells) new g h = (model.PassesCells, first-to model.PassesCells h, refl)
  push-stops tries.Stuck new g h = λ came p. h p.0 (first-from p.0 p.1)
  push-stops tries.Undecided new g h = inl (beyond-to h)

  -- ---- the first one gave something

  given-is : (first : Tried) (mid : World) → has_given first ≡ true → IsTried (StoresItem facts old n end.size v) (StoreIsBeyond facts old n (Some end.size) v) mid first → (given : List Value) × StoresItem facts old n end.size v (model.Gave given (world_of mid))
  given-is (tries.Came (Gave x)) mid g h = (option_to_list x, h)
  given-is (tries.Came (Threw x)) mid g h = absurd (true-false (sym g))
  given-is (tries.Came PassesCells) mid g h = absurd (true-false (sym g))
  given-is tries.Stuck mid g h = absurd (true-false (sym g))
  given-is tries.Undecided mid g h = absurd (true-false (sym g))

  abbrev undone : model.World → model.World
  undone w = with_structures w (changed_at (taken_back end.greatest) w.heap.structures n)

  module _ (mid : World) (given : List Value) (first : StoresItem facts old n end.size v (model.Gave given (world_of mid))) where
    nothing-given : First (model.Gave [] (world_of mid))
    nothing-given =
        list-row (world_of old) n (λ s items. StoresAt own none (world_of old) n s items (Some (length items)) v (model.Gave given (world_of mid))) (λ s items. StoresAt own none (world_of old) n s items (Some (length items)) v (model.Gave [] (world_of mid)))
        (λ s items at m p. subst (λ l. StoresAt own none (world_of old) n s items (Some (length items)) v (model.Gave l (world_of mid))) (gave-stored own none (world_of old) n s items (length items) v given (world_of mid) p).0 p)
        (first-to (model.Gave given (world_of mid)) first)

    is-first : (came : model.Came) → First came → came ≡ model.Gave given (world_of mid)
    is-first came h =
        ListAt-one (world_of old) n (λ s items came. StoresAt own none (world_of old) n s items (Some (length items)) v came) (λ s items. StoresAt-one own none (world_of old) n s items (Some (length items)) v) came (model.Gave given (world_of mid)) h (first-to (model.Gave given (world_of mid)) first)

    back : undone (world_of mid) ≡ world_of old
    back =
        list-any (world_of old) n (λ s items. StoresAt own fillers (world_of old) n s items (Some end.size) v (model.Gave given (world_of mid))) (undone (world_of mid) ≡ world_of old)
        (λ s items at m p. back-again own fillers (world_of old) n s items v end.greatest (world_of mid) at m (at-end s items at m).1 (gave-stored own fillers (world_of old) n s items (length items) v given (world_of mid) (subst (λ k. StoresAt own fillers (world_of old) n s items (Some k) v (model.Gave given (world_of mid))) (at-end s items at m).0 p)).1)
        first

    goes : (behind : Tried) (mid2 new : World) → IsTried (Pushes own n vs (world_of mid)) (PushesAreBeyond facts n vs mid) mid2 behind → world_of new ≡ (if is_undone behind then undone (world_of mid2) else world_of mid2) → IsTried (Pushes own n (v ∷ vs) (world_of old)) (PushesAreBeyond facts n (v ∷ vs) old) new behind
    goes (tries.Came (Gave x)) mid2 new h u =
        (model.Gave given (world_of mid), first-to _ first, subst (λ w. Pushes own n vs (world_of mid) (model.Gave (option_to_list x) w)) (sym u) h)
    goes (tries.Came (Threw x)) mid2 new h u =
        (model.Gave given (world_of mid), first-to _ first, subst (λ w. Pushes own n vs (world_of mid) (model.Threw x w)) (sym u) h)
    goes (tries.Came PassesCells) mid2 new h u = (model.Gave given (world_of mid), first-to _ first, h)
    goes tries.Stuck mid2 new h u = λ came p. h came (subst (λ x. Then (Pushes own n vs) x came) (is-first p.0 p.1) p.2)
    goes tries.Undecided mid2 new h u = inr (mid, nothing-given, h)

    keeps : (behind : Tried) (mid2 new : World) → TriedStays mid mid2 behind → world_of new ≡ (if is_undone behind then undone (world_of mid2) else world_of mid2) → TriedStays old new behind
    keeps (tries.Came (Gave x)) mid2 new h u = tt
    keeps (tries.Came (Threw x)) mid2 new h u = tt
    keeps (tries.Came PassesCells) mid2 new h u = u ∙ (ap undone h ∙ back)
    keeps tries.Stuck mid2 new h u = u ∙ (ap undone h ∙ back)
    keeps tries.Undecided mid2 new h u = u ∙ (ap undone h ∙ back)

  pub push-goes : (first behind : Tried) (mid mid2 new : World) → has_given first ≡ true → IsTried (StoresItem facts old n end.size v) (StoreIsBeyond facts old n (Some end.size) v) mid first → IsTried (Pushes own n vs (world_of mid)) (PushesAreBeyond facts n vs mid) mid2 behind → world_of new ≡ (if is_undone behind then undone (world_of mid2) else world_of mid2) → IsTried (Pushes own n (v ∷ vs) (world_of old)) (PushesAreBeyond facts n (v ∷ vs) old) new behind
  push-goes first behind mid mid2 new g f h u = let it = given-is first mid g f in goes mid it.0 it.1 behind mid2 new h u

  pub push-keeps : (first behind : Tried) (mid mid2 new : World) → has_given first ≡ true → IsTried (StoresItem facts old n end.size v) (StoreIsBeyond facts old n (Some end.size) v) mid first → TriedStays mid mid2 behind → world_of new ≡ (if is_undone behind then undone (world_of mid2) else world_of mid2) → TriedStays old new behind
  push-keeps first behind mid mid2 new g f h u = let it = given-is first mid g f in keeps mid it.0 it.1 behind mid2 new h u

-- the first value, and those behind it
pub first-of : (xs : List Value) (v : Value) → 1 ≤ length xs → v ≡ get_or xs 0 v → xs ≡ v ∷ take (length xs - 1) (drop 1 xs)
first-of [] v l e = absurd (omega (arith, l))
first-of (x ∷ xs) v l e =
    let m : length xs ≤ length (x ∷ xs) - 1 = omega arith in
    (λ i. sym e i ∷ sym (take_all (length (x ∷ xs) - 1) xs m) i)
