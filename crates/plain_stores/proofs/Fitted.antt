-- The structures that are made for a gap, and the room for them.
use Rattle.std.proofs.Common.{◌≡◌, ◌∙◌, ◌+◌, ◌-◌, ℕ, Bool, true, false, nat_le, List, Some, None, length, map, refl, sym, subst, ap, arith}
use Rattle.std.specs.Prelude.{Vec}
use Rattle.std.specs.Global.{Global}
use Rattle.std.specs.List.{sum_by}
use Rattle.std.proofs.lemmas.Bool.{leb-true}
use Rattle.value_model.specs.declared.filler.Filler.{Filler}
use Rattle.value_model.specs.declared.value.Value.{Value}
use Rattle.value_model.specs.Heap.{Items, Structure, cells}
use Rattle.value_model.specs.World.{World}
use Rattle.op_model.specs.Fillers.{filler_structures, filler_values, new_ones}
use Rattle.op_model.specs.Levels.{all_of, levels}
use Rattle.op_model.specs.Limits.{most_cells}
use Rattle.op_model.specs.Rows.{HasItems, next_structure}
use Rattle.plain_run.specs.declared.facts.ProgramFacts.{ProgramFacts}
use Rattle.plain_run.specs.declared.held.Structure.{Structure as HeldStructure}
use Rattle.plain_run.specs.Held.{structure_of}
use Rattle.plain_stores.specs.declared.made.Made.{Made}
use Rattle.plain_stores.specs.declared.making.Prepared.{Prepared}
use Rattle.plain_stores.specs.declared.making.Prepared.TheVariants.{Absent, Passes, Makes}
use Rattle.store_tests.specs.Fillers.{fixed_of}
use Rattle.plain_stores.specs.Changes.{AreFor, AreMade, IsMaking, ListIsPrepared, filler_cells, gap_of, has_place, kids, made_from, room_of, size_behind}
use Rattle.plain_stores.proofs.Levels.{made-cells}

-- ---- they are made for fillers

module _ (facts : ProgramFacts) (w : World) (greatest size first : ℕ) (fs roots : List Filler) (depth : ℕ) (r : roots ≡ new_ones fs) (d : levels all_of (kids facts) roots depth ≡ levels all_of (kids facts) roots (length facts.atoms.now)) where
  abbrev all : List Filler
  all = levels all_of (kids facts) (new_ones fs) (length facts.atoms.now)

  levels-are : levels all_of (kids facts) roots depth ≡ levels all_of (kids facts) (new_ones fs) (length facts.atoms.now)
  levels-are = d ∙ ap (λ l. levels all_of (kids facts) l (length facts.atoms.now)) r

  total : sum_by (λ s. s.greatest + 1) (made_from facts first fs) ≡ sum_by (filler_cells facts) (levels all_of (kids facts) roots depth)
  total = made-cells facts first all ∙ ap (sum_by (filler_cells facts)) (sym levels-are)

  pub for-past : AreMade facts roots depth None → AreFor facts w greatest size fs first None
  for-past m = by (has_place w greatest size (made_from facts first fs)) refl
    where
      by : (b : Bool) → has_place w greatest size (made_from facts first fs) ≡ b → has_place w greatest size (made_from facts first fs) ≡ false
      by true e =
          let l = leb-true (cells w.heap + ((size - greatest) + sum_by (λ s. s.greatest + 1) (made_from facts first fs))) most_cells e in
          let t = total in
          absurd (omega (arith, l, t, m))
      by false e = e

  place-is : (made : Made) (taken : ℕ) (b : Bool) → AreMade facts roots depth (Some made) → taken ≡ most_cells - made.left → b ≡ nat_le (cells w.heap + ((size - greatest) + taken)) most_cells → b ≡ has_place w greatest size (made_from facts first fs)
  place-is made taken b m t e =
      let left = m.1 in
      let all_taken = total in
      let same : taken ≡ sum_by (λ s. s.greatest + 1) (made_from facts first fs) = omega (arith, left, all_taken, t) in
      e ∙ ap (λ n. nat_le (cells w.heap + ((size - greatest) + n)) most_cells) same

  pub for-full : (made : Made) (taken : ℕ) (b : Bool) → AreMade facts roots depth (Some made) → taken ≡ most_cells - made.left → b ≡ nat_le (cells w.heap + ((size - greatest) + taken)) most_cells → b ≡ false → AreFor facts w greatest size fs first None
  for-full made taken b m t e f = sym (place-is made taken b m t e) ∙ f

  pub for-made : (made : Made) (taken : ℕ) (b : Bool) (ss : Vec HeldStructure Global) → AreMade facts roots depth (Some made) → taken ≡ most_cells - made.left → b ≡ nat_le (cells w.heap + ((size - greatest) + taken)) most_cells → b ≡ true → map structure_of ss.items ≡ filler_structures (fixed_of facts) first made.fillers.items → AreFor facts w greatest size fs first (Some ss)
  for-made made taken b ss m t e f h = (h ∙ ap (filler_structures (fixed_of facts) first) (m.0 ∙ levels-are), sym (place-is made taken b m t e) ∙ f)

-- ---- they are made for a gap

module _ (facts : ProgramFacts) (w : World) (s : Structure) (size k : ℕ) (gap : List Filler) (values : List Value) (first behind : ℕ) (g : gap ≡ gap_of facts w s size k) (v : values ≡ filler_values (next_structure w) gap) (n : first ≡ next_structure w + length (new_ones gap)) (b : behind ≡ size_behind size k (length values)) where
  values-are : values ≡ filler_values (next_structure w) (gap_of facts w s size k)
  values-are = v ∙ ap (filler_values (next_structure w)) g

  first-is : first ≡ next_structure w + length (new_ones (gap_of facts w s size k))
  first-is = n ∙ ap (λ l. next_structure w + length (new_ones l)) g

  behind-is : behind ≡ size_behind size k (length (filler_values (next_structure w) (gap_of facts w s size k)))
  behind-is = b ∙ ap (λ l. size_behind size k (length l)) values-are

  room-is : has_place w s.greatest behind (made_from facts first gap) ≡ room_of facts w s size k
  room-is i = has_place w s.greatest (behind-is i) (made_from facts (first-is i) (g i))

  pub making-past : AreFor facts w s.greatest behind gap first None → room_of facts w s size k ≡ false
  making-past h = sym room-is ∙ h

-- ---- where the structure is a list

pub list-prepared : (facts : ProgramFacts) (w : World) (s : Structure) (vs : List Value) (size k : ℕ) (p : Prepared) → s.members ≡ Items vs → size ≡ length vs → IsMaking facts w s size k p → ListIsPrepared facts w s k p
list-prepared facts w s vs size k Absent m z h = absurd h
list-prepared facts w s vs size k Passes m z h =
    subst (HasItems (λ us. IsMaking facts w s (length us) k Passes)) (sym m) (subst (λ i. IsMaking facts w s i k Passes) z h)
list-prepared facts w s vs size k (Makes making) m z h =
    subst (HasItems (λ us. IsMaking facts w s (length us) k (Makes making))) (sym m) (subst (λ i. IsMaking facts w s i k (Makes making)) z h)
