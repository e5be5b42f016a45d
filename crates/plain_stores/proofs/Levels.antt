-- The structures that are made for fillers, level by level.
use Rattle.std.proofs.Common.{◌≡◌, ◌∙◌, ◌+◌, ◌-◌, ◌<◌, ◌≤◌, ℕ, zero, suc, true, cond, List, [], ◌∷◌, ◌++◌, Some, None, get_or, length, take, refl, sym, ap, arith}
use Rattle.std.specs.Prelude.{count_by, flat_map}
use Rattle.std.specs.List.{sum_by}
use Rattle.std.proofs.lemmas.Grind.{flat_map-append}
use Rattle.std.proofs.lemmas.List.{append_assoc, append-nil, length-append, take_more}
use Rattle.std.proofs.lemmas.List.Sums.{sum_by-append, sum_by-cons}
use Rattle.value_model.specs.declared.filler.Filler.{Filler}
use Rattle.value_model.specs.declared.filler.Filler.TheVariants.{Nothing, Nil as NilFiller, Bool as BoolFiller, Int as IntFiller, Str as StrFiller, List as NewList, Mapping as NewMapping}
use Rattle.value_model.specs.Heap.{Entries, Items, Structure}
use Rattle.op_model.specs.Fillers.{filler_structures, filler_values, new_ones}
use Rattle.op_model.specs.Levels.{all_of, levels}
use Rattle.op_model.specs.Rows.{new_structure}
use Rattle.op_model.specs.Limits.{most_cells}
use Rattle.plain_run.specs.declared.facts.ProgramFacts.{ProgramFacts}
use Rattle.plain_run.specs.Came.{IsLeft}
use Rattle.store_tests.specs.Fillers.{fixed_of}
use Rattle.plain_stores.specs.Changes.{filler_cells, kids}
use Rattle.store_tests.specs.Fillers.{is_there}

-- ---- levels, from the first one on

level-first : {A : Type 0} (kids_of : A → List A) (level : List A) (n : ℕ) → levels all_of kids_of level (suc n) ≡ level ++ levels all_of kids_of (flat_map kids_of level) n
level-first kids_of level zero = refl
level-first kids_of level (suc n) =
    ap (λ l. level ++ flat_map kids_of l) (level-first kids_of level n)
    ∙ ap (λ l. level ++ l) (flat_map-append kids_of level (levels all_of kids_of (flat_map kids_of level) n))

-- where nothing is first nothing is behind it
pub levels-none : {A : Type 0} (kids_of : A → List A) (n : ℕ) → levels all_of kids_of [] n ≡ []
levels-none kids_of zero = refl
levels-none kids_of (suc n) = ap (flat_map kids_of) (levels-none kids_of n)

pub levels-empty : {A : Type 0} (kids_of : A → List A) (roots : List A) (n : ℕ) → length roots < 1 → [] ≡ levels all_of kids_of roots n
levels-empty kids_of [] n l = sym (levels-none kids_of n)
levels-empty kids_of (x ∷ xs) n l = absurd (omega (arith, l))

-- what was made so far, and what is made from this level on
pub levels-more : {A : Type 0} (kids_of : A → List A) (made level : List A) (depth i : ℕ) → i < depth → made ++ levels all_of kids_of level (depth - i) ≡ (made ++ level) ++ levels all_of kids_of (flat_map kids_of level) (depth - (i + 1))
levels-more kids_of made level depth i l =
    let e : depth - i ≡ suc (depth - (i + 1)) = omega (arith, l) in
    ap (λ n. made ++ levels all_of kids_of level n) e
    ∙ (ap (λ l. made ++ l) (level-first kids_of level (depth - (i + 1))) ∙ sym (append_assoc made level (levels all_of kids_of (flat_map kids_of level) (depth - (i + 1)))))

pub levels-end : {A : Type 0} (kids_of : A → List A) (made level : List A) (depth i : ℕ) → depth ≤ i → made ++ levels all_of kids_of level (depth - i) ≡ made
levels-end kids_of made level depth i l =
    let e : depth - i ≡ 0 = omega (arith, l) in ap (λ n. made ++ levels all_of kids_of level n) e ∙ append-nil made

-- ---- the structures of one filler after another

module _ (facts : ProgramFacts) where
  abbrev made : ℕ → List Filler → List Structure
  made n fs = filler_structures (fixed_of facts) n fs

  structures-append : (n : ℕ) (xs ys : List Filler) → made n (xs ++ ys) ≡ made n xs ++ made (n + length (flat_map (kids facts) xs)) ys
  structures-append n [] ys = let e : n ≡ n + 0 = omega arith in ap (λ k. made k ys) e
  structures-append n (Nothing ∷ xs) ys = structures-append n xs ys
  structures-append n (NilFiller ∷ xs) ys = structures-append n xs ys
  structures-append n (BoolFiller b ∷ xs) ys = structures-append n xs ys
  structures-append n (IntFiller i ∷ xs) ys = structures-append n xs ys
  structures-append n (StrFiller t ∷ xs) ys = structures-append n xs ys
  structures-append n (NewList a ∷ xs) ys =
      let inside = new_ones (fixed_of facts a) in
      let both = length-append inside (flat_map (kids facts) xs) in
      let e : n + length inside + length (flat_map (kids facts) xs) ≡ n + length (inside ++ flat_map (kids facts) xs) = omega (arith, both) in
      ap (λ l. made n (NewList a ∷ []) ++ l) (structures-append (n + length inside) xs ys ∙ ap (λ k. made (n + length inside) xs ++ made k ys) e)
  structures-append n (NewMapping a ∷ xs) ys = ap (λ l. made n (NewMapping a ∷ []) ++ l) (structures-append n xs ys)

  pub kids-more : (first : ℕ) (fs : List Filler) (i : ℕ) (f : Filler) (next after : ℕ) → i < length fs → f ≡ get_or fs i f → next ≡ first + length (flat_map (kids facts) (take i fs)) → after ≡ next + length (kids facts f) → after ≡ first + length (flat_map (kids facts) (take (i + 1) fs))
  kids-more first fs i f next after l e n a =
      let all : flat_map (kids facts) (take (i + 1) fs) ≡ flat_map (kids facts) (take i fs) ++ kids facts f =
      ap (flat_map (kids facts)) (take_more fs i f l)
      ∙ (flat_map-append (kids facts) (take i fs) (get_or fs i f ∷ [])
      ∙ ap (λ l. flat_map (kids facts) (take i fs) ++ l) (append-nil (kids facts (get_or fs i f)) ∙ ap (kids facts) (sym e))) in
      let size : length (flat_map (kids facts) (take (i + 1) fs)) ≡ length (flat_map (kids facts) (take i fs)) + length (kids facts f) =
      ap length all ∙ length-append (flat_map (kids facts) (take i fs)) (kids facts f) in
      omega (arith, n, a, size)

  pub all-kids-more : (fs : List Filler) (i : ℕ) (f : Filler) (old new : List Filler) → i < length fs → f ≡ get_or fs i f → old ≡ flat_map (kids facts) (take i fs) → new ≡ old ++ kids facts f → new ≡ flat_map (kids facts) (take (i + 1) fs)
  all-kids-more fs i f old new l e o h =
      h
      ∙ ((λ j. o j ++ kids facts (e j))
      ∙ (ap (λ l. flat_map (kids facts) (take i fs) ++ l) (sym (append-nil (kids facts (get_or fs i f))))
      ∙ (sym (flat_map-append (kids facts) (take i fs) (get_or fs i f ∷ [])) ∙ sym (ap (flat_map (kids facts)) (take_more fs i f l)))))

  pub structures-more : (first : ℕ) (fs : List Filler) (i : ℕ) (f : Filler) (next : ℕ) (old new : List Structure) → i < length fs → f ≡ get_or fs i f → next ≡ first + length (flat_map (kids facts) (take i fs)) → old ≡ made first (take i fs) → new ≡ old ++ made next (f ∷ []) → new ≡ made first (take (i + 1) fs)
  structures-more first fs i f next old new l e n o h =
      h
      ∙ ((λ j. o j ++ made (n j) (e j ∷ []))
      ∙ (sym (structures-append first (take i fs) (get_or fs i f ∷ [])) ∙ sym (ap (made first) (take_more fs i f l))))

  -- ---- the cells that they take

  abbrev taken : Structure → ℕ
  taken s = s.greatest + 1

  pub length-values : (n : ℕ) (fs : List Filler) → length (filler_values n fs) ≡ count_by is_there fs
  length-values n [] = refl
  length-values n (Nothing ∷ fs) =
      let h = length-values n fs in let c = sum_by-cons (λ x. cond (is_there x) 1 0) Nothing fs in omega (arith, h, c)
  length-values n (NilFiller ∷ fs) =
      let h = length-values n fs in let c = sum_by-cons (λ x. cond (is_there x) 1 0) NilFiller fs in omega (arith, h, c)
  length-values n (BoolFiller b ∷ fs) =
      let h = length-values n fs in let c = sum_by-cons (λ x. cond (is_there x) 1 0) (BoolFiller b) fs in omega (arith, h, c)
  length-values n (IntFiller i ∷ fs) =
      let h = length-values n fs in let c = sum_by-cons (λ x. cond (is_there x) 1 0) (IntFiller i) fs in omega (arith, h, c)
  length-values n (StrFiller t ∷ fs) =
      let h = length-values n fs in let c = sum_by-cons (λ x. cond (is_there x) 1 0) (StrFiller t) fs in omega (arith, h, c)
  length-values n (NewList a ∷ fs) =
      let h = length-values (n + 1) fs in let c = sum_by-cons (λ x. cond (is_there x) 1 0) (NewList a) fs in omega (arith, h, c)
  length-values n (NewMapping a ∷ fs) =
      let h = length-values (n + 1) fs in let c = sum_by-cons (λ x. cond (is_there x) 1 0) (NewMapping a) fs in omega (arith, h, c)

  pub made-cells : (n : ℕ) (fs : List Filler) → sum_by taken (made n fs) ≡ sum_by (filler_cells facts) fs
  made-cells n [] = refl
  made-cells n (Nothing ∷ fs) = let h = made-cells n fs in let c = sum_by-cons (filler_cells facts) Nothing fs in omega (arith, h, c)
  made-cells n (NilFiller ∷ fs) = let h = made-cells n fs in let c = sum_by-cons (filler_cells facts) NilFiller fs in omega (arith, h, c)
  made-cells n (BoolFiller b ∷ fs) =
      let h = made-cells n fs in let c = sum_by-cons (filler_cells facts) (BoolFiller b) fs in omega (arith, h, c)
  made-cells n (IntFiller i ∷ fs) =
      let h = made-cells n fs in let c = sum_by-cons (filler_cells facts) (IntFiller i) fs in omega (arith, h, c)
  made-cells n (StrFiller t ∷ fs) =
      let h = made-cells n fs in let c = sum_by-cons (filler_cells facts) (StrFiller t) fs in omega (arith, h, c)
  made-cells n (NewList a ∷ fs) =
      let inside = new_ones (fixed_of facts a) in
      let h = made-cells (n + length inside) fs in
      let c = sum_by-cons (filler_cells facts) (NewList a) fs in
      let d = sum_by-cons taken (new_structure (Some a) true (Items (filler_values n (fixed_of facts a)))) (made (n + length inside) fs) in
      let v = length-values n (fixed_of facts a) in
      omega (arith, h, c, d, v)
  made-cells n (NewMapping a ∷ fs) =
      let h = made-cells n fs in
      let c = sum_by-cons (filler_cells facts) (NewMapping a) fs in
      let d = sum_by-cons taken (new_structure (Some a) true (Entries [])) (made n fs) in
      omega (arith, h, c, d)

-- ---- a loop over levels

module _ (facts : ProgramFacts) (made level all : List Filler) (depth i : ℕ) (l : i < depth) (h : made ++ levels all_of (kids facts) level (depth - i) ≡ all) where
  abbrev rest : List Filler
  rest = levels all_of (kids facts) (flat_map (kids facts) level) (depth - (i + 1))

  split : all ≡ (made ++ level) ++ rest
  split = sym h ∙ levels-more (kids facts) made level depth i l

  pub level-on : (made' level' : List Filler) → made' ≡ made ++ level → level' ≡ flat_map (kids facts) level → made' ++ levels all_of (kids facts) level' (depth - (i + 1)) ≡ all
  level-on made' level' m k = (λ j. m j ++ levels all_of (kids facts) (k j) (depth - (i + 1))) ∙ sym split

  -- this level does not fit any more
  pub level-past : IsLeft most_cells (sum_by (filler_cells facts) made + sum_by (filler_cells facts) level) None → IsLeft most_cells (sum_by (filler_cells facts) all) None
  level-past m =
      let whole : sum_by (filler_cells facts) all ≡ sum_by (filler_cells facts) (made ++ level) + sum_by (filler_cells facts) rest =
      ap (sum_by (filler_cells facts)) split ∙ sum_by-append (filler_cells facts) (made ++ level) rest in
      let front = sum_by-append (filler_cells facts) made level in
      omega (arith, m, whole, front)

  pub level-left : (made' : List Filler) (left : ℕ) → made' ≡ made ++ level → IsLeft most_cells (sum_by (filler_cells facts) made + sum_by (filler_cells facts) level) (Some left) → IsLeft most_cells (sum_by (filler_cells facts) made') (Some left)
  level-left made' left m h =
      let whole : sum_by (filler_cells facts) made' ≡ sum_by (filler_cells facts) (made ++ level) = ap (sum_by (filler_cells facts)) m in
      let front = sum_by-append (filler_cells facts) made level in
      omega (arith, h, whole, front)
