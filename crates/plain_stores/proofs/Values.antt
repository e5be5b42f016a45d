-- The values of fillers, one after another.
use Rattle.std.proofs.Common.{◌≡◌, ◌∙◌, ◌+◌, ◌<◌, ℕ, List, [], ◌∷◌, ◌++◌, get_or, length, take, sym, ap, arith}
use Rattle.std.proofs.lemmas.List.{length-append, take_more}
use Rattle.std.proofs.lemmas.List.Elements.{filter-append}
use Rattle.value_model.specs.declared.filler.Filler.{Filler}
use Rattle.value_model.specs.declared.filler.Filler.TheVariants.{Nothing, Nil as NilFiller, Bool as BoolFiller, Int as IntFiller, Str as StrFiller, List as NewList, Mapping as NewMapping}
use Rattle.value_model.specs.declared.value.Value.{Value}
use Rattle.value_model.specs.declared.value.Value.TheVariants.{Nil, Bool as Truth, Int, Str, Struct}
use Rattle.op_model.specs.Fillers.{filler_values, is_new, new_ones}

-- ---- how many new ones there are

new-append : (xs ys : List Filler) → length (new_ones (xs ++ ys)) ≡ length (new_ones xs) + length (new_ones ys)
new-append xs ys = ap length (filter-append is_new xs ys) ∙ length-append (new_ones xs) (new_ones ys)

pub new-more : (first : ℕ) (fs : List Filler) (i : ℕ) (f : Filler) (next after : ℕ) → i < length fs → f ≡ get_or fs i f → next ≡ first + length (new_ones (take i fs)) → after ≡ next + length (new_ones (f ∷ [])) → after ≡ first + length (new_ones (take (i + 1) fs))
new-more first fs i f next after l e n a =
    let all : length (new_ones (take (i + 1) fs)) ≡ length (new_ones (take i fs)) + length (new_ones (f ∷ [])) =
    ap (λ xs. length (new_ones xs)) (take_more fs i f l) ∙ (new-append (take i fs) (get_or fs i f ∷ []) ∙ ap (λ x. length (new_ones (take i fs)) + length (new_ones (x ∷ []))) (sym e)) in
    omega (arith, n, a, all)

-- ---- values

values-append : (n : ℕ) (xs ys : List Filler) → filler_values n (xs ++ ys) ≡ filler_values n xs ++ filler_values (n + length (new_ones xs)) ys
values-append n [] ys = let e : n ≡ n + 0 = omega arith in ap (λ k. filler_values k ys) e
values-append n (Nothing ∷ xs) ys = values-append n xs ys
values-append n (NilFiller ∷ xs) ys = ap (λ l. Nil ∷ l) (values-append n xs ys)
values-append n (BoolFiller b ∷ xs) ys = ap (λ l. Truth b ∷ l) (values-append n xs ys)
values-append n (IntFiller i ∷ xs) ys = ap (λ l. Int i ∷ l) (values-append n xs ys)
values-append n (StrFiller t ∷ xs) ys = ap (λ l. Str t ∷ l) (values-append n xs ys)
values-append n (NewList a ∷ xs) ys =
    let e : n + 1 + length (new_ones xs) ≡ n + length (NewList a ∷ new_ones xs) = omega arith in
    ap (λ l. Struct n ∷ l) (values-append (n + 1) xs ys ∙ ap (λ k. filler_values (n + 1) xs ++ filler_values k ys) e)
values-append n (NewMapping a ∷ xs) ys =
    let e : n + 1 + length (new_ones xs) ≡ n + length (NewMapping a ∷ new_ones xs) = omega arith in
    ap (λ l. Struct n ∷ l) (values-append (n + 1) xs ys ∙ ap (λ k. filler_values (n + 1) xs ++ filler_values k ys) e)

pub values-more : (first : ℕ) (fs : List Filler) (i : ℕ) (f : Filler) (next : ℕ) (old new : List Value) → i < length fs → f ≡ get_or fs i f → next ≡ first + length (new_ones (take i fs)) → old ≡ filler_values first (take i fs) → new ≡ old ++ filler_values next (f ∷ []) → new ≡ filler_values first (take (i + 1) fs)
values-more first fs i f next old new l e n o h =
    h
    ∙ ((λ j. o j ++ filler_values (n j) (e j ∷ []))
    ∙ (sym (values-append first (take i fs) (get_or fs i f ∷ [])) ∙ sym (ap (filler_values first) (take_more fs i f l))))
