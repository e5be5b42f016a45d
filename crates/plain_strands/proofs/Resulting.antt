-- The mapping of a multiple wait, and the errors that stand for what is missing.
use Rattle.std.proofs.Common.{◌≡◌, ◌∙◌, ◌+◌, ◌-◌, ◌≤◌, drop, get_or, take, ℕ, zero, suc, true, false, nat_le, List, [], ◌∷◌, ◌++◌, Option, Some, None, length, map, refl, sym, ap, arith}
use Rattle.std.specs.List.{sum_by}
use Rattle.std.proofs.Math.Numerals.{add-one}
use Rattle.std.proofs.lemmas.List.{append-nil, append_assoc, length-append, length-map, map-append, take_all}
use Rattle.std.proofs.lemmas.List.Sums.{sum_by-append}
use Rattle.bal_base.specs.declared.text.Text.{Text}
use Rattle.value_model.specs.declared.value.Value.{Value}
use Rattle.value_model.specs.declared.value.Value.TheVariants.{Struct}
use Rattle.value_model.specs.PanicName.{future_taken}
use Rattle.value_model.specs.Heap.{Entries, ErrorObject, Structure as ModelStructure, cells}
use Rattle.value_model.specs.World.{World, Gave, PassesCells}
use Rattle.op_model.specs.Levels.{numbers_from}
use Rattle.op_model.specs.Limits.{most_cells}
use Rattle.op_model.specs.Rows.{makes, new_structure, next_error, next_structure, with_heap}
use Rattle.op_model.specs.Waits.{missing, with_results}
use Rattle.plain_run.specs.declared.held.Structure.{Structure}
use Rattle.plain_run.specs.Held.{structure_of}
use Rattle.plain_run.proofs.Made.{gave-past, gave-there}
use Rattle.plain_strands.specs.Results.{detail_of, details, error_from, errors_from, mapping_given, mapping_of, one_missing}
use Rattle.plain_run.proofs.Lists.{append-one}
use Rattle.plain_copies.proofs.Sums.{sum-held}

-- ---- so many numbers

numbers-more : (k n : ℕ) → numbers_from k (n + 1) ≡ k ∷ numbers_from (k + 1) n
numbers-more k n = ap (numbers_from k) (add-one n)

length-numbers : (k n : ℕ) → length (numbers_from k n) ≡ n
length-numbers k zero = refl
length-numbers k (suc n) = ap suc (length-numbers (k + 1) n)

all-one : {A : Type 0} (x : A) (j k n : ℕ) → map (λ m. x) (numbers_from j n) ≡ map (λ m. x) (numbers_from k n)
all-one x j k zero = refl
all-one x j k (suc n) = ap (λ xs. x ∷ xs) (all-one x (j + 1) (k + 1) n)

-- ---- what is made for what is missing

pub details-more : (vs : List (Option Value)) → details (None ∷ vs) ≡ new_structure None false (Entries []) ∷ details vs
details-more vs =
    ap (map (λ n. new_structure None false (Entries []))) (numbers-more 0 (missing vs))
    ∙ ap (λ xs. new_structure None false (Entries []) ∷ xs) (all-one (new_structure None false (Entries [])) (0 + 1) 0 (missing vs))

pub errors-more : (first : ℕ) (vs : List (Option Value)) → errors_from first (None ∷ vs) ≡ (let e : ErrorObject = record { message = future_taken; cause = None; detail = first } in e) ∷ errors_from (first + 1) vs
errors-more first vs =
    ap (map (λ n. let e : ErrorObject = record { message = future_taken; cause = None; detail = n } in e)) (numbers-more first (missing vs))

pub missing-by : (v : Option Value) (vs : List (Option Value)) → missing (v ∷ vs) ≡ one_missing v + missing vs
missing-by (Some v) vs = omega arith
missing-by None vs = omega arith

pub details-by : (v : Option Value) (vs : List (Option Value)) → details (v ∷ vs) ≡ detail_of v ++ details vs
details-by (Some v) vs = refl
details-by None vs = details-more vs

pub details-step : (vs : List (Option Value)) (v : Option Value) (old mid new : List ModelStructure) → 1 ≤ length vs → v ≡ get_or vs 0 v → mid ≡ old ++ detail_of v → new ≡ mid ++ details (take (length vs - 1) (drop 1 vs)) → new ≡ old ++ details vs
details-step [] v old mid new l ev e h = absurd (omega arith)
details-step (x ∷ xs) v old mid new l ev e h =
    let rest : take (suc (length xs) - 1) xs ≡ xs = take_all (suc (length xs) - 1) xs (omega arith) in
    h
    ∙ ((λ i. e i ++ details (rest i))
    ∙ (append_assoc old (detail_of v) (details xs)
    ∙ ((λ i. old ++ (detail_of (ev i) ++ details xs)) ∙ ap (λ ys. old ++ ys) (sym (details-by x xs)))))

pub errors-by : (first : ℕ) (v : Option Value) (vs : List (Option Value)) → errors_from first (v ∷ vs) ≡ error_from first v ++ errors_from (first + one_missing v) vs
errors-by first (Some v) vs = ap (λ n. errors_from n vs) (let same : first ≡ first + 0 = omega arith in same)
errors-by first None vs = errors-more first vs

-- ---- how many cells they take

module _ (w : World) (atom : ℕ) (names : List Text) (vs : List (Option Value)) where
  abbrev mapping : ModelStructure
  mapping = mapping_of atom (next_error w) names vs

  pub results-cells : (made : List Structure) → map structure_of made ≡ mapping ∷ details vs → cells (with_results w atom names vs).heap ≡ cells w.heap + (sum_by (λ s. s.greatest + 1) made + missing vs)
  results-cells made e =
      let first = next_structure w + 1 in
      let all = sum_by-append (λ s. s.greatest + 1) w.heap.structures (mapping ∷ details vs) in
      let same : sum_by (λ s. s.greatest + 1) (mapping ∷ details vs) ≡ sum_by (λ s. s.greatest + 1) made = ap (sum_by (λ s. s.greatest + 1)) (sym e) ∙ sum-held made in
      let errors = length-append w.heap.errors (errors_from first vs) in
      let count : length (errors_from first vs) ≡ missing vs = length-map (numbers_from first (missing vs)) (λ n. let x : ErrorObject = record { message = future_taken; cause = None; detail = n } in x) ∙ length-numbers first (missing vs) in
      omega (arith, all, same, errors, count)

  pub results-there : (made : List Structure) (number : ℕ) (es : List ErrorObject) (new : World) → map structure_of made ≡ mapping ∷ details vs → true ≡ nat_le (cells w.heap + (sum_by (λ s. s.greatest + 1) made + missing vs)) most_cells → number ≡ next_structure w → es ≡ w.heap.errors ++ errors_from (next_structure w + 1) vs → new ≡ makes (with_heap w (record { structures = w.heap.structures; errors = es; functions = w.heap.functions })) (map structure_of made) → Gave (Struct number ∷ []) new ≡ mapping_given w atom names vs
  results-there made number es new e room n er h =
      (λ i. Gave (Struct (n i) ∷ []) (h i))
      ∙ ((λ i. Gave (Struct (next_structure w) ∷ []) (makes (with_heap w (record { structures = w.heap.structures; errors = er i; functions = w.heap.functions })) (e i)))
      ∙ gave-there (Struct (next_structure w)) (with_results w atom names vs) (cells w.heap + (sum_by (λ s. s.greatest + 1) made + missing vs)) room (results-cells made e))

  pub results-past : (made : List Structure) → map structure_of made ≡ mapping ∷ details vs → false ≡ nat_le (cells w.heap + (sum_by (λ s. s.greatest + 1) made + missing vs)) most_cells → PassesCells ≡ mapping_given w atom names vs
  results-past made e room =
      gave-past (Struct (next_structure w)) (with_results w atom names vs) (cells w.heap + (sum_by (λ s. s.greatest + 1) made + missing vs)) room (results-cells made e)

pub ruleset resulting = (append-nil, append-one, append_assoc, details-by, errors-by, map-append, missing-by)
