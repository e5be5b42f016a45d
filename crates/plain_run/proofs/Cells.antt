-- The cells of what is held.
use Rattle.std.proofs.Common.{◌≡◌, ◌+◌, ◌<◌, ◌≤◌, ℕ, Bool, true, false, nat_le, List, [], ◌∷◌, ◌++◌, length, map, refl, sym, ap, ◌∙◌, arith}
use Rattle.std.specs.List.{sum_by}
use Rattle.std.proofs.lemmas.Bool.{leb-true}
use Rattle.std.proofs.lemmas.List.{length-map, length-append}
use Rattle.std.proofs.lemmas.List.Sums.{sum_by-cons, sum_by_push}
use Rattle.value_model.specs.Heap.{cells, Heap as ModelHeap, Structure as ModelStructure, ErrorObject as ModelError, FunctionObject as ModelFunction}
use Rattle.op_model.specs.Limits.{most_cells}
use Rattle.plain_run.specs.declared.held.Heap.{Heap}
use Rattle.plain_run.specs.Held.{heap_of, error_of, function_of, structure_of}

sum-of-map : {X Y : Type 0} (f : Y → ℕ) (g : X → Y) (xs : List X) → sum_by f (map g xs) ≡ sum_by (λ x. f (g x)) xs
sum-of-map f g [] = refl
sum-of-map f g (x ∷ xs) =
    sum_by-cons f (g x) (map g xs) ∙ (ap (λ n. f (g x) + n) (sum-of-map f g xs) ∙ sym (sum_by-cons (λ y. f (g y)) x xs))

pub map-push : {X Y : Type 0} (f : X → Y) (xs : List X) (x : X) → map f (xs ++ x ∷ []) ≡ map f xs ++ f x ∷ []
map-push f [] x = refl
map-push f (y ∷ xs) x = ap (λ l. f y ∷ l) (map-push f xs x)

cells-held : (h : Heap) → cells (heap_of h) ≡ sum_by (λ s. s.greatest + 1) h.structures + length h.errors.items + sum_by (λ f. length f.captured.items + 1) h.functions
cells-held h =
    λ i. sum-of-map (λ s. s.greatest + 1) structure_of h.structures i + length-map h.errors.items error_of i + sum-of-map (λ f. length f.captured + 1) function_of h.functions i

pub room-held : (h : Heap) (structures functions errors more : ℕ) (result : Bool) → structures ≡ sum_by (λ s. s.greatest + 1) h.structures → functions ≡ sum_by (λ f. length f.captured.items + 1) h.functions → errors ≡ length h.errors.items → result ≡ nat_le (0 + structures + functions + errors + more) most_cells → result ≡ nat_le (cells (heap_of h) + more) most_cells
room-held h structures functions errors more result s f e h' =
    let same : 0 + structures + functions + errors + more ≡ cells (heap_of h) + more = (let all = cells-held h in omega (arith, all, s, f, e)) in
    h' ∙ ap (λ n. nat_le n most_cells) same

-- ---- how many there are

length-sum : {X : Type 0} (f : X → ℕ) (xs : List X) → length xs ≤ sum_by (λ x. f x + 1) xs
length-sum f [] = omega arith
length-sum f (x ∷ xs) = let more = length-sum f xs in let all = sum_by-cons (λ y. f y + 1) x xs in omega (arith, more, all)

pub few-structures : (h : ModelHeap) (more : ℕ) → true ≡ nat_le (cells h + more) most_cells → length h.structures ≤ most_cells
few-structures h more e =
    let l = length-sum (λ s. s.greatest) h.structures in let all = leb-true (cells h + more) most_cells (sym e) in omega (arith, l, all)

pub few-functions : (h : ModelHeap) (more : ℕ) → true ≡ nat_le (cells h + more) most_cells → length h.functions ≤ most_cells
few-functions h more e =
    let l = length-sum (λ f. length f.captured) h.functions in let all = leb-true (cells h + more) most_cells (sym e) in omega (arith, l, all)

pub few-errors : (h : ModelHeap) (more : ℕ) → true ≡ nat_le (cells h + more) most_cells → length h.errors ≤ most_cells
few-errors h more e = let all = leb-true (cells h + more) most_cells (sym e) in omega (arith, all)

-- more members than a heap may have cells
pub too_many : (held members beside : ℕ) → most_cells < members → false ≡ nat_le (held + (members + beside)) most_cells
too_many held members beside l = by (nat_le (held + (members + beside)) most_cells) refl
  where
    by : (b : Bool) → nat_le (held + (members + beside)) most_cells ≡ b → false ≡ nat_le (held + (members + beside)) most_cells
    by true e = let all = leb-true (held + (members + beside)) most_cells e in absurd (omega (arith, all, l))
    by false e = sym e

-- ---- what is made

pub structure-cells : (h : ModelHeap) (s : ModelStructure) → cells (record { structures = h.structures ++ s ∷ []; errors = h.errors; functions = h.functions }) ≡ cells h + (s.greatest + 1)
structure-cells h s = let one = sum_by_push (λ x. x.greatest + 1) h.structures s in omega (arith, one)

pub function-cells : (h : ModelHeap) (f : ModelFunction) → cells (record { structures = h.structures; errors = h.errors; functions = h.functions ++ f ∷ [] }) ≡ cells h + (length f.captured + 1)
function-cells h f = let one = sum_by_push (λ x. length x.captured + 1) h.functions f in omega (arith, one)

pub error-cells : (h : ModelHeap) (s : ModelStructure) (e : ModelError) → cells (record { structures = h.structures ++ s ∷ []; errors = h.errors ++ e ∷ []; functions = h.functions }) ≡ cells h + (s.greatest + 2)
error-cells h s e = let one = sum_by_push (λ x. x.greatest + 1) h.structures s in let two = length-append h.errors (e ∷ []) in omega (arith, one, two)
