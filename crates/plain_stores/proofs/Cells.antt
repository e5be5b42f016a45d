-- The room that a store takes.
use Rattle.std.proofs.Common.{◌≡◌, ◌+◌, ◌-◌, ℕ, zero, suc, List, [], ◌∷◌, Some, ap, arith}
use Rattle.std.specs.Prelude.{max, slice_get, slice_set}
use Rattle.std.specs.List.{sum_by}
use Rattle.std.proofs.lemmas.List.Sums.{sum_by-append, sum_by-cons}
use Rattle.std.proofs.lemmas.Option.{none-some, same_Some}
use Rattle.value_model.specs.Heap.{Members, Structure, cells}
use Rattle.value_model.specs.World.{World}
use Rattle.op_model.specs.Rows.{size_of}
use Rattle.op_model.specs.Stores.{stored, with_members}

abbrev taken : Structure → ℕ
taken s = s.greatest + 1

sum-set : (f : Structure → ℕ) (xs : List Structure) (n : ℕ) (x y : Structure) → slice_get xs n ≡ Some x → sum_by f (slice_set xs n y) + f x ≡ sum_by f xs + f y
sum-set f [] n x y e = absurd (none-some x e)
sum-set f (z ∷ xs) zero x y e =
    let same : z ≡ x = same_Some z x e in
    let c = sum_by-cons f y xs in
    let d = sum_by-cons f z xs in
    let g : f z ≡ f x = ap f same in
    omega (arith, c, d, g)
sum-set f (z ∷ xs) (suc n) x y e =
    let h = sum-set f xs n x y e in
    let c = sum_by-cons f z (slice_set xs n y) in
    let d = sum_by-cons f z xs in
    omega (arith, h, c, d)

grows : (old size : ℕ) → max old size ≡ old + (size - old)
grows old size = omega arith

pub stored-cells : (w : World) (n : ℕ) (s : Structure) (m : Members) (more : List Structure) → slice_get w.heap.structures n ≡ Some s → cells (stored w n s m more).heap ≡ cells w.heap + ((size_of m - s.greatest) + sum_by taken more)
stored-cells w n s m more e =
    let ss = w.heap.structures in
    let all = sum_by-append taken (slice_set ss n (with_members s m)) more in
    let one = sum-set taken ss n s (with_members s m) e in
    let grown = grows s.greatest (size_of m) in
    omega (arith, all, one, grown)
