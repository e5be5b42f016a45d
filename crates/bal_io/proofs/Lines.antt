-- Where the first line of some bytes ends.
use Rattle.std.proofs.Common.{◌≡◌, ◌+◌, ◌≤◌, ◌<◌, ℕ, Bool, true, false, List, [], ◌∷◌, length, take, min, zero, suc, cond, not, refl, arith, position, ltb, Some, None, ap, sym}
use Rattle.std.specs.List.{prefix_len, position_or_len, before_first}
use Rattle.std.proofs.lemmas.List.Sums.{prefix_len-le-length}
use Rattle.std.proofs.lemmas.List.{length-take, take_all}
use Rattle.std.proofs.lemmas.Bool.{ltb-true, ltb-false}
use Rattle.bal_io.specs.Content.{is_line_feed}
use Rattle.bal_io.specs.Fronts.{IsLineFront}
use Rattle.bal_io.specs.declared.fronts.Extent.TheVariants.{LineFeed, Full, AllTaken}

-- how many bytes stand before the first line feed
abbrev pub before_feed : List ℕ → ℕ
before_feed bytes = position_or_len is_line_feed bytes

prefix_len-take : {X : Type 0} (p : X → Bool) (n : ℕ) (xs : List X) → prefix_len p (take n xs) ≡ min n (prefix_len p xs)
prefix_len-take p zero xs = omega arith
prefix_len-take p (suc n) [] = omega arith
prefix_len-take p (suc n) (x ∷ xs) =
    let more = prefix_len-take p n xs in
    elim (p x) as (λ b. cond b (1 + prefix_len p (take n xs)) 0 ≡ min (suc n) (cond b (1 + prefix_len p xs) 0)) [
      | true ↦ omega (arith, more)
      | false ↦ omega arith
    ]

pub position_or_len-take : {X : Type 0} (p : X → Bool) (n : ℕ) (xs : List X) → position_or_len p (take n xs) ≡ min n (position_or_len p xs)
position_or_len-take p n xs = prefix_len-take (λ x. not (p x)) n xs

pub position_or_len-le-length : {X : Type 0} (p : X → Bool) (xs : List X) → position_or_len p xs ≤ length xs
position_or_len-le-length p xs = prefix_len-le-length (λ x. not (p x)) xs

pub length-before_first : {X : Type 0} (p : X → Bool) (xs : List X) → length (before_first p xs) ≡ position_or_len p xs
length-before_first p xs =
    let within = position_or_len-le-length p xs in
    let taken = length-take (position_or_len p xs) xs in
    omega arith

found : (b : Bool) (a i : ℕ) → cond b (Some a) None ≡ Some i → (b ≡ true) × (a ≡ i)
found true a i h = (refl, cc)
found false a i h = cc

not_found : (b : Bool) (a : ℕ) → cond b (Some a) None ≡ None → b ≡ false
not_found true a h = cc
not_found false a h = refl

pub position_some : {X : Type 0} (p : X → Bool) (xs : List X) (i : ℕ) → position p xs ≡ Some i → (position_or_len p xs ≡ i) × (i < length xs)
position_some p xs i h =
    let at = found (ltb (position_or_len p xs) (length xs)) (position_or_len p xs) i h in
    let within = ltb-true (position_or_len p xs) (length xs) at.0 in
    (at.1, omega arith)

pub position_none : {X : Type 0} (p : X → Bool) (xs : List X) → position p xs ≡ None → length xs ≤ position_or_len p xs
position_none p xs h =
    ltb-false (position_or_len p xs) (length xs) (not_found (ltb (position_or_len p xs) (length xs)) (position_or_len p xs) h)

pub IsLineFront-line_feed : (bytes : List ℕ) (max at : ℕ) → position is_line_feed (take (max + 1) bytes) ≡ Some at → IsLineFront max (take at bytes) LineFeed bytes
IsLineFront-line_feed bytes max at h =
    let here = position_some is_line_feed (take (max + 1) bytes) at h in
    let whole = position_or_len-take is_line_feed (max + 1) bytes in
    let size = length-take (max + 1) bytes in
    let first = length-take at bytes in
    let same : position_or_len is_line_feed bytes ≡ at = omega (arith, here.0, here.1) in
    (ap (λ n. take n bytes) (sym same), omega (arith, here.1), omega (arith, here.1))

pub IsLineFront-full : (bytes : List ℕ) (max : ℕ) → position is_line_feed (take (max + 1) bytes) ≡ None → max < length (take (max + 1) bytes) → IsLineFront max (take max bytes) Full bytes
IsLineFront-full bytes max h long =
    let none = position_none is_line_feed (take (max + 1) bytes) h in
    let whole = position_or_len-take is_line_feed (max + 1) bytes in
    let size = length-take (max + 1) bytes in
    let first = length-before_first is_line_feed bytes in
    (refl, omega arith)

pub IsLineFront-all : (bytes : List ℕ) (max : ℕ) → position is_line_feed (take (max + 1) bytes) ≡ None → length (take (max + 1) bytes) ≤ max → IsLineFront max bytes AllTaken bytes
IsLineFront-all bytes max h short =
    let none = position_none is_line_feed (take (max + 1) bytes) h in
    let whole = position_or_len-take is_line_feed (max + 1) bytes in
    let size = length-take (max + 1) bytes in
    let bound : length bytes ≤ position_or_len is_line_feed bytes = omega arith in
    (refl, take_all (position_or_len is_line_feed bytes) bytes bound, omega arith)
