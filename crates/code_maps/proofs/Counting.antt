-- Numbers of messages.
use Rattle.std.proofs.Common.{◌≡◌, ◌≤◌, ◌<◌, ◌+◌, ℕ, zero, suc, List, [], ◌∷◌, arith, get_or, length, refl, ap}
use Rattle.std.specs.Prelude.{slice_set}
use Rattle.stack_code.specs.Flow.{one_more}

-- past the end nothing is set
pub set-past : {X : Type 0} (xs : List X) (i : ℕ) (x : X) → length xs ≤ i → slice_set xs i x ≡ xs
set-past [] i x past = refl
set-past (y ∷ xs) zero x past = absurd (omega (arith, past))
set-past (y ∷ xs) (suc i) x past = ap (λ l. y ∷ l) (set-past xs i x (omega (arith, past)))

-- what is read at a place doesn't depend on what would be read past the end
read-same : (ns : List ℕ) (w m n : ℕ) → w < length ns → get_or ns w m ≡ get_or ns w n
read-same [] w m n lt = absurd (omega (arith, lt))
read-same (x ∷ ns) zero m n lt = refl
read-same (x ∷ ns) (suc w) m n lt = read-same ns w m n (omega (arith, lt))

-- the number that was read is one more
pub counted-here : (ns : List ℕ) (w n : ℕ) → w < length ns → n ≡ get_or ns w n → slice_set ns w (n + 1) ≡ one_more ns w
counted-here ns w n lt is = ap (slice_set ns w) (omega (arith, is, read-same ns w n 0 lt))

pub ruleset counting = (set-past)
