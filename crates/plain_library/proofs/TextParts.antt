-- A text has fewer code points than an int can count.
use Rattle.std.proofs.Common.{◌≡◌, ◌≤◌, ◌<◌, ◌^◌, ℕ, List, chars, length, subst, arith}
use Rattle.std.specs.Str.{IsUtf8}
use Rattle.bal_base.proofs.Lines.{chars-short}

pub few-points : (n m : ℕ) (t bytes : List ℕ) → n ≡ length t → IsUtf8 bytes → chars bytes ≡ t → m ≡ length bytes → m < 2 ^ 63 → n < 2 ^ 63
few-points n m t bytes count utf8 seen long few =
    let short : length t ≤ length bytes = subst (λ cs. length cs ≤ length bytes) seen (chars-short bytes utf8) in
    omega (arith, short, few, long, count)
