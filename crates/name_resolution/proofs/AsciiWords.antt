-- Words of ASCII.
use Rattle.std.proofs.Common.{◌≡◌, ℕ, zero, suc, ◌<◌, List, [], ◌∷◌, true, arith}
use Rattle.std.specs.Prelude.{slice_index}
use Rattle.std.specs.Char.{is_ascii}
use Rattle.std.specs.List.{list_all}
use Rattle.std.proofs.lemmas.Bool.{and_parts}
use Rattle.std.proofs.lemmas.Bool.Decides.{nat_tests}

one-ascii : (b : ℕ) → is_ascii b ≡ true → b < 128
one-ascii b h = grind (arith, nat_tests, h)

pub all-ascii : (bs : List ℕ) → list_all is_ascii bs ≡ true → (i : ℕ) → slice_index bs i < 128
all-ascii [] h i = omega arith
all-ascii (b ∷ bs) h zero = one-ascii b (and_parts (is_ascii b) (list_all is_ascii bs) h).0
all-ascii (b ∷ bs) h (suc i) = all-ascii bs (and_parts (is_ascii b) (list_all is_ascii bs) h).1 i
