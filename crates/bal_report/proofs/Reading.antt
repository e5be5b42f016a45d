-- Members that a loop reads and adds one after another.
use Rattle.std.proofs.Common.{◌≡◌, ℕ, zero, suc, ◌+◌, ◌<◌, List, [], ◌∷◌, codes, get_or, length, refl, take, arith}
use Rattle.std.proofs.Math.Dec.{ltb}
use Rattle.bal_report.specs.RefusalText.{on_the_way}
use Rattle.text_forms.specs.Forms.{Adds, text_if}
use Rattle.text_forms.proofs.Adding.{adds-joined_more}

same-read : {A : Type 0} (xs : List A) (i : ℕ) (d e : A) → i < length xs → get_or xs i d ≡ get_or xs i e
same-read [] i d e lt = absurd (omega (arith, lt))
same-read (x ∷ xs) zero d e lt = refl
same-read (x ∷ xs) (suc i) d e lt = same-read xs i d e (omega (arith, lt))

pub adds-read_more : {A : Type 0} (f : A → List ℕ) (xs : List A) (i : ℕ) (d : A) (a b c e : List ℕ) → i < length xs → Adds a (on_the_way f (take i xs)) b → Adds b (text_if (ltb 0 i) (codes " -> ")) c → Adds c (f (get_or xs i d)) e
    → Adds a (on_the_way f (take (i + 1) xs)) e
adds-read_more f xs i d a b c e lt before sign here =
    let x = get_or xs i d in
    adds-joined_more f (codes " -> ") xs i x a b c e lt (same-read xs i d x lt) before sign here
