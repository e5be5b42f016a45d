-- The order of literals tells them apart.
use Rattle.std.proofs.Common.{◌≡◌, ◌⊎◌, ⊎_elim, inl, inr, ℕ, ◌<◌, ◌+◌, ◌==◌, Bool, true, false, if◌then◌else◌, refl, sym, ◌∙◌, arith}
use Rattle.std.proofs.lemmas.Bool.{eqb-true, cases_order}
use Rattle.type_diagrams.specs.Kinds.{the_mark}
use Rattle.type_diagrams.specs.Trees.{rank}

rank-by : (m n : ℕ) (x y : Bool) → m == the_mark ≡ x → n == the_mark ≡ y → (if x then 0 else m + 1) ≡ (if y then 0 else n + 1) → m ≡ n
rank-by m n true true p q e = eqb-true m the_mark p ∙ sym (eqb-true n the_mark q)
rank-by m n true false p q e = absurd (omega (arith, e))
rank-by m n false true p q e = absurd (omega (arith, e))
rank-by m n false false p q e = omega (arith, e)

pub rank-injective : (m n : ℕ) → rank m ≡ rank n → m ≡ n
rank-injective m n e = rank-by m n (m == the_mark) (n == the_mark) refl refl e

-- two literals are one, or one comes first
pub by_rank : (m n : ℕ) → (m ≡ n) ⊎ ((rank m < rank n) ⊎ (rank n < rank m))
by_rank m n =
    ⊎_elim (λ (e : rank m ≡ rank n). inl (rank-injective m n e)) (λ (o : (rank m < rank n) ⊎ (rank n < rank m)). inr o) (cases_order (rank m) (rank n))
