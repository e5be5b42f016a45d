-- A loop over a list that tests each member.
use Rattle.std.proofs.Common.{◌≡◌, ◌↔◌, ℕ, ◌+◌, ◌<◌, ◌≤◌, List, length, get_or, take, All, IsTrue, Bool, true, false, refl, sym, subst, ◌∙◌}
use Rattle.std.proofs.lemmas.Bool.{false≢true}
use Rattle.std.proofs.lemmas.List.{take_all}
use Rattle.std.proofs.lemmas.List.Elements.{All-more}

-- the member at i passes too
pub one_more : {X : Type 0} (P : X → Type 0) (xs : List X) (i : ℕ) (x : X) → i < length xs → x ≡ get_or xs i x → All P (take i xs) → P x → All P (take (i + 1) xs)
one_more P xs i x lt is all p = All-more P xs i x lt all (subst P is p)

-- the member at i fails
pub one_fails : {X : Type 0} (P : X → Type 0) (xs : List X) (i : ℕ) (x : X) (r : Bool) → i < length xs → x ≡ get_or xs i x → (P x → IsTrue r) → r ≡ false → IsTrue false ↔ All P xs
one_fails P xs i x r lt is passes fails = (
  λ h. absurd (false≢true h),
  λ all. absurd (false≢true (sym fails ∙ passes (subst P (sym is) (all i x lt)))),
)

-- all members passed
pub at_end : {X : Type 0} (P : X → Type 0) (xs : List X) (i : ℕ) → length xs ≤ i → All P (take i xs) → IsTrue true ↔ All P xs
at_end P xs i le all = (λ h. subst (All P) (take_all i xs le) all, λ h. refl)
