-- What is numbered level by level has no twins.
use Rattle.std.proofs.Common.{◌≡◌, ℕ, zero, suc, Bool, true, false, List, [], ◌∷◌, ◌++◌, sym, subst, ap, ◌∙◌, arith}
use Rattle.std.specs.Prelude.{◌≢◌, ◌==◌, All, AllPairs, filter, flat_map, not}
use Rattle.std.proofs.lemmas.Bool.{eq-eqb, false≢true}
use Rattle.std.proofs.lemmas.List.Elements.{All-weaker, filter_passes}
use Rattle.std.proofs.lemmas.List.Kept.{AllPairs-cons, AllPairs-filter}
use Rattle.op_model.specs.Levels.{distinct, levels}
use Rattle.op_model.specs.Laws.{LevelsHaveNoTwins}

apart : (x y : ℕ) → not (y == x) ≡ true → x ≢ y
apart x y h e = false≢true (ap not (sym (eq-eqb y x (sym e))) ∙ h)

none : AllPairs {X = ℕ} (λ x y. x ≢ y) []
none i j d lt within = absurd (omega arith)

distinct-twins : (xs : List ℕ) → AllPairs (λ x y. x ≢ y) (distinct xs)
distinct-twins [] = none
distinct-twins (x ∷ xs) =
    AllPairs-cons (λ a b. a ≢ b) x (filter (λ y. not (y == x)) (distinct xs)) (All-weaker (λ y. not (y == x) ≡ true) (λ y. x ≢ y) (apart x) (filter (λ y. not (y == x)) (distinct xs)) (filter_passes (λ y. not (y == x)) (distinct xs))) (AllPairs-filter (λ a b. a ≢ b) (λ y. not (y == x)) (distinct xs) (distinct-twins xs))

pub levels-twins : LevelsHaveNoTwins
levels-twins kids roots zero = none
levels-twins kids roots (suc n) = distinct-twins (roots ++ flat_map kids (levels distinct kids roots n))
