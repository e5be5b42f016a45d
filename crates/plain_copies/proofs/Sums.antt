-- The cells of several structures.
use Rattle.std.proofs.Common.{◌≡◌, ◌∙◌, ◌+◌, ◌<◌, ◌≤◌, ℕ, List, [], ◌∷◌, ◌++◌, take, Option, get_or, length, map, refl, sym, ap, subst, arith}
use Rattle.std.specs.List.{sum_by}
use Rattle.std.proofs.lemmas.List.{map-append, take_all, take_more}
use Rattle.std.proofs.lemmas.List.Sums.{sum_by-append, sum_by-cons}
use Rattle.value_model.specs.Heap.{Heap, Structure as ModelStructure, cells}
use Rattle.plain_run.specs.declared.held.Structure.{Structure}
use Rattle.plain_run.specs.Held.{structure_of}
use Rattle.plain_copies.specs.Copied.{IsSum}

pub sum-held : (ss : List Structure) → sum_by (λ s. s.greatest + 1) (map structure_of ss) ≡ sum_by (λ s. s.greatest + 1) ss
sum-held [] = refl
sum-held (s ∷ ss) =
    let here = sum_by-cons (λ x. x.greatest + 1) s ss in
    let there = sum_by-cons (λ x. x.greatest + 1) (structure_of s) (map structure_of ss) in
    let more = sum-held ss in
    omega (arith, here, there, more)

-- one structure more behind the first ones
pub cells-step : (ss : List Structure) (i : ℕ) (s : Structure) (o : Option ℕ) → i < length ss → s ≡ get_or ss i s → IsSum (s.greatest + 1 + sum_by (λ x. x.greatest + 1) (take i ss)) o → IsSum (sum_by (λ x. x.greatest + 1) (take (i + 1) ss)) o
cells-step ss i s o l e h = subst (λ n. IsSum n o) sum h
  where
    sum : s.greatest + 1 + sum_by (λ x. x.greatest + 1) (take i ss) ≡ sum_by (λ x. x.greatest + 1) (take (i + 1) ss)
    sum =
        let next : take (i + 1) ss ≡ take i ss ++ s ∷ [] = take_more ss i s l ∙ ap (λ x. take i ss ++ x ∷ []) (sym e) in
        let all = sum_by-append (λ x. x.greatest + 1) (take i ss) (s ∷ []) in
        let same = ap (sum_by (λ x. x.greatest + 1)) next in
        omega (arith, all, same, sum_by-cons (λ x. x.greatest + 1) s [])

pub cells-all : (ss : List Structure) (i : ℕ) (o : Option ℕ) → length ss ≤ i → IsSum (sum_by (λ x. x.greatest + 1) (take i ss)) o → IsSum (sum_by (λ x. x.greatest + 1) ss) o
cells-all ss i o l h = subst (λ xs. IsSum (sum_by (λ x. x.greatest + 1) xs) o) (take_all i ss l) h

pub copies-cells : (h : Heap) (ss : List ModelStructure) → cells (record { structures = h.structures ++ ss; errors = h.errors; functions = h.functions }) ≡ cells h + sum_by (λ s. s.greatest + 1) ss
copies-cells h ss = let all = sum_by-append (λ s. s.greatest + 1) h.structures ss in omega (arith, all)

pub ruleset sums = (map-append)
