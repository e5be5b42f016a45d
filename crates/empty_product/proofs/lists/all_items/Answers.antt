use Rattle.std.proofs.Common.{◌≡◌, ℕ, zero, suc, ◌<◌, List, [], ◌∷◌, length, get_or, map, Some, None, subst, arith}
use Rattle.std.proofs.lemmas.Iterator.Adapters.{YieldsList-from_vec}
use Rattle.std.proofs.lemmas.Iterator.Consumers.{YieldsList-turn}
use Rattle.bal_base.specs.declared.shape.Shape.{Shape}
use Rattle.empty_product.proofs.lists.all_items.Goals as goal

not_none : (items : List Shape) (k : ℕ) → k < length (map Some items) → None ≡ get_or (map Some items) k None → ⊥
not_none [] k lt e = omega (arith, lt)
not_none (x ∷ items) zero lt e = cc
not_none (x ∷ items) (suc k) lt e = not_none items k (omega (arith, lt)) e

pub unreachable-requires : goal.unreachable-requires
unreachable-requires c =
    let y = c.loop-part.yielded in
    let t = YieldsList-turn (YieldsList-from_vec {s = c.into_iter-part-iterator.result} c.args.parts.items (cc) (cc)) y c.loop-part.part-iterator c.loop-part.yielded_by c.next.result c.next.new.self c.in-Some.part c.in-Some.is c.next.ensures.steps in
    let here = subst (λ xs. c.in-Some.part ≡ get_or xs (length y) c.in-Some.part) c.requires.1 t.1 in
    not_none c.requires.0 (length y) (subst (λ xs. length y < length xs) c.requires.1 t.0) (subst (λ o. o ≡ get_or (map Some c.requires.0) (length y) o) c.in-None-part.is here)
