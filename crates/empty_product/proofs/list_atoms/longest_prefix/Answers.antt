use Rattle.std.proofs.Common.{◌↔◌, ◌⊎◌, ⊎_elim, inl, inr, ◌<◌, length, Any, take, get_or, subst, sym, arith}
use Rattle.std.proofs.lemmas.List.{take_all}
use Rattle.type_diagrams.specs.Members.{Fixes}
use Rattle.empty_product.proofs.AtomLists.{below_ord_max, Any-more}
use Rattle.empty_product.proofs.ListAtoms.{fixes-parts}
use Rattle.empty_product.proofs.list_atoms.longest_prefix.Goals as goal

pub loop-atom-preserved : goal.loop-atom-preserved
loop-atom-preserved c = λ place.
    let i = c.loop-atom.atom-index in
    let P = Fixes c.args.defs.now place in
    let lt : i < length c.args.atoms.now = omega arith in
    let some = Any-more P c.args.atoms.now i 0 lt in
    let own = fixes-parts _ _ _ c.list_parts.ensures place in
    let here = c.loop-atom.invariant place in
    let m : (place < c.max-longest.result) ↔ ((place < c.loop-atom.longest) ⊎ (place < length c.list_parts.result.fixed.now)) = subst (λ r. (place < r) ↔ ((place < c.loop-atom.longest) ⊎ (place < length c.list_parts.result.fixed.now))) (sym c.max-longest.ensures) (below_ord_max c.loop-atom.longest (length c.list_parts.result.fixed.now) place) in (
      λ h. some.1 (⊎_elim (λ (a : place < c.loop-atom.longest). inl (here.0 a)) (λ (b : place < length c.list_parts.result.fixed.now). inr (own.1 b)) (m.0 h)),
      λ h. m.1 (⊎_elim (λ (a : Any P (take i c.args.atoms.now)). inl (here.1 a)) (λ (b : P (get_or c.args.atoms.now i 0)). inr (own.0 b)) (some.0 h)),
    )

pub returns : goal.returns
returns c = λ place.
    subst (λ xs. (place < c.loop-atom.longest) ↔ Any (Fixes c.args.defs.now place) xs) (take_all c.loop-atom.atom-index c.args.atoms.now (omega arith)) (c.loop-atom.invariant place)
