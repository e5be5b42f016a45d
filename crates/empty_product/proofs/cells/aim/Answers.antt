use Rattle.std.proofs.Common.{◌<◌, ◌++◌, ◌∷◌, [], length, sym, subst}
use Rattle.std.specs.List.{AllZip}
use Rattle.std.proofs.lemmas.Iterator.Adapters.{YieldsList-from_vec}
use Rattle.std.proofs.lemmas.Iterator.Consumers.{YieldsList-turn}
use Rattle.empty_product.specs.Cells.{IsAimOf}
use Rattle.empty_product.proofs.Zipped.{AllZip-push}
use Rattle.empty_product.proofs.cells.aim.Goals as goal

pub aim_one-requires : goal.aim_one-requires
aim_one-requires c =
    let y = c.loop-atom.yielded in
    let us = c.args.atoms.items in
    let t = YieldsList-turn (YieldsList-from_vec {s = c.into_iter-atom-iterator.result} us (cc) (cc)) y c.loop-atom.atom-iterator c.loop-atom.yielded_by c.next.result c.next.new.self c.in-Some.atom c.in-Some.is c.next.ensures.steps in
    subst (λ u. c.args.target < length u.demands.items) (sym t.1) (c.requires (length y) c.in-Some.atom t.0)

pub loop-atom-preserved : goal.loop-atom-preserved
loop-atom-preserved c =
    let y = c.loop-atom.yielded in
    let u = c.in-Some.atom in
    subst (AllZip (IsAimOf c.args.target) (y ++ u ∷ [])) (sym c.in_ok-push.ensures.items)
    (AllZip-push (IsAimOf c.args.target) y c.loop-atom.aimed.items u c.aim_one.result c.loop-atom.invariant c.aim_one.ensures)
