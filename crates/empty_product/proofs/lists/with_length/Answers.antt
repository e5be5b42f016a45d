use Rattle.std.proofs.Common.{◌+◌, take, sym, ◌∙◌, subst, arith}
use Rattle.std.proofs.lemmas.Bool.{false≢true}
use Rattle.std.proofs.lemmas.List.{take_all}
use Rattle.type_diagrams.specs.Members.{AllowsLength}
use Rattle.empty_product.specs.Lists.{AreThose}
use Rattle.empty_product.proofs.AtomLists.{AreThose-not, AreThose-more}
use Rattle.empty_product.proofs.lists.with_length.Goals as goal

pub loop-atom-preserved-then-not-allows_length : goal.loop-atom-preserved-then-not-allows_length
loop-atom-preserved-then-not-allows_length c =
    AreThose-not (AllowsLength c.args.defs.now c.args.length) c.args.atoms.now c.loop-atom.atom-index (omega arith) c.loop-atom.found.items c.loop-atom.invariant
    (λ h. false≢true (sym c.if-not-allows_length.true ∙ c.allows_length.ensures.1 h))

pub loop-atom-preserved : goal.loop-atom-preserved
loop-atom-preserved c =
    let P = AllowsLength c.args.defs.now c.args.length in
    subst (AreThose P (take (c.loop-atom.atom-index + 1) c.args.atoms.now)) (sym c.in_ok-push.ensures.items)
    (AreThose-more P c.args.atoms.now c.loop-atom.atom-index (omega arith) c.loop-atom.found.items c.loop-atom.invariant (c.allows_length.ensures.0 c.if-not-allows_length.false))

pub returns : goal.returns
returns c =
    subst (λ xs. AreThose (AllowsLength c.args.defs.now c.args.length) xs c.loop-atom.found.items) (take_all c.loop-atom.atom-index c.args.atoms.now (omega arith)) c.loop-atom.invariant
