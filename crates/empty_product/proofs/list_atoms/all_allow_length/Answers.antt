use Rattle.std.proofs.Common.{All, refl, subst, arith}
use Rattle.std.proofs.lemmas.List.{take_all}
use Rattle.std.proofs.lemmas.List.Elements.{All-more}
use Rattle.type_diagrams.specs.Members.{AllowsLength}
use Rattle.empty_product.proofs.list_atoms.all_allow_length.Goals as goal

pub loop-atom-preserved : goal.loop-atom-preserved
loop-atom-preserved c =
    let i = c.loop-atom.atom-index in
    All-more (AllowsLength c.args.defs.now c.args.length) c.args.atoms.now i 0 (omega arith) c.loop-atom.invariant (c.allows_length.ensures.0 c.if-not-allows_length.false)

pub returns : goal.returns
returns c =
    let done = subst (All (AllowsLength c.args.defs.now c.args.length)) (take_all c.loop-atom.atom-index c.args.atoms.now (omega arith)) c.loop-atom.invariant in
    (λ _. done, λ _. refl)
