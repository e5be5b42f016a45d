use Rattle.std.proofs.Common.{◌∙◌, arith, length, subst}
use Rattle.type_model.specs.Defined.{TyBelow}
use Rattle.check_words.specs.Words.{Atoms, UnionOf}
use Rattle.made_atoms.proofs.OneByOne.{next-type}
use Rattle.made_atoms.proofs.unions.any_of.Goals as goal

pub loop-t-preserved : goal.loop-t-preserved
loop-t-preserved g c =
    let inv = c.loop-t.invariant in
    let made = c.in_ok-union.union in (
      c.union_of.ensures.atoms ∙ inv.0,
      subst (λ (e : Atoms). TyBelow (length e) made) inv.0 c.in_ok-union.ensures.defined,
      next-type (g.T.Types.atoms c.args.types.now) c.args.all.now c.loop-t.t-index c.t-item.result c.loop-t.union made (omega arith) c.t-item.is inv.2
          (subst (λ (e : Atoms). UnionOf c.loop-t.union.sem c.t-item.result.sem e made) inv.0 c.in_ok-union.ensures.is),
    )
