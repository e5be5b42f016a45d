use Rattle.std.proofs.Common.{length, subst, sym}
use Rattle.type_model.specs.Defined.{IsDefined, TyBelow}
use Rattle.check_words.specs.Words.{UnionOf, sem}
use Rattle.needs_of_values.proofs.choosing.type_of_one.Goals as goal

pub union_of-requires-clause-left : goal.union_of-requires-clause-left
union_of-requires-clause-left g c = subst (IsDefined (g.T.Types.atoms c.args.types.now)) (sym c.shapes_of-left.ensures) c.requires.first.0

pub union_of-requires-clause-right : goal.union_of-requires-clause-right
union_of-requires-clause-right g c = subst (IsDefined (g.T.Types.atoms c.args.types.now)) (sym c.shapes_of-right.ensures) c.requires.second.0

pub returns-clause-below : goal.returns-clause-below
returns-clause-below g c = subst (TyBelow (length (g.T.Types.atoms c.args.types.now))) (sym c.in_ok-new.ensures.ok) c.in_ok-both.ensures.defined

pub returns-clause-is : goal.returns-clause-is
returns-clause-is g c =
    let env = g.T.Types.atoms c.args.types.now in
    subst (UnionOf (sem c.args.a.now) (sem c.args.b.now) env) (sym c.in_ok-new.ensures.ok)
    (subst (λ s. UnionOf s (sem c.args.b.now) env c.in_ok-both.both) c.shapes_of-left.ensures (subst (λ t. UnionOf c.shapes_of-left.result.now t env c.in_ok-both.both) c.shapes_of-right.ensures c.in_ok-both.ensures.is))
