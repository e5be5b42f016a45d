use Rattle.check_work.specs.Views.{state_of}
use Rattle.needs_of_values.proofs.Asked.{handed-on}
use Rattle.needs_of_values.proofs.Described.{describes-come, describes-stand, describes-stops}
use Rattle.needs_of_values.proofs.wanting.want_described.Goals as goal

pub returns-in_err-ty-clause-comes : goal.returns-in_err-ty-clause-comes
returns-in_err-ty-clause-comes g c =
    handed-on _ _ _ _ _ c.from_residual.ensures
    (describes-stops c.args.names.now c.args.tree.now (state_of (g.T.Types.atoms c.args.types.now) c.args.work.now) (g.T.Types.atoms c.described.new.types) _ c.in_err-ty.ensures.comes)

pub returns-clause-stands : goal.returns-clause-stands
returns-clause-stands g c =
    describes-stand (state_of (g.T.Types.atoms c.args.types.now) c.args.work.now) c.requires.stands (g.T.Types.atoms c.described.new.types) c.in_ok-ty.ensures.kept _ _ _ c.in_ok-ty.ensures.defined
    c.in_ok-ty-2.ensures.ok c.in_ok-push.ensures.items

pub returns-clause-comes : goal.returns-clause-comes
returns-clause-comes g c =
    describes-come c.args.names.now c.args.tree.now (state_of (g.T.Types.atoms c.args.types.now) c.args.work.now) (g.T.Types.atoms c.described.new.types) _ _ _ c.in_ok-ty.ensures.comes
    c.in_ok-ty-2.ensures.ok c.in_ok-push.ensures.items
