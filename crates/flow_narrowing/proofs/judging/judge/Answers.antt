use Rattle.std.proofs.Common.{length, subst, ◌⊎◌, ◌↔◌}
use Rattle.bal_base.specs.declared.shape.Shape.{Shape}
use Rattle.type_model.specs.Basic.{InBasic}
use Rattle.type_model.specs.Membership.{In}
use Rattle.flow_narrowing.proofs.Failing.{judged-fails}
use Rattle.flow_narrowing.proofs.judging.judge.Goals as goal

pub returns-clause-defined : goal.returns-clause-defined
returns-clause-defined g c = c.in_ok-with_all.ensures.defined (length (g.T.Types.atoms c.args.types.now)) c.requires.failed

pub returns-clause-judged : goal.returns-clause-judged
returns-clause-judged g c =
    judged-fails (g.T.Types.atoms c.args.types.now) c.args.s.now c.args.t.now c.args.kind c.args.failed c.in_ok-with_all.field-0 c.in_ok-lies_in.field-0 c.if-branch.false
    c.in_ok-lies_in.ensures.settles
    (subst (λ set. (x : Shape) → In (g.T.Types.atoms c.args.types.now) x c.in_ok-with_all.field-0 ↔ (In (g.T.Types.atoms c.args.types.now) x c.args.failed ⊎ InBasic x set)) c.all.ensures
    (λ x. c.in_ok-with_all.ensures.shapes (g.T.Types.atoms c.args.types.now) x))
