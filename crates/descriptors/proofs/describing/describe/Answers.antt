use Rattle.std.proofs.Common.{subst}
use Rattle.type_model.specs.Defined.{TyBelow}
use Rattle.checks.specs.Checks.{Comes}
use Rattle.descriptors.specs.Described.{described_whole, rewritten}
use Rattle.descriptors.specs.Descriptors.{descriptor_of}
use Rattle.descriptors.proofs.Yielding.{handed-on, kept-then, names-kept, yields-on, yields-stops}
use Rattle.descriptors.proofs.describing.describe.Goals as goal

pub returns-clause-comes : goal.returns-clause-comes
returns-clause-comes g c =
    subst (λ s. Comes (described_whole c.args.names.now s (descriptor_of c.args.tree.now)) (g.T.Types.atoms c.args.types.now) c.rewritten.result (g.T.Types.atoms c.rewritten.new.types)) c.scope_in.ensures
    ((yields-on TyBelow TyBelow _ (λ u. rewritten u) _ _ _ _ _ c.in_ok-t.ensures c.rewritten.ensures).comes)

pub returns-clause-defined : goal.returns-clause-defined
returns-clause-defined g c = c.rewritten.ensures.over

pub returns-clause-kept : goal.returns-clause-kept
returns-clause-kept g c = kept-then _ _ _ c.in_ok-t.ensures.kept c.rewritten.ensures.kept

pub returns-clause-names : goal.returns-clause-names
returns-clause-names g c = names-kept _ _ _ (kept-then _ _ _ c.in_ok-t.ensures.kept c.rewritten.ensures.kept) c.requires.names

pub returns-in_err-t-clause-comes : goal.returns-in_err-t-clause-comes
returns-in_err-t-clause-comes g c =
    subst (λ s. Comes (described_whole c.args.names.now s (descriptor_of c.args.tree.now)) (g.T.Types.atoms c.args.types.now) c.from_residual.result (g.T.Types.atoms c.as_written.new.types)) c.scope_in.ensures
    ((handed-on TyBelow _ _ _ _ _ c.from_residual.ensures (yields-stops TyBelow TyBelow _ (λ u. rewritten u) _ _ _ c.in_err-t.ensures)).comes)

pub returns-in_err-t-clause-defined : goal.returns-in_err-t-clause-defined
returns-in_err-t-clause-defined g c = (handed-on TyBelow _ _ _ _ _ c.from_residual.ensures (yields-stops TyBelow TyBelow _ (λ u. rewritten u) _ _ _ c.in_err-t.ensures)).over

pub returns-in_err-t-clause-names : goal.returns-in_err-t-clause-names
returns-in_err-t-clause-names g c = names-kept _ _ _ c.in_err-t.ensures.kept c.requires.names
