use Rattle.std.proofs.Common.{refl}
use Rattle.descriptors.proofs.Drafting.{drafts-ran_out, handed-on}
use Rattle.type_builder.proofs.Meant.{signed-given, signed-stops}
use Rattle.type_builder.proofs.meanings.signed.Goals as goal

pub returns-in_err-params : goal.returns-in_err-params
returns-in_err-params c = λ names scope. handed-on _ _ _ _ _ _ _ c.from_residual.ensures (drafts-ran_out _ _ _ _)

pub returns-in_err-others : goal.returns-in_err-others
returns-in_err-others c = λ names scope. handed-on _ _ _ _ _ _ _ c.from_residual-in_err-others.ensures (drafts-ran_out _ _ _ _)

pub returns-in_err-gives : goal.returns-in_err-gives
returns-in_err-gives c = λ names scope. handed-on _ _ _ _ _ _ _ c.from_residual-in_err-gives.ensures (drafts-ran_out _ _ _ _)

pub returns-in_err-atoms : goal.returns-in_err-atoms
returns-in_err-atoms c = λ names scope. handed-on _ _ _ _ _ _ _ c.from_residual-in_err-atoms.ensures
    (signed-stops names scope c.args.unit c.args.d.now c.args.fixed c.args.rest c.args.given _ _ _ (c.in_err-atoms.ensures names scope))

pub returns : goal.returns
returns c = λ names scope.
    signed-given names scope c.args.unit c.args.d.now c.args.fixed c.args.rest c.args.given _ c.in_ok-atoms.atoms _ _ refl refl c.in_ok-params.ensures c.in_ok-others.ensures c.in_ok-gives.ensures refl refl refl
    (c.in_ok-atoms.ensures names scope)
