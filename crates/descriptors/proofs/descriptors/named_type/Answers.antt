use Rattle.std.proofs.Common.{Err, Some, refl, subst, sym}
use Rattle.bal_base.specs.declared.fault.Kept.TheVariants.{Nothing}
use Rattle.bal_base.specs.declared.stop.Stop.TheVariants.{Fault as OwnFault}
use Rattle.type_model.specs.Defined.{TyBelow}
use Rattle.descriptors.specs.Described.{gives_named}
use Rattle.descriptors.specs.Drafts.{AreNamesBelow, Drafts}
use Rattle.descriptors.proofs.Drafting.{drafts-lifted, drafts-refused}
use Rattle.descriptors.proofs.Yielding.{copy-below, weaker}
use Rattle.descriptors.proofs.descriptors.named_type.Goals as goal

pub returns-in-Ok : goal.returns-in-Ok
returns-in-Ok c = λ draft.
    subst (λ o. Drafts (AreNamesBelow c.args.names.now) TyBelow (gives_named o c.args.name.now.at) draft c.lift.result draft) (sym c.in-Ok.ensures.found)
    (drafts-lifted _ _ _ _ _ _ c.lift.ensures c.copy.ensures (λ n le below. weaker _ _ _ c.copy.ensures (λ u e. copy-below _ _ _ e (below.types c.args.scope c.args.name.now _ c.in-Ok.ensures.found))))

pub returns-in-Err : goal.returns-in-Err
returns-in-Err c = λ draft.
    subst (λ o. Drafts (AreNamesBelow c.args.names.now) TyBelow (gives_named o c.args.name.now.at) draft (Err (OwnFault (record { code = c.in-Err.code; at = Some c.args.name.now.at; kept = Nothing }))) draft)
    (sym c.in-Err.ensures.none) (drafts-refused _ TyBelow draft _ _ (record { has_code = refl; stands = refl; shows = refl }))
