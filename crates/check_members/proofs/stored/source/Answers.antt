use Rattle.std.proofs.Common.{All, subst, sym}
use Rattle.type_model.specs.Defined.{DefBelow, TyBelow}
use Rattle.check_members.specs.Stored.{IfBelow}
use Rattle.check_members.proofs.StoredChoices.{named-below}
use Rattle.check_members.proofs.stored.source.Goals as goal

pub returns-in-Mapping-clause-below : goal.returns-in-Mapping-clause-below
returns-in-Mapping-clause-below c = λ n h.
    let d = subst (DefBelow n) c.in-Mapping.is h in
    let all = subst (All (λ f. TyBelow n f.ty)) (sym c.as_slice-fields.ensures) d.0 in
    c.source_of-in-Mapping.ensures.below n (subst (IfBelow n) (sym c.named_field.ensures) (named-below n c.as_slice-fields.result.now c.args.keys.now all)) d.1
    (c.shared_by_fields.ensures.below n all)
