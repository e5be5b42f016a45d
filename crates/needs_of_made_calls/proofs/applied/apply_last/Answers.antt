use Rattle.std.proofs.Common.{length, subst, sym}
use Rattle.type_model.proofs.Kept.{KeepsTypes-same}
use Rattle.check_words.specs.Stands.{PartBelow}
use Rattle.check_words.specs.State.{AreLast}
use Rattle.check_words.proofs.Standing.{last-have}
use Rattle.needs_of_made_calls.proofs.Applying.{last-applied}
use Rattle.needs_of_made_calls.proofs.applied.apply_last.Goals as goal

pub apply_parts-requires : goal.apply_parts-requires
apply_parts-requires g c = last-have (PartBelow (length (g.T.Types.atoms c.args.types.now))) c.args.count c.args.found.now _ c.in-Ok.ensures c.requires

pub returns-in-Ok-clause-comes : goal.returns-in-Ok-clause-comes
returns-in-Ok-clause-comes g c = λ s e found.
    last-applied g.T.Types.passes c.args.count c.args.at s _ _ _ c.apply_parts.result e (subst (λ es. AreLast es c.args.count c.in-Ok.parts.now) (sym found) c.in-Ok.ensures) c.apply_parts.ensures.comes

pub returns-in-Err-clause-kept : goal.returns-in-Err-clause-kept
returns-in-Err-clause-kept g c = KeepsTypes-same _
