use Rattle.std.proofs.Common.{◌∙◌, ℕ, inl, inr, subst, sym}
use Rattle.type_model.specs.declared.answers.Answer.{Answer}
use Rattle.type_model.specs.Calls.{KeepsTypes}
use Rattle.detail_questions.proofs.Answering.{added-stop, answered-over, asked-stop, last-there}
use Rattle.detail_questions.proofs.errors.with_group.Goals as goal

pub below-requires-clause-left : goal.below-requires-clause-left
below-requires-clause-left g c = last-there (g.T.Types.atoms c.args.types.now) c.args.defs.items _ c.in-Ok.ensures.added c.args.last c.requires.last

pub below-requires-clause-right : goal.below-requires-clause-right
below-requires-clause-right g c = c.add_defs.ensures.kept.defined c.args.r.now c.requires.right

pub returns-in-Ok-clause-kept : goal.returns-in-Ok-clause-kept
returns-in-Ok-clause-kept g c = subst (KeepsTypes (g.T.Types.atoms c.args.types.now)) (sym c.below.ensures.atoms) c.add_defs.ensures.kept

pub returns-in-Ok-clause-added : goal.returns-in-Ok-clause-added
returns-in-Ok-clause-added g c = inr (c.below.ensures.atoms ∙ c.in-Ok.ensures.added)

pub returns-in-Ok-clause-answer : goal.returns-in-Ok-clause-answer
returns-in-Ok-clause-answer g c =
    answered-over g.T.Types.passes (g.T.Types.atoms c.args.types.now) c.args.defs.items _ c.in-Ok.ensures.added c.add_defs.ensures.kept c.args.last c.args.r.now c.below.result c.below.ensures.answer

pub returns-in-Ok-clause-limit : goal.returns-in-Ok-clause-limit
returns-in-Ok-clause-limit g c = asked-stop g.T.Types.passes (g.T.Types.atoms c.args.types.now) c.args.defs.items _ c.in-Ok.ensures.added c.args.last c.args.r.now c.below.result c.below.ensures.limit

pub returns-in-Err-clause-added : goal.returns-in-Err-clause-added
returns-in-Err-clause-added g c = inl c.in-Err.ensures.refused

pub returns-in-Err-clause-limit : goal.returns-in-Err-clause-limit
returns-in-Err-clause-limit g c = added-stop g.T.Types.passes (g.T.Types.atoms c.args.types.now) c.args.defs.items c.args.last c.args.r.now ℕ Answer c.in-Err.stop c.in-Err.ensures.limit
