use Rattle.std.proofs.Common.{◌≡◌, [], ◌∷◌, Some, subst}
use Rattle.checks.specs.Checks.{Comes}
use Rattle.checks.specs.Questions.{adds}
use Rattle.checks.proofs.Steps.{ran_out}
use Rattle.check_words.specs.Words.{Atoms}
use Rattle.made_atoms.proofs.Groups.{group-of}
use Rattle.made_atoms.proofs.atoms.new_mapping.Goals as goal

pub returns-in-Ok-clause-comes : goal.returns-in-Ok-clause-comes
returns-in-Ok-clause-comes g c =
    group-of c.args.keys.items c.args.members.items c.in-Ok.def (Some c.args.at) (g.T.Types.atoms c.args.types.now) _ c.add_one.result c.in-Ok.ensures.is
    (subst (λ (env : Atoms). Comes (adds (λ e defs. defs ≡ c.in-Ok.def ∷ []) (Some c.args.at)) env c.add_one.result (g.T.Types.atoms c.add_one.new.types)) c.members_def.ensures.atoms c.add_one.ensures.comes)

pub returns-in-Err-clause-comes : goal.returns-in-Err-clause-comes
returns-in-Err-clause-comes g c = ran_out _ _ _
