use Rattle.std.proofs.Common.{◌<◌, ◌∙◌, Some, length, subst, sym}
use Rattle.checks.specs.Checks.{Comes}
use Rattle.checks.specs.Questions.{applied}
use Rattle.type_model.specs.Application.{IsFunctionType, IsListType}
use Rattle.type_model.specs.declared.basic.SemType.{Atom}
use Rattle.type_model.specs.Defined.{IsDefined}
use Rattle.check_words.specs.Words.{Atoms}
use Rattle.needs_of_made_calls.proofs.applied.apply_to.Goals as goal

pub apply-requires-clause-f_defined : goal.apply-requires-clause-f_defined
apply-requires-clause-f_defined g c = subst (λ (e : Atoms). IsDefined e c.args.f.now) (sym c.are_functions.ensures.atoms) c.requires.defined

pub apply-requires-clause-args_defined : goal.apply-requires-clause-args_defined
apply-requires-clause-args_defined g c = subst (λ (e : Atoms). c.args.args < length e) (sym c.are_functions.ensures.atoms) c.requires.there

pub apply-requires-clause-functions : goal.apply-requires-clause-functions
apply-requires-clause-functions g c = subst (λ (e : Atoms). IsFunctionType e c.args.f.now) (sym c.are_functions.ensures.atoms) c.in-Ok.ensures.are

pub apply-requires-clause-lists : goal.apply-requires-clause-lists
apply-requires-clause-lists g c = subst (λ (e : Atoms). IsListType e (Atom c.args.args)) (sym c.are_functions.ensures.atoms) c.requires.lists

pub returns-in-Ok-clause-atoms : goal.returns-in-Ok-clause-atoms
returns-in-Ok-clause-atoms g c = c.apply.ensures.atoms ∙ c.are_functions.ensures.atoms

pub returns-in-Ok-clause-comes : goal.returns-in-Ok-clause-comes
returns-in-Ok-clause-comes g c =
    subst (λ (e : Atoms). Comes (applied g.T.Types.passes c.args.f.now (Atom c.args.args) (Some c.args.at)) e c.apply.result (g.T.Types.atoms c.apply.new.types)) c.are_functions.ensures.atoms
    c.apply.ensures.comes
