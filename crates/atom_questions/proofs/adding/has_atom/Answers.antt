use Rattle.std.proofs.Common.{◌≡◌, ◌∙◌, ℕ, List, inl, inr, length, refl, subst, sym}
use Rattle.type_model.specs.declared.answers.Answer.{Answer}
use Rattle.type_model.specs.declared.atoms.AtomDef.{AtomDef}
use Rattle.type_model.specs.Calls.{KeepsTypes}
use Rattle.atom_questions.specs.FutureNeeds.{AsksAtom}
use Rattle.atom_questions.proofs.Stops.{answered-of, atoms-stop, last-defined, passes-of}
use Rattle.atom_questions.proofs.adding.has_atom.Goals as goal

pub below-requires-clause-left : goal.below-requires-clause-left
below-requires-clause-left g c = last-defined (g.T.Types.atoms c.args.types.now) _ c.args.def c.in-Ok.atom c.in-Ok.ensures.first c.in-Ok.ensures.added

pub below-requires-clause-right : goal.below-requires-clause-right
below-requires-clause-right g c = c.add_one.ensures.kept.defined c.args.r.now c.requires.right

pub returns-in-Ok-clause-kept : goal.returns-in-Ok-clause-kept
returns-in-Ok-clause-kept g c = subst (λ (env : List AtomDef). KeepsTypes (g.T.Types.atoms c.args.types.now) env) (sym c.below.ensures.atoms) c.add_one.ensures.kept

pub returns-in-Ok-clause-added : goal.returns-in-Ok-clause-added
returns-in-Ok-clause-added g c = inr (c.args.def, refl, c.below.ensures.atoms ∙ c.in-Ok.ensures.added)

pub returns-in-Ok-clause-answer : goal.returns-in-Ok-clause-answer
returns-in-Ok-clause-answer g c =
    answered-of (g.T.Types.atoms c.args.types.now) _ c.args.def c.in-Ok.atom c.in-Ok.ensures.first c.in-Ok.ensures.added c.args.r.now c.add_one.ensures.kept c.below.result c.below.ensures.answer

pub returns-in-Ok-clause-limit : goal.returns-in-Ok-clause-limit
returns-in-Ok-clause-limit g c =
    passes-of (g.T.Types.atoms c.args.types.now) _ c.args.def c.in-Ok.atom c.in-Ok.ensures.first c.in-Ok.ensures.added g.T.Types.passes c.args.r.now c.below.result c.below.ensures.limit

pub returns-in-Err-clause-added : goal.returns-in-Err-clause-added
returns-in-Err-clause-added g c = inl c.in-Err.ensures.refused

pub returns-in-Err-clause-limit : goal.returns-in-Err-clause-limit
returns-in-Err-clause-limit g c =
    let old = g.T.Types.atoms c.args.types.now in atoms-stop g.T.Types.passes old c.args.def (λ d. d ≡ c.args.def) (AsksAtom (length old) c.args.r.now) ℕ Answer c.in-Err.stop c.in-Err.ensures.limit
