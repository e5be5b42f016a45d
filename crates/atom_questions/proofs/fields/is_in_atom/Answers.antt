use Rattle.std.proofs.Common.{◌≡◌, ◌∙◌, ℕ, List, inl, inr, length, refl, subst, sym}
use Rattle.type_model.specs.declared.answers.Answer.{Answer}
use Rattle.type_model.specs.declared.atoms.AtomDef.{AtomDef}
use Rattle.type_model.specs.declared.basic.SemType.{Atom}
use Rattle.type_model.specs.Calls.{KeepsTypes, Without}
use Rattle.atom_questions.proofs.Stops.{answered-in, atoms-stop, last-defined, passes-in}
use Rattle.atom_questions.proofs.fields.is_in_atom.Goals as goal

pub below-requires-clause-left : goal.below-requires-clause-left
below-requires-clause-left g c = c.add_one.ensures.kept.defined c.args.m.now c.requires.defined

pub below-requires-clause-right : goal.below-requires-clause-right
below-requires-clause-right g c = last-defined (g.T.Types.atoms c.args.types.now) _ c.args.def c.in-Ok.atom c.in-Ok.ensures.first c.in-Ok.ensures.added

pub returns-in-Ok-clause-kept : goal.returns-in-Ok-clause-kept
returns-in-Ok-clause-kept g c = subst (λ (env : List AtomDef). KeepsTypes (g.T.Types.atoms c.args.types.now) env) (sym c.below.ensures.atoms) c.add_one.ensures.kept

pub returns-in-Ok-clause-added : goal.returns-in-Ok-clause-added
returns-in-Ok-clause-added g c = inr (c.args.def, refl, c.below.ensures.atoms ∙ c.in-Ok.ensures.added)

pub returns-in-Ok-clause-answer : goal.returns-in-Ok-clause-answer
returns-in-Ok-clause-answer g c =
    answered-in (g.T.Types.atoms c.args.types.now) _ c.args.def c.in-Ok.atom c.in-Ok.ensures.first c.in-Ok.ensures.added c.args.m.now c.add_one.ensures.kept c.below.result c.below.ensures.answer

pub returns-in-Ok-clause-limit : goal.returns-in-Ok-clause-limit
returns-in-Ok-clause-limit g c =
    passes-in (g.T.Types.atoms c.args.types.now) _ c.args.def c.in-Ok.atom c.in-Ok.ensures.first c.in-Ok.ensures.added g.T.Types.passes c.args.m.now c.below.result c.below.ensures.limit

pub returns-in-Err-clause-added : goal.returns-in-Err-clause-added
returns-in-Err-clause-added g c = inl c.in-Err.ensures.refused

pub returns-in-Err-clause-limit : goal.returns-in-Err-clause-limit
returns-in-Err-clause-limit g c =
    let old = g.T.Types.atoms c.args.types.now in
    atoms-stop g.T.Types.passes old c.args.def (λ d. d ≡ c.args.def) (λ env asked. asked ≡ Without c.args.m.now (Atom (length old))) ℕ Answer c.in-Err.stop c.in-Err.ensures.limit
