use Rattle.std.proofs.Common.{◌≡◌, ◌∙◌, ℕ, IfOk, List, inl, inr, length, refl, subst, sym}
use Rattle.type_model.specs.declared.answers.Apply.{Apply}
use Rattle.type_model.specs.declared.atoms.AtomDef.{AtomDef}
use Rattle.type_model.specs.Application.{NamesDefined}
use Rattle.type_model.specs.Calls.{KeepsTypes}
use Rattle.atom_questions.specs.FutureNeeds.{AsksApplied}
use Rattle.atom_questions.specs.inner.Applying.{IsGiven}
use Rattle.atom_questions.proofs.Arguments.{no-fields, of-lists}
use Rattle.atom_questions.proofs.FutureAtoms.{are-applied-stops, are-given}
use Rattle.atom_questions.proofs.Stops.{atoms-stop, last-defined, there-in, where-ok}
use Rattle.atom_questions.proofs.futures.given_by.Goals as goal

pub add_one-requires-clause-distinct : goal.add_one-requires-clause-distinct
add_one-requires-clause-distinct g c = no-fields c.args.def c.requires.lists

pub given_by_atom-requires-clause-f_defined : goal.given_by_atom-requires-clause-f_defined
given_by_atom-requires-clause-f_defined g c = c.add_one.ensures.kept.defined c.args.f.now c.requires.f_defined

pub given_by_atom-requires-clause-atom : goal.given_by_atom-requires-clause-atom
given_by_atom-requires-clause-atom g c = last-defined (g.T.Types.atoms c.args.types.now) _ c.args.def c.in-Ok.atom c.in-Ok.ensures.first c.in-Ok.ensures.added

pub given_by_atom-requires-clause-lists : goal.given_by_atom-requires-clause-lists
given_by_atom-requires-clause-lists g c =
    of-lists _ c.in-Ok.atom c.args.def (there-in (g.T.Types.atoms c.args.types.now) _ c.args.def c.in-Ok.atom c.in-Ok.ensures.first c.in-Ok.ensures.added) c.requires.lists

pub returns-in-Ok-clause-kept : goal.returns-in-Ok-clause-kept
returns-in-Ok-clause-kept g c = subst (λ (env : List AtomDef). KeepsTypes (g.T.Types.atoms c.args.types.now) env) (sym c.given_by_atom.ensures.atoms) c.add_one.ensures.kept

pub returns-in-Ok-clause-added : goal.returns-in-Ok-clause-added
returns-in-Ok-clause-added g c = where-ok _ (c.given_by_atom.ensures.atoms ∙ c.in-Ok.ensures.added) c.given_by_atom.result

pub returns-in-Ok-clause-more : goal.returns-in-Ok-clause-more
returns-in-Ok-clause-more g c = inr (c.args.def, refl, c.given_by_atom.ensures.atoms ∙ c.in-Ok.ensures.added)

pub returns-in-Ok-clause-defined : goal.returns-in-Ok-clause-defined
returns-in-Ok-clause-defined g c = subst (λ (env : List AtomDef). IfOk c.given_by_atom.result (NamesDefined env)) (sym c.given_by_atom.ensures.atoms) c.given_by_atom.ensures.defined

pub returns-in-Ok-clause-given : goal.returns-in-Ok-clause-given
returns-in-Ok-clause-given g c = λ args is.
    subst (λ (env : List AtomDef). IfOk c.given_by_atom.result (IsGiven env c.args.f.now args)) (sym c.given_by_atom.ensures.atoms)
    (are-given _ c.in-Ok.atom c.args.def args (there-in (g.T.Types.atoms c.args.types.now) _ c.args.def c.in-Ok.atom c.in-Ok.ensures.first c.in-Ok.ensures.added) is c.args.f.now c.given_by_atom.result c.given_by_atom.ensures.applies)

pub returns-in-Ok-clause-limit : goal.returns-in-Ok-clause-limit
returns-in-Ok-clause-limit g c =
    are-applied-stops g.T.Types.passes (g.T.Types.atoms c.args.types.now) c.args.f.now c.args.def _ c.in-Ok.atom c.in-Ok.ensures.first c.in-Ok.ensures.added c.given_by_atom.result c.given_by_atom.ensures.limit

pub returns-in-Err-clause-more : goal.returns-in-Err-clause-more
returns-in-Err-clause-more g c = inl c.in-Err.ensures.refused

pub returns-in-Err-clause-limit : goal.returns-in-Err-clause-limit
returns-in-Err-clause-limit g c =
    let old = g.T.Types.atoms c.args.types.now in atoms-stop g.T.Types.passes old c.args.def (λ d. d ≡ c.args.def) (AsksApplied c.args.f.now (length old)) ℕ Apply c.in-Err.stop c.in-Err.ensures.limit
