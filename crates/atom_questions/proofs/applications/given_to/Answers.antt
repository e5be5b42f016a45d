use Rattle.std.proofs.Common.{◌≡◌, ◌∙◌, ℕ, List, inl, inr, length, refl, subst, sym}
use Rattle.type_model.specs.declared.answers.Answer.{Answer}
use Rattle.type_model.specs.declared.atoms.AtomDef.{AtomDef}
use Rattle.type_model.specs.Calls.{KeepsTypes}
use Rattle.atom_questions.specs.Limits.{AsksGiven}
use Rattle.atom_questions.proofs.Arguments.{no-fields, of-lists}
use Rattle.atom_questions.proofs.Giving.{given-answers, given-stops}
use Rattle.atom_questions.proofs.Stops.{atoms-stop, last-defined, there-in}
use Rattle.atom_questions.proofs.applications.given_to.Goals as goal

pub add_one-requires-clause-distinct : goal.add_one-requires-clause-distinct
add_one-requires-clause-distinct g c = no-fields c.args.def c.requires.lists

pub given_to_atom-requires-clause-f_defined : goal.given_to_atom-requires-clause-f_defined
given_to_atom-requires-clause-f_defined g c = c.add_one.ensures.kept.defined c.args.f.now c.requires.f_defined

pub given_to_atom-requires-clause-atom : goal.given_to_atom-requires-clause-atom
given_to_atom-requires-clause-atom g c = last-defined (g.T.Types.atoms c.args.types.now) _ c.args.def c.in-Ok.atom c.in-Ok.ensures.first c.in-Ok.ensures.added

pub given_to_atom-requires-clause-lists : goal.given_to_atom-requires-clause-lists
given_to_atom-requires-clause-lists g c =
    of-lists _ c.in-Ok.atom c.args.def (there-in (g.T.Types.atoms c.args.types.now) _ c.args.def c.in-Ok.atom c.in-Ok.ensures.first c.in-Ok.ensures.added) c.requires.lists

pub given_to_atom-requires-clause-right : goal.given_to_atom-requires-clause-right
given_to_atom-requires-clause-right g c = c.add_one.ensures.kept.defined c.args.r.now c.requires.right

pub returns-in-Ok-clause-kept : goal.returns-in-Ok-clause-kept
returns-in-Ok-clause-kept g c = subst (λ (env : List AtomDef). KeepsTypes (g.T.Types.atoms c.args.types.now) env) (sym c.given_to_atom.ensures.atoms) c.add_one.ensures.kept

pub returns-in-Ok-clause-added : goal.returns-in-Ok-clause-added
returns-in-Ok-clause-added g c = inr (c.args.def, refl, c.given_to_atom.ensures.atoms ∙ c.in-Ok.ensures.added)

pub returns-in-Ok-clause-answers : goal.returns-in-Ok-clause-answers
returns-in-Ok-clause-answers g c = λ args is defined.
    let old = g.T.Types.atoms c.args.types.now in
    given-answers old _ c.add_one.ensures.kept c.args.f.now args c.requires.f_defined defined c.in-Ok.atom c.args.def
    (there-in old _ c.args.def c.in-Ok.atom c.in-Ok.ensures.first c.in-Ok.ensures.added) is c.args.r.now c.requires.right c.given_to_atom.result c.given_to_atom.ensures.told

pub returns-in-Ok-clause-limit : goal.returns-in-Ok-clause-limit
returns-in-Ok-clause-limit g c = λ args is.
    given-stops g.T.Types.passes (g.T.Types.atoms c.args.types.now) c.args.def args is c.args.f.now c.args.r.now _ c.in-Ok.atom c.in-Ok.ensures.first c.in-Ok.ensures.added c.given_to_atom.result c.given_to_atom.ensures.limit

pub returns-in-Err-clause-added : goal.returns-in-Err-clause-added
returns-in-Err-clause-added g c = inl c.in-Err.ensures.refused

pub returns-in-Err-clause-limit : goal.returns-in-Err-clause-limit
returns-in-Err-clause-limit g c = λ args is.
    let old = g.T.Types.atoms c.args.types.now in
    atoms-stop g.T.Types.passes old c.args.def (λ d. d ≡ c.args.def) (AsksGiven c.args.f.now args (length old) c.args.r.now) ℕ Answer c.in-Err.stop c.in-Err.ensures.limit
