use Rattle.std.proofs.Common.{◌≡◌, length, subst, sym}
use Rattle.type_model.proofs.Kept.{KeepsTypes-same}
use Rattle.atom_questions.specs.Added.{IsArgsDef}
use Rattle.atom_questions.specs.Limits.{AsksGiven}
use Rattle.atom_questions.proofs.Arguments.{def-below, def-of-lists}
use Rattle.atom_questions.proofs.Stops.{more-on, stops-on}
use Rattle.atom_questions.proofs.applications.gives.Goals as goal

pub given_to-requires-clause-below : goal.given_to-requires-clause-below
given_to-requires-clause-below g c = def-below c.args.args.now c.in-Ok.def c.in-Ok.ensures (length (g.T.Types.atoms c.args.types.now)) c.requires.args_defined

pub given_to-requires-clause-lists : goal.given_to-requires-clause-lists
given_to-requires-clause-lists g c = def-of-lists c.args.args.now c.in-Ok.def c.in-Ok.ensures

pub returns-in-Ok-clause-added : goal.returns-in-Ok-clause-added
returns-in-Ok-clause-added g c =
    more-on (g.T.Types.atoms c.args.types.now) (λ d. d ≡ c.in-Ok.def) (IsArgsDef c.args.args.now) (λ d e. subst (IsArgsDef c.args.args.now) (sym e) c.in-Ok.ensures) _ c.given_to.ensures.added

pub returns-in-Ok-clause-answers : goal.returns-in-Ok-clause-answers
returns-in-Ok-clause-answers g c = c.given_to.ensures.answers c.args.args.now c.in-Ok.ensures c.requires.args_defined

pub returns-in-Ok-clause-limit : goal.returns-in-Ok-clause-limit
returns-in-Ok-clause-limit g c =
    let old = g.T.Types.atoms c.args.types.now in
    stops-on g.T.Types.passes old c.in-Ok.def (λ d. d ≡ c.in-Ok.def) (AsksGiven c.args.f.now c.args.args.now (length old) c.args.r.now)
    (IsArgsDef c.args.args.now) (λ d e. subst (IsArgsDef c.args.args.now) (sym e) c.in-Ok.ensures) c.given_to.result (c.given_to.ensures.limit c.args.args.now c.in-Ok.ensures)

pub returns-in-Err-clause-kept : goal.returns-in-Err-clause-kept
returns-in-Err-clause-kept g c = KeepsTypes-same (g.T.Types.atoms c.args.types.now)
