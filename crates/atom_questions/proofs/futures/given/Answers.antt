use Rattle.std.proofs.Common.{◌≡◌, length, subst, sym}
use Rattle.type_model.proofs.Kept.{KeepsTypes-same}
use Rattle.atom_questions.specs.Added.{IsArgsDef}
use Rattle.atom_questions.specs.FutureNeeds.{AsksApplied}
use Rattle.atom_questions.proofs.Arguments.{def-below, def-of-lists}
use Rattle.atom_questions.proofs.Stops.{more-on, stops-on, where-ok-on}
use Rattle.atom_questions.proofs.futures.given.Goals as goal

pub given_by-requires-clause-below : goal.given_by-requires-clause-below
given_by-requires-clause-below g c = def-below c.args.args.now c.in-Ok.def c.in-Ok.ensures (length (g.T.Types.atoms c.args.types.now)) c.requires.args_defined

pub given_by-requires-clause-lists : goal.given_by-requires-clause-lists
given_by-requires-clause-lists g c = def-of-lists c.args.args.now c.in-Ok.def c.in-Ok.ensures

pub returns-in-Ok-clause-added : goal.returns-in-Ok-clause-added
returns-in-Ok-clause-added g c = where-ok-on _ _ (λ e. (c.in-Ok.def, c.in-Ok.ensures, e)) c.given_by.result c.given_by.ensures.added

pub returns-in-Ok-clause-more : goal.returns-in-Ok-clause-more
returns-in-Ok-clause-more g c =
    more-on (g.T.Types.atoms c.args.types.now) (λ d. d ≡ c.in-Ok.def) (IsArgsDef c.args.args.now) (λ d e. subst (IsArgsDef c.args.args.now) (sym e) c.in-Ok.ensures) _ c.given_by.ensures.more

pub returns-in-Ok-clause-given : goal.returns-in-Ok-clause-given
returns-in-Ok-clause-given g c = c.given_by.ensures.given c.args.args.now c.in-Ok.ensures

pub returns-in-Ok-clause-limit : goal.returns-in-Ok-clause-limit
returns-in-Ok-clause-limit g c =
    let old = g.T.Types.atoms c.args.types.now in
    stops-on g.T.Types.passes old c.in-Ok.def (λ d. d ≡ c.in-Ok.def) (AsksApplied c.args.f.now (length old))
    (IsArgsDef c.args.args.now) (λ d e. subst (IsArgsDef c.args.args.now) (sym e) c.in-Ok.ensures) c.given_by.result c.given_by.ensures.limit

pub returns-in-Err-clause-kept : goal.returns-in-Err-clause-kept
returns-in-Err-clause-kept g c = KeepsTypes-same (g.T.Types.atoms c.args.types.now)
