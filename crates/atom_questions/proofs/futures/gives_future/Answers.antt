use Rattle.type_model.specs.declared.answers.Answer.{Answer}
use Rattle.type_model.specs.declared.answers.Apply.{Apply}
use Rattle.atom_questions.proofs.FutureAtoms.{first-more, future-answers, future-more, future-stops, given-stop}
use Rattle.atom_questions.proofs.Stops.{kept-on}
use Rattle.atom_questions.proofs.futures.gives_future.Goals as goal

pub futures_in-requires-clause-right : goal.futures_in-requires-clause-right
futures_in-requires-clause-right g c = c.given.ensures.kept.defined c.args.r.now c.requires.right

pub returns-in-Ok-clause-kept : goal.returns-in-Ok-clause-kept
returns-in-Ok-clause-kept g c = kept-on (g.T.Types.atoms c.args.types.now) _ _ c.given.ensures.kept c.futures_in.ensures.kept

pub returns-in-Ok-clause-added : goal.returns-in-Ok-clause-added
returns-in-Ok-clause-added g c =
    let (def, is, added) = c.in-Ok.ensures.added in
    future-more (g.T.Types.atoms c.args.types.now) def c.args.f.now c.args.args.now is _ added c.in-Ok.applied c.in-Ok.ensures.given c.in-Ok.ensures.defined _ c.futures_in.ensures.added

pub returns-in-Ok-clause-answers : goal.returns-in-Ok-clause-answers
returns-in-Ok-clause-answers g c =
    future-answers (g.T.Types.atoms c.args.types.now) _ c.given.ensures.kept c.args.f.now c.args.args.now c.requires.f_defined c.requires.args_defined c.args.r.now c.requires.right
    c.in-Ok.applied c.in-Ok.ensures.given c.in-Ok.ensures.defined c.futures_in.result c.futures_in.ensures.told

pub returns-in-Ok-clause-limit : goal.returns-in-Ok-clause-limit
returns-in-Ok-clause-limit g c =
    let (def, is, added) = c.in-Ok.ensures.added in
    future-stops (g.T.Types.atoms c.args.types.now) def c.args.f.now c.args.args.now is _ added c.in-Ok.applied c.in-Ok.ensures.given c.in-Ok.ensures.defined g.T.Types.passes c.args.r.now c.futures_in.result c.futures_in.ensures.limit

pub returns-in-Err-clause-added : goal.returns-in-Err-clause-added
returns-in-Err-clause-added g c = first-more (g.T.Types.atoms c.args.types.now) c.args.f.now c.args.args.now _ c.given.ensures.more

pub returns-in-Err-clause-limit : goal.returns-in-Err-clause-limit
returns-in-Err-clause-limit g c =
    given-stop g.T.Types.passes (g.T.Types.atoms c.args.types.now) c.args.f.now c.args.args.now c.args.r.now Apply Answer c.in-Err.stop c.in-Err.ensures.limit
