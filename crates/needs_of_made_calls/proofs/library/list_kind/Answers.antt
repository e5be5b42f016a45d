use Rattle.type_model.proofs.Kept.{KeepsTypes-same}
use Rattle.check_words.specs.Words.{OfKind}
use Rattle.check_work.specs.Views.{state_of}
use Rattle.needs_of_made_calls.proofs.Giving.{lists-then}
use Rattle.needs_of_made_calls.proofs.library.list_kind.Goals as goal

pub give_list-requires-clause-below : goal.give_list-requires-clause-below
give_list-requires-clause-below g c = c.in-Ok.ensures.defined (g.T.Types.atoms c.args.types.now) c.requires.own

pub returns-in-Ok-clause-comes : goal.returns-in-Ok-clause-comes
returns-in-Ok-clause-comes g c =
    let env = g.T.Types.atoms c.args.types.now in
    lists-then c.in-Ok.ty c.args.what.at c.args.what.count c.args.what.call (OfKind c.args.kind) (state_of env c.args.work.now) _ c.give_list.result (c.in-Ok.ensures.is env c.requires.own)
    c.give_list.ensures.comes

pub returns-in-Err-clause-kept : goal.returns-in-Err-clause-kept
returns-in-Err-clause-kept g c = KeepsTypes-same _
