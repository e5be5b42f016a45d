use Rattle.std.proofs.Common.{length, subst, sym, Some}
use Rattle.checks.specs.Checks.{Comes}
use Rattle.checks.specs.Questions.{adds}
use Rattle.type_model.specs.Defined.{TyBelow}
use Rattle.type_model.proofs.Kept.{KeepsTypes-same}
use Rattle.needs_of_functions.specs.Rests.{AreListsOf}
use Rattle.needs_of_functions.proofs.Resting.{lists-added}
use Rattle.needs_of_functions.proofs.rests.lists_atom.Goals as goal

pub add_one-requires-clause-named : goal.add_one-requires-clause-named
add_one-requires-clause-named g c =
    let n = length (g.T.Types.atoms c.args.types.now) in
    c.in-Ok.ensures.below n (subst (TyBelow n) (sym c.deref.ensures) c.requires)

pub returns-in-Ok-clause-comes : goal.returns-in-Ok-clause-comes
returns-in-Ok-clause-comes g c =
    let old = g.T.Types.atoms c.args.types.now in
    subst (λ t. Comes (adds (λ env. AreListsOf t) (Some c.args.at)) old c.add_one.result (g.T.Types.atoms c.add_one.new.types)) c.deref.ensures
    (lists-added _ c.in-Ok.def (Some c.args.at) old _ _ c.in-Ok.ensures.is c.add_one.ensures.comes)

pub returns-in-Err-clause-kept : goal.returns-in-Err-clause-kept
returns-in-Err-clause-kept g c = KeepsTypes-same (g.T.Types.atoms c.args.types.now)
