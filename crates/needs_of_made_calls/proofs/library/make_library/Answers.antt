use Rattle.std.proofs.Common.{◌⊎◌, sym}
use Rattle.check_calls.specs.declared.results.LibraryResult.TheVariants as result
use Rattle.descriptors.specs.Described.{IsPlain}
use Rattle.operations.specs.Kinds.{IsDetail, IsError, IsInteger}
use Rattle.type_model.proofs.Kept.{KeepsTypes-same}
use Rattle.check_words.specs.Calls.{gives_by}
use Rattle.check_words.specs.Words.{OfKind}
use Rattle.check_work.specs.Views.{state_of}
use Rattle.needs_of_made_calls.proofs.Answering.{lifted-comes, lifted-on}
use Rattle.needs_of_made_calls.proofs.Giving.{told-by}
use Rattle.needs_of_made_calls.proofs.library.make_library.Goals as goal

pub returns-in-Of-clause-kept : goal.returns-in-Of-clause-kept
returns-in-Of-clause-kept g c = KeepsTypes-same _

pub returns-in-Of-clause-stands : goal.returns-in-Of-clause-stands
returns-in-Of-clause-stands g c =
    lifted-on c.give_kind.result c.lift.result c.lift.ensures _ (c.give_kind.ensures.stands (g.T.Types.atoms c.args.types.now) c.requires.own c.requires.stands)

pub returns-in-Of-clause-comes : goal.returns-in-Of-clause-comes
returns-in-Of-clause-comes g c =
    let s = state_of (g.T.Types.atoms c.args.types.now) c.args.work.now in
    told-by g.T.Types.passes c.args.what.call c.args.receiver.now c.args.what.at s _ c.lift.result (result.Of c.in-Of.kind) c.args.what.count (sym c.in-Of.ensures)
    (lifted-comes c.give_kind.result c.lift.result c.lift.ensures (gives_by c.args.what.count c.args.what.call (OfKind c.in-Of.kind) c.args.what.at) s _
    (c.give_kind.ensures.comes (g.T.Types.atoms c.args.types.now) c.requires.own))

pub returns-in-IntOrError-clause-kept : goal.returns-in-IntOrError-clause-kept
returns-in-IntOrError-clause-kept g c = KeepsTypes-same _

pub returns-in-IntOrError-clause-stands : goal.returns-in-IntOrError-clause-stands
returns-in-IntOrError-clause-stands g c =
    lifted-on c.give_int_or_error.result c.lift-in-IntOrError.result c.lift-in-IntOrError.ensures _ (c.give_int_or_error.ensures.stands (g.T.Types.atoms c.args.types.now) c.requires.stands)

pub returns-in-IntOrError-clause-comes : goal.returns-in-IntOrError-clause-comes
returns-in-IntOrError-clause-comes g c =
    let s = state_of (g.T.Types.atoms c.args.types.now) c.args.work.now in
    told-by g.T.Types.passes c.args.what.call c.args.receiver.now c.args.what.at s _ c.lift-in-IntOrError.result result.IntOrError c.args.what.count (sym c.in-IntOrError.ensures)
    (lifted-comes c.give_int_or_error.result c.lift-in-IntOrError.result c.lift-in-IntOrError.ensures
    (gives_by c.args.what.count c.args.what.call (λ e. IsPlain (λ x. IsInteger x ⊎ IsError x) e) c.args.what.at) s _ (c.give_int_or_error.ensures.comes (g.T.Types.atoms c.args.types.now)))

pub returns-in-Details-clause-kept : goal.returns-in-Details-clause-kept
returns-in-Details-clause-kept g c = KeepsTypes-same _

pub returns-in-Details-clause-stands : goal.returns-in-Details-clause-stands
returns-in-Details-clause-stands g c =
    lifted-on c.give_detail.result c.lift-in-Details.result c.lift-in-Details.ensures _ (c.give_detail.ensures.stands (g.T.Types.atoms c.args.types.now) c.requires.stands)

pub returns-in-Details-clause-comes : goal.returns-in-Details-clause-comes
returns-in-Details-clause-comes g c =
    let s = state_of (g.T.Types.atoms c.args.types.now) c.args.work.now in
    told-by g.T.Types.passes c.args.what.call c.args.receiver.now c.args.what.at s _ c.lift-in-Details.result result.Details c.args.what.count (sym c.in-Details.ensures)
    (lifted-comes c.give_detail.result c.lift-in-Details.result c.lift-in-Details.ensures (gives_by c.args.what.count c.args.what.call (λ e. IsPlain IsDetail e) c.args.what.at) s _
    (c.give_detail.ensures.comes (g.T.Types.atoms c.args.types.now)))

pub returns-in-ListOf-clause-comes : goal.returns-in-ListOf-clause-comes
returns-in-ListOf-clause-comes g c =
    told-by g.T.Types.passes c.args.what.call c.args.receiver.now c.args.what.at (state_of (g.T.Types.atoms c.args.types.now) c.args.work.now) _ c.list_kind.result (result.ListOf c.in-ListOf.kind)
    c.args.what.count (sym c.in-ListOf.ensures) c.list_kind.ensures.comes
