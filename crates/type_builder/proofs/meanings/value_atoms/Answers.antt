use Rattle.std.proofs.Common.{subst, sym}
use Rattle.descriptors.proofs.Drafting.{drafts-ran_out, handed-on}
use Rattle.type_model.specs.Places.{HasDistinctFields}
use Rattle.type_builder.proofs.Meant.{arguments-stop, arrow-stops, as-atom, future-stops, lists-stop, values-come}
use Rattle.type_builder.proofs.meanings.value_atoms.Goals as goal

pub returns-in_err-others : goal.returns-in_err-others
returns-in_err-others c = λ names scope. handed-on _ _ _ _ _ _ _ c.from_residual.ensures (drafts-ran_out _ _ _ _)

pub returns-in_err-awaited : goal.returns-in_err-awaited
returns-in_err-awaited c = λ names scope. handed-on _ _ _ _ _ _ _ c.from_residual-in_err-awaited.ensures (drafts-ran_out _ _ _ _)

pub returns-in_err-arguments : goal.returns-in_err-arguments
returns-in_err-arguments c = λ names scope. handed-on _ _ _ _ _ _ _ c.from_residual-in_err-arguments.ensures
    (arguments-stop names scope c.args.d.now c.args.fixed c.args.rest c.args.given _ _ _ c.in_err-arguments.ensures)

pub returns-in_err-arrow : goal.returns-in_err-arrow
returns-in_err-arrow c = λ names scope. handed-on _ _ _ _ _ _ _ c.from_residual-in_err-arrow.ensures
    (arrow-stops names scope c.args.d.now c.args.fixed c.args.rest c.args.given _ _ _ c.in_ok-arguments.ensures _ _ c.in_err-arrow.ensures)

pub atom-requires-3 : goal.atom-requires-3
atom-requires-3 c = subst HasDistinctFields (sym c.rest_lists.ensures) tt

pub returns-in_err-lists : goal.returns-in_err-lists
returns-in_err-lists c = λ names scope. handed-on _ _ _ _ _ _ _ c.from_residual-in_err-lists.ensures
    (lists-stop names scope c.args.d.now c.args.fixed c.args.rest c.args.given _ _ _ c.in_ok-arguments.ensures _ _ c.in_ok-arrow.ensures c.in_ok-others.others c.in_ok-others.ensures _ _
    (as-atom c.args.d.now.at _ _ _ _ _ c.rest_lists.ensures c.in_err-lists.ensures))

pub returns-in_err-future : goal.returns-in_err-future
returns-in_err-future c = λ names scope. handed-on _ _ _ _ _ _ _ c.from_residual-in_err-future.ensures
    (future-stops names scope c.args.d.now c.args.fixed c.args.rest c.args.given _ _ _ c.in_ok-arguments.ensures _ _ c.in_ok-arrow.ensures c.in_ok-others.others c.in_ok-others.ensures _ _
    (as-atom c.args.d.now.at _ _ _ _ _ c.rest_lists.ensures c.in_ok-lists.ensures) c.in_ok-awaited.awaited c.in_ok-awaited.ensures _ _ c.in_err-future.ensures)

pub returns : goal.returns
returns c = λ names scope.
    values-come names scope c.args.d.now c.args.fixed c.args.rest c.args.given _ _ _ c.in_ok-arguments.ensures _ _ c.in_ok-arrow.ensures c.in_ok-others.others c.in_ok-others.ensures _ _
    (as-atom c.args.d.now.at _ _ _ _ _ c.rest_lists.ensures c.in_ok-lists.ensures) c.in_ok-awaited.awaited c.in_ok-awaited.ensures _ _ c.in_ok-future.ensures
