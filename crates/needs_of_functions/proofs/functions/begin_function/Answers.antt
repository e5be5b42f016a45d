use Rattle.std.proofs.Common.{length}
use Rattle.type_model.proofs.Kept.{KeepsTypes-same}
use Rattle.check_words.proofs.Standing.{shared-below}
use Rattle.check_work.specs.Views.{site_of, state_of, unit_of}
use Rattle.needs_of_functions.proofs.Defining.{signature-below}
use Rattle.needs_of_functions.proofs.FunctionsBegun.{function-begins, site-stands}
use Rattle.needs_of_functions.proofs.functions.begin_function.Goals as goal

pub function_site-requires : goal.function_site-requires
function_site-requires g c = c.requires.names

pub returns-in_err-f-clause-kept : goal.returns-in_err-f-clause-kept
returns-in_err-f-clause-kept g c = KeepsTypes-same (g.T.Types.atoms c.args.types.now)

pub returns-in_err-gives-clause-kept : goal.returns-in_err-gives-clause-kept
returns-in_err-gives-clause-kept g c = KeepsTypes-same (g.T.Types.atoms c.args.types.now)

pub returns-in_err-handle-clause-kept : goal.returns-in_err-handle-clause-kept
returns-in_err-handle-clause-kept g c = KeepsTypes-same (g.T.Types.atoms c.args.types.now)

pub returns-in_err-unit-clause-kept : goal.returns-in_err-unit-clause-kept
returns-in_err-unit-clause-kept g c = KeepsTypes-same (g.T.Types.atoms c.args.types.now)

pub returns-clause-stands : goal.returns-clause-stands
returns-clause-stands g c =
    let old = g.T.Types.atoms c.args.types.now in
    let new = g.T.Types.atoms c.function_site.new.types in
    let n = length new in
    let f = signature-below new c.args.names.now c.args.work.now.site.scope.«module» c.args.d.now.name.name c.in_ok-f.f.now c.in_ok-site.ensures.names c.in_ok-f.ensures in
    let gives = c.in_ok-gives.ensures.below n f.2 in
    c.in_ok-open_unit.ensures.stands new
    (c.in_ok-unit.ensures.below n f (shared-below n c.in_ok-gives.gives c.in_ok-handle.handle c.in_ok-handle.ensures gives))
    (site-stands c.args.names.now c.args.d.now (state_of old c.args.work.now) c.in_ok-f.f.now c.in_ok-gives.gives (site_of c.in_ok-site.site) new c.in_ok-site.ensures.is
    c.in_ok-site.ensures.kept c.requires.stands gives)

pub returns-clause-comes : goal.returns-clause-comes
returns-clause-comes g c =
    let old = g.T.Types.atoms c.args.types.now in
    let new = g.T.Types.atoms c.function_site.new.types in
    function-begins c.args.names.now c.args.d.now (state_of old c.args.work.now) c.in_ok-f.f.now c.in_ok-gives.gives (site_of c.in_ok-site.site) new c.in_ok-site.ensures.is
    c.in_ok-handle.handle (unit_of c.in_ok-unit.unit) _ c.in_ok-f.ensures c.in_ok-gives.ensures.is c.in_ok-handle.ensures c.in_ok-unit.ensures.is (c.in_ok-open_unit.ensures.comes new)
