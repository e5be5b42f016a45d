use Rattle.std.proofs.Common.{◌≡◌, refl, sym, subst}
use Rattle.checks.proofs.Steps.{goes_on, some_is, stops}
use Rattle.descriptors.proofs.Yielding.{kept-then}
use Rattle.type_model.specs.Calls.{KeepsTypes}
use Rattle.type_builder.proofs.Built.{comes-handed, results-defined, room-comes, room-so}
use Rattle.type_builder.proofs.building.build_named.Goals as goal

pub returns-in_err-own-clause-comes : goal.returns-in_err-own-clause-comes
returns-in_err-own-clause-comes g c = comes-handed _ _ _ _ _ c.from_residual.ensures (stops _ _ _ _ _ c.in_err-own.ensures.comes)

pub returns-in_err-check_room-clause-comes : goal.returns-in_err-check_room-clause-comes
returns-in_err-check_room-clause-comes g c = comes-handed _ _ _ _ _ c.from_residual-in_err-check_room.ensures
    (goes_on _ _ _ _ _ _ _ c.in_ok-own.ensures.comes (stops _ _ _ _ _ (room-comes c.args.«package».now _ _ _ c.env.ensures c.in_err-check_room.ensures)))

pub define_package-requires-clause-room : goal.define_package-requires-clause-room
define_package-requires-clause-room g c = room-so c.args.«package».now _ _ (room-comes c.args.«package».now _ _ _ c.env.ensures c.in_ok-check_room.ensures)

pub returns-in_err-names-clause-comes : goal.returns-in_err-names-clause-comes
returns-in_err-names-clause-comes g c = comes-handed _ _ _ _ _ c.from_residual-in_err-names.ensures
    (goes_on _ _ _ _ _ _ _ c.in_ok-own.ensures.comes
    (goes_on _ _ _ _ _ _ _ (room-comes c.args.«package».now _ _ _ c.env.ensures c.in_ok-check_room.ensures) (stops _ _ _ _ _ c.in_err-names.ensures.comes)))

pub returns-in_err-names-clause-kept : goal.returns-in_err-names-clause-kept
returns-in_err-names-clause-kept g c = kept-then _ _ _ c.in_ok-own.ensures.kept c.in_err-names.ensures.kept

pub check_main-requires : goal.check_main-requires
check_main-requires g c = record { defined = results-defined (g.T.Types.atoms c.define_package.new.types) c.in_ok-names.names c.args.«package».now.main c.in_ok-names.ensures.names }

pub returns-in_err-check_main-clause-comes : goal.returns-in_err-check_main-clause-comes
returns-in_err-check_main-clause-comes g c = comes-handed _ _ _ _ _ c.from_residual-in_err-check_main.ensures
    (goes_on _ _ _ _ _ _ _ c.in_ok-own.ensures.comes
    (goes_on _ _ _ _ _ _ _ (room-comes c.args.«package».now _ _ _ c.env.ensures c.in_ok-check_room.ensures) (goes_on _ _ _ _ _ _ _ c.in_ok-names.ensures.comes
    (stops _ _ _ _ _ c.in_err-check_main.ensures.comes))))

pub returns-in_err-check_main-clause-kept : goal.returns-in_err-check_main-clause-kept
returns-in_err-check_main-clause-kept g c = subst (KeepsTypes (g.T.Types.atoms c.args.types.now)) (sym c.in_err-check_main.ensures.atoms) (kept-then _ _ _ c.in_ok-own.ensures.kept c.in_ok-names.ensures.kept)

pub returns-clause-comes : goal.returns-clause-comes
returns-clause-comes g c =
    goes_on _ _ _ _ _ _ _ c.in_ok-own.ensures.comes
    (goes_on _ _ _ _ _ _ _ (room-comes c.args.«package».now _ _ _ c.env.ensures c.in_ok-check_room.ensures) (goes_on _ _ _ _ _ _ _ c.in_ok-names.ensures.comes
    (goes_on _ _ _ _ _ _ _ c.in_ok-check_main.ensures.comes (some_is (λ s a. a ≡ c.in_ok-names.names) _ _ c.in_ok-names.names refl refl))))

pub returns-clause-kept : goal.returns-clause-kept
returns-clause-kept g c = subst (KeepsTypes (g.T.Types.atoms c.args.types.now)) (sym c.in_ok-check_main.ensures.atoms) (kept-then _ _ _ c.in_ok-own.ensures.kept c.in_ok-names.ensures.kept)
