use Rattle.std.proofs.Common.{◌∙◌, ap, map, subst, sym}
use Rattle.std.specs.List.{AllZip}
use Rattle.std.specs.Prelude.{All, IsSomeAnd, slice_get}
use Rattle.stack_code.specs.Tables.{HasTestedMembers}
use Rattle.lower_expr.specs.Drafts.{making_of}
use Rattle.lower_model.specs.Assembled.{HasUnits, bodies_of}
use Rattle.lower_model.specs.Making.{firsts_made, place_of, units_made}
use Rattle.lower_model.specs.Whole.{HasInherentOf, IsLowered}
use Rattle.package_units.specs.Held.{tree_of}
use Rattle.package_units.specs.Noted.{AreAll}
use Rattle.code_assembly.specs.Unit.{IsUnitOf}
use Rattle.lower_package.specs.Completed.{completed, over}
use Rattle.tested_types.specs.Asked.{TestsWhatItAsks}
use Rattle.lower_package.proofs.Naming.{agrees-over, has-inherent, named-by, still-agrees}
use Rattle.lower_package.proofs.Testing.{members-tested, tests}
use Rattle.lower_package.proofs.UnitsTurning.{is-lowered}
use Rattle.lower_package.proofs.packages.code_of.Goals as goal

pub returns-clause-lowered : goal.returns-clause-lowered
returns-clause-lowered c =
    let m = making_of c.lay_all.new.draft in
    let code = completed c.in_ok-code.code c.in_ok-found.found.items c.args.given.items in
    subst (λ x. IsLowered x.atoms c.args.package.now x) (sym c.complete.ensures)
    (is-lowered c.args.package.now (map tree_of c.deref.result.now) (subst (λ us. HasUnits c.args.package.now (map tree_of us)) (sym c.deref.ensures.value) c.in_ok-us.ensures.units) m
    (c.in_ok-laid.ensures.made ∙ ap (units_made (bodies_of (map tree_of c.deref.result.now))) c.fresh-draft.ensures) _ c.in_ok-laid.ensures.trees
    (c.in_ok-laid.ensures.firsts ∙ ap (firsts_made (bodies_of (map tree_of c.deref.result.now))) c.fresh-draft.ensures) code
    (still-agrees c.in_ok-code.code c.in_ok-found.found.items c.args.given.items (place_of m) m c.in_ok-code.ensures.made)
    (subst (λ ls. AllZip IsUnitOf ls code.units) c.deref-6.ensures.value c.in_ok-code.ensures.units)
    c.in_ok-code.ensures.variables c.in_ok-code.ensures.initialisers c.in_ok-code.ensures.start c.in_ok-code.ensures.words)

pub returns-clause-over : goal.returns-clause-over
returns-clause-over c =
    let m = making_of c.lay_all.new.draft in
    let made = completed c.in_ok-code.code c.in_ok-found.found.items c.args.given.items in
    let code = over c.args.atoms.now made in
    subst (λ x. IsLowered c.args.atoms.now c.args.package.now (over c.args.atoms.now x)) (sym c.complete.ensures)
    (is-lowered c.args.package.now (map tree_of c.deref.result.now) (subst (λ us. HasUnits c.args.package.now (map tree_of us)) (sym c.deref.ensures.value) c.in_ok-us.ensures.units) m
    (c.in_ok-laid.ensures.made ∙ ap (units_made (bodies_of (map tree_of c.deref.result.now))) c.fresh-draft.ensures) _ c.in_ok-laid.ensures.trees
    (c.in_ok-laid.ensures.firsts ∙ ap (firsts_made (bodies_of (map tree_of c.deref.result.now))) c.fresh-draft.ensures) code
    (agrees-over made c.args.atoms.now (place_of m) m (still-agrees c.in_ok-code.code c.in_ok-found.found.items c.args.given.items (place_of m) m c.in_ok-code.ensures.made))
    (subst (λ ls. AllZip IsUnitOf ls code.units) c.deref-6.ensures.value c.in_ok-code.ensures.units)
    c.in_ok-code.ensures.variables c.in_ok-code.ensures.initialisers c.in_ok-code.ensures.start c.in_ok-code.ensures.words)

pub returns-clause-inherent : goal.returns-clause-inherent
returns-clause-inherent c =
    let us = map tree_of c.deref.result.now in
    subst (HasInherentOf c.args.package.now) (sym c.complete.ensures)
    (has-inherent c.args.package.now us (subst (λ us. HasUnits c.args.package.now (map tree_of us)) (sym c.deref.ensures.value) c.in_ok-us.ensures.units)
    (subst (λ us. AreAll c.args.package.now (map tree_of us)) (sym c.deref.ensures.value) c.in_ok-us.ensures.all) (making_of c.lay_all.new.draft)
    (c.in_ok-laid.ensures.made ∙ ap (units_made (bodies_of us)) c.fresh-draft.ensures) c.args.atoms.now c.in_ok-code.code c.in_ok-found.found.items c.args.given.items c.in_ok-code.ensures.atoms
    (named-by c.args.package.now c.deref.result.now c.deref-2.result.now c.lay_all.new.draft c.deref-3.result.now c.args.atoms.now c.in_ok-found.found.items (c.deref-2.ensures.value ∙ sym c.deref.ensures.value) c.deref-3.ensures.value c.in_ok-found.ensures.inherent))

pub returns-clause-tested : goal.returns-clause-tested
returns-clause-tested c =
    subst TestsWhatItAsks (sym c.complete.ensures)
    (tests c.lay_all.new.draft c.deref-4.result.now c.args.atoms.now c.in_ok-code.code c.in_ok-found.found.items c.deref-5.result.now c.args.given.items c.in_ok-types.types.items c.deref-4.ensures.value c.deref-5.ensures.value c.in_ok-code.ensures.made c.in_ok-code.ensures.atoms c.in_ok-code.ensures.tested
    c.in_ok-types.ensures.once c.in_ok-types.ensures.are c.in_ok-types.ensures.defined)

pub returns-clause-members : goal.returns-clause-members
returns-clause-members c =
    subst (λ code. All (λ a. IsSomeAnd (slice_get code.atoms a) (HasTestedMembers code)) code.inherent) (sym c.complete.ensures)
    (members-tested c.lay_all.new.draft c.deref-4.result.now c.args.atoms.now c.in_ok-code.code c.in_ok-found.found.items c.deref-5.result.now c.args.given.items c.in_ok-types.types.items c.deref-4.ensures.value c.deref-5.ensures.value c.in_ok-code.ensures.made c.in_ok-code.ensures.atoms c.in_ok-code.ensures.tested
    c.in_ok-types.ensures.once c.in_ok-types.ensures.are c.in_ok-types.ensures.defined)

pub returns-clause-maps : goal.returns-clause-maps
returns-clause-maps c = ap (λ code. code.maps) c.complete.ensures
