use Rattle.std.proofs.Common.{◌∙◌, ap, length, map, subst, sym}
use Rattle.check_words.specs.Calls.{calls_named}
use Rattle.check_words.specs.Seen.{seen_as}
use Rattle.check_words.proofs.Standing.{unit-has}
use Rattle.check_work.specs.Views.{site_of, state_of, unit_of}
use Rattle.check_work.proofs.Noting.{at-hand}
use Rattle.seen_names.specs.Given.{SeenBelow}
use Rattle.seen_names.specs.Views.{seen_of}
use Rattle.seen_names.proofs.Putting.{handed-stop}
use Rattle.seen_names.proofs.SeenAtoms.{seen-below}
use Rattle.needs_of_calls.proofs.Naming.{named-comes, named-stops}
use Rattle.needs_of_calls.proofs.named.call_named.Goals as goal

pub returns-in_err-what-clause-comes : goal.returns-in_err-what-clause-comes
returns-in_err-what-clause-comes g c =
    let s = state_of (g.T.Types.atoms c.args.types.now) c.args.work.now in
    handed-stop (calls_named g.T.Types.passes c.args.names.now c.args.named.started c.args.name.now c.args.named.count c.args.named.at) s s c.in_err-what.field-0.0 _
    c.from_residual-in_err-what.ensures
    (named-stops g.T.Types.passes c.args.names.now c.args.named.started c.args.name.now c.args.named.count c.args.named.at s (map unit_of c.args.work.now.around.items)
    (unit_of c.in_ok-unit.unit.now) (at-hand _ _ _ c.in_ok-unit.ensures) (seen_of c.seen_as-seen.result)
    (c.seen_as-seen.ensures ∙ ap (λ vs. seen_as c.args.names.now (site_of c.args.work.now.site) vs c.args.name.now) c.as_slice-variables.ensures.value) c.in_err-what.field-0.0
    c.in_err-what.ensures.is)

pub call-requires-clause-below : goal.call-requires-clause-below
call-requires-clause-below g c =
    let env = g.T.Types.atoms c.args.types.now in
    let s = state_of env c.args.work.now in
    let u = unit_of c.in_ok-unit.unit.now in
    let known = unit-has (length env) s.units (map unit_of c.args.work.now.around.items) u (at-hand _ _ _ c.in_ok-unit.ensures) c.requires.stands.units in
    c.in_ok-what.ensures.below (length env)
    (subst (SeenBelow (length env)) (sym (c.seen_as-seen.ensures ∙ ap (λ vs. seen_as c.args.names.now (site_of c.args.work.now.site) vs c.args.name.now) c.as_slice-variables.ensures.value))
    (seen-below env c.args.names.now c.requires.names s.site u.flow.variables c.args.name.now known.flow))

pub returns-clause-comes : goal.returns-clause-comes
returns-clause-comes g c =
    let s = state_of (g.T.Types.atoms c.args.types.now) c.args.work.now in
    named-comes g.T.Types.passes c.args.names.now c.args.named.started c.args.name.now c.args.named.count c.args.named.at s (map unit_of c.args.work.now.around.items)
    (unit_of c.in_ok-unit.unit.now) (at-hand _ _ _ c.in_ok-unit.ensures) (seen_of c.seen_as-seen.result)
    (c.seen_as-seen.ensures ∙ ap (λ vs. seen_as c.args.names.now (site_of c.args.work.now.site) vs c.args.name.now) c.as_slice-variables.ensures.value) _ _ c.in_ok-what.what
    c.in_ok-what.ensures.is c.call.ensures.comes
