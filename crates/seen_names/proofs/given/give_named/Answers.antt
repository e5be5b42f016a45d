use Rattle.std.proofs.Common.{◌∙◌, All, Err, None, Ok, ap, length, map, subst, sym}
use Rattle.checks.specs.Checks.{Comes}
use Rattle.check_words.specs.Seen.{seen_as}
use Rattle.check_words.specs.Stands.{PartBelow}
use Rattle.check_words.specs.Values.{gives_named}
use Rattle.check_words.proofs.Standing.{also-has, stands-found, unit-has}
use Rattle.check_work.specs.Views.{site_of, state_of, unit_of}
use Rattle.check_work.proofs.Noting.{at-hand}
use Rattle.seen_names.specs.Given.{SeenBelow}
use Rattle.seen_names.specs.Views.{seen_of}
use Rattle.seen_names.proofs.Putting.{handed-stop}
use Rattle.seen_names.proofs.SeenAtoms.{named-puts, seen-below}
use Rattle.seen_names.proofs.given.give_named.Goals as goal

pub returns-in_err-part-clause-comes : goal.returns-in_err-part-clause-comes
returns-in_err-part-clause-comes c = λ env.
    let s = state_of env c.args.work.now in
    handed-stop (gives_named c.args.names.now c.args.name.now) s s c.in_err-part.field-0.0 _ c.from_residual-in_err-part.ensures
    (named-puts c.args.names.now c.args.name.now s (map unit_of c.args.work.now.around.items) (unit_of c.in_ok-unit.unit.now) (at-hand _ _ _ c.in_ok-unit.ensures) (seen_of c.seen_as-seen.result)
    (c.seen_as-seen.ensures ∙ ap (λ vs. seen_as c.args.names.now (site_of c.args.work.now.site) vs c.args.name.now) c.as_slice-variables.ensures.value) (Err c.in_err-part.field-0.0)
    c.in_err-part.ensures.puts)

pub returns-clause-stands : goal.returns-clause-stands
returns-clause-stands c = λ env are h.
    let s = state_of env c.args.work.now in
    let u = unit_of c.in_ok-unit.unit.now in
    let below = unit-has (length env) s.units (map unit_of c.args.work.now.around.items) u (at-hand _ _ _ c.in_ok-unit.ensures) h.units in
    stands-found s h _
    (subst (All (PartBelow (length env))) (sym c.in_ok-push.ensures.items)
    (also-has (PartBelow (length env)) s.found c.in_ok-part.part h.found
    (c.in_ok-part.ensures.below (length env)
    (subst (SeenBelow (length env)) (sym (c.seen_as-seen.ensures ∙ ap (λ vs. seen_as c.args.names.now (site_of c.args.work.now.site) vs c.args.name.now) c.as_slice-variables.ensures.value))
    (seen-below env c.args.names.now are s.site u.flow.variables c.args.name.now below.flow)))))

pub returns-clause-comes : goal.returns-clause-comes
returns-clause-comes c = λ env.
    let s = state_of env c.args.work.now in
    subst (λ es. Comes (gives_named c.args.names.now c.args.name.now) s (Ok tt) (record s { found = es; ways = None })) (sym c.in_ok-push.ensures.items)
    (named-puts c.args.names.now c.args.name.now s (map unit_of c.args.work.now.around.items) (unit_of c.in_ok-unit.unit.now) (at-hand _ _ _ c.in_ok-unit.ensures) (seen_of c.seen_as-seen.result)
    (c.seen_as-seen.ensures ∙ ap (λ vs. seen_as c.args.names.now (site_of c.args.work.now.site) vs c.args.name.now) c.as_slice-variables.ensures.value) (Ok c.in_ok-part.part)
    c.in_ok-part.ensures.puts)
