use Rattle.std.specs.Prelude.{All}
use Rattle.isolation_check.specs.Isolated.{own_parts}
use Rattle.isolation_check.specs.Parts.{function_parts}
use Rattle.std.proofs.Common.{ap, Some, length, refl, subst, sym, ◌≡◌}
use Rattle.std.specs.Prelude.{slice_get}
use Rattle.std.proofs.lemmas.List.Elements.{All-get_or}
use Rattle.std.proofs.lemmas.Option.{slice_get_read}
use Rattle.isolation_check.specs.Typed.{PartBelow}
use Rattle.isolation_check.specs.Walk.{body}
use Rattle.isolation_check.specs.inner.Views.{parts_of}
use Rattle.isolation_check.proofs.Stepping.{opened-below, opens-body, parts-at}
use Rattle.isolation_check.proofs.walk.Walk.enter.Goals as goal

pub returns-clause-stack : goal.returns-clause-stack
returns-clause-stack c =
    let fs = c.deref.result.now in
    let at : slice_get c.args.bodies.«package».now.functions.items c.args.unit ≡ Some c.in-Some.f.now =
    subst (λ l. slice_get l c.args.unit ≡ Some c.in-Some.f.now) c.deref.ensures.value (slice_get_read fs (length fs) c.args.unit c.in-Some.f.now refl c.in-Some.ensures.lookup.3.0 c.in-Some.ensures.lookup.1) in
    let ps = c.args.bodies.parts.now in
    let there : slice_get ps c.args.unit ≡ Some c.in-Some-get.parts.now =
    slice_get_read ps (length ps) c.args.unit c.in-Some-get.parts.now refl c.in-Some-get.ensures.lookup.3.0 c.in-Some-get.ensures.lookup.1 in
    let same = parts-at c.args.bodies c.args.unit c.in-Some.f.now c.in-Some-get.parts.now c.requires.parts at there in
    opens-body c.args.bodies c.args.unit c.in-Some.f.now c.args.self.now.stack.items _ _ c.args.from _ at c.in_ok-push.ensures.items c.in_ok-push-2.ensures.items
    (subst (λ xs. body (Some c.in-Some.f.now.name) (parts_of xs) ≡ body (Some c.in-Some.f.now.name) (own_parts (function_parts c.in-Some.f.now))) (sym c.as_slice.ensures.value) (ap (body (Some c.in-Some.f.now.name)) same))

pub returns-clause-below : goal.returns-clause-below
returns-clause-below c = λ n all one each.
    let ps = c.args.bodies.parts.now in
    opened-below n c.args.self.now.stack.items _ _ c.args.from _ c.in_ok-push.ensures.items c.in_ok-push-2.ensures.items all one
    (subst (λ xs. All (PartBelow n) (parts_of xs)) (sym c.as_slice.ensures.value)
    (subst (λ v. All (PartBelow n) (parts_of v.items)) (sym c.in-Some-get.ensures.lookup.1) (All-get_or (λ v. All (PartBelow n) (parts_of v.items)) ps c.args.unit c.in-Some-get.parts.now c.in-Some-get.ensures.lookup.3.0 each)))
