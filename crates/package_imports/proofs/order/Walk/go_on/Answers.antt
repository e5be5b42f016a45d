use Rattle.std.proofs.Common.{◌≡◌, ◌∙◌, ◌≤◌, ◌++◌, ◌∷◌, [], false, length, ap, refl, rules, subst}
use Rattle.std.proofs.lemmas.Option.{get_or_from_slice_get, slice_get_read, slice_get_within}
use Rattle.package_imports.specs.Order.{has}
use Rattle.package_imports.specs.inner.Walking.{first_step}
use Rattle.package_imports.proofs.Walking.{arrives, leaves}
use Rattle.package_imports.proofs.order.Walk.go_on.Goals as goal

pub returns-in_ok-come-in-Some : goal.returns-in_ok-come-in-Some
returns-in_ok-come-in-Some c = λ graph inside are.
    let self = c.args.self.now in
    let behind = c.args.behind.now in
    let place = c.next_new-place.result in
    let number = c.in-Some.number.now in
    let found = slice_get_read behind (length behind) place number refl c.in-Some.ensures.lookup.3.0 c.in-Some.ensures.lookup.1 in
    let within = slice_get_within behind place number found in
    let is = get_or_from_slice_get behind place number 0 found in
    arrives graph self.come_to.items behind self.steps.items self.left.items c.args.step place number c.come.new.self inside are within is
    (subst (λ n. has self.come_to.items n ≡ false) is (c.next_new-place.ensures.new within)) (λ order after. c.next_new-place.ensures.passes graph order after) c.in_ok-come-in-Some.ensures.come_to
    (c.in_ok-come-in-Some.ensures.steps ∙ ap (λ ss. ss ++ first_step number ∷ []) c.in_ok-push-in-Some.ensures.items) (ap (λ v. v.items) c.in_ok-come-in-Some.ensures.left)

pub returns-in_ok-leave-in-None : goal.returns-in_ok-leave-in-None
returns-in_ok-leave-in-None c = λ graph inside are.
    let self = c.args.self.now in
    let behind = c.args.behind.now in
    let place = c.next_new-place.result in
    let end : length behind ≤ place = search rules in
    leaves graph self.come_to.items behind self.steps.items self.left.items c.args.step place c.leave.new.self are end (λ order after. c.next_new-place.ensures.passes graph order after)
    (ap (λ v. v.items) c.leave.ensures.come_to) (ap (λ v. v.items) c.leave.ensures.steps) c.in_ok-leave-in-None.ensures.left
