use Rattle.std.proofs.Common.{◌≡◌, ◌∙◌, ◌++◌, ◌∷◌, ◌<◌, [], ap, length, map, subst, sym}
use Rattle.std.proofs.lemmas.List.{length-map}
use Rattle.package_imports.specs.Order.{IsEachOnce}
use Rattle.package_imports.specs.inner.Walking.{first_step}
use Rattle.package_imports.proofs.Once.{each-once}
use Rattle.package_imports.proofs.Walking.{all-ordered, first-to-go}
use Rattle.package_imports.proofs.order.module_order.Goals as goal

pub returns-clause-order : goal.returns-clause-order
returns-clause-order c =
    let next = c.args.next.now in
    let graph = map (λ v. v.items) next in
    let came = c.come.new.self in
    let gone = c.run.new.self in
    let long : length next ≡ length graph = sym (length-map next (λ v. v.items)) in
    let come_to : came.come_to.items ≡ 0 ∷ [] = c.in_ok-come.ensures.come_to ∙ ap (λ l. l ++ 0 ∷ []) c.new-walk.ensures.come_to in
    let steps : came.steps.items ≡ first_step 0 ∷ [] = c.in_ok-come.ensures.steps ∙ ap (λ l. l ++ first_step 0 ∷ []) c.new-walk.ensures.steps in
    let left : came.left.items ≡ [] = ap (λ v. v.items) c.in_ok-come.ensures.left ∙ c.new-walk.ensures.left in
    let small = first-to-go graph came.come_to.items came.steps.items (length next) come_to steps c.requires.some long in
    all-ordered graph came.come_to.items came.steps.items came.left.items gone.left.items gone.come_to.items c.close.new.self.left.items (length next) come_to steps left (c.in_ok-run.ensures c.requires.inside small) long
    c.in_ok-close.ensures

pub returns-clause-each : goal.returns-clause-each
returns-clause-each c =
    let next = c.args.next.now in
    let graph = map (λ v. v.items) next in
    let order = c.close.new.self.left.items in
    let long : length graph ≡ length next = length-map next (λ v. v.items) in
    let some : 0 < length graph = subst (λ n. 0 < n) (sym long) c.requires.some in
    subst (λ n. IsEachOnce n order) long (each-once graph order c.requires.inside some (returns-clause-order c))
