use Rattle.std.proofs.Common.{◌≡◌, ◌≤◌, All, Some, length, refl, rules, slice_get, subst, sym, take}
use Rattle.std.specs.List.{Contains}
use Rattle.std.proofs.lemmas.Option.{get_or_from_slice_get, slice_get_read, slice_get_within}
use Rattle.std.proofs.lemmas.Result.{IfOk-weaker}
use Rattle.graphs.specs.declared.order.Mark.TheVariants.{Done}
use Rattle.graphs.proofs.Walking.{all-done, last-far, walked-moved}
use Rattle.graphs.proofs.order.Walk.go_on.Goals as goal

pub returns-in-Some : goal.returns-in-Some
returns-in-Some c =
    let self = c.args.self.now in
    let step = c.args.step in
    let parts = c.args.parts.now in
    let at = c.next_open-at.result in
    let part = c.in-Some.part.now in
    let found = slice_get_read parts (length parts) at part refl c.in-Some.ensures.lookup.3.0 c.in-Some.ensures.lookup.1 in
    IfOk-weaker c.one_part.result _ _
    (λ going g next passed w e.
    let before = c.next_open-at.ensures.before self.order.items (λ i. (w.done i).0)
    (subst (λ xs. All (Contains self.order.items) (take step.parts xs)) e (last-far next passed self.marks.items self.steps.items self.order.items step w)) in
    g next passed
    (walked-moved next passed self.marks.items self.steps.items self.order.items step (record { number = step.number; parts = at }) w refl
    (subst (λ xs. All (Contains self.order.items) (take at xs)) (sym e) before))
    (subst (λ xs. slice_get xs at ≡ Some part) (sym e) found)
    (λ done. c.next_open-at.ensures.not_done (slice_get_within parts at part found)
    (subst (λ n. slice_get self.marks.items n ≡ Some Done) (sym (get_or_from_slice_get parts at part 0 found)) done)))
    c.one_part.ensures

pub returns-in_ok-close-in-None : goal.returns-in_ok-close-in-None
returns-in_ok-close-in-None c = λ next passed w e.
    let self = c.args.self.now in
    let parts = c.args.parts.now in
    let end : length parts ≤ c.next_open-at.result = search rules in
    let before = c.next_open-at.ensures.before self.order.items (λ i. (w.done i).0)
    (subst (λ xs. All (Contains self.order.items) (take c.args.step.parts xs)) e (last-far next passed self.marks.items self.steps.items self.order.items c.args.step w)) in
    c.in_ok-close-in-None.ensures next passed c.args.step refl w
    (subst (All (Contains self.order.items)) (sym e) (all-done self.order.items parts c.next_open-at.result end before))
