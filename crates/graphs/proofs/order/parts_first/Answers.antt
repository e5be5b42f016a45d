use Rattle.std.proofs.Common.{◌++◌, ◌∷◌, ◌+◌, [], map, subst, sym, ◌≤◌}
use Rattle.std.proofs.lemmas.List.{length-map}
use Rattle.graphs.specs.inner.Walks.{IsPath, first_step}
use Rattle.graphs.proofs.Walking.{all-walked, ended, ended-cycle, one-passed}
use Rattle.graphs.proofs.order.parts_first.Goals as goal

pub returns-then-not-branch-clause-cyclic : goal.returns-then-not-branch-clause-cyclic
returns-then-not-branch-clause-cyclic c =
    let next = map (λ v. v.items) c.args.next.now in
    let n = c.loop-number.number in
    let before = c.loop-number.invariant in
    let begins = c.in_ok-begin.ensures next n before.0 (subst (λ ss. IsPath next (ss ++ first_step n ∷ [])) (sym before.1) (tt, tt)) in
    ended-cycle next n c.run.new.self c.in_ok-run.field-0 c.if-not-branch.true (c.in_ok-run.ensures n begins.walked)

pub loop-number-preserved : goal.loop-number-preserved
loop-number-preserved c =
    let next = map (λ v. v.items) c.args.next.now in
    let n = c.loop-number.number in
    let before = c.loop-number.invariant in
    let begins = c.in_ok-begin.ensures next n before.0 (subst (λ ss. IsPath next (ss ++ first_step n ∷ [])) (sym before.1) (tt, tt)) in
    ended next (n + 1) c.run.new.self c.in_ok-run.field-0 c.if-not-branch.false (c.in_ok-run.ensures (n + 1) (one-passed next n c.begin.new.self begins.walked begins.known))

pub returns-clause-found : goal.returns-clause-found
returns-clause-found c =
    let next = map (λ v. v.items) c.args.next.now in
    all-walked next c.loop-number.number c.loop-number.walk c.loop-number.invariant.0 c.loop-number.invariant.1
    (subst (λ n. n ≤ c.loop-number.number) (sym (length-map c.args.next.now (λ v. v.items))) c.loop-number-test.false)
