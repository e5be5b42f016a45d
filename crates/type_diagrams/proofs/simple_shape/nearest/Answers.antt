use Rattle.std.proofs.Common.{rules, ◌≡◌, ◌<ℤ◌, ◌≤ℤ◌, pos, Some, not, w64, to_z, of_z, sym, subst}
use Rattle.type_diagrams.specs.Found.{FindsInt, IsNextToZero}
use Rattle.type_diagrams.proofs.Nearest.{Nearing, answers, back, nearing-start, nearing-step, next-FindsInt}
use Rattle.type_diagrams.proofs.simple_shape.nearest.Goals as goal

pub loop-flip-init : goal.loop-flip-init
loop-flip-init c = nearing-start c.args.first c.args.flips.now c.requires.ints c.requires.above c.requires.rise

pub loop-flip-preserved : goal.loop-flip-preserved
loop-flip-preserved c =
    let low = to_z w64 c.loop-flip.low-bits in
    let p = c.in-Some.flip.now in
    let ps = c.in-Some.behind.now in
    let before = subst (λ rest. Nearing c.args.first c.args.flips.now low c.loop-flip.inside rest) c.in-Some.ensures.cases.0 c.loop-flip.invariant in
    let flip : to_z w64 (of_z w64 p) ≡ p = back p before.ints.0 in
    let t = c.if-flip-gt0.false in
    subst (λ z. Nearing c.args.first c.args.flips.now z (not c.loop-flip.inside) ps) (sym flip)
    (nearing-step c.args.first c.args.flips.now low c.loop-flip.inside p ps before (subst (λ z. z ≤ℤ pos 0) flip (search (rules, t))))

pub returns-then-flip-gt0 : goal.returns-then-flip-gt0
returns-then-flip-gt0 c =
    let low = to_z w64 c.loop-flip.low-bits in
    let p = c.in-Some.flip.now in
    let ps = c.in-Some.behind.now in
    let before = subst (λ rest. Nearing c.args.first c.args.flips.now low c.loop-flip.inside rest) c.in-Some.ensures.cases.0 c.loop-flip.invariant in
    let flip : to_z w64 (of_z w64 p) ≡ p = back p before.ints.0 in
    let t = c.if-flip-gt0.true in
    let e = c.next_to_zero.ensures in
    let found = next-FindsInt c.args.first c.args.flips.now low c.loop-flip.inside p ps before (subst (λ z. pos 0 <ℤ z) flip (search (rules, t))) c.next_to_zero.result (subst (λ z. IsNextToZero low c.loop-flip.inside z c.next_to_zero.result) flip e) in
    subst (λ i. FindsInt (answers c.args.first c.args.flips.now) (Some i)) (sym (back c.next_to_zero.result found.0)) found
