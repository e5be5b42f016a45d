use Rattle.std.proofs.Common.{rules, inl, inr, pos, w64, to_z, of_z, refl, sym, subst}
use Rattle.type_diagrams.specs.Found.{IsNextToZero}
use Rattle.type_diagrams.proofs.Nearest.{below-least, at_least}
use Rattle.type_diagrams.proofs.simple_shape.next_to_zero.Goals as goal

pub returns-then-inside : goal.returns-then-inside
returns-then-inside c = subst (λ b. IsNextToZero c.args.low b c.args.above (pos 0)) (sym c.if-inside.true) refl

pub returns-in-Some : goal.returns-in-Some
returns-in-Some c =
    let h = c.in-Some.ensures in
    let t = c.if-below-above-ge0.true in
    subst (λ b. IsNextToZero c.args.low b c.args.above (to_z w64 (of_z w64 c.in-Some.below))) (sym c.if-inside.false) (inr (search (rules, h), below-least c.args.low (search (rules, h)), search (rules, h, t)))

pub returns-in_default : goal.returns-in_default
returns-in_default c =
    let h = c.in-Some.ensures in
    let t = c.if-below-above-ge0.false in
    subst (λ b. IsNextToZero c.args.low b c.args.above (to_z w64 (of_z w64 c.args.above))) (sym c.if-inside.false) (inl (search rules, inr (search (rules, h, t))))

pub returns-in_default-2 : goal.returns-in_default-2
returns-in_default-2 c =
    let h = c.in_default.ensures in
    subst (λ b. IsNextToZero c.args.low b c.args.above (to_z w64 (of_z w64 c.args.above))) (sym c.if-inside.false) (inl (search rules, inl (at_least c.args.low (search rules) (search (rules, h)))))
