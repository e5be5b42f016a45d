use Rattle.std.proofs.Common.{rules, ◌≡◌, [], ℤ, pos, ◌-ℤ◌, not, w64, to_z, of_z, sym, subst, ◌∙◌}
use Rattle.std.proofs.lemmas.Int.{to_z-of_z}
use Rattle.std.proofs.lemmas.List.{nil_from_length}
use Rattle.bal_base.specs.Valid.{IsInt}
use Rattle.type_model.specs.declared.basic.BasicSet.TheVariants.{IntRange}
use Rattle.type_diagrams.proofs.Shapes.{IfOk-map}
use Rattle.type_diagrams.proofs.WrittenSets.{Ranging, adds_if, ranging-start, ranging-step, ranging-end, before-IsInt}
use Rattle.type_diagrams.proofs.simple_type.push_ranges.Goals as goal

pub loop-flip-init : goal.loop-flip-init
loop-flip-init c = ranging-start c.args.first c.args.flips.now c.args.sets.now.items c.requires.ints c.requires.above c.requires.rise

-- an int that is written and read back
back : (z : ℤ) → IsInt z → to_z w64 (of_z w64 z) ≡ z
back z fits = to_z-of_z w64 z (search rules)

pub loop-flip-preserved : goal.loop-flip-preserved
loop-flip-preserved c =
    let now = c.loop-flip.sets.items in
    let low = to_z w64 c.loop-flip.low-bits in
    let p = c.in-Some.flip.now in
    let before = subst (λ rest. Ranging c.args.first c.args.flips.now c.args.sets.now.items now low c.loop-flip.inside rest) c.in-Some.ensures.cases.0 c.loop-flip.invariant in
    let flip : to_z w64 (of_z w64 p) ≡ p = back p before.ints.0 in
    let under : to_z w64 (of_z w64 (to_z w64 (of_z w64 p) -ℤ pos 1)) ≡ p -ℤ pos 1 =
    (λ j. to_z w64 (of_z w64 (flip j -ℤ pos 1))) ∙ back (p -ℤ pos 1) (before-IsInt low p c.in-Some.behind.now before.fits before.ints.0 before.above) in
    subst (λ z. Ranging c.args.first c.args.flips.now c.args.sets.now.items c.push_if.new.sets.items z (not c.loop-flip.inside) c.in-Some.behind.now) (sym flip)
    (ranging-step c.args.first c.args.flips.now c.args.sets.now.items now c.push_if.new.sets.items low c.loop-flip.inside p c.in-Some.behind.now before
    (c.in_ok-push_if.ensures ∙ (λ j. adds_if c.loop-flip.inside now (IntRange low (under j)))))

pub returns : goal.returns
returns c =
    let none : c.loop-flip.rest.now ≡ [] = nil_from_length c.loop-flip.rest.now c.in_default.ensures.cases in
    let before = subst (λ rest. Ranging c.args.first c.args.flips.now c.args.sets.now.items c.loop-flip.sets.items (to_z w64 c.loop-flip.low-bits) c.loop-flip.inside rest) none c.loop-flip.invariant in
    IfOk-map (λ _. c.push_if-2.new.sets.items ≡ _) _ (λ _ is. ranging-end c.args.first c.args.flips.now c.args.sets.now.items c.loop-flip.sets.items c.push_if-2.new.sets.items (to_z w64 c.loop-flip.low-bits) c.loop-flip.inside before
    is)
    c.push_if-2.result c.push_if-2.ensures
