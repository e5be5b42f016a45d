use Rattle.type_diagrams.specs.declared.simple.SimpleSet.{SimpleSet}
use Rattle.type_diagrams.proofs.SimpleSets.{string_in-IsSetOf}
use Rattle.type_diagrams.proofs.simple.SimpleSet.of.Goals as goal

pub returns-in_ok-one_text-in-StringOne : goal.returns-in_ok-one_text-in-StringOne
returns-in_ok-one_text-in-StringOne c =
    let none = c.all-none.result in
    let made : SimpleSet = record { nil = none.nil; no = none.no; yes = none.yes; first = none.first; flips = none.flips; rest = none.rest; texts = c.in_ok-one_text-in-StringOne.field-0 } in
    string_in-IsSetOf c.args.basic.now c.in-StringOne.text made c.in-StringOne.is (λ i. record (c.all-none.ensures.set i) { texts = c.in_ok-one_text-in-StringOne.ensures.texts i }) c.in_ok-one_text-in-StringOne.ensures.text
