use Rattle.std.proofs.Common.{◌+◌, take, sym, subst, arith}
use Rattle.std.proofs.lemmas.List.Elements.{all_zip_more}
use Rattle.std.specs.List.{AllZip}
use Rattle.check_words.specs.Sharing.{SameVariable}
use Rattle.check_work.proofs.flows.copy_variables.Goals as goal

pub loop-v-preserved : goal.loop-v-preserved
loop-v-preserved c =
    subst (AllZip SameVariable (take (c.loop-v.v-index + 1) c.args.variables.now)) (sym c.in_ok-push.ensures.items)
    (all_zip_more SameVariable c.args.variables.now c.loop-v.copies.items c.loop-v.v-index c.v-item.result c.in_ok-copy_variable.field-0 (omega arith) c.v-item.is c.loop-v.invariant
    c.in_ok-copy_variable.ensures)
