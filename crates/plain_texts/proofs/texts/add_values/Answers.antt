use Rattle.op_model.specs.Texts.{text_of}
use Rattle.plain_run.specs.Held.{heap_of}
use Rattle.plain_texts.proofs.Inside.{adds-taken_more}
use Rattle.plain_texts.proofs.texts.add_values.Goals as goal

pub loop-v-preserved : goal.loop-v-preserved
loop-v-preserved c =
    adds-taken_more (text_of (heap_of c.args.heap.now)) c.args.values.now c.loop-v.v-index c.v-item.result _ _ _ c.loop-v-test.true c.v-item.is c.loop-v.invariant c.in_ok-add_value.ensures
