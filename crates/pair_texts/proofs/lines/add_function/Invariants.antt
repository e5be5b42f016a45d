use Rattle.std.proofs.Common.{flat_map, take}
use Rattle.pair_texts.specs.PairText.{function_name, pair_text, workers_of}
use Rattle.text_forms.specs.Forms.{Adds, written}
use Rattle.pair_texts.proofs.lines.add_function.Given as goal

abbrev pub invariant-loop-pair : goal.invariant-loop-pair
invariant-loop-pair l =
    Adds (written l.initial.out) (flat_map (pair_text l.modules (function_name l.modules l.f) (workers_of l.f.body)) (take l.pair-index l.plan.pairs)) (written l.out)
