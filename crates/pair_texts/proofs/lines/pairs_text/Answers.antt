use Rattle.std.proofs.Common.{flat_map, subst, zip}
use Rattle.pair_texts.specs.PairText.{function_text, pairs_text}
use Rattle.text_forms.specs.Forms.{Adds, written}
use Rattle.text_forms.proofs.Adding.{adds-first}
use Rattle.pair_texts.proofs.lines.pairs_text.Goals as goal

pub returns : goal.returns
returns c =
    adds-first c.new-out.result c.add_functions.new.out (pairs_text c.args.«package».now c.args.plans.now c.args.modules.now) c.new-out.ensures.bytes
    (subst (λ fs. Adds (written c.new-out.result) (flat_map (function_text c.args.modules.now) (zip fs c.args.plans.now)) (written c.add_functions.new.out)) c.as_slice.ensures.value c.in_ok-add_functions.ensures)
