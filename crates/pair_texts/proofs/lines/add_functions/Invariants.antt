use Rattle.std.proofs.Common.{flat_map, take, zip}
use Rattle.pair_texts.specs.PairText.{function_text}
use Rattle.pair_texts.specs.inner.Spots.{Stands}
use Rattle.text_forms.specs.Forms.{Adds, written}
use Rattle.pair_texts.proofs.lines.add_functions.Given as goal

abbrev pub invariant-loop-i : goal.invariant-loop-i
invariant-loop-i l =
    record {
      told : Adds (written l.initial.out) (flat_map (function_text l.modules) (take l.i (zip l.functions l.plans))) (written l.out);
      stands : Stands l.modules l.spot;
    }
