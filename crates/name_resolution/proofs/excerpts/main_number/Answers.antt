use Rattle.std.proofs.Common.{◌∙◌, arith, sym}
use Rattle.name_resolution.specs.MainExcerpt.{is_main_in, main_number}
use Rattle.name_resolution.proofs.Seeking.{found-here, found-nowhere, seek-on}
use Rattle.name_resolution.proofs.excerpts.main_number.Goals as goal

pub loop-number-preserved : goal.loop-number-preserved
loop-number-preserved c =
    seek-on (is_main_in c.args.home) c.args.outlines.now (main_number c.args.outlines.now c.args.home) c.loop-number.number c.index-outlines-number.result (grind (arith, c.loop-number-test.true)) c.index-outlines-number.is
    (sym c.is_main_in.ensures ∙ c.if-is_main_in.false) c.loop-number.invariant

pub returns-then-is_main_in-clause-first : goal.returns-then-is_main_in-clause-first
returns-then-is_main_in-clause-first c =
    found-here (is_main_in c.args.home) c.args.outlines.now (main_number c.args.outlines.now c.args.home) c.loop-number.number c.index-outlines-number.result (grind (arith, c.loop-number-test.true)) c.index-outlines-number.is
    (sym c.is_main_in.ensures ∙ c.if-is_main_in.true) c.loop-number.invariant

pub returns-clause-first : goal.returns-clause-first
returns-clause-first c = found-nowhere (is_main_in c.args.home) c.args.outlines.now (main_number c.args.outlines.now c.args.home) c.loop-number.number (omega (arith, c.loop-number-test.false)) c.loop-number.invariant
