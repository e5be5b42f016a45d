use Rattle.std.proofs.Common.{◌+◌, take, sym, subst, arith}
use Rattle.std.specs.List.{AllZip}
use Rattle.declared_reads.specs.Declared.{IsBareCapture}
use Rattle.bare_packages.proofs.Bare.{zip-more}
use Rattle.bare_packages.proofs.exprs.captured.Goals as goal

pub loop-c-preserved : goal.loop-c-preserved
loop-c-preserved c =
    subst (λ ys. AllZip IsBareCapture (take (c.loop-c.c-index + 1) c.args.cs.now) ys) (sym c.in_ok-push.ensures.items)
    (zip-more IsBareCapture c.args.cs.now c.loop-c.bare.items c.loop-c.c-index c.c-item.result c.in_ok-capture.field-0 (omega arith) c.c-item.is c.loop-c.invariant c.in_ok-capture.ensures)
