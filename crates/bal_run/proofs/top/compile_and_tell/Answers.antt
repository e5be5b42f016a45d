use Rattle.std.proofs.Common.{refl, sym, ap, subst, inl}
use Rattle.bal_run.specs.declared.top.Worked.{Worked}
use Rattle.status_texts.specs.Report.{CanReport}
use Rattle.bal_run.proofs.TopFacts.{not-compiled, stop-can-report, told-so}
use Rattle.bal_run.proofs.top.compile_and_tell.Goals as goal

pub returns-in-Ok-clause-due : goal.returns-in-Ok-clause-due
returns-in-Ok-clause-due g c = λ i.
    told-so c.args.telling _ _ c.in-Ok.ready c.told.result c.work_of.result c.in-Ok.ensures.compiled c.in-Ok.ensures.faults c.told.ensures.kept c.told.ensures.counts c.told.ensures.told (refl, refl) c.work_of.ensures

pub returns-in-Ok-clause-text : goal.returns-in-Ok-clause-text
returns-in-Ok-clause-text g c = subst CanReport (sym (ap (λ (w : Worked). w.run.status) c.work_of.ensures)) c.told.ensures.text

pub returns-in-Err-clause-due : goal.returns-in-Err-clause-due
returns-in-Err-clause-due g c = λ i.
    inl (not-compiled _ _ c.not_compiled.result c.in-Err.stop c.in-Err.ensures.compiled c.in-Err.ensures.faults c.not_compiled.ensures (refl, refl) refl refl)

pub returns-in-Err-clause-text : goal.returns-in-Err-clause-text
returns-in-Err-clause-text g c = stop-can-report c.in-Err.stop c.not_compiled.result c.not_compiled.ensures
