-- The status that is due of a run, by what became of it.
use Rattle.std.proofs.Common.{ℕ, List, [], Option, Some, None, refl, sym, subst, inl, inr, ⊎_elim}
use Rattle.std.specs.Prelude.{Result, Ok, Err}
use Rattle.bal_base.specs.declared.stop.Stop.{Stop}
use Rattle.bal_base.specs.declared.stop.Stop.TheVariants.{Memory as OutOfMemory, Fault}
use Rattle.bal_base.specs.declared.text.Text.{Text}
use Rattle.bal_io.specs.Content.{LosesFront, Told}
use Rattle.bal_tree.specs.declared.package.Package.{Package}
use Rattle.descriptors.specs.Described.{Atoms}
use Rattle.machine_model.specs.Outcomes as model
use Rattle.machine_model.specs.Outcomes.{Ending, ReturnsNil, ReturnsError, Panics, Stalls, Passes}
use Rattle.package_runs.specs.Ended.{Ended, IsNotBegun, IsTooLarge}
use Rattle.package_runs.specs.Outside.{CountsRunFaults}
use Rattle.package_runs.specs.Outside as run
use Rattle.package_runs.specs.declared.accepted.RunFault.{RunFault}
use Rattle.package_runs.specs.declared.accepted.RunFault.TheVariants as fault
use Rattle.code_steps.specs.Ended.{ending_of, outcome_of}
use Rattle.code_steps.specs.declared.outcome.Outcome.{Outcome}
use Rattle.type_diagrams.specs.Reach.{Passes as PassesLimit}
use Rattle.type_model.specs.declared.answers.TypeLimit.{TypeLimit}
use Rattle.typed_tree.specs.declared.package.TypedPackage.{TypedPackage}
use Rattle.status_texts.specs.Report.{CanReport}
use Rattle.folder_programs.specs.Runs.{IsRunOf, IsStatusOfStop, RunEnded, status_of}
use Rattle.status_texts.specs.declared.status.Run.{Run}
use Rattle.status_texts.specs.declared.status.Status.{Status}

loses-nothing : (w : Option (List ℕ)) → Told LosesFront w w
loses-nothing (Some a) = ([], refl)
loses-nothing None = tt

-- where a question is too large nothing was begun
pub large-unbegun : (atoms : Atoms) (typed : TypedPackage) (before after : run.Outside) (limit : TypeLimit) → IsTooLarge PassesLimit atoms before after limit → IsNotBegun typed before after
large-unbegun atoms typed before after limit h =
    record {
      nothing = h.nothing;
      input = record { untouched = λ no. h.unread; part = subst (Told LosesFront before.rest) (sym h.unread) (loses-nothing before.rest) };
    }

module _ (atoms : Atoms) (source : Package) (typed : TypedPackage) (words : List Text) (ticks seed : ℕ) (before after : run.Outside) where
  pub ran-so : (result : Result Outcome (Stop RunFault)) (run : Run) → Ended PassesLimit atoms typed words ticks seed before after result → CountsRunFaults before after result → IsRunOf source ticks result run → RunEnded atoms typed words ticks seed before after run run.status
  ran-so (Ok o) run h fine is =
      ⊎_elim
      (λ e. inl (record { outcome = outcome_of o; ran = h; status = e; turns = is.2; spent = is.3; fine = fine }))
      (λ m. inr (inr (inr (inr (record { status = m; part = inr (inr (outcome_of o, h)); fine = fine })))))
      is.1
  ran-so (Err OutOfMemory) run h fine is =
      inr (inr (inr (inr (record { status = is.1; part = ⊎_elim (λ n. inl n) (λ c. inr (inl c)) h; fine = fine }))))
  ran-so (Err (Fault fault.Input)) run h counts is = inr (inl (record { status = is.1; rises = counts.0; out = counts.1; asks = h.0; part = h.1 }))
  ran-so (Err (Fault fault.Output)) run h counts is = inr (inr (inl (record { status = is.1; rises = counts.1; input = counts.0; part = h })))
  ran-so (Err (Fault (fault.Types limit))) run h fine is =
      ⊎_elim
      (λ e. inr (inr (inr (inl (record { status = e; limit = limit; passes = h; fine = fine })))))
      (λ m. inr (inr (inr (inr (record { status = m; part = inl (large-unbegun atoms typed before after limit h); fine = fine })))))
      is.1

-- ---- it has a text

end-can-report : (ticks : ℕ) (e : Ending) → CanReport (status_of ticks e)
end-can-report ticks ReturnsNil = tt
end-can-report ticks (ReturnsError m) = tt
end-can-report ticks (Panics m) = tt
end-can-report ticks (Stalls ring) = tt
end-can-report ticks model.GoesOn = tt
end-can-report ticks (Passes limit) = tt

stop-can-report : (stop : Stop RunFault) (status : Status) → IsStatusOfStop stop status → CanReport status
stop-can-report OutOfMemory status e = subst CanReport (sym e) tt
stop-can-report (Fault fault.Input) status e = subst CanReport (sym e) tt
stop-can-report (Fault fault.Output) status e = subst CanReport (sym e) tt
stop-can-report (Fault (fault.Types limit)) status h = ⊎_elim (λ e. subst CanReport (sym e) tt) (λ e. subst CanReport (sym e) tt) h

pub run-can-report : (source : Package) (ticks : ℕ) (result : Result Outcome (Stop RunFault)) (run : Run) → IsRunOf source ticks result run → CanReport run.status
run-can-report source ticks (Ok o) run is =
    ⊎_elim (λ e. subst CanReport (sym e) (end-can-report ticks (ending_of o.ending))) (λ m. subst CanReport (sym m) tt) is.1
run-can-report source ticks (Err stop) run is = stop-can-report stop run.status is.1
