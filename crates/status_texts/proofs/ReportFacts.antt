-- What is so of the answer, however the due status was told.
use Rattle.std.proofs.Common.{◌≡◌, ◌≢◌, ◌⊎◌, ℕ, List, [], ◌++◌, Option, Some, None, refl, sym, ap, subst, ◌∙◌, inl, inr, ⊎_elim, append_assoc}
use Rattle.std.proofs.lemmas.List.{append-nil}
use Rattle.bal_io.specs.Content.{Told, Appends, AppendsFront}
use Rattle.bal_io.specs.Faults.{Rises}
use Rattle.status_texts.specs.declared.status.Status.{Status}
use Rattle.status_texts.specs.declared.status.Status.TheVariants.{Done, ErrorReturned, Panicked, Refused, GoesOn, Stalled, FolderFault, InputFault, OutFault, Memory, Words, Limit, DiagFault}
use Rattle.bal_base.specs.declared.fault.LimitKind.TheVariants.{Cells, Strands}
use Rattle.bal_tree.specs.declared.package.Module.{Module}
use Rattle.status_texts.specs.Outside.{SinkTells}
use Rattle.status_texts.specs.Report.{AppendsFronts, CanReport, ComesTo, CountsDiagFaults, Reports, ReportedMemory, ReportedWhole, ReportFailed, WroteFrontsOfTexts}
use Rattle.status_texts.specs.Status.{HasText}

-- ---- what was written

nothing-told : (text : List ℕ) (w v : Option (List ℕ)) → text ≡ [] → Told (Appends text) w v → v ≡ w
nothing-told text (Some a) (Some b) e h = ap Some (h ∙ (ap (λ l. a ++ l) e ∙ append-nil a))
nothing-told text None None e h = refl
nothing-told text (Some a) None e h = absurd h
nothing-told text None (Some b) e h = absurd h

pub told-nothing : (w : Option (List ℕ)) → Told (Appends []) w w
told-nothing (Some a) = sym (append-nil a)
told-nothing None = tt

-- a text whose whole was written, or nothing, as a first part of it
pub whole-front : (text : List ℕ) (w v : Option (List ℕ)) → Told (Appends text) w v → Told (AppendsFront text) w v
whole-front text (Some a) (Some b) e = (text, ([], append-nil text), e)
whole-front text None None e = tt
whole-front text (Some a) None e = absurd e
whole-front text None (Some b) e = absurd e

pub same-front : (text : List ℕ) (w v : Option (List ℕ)) → v ≡ w → Told (AppendsFront text) w v
same-front text (Some a) v e = subst (λ o. Told (AppendsFront text) (Some a) o) (sym e) ([], (text, refl), sym (append-nil a))
same-front text None v e = subst (λ o. Told (AppendsFront text) None o) (sym e) tt

front-behind-nothing : (text other : List ℕ) (w v : Option (List ℕ)) → Told (AppendsFront other) w v → Told (AppendsFronts text other) w v
front-behind-nothing text other (Some a) (Some b) (front, p, e) = ([], front, (text, refl), p, e)
front-behind-nothing text other None None h = tt
front-behind-nothing text other (Some a) None h = absurd h
front-behind-nothing text other None (Some b) h = absurd h

pub both-fronts : (text other : List ℕ) (w v u : Option (List ℕ)) → Told (AppendsFront text) w v → Told (AppendsFront other) v u → Told (AppendsFronts text other) w u
both-fronts text other (Some a) (Some b) (Some c) (first, p, e) (second, q, k) =
    (first, second, p, q, k ∙ (ap (λ l. l ++ second) e ∙ append_assoc a first second))
both-fronts text other None None None h k = tt
both-fronts text other (Some a) (Some b) None h k = absurd k
both-fronts text other (Some a) None u h k = absurd h
both-fronts text other None (Some b) u h k = absurd h
both-fronts text other None None (Some c) h k = absurd k

-- a count that stayed, and then stayed or rose
pub faults-of-two : (old mid new : ℕ) → mid ≡ old → (new ≡ mid) ⊎ Rises mid new → (new ≡ old) ⊎ Rises old new
faults-of-two old mid new e h = subst (λ n. (new ≡ n) ⊎ Rises n new) e h

counts-same : (modules : List Module) (text : List ℕ) (status : Status) (old new : ℕ) → HasText modules status text → new ≡ old → CountsDiagFaults status old new
counts-same modules text Done old new h e = e
counts-same modules text (ErrorReturned m) old new h e = e
counts-same modules text (Panicked m) old new h e = e
counts-same modules text (Refused r) old new h e = e
counts-same modules text (GoesOn n) old new h e = e
counts-same modules text (Stalled r) old new h e = e
counts-same modules text FolderFault old new h e = e
counts-same modules text InputFault old new h e = e
counts-same modules text OutFault old new h e = e
counts-same modules text Memory old new h e = inl e
counts-same modules text Words old new h e = e
counts-same modules text (Limit k) old new h e = e
counts-same modules text DiagFault old new h e = absurd h

-- a status that can be told has a text
pub text-of : (modules : List Module) (status : Status) → CanReport status → (text : List ℕ) × HasText modules status text
text-of modules Done can = (_, refl)
text-of modules (ErrorReturned m) can = (_, refl)
text-of modules (Panicked m) can = (_, refl)
text-of modules (Refused r) can = (_, refl)
text-of modules (GoesOn n) can = (_, refl)
text-of modules (Stalled r) can = (_, refl)
text-of modules FolderFault can = (_, refl)
text-of modules InputFault can = (_, refl)
text-of modules OutFault can = (_, refl)
text-of modules Memory can = (_, refl)
text-of modules Words can = (_, refl)
text-of modules (Limit Cells) can = (_, refl)
text-of modules (Limit Strands) can = (_, refl)
text-of modules DiagFault can = absurd can

-- ---- facts of a report

-- the same where the modules are the same
pub told-of : (modules others : List Module) (due status : Status) (before after : SinkTells) → modules ≡ others → Reports modules due status before after → Reports others due status before after
told-of modules others due status before after e r = subst (λ fs. Reports fs due status before after) e r

module _ (modules : List Module) (due status : Status) (before after : SinkTells) (r : Reports modules due status before after) where
  pub by-report : {P : Type 0} → (ReportedWhole modules due status before after → P) → (ReportFailed modules due status before after → P) → (ReportedMemory modules due status before after → P) → P
  by-report f g h = ⊎_elim f (λ q. ⊎_elim g h q) r

  comes : ComesTo due status
  comes = by-report (λ w. inl w.answer) (λ f. inr (inr (f.answer, f.not_done))) (λ m. inr (inl m.answer))

  was-due : status ≢ DiagFault → status ≢ Memory → due ≡ status
  was-due diag memory = by-report (λ w. sym w.answer) (λ f. absurd (diag f.answer)) (λ m. absurd (memory m.answer))

  pub memory-stays : due ≡ Memory → status ≡ Memory
  memory-stays e = by-report (λ w. absurd (w.no_memory e)) (λ f. absurd (f.no_memory e)) (λ m. m.answer)

  pub counts : CountsDiagFaults status before.faults after.faults
  counts =
      by-report
      (λ w. subst (λ s. CountsDiagFaults s before.faults after.faults) (sym w.answer) (counts-same modules w.written.0 due before.faults after.faults w.written.1 w.faults))
      (λ f. subst (λ s. CountsDiagFaults s before.faults after.faults) (sym f.answer) f.faults)
      (λ m. subst (λ s. CountsDiagFaults s before.faults after.faults) (sym m.answer) m.faults)

  pub done-text : status ≡ Done → after.written ≡ before.written
  done-text e =
      by-report
      (λ w. nothing-told w.written.0 before.written after.written (subst (λ s. HasText modules s w.written.0) (sym w.answer ∙ e) w.written.1) w.written.2)
      (λ f. absurd (let k = f.answer in let bad : ⊥ = cc in bad))
      (λ m. absurd (let k = m.answer in let bad : ⊥ = cc in bad))

  pub fronts : ReportedMemory modules due status before after → WroteFrontsOfTexts modules due before.written after.written
  fronts m =
      ⊎_elim
      (λ h. let front = h.1 in (front.0, front.0, subst (λ s. HasText modules s front.0) (sym h.0) front.1, front.1, front-behind-nothing front.0 front.0 before.written after.written front.2))
      (λ h. h.1)
      m.written

  pub comes-from : (other : Status) → due ≡ other → ComesTo other status
  comes-from other e = subst (λ d. ComesTo d status) e comes

  pub come-or-memory : (other : Status) → (due ≡ other) ⊎ (due ≡ Memory) → ComesTo other status
  come-or-memory other h = ⊎_elim (λ e. comes-from other e) (λ e. inr (inl (memory-stays e))) h

  pub come-or-fail : (other : Status) → (due ≡ other) ⊎ ((due ≡ FolderFault) ⊎ (due ≡ Memory)) → ComesTo other status ⊎ ComesTo FolderFault status
  come-or-fail other h = ⊎_elim (λ e. inl (comes-from other e)) (λ q. inr (come-or-memory FolderFault q)) h

  pub come-or-cut : (one two three : Status) → (due ≡ one) ⊎ ((due ≡ two) ⊎ ((due ≡ three) ⊎ (due ≡ Memory))) → ComesTo one status ⊎ (ComesTo two status ⊎ ComesTo three status)
  come-or-cut one two three h =
      ⊎_elim (λ e. inl (comes-from one e)) (λ q. ⊎_elim (λ e. inr (inl (comes-from two e))) (λ r. inr (inr (come-or-memory three r))) q) h

  -- a status other than those of failed reports was due
  pub due-is : (other : Status) → (other ≡ DiagFault → ⊥) → (other ≡ Memory → ⊥) → status ≡ other → due ≡ other
  due-is other diag memory e = was-due (λ k. diag (sym e ∙ k)) (λ k. memory (sym e ∙ k)) ∙ e
