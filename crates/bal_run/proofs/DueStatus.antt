-- The cause of a status that is due, and another answer of the same run.
use Rattle.std.proofs.Common.{◌≡◌, ◌⊎◌, ℕ, List, Bool, true, false, encode_utf8_all, refl, sym, ap, subst, ◌∙◌, inl, inr, ⊎_elim}
use Rattle.std.specs.Prelude.{String}
use Rattle.std.specs.Global.{Global}
use Rattle.bal_base.specs.declared.text.Text.{Text}
use Rattle.bal_tree.specs.declared.package.Module.{Module}
use Rattle.command_words.specs.Commands.{Purpose, Request}
use Rattle.command_words.specs.Commands as command
use Rattle.command_words.proofs.One.{command-one}
use Rattle.machine_model.specs.Outcomes as model
use Rattle.machine_model.specs.Outcomes.{Ending, ReturnsNil, ReturnsError, Panics, Stalls, Passes}
use Rattle.status_texts.specs.declared.status.Run.{Run}
use Rattle.status_texts.specs.declared.status.Status.{Status}
use Rattle.status_texts.specs.declared.status.Status.TheVariants.{Done, ErrorReturned, Panicked, Refused, GoesOn, Stalled, FolderFault, InputFault, OutFault, Memory, Words, Limit, DiagFault}
use Rattle.bal_run.specs.Due.{BadFolder, BadWords, CommandObeyed, FolderFails, FolderRefused, HasNoAnswer, IsAnswered, IsCut, IsWhole, NoMemoryForText, NoMemoryForWords, NoMemoryToBuild, NoMemoryToWrite, NothingRan, Obeyed, ProgramRan, ProgramTold, QuestionEnded, QuestionRefused, StatusIsDue, StayedIdle, TellingEnded, WasBuilt}
use Rattle.folder_programs.specs.declared.texts.Telling.{Telling}
use Rattle.folder_programs.specs.declared.texts.Telling.TheVariants.{Accepted, Pairs, Code}
use Rattle.status_texts.specs.Outside.{Outside}
use Rattle.folder_programs.specs.Runs.{sides, CameTo, InputFailed, IsTypesLimit, NoMemoryToRun, OutputFailed, status_of}
use Rattle.folder_programs.specs.Questions.{answer_bytes}
use Rattle.folder_programs.specs.Texts.{IsTextOf}
use Rattle.bal_run.specs.Words.{AsksFor}

-- ---- statuses of ends

abbrev is_end : Status → Bool
is_end Done = true
is_end (ErrorReturned m) = true
is_end (Panicked m) = true
is_end (GoesOn n) = true
is_end (Stalled ring) = true
is_end (Limit k) = true
is_end (Refused r) = false
is_end FolderFault = false
is_end InputFault = false
is_end OutFault = false
is_end Memory = false
is_end Words = false
is_end DiagFault = false

ends-are-ends : (ticks : ℕ) (end : Ending) → is_end (status_of ticks end) ≡ true
ends-are-ends ticks ReturnsNil = refl
ends-are-ends ticks (ReturnsError m) = refl
ends-are-ends ticks (Panics m) = refl
ends-are-ends ticks (Stalls ring) = refl
ends-are-ends ticks model.GoesOn = refl
ends-are-ends ticks (Passes limit) = refl

pub not-end : (due status : Status) (ticks : ℕ) (end : Ending) → is_end status ≡ false → due ≡ status → due ≡ status_of ticks end → ⊥
not-end due status ticks end other e k = let both : true ≡ false = sym (ends-are-ends ticks end) ∙ (ap is_end (sym k ∙ e) ∙ other) in let bad : ⊥ = cc in bad

-- the end that a status is of
abbrev end_back : Status → Ending
end_back Done = ReturnsNil
end_back (ErrorReturned m) = ReturnsError m
end_back (Panicked m) = Panics m
end_back (GoesOn n) = model.GoesOn
end_back (Stalled ring) = Stalls ring
end_back (Limit k) = Passes k
end_back (Refused r) = ReturnsNil
end_back FolderFault = ReturnsNil
end_back InputFault = ReturnsNil
end_back OutFault = ReturnsNil
end_back Memory = ReturnsNil
end_back Words = ReturnsNil
end_back DiagFault = ReturnsNil

end-back : (ticks : ℕ) (end : Ending) → end_back (status_of ticks end) ≡ end
end-back ticks ReturnsNil = refl
end-back ticks (ReturnsError m) = refl
end-back ticks (Panics m) = refl
end-back ticks (Stalls ring) = refl
end-back ticks model.GoesOn = refl
end-back ticks (Passes limit) = refl

pub one-end : (ticks : ℕ) (end other : Ending) → status_of ticks end ≡ status_of ticks other → end ≡ other
one-end ticks end other e = sym (end-back ticks end) ∙ (ap end_back e ∙ end-back ticks other)

module _ (before after : Outside) (run : Run) (modules : List Module) (due : Status) where
  -- where memory ran out over the words, it did so before all that they may ask for
  bare-folder : NoMemoryForWords before after run modules due → BadFolder before after run modules due
  bare-folder m = record { cause = inr (inr (m.due, m.folder)); nothing = m.nothing }

  bare-obeyed : (p : Purpose) (ticks seed : ℕ) → NoMemoryForWords before after run modules due → Obeyed p ticks seed before after run modules due
  bare-obeyed (command.Run texts) ticks seed m = inl (bare-folder m)
  bare-obeyed command.Check ticks seed m = inl (bare-folder m)
  bare-obeyed command.Pairs ticks seed m = inl (bare-folder m)
  bare-obeyed command.Code ticks seed m = inl (bare-folder m)
  bare-obeyed (command.Subtype s t) ticks seed m =
      record {
        ended = inr (record { cause = inr (inr (m.due, m.folder)); faults = m.nothing.faults; written = m.nothing.written });
        built = m.nothing.built;
        idle = record { turns = m.nothing.turns; spent = m.nothing.spent; input = m.nothing.input };
        shows = m.shows;
      }

  -- ---- causes

  -- of a folder that comes to no program
  by-folder :
      {P : Type 0} (b : BadFolder before after run modules due) →
      (FolderFails before.folder after.folder due → P) →
      (FolderRefused before.folder after.folder modules due → P) →
      (NoMemoryToBuild before.folder after.folder due → P) →
      P
  by-folder b f g h = ⊎_elim f (λ r. ⊎_elim g h r) b.cause

  -- of a text that is written
  by-text :
      {P : Type 0} (text : List ℕ) →
      (IsWhole text before.out after.out due → P) →
      (IsCut text before.out after.out due → P) →
      (NoMemoryToWrite text before.out after.out due → P) →
      IsWhole text before.out after.out due ⊎ (IsCut text before.out after.out due ⊎ NoMemoryToWrite text before.out after.out due) →
      P
  by-text text f g h w = ⊎_elim f (λ r. ⊎_elim g h r) w

  -- of what comes of a question
  pub by-answer :
      {P : Type 0} (s t : List ℕ) → QuestionEnded s t before after due →
      ((a : IsAnswered s t before after due) → IsWhole (answer_bytes a.answer) before.out after.out due → P) →
      ((a : IsAnswered s t before after due) → IsCut (answer_bytes a.answer) before.out after.out due → P) →
      ((a : IsAnswered s t before after due) → NoMemoryToWrite (answer_bytes a.answer) before.out after.out due → P) →
      (HasNoAnswer s t before after due → FolderFails before.folder after.folder due → P) →
      (HasNoAnswer s t before after due → QuestionRefused s t before.folder after.folder due → P) →
      (HasNoAnswer s t before after due → NoMemoryToBuild before.folder after.folder due → P) →
      P
  by-answer s t ended f g h k l m =
      ⊎_elim
      (λ a. by-text (answer_bytes a.answer) (f a) (g a) (h a) a.written)
      (λ n. ⊎_elim (k n) (λ r. ⊎_elim (l n) (m n) r) n.cause)
      ended

  -- of what is told of a program
  pub by-telling :
      {P : Type 0} (telling : Telling) → TellingEnded telling before after run modules due →
      (BadFolder before after run modules due → FolderFails before.folder after.folder due → P) →
      (BadFolder before after run modules due → FolderRefused before.folder after.folder modules due → P) →
      (BadFolder before after run modules due → NoMemoryToBuild before.folder after.folder due → P) →
      ((c : ProgramTold telling before after run modules due) (text : List ℕ) → IsTextOf telling c.program.atoms c.program.built text
      → IsWhole (encode_utf8_all text) before.out after.out due → P) →
      ((c : ProgramTold telling before after run modules due) (text : List ℕ) → IsTextOf telling c.program.atoms c.program.built text
      → IsCut (encode_utf8_all text) before.out after.out due → P) →
      ((c : ProgramTold telling before after run modules due) (text : List ℕ) → IsTextOf telling c.program.atoms c.program.built text
      → NoMemoryToWrite (encode_utf8_all text) before.out after.out due → P) →
      (ProgramTold telling before after run modules due → NoMemoryForText before.out after.out due → P) →
      P
  by-telling telling o f g h k l m n =
      ⊎_elim
      (λ b. by-folder b (f b) (g b) (h b))
      (λ c. ⊎_elim (λ w. by-text (encode_utf8_all w.0) (k c w.0 w.1) (l c w.0 w.1) (m c w.0 w.1) w.2) (n c) c.told)
      o

  -- of what comes of a program that is run
  module _ (texts : List Text) (ticks seed : ℕ) where
    abbrev Ran : Type 0
    Ran = ProgramRan texts ticks seed before after run modules due

    pub by-cause :
        {P : Type 0} → Obeyed (command.Run texts) ticks seed before after run modules due →
        (BadFolder before after run modules due → FolderFails before.folder after.folder due → P) →
        (BadFolder before after run modules due → FolderRefused before.folder after.folder modules due → P) →
        (BadFolder before after run modules due → NoMemoryToBuild before.folder after.folder due → P) →
        ((c : Ran) → CameTo c.program.atoms c.program.built.typed texts ticks seed (sides before.input before.out) (sides after.input after.out) run due → P) →
        ((c : Ran) → InputFailed c.program.atoms c.program.built.typed texts ticks seed (sides before.input before.out) (sides after.input after.out) due → P) →
        ((c : Ran) → OutputFailed c.program.atoms c.program.built.typed texts ticks seed (sides before.input before.out) (sides after.input after.out) due → P) →
        ((c : Ran) → IsTypesLimit c.program.atoms c.program.built.typed texts ticks seed (sides before.input before.out) (sides after.input after.out) due → P) →
        ((c : Ran) → NoMemoryToRun c.program.atoms c.program.built.typed texts ticks seed (sides before.input before.out) (sides after.input after.out) due → P) →
        P
    by-cause o f g h k l m n q =
        ⊎_elim
        (λ b. by-folder b (f b) (g b) (h b))
        (λ c. ⊎_elim (k c) (λ u. ⊎_elim (l c) (λ v. ⊎_elim (m c) (λ w. ⊎_elim (n c) (q c) w) v) u) c.cause)
        o

  -- ---- another answer of the same run

  abbrev pub answered : Status → Run
  answered status = record { status = status; built = run.built; turns = run.turns; spent = run.spent }

  nothing-again : (status : Status) → NothingRan before after run → NothingRan before after (answered status)
  nothing-again status n = record { built = n.built; turns = n.turns; spent = n.spent; input = n.input; faults = n.faults; written = n.written }

  idle-again : (status : Status) → StayedIdle before after run → StayedIdle before after (answered status)
  idle-again status n = record { turns = n.turns; spent = n.spent; input = n.input }

  built-again : (status : Status) → WasBuilt before after run → WasBuilt before after (answered status)
  built-again status w = record { built = w.built; atoms = w.atoms; compiled = w.compiled; folder = w.folder; kept = w.kept }

  folder-again : (status : Status) → BadFolder before after run modules due → BadFolder before after (answered status) modules due
  folder-again status b = record { cause = b.cause; nothing = nothing-again status b.nothing }

  module _ (texts : List Text) (ticks seed : ℕ) (status : Status) (c : ProgramRan texts ticks seed before after run modules due) where
    came-again : CameTo c.program.atoms c.program.built.typed texts ticks seed (sides before.input before.out) (sides after.input after.out) run due
        → CameTo c.program.atoms c.program.built.typed texts ticks seed (sides before.input before.out) (sides after.input after.out) (answered status) due
    came-again f = record { outcome = f.outcome; ran = f.ran; status = f.status; turns = f.turns; spent = f.spent; fine = f.fine }

    ran-again : ProgramRan texts ticks seed before after (answered status) modules due
    unfolding built-again
    ran-again =
        record {
          program = built-again status c.program;
          cause = ⊎_elim (λ f. inl (came-again f)) (λ r. inr r) c.cause;
          untouched = c.untouched;
          shows = c.shows;
        }

  telling-again : (status : Status) (telling : Telling) → TellingEnded telling before after run modules due
      → TellingEnded telling before after (answered status) modules due
  unfolding built-again
  telling-again status telling (inl b) = inl (folder-again status b)
  telling-again status telling (inr c) =
      inr (record { program = built-again status c.program; told = c.told; idle = idle-again status c.idle; shows = c.shows })

  obeyed-again : (status : Status) (p : Purpose) (ticks seed : ℕ) → Obeyed p ticks seed before after run modules due → Obeyed p ticks seed before after (answered status) modules due
  obeyed-again status (command.Run texts) ticks seed (inl b) = inl (folder-again status b)
  obeyed-again status (command.Run texts) ticks seed (inr c) = inr (ran-again texts ticks seed status c)
  obeyed-again status command.Check ticks seed o = telling-again status Accepted o
  obeyed-again status command.Pairs ticks seed o = telling-again status Pairs o
  obeyed-again status command.Code ticks seed o = telling-again status Code o
  obeyed-again status (command.Subtype s t) ticks seed q =
      record { ended = q.ended; built = q.built; idle = idle-again status q.idle; shows = q.shows }

module _ (words : List (String Global)) (before after : Outside) (run : Run) (modules : List Module) (due : Status) (d : StatusIsDue words before after run modules due) where
  pub by-stage : {P : Type 0} → (BadWords words before after run modules due → P) → (NoMemoryForWords before after run modules due → P) → (CommandObeyed words before after run modules due → P) → P
  by-stage f g h = ⊎_elim f (λ r. ⊎_elim g h r) d

  -- what comes of words that ask for this
  pub asked-for : (p : Purpose) (ticks seed : ℕ) → AsksFor words p ticks seed → Obeyed p ticks seed before after run modules due
  asked-for p ticks seed (dir, is) =
      by-stage
      (λ b. absurd (b.bad (_, is)))
      (λ m. bare-obeyed before after run modules due p ticks seed m)
      (λ x. subst (λ (q : Request). Obeyed q.purpose q.ticks q.seed before after run modules due)
      (command-one words x.request (record { dir = dir; purpose = p; ticks = ticks; seed = seed }) x.is is) x.obeyed)

  pub due-again : (status : Status) → StatusIsDue words before after (answered before after run modules due status) modules due
  due-again status =
      by-stage
      (λ b. inl (record { due = b.due; bad = b.bad; folder = b.folder; shows = b.shows; nothing = nothing-again before after run modules due status b.nothing }))
      (λ m. inr (inl (record { due = m.due; folder = m.folder; shows = m.shows; nothing = nothing-again before after run modules due status m.nothing })))
      (λ x. inr (inr (record { request = x.request; is = x.is; obeyed = obeyed-again before after run modules due status x.request.purpose x.request.ticks x.request.seed x.obeyed })))
