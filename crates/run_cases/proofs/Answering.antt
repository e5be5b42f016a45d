-- What is known after a call of the top on objects in memory, as an answer to the call of a case.
use Rattle.std.proofs.Common.{◌≡◌, List, Option, Some, Result, Ok, Err, String, subst, sym}
use Rattle.std.specs.Global.{Global}
use Rattle.std.specs.Prelude.{IfOk, IfSome, IsSome, ◌↔◌, string_bytes}
use Rattle.bal_io.specs.Held.{HeldFolder, HeldInput, HeldOutput}
use Rattle.bal_tree.specs.declared.package.Module.{Module}
use Rattle.command_words.specs.Commands.{IsGood}
use Rattle.bal_run.specs.Due.{StatusIsDue}
use Rattle.status_texts.specs.Outside.{FolderTells, SinkTells, SourceTells, folder_tells, outside, source_tells}
use Rattle.status_texts.specs.Report.{Reports}
use Rattle.bal_run.specs.Words.{IsOfFolder}
use Rattle.status_texts.specs.declared.status.Run.{Run}
use Rattle.status_texts.specs.declared.status.Status.{Status}
use Rattle.run_cases.specs.Came.{IsAnswerTo, IsNamed, folder_told, nothing_told, sink_told, source_told}
use Rattle.run_cases.specs.declared.case.Call.{Call}

-- the objects told before the call what the case says
pub answer-to : (call : Call) (words : List (String Global)) (before : FolderTells) (source : SourceTells) (out diag : SinkTells)
    (run : Run) (folder' : HeldFolder) (input' : HeldInput) (out' diag' : HeldOutput)
    → words ≡ call.words.items
    → before ≡ folder_tells 0 (Some call.files.items)
    → source ≡ source_tells 0 (Some call.input.items)
    → out ≡ nothing_told
    → diag ≡ nothing_told
    → (due : Status) × (shown : List Module)
    × StatusIsDue words (outside before source out) (outside (folder_told folder') (source_told input') (sink_told out')) run shown due
    × Reports shown due run.status diag (sink_told diag')
    → IsAnswerTo call run out' diag'
answer-to call words before source out diag run folder' input' out' diag' w b i o d (due, shown, cause, told) =
    record {
      folder = folder';
      input = input';
      shown = shown;
      due = due;
      cause =
          subst (λ (x : SinkTells). StatusIsDue call.words.items (outside (folder_tells 0 (Some call.files.items)) (source_tells 0 (Some call.input.items)) x) (outside (folder_told folder') (source_told input') (sink_told out')) run shown due) o
          (subst (λ (x : SourceTells). StatusIsDue call.words.items (outside (folder_tells 0 (Some call.files.items)) x out) (outside (folder_told folder') (source_told input') (sink_told out')) run shown due) i
          (subst (λ (x : FolderTells). StatusIsDue call.words.items (outside x source out) (outside (folder_told folder') (source_told input') (sink_told out')) run shown due) b
          (subst (λ (x : List (String Global)). StatusIsDue x (outside before source out) (outside (folder_told folder') (source_told input') (sink_told out')) run shown due) w cause)));
      told = subst (λ (x : SinkTells). Reports shown due run.status x (sink_told diag')) d told;
    }

-- the words, as they are passed, are those of the case, and so is the folder that is kept
pub named : (words words' : List (String Global)) (dir dir' : Option (String Global))
    → words ≡ words' → dir' ≡ dir
    → IfSome dir (λ name. IsOfFolder words (string_bytes name))
    → IsSome dir ↔ IsGood words
    → IsNamed words' dir'
named words words' dir dir' w d name good =
    subst (λ x. IsNamed words' x) (sym d) (subst (λ x. IsNamed x dir) w (record { name = name; good = good }))

-- two facts of a value, if there is one, make a third
pub both : {A E : Type 0} (r : Result A E) (P Q R : A → Type 0) → ((x : A) → P x → Q x → R x) → IfOk r P → IfOk r Q → IfOk r R
both (Ok x) P Q R f p q = f x p q
both (Err e) P Q R f p q = tt
