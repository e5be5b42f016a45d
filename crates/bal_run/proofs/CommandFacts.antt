-- What is so of good commands: what they ask for can be done, and the words ask for one thing.
use Rattle.std.proofs.Common.{◌≡◌, ◌≤◌, ℕ, List, [], ◌∷◌, length, sym, ap, subst, ◌∙◌, arith}
use Rattle.std.specs.Prelude.{All, String, chars}
use Rattle.std.specs.Global.{Global}
use Rattle.std.proofs.lemmas.List.{length-map}
use Rattle.bal_tree.specs.declared.package.Module.{Module}
use Rattle.command_words.specs.Commands.{AreTexts, IsCommand, IsGood, NoCommand, Purpose, Request, Takes, purpose_of}
use Rattle.command_words.specs.Commands as command
use Rattle.command_words.specs.declared.command.Mode.{Mode}
use Rattle.command_words.specs.declared.command.TheConstants.{MOST_WORDS, MOST_WORD_BYTES}
use Rattle.command_words.proofs.One.{command-one}
use Rattle.status_texts.specs.declared.status.Run.{Run}
use Rattle.status_texts.specs.declared.status.Status.{Status}
use Rattle.bal_run.specs.Due.{Obeyed}
use Rattle.status_texts.specs.Outside.{Outside}
use Rattle.bal_run.specs.Words.{Builds, NeedsProgram}
use Rattle.bal_run.specs.Work.{IsFit}

fit : (p : Purpose) (words : List (List ℕ)) → length words ≤ MOST_WORDS → All (λ word. length word ≤ MOST_WORD_BYTES) words → Takes p words
    → AreTexts p → IsFit p
fit (command.Run texts) words few short takes are =
    (are, (let same : length texts ≡ length words = ap length takes ∙ length-map words chars in omega arith))
fit command.Check words few short takes are = tt
fit command.Pairs words few short takes are = tt
fit command.Code words few short takes are = tt
fit (command.Subtype s t) words few short takes are =
    let both : All (λ word. length word ≤ MOST_WORD_BYTES) (s ∷ t ∷ []) = subst (All (λ word. length word ≤ MOST_WORD_BYTES)) takes short in
    (both 0 [] (omega arith), both 1 [] (omega arith))

-- what is asked for can be done
pub command-fit : (words : List (String Global)) (r : Request) → IsCommand words r → AreTexts r.purpose → IsFit r.purpose
command-fit words r (said, says, asks) are = fit r.purpose asks.words asks.few asks.short asks.takes are

-- whether the folder's program is compiled is said by what is asked for
pub builds-not : (words : List (String Global)) (r : Request) → IsCommand words r → (NeedsProgram r.purpose → ⊥) → ¬ (Builds words)
builds-not words r is needs (other, k, yet) = needs (subst (λ (q : Request). NeedsProgram q.purpose) (command-one words other r k is) yet)

-- what comes of a command comes of what it asks for
pub obeyed-as : (m : Mode) (p : Purpose) (ticks seed : ℕ) (before after : Outside) (run : Run) (modules : List Module) (due : Status) → purpose_of m ≡ p → Obeyed p ticks seed before after run modules due → Obeyed (purpose_of m) ticks seed before after run modules due
obeyed-as m p ticks seed before after run modules due e h = subst (λ (q : Purpose). Obeyed q ticks seed before after run modules due) (sym e) h

-- where there is no command the words are not good
pub none-good : (words : List (String Global)) → NoCommand words → ¬ (IsGood words)
none-good words none (r, is) = none r is
