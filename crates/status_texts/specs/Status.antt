-- The numbers and the texts of the statuses.
use Rattle.std.specs.Prelude.{◌≡◌, ◌++◌, ℕ, List, [], ◌∷◌, codes, decimal, encode_utf8_all}
use Rattle.std.specs.List.{join_by}
use Rattle.bal_base.specs.declared.fault.LimitKind.TheVariants.{Cells, Strands}
use Rattle.bal_report.specs.RefusalText.{refusal_text}
use Rattle.bal_tree.specs.declared.package.Module.{Module}
use Rattle.status_texts.specs.declared.status.Status.{Status}
use Rattle.status_texts.specs.declared.status.Status.TheVariants.{Done, ErrorReturned, Panicked, Refused, GoesOn, Stalled, FolderFault, InputFault, OutFault, Memory, Words, Limit, DiagFault}

abbrev pub exit_status : Status → ℕ
exit_status Done = 0
exit_status (ErrorReturned m) = 1
exit_status (Panicked m) = 2
exit_status (Refused r) = 3
exit_status (GoesOn n) = 4
exit_status (Stalled r) = 5
exit_status FolderFault = 6
exit_status InputFault = 7
exit_status OutFault = 8
exit_status Memory = 9
exit_status Words = 10
exit_status (Limit k) = 11
exit_status DiagFault = 12

-- ---- texts

-- the numbers of strands, each behind the one before
abbrev pub ring_text : List ℕ → List ℕ
ring_text ring = join_by decimal (codes " -> ") ring

abbrev pub stalled_text : List ℕ → List ℕ
stalled_text ring = codes "stalled: " ++ ring_text ring ++ codes "\n"

abbrev pub goes_on_text : ℕ → List ℕ
goes_on_text ticks = codes "goes on after " ++ decimal ticks ++ codes " ticks\n"

-- the text for the diagnostics of a status, with its line end; a program that is done says nothing, and failed diagnostics have none.
-- The modules are those in whose files the events of workers are found that a refusal shows.
abbrev pub HasText : List Module → Status → List ℕ → Type 0
HasText modules Done text = text ≡ []
HasText modules (ErrorReturned m) text = text ≡ codes "error: " ++ (encode_utf8_all m ++ 10 ∷ [])
HasText modules (Panicked m) text = text ≡ codes "panic: " ++ (encode_utf8_all m ++ 10 ∷ [])
HasText modules (Refused r) text = text ≡ encode_utf8_all (refusal_text modules r)
HasText modules (GoesOn n) text = text ≡ encode_utf8_all (goes_on_text n)
HasText modules (Stalled ring) text = text ≡ encode_utf8_all (stalled_text ring)
HasText modules FolderFault text = text ≡ codes "cannot read the folder\n"
HasText modules InputFault text = text ≡ codes "cannot read the input\n"
HasText modules OutFault text = text ≡ codes "cannot write the output\n"
HasText modules Memory text = text ≡ codes "out of memory\n"
HasText modules Words text = text ≡ codes "usage: bal_run DIR [WORDS] [--mode run|check|pairs|code|subtype|make] [--ticks N] [--seed N]\n"
HasText modules (Limit Cells) text = text ≡ codes "limit: heap cells\n"
HasText modules (Limit Strands) text = text ≡ codes "limit: strands\n"
HasText modules DiagFault text = ⊥
