-- The text of a refusal: `FILE:LINE:COLUMN: CODE WORDS`, or `CODE WORDS` where it has no place, and a line end.
use Rattle.std.specs.Prelude.{◌++◌, ◌||◌, ℕ, Bool, true, false, List, [], Option, Some, None, codes, decimal, nat_eq}
use Rattle.std.specs.Cmp.Lexicographic.{pointwise}
use Rattle.std.specs.List.{join_by}
use Rattle.bal_base.specs.FaultCode.{code_number}
use Rattle.bal_base.specs.declared.fault.Fault.{Fault}
use Rattle.bal_base.specs.declared.fault.FaultCode.{FaultCode}
use Rattle.bal_base.specs.declared.fault.FaultCode.TheVariants.{NotUtf8, BadToken, Syntax, Depth, LeftOut, NotBuilt, NoModule, ImportCycle, Duplicate, Unknown, NotPublic, IllFounded, TypeLimit, AtomLimit, NoMain, FileTooLong, BadManifest, TooLarge, NotSubtype, Arity, NoField, AssignFinal, Captured, MissingReturn, BadBreak, Ignored, BadMain, NotIsolated, ReadOnlyHolds, NoChoice, NeedsType, Conditional, Unpaired, SuccessBefore, WaitCycle, NameAsValue, NoPeer, BadMessage, WorkerLimit, CodeLimit, TestLimit}
use Rattle.bal_base.specs.declared.fault.Kept.{Kept}
use Rattle.bal_base.specs.declared.fault.Kept.TheVariants.{Nothing, Shape, Names, Events, Counts, Count}
use Rattle.bal_base.specs.declared.fault.Refusal.{Refusal}
use Rattle.bal_base.specs.declared.place.Place.{Place}
use Rattle.bal_base.specs.declared.text.Name.{Name}
use Rattle.bal_tree.specs.declared.package.Module.{Module}
use Rattle.bal_report.specs.EventText.{event_text}
use Rattle.bal_report.specs.ShapeText.{shape_text}
use Rattle.text_forms.specs.Forms.{text_if}

-- ---- words

-- a word of the command has such a name in place of a file's
abbrev pub is_argument : List ℕ → Bool
is_argument name = pointwise nat_eq name (codes "argument 1") || pointwise nat_eq name (codes "argument 2")

-- what doesn't begin where something has to, where nothing more is known
abbrev pub whole_words : Bool → List ℕ
whole_words true = codes "not a type"
whole_words false = codes "not a definition"

-- the same, where the count says that a statement is missed
abbrev pub missing_words : Bool → Kept → List ℕ
missing_words in_word Nothing = whole_words in_word
missing_words in_word (Shape s) = whole_words in_word
missing_words in_word (Names names) = whole_words in_word
missing_words in_word (Events events) = whole_words in_word
missing_words in_word (Counts sent received) = whole_words in_word
missing_words in_word (Count n) = codes "not a statement"

-- what each code says, in a word of the command or in a file, by what is kept
abbrev pub says : Bool → Kept → FaultCode → List ℕ
says in_word kept NotUtf8 = codes "not UTF-8"
says in_word kept BadToken = codes "not a token"
says in_word kept Syntax = missing_words in_word kept
says in_word kept Depth = codes "nested too deeply"
says in_word kept LeftOut = codes "left out of this profile"
says in_word kept NotBuilt = codes "not built yet"
says in_word kept NoModule = codes "no such module"
says in_word kept ImportCycle = codes "import cycle: "
says in_word kept Duplicate = codes "name used twice"
says in_word kept Unknown = codes "unknown name"
says in_word kept NotPublic = codes "not public"
says in_word kept IllFounded = codes "type is its own part: "
says in_word kept TypeLimit = codes "type question too large"
says in_word kept AtomLimit = codes "too many types"
says in_word kept NoMain = codes "no public function main"
says in_word kept FileTooLong = codes "file too long"
says in_word kept BadManifest = codes "bad manifest"
says in_word kept TooLarge = codes "package too large"
says in_word kept NotSubtype = codes "not a subtype: "
says in_word kept Arity = codes "wrong number of arguments"
says in_word kept NoField = codes "no such member"
says in_word kept AssignFinal = codes "cannot be assigned"
says in_word kept Captured = codes "captured variable is assigned"
says in_word kept MissingReturn = codes "missing return"
says in_word kept BadBreak = codes "not in a loop"
says in_word kept Ignored = codes "value is ignored"
says in_word kept BadMain = codes "main has a wrong signature"
says in_word kept NotIsolated = codes "not isolated: "
says in_word kept ReadOnlyHolds = codes "must be immutable anydata"
says in_word kept NoChoice = codes "no type fits"
says in_word kept NeedsType = codes "receive needs a type"
says in_word kept Conditional = codes "conditional worker action"
says in_word kept Unpaired = codes "unpaired messages: "
says in_word kept SuccessBefore = codes "success before a message"
says in_word kept WaitCycle = codes "workers wait in a ring: "
says in_word kept NameAsValue = codes "worker is no value"
says in_word kept NoPeer = codes "no such peer"
says in_word kept BadMessage = codes "message is outside the type: "
says in_word kept WorkerLimit = codes "too many workers or events"
says in_word kept CodeLimit = codes "program too large"
says in_word kept TestLimit = codes "too many type tests"

-- whether the words end in what shows the fault
abbrev pub shows : FaultCode → Bool
shows NotUtf8 = false
shows BadToken = false
shows Syntax = false
shows Depth = false
shows LeftOut = false
shows NotBuilt = false
shows NoModule = false
shows ImportCycle = true
shows Duplicate = false
shows Unknown = false
shows NotPublic = false
shows IllFounded = true
shows TypeLimit = false
shows AtomLimit = false
shows NoMain = false
shows FileTooLong = false
shows BadManifest = false
shows TooLarge = false
shows NotSubtype = true
shows Arity = false
shows NoField = false
shows AssignFinal = false
shows Captured = false
shows MissingReturn = false
shows BadBreak = false
shows Ignored = false
shows BadMain = false
shows NotIsolated = true
shows ReadOnlyHolds = false
shows NoChoice = false
shows NeedsType = false
shows Conditional = false
shows Unpaired = true
shows SuccessBefore = false
shows WaitCycle = true
shows NameAsValue = false
shows NoPeer = false
shows BadMessage = true
shows WorkerLimit = false
shows CodeLimit = false
shows TestLimit = false

-- ---- what shows a fault

-- one after another, as those of a cycle
abbrev pub on_the_way : {A : Type 0} → (A → List ℕ) → List A → List ℕ
on_the_way text xs = join_by text (codes " -> ") xs

abbrev pub name_text : Name → List ℕ
name_text name = name

abbrev pub kept_text : List Module → Kept → List ℕ
kept_text modules Nothing = []
kept_text modules (Shape s) = shape_text s
kept_text modules (Names names) = on_the_way name_text names
kept_text modules (Events events) = on_the_way (event_text modules) events
kept_text modules (Counts sent received) = decimal sent ++ codes " sent, " ++ decimal received ++ codes " received"
kept_text modules (Count n) = []

-- ---- refusals

-- `FILE:LINE:COLUMN: `, where the fault has a place
abbrev pub place_text : Refusal → Option Place → List ℕ
place_text r None = []
place_text r (Some at) = r.file ++ codes ":" ++ decimal r.line ++ codes ":" ++ decimal r.column ++ codes ": "

-- `CODE WORDS`
abbrev pub fault_text : List Module → Bool → Fault → List ℕ
fault_text modules in_word fault =
    decimal (code_number fault.code) ++ codes " " ++ says in_word fault.kept fault.code ++ text_if (shows fault.code) (kept_text modules fault.kept)

-- the text of a refusal, where its events stand in files of these modules
abbrev pub refusal_text : List Module → Refusal → List ℕ
refusal_text modules r = place_text r r.fault.at ++ fault_text modules (is_argument r.file) r.fault ++ codes "\n"
