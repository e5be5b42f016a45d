-- Which atoms questions of needs add, and which limits they pass.
use Rattle.std.specs.Prelude.{◌≡◌, ℕ, List, Some, All, length, slice_get, take}
use Rattle.type_model.specs.declared.answers.TypeLimit.{TypeLimit}
use Rattle.type_model.specs.declared.atoms.AtomDef.{AtomDef}
use Rattle.type_model.specs.declared.basic.SemType.{Atom}
use Rattle.type_model.specs.Calls.{Asked, KeepsTypes, Without}
use Rattle.code_verifier.specs.declared.kind_types.KnownTypes.{KnownTypes}
use Rattle.code_verifier.specs.LedTo.{SomePasses}
use Rattle.code_verifier.specs.Questions.{LeadsTo}
use Rattle.pair_questions.specs.Fitting.{AsksFit}
use Rattle.pair_questions.specs.Pairs.{AsksName}
use Rattle.atom_questions.specs.Added.{HasOneMore, IsArgsDef, IsFieldDef}
use Rattle.atom_questions.specs.FutureNeeds.{FutureStops, HasFutureMore}
use Rattle.atom_questions.specs.declared.limits.QuestionLimit.{QuestionLimit}
use Rattle.atom_questions.specs.declared.limits.QuestionLimit.TheVariants.{Atoms, Types}
use Rattle.atom_questions.specs.Limits.{AsksGiven, OneMoreStops}
use Rattle.detail_questions.specs.Details.{ErrorStops, HasErrorsMore}
use Rattle.need_questions.specs.declared.question.NeedQuestion.{NeedQuestion}
use Rattle.need_questions.specs.declared.question.NeedQuestion.TheVariants as asked
use Rattle.need_questions.specs.NeedsAsked.{NeedsMet}

-- the atoms are as before, or with those that the question wants
abbrev pub HasAddedFor : List AtomDef → NeedQuestion → List AtomDef → Type 0
HasAddedFor old (asked.Plain q) new = new ≡ old
HasAddedFor old (asked.HasField m name) new = HasOneMore old (IsFieldDef name.now) new
HasAddedFor old (asked.FitsFields members pair) new = new ≡ old
HasAddedFor old (asked.Names pairs name) new = new ≡ old
HasAddedFor old (asked.HasErrorsOf r pairs) new = HasErrorsMore old pairs.now new
HasAddedFor old (asked.Gives f args r) new = HasOneMore old (IsArgsDef args.now) new
HasAddedFor old (asked.GivesFuture f args r) new = HasFutureMore old f.now args.now new

-- a limit of types alone
abbrev pub OfTypes : (TypeLimit → Type 0) → QuestionLimit → Type 0
OfTypes P Atoms = ⊥
OfTypes P (Types limit) = P limit

-- a question about types to which the needs lead passes the limit, or there would be too many atoms
abbrev pub NeedStops : (List AtomDef → Asked → TypeLimit → Type 0) → KnownTypes → List AtomDef → NeedQuestion → QuestionLimit → Type 0
NeedStops passes known old (asked.Plain q) limit = OfTypes (SomePasses passes old (LeadsTo old known q)) limit
NeedStops passes known old (asked.HasField m name) limit = OneMoreStops passes old (IsFieldDef name.now) (λ env asked. asked ≡ Without m.now (Atom (length old))) limit
NeedStops passes known old (asked.FitsFields members pair) limit = OfTypes (SomePasses passes old (AsksFit old members pair)) limit
NeedStops passes known old (asked.Names pairs name) limit = OfTypes (SomePasses passes old (AsksName pairs.now name.now)) limit
NeedStops passes known old (asked.HasErrorsOf r pairs) limit = ErrorStops passes old pairs.now r.now limit
NeedStops passes known old (asked.Gives f args r) limit = OneMoreStops passes old (IsArgsDef args.now) (AsksGiven f.now args.now (length old) r.now) limit
NeedStops passes known old (asked.GivesFuture f args r) limit = FutureStops passes old f.now args.now r.now limit

-- the needs of all questions before one are met, and this one stops so, over atoms that keep the types of the first ones
abbrev pub FirstStops : (List AtomDef → Asked → TypeLimit → Type 0) → KnownTypes → List AtomDef → List NeedQuestion → QuestionLimit → Type 0
FirstStops passes known old qs limit =
    (k : ℕ) × (q : NeedQuestion) × (slice_get qs k ≡ Some q) × All (NeedsMet old) (take k qs)
    × ((env : List AtomDef) × KeepsTypes old env × NeedStops passes known env q limit)
