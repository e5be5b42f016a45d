-- What a name is called as.
use Rattle.std.specs.Prelude.{◌≡◌, ℕ, Bool, true, false, List, None, Result, Ok, Err, ⊤}
use Rattle.bal_base.specs.declared.fault.Fault.{Fault}
use Rattle.bal_base.specs.declared.fault.FaultCode.{FaultCode}
use Rattle.bal_base.specs.declared.fault.FaultCode.TheVariants.{NameAsValue, Unknown}
use Rattle.bal_base.specs.declared.place.Place.{Place}
use Rattle.bal_base.specs.declared.stop.Stop.{Stop}
use Rattle.checks.specs.Checks.{Comes, ◌▷◌}
use Rattle.descriptors.specs.declared.names.Meaning.{Meaning}
use Rattle.descriptors.specs.declared.names.Meaning.TheVariants as meaning
use Rattle.descriptors.specs.declared.names.Signature.{Signature}
use Rattle.descriptors.specs.Steps.{SignatureBelow}
use Rattle.expr_needs.specs.declared.kind.Kind.TheVariants as kind
use Rattle.type_model.specs.declared.answers.TypeLimit.{TypeLimit}
use Rattle.type_model.specs.declared.atoms.AtomDef.{AtomDef}
use Rattle.type_model.specs.Calls.{Asked}
use Rattle.check_words.specs.Calls.{calls, calls_function, calls_library}
use Rattle.check_words.specs.Library.{LibraryRow, row_of}
use Rattle.check_words.specs.Seen.{Seen, SeenConstant, SeenLibrary, SeenMeaning, SeenNothing, SeenVariable, SeenWorker}
use Rattle.check_words.specs.Stands.{PartBelow}
use Rattle.check_words.specs.State.{OfValue, State}
use Rattle.check_words.specs.Values.{gives_seen}
use Rattle.check_words.specs.Words.{Step, fails, is_of}
use Rattle.seen_names.specs.Given.{Puts, with_part}
use Rattle.needs_of_calls.specs.declared.named.Callable.{Callable}
use Rattle.needs_of_calls.specs.declared.named.Callable.TheVariants as callable

abbrev Answer : Type 0
Answer = Result Callable (Stop Fault)

-- ---- which it is

abbrev pub IsRefused : FaultCode → Place → Answer → Type 0
IsRefused code at (Err stop) = Puts (fails code at) (Err stop)
IsRefused code at (Ok what) = ⊥

-- the value that the name gives
abbrev pub IsValued : Seen → Place → Answer → Type 0
IsValued seen at (Ok (callable.Value e)) = Puts (gives_seen seen at) (Ok e)
IsValued seen at (Ok (callable.Function f)) = ⊥
IsValued seen at (Ok (callable.Library call)) = ⊥
IsValued seen at (Err stop) = Puts (gives_seen seen at) (Err stop)

abbrev pub IsFunction : Signature → Answer → Type 0
IsFunction f (Ok (callable.Function g)) = g.now ≡ f
IsFunction f (Ok (callable.Library call)) = ⊥
IsFunction f (Ok (callable.Value e)) = ⊥
IsFunction f (Err stop) = ⊥

abbrev pub IsRow : LibraryRow → Answer → Type 0
IsRow r (Ok (callable.Library call)) = row_of call ≡ r
IsRow r (Ok (callable.Function f)) = ⊥
IsRow r (Ok (callable.Value e)) = ⊥
IsRow r (Err stop) = ⊥

abbrev pub IsLibrary : Bool → LibraryRow → Place → Answer → Type 0
IsLibrary true r at a = IsRefused Unknown at a
IsLibrary false r at a = IsRow r a

abbrev pub IsMeant : Meaning → Place → Answer → Type 0
IsMeant (meaning.Function f) at a = IsFunction f a
IsMeant (meaning.TypeName t) at a = IsRefused Unknown at a
IsMeant (meaning.Constant t) at a = IsValued (SeenMeaning (meaning.Constant t)) at a
IsMeant (meaning.Variable number final t) at a = IsValued (SeenMeaning (meaning.Variable number final t)) at a

abbrev pub IsCallable : Bool → Seen → Place → Answer → Type 0
IsCallable started (SeenVariable v) at a = IsValued (SeenVariable v) at a
IsCallable started (SeenWorker w) at a = IsRefused NameAsValue at a
IsCallable started (SeenConstant c) at a = IsValued (SeenConstant c) at a
IsCallable started (SeenLibrary r) at a = IsLibrary started r at a
IsCallable started (SeenMeaning m) at a = IsMeant m at a
IsCallable started (SeenNothing code) at a = IsRefused code at a

-- which atoms it names
abbrev pub CallableBelow : ℕ → Callable → Type 0
CallableBelow n (callable.Function f) = SignatureBelow n f.now
CallableBelow n (callable.Library call) = ⊤
CallableBelow n (callable.Value e) = PartBelow n e

-- ---- how it is called

module _ (passes : List AtomDef → Asked → TypeLimit → Type 0) where
  -- the last part, which has to be a function
  abbrev pub calls_part : Place → Step
  calls_part at = is_of passes kind.AnyFunction at ▷ λ v. calls OfValue

  -- what comes of it: a value is a part more
  abbrev pub ComesOf : Callable → ℕ → Place → Place → State → Result (Unit {0}) (Stop Fault) → State → Type 0
  ComesOf (callable.Function f) count name at s r new = Comes (calls_function f.now count at) s r new
  ComesOf (callable.Library call) count name at s r new = Comes (calls_library (row_of call) None count at) s r new
  ComesOf (callable.Value e) count name at s r new = Comes (calls_part name) (with_part s (Ok e)) r new
