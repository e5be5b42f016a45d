-- What a call of the library came to is what the operation comes to.
use Rattle.std.proofs.Common.{◌≡◌, ◌∙◌, ℕ, List, [], ◌∷◌, Option, Some, None, Result, Ok, Err, refl, sym, subst, ap}
use Rattle.std.specs.Prelude.{IfOk, get_or}
use Rattle.bal_base.specs.declared.stop.Memory.{Memory}
use Rattle.operations.specs.declared.library.LibraryCall.{LibraryCall}
use Rattle.operations.specs.declared.library.LibraryCall.TheVariants.{Println, Print, Readln, FromString, Abs, ToString, Clone, CloneReadOnly, StringLength, StartsWith, Trim, Substring, ToUpperAscii, ToLowerAscii, ToCodePointInts, ListLength, Push, Pop, RemoveItem, Slice, Reverse, MappingLength, Keys, HasKey, Get, RemoveKey, Message, Cause, Detail}
use Rattle.operations.specs.LibraryNumbers.{number_of}
use Rattle.operations.specs.declared.operation.Operation.TheVariants as operation
use Rattle.value_model.specs.declared.value.Value.{Value}
use Rattle.op_model.specs.ProgramFacts.{own_types}
use Rattle.op_model.specs.Library.{LibraryComes}
use Rattle.op_model.specs.Performs.{atom_number}
use Rattle.plain_run.specs.declared.effect.Performed.{Performed}
use Rattle.plain_run.specs.declared.facts.ProgramFacts.{ProgramFacts}
use Rattle.plain_run.specs.declared.held.Caller.{Caller}
use Rattle.plain_run.specs.declared.held.Common.{Common}
use Rattle.plain_run.specs.declared.held.World.{World}
use Rattle.plain_run.specs.declared.world.Came.{Came}
use Rattle.plain_run.specs.Effects.{IsPerformed}
use Rattle.plain_run.specs.ProgramFacts.{facts_of}
use Rattle.plain_run.specs.Held.{with_world, world_of}
use Rattle.plain_structures.specs.declared.answer.Tried.{Tried}
use Rattle.plain_structures.specs.Rows.{IsAnswerOf, RowStays, TriedStays}
use Rattle.plain_structures.proofs.Doing.{tried-done, tried-stays}
use Rattle.plain_library.specs.Calls.{IsCalled, IsLibrary, IsMade, all_tried}
use Rattle.plain_library.specs.Causes.{IsCallBeyond}

-- ---- calls by their numbers

all_calls : List LibraryCall
all_calls = Println ∷ Print ∷ Readln ∷ FromString ∷ Abs ∷ ToString ∷ Clone ∷ CloneReadOnly ∷ StringLength ∷ StartsWith ∷ Trim ∷ Substring ∷ ToUpperAscii ∷ ToLowerAscii ∷ ToCodePointInts ∷ ListLength ∷ Push ∷ Pop ∷ RemoveItem ∷ Slice ∷ Reverse ∷ MappingLength ∷ Keys ∷ HasKey ∷ Get ∷ RemoveKey ∷ Message ∷ Cause ∷ Detail ∷ []

call-of : (call : LibraryCall) → get_or all_calls (number_of call) Println ≡ call
unfolding all_calls
call-of Println = refl
call-of _ = refl

one-call : (a b : LibraryCall) → number_of a ≡ number_of b → a ≡ b
one-call a b h = sym (call-of a) ∙ (ap (λ m. get_or all_calls m Println) h ∙ call-of b)

-- ---- the operation is the call

pub library-done : (facts : ProgramFacts) (call : LibraryCall) (atom : Option ℕ) (count : ℕ) (vs : List Value) (caller : Caller) (old : Common) (w : World) (tried : Tried) (done : Performed) → IsLibrary facts call (atom_number atom) vs old.world w tried → IsAnswerOf tried (with_world old w) done → IsPerformed facts (operation.Library call atom count) vs caller old (with_world old w) (IsCallBeyond facts call old.world vs) done
library-done facts call atom count vs caller old w tried done row answer =
    let own = own_types (facts_of facts) in
    tried-done facts caller (operation.Library call atom count) vs old (λ v came. LibraryComes own call (atom_number atom) vs v came) (IsCallBeyond facts call old.world vs)
    (λ effect (came, row, is). (came, (call, refl, row), is))
    (λ effect (came, (q, number, comes), is). (came, subst (λ x. LibraryComes own x (atom_number atom) vs (world_of old.world) came) (one-call q call number) comes, is))
    w tried done row answer

-- ---- a call by its body

module _ (facts : ProgramFacts) (p : LibraryCall) (n : ℕ) (vs : List Value) (old new : World) where
  made : (came : Result (Option Came) Memory) → IfOk came (IsMade p n vs old new) → IfOk (all_tried came) (IsLibrary facts p n vs old new)
  made (Ok (Some came)) row = row (own_types (facts_of facts))
  made (Ok None) row = row (own_types (facts_of facts))
  made (Err e) row = tt

  -- it makes a list of this atom
  pub list-call : (call : LibraryCall) (came : Result (Option Came) Memory) (done : Result Tried Memory) → call ≡ p → done ≡ all_tried came → IfOk came (IsMade p n vs old new) → IfOk done (IsLibrary facts call n vs old new)
  list-call call came done is same row =
      subst (λ x. IfOk done (IsLibrary facts x n vs old new)) (sym is) (subst (λ r. IfOk r (IsLibrary facts p n vs old new)) (sym same) (made came row))

  at-atom : (came : Result (Option Came) Memory) → IfOk came (IsCalled p vs old new) → IfOk came (IsMade p n vs old new)
  at-atom (Ok came) row = row n
  at-atom (Err e) row = tt

  -- whatever atom it names
  pub any-call : (call : LibraryCall) (came : Result (Option Came) Memory) (done : Result Tried Memory) → call ≡ p → done ≡ all_tried came → IfOk came (IsCalled p vs old new) → IfOk done (IsLibrary facts call n vs old new)
  any-call call came done is same row = list-call call came done is same (at-atom came row)

  -- it asks questions of types
  pub asking-call : (call : LibraryCall) (done : Result Tried Memory) → call ≡ p → IfOk done (λ t. (a : ℕ) → IsLibrary facts p a vs old new t) → IfOk done (IsLibrary facts call n vs old new)
  asking-call call done is row = subst (λ x. IfOk done (IsLibrary facts x n vs old new)) (sym is) (by done row)
    where
      by : (r : Result Tried Memory) → IfOk r (λ t. (a : ℕ) → IsLibrary facts p a vs old new t) → IfOk r (IsLibrary facts p n vs old new)
      by (Ok t) row = row n
      by (Err e) row = tt

-- ---- what stays

pub called-stays : (old new : World) (came : Result (Option Came) Memory) (done : Result Tried Memory) → done ≡ all_tried came → IfOk came (RowStays old new) → IfOk done (TriedStays old new)
called-stays old new came done same row = subst (λ r. IfOk r (TriedStays old new)) (sym same) (by came row)
  where
    by : (r : Result (Option Came) Memory) → IfOk r (RowStays old new) → IfOk (all_tried r) (TriedStays old new)
    by (Ok (Some came)) row = row
    by (Ok None) row = row
    by (Err e) row = tt

-- where the world is what it was
pub all-stay : (w : World) (done : Result Tried Memory) → IfOk done (TriedStays w w)
all-stay w (Ok t) = tried-stays w t
all-stay w (Err e) = tt

pub ruleset staying = (called-stays, all-stay)
