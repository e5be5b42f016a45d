-- The words of needs that make a part of the last ones.
use Rattle.std.proofs.Common.{ℕ, suc, Bool, true, false, List, Option, None, Some}
use Rattle.bal_base.specs.declared.place.Place.{Place}
use Rattle.checks.specs.Checks.{gives_some}
use Rattle.operations.specs.declared.library.LibraryCall.{LibraryCall}
use Rattle.operations.specs.declared.library.LibraryCall.TheVariants.{Println, Print, Readln, FromString, Abs, ToString, Clone, CloneReadOnly, StringLength, StartsWith, Trim, Substring, ToUpperAscii, ToLowerAscii, ToCodePointInts, ListLength, Push, Pop, RemoveItem, Slice, Reverse, MappingLength, Keys, HasKey, Get, RemoveKey, Message, Cause, Detail}
use Rattle.type_model.specs.declared.answers.TypeLimit.{TypeLimit}
use Rattle.type_model.specs.declared.atoms.AtomDef.{AtomDef}
use Rattle.type_model.specs.declared.basic.Ty.{Ty}
use Rattle.type_model.specs.Calls.{Asked}
use Rattle.typed_tree.specs.declared.event.SeenEvent.{SeenEvent}
use Rattle.typed_tree.specs.declared.expr.TypedExpr.{TypedExpr}
use Rattle.typed_tree.specs.declared.form.StrictForm.{StrictForm}
use Rattle.typed_tree.specs.SharedTypes.{Shared}
use Rattle.typed_tree.specs.Views.{IsStrict}
use Rattle.check_words.specs.declared.access.Access.{Access}
use Rattle.check_words.specs.declared.access.Access.TheVariants.{Char, Item, Key}
use Rattle.check_words.specs.Actions.{makes_message, message_to}
use Rattle.check_words.specs.Calls.{gives_by, lists_by, makes_call_of, makes_library, starts_of}
use Rattle.check_words.specs.Members.{reads_element}
use Rattle.check_words.specs.State.{Called, OfFunction, OfLibrary, OfValue}
use Rattle.check_words.specs.Words.{Atoms}
use Rattle.flow_needs.proofs.Growing.{StrictOf, Weaving, weave-makes, weave-then}
use Rattle.flow_needs.proofs.Quieting.{quiet-asking, quiet-some}
use Rattle.flow_needs.proofs.QuietWords.{quiet-applies, quiet-member-at, quiet-result, quiet-some-member}

pub strict-made : {form : StrictForm} {es : List TypedExpr} {t : Shared} {at : Place} (e : TypedExpr) → IsStrict form es t at e → StrictOf es e
strict-made {form} {es} {t} {at} e view = (form, t, at, view)

weave-gives : (n : ℕ) (call : LibraryCall) (P : Atoms → Ty → Type 0) (at : Place) → Weaving (gives_by n call P at)
weave-gives n call P at = weave-makes n _ (λ env parts e h. strict-made e h.2)

weave-lists : (n : ℕ) (call : LibraryCall) (P : Atoms → Ty → Type 0) (at : Place) → Weaving (lists_by n call P at)
weave-lists n call P at = weave-then _ _ (quiet-asking _) (λ atom. weave-makes n _ (λ env parts e h. strict-made e h.2))

-- what can't be met
weave-never : Weaving (gives_some (λ s u. ⊥))
unfolding gives_some
weave-never old new a (never, same) = absurd never

-- ---- messages

pub weave-message : (may_fail : Bool) (count : ℕ) (form : StrictForm) (peer : ℕ) (at : Place) → Weaving (makes_message may_fail count form peer at)
weave-message false count form peer at = weave-makes count _ (λ env parts e h. strict-made e h.2)
weave-message true count form peer at = weave-then _ _ (quiet-result peer) (λ t. weave-makes count _ (λ env parts e h. strict-made e h.2))

pub weave-message-to : (fails_by : ℕ → ℕ → List SeenEvent → Bool) (count : ℕ) (form : StrictForm) (peer : Option ℕ) (at : Place) → Weaving (message_to fails_by count form peer at)
weave-message-to fails_by count form None at = weave-makes count _ (λ env parts e h. strict-made e h.2)
weave-message-to fails_by count form (Some peer) at = weave-then _ _ (quiet-some _) (λ site. weave-then _ _ (quiet-some _) (λ u. weave-message _ count form peer at))

module _ (passes : List AtomDef → Asked → TypeLimit → Type 0) where
  -- ---- members

  pub weave-reads : (a : Access) (at : Place) → Weaving (reads_element passes a at)
  weave-reads Char at = weave-makes 2 _ (λ env parts e h. strict-made e h.2)
  weave-reads Item at =
      weave-then _ _ (quiet-some _) (λ p. weave-then _ _ (quiet-asking _) (λ keys.
      weave-then _ _ (quiet-some-member passes _ keys at) (λ m. weave-makes 2 _ (λ env parts e h. strict-made e h.2))))
  weave-reads Key at =
      weave-then _ _ (quiet-some _) (λ p. weave-then _ _ (quiet-asking _) (λ keys.
      weave-then _ _ (quiet-member-at passes _ keys at) (λ m. weave-makes 2 _ (λ env parts e h. strict-made e h.2))))

  -- ---- calls

  pub weave-made : (call : LibraryCall) (receiver : Option Shared) (n : ℕ) (at : Place) → Weaving (makes_library passes call receiver n at)
  weave-made Println receiver n at = weave-gives n _ _ at
  weave-made Print receiver n at = weave-gives n _ _ at
  weave-made Readln receiver n at = weave-gives n _ _ at
  weave-made FromString receiver n at = weave-gives n _ _ at
  weave-made Abs receiver n at = weave-gives n _ _ at
  weave-made ToString receiver n at = weave-gives n _ _ at
  weave-made Clone receiver n at = weave-then _ _ (quiet-some _) (λ t. weave-makes n _ (λ env parts e h. strict-made e h.2))
  weave-made CloneReadOnly receiver n at = weave-then _ _ (quiet-some _) (λ t. weave-then _ _ (quiet-some _) (λ u. weave-makes n _ (λ env parts e h. strict-made e h.2)))
  weave-made StringLength receiver n at = weave-gives n _ _ at
  weave-made StartsWith receiver n at = weave-gives n _ _ at
  weave-made Trim receiver n at = weave-gives n _ _ at
  weave-made Substring receiver n at = weave-gives n _ _ at
  weave-made ToUpperAscii receiver n at = weave-gives n _ _ at
  weave-made ToLowerAscii receiver n at = weave-gives n _ _ at
  weave-made ToCodePointInts receiver n at = weave-lists n _ _ at
  weave-made ListLength receiver n at = weave-gives n _ _ at
  weave-made Push receiver n at = weave-gives n _ _ at
  weave-made Pop receiver n at = weave-then _ _ (quiet-some _) (λ t. weave-then _ _ (quiet-member-at passes _ _ at) (λ m. weave-gives n _ _ at))
  weave-made RemoveItem receiver n at = weave-then _ _ (quiet-some _) (λ t. weave-then _ _ (quiet-member-at passes _ _ at) (λ m. weave-gives n _ _ at))
  weave-made Slice receiver n at = weave-then _ _ (quiet-some _) (λ t. weave-then _ _ (quiet-member-at passes _ _ at) (λ m. weave-lists n _ _ at))
  weave-made Reverse receiver n at = weave-then _ _ (quiet-some _) (λ t. weave-then _ _ (quiet-member-at passes _ _ at) (λ m. weave-lists n _ _ at))
  weave-made MappingLength receiver n at = weave-gives n _ _ at
  weave-made Keys receiver n at = weave-lists n _ _ at
  weave-made HasKey receiver n at = weave-gives n _ _ at
  weave-made Get receiver n at = weave-then _ _ (quiet-some _) (λ t. weave-then _ _ (quiet-member-at passes _ _ at) (λ m. weave-gives n _ _ at))
  weave-made RemoveKey receiver n at = weave-then _ _ (quiet-some _) (λ t. weave-then _ _ (quiet-member-at passes _ _ at) (λ m. weave-gives n _ _ at))
  weave-made Message receiver n at = weave-gives n _ _ at
  weave-made Cause receiver n at = weave-gives n _ _ at
  weave-made Detail receiver n at = weave-gives n _ _ at

  pub weave-call-of : (c : Called) (n : ℕ) (at : Place) → Weaving (makes_call_of passes c n at)
  weave-call-of (OfFunction f) n at = weave-makes n _ (λ env parts e h. strict-made e h.2)
  weave-call-of OfValue n at = weave-then _ _ (quiet-some _) (λ all. weave-then _ _ (quiet-applies passes all at) (λ t. weave-makes (suc n) _ (λ env parts e h. strict-made e h.2)))
  weave-call-of (OfLibrary row receiver) n at = weave-made row.call receiver _ at

  pub weave-starts-of : (c : Called) (n : ℕ) (here at : Place) → Weaving (starts_of passes c n here at)
  weave-starts-of (OfFunction f) n here at = weave-makes n _ (λ env parts e h. strict-made e h.2)
  weave-starts-of OfValue n here at =
      weave-then _ _ (quiet-some _) (λ all. weave-then _ _ (quiet-applies passes all here) (λ t. weave-then _ _ (quiet-asking _) (λ atom. weave-makes (suc n) _ (λ env parts e h. strict-made e h.2))))
  weave-starts-of (OfLibrary row receiver) n here at = weave-never
