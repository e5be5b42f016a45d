-- What a call gives is what its row says.
use Rattle.std.proofs.Common.{◌≡◌, ℕ, true, false, List, Option, Result}
use Rattle.std.proofs.lemmas.Bool.{false≢true}
use Rattle.bal_base.specs.declared.fault.Fault.{Fault}
use Rattle.bal_base.specs.declared.place.Place.{Place}
use Rattle.bal_base.specs.declared.stop.Stop.{Stop}
use Rattle.checks.specs.Checks.{Comes}
use Rattle.operations.specs.declared.library.LibraryCall.{LibraryCall}
use Rattle.operations.specs.declared.library.LibraryCall.TheVariants.{Println, Push}
use Rattle.type_model.specs.declared.answers.TypeLimit.{TypeLimit}
use Rattle.type_model.specs.declared.atoms.AtomDef.{AtomDef}
use Rattle.type_model.specs.Calls.{Asked}
use Rattle.typed_tree.specs.SharedTypes.{Shared}
use Rattle.check_words.specs.Calls.{expects_of_library, expects_pushed, makes_library, wants_kind}
use Rattle.check_words.specs.Library.{Takes}
use Rattle.check_words.specs.State.{State}
use Rattle.check_calls.specs.Results.{is_push, made_by, result_of}

module _ (passes : List AtomDef → Asked → TypeLimit → Type 0) where
  pub as-made : (call : LibraryCall) (receiver : Option Shared) (n : ℕ) (at : Place) (s new : State) (r : Result (Unit {0}) (Stop Fault))
      → Comes (made_by passes (result_of call) call receiver n at) s r new → Comes (makes_library passes call receiver n at) s r new
  as-made Println receiver n at s new r h = h
  as-made call receiver n at s new r h = h

  pub as-pushed : (call : LibraryCall) (receiver : Option Shared) (takes : Takes) (at : Place) (s new : State) (r : Result (Unit {0}) (Stop Fault)) → is_push call ≡ true
      → Comes (expects_pushed passes receiver at) s r new → Comes (expects_of_library passes call receiver takes at) s r new
  as-pushed Push receiver takes at s new r is h = h
  as-pushed call receiver takes at s new r is h = absurd (false≢true is)

  pub as-kind : (call : LibraryCall) (receiver : Option Shared) (takes : Takes) (at : Place) (s new : State) (r : Result (Unit {0}) (Stop Fault)) → is_push call ≡ false
      → Comes (wants_kind takes) s r new → Comes (expects_of_library passes call receiver takes at) s r new
  as-kind Push receiver takes at s new r is h = absurd (cc)
  as-kind call receiver takes at s new r is h = h
