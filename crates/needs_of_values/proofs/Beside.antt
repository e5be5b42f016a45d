-- What is wanted beside an error is what the need means.
use Rattle.std.proofs.Common.{◌≡◌, ◌++◌, List, [], ◌∷◌, Option, Some, None, Ok, refl}
use Rattle.checks.specs.Checks.{Comes}
use Rattle.operations.specs.Kinds.{IsError}
use Rattle.typed_tree.specs.SharedTypes.{Shared, sem_of}
use Rattle.check_words.specs.State.{IsLast, State}
use Rattle.check_words.specs.Values.{wants_beside_error, wants_error_too}
use Rattle.check_words.specs.Words.{EitherOf}
use Rattle.check_words.proofs.Coming.{given, next}
use Rattle.check_words.proofs.Flowing.{want-put}

pub none-beside : (s : State) (ws : List (Option Shared)) → ws ≡ s.wants ++ None ∷ [] → Comes (wants_beside_error None) s (Ok tt) (record s { wants = ws })
none-beside s ws more = want-put s None None ws tt more

pub some-beside : (s : State) (t u : Shared) (ws : List (Option Shared)) → EitherOf (sem_of t) IsError s.atoms u.value → ws ≡ s.wants ++ Some u ∷ []
    → Comes (wants_beside_error (Some t)) s (Ok tt) (record s { wants = ws })
some-beside s t u ws of more = next _ _ _ _ _ u s (given _ s u of) (want-put s (Some u) (Some u) ws refl more)

pub error-too-comes : (s : State) (w : Option Shared) (ws : List (Option Shared)) → IsLast s.wants w → Comes (wants_beside_error w) s (Ok tt) (record s { wants = ws })
    → Comes wants_error_too s (Ok tt) (record s { wants = ws })
error-too-comes s w ws last h = next _ _ _ _ _ w s (given _ s w last) h
