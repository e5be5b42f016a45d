-- What the answer of a function that reads says, once it is known.
use Rattle.std.proofs.Common.{◌≡◌, List, Option, None, Some, Result, Ok, Err, false, Bor, refl, subst}
use Rattle.std.specs.Prelude.{is_some}
use Rattle.std.specs.Global.{Box}
use Rattle.bal_base.specs.declared.stop.Stop.{Stop}
use Rattle.bal_base.specs.declared.stop.Stop.TheVariants.{Memory, Fault}
use Rattle.bal_base.specs.declared.token.Token.{Token}
use Rattle.bal_tree.specs.Spells.{kinds_of}
use Rattle.bal_tree.specs.declared.types.TypeTree.{TypeTree}
use Rattle.token_steps.specs.declared.steps.Missing.{Missing}
use Rattle.parse_types.specs.Starts.{Leaves, IfMissing}
use Rattle.token_steps.specs.Tokens.{Kinds}

pub leaves-missing : {T : Type 0} (want : Option Kinds) (r : Result (T × Bor (List Token)) (Stop Missing)) (e : Missing) → r ≡ Err (Fault e) → Leaves want r → want ≡ None
leaves-missing want r e is h = subst (Leaves want) is h

pub leaves-found : {T : Type 0} (want : Option Kinds) (r : Result (T × Bor (List Token)) (Stop Missing)) (x : T × Bor (List Token)) → r ≡ Ok x → Leaves want r → want ≡ Some (kinds_of x.1.now)
leaves-found want r x is h = subst (Leaves want) is h

pub no-rest : (o : Option (Box TypeTree)) → is_some o ≡ false → o ≡ None
no-rest None e = refl
no-rest (Some b) e = cc e

pub if-missing : {A B : Type 0} (e : Stop Missing) → (A → B) → IfMissing e A → IfMissing e B
if-missing Memory f h = tt
if-missing (Fault e) f h = f h

pub so-missing : {A : Type 0} (e : Stop Missing) → A → IfMissing e A
so-missing Memory h = tt
so-missing (Fault e) h = h
