-- Each level of types: how its loop begins.
use Rattle.std.proofs.Common.{◌≡◌, ℕ, Bool, length, ◌≤◌, Option, None, Some, refl, ap, ◌∙◌, sym, ◌<◌}
use Rattle.std.specs.Prelude.{option_map}
use Rattle.std.proofs.lemmas.Bool.{le-leb}
use Rattle.parse_types.specs.Loops.{many}
use Rattle.token_steps.specs.Tokens.{Kinds}
use Rattle.parse_types.specs.Reaches.{Left, left_length, suffix_step, ampersand_step, bar_step, primary, postfix, intersection, union, no_more, inside}
use Rattle.parse_types.proofs.Going.{many-stops, many-goes}

module _ (n : ℕ) (middle : Bool) (xs : Kinds) where
  pub union-from : (l : Left) → intersection (inside n) middle xs ≡ Some l → union (inside n) middle xs ≡ Some (many left_length (bar_step (inside n) middle) l)
  unfolding union
  union-from l e = ap (option_map (many left_length (bar_step (inside n) middle))) e

  pub intersection-from : (l : Left) → postfix (inside n) middle xs ≡ Some l → intersection (inside n) middle xs ≡ Some (many left_length (ampersand_step (inside n) middle) l)
  unfolding intersection
  intersection-from l e = ap (option_map (many left_length (ampersand_step (inside n) middle))) e

  pub postfix-from : (l : Left) → primary (inside n) middle xs ≡ Some l → postfix (inside n) middle xs ≡ Some (many left_length suffix_step l)
  unfolding postfix
  postfix-from l e = ap (option_map (many left_length suffix_step)) e

  pub union-missing : intersection (inside n) middle xs ≡ None → union (inside n) middle xs ≡ None
  unfolding union
  union-missing e = ap (option_map (many left_length (bar_step (inside n) middle))) e

  pub intersection-missing : postfix (inside n) middle xs ≡ None → intersection (inside n) middle xs ≡ None
  unfolding intersection
  intersection-missing e = ap (option_map (many left_length (ampersand_step (inside n) middle))) e

  pub postfix-missing : primary (inside n) middle xs ≡ None → postfix (inside n) middle xs ≡ None
  unfolding postfix
  postfix-missing e = ap (option_map (many left_length suffix_step)) e

-- a type inside another one
pub no_more-passes : (ks : Kinds) (l : Left) → length l.rest ≤ length ks → no_more ks (Some l) ≡ Some l.rest
no_more-passes ks l h = rw (le-leb (length l.rest) (length ks) h) refl

-- ---- a loop of the code

module _ {S : Type 0} (size : S → ℕ) (step : S → Option S) where
  pub loop-more : (o : Option S) (s t : S) → o ≡ Some (many size step s) → Some t ≡ step s → size t < size s → o ≡ Some (many size step t)
  loop-more o s t e next lt = e ∙ ap Some (many-goes size step s t (sym next) lt)

  pub loop-done : (o : Option S) (s : S) → o ≡ Some (many size step s) → None ≡ step s → o ≡ Some s
  loop-done o s e stop = e ∙ ap Some (many-stops size step s (sym stop))

pub ruleset levels = (union-from, intersection-from, postfix-from, union-missing, intersection-missing, postfix-missing)
