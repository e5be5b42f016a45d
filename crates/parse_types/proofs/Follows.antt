-- What may stand behind a type so that it ends there.
use Rattle.std.proofs.Common.{◌≡◌, ℕ, ◌≤◌, Bool, true, false, length, Option, None, Some, refl, sym, ap, ◌∙◌, arith}
use Rattle.std.proofs.lemmas.Bool.{false≢true}
use Rattle.bal_base.specs.declared.token.Keyword.TheVariants.{Returns}
use Rattle.bal_base.specs.declared.token.Sign.TheVariants.{Bar, Ampersand, OpenParen, Less, Colon}
use Rattle.bal_tree.specs.TypeRules.{TypeEnd}
use Rattle.parse_types.specs.Loops.{◌>>=◌, else_stays}
use Rattle.token_steps.specs.Tokens.{Kinds, take_sign, take_key, take_word}
use Rattle.parse_types.specs.Reaches.{Left, open_at, colon_word, suffix}

-- nothing here that a type could take as its last part, in a middle or not, where it may end in `int`
pub record Stays (middle in_int : Bool) (ks : Kinds) : Type 0 where
  pub less : take_sign Less ks ≡ None
  pub paren : take_sign OpenParen ks ≡ None
  pub returns : take_key Returns ks ≡ None
  pub colon : middle ≡ false → take_sign Colon ks ≡ None
  pub int_colon : in_int ≡ true → colon_word ks ≡ None

-- nothing here that goes on with a type
pub record Ends (ks : Kinds) : Type 0 where
  pub no_suffix : suffix ks ≡ None
  pub no_ampersand : take_sign Ampersand ks ≡ None
  pub no_bar : take_sign Bar ks ≡ None

-- behind a type that may have taken all, something that it could not take
abbrev pub Follows : Bool → Bool → Bool → Kinds → Type 0
Follows middle in_int true ks = Stays middle in_int ks × Ends ks
Follows middle in_int false ks = Stays middle in_int ks

-- nothing here that any type could take or go on with
pub record Closes (ks : Kinds) : Type 0 where
  pub less : take_sign Less ks ≡ None
  pub paren : take_sign OpenParen ks ≡ None
  pub returns : take_key Returns ks ≡ None
  pub colon : take_sign Colon ks ≡ None
  pub ends : Ends ks

pub closes-stay : (middle in_int : Bool) (ks : Kinds) → Closes ks → Stays middle in_int ks
closes-stay middle in_int ks c = record {
  less = c.less;
  paren = c.paren;
  returns = c.returns;
  colon = λ _. c.colon;
  int_colon = λ _. ap (λ o. o >>= take_word) c.colon;
}

pub closes-follow : (middle in_int in_result : Bool) (ks : Kinds) → Closes ks → Follows middle in_int in_result ks
closes-follow middle in_int true ks c = (closes-stay middle in_int ks c, c.ends)
closes-follow middle in_int false ks c = closes-stay middle in_int ks c

-- what is left is no more than stood there, and just that where it could not be taken; behind `int` a colon and a word were taken
pub record Went (middle : Bool) (end : TypeEnd) (ks : Kinds) (left : Left) : Type 0 where
  pub no_more : length left.rest ≤ length ks
  pub took : end.in_int ≡ true → (a : Kinds) → colon_word ks ≡ Some a → length left.rest ≤ length a
  pub just : Follows middle end.in_int end.in_result ks → left ≡ record { in_result = end.in_result; rest = ks }

abbrev pub open_end : Bool → TypeEnd
open_end in_int = record { in_result = false; in_int = in_int }

pub went-here : (middle : Bool) (ks : Kinds) → Went middle (open_end false) ks (open_at ks)
went-here middle ks = record { no_more = omega arith; took = λ h. absurd (false≢true h); just = λ _. refl }

pub went-option : (middle in_int : Bool) (o : Option Kinds) (ks : Kinds) → ((a : Kinds) → o ≡ Some a → length a ≤ length ks) → (in_int ≡ true → colon_word ks ≡ o) → (Stays middle in_int ks → o ≡ None) → Went middle (open_end in_int) ks (open_at (else_stays o ks))
went-option middle in_int None ks h t k = record { no_more = omega arith; took = λ i a e. let bad : None ≡ Some a = sym (t i) ∙ e in cc bad; just = λ _. refl }
went-option middle in_int (Some b) ks h t k = record {
  no_more = h b refl;
  took = λ i a e. let both : Some b ≡ Some a = sym (t i) ∙ e in let same : b ≡ a = cc both in let size = ap length same in omega arith;
  just = λ s. ap (λ o. open_at (else_stays o ks)) (k s);
}
