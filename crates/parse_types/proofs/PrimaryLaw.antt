-- The law at primary types that hold no list.
use Rattle.std.proofs.Common.{◌≡◌, ℕ, zero, suc, ◌≤◌, Bool, true, false, ◌∷◌, length, Option, None, Some, refl, ap, arith}
use Rattle.std.specs.Prelude.{option_map}
use Rattle.std.proofs.lemmas.Option.{option_and_then_some}
use Rattle.std.proofs.lemmas.Bool.{false≢true}
use Rattle.bal_base.specs.declared.token.TokenKind.TheVariants.{Word as WordKind, Keyword as KeywordKind, Sign as SignKind}
use Rattle.bal_base.specs.declared.token.Sign.{Sign}
use Rattle.bal_base.specs.declared.token.Sign.TheVariants.{Colon, Greater, Less, OpenParen, CloseParen}
use Rattle.bal_tree.specs.declared.name.Prefix.{Prefix}
use Rattle.bal_tree.specs.declared.name.Prefix.TheVariants.{Word as WordPrefix, Int as IntPrefix}
use Rattle.bal_tree.specs.declared.name.QualifiedName.{QualifiedName}
use Rattle.bal_tree.specs.declared.name.Literal.{Literal}
use Rattle.bal_tree.specs.declared.name.Literal.TheVariants.{Int as IntLiteral, Str as StrLiteral, True as TrueLiteral, False as FalseLiteral, Nil as NilLiteral}
use Rattle.bal_tree.specs.declared.types.BuiltinType.{BuiltinType}
use Rattle.bal_tree.specs.declared.types.BuiltinType.TheVariants.{Int, String, Boolean, Byte, Any, AnyData, Never, ReadOnly}
use Rattle.bal_tree.specs.Pieces.{Pieces, ◌&◌, sign}
use Rattle.bal_tree.specs.Spells.{onto}
use Rattle.bal_tree.specs.NamePieces.{name_pieces, literal_pieces}
use Rattle.bal_tree.specs.TypePieces.{builtin_key, in_angles as angle_pieces}
use Rattle.bal_tree.specs.TypeRules.{TypeFacts, closed, is_int, name_fits}
use Rattle.parse_types.specs.Loops.{◌>>=◌, or_else, else_stays, many}
use Rattle.token_steps.specs.Tokens.{Kinds, take_sign, take_word}
use Rattle.parse_types.specs.Reaches.{open_at, left_length, colon_word, prefixed, suffix_step, in_angles, ampersand_step, bar_step, sign_type, primary, postfix, intersection, union, no_more, inside}
use Rattle.parse_types.proofs.Taking.{take_sign-less, take_word-less}
use Rattle.parse_types.proofs.Follows.{Closes, open_end, went-here, went-option}
use Rattle.parse_types.proofs.Law.{At, TypeLaw, before, inside-less}

-- what is read exactly
pub found : (n : ℕ) (middle : Bool) {xs : Kinds} (ks : Kinds) → primary (inside n) middle xs ≡ Some (open_at ks) → At (primary (inside n) middle) (λ l. l) xs middle closed ks
found n middle ks e = record { left = open_at ks; is = e; went = went-here middle ks }

-- no type begins with a sign that is none of its first ones
pub no-type : (s : Sign) (ks : Kinds) → ((inner : Bool → Kinds → Option Kinds) (middle : Bool) → sign_type inner middle s (SignKind s ∷ ks) ≡ None) → (n : ℕ) (middle : Bool) → inside n middle (SignKind s ∷ ks) ≡ None
unfolding union intersection postfix
no-type s ks none zero middle = refl
no-type s ks none (suc n) middle =
    ap (λ o. no_more (SignKind s ∷ ks) (option_map (many left_length (bar_step (inside n) middle)) (option_map (many left_length (ampersand_step (inside n) middle)) (option_map (many left_length suffix_step) o)))) (none (inside n) middle)

-- ---- names

colon_word-less : (ks a : Kinds) → colon_word ks ≡ Some a → length a ≤ length ks
colon_word-less ks a e =
    option_and_then_some take_word (take_sign Colon ks) a e
    (λ x p q. let h = take_sign-less Colon ks x p in let k = take_word-less x a q in omega arith)

int-law : (n : ℕ) (middle : Bool) (ks : Kinds) → At (primary (inside n) middle) (λ l. l) (KeywordKind (builtin_key Int) ∷ ks) middle (open_end true) ks
int-law n middle ks = record {
  left = open_at (else_stays (colon_word ks) ks);
  is = refl;
  went = went-option middle true (colon_word ks) ks (colon_word-less ks) (λ _. refl) (λ s. s.int_colon refl);
}

pub builtin-law : (b : BuiltinType) (n : ℕ) (middle : Bool) (ks : Kinds) → At (primary (inside n) middle) (λ l. l) (KeywordKind (builtin_key b) ∷ ks) middle (open_end (is_int b)) ks
builtin-law Int n middle ks = int-law n middle ks
builtin-law String n middle ks = found n middle ks refl
builtin-law Boolean n middle ks = found n middle ks refl
builtin-law Byte n middle ks = found n middle ks refl
builtin-law Any n middle ks = found n middle ks refl
builtin-law AnyData n middle ks = found n middle ks refl
builtin-law Never n middle ks = found n middle ks refl
builtin-law ReadOnly n middle ks = found n middle ks refl

word-law : (n : ℕ) (middle : Bool) {xs : Kinds} (ks : Kinds) → primary (inside n) middle xs ≡ Some (open_at (prefixed middle ks)) → At (primary (inside n) middle) (λ l. l) xs middle closed ks
word-law n true ks e = found n true ks e
word-law n false ks e = record {
  left = open_at (else_stays (colon_word ks) ks);
  is = e;
  went = went-option false false (colon_word ks) ks (colon_word-less ks) (λ h. absurd (false≢true h)) (λ s. ap (λ o. o >>= take_word) (s.colon refl));
}

pub name-law : (name : QualifiedName) (n : ℕ) (middle : Bool) (ks : Kinds) → name_fits middle name.prefix ≡ true → At (primary (inside n) middle) (λ l. l) (onto (name_pieces name) ks) middle closed ks
name-law name n middle ks fits = law middle name.prefix fits
  where
    law : (m : Bool) (p : Option Prefix) → name_fits m p ≡ true → At (primary (inside n) m) (λ l. l) (onto (name_pieces record name { prefix = p }) ks) m closed ks
    law m None fits = word-law n m ks refl
    law m (Some (IntPrefix at)) fits = found n m ks refl
    law false (Some (WordPrefix w)) fits = found n false ks refl
    law true (Some (WordPrefix w)) fits = cc fits

pub literal-law : (l : Literal) (n : ℕ) (middle : Bool) (ks : Kinds) → At (primary (inside n) middle) (λ l. l) (onto (literal_pieces l) ks) middle closed ks
literal-law (IntLiteral value at) n middle ks = found n middle ks refl
literal-law (StrLiteral text at) n middle ks = found n middle ks refl
literal-law (TrueLiteral at) n middle ks = found n middle ks refl
literal-law (FalseLiteral at) n middle ks = found n middle ks refl
literal-law (NilLiteral at) n middle ks =
    found n middle ks
    (ap (λ o. option_map open_at (or_else (o >>= take_sign CloseParen) (Some ks))) (no-type CloseParen ks (λ _ _. refl) n false))

-- ---- brackets

pub greater-closes : (ks : Kinds) → Closes (SignKind Greater ∷ ks)
greater-closes ks = record { less = refl; paren = refl; colon = refl; returns = refl; ends = record { no_suffix = refl; no_ampersand = refl; no_bar = refl } }

pub paren-closes : (ks : Kinds) → Closes (SignKind CloseParen ∷ ks)
paren-closes ks = record { less = refl; paren = refl; colon = refl; returns = refl; ends = record { no_suffix = refl; no_ampersand = refl; no_bar = refl } }

pub word-closes : (w : _) (ks : Kinds) → Closes (WordKind w ∷ ks)
word-closes w ks = record { less = refl; paren = refl; colon = refl; returns = refl; ends = record { no_suffix = refl; no_ampersand = refl; no_bar = refl } }

module _ (p : Pieces) (f : TypeFacts) (law : TypeLaw p f) (n : ℕ) where
  -- `<T>`
  pub angles : (middle : Bool) (ks : Kinds) → f.is_formed middle ≡ true → length (onto (angle_pieces p) ks) ≤ n → in_angles (inside n middle) (onto (angle_pieces p) ks) ≡ Some ks
  angles middle ks formed fits = ap (λ o. o >>= take_sign Greater) (before p f law n middle (SignKind Greater ∷ ks) formed (omega arith) (greater-closes ks))

  pub parens-law : (middle : Bool) (ks : Kinds) → f.is_formed false ≡ true → length (onto (sign OpenParen & p & sign CloseParen) ks) ≤ n → At (primary (inside n) middle) (λ l. l) (onto (sign OpenParen & p & sign CloseParen) ks) middle closed ks
  parens-law middle ks formed fits =
      found n middle ks
      (ap (λ o. option_map open_at (or_else (o >>= take_sign CloseParen) (take_sign CloseParen (onto p (SignKind CloseParen ∷ ks)))))
      (before p f law n false (SignKind CloseParen ∷ ks) formed (omega arith) (paren-closes ks)))

in_angles-less : (n : ℕ) (middle : Bool) (ks a : Kinds) → in_angles (inside n middle) ks ≡ Some a → length a ≤ length ks
in_angles-less n middle ks a e =
    option_and_then_some (λ b. inside n middle b >>= take_sign Greater) (take_sign Less ks) a e
    (λ x p q. option_and_then_some (take_sign Greater) (inside n middle x) a q
    (λ y r t. let h = take_sign-less Less ks x p in let k = inside-less n middle x y r in let j = take_sign-less Greater y a t in omega arith))

-- `error` alone
pub error-law : (n : ℕ) (middle : Bool) {xs : Kinds} (ks : Kinds) → primary (inside n) middle xs ≡ Some (open_at (else_stays (in_angles (inside n middle) ks) ks)) → At (primary (inside n) middle) (λ l. l) xs middle closed ks
error-law n middle ks e = record {
  left = open_at (else_stays (in_angles (inside n middle) ks) ks);
  is = e;
  went = went-option middle false (in_angles (inside n middle) ks) ks (in_angles-less n middle ks) (λ h. absurd (false≢true h)) (λ s. ap (λ o. o >>= λ a. inside n middle a >>= take_sign Greater) s.less);
}
