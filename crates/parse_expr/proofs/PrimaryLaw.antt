-- The law at primary expressions.
use Rattle.std.proofs.Common.{◌≡◌, ℕ, zero, suc, ◌<◌, ◌≤◌, Bool, true, false, List, [], ◌∷◌, length, Option, None, Some, refl, sym, ap, subst, ◌∙◌, arith}
use Rattle.std.specs.Prelude.{option_map, is_some, if◌then◌else◌}
use Rattle.std.proofs.lemmas.Bool.{false≢true}
use Rattle.std.proofs.lemmas.Option.{option_and_then_some}
use Rattle.bal_base.specs.declared.token.TokenKind.TheVariants.{Word as WordKind, Keyword as KeywordKind, Sign as SignKind}
use Rattle.bal_base.specs.declared.token.Keyword.TheVariants.{Error as ErrorKey}
use Rattle.bal_base.specs.declared.token.Sign.{Sign}
use Rattle.bal_base.specs.declared.token.Sign.TheVariants.{OpenParen, CloseParen, OpenBracket, CloseBracket, OpenBrace, CloseBrace, Colon, Comma, Equal}
use Rattle.bal_tree.specs.declared.name.Prefix.{Prefix}
use Rattle.bal_tree.specs.declared.name.Prefix.TheVariants.{Word as WordPrefix, Int as IntPrefix}
use Rattle.bal_tree.specs.declared.name.QualifiedName.{QualifiedName}
use Rattle.bal_tree.specs.declared.name.Word.{Word}
use Rattle.bal_tree.specs.declared.name.Literal.{Literal}
use Rattle.bal_tree.specs.declared.name.Literal.TheVariants.{Int as IntLiteral, Str as StrLiteral, True as TrueLiteral, False as FalseLiteral, Nil as NilLiteral}
use Rattle.bal_tree.specs.declared.level.Level.TheVariants.{Postfix as PostfixLevel}
use Rattle.bal_tree.specs.ExprRules.{ExprFacts, tight as tight_facts}
use Rattle.bal_tree.specs.Levels.{rank}
use Rattle.bal_tree.specs.Pieces.{Pieces, ◌&◌, token, key, sign, separated, behind}
use Rattle.bal_tree.specs.Spells.{onto}
use Rattle.bal_tree.specs.NamePieces.{word_pieces, name_pieces, literal_pieces}
use Rattle.bal_tree.specs.TypeRules.{name_fits}
use Rattle.parse_types.specs.Loops.{◌>>=◌, or_else, else_stays, many}
use Rattle.parse_types.specs.Reaches.{colon_word, prefixed}
use Rattle.token_steps.specs.Tokens.{Kinds, take_sign, take_word}
use Rattle.parse_types.proofs.Going.{many-stops, many-goes}
use Rattle.parse_types.proofs.Onto.{onto-longer}
use Rattle.parse_types.proofs.Taking.{take_sign-less, take_word-less}
use Rattle.parse_expr.specs.Reaches.{Left, left_length, suffix_step, tight, postfix, primary, parens, list, key as key_read, mapping_member, mapping, name_equal, cause, detail, details, error, inside, items_until}
use Rattle.parse_expr.proofs.Follows.{Ends, Closes, ends-anywhere, closes}
use Rattle.parse_expr.proofs.ItemsLaw.{not-first, ItemAt, ItemsAt, items-law}
use Rattle.parse_expr.proofs.Law.{operand, Known, ExprLaw, before, no-expr, suffixed-tight}
use Rattle.parse_expr.proofs.OperatorLaw.{tight-law}
use Rattle.parse_expr.proofs.SuffixLaw.{PrimaryAt, PrimaryLaw, PostfixAt, PostfixLaw, primary-alone, postfix-suffixed, suffixes-less, suffixes-end}

-- what is read exactly
pub found : (n : ℕ) (middle : Bool) (p : Pieces) (ks : Kinds) → primary (inside n 10 false) middle (onto p ks) ≡ Some ks → PrimaryAt n middle p ks
found n middle p ks e = record { rest = ks; is = e; no_more = omega arith; just = λ _. refl }

pub literal-law : (l : Literal) (n : ℕ) (middle : Bool) (ks : Kinds) → PrimaryAt n middle (literal_pieces l) ks
literal-law (IntLiteral value at) n middle ks = found n middle (literal_pieces (IntLiteral value at)) ks refl
literal-law (StrLiteral text at) n middle ks = found n middle (literal_pieces (StrLiteral text at)) ks refl
literal-law (TrueLiteral at) n middle ks = found n middle (literal_pieces (TrueLiteral at)) ks refl
literal-law (FalseLiteral at) n middle ks = found n middle (literal_pieces (FalseLiteral at)) ks refl
literal-law (NilLiteral at) n middle ks = found n middle (literal_pieces (NilLiteral at)) ks refl

-- ---- names

colon_word-less : (ks a : Kinds) → colon_word ks ≡ Some a → length a ≤ length ks
colon_word-less ks a e =
    option_and_then_some take_word (take_sign Colon ks) a e
    (λ x p q. let h = take_sign-less Colon ks x p in let k = take_word-less x a q in omega arith)

word-law : (n : ℕ) (middle : Bool) (p : Pieces) (ks : Kinds) → primary (inside n 10 false) middle (onto p ks) ≡ Some (prefixed middle ks) → PrimaryAt n middle p ks
word-law n true p ks e = found n true p ks e
word-law n false p ks e = record {
  rest = else_stays (colon_word ks) ks;
  is = e;
  no_more = less (colon_word ks) (colon_word-less ks);
  just = λ colon. ap (λ o. else_stays o ks) (colon refl);
}
  where
    less : (o : Option Kinds) → ((a : Kinds) → o ≡ Some a → length a ≤ length ks) → length (else_stays o ks) ≤ length ks
    less None h = omega arith
    less (Some a) h = h a refl

pub name-law : (name : QualifiedName) (n : ℕ) (middle : Bool) (ks : Kinds) → name_fits middle name.prefix ≡ true → PrimaryAt n middle (name_pieces name) ks
name-law name n middle ks fits = law middle name.prefix fits
  where
    law : (m : Bool) (p : Option Prefix) → name_fits m p ≡ true → PrimaryAt n m (name_pieces record name { prefix = p }) ks
    law m None fits = word-law n m (name_pieces record name { prefix = None }) ks refl
    law m (Some (IntPrefix at)) fits = found n m (name_pieces record name { prefix = Some (IntPrefix at) }) ks refl
    law false (Some (WordPrefix w)) fits = found n false (name_pieces record name { prefix = Some (WordPrefix w) }) ks refl
    law true (Some (WordPrefix w)) fits = cc fits

-- ---- an expression without operators but suffixes

pub postfix-known : (p : Pieces) (g f : ExprFacts) → PostfixLaw p g → rank f.level ≡ 0 → f.end.in_type ≡ false → ((middle : Bool) → f.is_formed middle ≡ true → g.is_formed middle ≡ true) → ExprLaw p f
postfix-known p g f law low no_end formed n middle h = record {
  levels = λ _ k ks le fits.
      let at = law n middle ks (formed middle h) fits in
      let less = suffixes-less n at.left in
      let no_more = at.no_more in
      tight-law _ _ _ _ _ middle n (operand p f) k ks (many left_length (suffix_step (inside n 10 false)) at.left).rest (omega arith)
      (suffixed-tight (inside n) middle (onto p ks) (many left_length (suffix_step (inside n 10 false)) at.left).rest (postfix-suffixed n middle p g.is_field ks at))
      (omega arith)
      (λ follows. suffixes-end n middle g.is_field ks at.left (at.just (λ _. follows.ends.no_call) follows.ends.no_name) follows.ends);
  loose = λ high. absurd (omega arith);
  no_type = λ _ e. absurd (false≢true (sym no_end ∙ e));
}

-- ---- closing signs begin no expression

pub no-expr-at-paren : (n : ℕ) (middle : Bool) (ks : Kinds) → inside n 10 middle (SignKind CloseParen ∷ ks) ≡ None
unfolding postfix
no-expr-at-paren n middle ks = no-expr CloseParen ks (λ inner m. refl) n middle

pub no-expr-at-bracket : (n : ℕ) (middle : Bool) (ks : Kinds) → inside n 10 middle (SignKind CloseBracket ∷ ks) ≡ None
unfolding postfix
no-expr-at-bracket n middle ks = no-expr CloseBracket ks (λ inner m. refl) n middle

-- an expression that was read does not begin with a closing sign
not-close : (s : Sign) (n : ℕ) (xs a : Kinds) → ((ks : Kinds) → inside n 10 false (SignKind s ∷ ks) ≡ None) → inside n 10 false xs ≡ Some a → take_sign s xs ≡ None
not-close s n xs a none e = not-first s xs (λ ks is. let bad : None ≡ Some a = sym (none ks) ∙ ap (inside n 10 false) (sym is) ∙ e in cc bad)

-- ---- parentheses, lists

pub parens-law : (p : Pieces) (f : ExprFacts) → ExprLaw p f → (n : ℕ) (middle : Bool) (ks : Kinds) → f.is_formed false ≡ true → length (onto (sign OpenParen & p & sign CloseParen) ks) ≤ n → PrimaryAt n middle (sign OpenParen & p & sign CloseParen) ks
parens-law p f law n middle ks formed fits =
    let xs = onto p (SignKind CloseParen ∷ ks) in
    let read = before p f law n false (SignKind CloseParen ∷ ks) formed (omega arith) (closes CloseParen ks refl) in
    found n middle (sign OpenParen & p & sign CloseParen) ks
    (ap (λ o. or_else o (inside n 10 false xs >>= take_sign CloseParen)) (not-close CloseParen n xs (SignKind CloseParen ∷ ks) (no-expr-at-paren n false) read)
    ∙ ap (λ o. o >>= take_sign CloseParen) read)

-- an expression in a list
pub expr-item : (s : Sign) (n : ℕ) (p : Pieces) (f : ExprFacts) → ExprLaw p f → f.is_formed false ≡ true → ((ks : Kinds) → Closes (SignKind s ∷ ks)) → ItemAt (inside n 10 false) s n p
expr-item s n p f law formed c = record {
  goes = λ ks fits. before p f law n false (SignKind Comma ∷ ks) formed fits (closes Comma ks refl);
  ends = λ ks fits. before p f law n false (SignKind s ∷ ks) formed fits (c ks);
}

pub list-law : (ps : List Pieces) (n : ℕ) (middle : Bool) (ks : Kinds) → ItemsAt (inside n 10 false) CloseBracket n ps → length (onto (sign OpenBracket & separated Comma ps & sign CloseBracket) ks) ≤ n → PrimaryAt n middle (sign OpenBracket & separated Comma ps & sign CloseBracket) ks
list-law ps n middle ks all fits =
    found n middle (sign OpenBracket & separated Comma ps & sign CloseBracket) ks
    (items-law (inside n 10 false) CloseBracket n (λ _. refl) (no-expr-at-bracket n false) refl ps ks all (omega arith))

-- ---- mappings

-- the reader of keys leaves what stands behind the key
abbrev pub KeyLaw : Pieces → ExprFacts → Type 0
KeyLaw p f = (n : ℕ) (ks : Kinds) → f.is_formed false ≡ true → length (onto p ks) ≤ n → key_read (inside n 10 false) (onto p ks) ≡ Some ks

abbrev pub MemberLaw : Pieces → ExprFacts → Type 0
MemberLaw p f = (n : ℕ) → f.is_formed false ≡ true → ItemAt (mapping_member (inside n 10 false)) CloseBrace n p

pub member-item : (p q : Pieces) (f g : ExprFacts) → KeyLaw p f → ExprLaw q g → (n : ℕ) → f.is_formed false ≡ true → g.is_formed false ≡ true → ItemAt (mapping_member (inside n 10 false)) CloseBrace n (p & sign Colon & q)
member-item p q f g law law2 n formed formed2 = record {
  goes = λ ks fits. reads (SignKind Comma ∷ ks) fits (closes Comma ks refl);
  ends = λ ks fits. reads (SignKind CloseBrace ∷ ks) fits (closes CloseBrace ks refl);
}
  where
    reads : (ks : Kinds) → length (onto (p & sign Colon & q) ks) < n → Closes ks → mapping_member (inside n 10 false) (onto (p & sign Colon & q) ks) ≡ Some ks
    reads ks fits c =
        let xs = SignKind Colon ∷ onto q ks in
        let longer = onto-longer p xs in
        ap (λ o. o >>= take_sign Colon >>= inside n 10 false) (law n xs formed (omega arith)) ∙ before q g law2 n false ks formed2 (omega arith) c

pub mapping-law : (ps : List Pieces) (n : ℕ) (middle : Bool) (ks : Kinds) → ItemsAt (mapping_member (inside n 10 false)) CloseBrace n ps → length (onto (sign OpenBrace & separated Comma ps & sign CloseBrace) ks) ≤ n → PrimaryAt n middle (sign OpenBrace & separated Comma ps & sign CloseBrace) ks
mapping-law ps n middle ks all fits =
    found n middle (sign OpenBrace & separated Comma ps & sign CloseBrace) ks
    (items-law (mapping_member (inside n 10 false)) CloseBrace n (λ _. refl) (λ _. refl) refl ps ks all (omega arith))

-- ---- errors

-- the reader of details at one behind its comma
pub record DetailAt (n : ℕ) (p : Pieces) : Type 0 where
  pub named : (ks : Kinds) → is_some (name_equal (onto p ks)) ≡ true
  pub goes : (ks : Kinds) → length (onto p ks) < n → Closes ks → detail (inside n 10 false) (SignKind Comma ∷ onto p ks) ≡ Some ks

abbrev pub DetailLaw : Pieces → ExprFacts → Type 0
DetailLaw p f = (n : ℕ) → f.is_formed false ≡ true → DetailAt n p

pub detail-at : (name : Word) (q : Pieces) (g : ExprFacts) → ExprLaw q g → (n : ℕ) → g.is_formed false ≡ true → DetailAt n (word_pieces name & sign Equal & q)
detail-at name q g law n formed = record {
  named = λ ks. refl;
  goes = λ ks fits c. before q g law n false ks formed (omega arith) c;
}

abbrev pub DetailsAt : ℕ → List Pieces → Type 0
DetailsAt n [] = Unit {0}
DetailsAt n (p ∷ ps) = DetailAt n p × DetailsAt n ps

-- what stands behind a detail, or behind the cause
details-close : (ps : List Pieces) (ks : Kinds) → Closes (onto (behind Comma ps & sign CloseParen) ks)
details-close [] ks = closes CloseParen ks refl
details-close (p ∷ ps) ks = closes Comma (onto p (onto (behind Comma ps & sign CloseParen) ks)) refl

details-go : (n : ℕ) (ps : List Pieces) (ks : Kinds) → DetailsAt n ps → length (onto (behind Comma ps & sign CloseParen) ks) ≤ n → many length (detail (inside n 10 false)) (onto (behind Comma ps & sign CloseParen) ks) ≡ SignKind CloseParen ∷ ks
details-go n [] ks all fits = many-stops length (detail (inside n 10 false)) (SignKind CloseParen ∷ ks) refl
details-go n (p ∷ ps) ks all fits =
    let zs = onto (behind Comma ps & sign CloseParen) ks in
    let longer = onto-longer p zs in
    many-goes length (detail (inside n 10 false)) (SignKind Comma ∷ onto p zs) zs (all.0.goes zs (omega arith) (details-close ps ks)) (omega arith) ∙ details-go n ps ks all.1 (omega arith)

details-law : (n : ℕ) (ps : List Pieces) (ks : Kinds) → DetailsAt n ps → length (onto (behind Comma ps & sign CloseParen) ks) ≤ n → take_sign CloseParen (details (inside n 10 false) (onto (behind Comma ps & sign CloseParen) ks)) ≡ Some ks
unfolding details
details-law n ps ks all fits = ap (take_sign CloseParen) (details-go n ps ks all fits)

-- a word before `=` is an expression alone
word-known : (w : _) → ExprLaw (token (WordKind w)) (tight_facts true false false (λ middle. true))
word-known w = postfix-known (token (WordKind w)) f f law refl refl (λ _ h. h)
  where
    f : ExprFacts
    f = tight_facts true false false (λ middle. true)

    law : PostfixLaw (token (WordKind w)) f
    law n middle ks formed fits = primary-alone n middle (token (WordKind w)) ks (word-law n middle (token (WordKind w)) ks refl)

not-named : (n : ℕ) (xs ks : Kinds) (s : Sign) → inside n 10 false xs ≡ Some (SignKind s ∷ ks) → (s ≡ Equal → ⊥) → length xs < n → is_some (name_equal xs) ≡ false
not-named n [] ks s e differs fits = refl
not-named n (WordKind w ∷ []) ks s e differs fits = refl
not-named n (WordKind w ∷ SignKind Equal ∷ xs) ks s e differs fits =
    let read = before (token (WordKind w)) (tight_facts true false false (λ middle. true)) (word-known w) n false (SignKind Equal ∷ xs) refl fits (closes Equal xs refl) in
    let both : Some (SignKind Equal ∷ xs) ≡ Some (SignKind s ∷ ks) = sym read ∙ e in
    absurd (differs (cc both))
not-named n (WordKind w ∷ SignKind x ∷ xs) ks s e differs fits = refl
not-named n (WordKind w ∷ x ∷ xs) ks s e differs fits = refl
not-named n (x ∷ xs) ks s e differs fits = refl

module _ (p : Pieces) (f : ExprFacts) (law : ExprLaw p f) (formed : f.is_formed false ≡ true) (n : ℕ) (ps : List Pieces) (all : DetailsAt n ps) (ks : Kinds) where
  abbrev zs : Kinds
  zs = onto (behind Comma ps & sign CloseParen) ks

  -- the message, and what stands behind it
  message-law : (xs : Kinds) → length (onto p xs) < n → Closes xs → cause (inside n 10 false) xs ≡ Some zs → length zs ≤ n → error (inside n 10 false) (KeywordKind ErrorKey ∷ SignKind OpenParen ∷ onto p xs) ≡ Some ks
  message-law xs fits c is size =
      ap (λ o. o >>= cause (inside n 10 false) >>= λ a. take_sign CloseParen (details (inside n 10 false) a)) (before p f law n false xs formed fits c)
      ∙ ap (λ o. o >>= λ a. take_sign CloseParen (details (inside n 10 false) a)) is ∙ details-law n ps ks all size

  -- without a cause
  pub error-alone : length (onto (key ErrorKey & sign OpenParen & p & behind Comma ps & sign CloseParen) ks) ≤ n → error (inside n 10 false) (KeywordKind ErrorKey ∷ SignKind OpenParen ∷ onto p zs) ≡ Some ks
  error-alone fits = let longer = onto-longer p zs in message-law zs (omega arith) (details-close ps ks) (no-cause ps all) (omega arith)
    where
      no-cause : (ps : List Pieces) → DetailsAt n ps → cause (inside n 10 false) (onto (behind Comma ps & sign CloseParen) ks) ≡ Some (onto (behind Comma ps & sign CloseParen) ks)
      no-cause [] all = refl
      no-cause (q ∷ qs) all =
          let rest = onto q (onto (behind Comma qs & sign CloseParen) ks) in
          ap (λ b. if b then Some (SignKind Comma ∷ rest) else inside n 10 false rest) (all.0.named (onto (behind Comma qs & sign CloseParen) ks))

  module _ (q : Pieces) (g : ExprFacts) (law2 : ExprLaw q g) (formed2 : g.is_formed false ≡ true) where
    pub error-cause : length (onto (key ErrorKey & sign OpenParen & p & (sign Comma & q) & behind Comma ps & sign CloseParen) ks) ≤ n → error (inside n 10 false) (KeywordKind ErrorKey ∷ SignKind OpenParen ∷ onto p (SignKind Comma ∷ onto q zs)) ≡ Some ks
    error-cause fits =
        let xs = onto q zs in
        let longer = onto-longer p (SignKind Comma ∷ xs) in
        let longer2 = onto-longer q zs in
        let read = before q g law2 n false zs formed2 (omega arith) (details-close ps ks) in
        message-law (SignKind Comma ∷ xs) (omega arith) (closes Comma xs refl)
        (ap (λ b. if b then Some (SignKind Comma ∷ xs) else inside n 10 false xs) (named ps xs read (omega arith)) ∙ read) (omega arith)
      where
        named : (ps : List Pieces) (xs : Kinds) → inside n 10 false xs ≡ Some (onto (behind Comma ps & sign CloseParen) ks) → length xs < n → is_some (name_equal xs) ≡ false
        named [] xs read size = not-named n xs ks CloseParen read (λ e. cc e) size
        named (r ∷ rs) xs read size = not-named n xs (onto r (onto (behind Comma rs & sign CloseParen) ks)) Comma read (λ e. cc e) size
