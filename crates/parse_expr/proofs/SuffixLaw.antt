-- The law at primary expressions with suffixes.
use Rattle.std.proofs.Common.{◌≡◌, ℕ, ◌<◌, ◌≤◌, Bool, true, false, List, [], ◌∷◌, length, Option, None, Some, refl, sym, ap, ◌∙◌, arith}
use Rattle.std.specs.Prelude.{option_map, if◌then◌else◌}
use Rattle.std.proofs.lemmas.Bool.{false≢true}
use Rattle.std.proofs.lemmas.Option.{option_and_then_some}
use Rattle.bal_base.specs.declared.token.TokenKind.TheVariants.{Word as WordKind, Sign as SignKind}
use Rattle.bal_base.specs.declared.token.Sign.{Sign}
use Rattle.bal_base.specs.declared.token.Sign.TheVariants.{OpenParen, CloseParen, OpenBracket, CloseBracket, Dot, QuestionDot, Comma}
use Rattle.bal_tree.specs.declared.name.Word.{Word}
use Rattle.bal_tree.specs.ExprPieces.{arguments as argument_pieces}
use Rattle.bal_tree.specs.ExprRules.{ExprFacts}
use Rattle.bal_tree.specs.Pieces.{Pieces, ◌&◌, sign, separated}
use Rattle.bal_tree.specs.NamePieces.{word_pieces}
use Rattle.bal_tree.specs.Spells.{onto}
use Rattle.parse_types.specs.Loops.{◌>>=◌, many}
use Rattle.parse_types.specs.Reaches.{colon_word}
use Rattle.token_steps.specs.Tokens.{Kinds, take_sign, take_word}
use Rattle.parse_types.proofs.Going.{many-stops, many-goes, many-less}
use Rattle.parse_types.proofs.Onto.{onto-longer}
use Rattle.parse_types.proofs.Taking.{take_sign-less}
use Rattle.parse_expr.specs.Reaches.{Left, closed_at, field_at, left_length, left_rest, arguments, index, method_or, suffix, suffix_step, primary, postfix, suffixed, inside, items_until}
use Rattle.parse_expr.proofs.Follows.{Ends, closes}
use Rattle.parse_expr.proofs.ItemsLaw.{ItemAt, ItemsAt, items-law, items_until-less}
use Rattle.parse_expr.proofs.Law.{ExprLaw, before, inside-less}

-- ---- no suffix

pub no-suffix : (bracketed : Kinds → Option Kinds) (middle is_field : Bool) (ks : Kinds) → Ends middle ks → suffix bracketed is_field ks ≡ None
no-suffix bracketed middle is_field [] e = refl
no-suffix bracketed middle is_field (SignKind OpenParen ∷ ks) e = let bad = e.no_call in cc bad
no-suffix bracketed middle is_field (SignKind OpenBracket ∷ ks) e = let bad = e.no_index in cc bad
no-suffix bracketed middle is_field (SignKind Dot ∷ ks) e = let bad = e.no_dot in cc bad
no-suffix bracketed middle is_field (SignKind QuestionDot ∷ ks) e = let bad = e.no_question_dot in cc bad
no-suffix bracketed middle is_field (SignKind s ∷ ks) e = refl
no-suffix bracketed middle is_field (k ∷ ks) e = refl

-- ---- what is claimed

-- the reader of a primary expression leaves `rest`
pub record PrimaryAt (n : ℕ) (middle : Bool) (p : Pieces) (ks : Kinds) : Type 0 where
  pub rest : Kinds
  pub is : primary (inside n 10 false) middle (onto p ks) ≡ Some rest
  pub no_more : length rest ≤ length ks
  pub just : (middle ≡ false → colon_word ks ≡ None) → rest ≡ ks

abbrev pub PrimaryLaw : Pieces → ExprFacts → Type 0
PrimaryLaw p f = (n : ℕ) (middle : Bool) (ks : Kinds) → f.is_formed middle ≡ true → length (onto p ks) ≤ n → PrimaryAt n middle p ks

-- reading it and going on is going on with `left`
pub record PostfixAt (n : ℕ) (middle : Bool) (p : Pieces) (is_field : Bool) (ks : Kinds) : Type 0 where
  pub left : Left
  pub is : postfix (inside n 10 false) middle (onto p ks) ≡ Some (many left_length (suffix_step (inside n 10 false)) left)
  pub no_more : length left.rest ≤ length ks
  pub just : (is_field ≡ true → take_sign OpenParen ks ≡ None) → (middle ≡ false → colon_word ks ≡ None) → left ≡ record { is_field = is_field; rest = ks }

abbrev pub PostfixLaw : Pieces → ExprFacts → Type 0
PostfixLaw p f = (n : ℕ) (middle : Bool) (ks : Kinds) → f.is_formed middle ≡ true → length (onto p ks) ≤ n → PostfixAt n middle p f.is_field ks

pub primary-alone : (n : ℕ) (middle : Bool) (p : Pieces) (ks : Kinds) → PrimaryAt n middle p ks → PostfixAt n middle p false ks
unfolding postfix
primary-alone n middle p ks at = record {
  left = closed_at at.rest;
  is = ap (option_map (λ a. many left_length (suffix_step (inside n 10 false)) (closed_at a))) at.is;
  no_more = at.no_more;
  just = λ _ colon. ap closed_at (at.just colon);
}

-- ---- a suffix behind an expression

pub suffix-law : (p : Pieces) (f : ExprFacts) → PostfixLaw p f → (q : Pieces) (n : ℕ) (middle is_field : Bool) (ks : Kinds) (next : Left) → f.is_formed middle ≡ true → length (onto (p & q) ks) ≤ n → (f.is_field ≡ true → take_sign OpenParen (onto q ks) ≡ None) → (middle ≡ false → colon_word (onto q ks) ≡ None) → suffix (inside n 10 false) f.is_field (onto q ks) ≡ Some next → length next.rest ≤ length ks → length ks < length (onto q ks) → ((is_field ≡ true → take_sign OpenParen ks ≡ None) → next ≡ record { is_field = is_field; rest = ks }) → PostfixAt n middle (p & q) is_field ks
suffix-law p f law q n middle is_field ks next formed fits paren colon is no_more shorter just =
    let at = law n middle (onto q ks) formed fits in
    let here : Left = record { is_field = f.is_field; rest = onto q ks } in
    let exact = at.just paren colon in
    let step = suffix_step (inside n 10 false) in
    record {
      left = next;
      is = at.is ∙ ap (λ l. Some (many left_length step l)) exact ∙ ap Some (many-goes left_length step here next is (omega arith));
      no_more = no_more;
      just = λ k _. just k;
    }

module _ (n : ℕ) where
  arguments-less : (ks a : Kinds) → arguments (inside n 10 false) ks ≡ Some a → length a ≤ length ks
  arguments-less ks a e =
      option_and_then_some (items_until (inside n 10 false) CloseParen) (take_sign OpenParen ks) a e
      (λ x p q. let h = take_sign-less OpenParen ks x p in let k = items_until-less (inside n 10 false) (inside-less n 10 false) CloseParen x a q in omega arith)

  -- `.f`, with arguments behind it or without
  pub field-law : (p : Pieces) (f : ExprFacts) → PostfixLaw p f → (name : Word) (middle : Bool) (ks : Kinds) → f.is_formed middle ≡ true → length (onto (p & sign Dot & word_pieces name) ks) ≤ n → PostfixAt n middle (p & sign Dot & word_pieces name) true ks
  field-law p f law name middle ks formed fits =
      suffix-law p f law (sign Dot & word_pieces name) n middle true ks (method_or (arguments (inside n 10 false) ks) ks) formed fits (λ _. refl) (λ _. refl) refl
      (less (arguments (inside n 10 false) ks) (arguments-less ks)) (omega arith)
      (λ paren. ap (λ o. method_or (o >>= items_until (inside n 10 false) CloseParen) ks) (paren refl))
    where
      less : (o : Option Kinds) → ((a : Kinds) → o ≡ Some a → length a ≤ length ks) → length (method_or o ks).rest ≤ length ks
      less None h = omega arith
      less (Some a) h = h a refl

  pub optional_field-law : (p : Pieces) (f : ExprFacts) → PostfixLaw p f → (name : Word) (middle : Bool) (ks : Kinds) → f.is_formed middle ≡ true → length (onto (p & sign QuestionDot & word_pieces name) ks) ≤ n → PostfixAt n middle (p & sign QuestionDot & word_pieces name) false ks
  optional_field-law p f law name middle ks formed fits =
      suffix-law p f law (sign QuestionDot & word_pieces name) n middle false ks (closed_at ks) formed fits (λ _. refl) (λ _. refl) refl (omega arith) (omega arith) (λ _. refl)

  -- `[e]`
  pub index-read : (q : Pieces) (g : ExprFacts) → ExprLaw q g → (ks : Kinds) → g.is_formed false ≡ true → length (onto (sign OpenBracket & q & sign CloseBracket) ks) ≤ n → index (inside n 10 false) (onto (sign OpenBracket & q & sign CloseBracket) ks) ≡ Some ks
  index-read q g law ks formed fits = ap (λ o. o >>= take_sign CloseBracket) (before q g law n false (SignKind CloseBracket ∷ ks) formed (omega arith) (closes CloseBracket ks refl))

  pub index-law : (p : Pieces) (f : ExprFacts) → PostfixLaw p f → (q : Pieces) (g : ExprFacts) → ExprLaw q g → (middle : Bool) (ks : Kinds) → f.is_formed middle ≡ true → g.is_formed false ≡ true → length (onto (p & sign OpenBracket & q & sign CloseBracket) ks) ≤ n → PostfixAt n middle (p & sign OpenBracket & q & sign CloseBracket) false ks
  index-law p f law q g law2 middle ks formed formed2 fits =
      let longer = onto-longer p (onto (sign OpenBracket & q & sign CloseBracket) ks) in
      let longer2 = onto-longer q (SignKind CloseBracket ∷ ks) in
      suffix-law p f law (sign OpenBracket & q & sign CloseBracket) n middle false ks (closed_at ks) formed fits (λ _. refl) (λ _. refl)
      (ap (option_map closed_at) (index-read q g law2 ks formed2 (omega arith))) (omega arith) (omega arith) (λ _. refl)

  -- ---- arguments

  abbrev pub ArgumentsAt : List Pieces → Type 0
  ArgumentsAt = ItemsAt (inside n 10 false) CloseParen n

  pub arguments-read : (ps : List Pieces) (ks : Kinds) → ((zs : Kinds) → inside n 10 false (SignKind CloseParen ∷ zs) ≡ None) → ArgumentsAt ps → length (onto (argument_pieces ps) ks) ≤ n → arguments (inside n 10 false) (onto (argument_pieces ps) ks) ≡ Some ks
  arguments-read ps ks none all fits = items-law (inside n 10 false) CloseParen n (λ _. refl) none refl ps ks all (omega arith)

  module _ (p : Pieces) (f : ExprFacts) (law : PostfixLaw p f) (ps : List Pieces) (middle : Bool) (ks : Kinds) (none : (zs : Kinds) → inside n 10 false (SignKind CloseParen ∷ zs) ≡ None) (all : ArgumentsAt ps) (formed : f.is_formed middle ≡ true) where
    pub call-law : f.is_field ≡ false → length (onto (p & argument_pieces ps) ks) ≤ n → PostfixAt n middle (p & argument_pieces ps) false ks
    call-law no_field fits =
        let longer = onto-longer p (onto (argument_pieces ps) ks) in
        let longer2 = onto-longer (separated Comma ps) (SignKind CloseParen ∷ ks) in
        suffix-law p f law (argument_pieces ps) n middle false ks (closed_at ks) formed fits (λ is. absurd (false≢true (sym no_field ∙ is))) (λ _. refl)
        (ap (λ b. if b then None else option_map closed_at (arguments (inside n 10 false) (onto (argument_pieces ps) ks))) no_field
        ∙ ap (option_map closed_at) (arguments-read ps ks none all (omega arith)))
        (omega arith) (omega arith) (λ _. refl)

    pub method-law : (name : Word) → length (onto (p & sign Dot & word_pieces name & argument_pieces ps) ks) ≤ n → PostfixAt n middle (p & sign Dot & word_pieces name & argument_pieces ps) false ks
    method-law name fits =
        let longer = onto-longer p (onto (sign Dot & word_pieces name & argument_pieces ps) ks) in
        let longer2 = onto-longer (separated Comma ps) (SignKind CloseParen ∷ ks) in
        suffix-law p f law (sign Dot & word_pieces name & argument_pieces ps) n middle false ks (closed_at ks) formed fits (λ _. refl) (λ _. refl)
        (ap (λ o. Some (method_or o (onto (argument_pieces ps) ks))) (arguments-read ps ks none all (omega arith)))
        (omega arith) (omega arith) (λ _. refl)

-- ---- as an expression

pub postfix-suffixed : (n : ℕ) (middle : Bool) (p : Pieces) (is_field : Bool) (ks : Kinds) (at : PostfixAt n middle p is_field ks) → suffixed (inside n) middle (onto p ks) ≡ Some (many left_length (suffix_step (inside n 10 false)) at.left).rest
postfix-suffixed n middle p is_field ks at = ap (option_map left_rest) at.is

pub suffixes-less : (n : ℕ) (l : Left) → length (many left_length (suffix_step (inside n 10 false)) l).rest ≤ length l.rest
suffixes-less n l = many-less left_length (suffix_step (inside n 10 false)) l

pub suffixes-end : (n : ℕ) (middle is_field : Bool) (ks : Kinds) (l : Left) → l ≡ record { is_field = is_field; rest = ks } → Ends middle ks → (many left_length (suffix_step (inside n 10 false)) l).rest ≡ ks
suffixes-end n middle is_field ks l is e =
    let here : Left = record { is_field = is_field; rest = ks } in
    ap (λ x. (many left_length (suffix_step (inside n 10 false)) x).rest) is
    ∙ ap (λ (x : Left). x.rest) (many-stops left_length (suffix_step (inside n 10 false)) here (no-suffix (inside n 10 false) middle is_field ks e))
