-- The law at lists of types and of parameters: parts with commas between them, and maybe a rest as the last.
use Rattle.std.proofs.Common.{rules, ◌≡◌, ℕ, ◌<◌, Bool, true, false, List, [], ◌∷◌, map, length, Option, None, Some, refl, sym, ap, ◌∙◌, arith}
use Rattle.std.specs.Prelude.{if◌then◌else◌}
use denote.Enum.Bare.{sameb, same_true}
use Rattle.bal_base.specs.contracts.token.Sign.{the_type as the_signs}
use Rattle.bal_base.specs.declared.token.TokenKind.TheVariants.{Sign as SignKind}
use Rattle.bal_base.specs.declared.token.Sign.{Sign}
use Rattle.bal_base.specs.declared.token.Sign.TheVariants.{OpenBracket, CloseBracket, OpenParen, CloseParen, Comma, Ellipsis}
use Rattle.bal_tree.specs.declared.name.Word.{Word}
use Rattle.bal_tree.specs.Pieces.{Pieces, ◌&◌, sign, if_there, separated}
use Rattle.bal_tree.specs.Spells.{onto}
use Rattle.bal_tree.specs.NamePieces.{word_pieces}
use Rattle.bal_tree.specs.TypePieces.{as_rest}
use Rattle.bal_tree.specs.TypeRules.{TypeFacts}
use Rattle.parse_types.specs.Loops.{◌>>=◌, or_else, else_stays, many}
use Rattle.token_steps.specs.Tokens.{Kinds, take_sign, take_word}
use Rattle.parse_types.specs.Reaches.{type_comma, last_type, tuple, word_if_there, param_comma, last_param, params, inside}
use Rattle.parse_types.proofs.Going.{many-stops, many-goes}
use Rattle.parse_types.proofs.Onto.{onto-longer}
use Rattle.parse_types.proofs.Follows.{Closes}
use Rattle.parse_types.proofs.Law.{TypeLaw, before}
use Rattle.parse_types.proofs.PrimaryLaw.{no-type, paren-closes, word-closes}

-- nothing here that a part of a list could go on with
pub record ListEnds (ks : Kinds) : Type 0 where
  pub closes : Closes ks
  pub no_comma : take_sign Comma ks ≡ None
  pub no_word : take_word ks ≡ None
  pub no_ellipsis : take_sign Ellipsis ks ≡ None

comma-closes : (ks : Kinds) → Closes (SignKind Comma ∷ ks)
comma-closes ks = record { less = refl; paren = refl; colon = refl; returns = refl; ends = record { no_suffix = refl; no_ampersand = refl; no_bar = refl } }

pub ellipsis-closes : (ks : Kinds) → Closes (SignKind Ellipsis ∷ ks)
ellipsis-closes ks = record { less = refl; paren = refl; colon = refl; returns = refl; ends = record { no_suffix = refl; no_ampersand = refl; no_bar = refl } }

-- the last part of a list
pub record Last (step last : Kinds → Option Kinds) (n : ℕ) (p : Pieces) : Type 0 where
  pub stops : (ks : Kinds) → length (onto p ks) < n → ListEnds ks → step (onto p ks) ≡ None
  pub ends : (ks : Kinds) → length (onto p ks) < n → ListEnds ks → last (onto p ks) ≡ Some ks

-- a part before a comma, or the last one
pub record Item (step last : Kinds → Option Kinds) (n : ℕ) (p : Pieces) : Type 0 where
  pub goes : (ks : Kinds) → length (onto p (SignKind Comma ∷ ks)) < n → step (onto p (SignKind Comma ∷ ks)) ≡ Some ks
  pub as_last : Last step last n p

module _ (step last : Kinds → Option Kinds) (n : ℕ) where
  -- parts and the last one
  abbrev pub Listed : Pieces → List Pieces → Type 0
  Listed p [] = Last step last n p
  Listed p (q ∷ ps) = Item step last n p × Listed q ps

  pub chain : (p : Pieces) (ps : List Pieces) (ks : Kinds) → Listed p ps → length (onto (separated Comma (p ∷ ps)) ks) < n → ListEnds ks → last (many length step (onto (separated Comma (p ∷ ps)) ks)) ≡ Some ks
  chain p [] ks item fits e = ap last (many-stops length step (onto p ks) (item.stops ks fits e)) ∙ item.ends ks fits e
  chain p (q ∷ ps) ks items fits e =
      let zs = onto (separated Comma (q ∷ ps)) ks in
      let longer = onto-longer p (SignKind Comma ∷ zs) in
      ap last (many-goes length step (onto p (SignKind Comma ∷ zs)) zs (items.0.goes zs fits) (omega arith)) ∙ chain q ps ks items.1 (omega arith) e

  module _ {X : Type 0} (f : X → Pieces) where
    -- parts of one kind
    pub listed-items : (x : X) (xs : List X) → ((y : X) → Item step last n (f y)) → Listed (f x) (map f xs)
    listed-items x [] h = (h x).as_last
    listed-items x (y ∷ ys) h = (h x, listed-items y ys h)

-- ---- what stands up to the closing sign

-- a list does not begin with its closing sign
not-first : (s : Sign) (xs : Kinds) → ((ks : Kinds) → xs ≡ SignKind s ∷ ks → ⊥) → take_sign s xs ≡ None
not-first s [] never = refl
not-first s (SignKind x ∷ ks) never = test (sameb the_signs x s) refl
  where
    test : (b : Bool) → sameb the_signs x s ≡ b → (if b then Some ks else None) ≡ None
    test true e = absurd (never ks (ap (λ (y : Sign). SignKind y ∷ ks) (same_true the_signs (search rules) x s e)))
    test false e = refl
not-first s (k ∷ ks) never = refl

module _ (step last : Kinds → Option Kinds) (s : Sign) (nothing : (ks : Kinds) → (step (SignKind s ∷ ks) ≡ None) × (last (SignKind s ∷ ks) ≡ None)) where
  pub bracketed : (xs ks : Kinds) → last (many length step xs) ≡ Some (SignKind s ∷ ks) → sameb the_signs s s ≡ true → or_else (take_sign s xs) (last (many length step xs) >>= take_sign s) ≡ Some ks
  bracketed xs ks e same =
      ap (λ o. or_else o (last (many length step xs) >>= take_sign s)) (not-first s xs (λ zs is. clash zs is))
      ∙ ap (λ o. o >>= take_sign s) e ∙ ap (λ b. if b then Some ks else None) same
    where
      clash : (zs : Kinds) → xs ≡ SignKind s ∷ zs → ⊥
      clash zs is = let n = nothing zs in let bad : None ≡ Some (SignKind s ∷ ks) = sym n.1 ∙ ap last (sym (many-stops length step (SignKind s ∷ zs) n.0)) ∙ ap (λ r. last (many length step r)) (sym is) ∙ e in cc bad

bracket-ends : (ks : Kinds) → ListEnds (SignKind CloseBracket ∷ ks)
bracket-ends ks = record { closes = record { less = refl; paren = refl; colon = refl; returns = refl; ends = record { no_suffix = refl; no_ampersand = refl; no_bar = refl } }; no_comma = refl; no_word = refl; no_ellipsis = refl }

paren-ends : (ks : Kinds) → ListEnds (SignKind CloseParen ∷ ks)
paren-ends ks = record { closes = paren-closes ks; no_comma = refl; no_word = refl; no_ellipsis = refl }

-- ---- tuples

module _ (n : ℕ) where
  abbrev pub types_step : Kinds → Option Kinds
  types_step = type_comma (inside n false)

  abbrev pub types_last : Kinds → Option Kinds
  types_last = last_type (inside n false)

  abbrev pub params_step : Kinds → Option Kinds
  params_step = param_comma (inside n false)

  abbrev pub params_last : Kinds → Option Kinds
  params_last = last_param (inside n false)

  no-type-list : (ks : Kinds) → (types_step (SignKind CloseBracket ∷ ks) ≡ None) × (types_last (SignKind CloseBracket ∷ ks) ≡ None)
  no-type-list ks =
      let e = no-type CloseBracket ks (λ _ _. refl) n false in
      (ap (λ o. o >>= take_sign Comma) e, ap (λ o. o >>= λ a. Some (else_stays (take_sign Ellipsis a) a)) e)

  no-param-list : (ks : Kinds) → (params_step (SignKind CloseParen ∷ ks) ≡ None) × (params_last (SignKind CloseParen ∷ ks) ≡ None)
  no-param-list ks =
      let e = no-type CloseParen ks (λ _ _. refl) n false in
      (ap (λ o. o >>= λ a. take_sign Comma (word_if_there a)) e, ap (λ o. o >>= λ a. or_else (take_sign Ellipsis a) (Some (word_if_there a))) e)

  abbrev pub TypesListed : List Pieces → Type 0
  TypesListed [] = Unit {0}
  TypesListed (p ∷ ps) = Listed types_step types_last n p ps

  abbrev pub ParamsListed : List Pieces → Type 0
  ParamsListed [] = Unit {0}
  ParamsListed (p ∷ ps) = Listed params_step params_last n p ps

  pub tuple-law : (ps : List Pieces) (ks : Kinds) → TypesListed ps → length (onto (separated Comma ps & sign CloseBracket) ks) < n → tuple (inside n false) (SignKind OpenBracket ∷ onto (separated Comma ps & sign CloseBracket) ks) ≡ Some ks
  tuple-law [] ks listed fits = refl
  tuple-law (p ∷ ps) ks listed fits =
      bracketed types_step types_last CloseBracket no-type-list (onto (separated Comma (p ∷ ps)) (SignKind CloseBracket ∷ ks)) ks (chain types_step types_last n p ps (SignKind CloseBracket ∷ ks) listed fits (bracket-ends ks)) refl

  pub params-law : (ps : List Pieces) (ks : Kinds) → ParamsListed ps → length (onto (separated Comma ps & sign CloseParen) ks) < n → params (inside n false) (SignKind OpenParen ∷ onto (separated Comma ps & sign CloseParen) ks) ≡ Some ks
  params-law [] ks listed fits = refl
  params-law (p ∷ ps) ks listed fits =
      bracketed params_step params_last CloseParen no-param-list (onto (separated Comma (p ∷ ps)) (SignKind CloseParen ∷ ks)) ks (chain params_step params_last n p ps (SignKind CloseParen ∷ ks) listed fits (paren-ends ks)) refl

  -- ---- the parts

  module _ (p : Pieces) (f : TypeFacts) (law : TypeLaw p f) (formed : f.is_formed false ≡ true) where
    pub type-item : Item types_step types_last n p
    type-item = record {
      goes = λ ks fits. ap (λ o. o >>= take_sign Comma) (before p f law n false (SignKind Comma ∷ ks) formed fits (comma-closes ks));
      as_last = record {
        stops = λ ks fits e. ap (λ o. o >>= take_sign Comma) (before p f law n false ks formed fits e.closes) ∙ e.no_comma;
        ends = λ ks fits e. ap (λ o. o >>= λ a. Some (else_stays (take_sign Ellipsis a) a)) (before p f law n false ks formed fits e.closes) ∙ ap (λ o. Some (else_stays o ks)) e.no_ellipsis;
      };
    }

    pub type-rest : Last types_step types_last n (as_rest p)
    type-rest = record {
      stops = λ ks fits e. ap (λ o. o >>= take_sign Comma) (before p f law n false (SignKind Ellipsis ∷ ks) formed fits (ellipsis-closes ks));
      ends = λ ks fits e. ap (λ o. o >>= λ a. Some (else_stays (take_sign Ellipsis a) a)) (before p f law n false (SignKind Ellipsis ∷ ks) formed fits (ellipsis-closes ks));
    }

    pub param-rest : Last params_step params_last n (as_rest p)
    param-rest = record {
      stops = λ ks fits e. ap (λ o. o >>= λ a. take_sign Comma (word_if_there a)) (before p f law n false (SignKind Ellipsis ∷ ks) formed fits (ellipsis-closes ks));
      ends = λ ks fits e. ap (λ o. o >>= λ a. or_else (take_sign Ellipsis a) (Some (word_if_there a))) (before p f law n false (SignKind Ellipsis ∷ ks) formed fits (ellipsis-closes ks));
    }

    pub param-item : (name : Option Word) → Item params_step params_last n (p & if_there word_pieces name)
    param-item None = record {
      goes = λ ks fits. ap (λ o. o >>= λ a. take_sign Comma (word_if_there a)) (before p f law n false (SignKind Comma ∷ ks) formed fits (comma-closes ks));
      as_last = record {
        stops = λ ks fits e. ap (λ o. o >>= λ a. take_sign Comma (word_if_there a)) (before p f law n false ks formed fits e.closes) ∙ ap (λ o. take_sign Comma (else_stays o ks)) e.no_word ∙ e.no_comma;
        ends = λ ks fits e.
            ap (λ o. o >>= λ a. or_else (take_sign Ellipsis a) (Some (word_if_there a))) (before p f law n false ks formed fits e.closes)
            ∙ ap (λ o. or_else o (Some (word_if_there ks))) e.no_ellipsis ∙ ap (λ o. Some (else_stays o ks)) e.no_word;
      };
    }
    param-item (Some w) = record {
      goes = λ ks fits. ap (λ o. o >>= λ a. take_sign Comma (word_if_there a)) (before p f law n false (onto (word_pieces w) (SignKind Comma ∷ ks)) formed fits (word-closes w.name (SignKind Comma ∷ ks)));
      as_last = record {
        stops = λ ks fits e. ap (λ o. o >>= λ a. take_sign Comma (word_if_there a)) (before p f law n false (onto (word_pieces w) ks) formed fits (word-closes w.name ks)) ∙ e.no_comma;
        ends = λ ks fits e. ap (λ o. o >>= λ a. or_else (take_sign Ellipsis a) (Some (word_if_there a))) (before p f law n false (onto (word_pieces w) ks) formed fits (word-closes w.name ks));
      };
    }
