-- Pieces that looking ahead passes over: inside brackets all, outside brackets what holds neither a semicolon nor a mark.
use Rattle.std.proofs.Common.{◌≡◌, ℕ, zero, suc, ◌+◌, Bool, true, false, List, [], ◌∷◌, map, Option, None, Some, refl, sym, ap, ◌∙◌, add-one}
use Rattle.std.specs.Option.{option_map_or}
use Rattle.std.specs.Prelude.{is_some}
use Rattle.bal_base.specs.declared.place.Place.{Place}
use Rattle.bal_base.specs.declared.token.TokenKind.{TokenKind}
use Rattle.bal_base.specs.declared.token.TokenKind.TheVariants.{Word as WordKind, Keyword as KeywordKind, Int as IntKind, Str as StrKind, Sign as SignKind}
use Rattle.bal_base.specs.declared.token.Keyword.{Keyword}
use Rattle.bal_base.specs.declared.token.Sign.{Sign}
use Rattle.bal_base.specs.declared.token.Sign.TheVariants.{Semicolon, Equal, PlusEqual, MinusEqual, StarEqual, SlashEqual, Arrow, DoubleArrow, Dot, Colon, Comma, OpenParen, CloseParen, OpenBracket, CloseBracket, OpenBrace, CloseBrace, OpenBraceBar, CloseBraceBar}
use Rattle.bal_tree.specs.declared.name.Word.{Word}
use Rattle.bal_tree.specs.NamePieces.{word_pieces}
use Rattle.bal_tree.specs.Pieces.{Pieces, nothing, token, starts, ◌&◌, key, sign, joined, behind, separated}
use Rattle.bal_tree.specs.Spells.{onto}
use Rattle.parse_types.specs.Nesting.{depth_behind}
use Rattle.token_steps.specs.Tokens.{Kinds, take_sign}
use Rattle.parse_stmt.specs.declared.ahead.Mark.{Mark}
use Rattle.parse_stmt.specs.declared.ahead.Mark.TheVariants.{Nothing}
use Rattle.parse_stmt.specs.Ahead.{semicolon, first_mark, if_outside, joins, mark_here, mark_or, word_mark}
use Rattle.parse_stmt.specs.Shapes.{Shape, shape}
use Rattle.parse_stmt.proofs.Passing.{Passes}

-- ---- inside brackets

pub record Deep (p : Pieces) : Type 0 where
  pub semicolon : (d : ℕ) (ks : Kinds) → semicolon (suc d) (onto p ks) ≡ semicolon (suc d) ks
  pub mark : (joined : Bool) (d : ℕ) (ks : Kinds) → first_mark joined (suc d) (onto p ks) ≡ first_mark false (suc d) ks
  pub shape : (s : Shape) (d : ℕ) (ks : Kinds) → shape s (suc d) (onto p ks) ≡ shape s (suc d) ks

not-outside : (o : Option Mark) (d : ℕ) → if_outside o (suc d) ≡ None
not-outside None d = refl
not-outside (Some m) d = refl

-- what stands before does not count there
pub flag : (a b : Bool) (d : ℕ) (ks : Kinds) → first_mark a (suc d) ks ≡ first_mark b (suc d) ks
flag a b d [] = refl
flag a b d (k ∷ ks) =
    let rest = option_map_or (λ e. first_mark (joins k) e ks) (depth_behind k (suc d)) Nothing in
    ap (λ o. mark_or o rest) (not-outside (mark_here a k ks) d) ∙ sym (ap (λ o. mark_or o rest) (not-outside (mark_here b k ks) d))

pub deep-nothing : Deep nothing
deep-nothing = record { semicolon = λ d ks. refl; mark = λ j d ks. flag j false d ks; shape = λ s d ks. refl }

pub deep-starts : (at : Place) → Deep (starts at)
deep-starts at = record { semicolon = λ d ks. refl; mark = λ j d ks. flag j false d ks; shape = λ s d ks. refl }

pub deep-both : (p q : Pieces) → Deep p → Deep q → Deep (p & q)
deep-both p q a b = record {
  semicolon = λ d ks. a.semicolon d (onto q ks) ∙ b.semicolon d ks;
  mark = λ j d ks. a.mark j d (onto q ks) ∙ b.mark false d ks;
  shape = λ s d ks. a.shape s d (onto q ks) ∙ b.shape s d ks;
}

pub deep-key : (k : Keyword) → Deep (key k)
deep-key k = record { semicolon = λ d ks. refl; mark = λ j d ks. refl; shape = λ s d ks. refl }

-- no bracket
abbrev pub is_plain : Sign → Bool
is_plain OpenParen = false
is_plain CloseParen = false
is_plain OpenBracket = false
is_plain CloseBracket = false
is_plain OpenBrace = false
is_plain CloseBrace = false
is_plain OpenBraceBar = false
is_plain CloseBraceBar = false
is_plain s = true

pub deep-sign : (s : Sign) → is_plain s ≡ true → Deep (sign s)
deep-sign OpenParen h = cc h
deep-sign CloseParen h = cc h
deep-sign OpenBracket h = cc h
deep-sign CloseBracket h = cc h
deep-sign OpenBrace h = cc h
deep-sign CloseBrace h = cc h
deep-sign OpenBraceBar h = cc h
deep-sign CloseBraceBar h = cc h
deep-sign Dot h = record { semicolon = λ d ks. refl; mark = λ j d ks. flag true false d ks; shape = λ s d ks. refl }
deep-sign Colon h = record { semicolon = λ d ks. refl; mark = λ j d ks. flag true false d ks; shape = λ s d ks. refl }
deep-sign s h = record { semicolon = λ d ks. refl; mark = λ j d ks. refl; shape = λ s d ks. refl }

pub deep-word : (w : Word) → Deep (word_pieces w)
deep-word w = record {
  semicolon = λ d ks. refl;
  mark = λ j d ks. ap (λ o. mark_or o (first_mark false (suc d) ks)) (not-outside (word_mark j (is_some (take_sign Equal ks))) d);
  shape = λ s d ks. refl;
}

module _ {X : Type 0} (f : X → Pieces) where
  abbrev pub AllDeep : List X → Type 0
  AllDeep [] = Unit {0}
  AllDeep (x ∷ xs) = Deep (f x) × AllDeep xs

pub deep-joined : (ps : List Pieces) → AllDeep (λ p. p) ps → Deep (joined ps)
deep-joined [] all = deep-nothing
deep-joined (p ∷ ps) all = deep-both p (joined ps) all.0 (deep-joined ps all.1)

pub deep-behind : (s : Sign) → is_plain s ≡ true → (ps : List Pieces) → AllDeep (λ p. p) ps → Deep (behind s ps)
deep-behind s h [] all = deep-nothing
deep-behind s h (p ∷ ps) all = deep-both (sign s) (p & behind s ps) (deep-sign s h) (deep-both p (behind s ps) all.0 (deep-behind s h ps all.1))

pub deep-separated : (s : Sign) → is_plain s ≡ true → (ps : List Pieces) → AllDeep (λ p. p) ps → Deep (separated s ps)
deep-separated s h [] all = deep-nothing
deep-separated s h (p ∷ ps) all = deep-both p (behind s ps) all.0 (deep-behind s h ps all.1)

-- ---- outside brackets and inside

pub record Calm (p : Pieces) : Type 0 where
  pub passes : Passes p
  pub not_equal : (ks : Kinds) → take_sign Equal ks ≡ None → take_sign Equal (onto p ks) ≡ None
  pub deep : Deep p

pub calm-both : (p q : Pieces) → Calm p → Calm q → Calm (p & q)
calm-both p q a b = record {
  passes = record {
    semicolon = λ d ks. a.passes.semicolon d (onto q ks) ∙ b.passes.semicolon d ks;
    mark = λ j d ks e. a.passes.mark j d (onto q ks) (b.not_equal ks e) ∙ b.passes.mark false d ks e;
  };
  not_equal = λ ks e. a.not_equal (onto q ks) (b.not_equal ks e);
  deep = deep-both p q a.deep b.deep;
}

pub calm-at : (at : Place) (p : Pieces) → Calm p → Calm (starts at & p)
calm-at at p a = record {
  passes = record { semicolon = a.passes.semicolon; mark = a.passes.mark };
  not_equal = a.not_equal;
  deep = deep-both (starts at) p (deep-starts at) a.deep;
}

-- the same with nothing behind
pub calm-nothing : (p : Pieces) → Calm p → Calm (p & nothing)
calm-nothing p a = record {
  passes = record { semicolon = a.passes.semicolon; mark = a.passes.mark };
  not_equal = a.not_equal;
  deep = deep-both p nothing a.deep deep-nothing;
}

pub calm-key : (k : Keyword) → Calm (key k)
calm-key k = record { passes = record { semicolon = λ d ks. refl; mark = λ j d ks e. refl }; not_equal = λ ks e. refl; deep = deep-key k }

pub calm-int : (n : _) → Calm (token (IntKind n))
calm-int n = record { passes = record { semicolon = λ d ks. refl; mark = λ j d ks e. refl }; not_equal = λ ks e. refl; deep = record { semicolon = λ d ks. refl; mark = λ j d ks. refl; shape = λ s d ks. refl } }

pub calm-str : (t : _) → Calm (token (StrKind t))
calm-str t = record { passes = record { semicolon = λ d ks. refl; mark = λ j d ks e. refl }; not_equal = λ ks e. refl; deep = record { semicolon = λ d ks. refl; mark = λ j d ks. refl; shape = λ s d ks. refl } }

pub calm-word : (w : Word) → Calm (word_pieces w)
calm-word w = record {
  passes = record {
    semicolon = λ d ks. refl;
    mark = λ j d ks e. ap (λ o. mark_or (if_outside (word_mark j (is_some o)) d) (first_mark false d ks)) e;
  };
  not_equal = λ ks e. refl;
  deep = deep-word w;
}

-- neither a bracket nor a mark, and joins nothing on
abbrev pub is_quiet : Sign → Bool
is_quiet OpenParen = false
is_quiet CloseParen = false
is_quiet OpenBracket = false
is_quiet CloseBracket = false
is_quiet OpenBrace = false
is_quiet CloseBrace = false
is_quiet OpenBraceBar = false
is_quiet CloseBraceBar = false
is_quiet Semicolon = false
is_quiet Equal = false
is_quiet PlusEqual = false
is_quiet MinusEqual = false
is_quiet StarEqual = false
is_quiet SlashEqual = false
is_quiet Arrow = false
is_quiet DoubleArrow = false
is_quiet Dot = false
is_quiet Colon = false
is_quiet s = true

pub calm-sign : (s : Sign) → is_quiet s ≡ true → Calm (sign s)
calm-sign OpenParen h = cc h
calm-sign CloseParen h = cc h
calm-sign OpenBracket h = cc h
calm-sign CloseBracket h = cc h
calm-sign OpenBrace h = cc h
calm-sign CloseBrace h = cc h
calm-sign OpenBraceBar h = cc h
calm-sign CloseBraceBar h = cc h
calm-sign Semicolon h = cc h
calm-sign Equal h = cc h
calm-sign PlusEqual h = cc h
calm-sign MinusEqual h = cc h
calm-sign StarEqual h = cc h
calm-sign SlashEqual h = cc h
calm-sign Arrow h = cc h
calm-sign DoubleArrow h = cc h
calm-sign Dot h = cc h
calm-sign Colon h = cc h
calm-sign s h = record { passes = record { semicolon = λ d ks. refl; mark = λ j d ks e. refl }; not_equal = λ ks e. refl; deep = record { semicolon = λ d ks. refl; mark = λ j d ks. refl; shape = λ s d ks. refl } }

-- `.` or `:` before something
pub calm-dot : (p : Pieces) → Calm p → Calm (sign Dot & p)
calm-dot p a = record {
  passes = record { semicolon = a.passes.semicolon; mark = λ j d ks e. a.passes.mark true d ks e };
  not_equal = λ ks e. refl;
  deep = deep-both (sign Dot) p (deep-sign Dot refl) a.deep;
}

pub calm-colon : (p : Pieces) → Calm p → Calm (sign Colon & p)
calm-colon p a = record {
  passes = record { semicolon = a.passes.semicolon; mark = λ j d ks e. a.passes.mark true d ks e };
  not_equal = λ ks e. refl;
  deep = deep-both (sign Colon) p (deep-sign Colon refl) a.deep;
}

-- ---- brackets

pub record Pair (open_ close : Sign) : Type 0 where
  pub opens : (d : ℕ) (ks : Kinds) → semicolon d (SignKind open_ ∷ ks) ≡ semicolon (suc d) ks
  pub closes : (d : ℕ) (ks : Kinds) → semicolon (suc d) (SignKind close ∷ ks) ≡ semicolon d ks
  pub opens_mark : (j : Bool) (d : ℕ) (ks : Kinds) → first_mark j d (SignKind open_ ∷ ks) ≡ first_mark false (suc d) ks
  pub closes_mark : (j : Bool) (d : ℕ) (ks : Kinds) → first_mark j (suc d) (SignKind close ∷ ks) ≡ first_mark false d ks
  pub opens_shape : (s : Shape) (d : ℕ) (ks : Kinds) → shape s (suc d) (SignKind open_ ∷ ks) ≡ shape s (suc (suc d)) ks
  pub closes_shape : (s : Shape) (d : ℕ) (ks : Kinds) → shape s (suc d) (SignKind close ∷ ks) ≡ shape s d ks
  pub is_no_equal : (ks : Kinds) → take_sign Equal (SignKind open_ ∷ ks) ≡ None

pub parens : Pair OpenParen CloseParen
parens = record {
  opens = λ d ks. ap (λ n. semicolon n ks) (add-one d);
  closes = λ d ks. refl;
  opens_mark = λ j d ks. ap (λ n. first_mark false n ks) (add-one d);
  closes_mark = λ j d ks. refl;
  opens_shape = λ s d ks. ap (λ n. shape s n ks) (add-one (suc d));
  closes_shape = λ s d ks. refl;
  is_no_equal = λ ks. refl;
}

pub brackets : Pair OpenBracket CloseBracket
brackets = record {
  opens = λ d ks. ap (λ n. semicolon n ks) (add-one d);
  closes = λ d ks. refl;
  opens_mark = λ j d ks. ap (λ n. first_mark false n ks) (add-one d);
  closes_mark = λ j d ks. refl;
  opens_shape = λ s d ks. ap (λ n. shape s n ks) (add-one (suc d));
  closes_shape = λ s d ks. refl;
  is_no_equal = λ ks. refl;
}

pub braces : Pair OpenBrace CloseBrace
braces = record {
  opens = λ d ks. ap (λ n. semicolon n ks) (add-one d);
  closes = λ d ks. refl;
  opens_mark = λ j d ks. ap (λ n. first_mark false n ks) (add-one d);
  closes_mark = λ j d ks. refl;
  opens_shape = λ s d ks. ap (λ n. shape s n ks) (add-one (suc d));
  closes_shape = λ s d ks. refl;
  is_no_equal = λ ks. refl;
}

pub bar_braces : Pair OpenBraceBar CloseBraceBar
bar_braces = record {
  opens = λ d ks. ap (λ n. semicolon n ks) (add-one d);
  closes = λ d ks. refl;
  opens_mark = λ j d ks. ap (λ n. first_mark false n ks) (add-one d);
  closes_mark = λ j d ks. refl;
  opens_shape = λ s d ks. ap (λ n. shape s n ks) (add-one (suc d));
  closes_shape = λ s d ks. refl;
  is_no_equal = λ ks. refl;
}

module _ (open_ close : Sign) (pair : Pair open_ close) (p : Pieces) (inner : Deep p) where
  pub deep-pair : Deep (sign open_ & p & sign close)
  deep-pair = record {
    semicolon = λ d ks. pair.opens (suc d) (onto p (SignKind close ∷ ks)) ∙ inner.semicolon (suc d) (SignKind close ∷ ks) ∙ pair.closes (suc d) ks;
    mark = λ j d ks. pair.opens_mark j (suc d) (onto p (SignKind close ∷ ks)) ∙ inner.mark false (suc d) (SignKind close ∷ ks) ∙ pair.closes_mark false (suc d) ks;
    shape = λ s d ks. pair.opens_shape s d (onto p (SignKind close ∷ ks)) ∙ inner.shape s (suc d) (SignKind close ∷ ks) ∙ pair.closes_shape s (suc d) ks;
  }

  pub calm-pair : Calm (sign open_ & p & sign close)
  calm-pair = record {
    passes = record {
      semicolon = λ d ks. pair.opens d (onto p (SignKind close ∷ ks)) ∙ inner.semicolon d (SignKind close ∷ ks) ∙ pair.closes d ks;
      mark = λ j d ks e. pair.opens_mark j d (onto p (SignKind close ∷ ks)) ∙ inner.mark false d (SignKind close ∷ ks) ∙ pair.closes_mark false d ks;
    };
    not_equal = λ ks e. pair.is_no_equal (onto p (SignKind close ∷ ks));
    deep = deep-pair;
  }
