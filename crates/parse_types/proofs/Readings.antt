-- Tokens that spell pieces, put together.
use Rattle.std.proofs.Common.{◌≡◌, ℕ, ◌<◌, Bool, true, ◌&&◌, List, [], ◌∷◌, ◌++◌, length, refl, sym, ap, subst, ◌∙◌, arith}
use Rattle.std.specs.List.{list_all}
use Rattle.std.proofs.lemmas.List.Folds.{list_all-append}
use Rattle.bal_base.specs.declared.place.Place.{Place}
use Rattle.bal_base.specs.declared.token.Token.{Token}
use Rattle.bal_base.specs.declared.token.TokenKind.{TokenKind}
use Rattle.bal_base.specs.declared.token.TokenKind.TheVariants.{Sign as SignKind}
use Rattle.bal_base.specs.declared.token.Sign.{Sign}
use Rattle.bal_tree.specs.Pieces.{Pieces, starts, ◌&◌, sign}
use Rattle.bal_tree.specs.Spells.{Heads, Spells, first_place, kinds_of}
use Rattle.token_steps.proofs.Spelling.{spells-at, spells-both}
use Rattle.parse_types.specs.Starts.{Reading}

pub ruleset spelling = (spells-at, spells-both)

-- ---- what is read, of other pieces and another test

module _ (file : ℕ) (a c : List Token) where
  pub reads-as : (f g : Bool) (p q : Pieces) → g ≡ f → q ≡ p → Reading f p file a c → Reading g q file a c
  reads-as f g p q test pieces r = record {
    formed = test ∙ r.formed;
    spells = subst (λ x. Spells file x a c) (sym pieces) r.spells;
    shorter = r.shorter;
  }

  -- a whole of two parts with a sign between them
  pub joins : (b d : List Token) (at : Place) (p q whole : Pieces) (s : Sign) (f g h : Bool) → at ≡ first_place file a → Reading f p file a b → Heads (SignKind s) b d → Reading g q file d c → whole ≡ (starts at & p & sign s & q) → h ≡ true → Reading h whole file a c
  joins b d at p q whole s f g h here left heads right is formed =
      let one = ap length heads.splits in
      record {
        formed = formed;
        spells = subst (λ w. Spells file w a c) (sym is) (a, (here, refl), (b, left.spells, (d, heads, right.spells)));
        shorter = omega (arith, left.shorter, right.shorter);
      }

  -- a whole of two parts
  pub ends_in : (b : List Token) (at : Place) (p q whole : Pieces) (f g h : Bool) → at ≡ first_place file a → Reading f p file a b → Reading g q file b c → whole ≡ (starts at & p & q) → h ≡ true → Reading h whole file a c
  ends_in b at p q whole f g h here left right is formed = record {
    formed = formed;
    spells = subst (λ w. Spells file w a c) (sym is) (a, (here, refl), (b, left.spells, right.spells));
    shorter = omega (arith, left.shorter, right.shorter);
  }

-- ---- tests of lists

pub both-true : (a b : Bool) → a ≡ true → b ≡ true → (a && b) ≡ true
both-true a b h k = ap (λ c. c && b) h ∙ k

pub all-push : {X : Type 0} (f : X → Bool) (xs : List X) (x : X) → list_all f xs ≡ true → f x ≡ true → list_all f (xs ++ x ∷ []) ≡ true
all-push f xs x h k = list_all-append f xs (x ∷ []) ∙ both-true (list_all f xs) (list_all f (x ∷ [])) h (both-true (f x) true k refl)

-- ---- the kinds of tokens

pub heads-kinds : (k : TokenKind) (a b : List Token) → Heads k a b → kinds_of a ≡ k ∷ kinds_of b
heads-kinds k a b h = ap kinds_of h.splits ∙ ap (λ x. x ∷ kinds_of b) h.is

pub length-kinds : (a : List Token) → length (kinds_of a) ≡ length a
length-kinds [] = refl
length-kinds (t ∷ ts) = let h = length-kinds ts in omega arith

pub kinds-less : (a b : List Token) → length a < length b → length (kinds_of a) < length (kinds_of b)
kinds-less a b h = let x = length-kinds a in let y = length-kinds b in omega arith
