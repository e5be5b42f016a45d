-- The levels kept in a vector, outermost first, and the tokens before a closing bracket, one by one.
use Rattle.std.proofs.Common.{◌≡◌, ℕ, zero, suc, ◌+◌, ◌<◌, List, [], ◌∷◌, ◌++◌, length, take, drop, get_or, Some, sym, ap, ◌∙◌, arith, add-one}
use Rattle.std.specs.Prelude.{reverse}
use Rattle.std.specs.Option.{option_map_or}
use Rattle.std.proofs.lemmas.List.{reverse-append}
use Rattle.bal_base.specs.declared.token.Token.{Token}
use Rattle.bal_tree.specs.Spells.{kinds_of}
use Rattle.token_steps.specs.Tokens.{Kinds}
use Rattle.parse_types.specs.Nesting.{depth_behind, enclosed}

pub reverse-push : {A : Type 0} (xs : List A) (x : A) → reverse (xs ++ x ∷ []) ≡ x ∷ reverse xs
reverse-push xs x = reverse-append xs (x ∷ [])

pub ruleset counting = (reverse-push)

one-more : (tokens : List Token) (i depth behind : ℕ) (t : Token) → i < length tokens → t ≡ get_or tokens i t → depth_behind t.kind depth ≡ Some behind → kinds_of (take i tokens) ++ enclosed depth (kinds_of (drop i tokens)) ≡ kinds_of (take (suc i) tokens) ++ enclosed behind (kinds_of (drop (suc i) tokens))
one-more [] i depth behind t lt is e = absurd (omega (arith, lt))
one-more (x ∷ xs) zero depth behind t lt is e =
    ap (λ o. option_map_or (λ d. x.kind ∷ enclosed d (kinds_of xs)) o []) (ap (λ (y : Token). depth_behind y.kind depth) (sym is) ∙ e)
one-more (x ∷ xs) (suc i) depth behind t lt is e = ap (λ (ks : Kinds). x.kind ∷ ks) (one-more xs i depth behind t (omega (arith, lt)) is e)

pub enclosed-more : (tokens : List Token) (i depth behind : ℕ) (t : Token) → i < length tokens → t ≡ get_or tokens i t → depth_behind t.kind depth ≡ Some behind → kinds_of (take i tokens) ++ enclosed depth (kinds_of (drop i tokens)) ≡ kinds_of (take (i + 1) tokens) ++ enclosed behind (kinds_of (drop (i + 1) tokens))
enclosed-more tokens i depth behind t lt is e = one-more tokens i depth behind t lt is e ∙ ap (λ j. kinds_of (take j tokens) ++ enclosed behind (kinds_of (drop j tokens))) (sym (add-one i))
