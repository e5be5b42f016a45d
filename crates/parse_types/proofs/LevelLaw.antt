-- The law at suffixes, intersections and unions: an operator behind an open type.
use Rattle.std.proofs.Common.{◌≡◌, ℕ, ◌<◌, ◌≤◌, Bool, true, false, ◌∷◌, length, Some, refl, ap, ◌∙◌, arith}
use Rattle.std.specs.Prelude.{option_map}
use Rattle.bal_base.specs.declared.token.TokenKind.TheVariants.{Sign as SignKind}
use Rattle.bal_base.specs.declared.token.Sign.TheVariants.{Bar, Ampersand}
use Rattle.bal_tree.specs.Pieces.{Pieces, ◌&◌, sign}
use Rattle.bal_tree.specs.Spells.{onto}
use Rattle.bal_tree.specs.TypeRules.{TypeFacts, closed}
use Rattle.token_steps.specs.Tokens.{Kinds}
use Rattle.parse_types.specs.Reaches.{open_at, left_length, suffix, suffix_step, ampersand_step, bar_step, postfix, intersection, union, inside}
use Rattle.parse_types.proofs.Going.{many-stops, many-goes, many-less}
use Rattle.parse_types.proofs.Onto.{onto-longer}
use Rattle.parse_types.proofs.Follows.{Stays, went-here}
use Rattle.parse_types.proofs.Law.{suffixes, ampersands, bars, all_loops, At, PostfixLaw, IntersectionLaw, TypeLaw, just-open}

-- a suffix behind an open type
pub suffixed : (p : Pieces) (f : TypeFacts) → PostfixLaw p f → (q : Pieces) (n : ℕ) (middle : Bool) (ks : Kinds) → f.end.in_result ≡ false → f.is_formed middle ≡ true → length (onto (p & q) ks) ≤ n → Stays middle f.end.in_int (onto q ks) → suffix (onto q ks) ≡ Some ks → length ks < length (onto q ks) → At (postfix (inside n) middle) suffixes (onto (p & q) ks) middle closed ks
suffixed p f law q n middle ks opens formed fits stays is shorter =
    let at = law n middle (onto q ks) formed fits in
    let just = just-open middle f.end (onto q ks) at.left opens at.went stays in
    let step : suffix_step (open_at (onto q ks)) ≡ Some (open_at ks) = ap (option_map open_at) is in
    record {
      left = open_at ks;
      is = at.is ∙ ap (λ l. Some (suffixes l)) just ∙ ap Some (many-goes left_length suffix_step (open_at (onto q ks)) (open_at ks) step shorter);
      went = went-here middle ks;
    }

ampersand-stays : (middle in_int : Bool) (ks : Kinds) → Stays middle in_int (SignKind Ampersand ∷ ks)
ampersand-stays middle in_int ks = record { less = refl; paren = refl; returns = refl; colon = λ _. refl; int_colon = λ _. refl }

pub both : (p q : Pieces) (f g : TypeFacts) → IntersectionLaw p f → PostfixLaw q g → (n : ℕ) (middle : Bool) (ks : Kinds) → f.end.in_result ≡ false → f.is_formed middle ≡ true → g.is_formed middle ≡ true → length (onto (p & sign Ampersand & q) ks) ≤ n → At (intersection (inside n) middle) (λ l. ampersands n middle (suffixes l)) (onto (p & sign Ampersand & q) ks) middle g.end ks
both p q f g law law2 n middle ks opens formed formed2 fits =
    let xs = onto q ks in
    let at = law n middle (SignKind Ampersand ∷ xs) formed fits in
    let just = just-open middle f.end (SignKind Ampersand ∷ xs) at.left opens at.went (ampersand-stays middle f.end.in_int xs) in
    let longer = onto-longer p (SignKind Ampersand ∷ xs) in
    let next = law2 n middle ks formed2 (omega arith) in
    let here = open_at (SignKind Ampersand ∷ xs) in
    let less = many-less left_length suffix_step next.left in
    let no_more = next.went.no_more in
    let onto_longer = onto-longer q ks in
    record {
      left = next.left;
      is =
          at.is ∙ ap (λ l. Some (ampersands n middle (suffixes l))) just
          ∙ ap (λ l. Some (ampersands n middle l)) (many-stops left_length suffix_step here refl)
          ∙ ap Some (many-goes left_length (ampersand_step (inside n) middle) here (suffixes next.left) next.is (omega arith));
      went = next.went;
    }

bar-stays : (middle in_int : Bool) (ks : Kinds) → Stays middle in_int (SignKind Bar ∷ ks)
bar-stays middle in_int ks = record { less = refl; paren = refl; returns = refl; colon = λ _. refl; int_colon = λ _. refl }

pub either : (p q : Pieces) (f g : TypeFacts) → TypeLaw p f → IntersectionLaw q g → (n : ℕ) (middle : Bool) (ks : Kinds) → f.end.in_result ≡ false → f.is_formed middle ≡ true → g.is_formed middle ≡ true → length (onto (p & sign Bar & q) ks) ≤ n → At (union (inside n) middle) (all_loops n middle) (onto (p & sign Bar & q) ks) middle g.end ks
either p q f g law law2 n middle ks opens formed formed2 fits =
    let xs = onto q ks in
    let at = law n middle (SignKind Bar ∷ xs) formed fits in
    let just = just-open middle f.end (SignKind Bar ∷ xs) at.left opens at.went (bar-stays middle f.end.in_int xs) in
    let longer = onto-longer p (SignKind Bar ∷ xs) in
    let next = law2 n middle ks formed2 (omega arith) in
    let here = open_at (SignKind Bar ∷ xs) in
    let less = many-less left_length suffix_step next.left in
    let less2 = many-less left_length (ampersand_step (inside n) middle) (suffixes next.left) in
    let no_more = next.went.no_more in
    let onto_longer = onto-longer q ks in
    record {
      left = next.left;
      is =
          at.is ∙ ap (λ l. Some (all_loops n middle l)) just
          ∙ ap (λ l. Some (bars n middle (ampersands n middle l))) (many-stops left_length suffix_step here refl)
          ∙ ap (λ l. Some (bars n middle l)) (many-stops left_length (ampersand_step (inside n) middle) here refl)
          ∙ ap Some (many-goes left_length (bar_step (inside n) middle) here (ampersands n middle (suffixes next.left)) next.is (omega arith));
      went = next.went;
    }
