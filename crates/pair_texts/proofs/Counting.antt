-- Lines and columns counted on from a place in front.
use Rattle.std.proofs.Common.{◌≡◌, ◌≢◌, ℕ, zero, suc, ◌+◌, ◌-◌, ◌≤◌, List, [], ◌∷◌, ◌++◌, take, drop, IsUtf8, chars, refl, sym, ap, subst, ◌∙◌, append_assoc, arith}
use Rattle.std.proofs.Math.Logic.{⊎_elim}
use Rattle.std.proofs.lemmas.Bool.Decides.{eqb_tells}
use Rattle.std.proofs.lemmas.List.{append-nil, drop-take, take-append-drop}
use Rattle.std.proofs.lemmas.Str.{chars-append}
use Rattle.bal_base.specs.Place.{line_after, column_after}
use Rattle.bal_base.proofs.Lines.{line-feed, other-point}

-- the line and the column after these and others behind them, by those after each
pub record CountsOn (a b : List ℕ) : Type 0 where
  pub line : line_after (a ++ b) + 1 ≡ line_after a + line_after b
  pub same : line_after b ≡ 1 → column_after (a ++ b) + 1 ≡ column_after a + column_after b
  pub later : line_after b ≢ 1 → column_after (a ++ b) ≡ column_after b

none-more : (a : List ℕ) → CountsOn a []
none-more a =
    record {
      line = ap (λ t. line_after t + 1) (append-nil a);
      same = λ _. ap (λ t. column_after t + 1) (append-nil a);
      later = λ other. absurd (other refl);
    }

module _ (a b : List ℕ) (c : ℕ) (h : CountsOn a b) where
  behind : (f : List ℕ → ℕ) (n : ℕ) → f ((a ++ b) ++ c ∷ []) ≡ n → f (a ++ (b ++ c ∷ [])) ≡ n
  behind f n e = ap f (sym (append_assoc a b (c ∷ []))) ∙ e

  feed-more : c ≡ 10 → CountsOn a (b ++ c ∷ [])
  feed-more e =
      let one = line-feed b c e in
      let both = line-feed (a ++ b) c e in
      let lines : line_after (a ++ (b ++ c ∷ [])) ≡ line_after (a ++ b) + 1 = behind line_after (line_after (a ++ b) + 1) both.0 in
      record {
        line = omega (arith, lines, one.0, h.line);
        same = λ first. absurd (omega (arith, one.0, first));
        later = λ _. behind column_after 1 both.1 ∙ sym one.1;
      }

  point-more : c ≢ 10 → CountsOn a (b ++ c ∷ [])
  point-more n =
      let one = other-point b c n in
      let both = other-point (a ++ b) c n in
      let lines : line_after (a ++ (b ++ c ∷ [])) ≡ line_after (a ++ b) = behind line_after (line_after (a ++ b)) both.0 in
      let columns : column_after (a ++ (b ++ c ∷ [])) ≡ column_after (a ++ b) + 1 = behind column_after (column_after (a ++ b) + 1) both.1 in
      record {
        line = omega (arith, lines, one.0, h.line);
        same = λ first. omega (arith, columns, one.1, h.same (sym one.0 ∙ first));
        later = λ other. columns ∙ ap (λ n. n + 1) (h.later (λ first. other (one.0 ∙ first))) ∙ sym one.1;
      }

  one-more : CountsOn a (b ++ c ∷ [])
  one-more = ⊎_elim (λ e. feed-more e.1) (λ n. point-more n.1) (eqb_tells c 10)

all-more : (a b rest : List ℕ) → CountsOn a b → CountsOn a (b ++ rest)
all-more a b [] h = subst (CountsOn a) (sym (append-nil b)) h
all-more a b (c ∷ rest) h = subst (CountsOn a) (append_assoc b (c ∷ []) rest) (all-more a (b ++ c ∷ []) rest (one-more a b c h))

pub counts-on : (a b : List ℕ) → CountsOn a b
counts-on a b = all-more a [] b (none-more a)

-- ---- a text cut at two places

pub take-first : (i j : ℕ) (xs : List ℕ) → i ≤ j → take i (take j xs) ≡ take i xs
take-first zero j xs le = refl
take-first (suc i) zero xs le = absurd (omega (arith, le))
take-first (suc i) (suc j) [] le = refl
take-first (suc i) (suc j) (x ∷ xs) le = ap (λ ys. x ∷ ys) (take-first i j xs (omega (arith, le)))

cut : (bs : List ℕ) (i j : ℕ) → i ≤ j → take j bs ≡ take i bs ++ take (j - i) (drop i bs)
cut bs i j le =
    let whole : i + (j - i) ≡ j = omega (arith, le) in
    sym (take-append-drop i (take j bs))
    ∙ ap (λ t. t ++ drop i (take j bs)) (take-first i j bs le)
    ∙ ap (λ t. take i bs ++ t) (ap (λ n. drop i (take n bs)) (sym whole) ∙ drop-take i (j - i) bs)

pub cut-chars : (bs : List ℕ) (i j : ℕ) → IsUtf8 (take i bs) → i ≤ j → chars (take j bs) ≡ chars (take i bs) ++ chars (take (j - i) (drop i bs))
cut-chars bs i j u le = ap chars (cut bs i j le) ∙ chars-append (take i bs) (take (j - i) (drop i bs)) u
