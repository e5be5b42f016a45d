-- The reader goes at least as far as each well-formed type that stands at the front, and just as far where what follows
-- could not be taken: what that means, and a type inside another one.
use Rattle.std.proofs.Common.{◌≡◌, ℕ, zero, suc, ◌<◌, ◌≤◌, Bool, true, false, length, Option, None, Some, refl, sym, ap, ◌∙◌, subst, arith, ◌&&◌}
use Rattle.std.specs.Prelude.{option_map, nat_le, if◌then◌else◌, not}
use Rattle.std.proofs.lemmas.Bool.{leb-true, false≢true}
use Rattle.bal_tree.specs.Pieces.{Pieces}
use Rattle.bal_tree.specs.Spells.{onto}
use Rattle.bal_tree.specs.TypeRules.{TypeEnd, TypeFacts}
use Rattle.parse_types.specs.Loops.{◌>>=◌, many}
use Rattle.token_steps.specs.Tokens.{Kinds}
use Rattle.parse_types.specs.Reaches.{Left, open_at, colon_word, left_length, suffix_step, ampersand_step, bar_step, primary, postfix, intersection, union, no_more, inside}
use Rattle.parse_types.proofs.Going.{many-stops, many-less}
use Rattle.parse_types.proofs.Levels.{no_more-passes}
use Rattle.parse_types.proofs.Onto.{onto-longer}
use Rattle.parse_types.proofs.Follows.{Stays, Ends, Follows, Closes, closes-stay, Went}

-- ---- tests that pass

pub both_pass : (a b : Bool) → (a && b) ≡ true → (a ≡ true) × (b ≡ true)
both_pass true b h = (refl, h)
both_pass false b h = absurd (false≢true h)

pub not_true : (a : Bool) → not a ≡ true → a ≡ false
not_true true h = absurd (false≢true h)
not_true false h = refl

-- ---- what is left of the loops

abbrev pub suffixes : Left → Left
suffixes = many left_length suffix_step

module _ (n : ℕ) (middle : Bool) where
  abbrev pub ampersands : Left → Left
  ampersands = many left_length (ampersand_step (inside n) middle)

  abbrev pub bars : Left → Left
  bars = many left_length (bar_step (inside n) middle)

  abbrev pub all_loops : Left → Left
  all_loops l = bars (ampersands (suffixes l))

  pub all_loops-less : (l : Left) → length (all_loops l).rest ≤ length l.rest
  all_loops-less l =
      let a = many-less left_length suffix_step l in
      let b = many-less left_length (ampersand_step (inside n) middle) (suffixes l) in
      let c = many-less left_length (bar_step (inside n) middle) (ampersands (suffixes l)) in
      omega arith

  pub all_loops-end : (in_result : Bool) (ks : Kinds) → Ends ks → all_loops record { in_result = in_result; rest = ks } ≡ record { in_result = in_result; rest = ks }
  all_loops-end in_result ks e =
      let l : Left = record { in_result = in_result; rest = ks } in
      ap (λ x. bars (ampersands x)) (many-stops left_length suffix_step l (no-suffix in_result))
      ∙ ap bars (many-stops left_length (ampersand_step (inside n) middle) l (no-ampersand in_result))
      ∙ many-stops left_length (bar_step (inside n) middle) l (no-bar in_result)
    where
      no-suffix : (b : Bool) → suffix_step record { in_result = b; rest = ks } ≡ None
      no-suffix true = refl
      no-suffix false = ap (option_map open_at) e.no_suffix

      no-ampersand : (b : Bool) → ampersand_step (inside n) middle record { in_result = b; rest = ks } ≡ None
      no-ampersand true = refl
      no-ampersand false = ap (λ o. o >>= postfix (inside n) middle) e.no_ampersand

      no-bar : (b : Bool) → bar_step (inside n) middle record { in_result = b; rest = ks } ≡ None
      no-bar true = refl
      no-bar false = ap (λ o. o >>= intersection (inside n) middle) e.no_bar

-- ---- the laws

-- at these tokens, behind which `ks` stand, the reader goes on with `left`
pub record At (reader : Kinds → Option Left) (loops : Left → Left) (xs : Kinds) (middle : Bool) (end : TypeEnd) (ks : Kinds) : Type 0 where
  pub left : Left
  pub is : reader xs ≡ Some (loops left)
  pub went : Went middle end ks left

-- of a tree with these pieces and these facts
module _ (p : Pieces) (f : TypeFacts) where
  abbrev pub PrimaryLaw : Type 0
  PrimaryLaw = (n : ℕ) (middle : Bool) (ks : Kinds) → f.is_formed middle ≡ true → length (onto p ks) ≤ n → At (primary (inside n) middle) (λ l. l) (onto p ks) middle f.end ks

  abbrev pub PostfixLaw : Type 0
  PostfixLaw = (n : ℕ) (middle : Bool) (ks : Kinds) → f.is_formed middle ≡ true → length (onto p ks) ≤ n → At (postfix (inside n) middle) suffixes (onto p ks) middle f.end ks

  abbrev pub IntersectionLaw : Type 0
  IntersectionLaw = (n : ℕ) (middle : Bool) (ks : Kinds) → f.is_formed middle ≡ true → length (onto p ks) ≤ n → At (intersection (inside n) middle) (λ l. ampersands n middle (suffixes l)) (onto p ks) middle f.end ks

  abbrev pub TypeLaw : Type 0
  TypeLaw = (n : ℕ) (middle : Bool) (ks : Kinds) → f.is_formed middle ≡ true → length (onto p ks) ≤ n → At (union (inside n) middle) (all_loops n middle) (onto p ks) middle f.end ks

-- an open type before what it cannot take
pub just-open : (middle : Bool) (end : TypeEnd) (ks : Kinds) (l : Left) → end.in_result ≡ false → Went middle end ks l → Stays middle end.in_int ks → l ≡ open_at ks
just-open middle end ks l e w s =
    w.just (subst (λ b. Follows middle end.in_int b ks) (sym e) s) ∙ ap (λ b. record { in_result = b; rest = ks }) e

-- ---- a type inside another one

pub record Inside (n : ℕ) (middle : Bool) (p : Pieces) (in_int : Bool) (ks : Kinds) : Type 0 where
  pub rest : Kinds
  pub is : inside n middle (onto p ks) ≡ Some rest
  pub no_more : length rest ≤ length ks
  pub took : in_int ≡ true → (a : Kinds) → colon_word ks ≡ Some a → length rest ≤ length a
  pub just : Stays middle in_int ks → Ends ks → rest ≡ ks

pub follows-both : (middle in_int b : Bool) (ks : Kinds) → Stays middle in_int ks → Ends ks → Follows middle in_int b ks
follows-both middle in_int true ks s e = (s, e)
follows-both middle in_int false ks s e = s

pub inside-type : (p : Pieces) (f : TypeFacts) → TypeLaw p f → (n : ℕ) (middle : Bool) (ks : Kinds) → f.is_formed middle ≡ true → length (onto p ks) < n → Inside n middle p f.end.in_int ks
inside-type p f law zero middle ks formed fits = absurd (omega arith)
inside-type p f law (suc n) middle ks formed fits =
    let at = law n middle ks formed (omega arith) in
    let less = all_loops-less n middle at.left in
    let longer = onto-longer p ks in
    let w = at.went.no_more in
    record {
      rest = (all_loops n middle at.left).rest;
      is = ap (no_more (onto p ks)) at.is ∙ no_more-passes (onto p ks) (all_loops n middle at.left) (omega arith);
      no_more = omega arith;
      took = λ h a e. let t = at.went.took h a e in omega arith;
      just = λ s e. ap (λ l. (all_loops n middle l).rest) (at.went.just (follows-both middle f.end.in_int f.end.in_result ks s e)) ∙ ap (λ l. l.rest) (all_loops-end n middle f.end.in_result ks e);
    }

-- a type before what ends it
pub before : (p : Pieces) (f : TypeFacts) → TypeLaw p f → (n : ℕ) (middle : Bool) (ks : Kinds) → f.is_formed middle ≡ true → length (onto p ks) < n → Closes ks → inside n middle (onto p ks) ≡ Some ks
before p f law n middle ks formed fits c =
    let found = inside-type p f law n middle ks formed fits in
    found.is ∙ ap Some (found.just (closes-stay middle f.end.in_int ks c) c.ends)

pub inside-less : (n : ℕ) (middle : Bool) (ks a : Kinds) → inside n middle ks ≡ Some a → length a ≤ length ks
inside-less zero middle ks a e = cc
inside-less (suc n) middle ks a e = less (union (inside n) middle ks) e
  where
    less : (o : Option Left) → no_more ks o ≡ Some a → length a ≤ length ks
    less None e = cc
    less (Some l) e = test (nat_le (length l.rest) (length ks)) refl e
      where
        test : (b : Bool) → nat_le (length l.rest) (length ks) ≡ b → (if b then Some l.rest else None) ≡ Some a → length a ≤ length ks
        test true le e = let h = leb-true (length l.rest) (length ks) le in let same : l.rest ≡ a = cc e in let k = ap length same in omega arith
        test false le e = cc
