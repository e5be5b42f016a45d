-- What stands behind a type that was read as far as it goes.
use Rattle.std.proofs.Common.{◌≡◌, ℕ, zero, suc, ◌<◌, ◌≤◌, Bool, true, false, List, [], ◌∷◌, length, Option, None, Some, Result, Ok, Err, IfOk, Bor, refl, sym, ap, subst, ◌∙◌, arith, inl, inr}
use Rattle.std.specs.Prelude.{option_map, nat_le, nat_lt, if◌then◌else◌}
use Rattle.std.proofs.lemmas.Bool.{lt-ltb, ltb-true, cases_Bool}
use Rattle.std.proofs.lemmas.Option.{option_and_then_some}
use Rattle.bal_base.specs.declared.token.TokenKind.TheVariants.{Word as WordKind, Keyword as KeywordKind, Int as IntKind, Str as StrKind, Sign as SignKind}
use Rattle.bal_base.specs.declared.token.Keyword.{Keyword}
use Rattle.bal_base.specs.declared.token.Keyword.TheVariants.{Int, Map, Future, Error, Record, Function, Isolated, Returns}
use Rattle.bal_base.specs.declared.token.Sign.{Sign}
use Rattle.bal_base.specs.declared.token.Sign.TheVariants.{Colon, Question, Minus, OpenParen, OpenBracket, CloseBracket, Ampersand, Bar}
use Rattle.parse_types.specs.Loops.{◌>>=◌, or_else, next, within, many}
use Rattle.token_steps.specs.Tokens.{Kinds, take_sign, take_key, take_word}
use Rattle.bal_tree.specs.declared.types.TypeTree.{TypeTree}
use Rattle.bal_tree.specs.Spells.{onto, kinds_of}
use Rattle.bal_tree.specs.TypePieces.{type_pieces}
use Rattle.bal_tree.specs.TypeRules.{type_is_formed, type_end, is_length}
use Rattle.parse_types.specs.Reaches.{Left, open_at, left_length, length_behind, colon_word, name, negative, nil, int_or_name, one_word, suffix, suffix_step, parens, tuple, map_type, future_type, error_type, record_type, ampersand_step, bar_step, result_or, params, params_or, function_behind, primary, postfix, intersection, union, no_more, inside}
use Rattle.parse_types.specs.Starts.{LeavesAs, TypeReading, Settled, type_left}
use Rattle.bal_base.specs.declared.stop.Stop.{Stop}
use Rattle.bal_base.specs.declared.token.Token.{Token}
use Rattle.bal_tree.proofs.Spelling.{spells-onto}
use Rattle.token_steps.specs.declared.steps.Missing.{Missing}
use Rattle.parse_types.proofs.Readings.{length-kinds}
use Rattle.parse_types.proofs.Law.{all_loops, all_loops-less}
use Rattle.parse_types.proofs.Taking.{take_sign-less, take_word-less, or_else-less}
use Rattle.parse_types.proofs.WholeLaw.{type-law}

-- ---- a loop whose steps all say something of what they come to

module _ {S : Type 0} (size : S → ℕ) (step : S → Option S) (Claim : S → Type 0) (made : (s t : S) → step s ≡ Some t → Claim t) where
  next-claims : (go : S → S) (s : S) (o : Option S) → step s ≡ o → Claim s → ((t : S) → Claim t → Claim (go t)) → Claim (next size step go s o)
  next-claims go s None e h k = h
  next-claims go s (Some t) e h k =
      elim (cases_Bool (nat_lt (size t) (size s))) [
        | inl below ↦ rw below (k t (made s t e))
        | inr above ↦ rw above h
      ]

  within-claims : (n : ℕ) (s : S) → Claim s → Claim (within size step n s)
  within-claims zero s h = h
  within-claims (suc n) s h = next-claims (within size step n) s (step s) refl h (within-claims n)

  many-claims : (s : S) → Claim s → Claim (many size step s)
  unfolding many
  many-claims s h = within-claims (size s) s h

  -- where each step comes to something smaller, the loop ends where there is none
  module _ (smaller : (s t : S) → step s ≡ Some t → size t < size s) where
    no-step : (s : S) (o : Option S) → step s ≡ o → size s ≤ 0 → step s ≡ None
    no-step s None e h = e
    no-step s (Some t) e h = absurd (let lt = smaller s t e in omega arith)

    next-ends : (go : S → S) (s : S) (o : Option S) → step s ≡ o → ((t : S) → size t < size s → step (go t) ≡ None) → step (next size step go s o) ≡ None
    next-ends go s None e k = e
    next-ends go s (Some t) e k = let lt = smaller s t e in rw (lt-ltb (size t) (size s) lt) (k t lt)

    within-ends : (n : ℕ) (s : S) → size s ≤ n → step (within size step n s) ≡ None
    within-ends zero s h = no-step s (step s) refl h
    within-ends (suc n) s h = next-ends (within size step n) s (step s) refl (λ t lt. within-ends n t (omega arith))

    many-ends : (s : S) → step (many size step s) ≡ None
    unfolding many
    many-ends s = within-ends (size s) s (omega arith)

-- ---- no `?` stands behind a type

abbrev NoQuestion : Left → Type 0
NoQuestion l = take_sign Question l.rest ≡ None

-- behind the result of a function type
abbrev ResultSettled : Left → Type 0
ResultSettled l = l.in_result ≡ true → NoQuestion l

neither : (o p : Option Kinds) → or_else o p ≡ None → o ≡ None
neither None p e = refl
neither (Some a) p e = cc e

opened : (o : Option Kinds) (l : Left) → option_map open_at o ≡ Some l → ResultSettled l
opened None l e h = cc e
opened (Some a) l e h = let same : open_at a ≡ l = cc e in let bad : false ≡ true = ap (λ (x : Left). x.in_result) same ∙ h in cc bad

suffix-less : (ks a : Kinds) → suffix ks ≡ Some a → length a < length ks
suffix-less ks a e =
    or_else-below (take_sign Question ks) (take_sign OpenBracket ks >>= λ b. or_else (take_sign CloseBracket b) (length_behind b)) a ks e (take_sign-less Question ks)
    (λ b f. option_and_then_some (λ x. or_else (take_sign CloseBracket x) (length_behind x)) (take_sign OpenBracket ks) b f
    (λ x p q. let h = take_sign-less OpenBracket ks x p in let k = or_else-less (take_sign CloseBracket x) (length_behind x) b x q (λ y r. let t = take_sign-less CloseBracket x y r in omega arith) (length-less x) in omega arith))
  where
    or_else-below : (o p : Option Kinds) (a ks : Kinds) → or_else o p ≡ Some a → ((b : Kinds) → o ≡ Some b → length b < length ks) → ((b : Kinds) → p ≡ Some b → length b < length ks) → length a < length ks
    or_else-below None p a ks e h k = k a e
    or_else-below (Some b) p a ks e h k = h a e

    length-less : (x b : Kinds) → length_behind x ≡ Some b → length b ≤ length x
    length-less [] b e = cc e
    length-less (IntKind i ∷ x) b e = fits (is_length i) e
      where
        fits : (t : Bool) → (if t then take_sign CloseBracket x else None) ≡ Some b → length b ≤ suc (length x)
        fits true e = let h = take_sign-less CloseBracket x b e in omega arith
        fits false e = cc e
    length-less (k ∷ x) b e = cc e

suffix_step-less : (s t : Left) → suffix_step s ≡ Some t → left_length t < left_length s
suffix_step-less s t e = less s.in_result e
  where
    mapped : (o : Option Kinds) → ((a : Kinds) → o ≡ Some a → length a < length s.rest) → option_map open_at o ≡ Some t → length t.rest < length s.rest
    mapped None h f = cc f
    mapped (Some a) h f = let lt = h a refl in let same : open_at a ≡ t = cc f in let size = ap (λ (x : Left). length x.rest) same in omega arith

    less : (b : Bool) → (if b then None else option_map open_at (suffix s.rest)) ≡ Some t → length t.rest < length s.rest
    less true f = cc f
    less false f = mapped (suffix s.rest) (suffix-less s.rest) f

module _ (n : ℕ) (below : (middle : Bool) (ks a : Kinds) → inside n middle ks ≡ Some a → take_sign Question a ≡ None) where
  result-settled : (middle : Bool) (ks : Kinds) (o : Option Kinds) → ((a : Kinds) → o ≡ Some a → take_sign Question a ≡ None) → ResultSettled (result_or o ks)
  result-settled middle ks None k h = cc h
  result-settled middle ks (Some a) k h = k a refl

  function-settled : (middle : Bool) (ks : Kinds) (o : Option Kinds) → ResultSettled (params_or (inside n middle) o ks)
  function-settled middle ks None h = cc h
  function-settled middle ks (Some b) h =
      result-settled middle b (take_key Returns b >>= inside n middle) (λ a e. option_and_then_some (inside n middle) (take_key Returns b) a e (λ x p q. below middle x a q)) h

  primary-settled : (middle : Bool) (xs : Kinds) (l : Left) → primary (inside n) middle xs ≡ Some l → ResultSettled l
  primary-settled middle [] l e h = cc e
  primary-settled middle (WordKind w ∷ ks) l e h = opened (name middle (WordKind w ∷ ks)) l e h
  primary-settled middle (IntKind i ∷ ks) l e h = opened (Some ks) l e h
  primary-settled middle (StrKind t ∷ ks) l e h = opened (Some ks) l e h
  primary-settled middle (SignKind Minus ∷ ks) l e h = opened (negative (SignKind Minus ∷ ks)) l e h
  primary-settled middle (SignKind OpenParen ∷ ks) l e h = opened (or_else (parens (inside n false) (SignKind OpenParen ∷ ks)) (nil (SignKind OpenParen ∷ ks))) l e h
  primary-settled middle (SignKind OpenBracket ∷ ks) l e h = opened (tuple (inside n false) (SignKind OpenBracket ∷ ks)) l e h
  primary-settled middle (SignKind s ∷ ks) l e h = cc e
  primary-settled middle (KeywordKind Int ∷ ks) l e h = opened (int_or_name (KeywordKind Int ∷ ks)) l e h
  primary-settled middle (KeywordKind Map ∷ ks) l e h = opened (map_type (inside n middle) (KeywordKind Map ∷ ks)) l e h
  primary-settled middle (KeywordKind Future ∷ ks) l e h = opened (future_type (inside n middle) (KeywordKind Future ∷ ks)) l e h
  primary-settled middle (KeywordKind Error ∷ ks) l e h = opened (error_type (inside n middle) (KeywordKind Error ∷ ks)) l e h
  primary-settled middle (KeywordKind Record ∷ ks) l e h = opened (record_type (inside n false) (KeywordKind Record ∷ ks)) l e h
  primary-settled middle (KeywordKind Function ∷ ks) l e h =
      let same : function_behind (inside n) middle ks ≡ l = cc e in
      subst ResultSettled same (function-settled middle ks (params (inside n false) ks)) h
  primary-settled middle (KeywordKind Isolated ∷ ks) l e h = behind (take_key Function ks) e
    where
      behind : (o : Option Kinds) → (o >>= λ a. Some (function_behind (inside n) middle a)) ≡ Some l → NoQuestion l
      behind None f = cc f
      behind (Some a) f =
          let same : function_behind (inside n) middle a ≡ l = cc f in
          subst ResultSettled same (function-settled middle a (params (inside n false) a)) h
  primary-settled middle (KeywordKind k ∷ ks) l e h = opened (one_word k (KeywordKind k ∷ ks)) l e h

  -- where no suffix goes on, none is a `?`
  ended : (s : Left) → suffix_step s ≡ None → ResultSettled s → NoQuestion s
  ended s e h = by_result s.in_result refl e
    where
      by_result : (b : Bool) → s.in_result ≡ b → (if b then None else option_map open_at (suffix s.rest)) ≡ None → NoQuestion s
      by_result true is f = h is
      by_result false is f = neither (take_sign Question s.rest) (take_sign OpenBracket s.rest >>= λ a. or_else (take_sign CloseBracket a) (length_behind a)) (unmapped (suffix s.rest) f)
        where
          unmapped : (o : Option Kinds) → option_map open_at o ≡ None → o ≡ None
          unmapped None g = refl
          unmapped (Some a) g = cc g

  suffix-made : (s t : Left) → suffix_step s ≡ Some t → ResultSettled t
  suffix-made s t e = made s.in_result e
    where
      made : (b : Bool) → (if b then None else option_map open_at (suffix s.rest)) ≡ Some t → ResultSettled t
      made true f = cc f
      made false f = opened (suffix s.rest) t f

  mapped-some : (f : Left → Left) (o : Option Left) (l : Left) → option_map f o ≡ Some l → (x : Left) × (o ≡ Some x) × (f x ≡ l)
  mapped-some f None l e = cc e
  mapped-some f (Some x) l e = (x, refl, cc e)

  postfix-settled : (middle : Bool) (xs : Kinds) (l : Left) → postfix (inside n) middle xs ≡ Some l → NoQuestion l
  unfolding postfix
  postfix-settled middle xs l e =
      let p = mapped-some (many left_length suffix_step) (primary (inside n) middle xs) l e in
      subst NoQuestion p.2 (ended (many left_length suffix_step p.0) (many-ends left_length suffix_step ResultSettled suffix-made suffix_step-less p.0) (many-claims left_length suffix_step ResultSettled suffix-made p.0 (primary-settled middle xs p.0 p.1)))

  -- an operator and what stands behind it
  operator-made : (b : Bool) (o : Option Kinds) (reader : Kinds → Option Left) (t : Left) → ((xs : Kinds) (l : Left) → reader xs ≡ Some l → NoQuestion l) → (if b then None else o >>= reader) ≡ Some t → NoQuestion t
  operator-made true o reader t h e = cc e
  operator-made false None reader t h e = cc e
  operator-made false (Some xs) reader t h e = h xs t e

  intersection-settled : (middle : Bool) (xs : Kinds) (l : Left) → intersection (inside n) middle xs ≡ Some l → NoQuestion l
  unfolding intersection
  intersection-settled middle xs l e =
      let step = ampersand_step (inside n) middle in
      let p = mapped-some (many left_length step) (postfix (inside n) middle xs) l e in
      subst NoQuestion p.2 (many-claims left_length step NoQuestion (λ s t f. operator-made s.in_result (take_sign Ampersand s.rest) (postfix (inside n) middle) t (postfix-settled middle) f) p.0 (postfix-settled middle xs p.0 p.1))

  union-settled : (middle : Bool) (xs : Kinds) (l : Left) → union (inside n) middle xs ≡ Some l → NoQuestion l
  unfolding union
  union-settled middle xs l e =
      let step = bar_step (inside n) middle in
      let p = mapped-some (many left_length step) (intersection (inside n) middle xs) l e in
      subst NoQuestion p.2 (many-claims left_length step NoQuestion (λ s t f. operator-made s.in_result (take_sign Bar s.rest) (intersection (inside n) middle) t (intersection-settled middle) f) p.0 (intersection-settled middle xs p.0 p.1))

passed : (n : ℕ) (middle : Bool) (ks a : Kinds) → ((l : Left) → union (inside n) middle ks ≡ Some l → take_sign Question l.rest ≡ None) → (o : Option Left) → union (inside n) middle ks ≡ o → no_more ks o ≡ Some a → take_sign Question a ≡ None
passed n middle ks a settled None f g = cc g
passed n middle ks a settled (Some l) f g = fits (nat_le (length l.rest) (length ks)) g
  where
    fits : (b : Bool) → (if b then Some l.rest else None) ≡ Some a → take_sign Question a ≡ None
    fits true g = let same : l.rest ≡ a = cc g in subst (λ x. take_sign Question x ≡ None) same (settled l f)
    fits false g = cc g

inside-settled : (n : ℕ) (middle : Bool) (ks a : Kinds) → inside n middle ks ≡ Some a → take_sign Question a ≡ None
inside-settled zero middle ks a e = cc e
inside-settled (suc n) middle ks a e = passed n middle ks a (union-settled n (inside-settled n) middle ks) (union (inside n) middle ks) refl e

pub type-settled : (n : ℕ) (middle : Bool) (xs : Kinds) (l : Left) → union (inside n) middle xs ≡ Some l → take_sign Question l.rest ≡ None
type-settled n = union-settled n (inside-settled n)

-- ---- behind a type that ends in `int`, no colon and word stand

colon_word-below : (ks a : Kinds) → colon_word ks ≡ Some a → length a < length ks
colon_word-below ks a e = option_and_then_some take_word (take_sign Colon ks) a e (λ x p q. let h = take_sign-less Colon ks x p in let k = take_word-less x a q in omega arith)

pub int-settled : (t : TypeTree) (n : ℕ) (middle : Bool) (ks : Kinds) → type_is_formed t middle ≡ true → length (onto (type_pieces t) ks) ≤ n → union (inside n) middle (onto (type_pieces t) ks) ≡ Some (type_left t ks) → (type_end t).in_int ≡ true → colon_word ks ≡ None
int-settled t n middle ks formed fits is ends = none (colon_word ks) refl
  where
    none : (o : Option Kinds) → colon_word ks ≡ o → o ≡ None
    none None e = refl
    none (Some a) e =
        let at = type-law t n middle ks formed fits in
        let took = at.went.took ends a e in
        let less = all_loops-less n middle at.left in
        let both : Some (all_loops n middle at.left) ≡ Some (type_left t ks) = sym at.is ∙ is in
        let same : all_loops n middle at.left ≡ type_left t ks = cc both in
        let size = ap (λ (l : Left). length l.rest) same in
        let lt = colon_word-below ks a e in
        absurd (omega arith)

pub settled-of : (file : ℕ) (middle : Bool) (tokens : List Token) (n : ℕ) → length tokens ≤ n → (r : Result (TypeTree × Bor (List Token)) (Stop Missing)) → LeavesAs type_left (union (inside n) middle (kinds_of tokens)) r → IfOk r (λ x. TypeReading middle x.0 file tokens x.1.now) → IfOk r (λ x. Settled (type_end x.0).in_int (kinds_of x.1.now))
settled-of file middle tokens n fits (Ok x) e reads =
    let ks = kinds_of x.1.now in
    let same = spells-onto file (type_pieces x.0) tokens x.1.now reads.spells in
    let size = ap length same in
    let kinds = length-kinds tokens in
    record {
      no_question = type-settled n middle (kinds_of tokens) (type_left x.0 ks) e;
      no_name = int-settled x.0 n middle ks reads.formed (omega arith) (ap (union (inside n) middle) (sym same) ∙ e);
    }
settled-of file middle tokens n fits (Err stop) e reads = tt
