-- What was read, put together: lists of parts, and what the reader makes of an expression that was read.
use Rattle.std.proofs.Common.{rules, ◌≡◌, ◌≢◌, ℕ, zero, suc, ◌-◌, Result, Ok, Err, IfOk, Bor, eq-eqb, ◌<◌, ◌≤◌, Bool, true, false, List, [], ◌∷◌, ◌++◌, map, length, Option, None, Some, refl, sym, ap, ◌∙◌, subst, arith, ◌&&◌, inl, inr}
use Rattle.std.specs.Prelude.{◌==◌, if◌then◌else◌, not, nat_eq, option_and_then}
use Rattle.std.proofs.lemmas.Bool.{cases_Bool, eqb-true, le-leb}
use Rattle.std.proofs.lemmas.List.{length-append}
use Rattle.std.specs.List.{list_all}
use Rattle.bal_base.specs.declared.token.Token.{Token}
use Rattle.bal_base.specs.declared.stop.Stop.{Stop}
use Rattle.bal_base.specs.declared.stop.Stop.TheVariants.{Memory, Fault}
use Rattle.bal_base.specs.declared.token.Sign.{Sign}
use Rattle.token_steps.specs.declared.steps.Missing.{Missing}
use Rattle.parse_types.specs.Nesting.{depth_behind}
use Rattle.parse_types.specs.Starts.{Leaves, Reading}
use Rattle.parse_types.proofs.Readings.{length-kinds}
use Rattle.parse_stmt.specs.Ahead.{semicolon, first_mark, is_semicolon, is_outside}
use Rattle.bal_tree.specs.ActionRules.{has_members}
use Rattle.bal_tree.specs.declared.expr.Expr.{Expr}
use Rattle.bal_tree.specs.ExprPieces.{expr_pieces}
use Rattle.bal_tree.specs.ExprRules.{expr_facts}
use Rattle.bal_tree.specs.Pieces.{Pieces, ◌&◌, sign, behind, separated}
use Rattle.bal_tree.specs.Spells.{Spells, onto, kinds_of}
use Rattle.bal_tree.proofs.Spelling.{spells-onto}
use Rattle.parse_types.specs.Loops.{◌>>=◌, many}
use Rattle.token_steps.specs.Tokens.{Kinds}
use Rattle.parse_types.proofs.Going.{many-stops, many-goes}
use Rattle.parse_expr.specs.Reaches.{expr}
use Rattle.parse_stmt.specs.Reaches.{begins_with_check, call, if_or_block, inside, is_call, is_target, led, led_by, no_more, target, up_to}
use Rattle.parse_stmt.specs.Shapes.{Last, last_of, last_read}
use Rattle.parse_stmt.proofs.ExprKnown.{last-law, checks-law}

-- ---- lists with a sign between each two

module _ {X : Type 0} (f : X → Pieces) (s : Sign) (file : ℕ) where
  pub spells-behind : (xs : List X) (x : X) (a b c : List Token) → Spells file (behind s (map f xs)) a b → Spells file (sign s & f x) b c → Spells file (behind s (map f (xs ++ x ∷ []))) a c
  spells-behind [] x a b c front here = subst (λ t. Spells file (behind s (f x ∷ [])) t c) (sym front) (here.0, here.1, (c, here.2, refl))
  spells-behind (y ∷ ys) x a b c front here = (front.0, front.1, (front.2.0, front.2.1, spells-behind ys x front.2.0 b c front.2.2 here))

  pub spells-separated : (xs : List X) (x : X) (a b c : List Token) → has_members xs ≡ true → Spells file (separated s (map f xs)) a b → Spells file (sign s & f x) b c → Spells file (separated s (map f (xs ++ x ∷ []))) a c
  spells-separated [] x a b c h front here = cc h
  spells-separated (y ∷ ys) x a b c h front here = (front.0, front.1, spells-behind ys x front.0 b c front.2 here)

  pub spells-one : (x : X) (a b : List Token) → Spells file (f x) a b → Spells file (separated s (map f (x ∷ []))) a b
  spells-one x a b h = (b, h, refl)

pub some-members : (n : ℕ) → 0 < n → not (nat_eq n 0) ≡ true
some-members n lt = elim (cases_Bool (nat_eq n 0)) [ inl e ↦ absurd (let same = eqb-true n 0 e in omega arith) | inr e ↦ ap not e ]

pub has-one-more : {X : Type 0} (xs : List X) (x : X) → has_members (xs ++ x ∷ []) ≡ true
has-one-more xs x = let size = length-append xs (x ∷ []) in some-members (length (xs ++ x ∷ [])) (omega arith)

-- ---- loops

module _ (step : Kinds → Option Kinds) where
  pub on-goes : (ks rs xs : Kinds) → many length step ks ≡ many length step rs → step rs ≡ Some xs → length xs < length rs → many length step ks ≡ many length step xs
  on-goes ks rs xs goes e lt = goes ∙ many-goes length step rs xs e lt

  pub on-done : (ks rs : Kinds) → many length step ks ≡ many length step rs → step rs ≡ None → rs ≡ many length step ks
  on-done ks rs goes e = sym (goes ∙ many-stops length step rs e)

-- ---- expressions that were read

module _ (file : ℕ) (e : Expr) (tokens rest : List Token) (spells : Spells file (expr_pieces e) tokens rest) where
  pub last-is : last_read (kinds_of tokens) (kinds_of rest) ≡ last_of e
  last-is = ap (λ ks. last_read ks (kinds_of rest)) (spells-onto file (expr_pieces e) tokens rest spells) ∙ last-law e (kinds_of rest)

  pub check-is : begins_with_check (kinds_of tokens) ≡ (expr_facts e).begins_with_check
  check-is = ap begins_with_check (spells-onto file (expr_pieces e) tokens rest spells) ∙ checks-law e (kinds_of rest)

  module _ (reads : expr (kinds_of tokens) ≡ Some (kinds_of rest)) where
    pub call-here : (b : Bool) → is_call (last_of e) ≡ b → call (kinds_of tokens) ≡ (if b then Some (kinds_of rest) else None)
    call-here b h =
        ap (λ o. o >>= λ a. if is_call (last_read (kinds_of tokens) a) then Some a else None) reads
        ∙ ap (λ l. if is_call l then Some (kinds_of rest) else None) last-is ∙ ap (λ c. if c then Some (kinds_of rest) else None) h

    pub target-here : (b : Bool) → is_target (last_of e) ≡ b → target (kinds_of tokens) ≡ (if b then Some (kinds_of rest) else None)
    target-here b h =
        ap (λ o. o >>= λ a. if is_target (last_read (kinds_of tokens) a) then Some a else None) reads
        ∙ ap (λ l. if is_target l then Some (kinds_of rest) else None) last-is ∙ ap (λ c. if c then Some (kinds_of rest) else None) h

-- ---- up to a semicolon

pub led-none : (ks : Kinds) → semicolon 0 ks ≡ None → led ks ≡ None
unfolding led
led-none ks e = ap (λ o. o >>= λ end. led_by (first_mark true 0 ks) ks >>= up_to end) e

module _ (ks end : Kinds) (is : semicolon 0 ks ≡ Some end) where
  pub led-through : (o : Option Kinds) → led_by (first_mark true 0 ks) ks ≡ o → led ks ≡ (o >>= up_to end)
  unfolding led
  led-through o e = ap (λ q. q >>= λ end. led_by (first_mark true 0 ks) ks >>= up_to end) is ∙ ap (λ q. q >>= up_to end) e

  pub led-elsewhere : (rest : Kinds) → led_by (first_mark true 0 ks) ks ≡ Some rest → (length rest ≡ length end → ⊥) → led ks ≡ None
  led-elsewhere rest e no_same =
      led-through (Some rest) e
      ∙ elim (cases_Bool (length rest == length end)) [
        | inl same ↦ absurd (no_same (eqb-true (length rest) (length end) same))
        | inr other ↦ ap (λ b. if b then Some end else None) other
      ]

  pub led-there : (rest : Kinds) → led_by (first_mark true 0 ks) ks ≡ Some rest → length rest ≡ length end → rest ≡ end → led ks ≡ Some rest
  led-there rest e same is_end = led-through (Some rest) e ∙ ap (λ b. if b then Some end else None) (eq-eqb (length rest) (length end) same) ∙ ap Some (sym is_end)

-- what follows the semicolon is the end of the tokens
behind-ends : (xs ks : Kinds) (o : Option ℕ) → ((d : ℕ) → semicolon d xs ≡ Some ks → (front : Kinds) × (xs ≡ front ++ ks)) → option_and_then (λ d. semicolon d xs) o ≡ Some ks → (front : Kinds) × (xs ≡ front ++ ks)
behind-ends xs ks None h e = cc e
behind-ends xs ks (Some d) h e = h d e

here-ends : (b : Bool) (o : Option ℕ) (xs ks : Kinds) → ((d : ℕ) → semicolon d xs ≡ Some ks → (front : Kinds) × (xs ≡ front ++ ks)) → (if b then Some xs else option_and_then (λ d. semicolon d xs) o) ≡ Some ks → (front : Kinds) × (xs ≡ front ++ ks)
here-ends true o xs ks h e = let same : xs ≡ ks = cc e in ([], same)
here-ends false o xs ks h e = behind-ends xs ks o h e

pub semicolon-ends : (d : ℕ) (xs ks : Kinds) → semicolon d xs ≡ Some ks → (front : Kinds) × (xs ≡ front ++ ks)
semicolon-ends d [] ks e = cc e
semicolon-ends d (k ∷ xs) ks e =
    let r = here-ends (is_semicolon k && is_outside d) (depth_behind k d) xs ks (λ d. semicolon-ends d xs ks) e in
    (k ∷ r.0, ap (λ (ys : Kinds). k ∷ ys) r.1)

pub same-ends : (xs ys a b : Kinds) → xs ++ a ≡ ys ++ b → length a ≡ length b → a ≡ b
same-ends [] [] a b e h = e
same-ends [] (y ∷ ys) a b e h = absurd (let size = ap length e in let l = length-append ys b in omega arith)
same-ends (x ∷ xs) [] a b e h = absurd (let size = ap length e in let l = length-append xs a in omega arith)
same-ends (x ∷ xs) (y ∷ ys) a b e h = let tails : xs ++ a ≡ ys ++ b = cc e in same-ends xs ys a b tails h

-- ---- inside others

no_more-passes : (ks a : Kinds) → length a ≤ length ks → no_more ks (Some a) ≡ Some a
no_more-passes ks a h = rw (le-leb (length a) (length ks) h) refl

pub inside-leaves : {T : Type 0} (n : ℕ) (is_if : Bool) (tokens : List Token) (r : Result (T × Bor (List Token)) (Stop Missing)) → n ≢ 0 → Leaves (if_or_block (inside (n - 1)) is_if (kinds_of tokens)) r → IfOk r (λ x. length x.1.now < length tokens) → Leaves (inside n is_if (kinds_of tokens)) r
inside-leaves zero is_if tokens r some h less = absurd (some refl)
inside-leaves (suc n) is_if tokens (Ok x) some h less =
    let same : suc n - 1 ≡ n = omega arith in
    ap (no_more (kinds_of tokens)) (subst (λ m. if_or_block (inside m) is_if (kinds_of tokens) ≡ Some (kinds_of x.1.now)) same h)
    ∙ no_more-passes (kinds_of tokens) (kinds_of x.1.now) (let a = length-kinds x.1.now in let b = length-kinds tokens in omega arith)
inside-leaves (suc n) is_if tokens (Err (Fault f)) some h less =
    let same : suc n - 1 ≡ n = omega arith in
    ap (no_more (kinds_of tokens)) (subst (λ m. if_or_block (inside m) is_if (kinds_of tokens) ≡ None) same h)
inside-leaves (suc n) is_if tokens (Err Memory) some h less = tt

pub shorter-of : {T : Type 0} (formed : T → Bool) (pieces : T → Pieces) (file : ℕ) (tokens : List Token) (r : Result (T × Bor (List Token)) (Stop Missing)) → IfOk r (λ x. Reading (formed x.0) (pieces x.0) file tokens x.1.now) → IfOk r (λ x. length x.1.now < length tokens)
shorter-of formed pieces file tokens (Ok x) h = h.shorter
shorter-of formed pieces file tokens (Err e) h = tt
