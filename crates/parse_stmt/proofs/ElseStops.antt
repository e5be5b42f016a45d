-- The last `else` of an if statement: the loop from one to the next.
use Rattle.std.proofs.Common.{◌≡◌, ℕ, ◌<◌, ◌≤◌, true, false, ◌&&◌, List, ◌∷◌, length, Option, None, Some, IfSome, Bor, refl, sym, ap, ◌∙◌, subst, arith, inl, inr}
use Rattle.std.specs.Global.{Box}
use Rattle.std.specs.Prelude.{◌⊎◌, is_some}
use Rattle.bal_base.specs.declared.token.Keyword.TheVariants.{If as IfKey, Else as ElseKey}
use Rattle.bal_base.specs.declared.token.Token.{Token}
use Rattle.bal_base.specs.declared.token.TokenKind.{TokenKind}
use Rattle.bal_base.specs.declared.token.TokenKind.TheVariants.{Keyword as KeywordKind}
use Rattle.bal_tree.specs.declared.stmt.Else.TheOpen as layer
use Rattle.bal_tree.specs.declared.stmt.Else.{Else, roll-Else}
use Rattle.bal_tree.specs.declared.stmt.IfStmt.{IfStmt, roll-IfStmt}
use Rattle.bal_tree.specs.ExprRules.{expr_is_formed}
use Rattle.bal_tree.specs.Spells.{Heads, Spells, first_place, kinds_of, onto}
use Rattle.bal_tree.specs.StmtPieces.{else_pieces, if_pieces, stmt_pieces, writing}
use Rattle.bal_tree.specs.StmtRules.{block_is_formed, else_is_formed, forming, if_is_formed}
use Rattle.bal_tree.proofs.Spelling.{spells-onto}
use Rattle.parse_types.specs.Loops.{◌>>=◌}
use Rattle.token_steps.specs.Tokens.{Kinds, take_key}
use Rattle.parse_types.proofs.Law.{both_pass}
use Rattle.parse_types.proofs.Onto.{onto-longer}
use Rattle.parse_types.proofs.Readings.{both-true, length-kinds}
use Rattle.parse_expr.specs.Reaches.{expr}
use Rattle.parse_stmt.specs.Reaches.{if_stmt, inside, stmt, then_part}
use Rattle.parse_stmt.specs.inner.Stops.{ElseThere, EndsAtElse, IsKept, IsLastElse, IsNextElse, IsRead, StartsElse}
use Rattle.parse_stmt.proofs.ElseLaw.{Apart, AsIf, ThenElse, an_if, as-if, else-apart}
use Rattle.parse_stmt.proofs.Known.{Known}
use Rattle.parse_stmt.proofs.StmtLaw.{if-law}
use Rattle.parse_stmt.proofs.StmtRolls.{rolled-else, rolled-if_stmt}

-- what is at the head
pub heads-kinds : (k : TokenKind) (tokens rest : List Token) → Heads k tokens rest → kinds_of tokens ≡ k ∷ kinds_of rest
heads-kinds k tokens rest h = ap kinds_of h.splits ∙ ap (λ x. x ∷ kinds_of rest) h.is

-- an if statement or a block ends there
record EndsThere (file : ℕ) (tokens rest : List Token) : Type 0 where
  tree : Else
  formed : else_is_formed tree ≡ true
  spells : Spells file (else_pieces tree) tokens rest

-- these tokens are those of what may stand behind `else`
record IsElse (xs ks : Kinds) : Type 0 where
  tree : Else
  formed : else_is_formed tree ≡ true
  is : xs ≡ onto (else_pieces tree) ks

-- the loop has come to the rest: what ends behind it ends behind the whole, and what ends before it was found
pub record Passed (file : ℕ) (tokens after : List Token) (last : Option (Bor (List Token))) (rest : List Token) : Type 0 where
  no_longer : length rest ≤ length tokens
  wraps : (tree : Else) (end : List Token) → else_is_formed tree ≡ true → Spells file (else_pieces tree) rest end → EndsThere file tokens end
  found : IfSome last (λ at. EndsAtElse file tokens at.now)
  before : IfSome last (λ at. length after < length at.now)
  behind : IfSome last (λ at. length rest ≤ length at.now)
  others : (s : IfStmt) (ks : Kinds) → if_is_formed s ≡ true → kinds_of tokens ≡ onto (if_pieces s) ks → IsElse (kinds_of rest) ks ⊎ (IsKept last ks × StartsElse ks)

-- an if statement as what stands behind `else`
as-else : (s : IfStmt) → (else_pieces (roll-Else (layer.«Else::If» s)) ≡ if_pieces s) × (if_is_formed s ≡ true → else_is_formed (roll-Else (layer.«Else::If» s)) ≡ true)
as-else s = (rolled-else writing (layer.«Else::If» s), λ f. rolled-else forming (layer.«Else::If» s) ∙ both-true (if_is_formed s) true f refl)

pub none-passed : (file : ℕ) (tokens after : List Token) → Passed file tokens after None tokens
none-passed file tokens after = record {
  no_longer = omega arith;
  wraps = λ tree end f s. record { tree = tree; formed = f; spells = s };
  found = tt;
  before = tt;
  behind = tt;
  others = λ s ks f e. inl record { tree = roll-Else (layer.«Else::If» s); formed = (as-else s).1 f; is = e ∙ ap (λ p. onto p ks) (sym (as-else s).0) };
}

kept-on : (last : Option (Bor (List Token))) (rest : List Token) (at : Bor (List Token)) (ks : Kinds) → IfSome last (λ z. length rest ≤ length z.now) → length at.now < length rest → IsKept last ks → length at.now ≤ length ks
kept-on None rest at ks b lt k = absurd k
kept-on (Some z) rest at ks b lt k = omega (arith, b, lt, k)

module _ (known : Known) (room file : ℕ) (tokens after : List Token) where
  apart : (rest : List Token) (ks : Kinds) → IsElse (kinds_of rest) ks → length rest < room → Apart room (kinds_of rest) ks
  apart rest ks e fits =
      let size = ap length e.is in
      let same = length-kinds rest in
      subst (λ xs. Apart room xs ks) (sym e.is) (else-apart known e.tree room ks e.formed (omega arith))

  no-then : (xs ks : Kinds) → take_key IfKey xs ≡ None → then_part (inside room) xs ≡ Some ks → ⊥
  no-then xs ks none e = let both : None ≡ Some ks = sym (ap (λ o. o >>= expr >>= inside room false) none) ∙ e in cc both

  -- ---- one `else` more

  module _ (rest behind : List Token) (at : Bor (List Token)) (there : ElseThere room file rest after at.now behind) where
    abbrev if_so : Option (Box Else) → IfStmt
    if_so otherwise = roll-IfStmt (an_if known there.condition there.then otherwise (first_place file rest))

    then-formed : (expr_is_formed there.condition.value false ≡ true) × (block_is_formed there.then ≡ true)
    then-formed = both_pass (expr_is_formed there.condition.value false) (block_is_formed there.then) there.reads.formed

    -- the if statement that ends before the `else`
    alone : EndsThere file rest at.now
    alone =
        let s = if_so None in
        let f = then-formed in
        record {
          tree = roll-Else (layer.«Else::If» s);
          formed = (as-else s).1 (rolled-if_stmt forming (an_if known there.condition there.then None (first_place file rest)) ∙ both-true (expr_is_formed there.condition.value false) (block_is_formed there.then && true) f.0 (both-true (block_is_formed there.then) true f.1 refl));
          spells =
              let r = there.reads.spells in
              subst (λ p. Spells file p rest at.now) (sym ((as-else s).0 ∙ rolled-if_stmt writing (an_if known there.condition there.then None (first_place file rest))))
              (rest, (refl, refl), (r.0, r.1, (r.2.0, r.2.1, (at.now, r.2.2, refl))));
        }

    -- and one with what stands behind it
    with-else : (tree : Else) (end : List Token) → else_is_formed tree ≡ true → Spells file (else_pieces tree) behind end → EndsThere file rest end
    with-else tree end g spells =
        let box : Box Else = record { ptr = there.condition.ptr; alloc = there.condition.alloc; value = tree } in
        let s = if_so (Some box) in
        let f = then-formed in
        record {
          tree = roll-Else (layer.«Else::If» s);
          formed = (as-else s).1 (rolled-if_stmt forming (an_if known there.condition there.then (Some box) (first_place file rest)) ∙ both-true (expr_is_formed there.condition.value false) (block_is_formed there.then && (else_is_formed tree && true)) f.0 (both-true (block_is_formed there.then) (else_is_formed tree && true) f.1 (both-true (else_is_formed tree) true g refl)));
          spells =
              let r = there.reads.spells in
              subst (λ p. Spells file p rest end) (sym ((as-else s).0 ∙ rolled-if_stmt writing (an_if known there.condition there.then (Some box) (first_place file rest))))
              (rest, (refl, refl), (r.0, r.1, (r.2.0, r.2.1, (at.now, r.2.2, (behind, there.heads, spells)))));
        }

    others-more : (last : Option (Bor (List Token))) (ks : Kinds) → IfSome last (λ z. length rest ≤ length z.now) → length rest < room → IsElse (kinds_of rest) ks ⊎ (IsKept last ks × StartsElse ks) → IsElse (kinds_of behind) ks ⊎ (IsKept (Some at) ks × StartsElse ks)
    others-more last ks b fits (inr k) = inr (kept-on last rest at ks b there.reads.shorter k.0, k.1)
    others-more last ks b fits (inl e) = by (apart rest ks e fits)
      where
        head : kinds_of at.now ≡ KeywordKind ElseKey ∷ kinds_of behind
        head = heads-kinds (KeywordKind ElseKey) at.now behind there.heads

        by : Apart room (kinds_of rest) ks → IsElse (kinds_of behind) ks ⊎ (IsKept (Some at) ks × StartsElse ks)
        by (inl block) = absurd (no-then (kinds_of rest) (kinds_of at.now) block.0 there.end)
        by (inr (inl ends)) =
            let both : Some (kinds_of at.now) ≡ Some ks = sym there.end ∙ ends in
            let same : kinds_of at.now ≡ ks = cc both in
            let size = ap length same in
            let l = length-kinds at.now in
            inr (omega arith, (kinds_of behind, sym same ∙ head))
        by (inr (inr more)) =
            let both : Some (KeywordKind ElseKey ∷ kinds_of behind) ≡ Some (KeywordKind ElseKey ∷ more.behind) = ap Some (sym head) ∙ sym there.end ∙ more.end in
            let same : kinds_of behind ≡ more.behind = cc both in
            inl record { tree = more.tree; formed = more.formed; is = same ∙ more.is }

    pub more-passed : (last : Option (Bor (List Token))) → length tokens < room → Passed file tokens after last rest → Passed file tokens after (Some at) behind
    more-passed last fits old =
        let size = ap length there.heads.splits in
        let less = there.reads.shorter in
        let no_longer = old.no_longer in
        record {
          no_longer = omega arith;
          wraps = λ tree end f s. let u = with-else tree end f s in old.wraps u.tree end u.formed u.spells;
          found =
              let u = old.wraps alone.tree at.now alone.formed alone.spells in
              record { tree = u.tree; formed = u.formed; spells = u.spells; before = (kinds_of behind, heads-kinds (KeywordKind ElseKey) at.now behind there.heads) };
          before = there.longer;
          behind = omega arith;
          others = λ s ks f e. others-more last ks old.behind (omega arith) (old.others s ks f e);
        }

  -- ---- the end

  module _ (read : IsRead room file tokens after) (is_if : is_some (take_key IfKey (kinds_of tokens)) ≡ true) (fits : length tokens < room) where
    tokens-are : kinds_of tokens ≡ onto (stmt_pieces read.statement) (kinds_of after)
    tokens-are = spells-onto file (stmt_pieces read.statement) tokens after read.reads.spells

    -- what the reader took
    whole : AsIf (kinds_of tokens) (kinds_of after)
    whole = subst (λ xs. AsIf xs (kinds_of after)) (sym tokens-are) (as-if known read.statement (kinds_of after) read.reads.formed (ap (λ xs. is_some (take_key IfKey xs)) (sym tokens-are) ∙ is_if))

    -- no if statement goes further
    furthest : (s : IfStmt) (ks : Kinds) → if_is_formed s ≡ true → kinds_of tokens ≡ onto (if_pieces s) ks → length after ≤ length ks
    furthest s ks f e =
        let at = if-law known s f in
        let o = at.opens ks in
        let l = length-kinds tokens in
        let size = ap length e in
        let r = at.reaches room ks (omega arith) in
        let both : Some (kinds_of after) ≡ Some r.left = sym read.end ∙ ap (stmt (inside room)) (e ∙ o.1) ∙ ap (if_stmt (inside room)) (sym o.1) ∙ r.is in
        let same : kinds_of after ≡ r.left = cc both in
        let same_size = ap length same in
        let k = length-kinds after in
        let less = r.no_more in
        omega arith

    module _ (last : Option (Bor (List Token))) (rest : List Token) (old : Passed file tokens after last rest) (none : IsNextElse room file rest after None) where
      not-kept : (o : Option (Bor (List Token))) → IfSome o (λ at. length after < length at.now) → IsKept o (kinds_of after) → ⊥
      not-kept None b k = k
      not-kept (Some z) b k = let l = length-kinds after in absurd (omega (arith, b, k))

      -- the one that was taken ends behind the rest too
      taken : IsElse (kinds_of rest) (kinds_of after) ⊎ (IsKept last (kinds_of after) × StartsElse (kinds_of after)) → IsElse (kinds_of rest) (kinds_of after)
      taken (inl e) = e
      taken (inr k) = absurd (not-kept last old.before k.0)

      no-else : (ks : Kinds) → ThenElse room (kinds_of rest) ks → length after ≤ length ks → ⊥
      no-else ks more far =
          let less = none (KeywordKind ElseKey ∷ more.behind) more.end (more.behind, refl) in
          let size = ap length more.is in
          let l = onto-longer (else_pieces more.tree) ks in
          absurd (omega arith)

      one-end : (ks : Kinds) → length after ≤ length ks → Apart room (kinds_of rest) ks → Apart room (kinds_of rest) (kinds_of after) → ks ≡ kinds_of after
      one-end ks far (inl a) (inl b) = let both : Some ks ≡ Some (kinds_of after) = sym a.1 ∙ b.1 in cc both
      one-end ks far (inl a) (inr (inl b)) = absurd (no-then (kinds_of rest) (kinds_of after) a.0 b)
      one-end ks far (inl a) (inr (inr b)) = absurd (no-then (kinds_of rest) (KeywordKind ElseKey ∷ b.behind) a.0 b.end)
      one-end ks far (inr (inl a)) (inl b) = absurd (no-then (kinds_of rest) ks b.0 a)
      one-end ks far (inr (inl a)) (inr (inl b)) = let both : Some ks ≡ Some (kinds_of after) = sym a ∙ b in cc both
      one-end ks far (inr (inl a)) (inr (inr b)) = absurd (no-else (kinds_of after) b (let l = length-kinds after in omega arith))
      one-end ks far (inr (inr a)) b = absurd (no-else ks a far)

      ends : (s : IfStmt) (ks : Kinds) → if_is_formed s ≡ true → kinds_of tokens ≡ onto (if_pieces s) ks → IsElse (kinds_of rest) ks ⊎ (IsKept last ks × StartsElse ks) → (ks ≡ kinds_of after) ⊎ (IsKept last ks × StartsElse ks)
      ends s ks f e (inr k) = inr k
      ends s ks f e (inl u) =
          let no_longer = old.no_longer in
          let v = taken (old.others whole.tree (kinds_of after) whole.formed whole.is) in
          inl (one-end ks (furthest s ks f e) (apart rest ks u (omega arith)) (apart rest (kinds_of after) v (omega arith)))

      pub all-passed : IsLastElse file tokens after last
      all-passed = record { found = old.found; before = old.before; others = λ s ks f e. ends s ks f e (old.others s ks f e) }
