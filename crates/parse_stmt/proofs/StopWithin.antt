-- The last place within one statement at which another one is wanting.
use Rattle.std.proofs.Common.{◌≡◌, ℕ, ◌<◌, ◌≤◌, Bool, true, false, List, [], ◌∷◌, length, Option, None, Some, IfSome, Result, Ok, Err, IfOk, Bor, refl, sym, ap, ◌∙◌, subst, arith, inl, inr}
use Rattle.std.specs.Global.{Vec}
use Rattle.std.specs.Prelude.{◌⊎◌, is_some, not}
use Rattle.std.specs.Option.{option_map}
use Rattle.std.specs.Ptr.{null_ptr}
use Rattle.std.proofs.lemmas.Bool.{false≢true}
use Rattle.bal_base.specs.declared.stop.Memory.{Memory}
use Rattle.bal_base.specs.declared.token.Keyword.TheVariants.{If as IfKey, Else as ElseKey, Worker as WorkerKey}
use Rattle.bal_base.specs.declared.token.Sign.TheVariants.{OpenBrace, CloseBrace}
use Rattle.bal_base.specs.declared.token.Token.{Token}
use Rattle.bal_base.specs.declared.token.TokenKind.TheVariants.{Keyword as KeywordKind, Sign as SignKind}
use Rattle.bal_tree.specs.declared.stmt.Block.{Block, Block-F, roll-Block}
use Rattle.bal_tree.specs.declared.stmt.Clause.{Clause}
use Rattle.bal_tree.specs.declared.stmt.Else.TheOpen as layer
use Rattle.bal_tree.specs.declared.stmt.Else.{Else, Else-F, roll-Else, out-Else, roll-out-Else}
use Rattle.bal_tree.specs.declared.stmt.IfStmt.{IfStmt}
use Rattle.bal_tree.specs.declared.stmt.Stmt.{Stmt, roll-Stmt}
use Rattle.bal_tree.specs.Spells.{Heads, Spells, first_place, kinds_of, onto}
use Rattle.bal_tree.specs.StmtPieces.{else_pieces, stmt_pieces, writing}
use Rattle.bal_tree.specs.StmtRules.{block_is_formed, else_is_formed, forming, stmt_is_formed}
use Rattle.token_steps.specs.Tokens.{Kinds, take_key}
use Rattle.parse_types.proofs.Law.{both_pass}
use Rattle.parse_types.proofs.Readings.{both-true, length-kinds}
use Rattle.parse_stmt.specs.Reaches.{begins_mapping, brace_stmt, goes_on, inside, led, stmt}
use Rattle.parse_stmt.specs.Starts.{ends_stmts}
use Rattle.parse_stmt.specs.inner.Stops.{BracesThere, EndsAtElse, EndsWanting, IsBehindBraces, IsKept, IsLastElse, IsRead, IsStopWithin, MayEnd, NoStmt, StartsElse}
use Rattle.parse_stmt.proofs.ElseLaw.{as-if}
use Rattle.parse_stmt.proofs.ElseStops.{heads-kinds}
use Rattle.parse_stmt.proofs.FormTree.{led-of}
use Rattle.parse_stmt.proofs.Going.{GoesOnBehind, ReadBehind, StepAt, empty-block}
use Rattle.parse_stmt.proofs.Known.{Known}
use Rattle.parse_stmt.proofs.StmtLaw.{stmt-law}
use Rattle.parse_stmt.proofs.StmtRolls.{rolled-block, rolled-else, rolled-stmt}

-- where an expression goes on, statements don't end
goes-no-end : (ks : Kinds) → goes_on ks ≡ true → ends_stmts ks ≡ false
goes-no-end [] h = cc h
goes-no-end (SignKind CloseBrace ∷ ks) h = cc h
goes-no-end (KeywordKind WorkerKey ∷ ks) h = cc h
goes-no-end (k ∷ ks) h = refl

-- empty braces that end no earlier
pub braces-late : (tokens inner rest after : List Token) → Heads (SignKind OpenBrace) tokens inner → Heads (SignKind CloseBrace) inner rest → length rest ≤ length after → IsBehindBraces tokens after None
braces-late tokens inner rest after opens closes less ks e =
    let both : SignKind OpenBrace ∷ SignKind CloseBrace ∷ kinds_of rest ≡ SignKind OpenBrace ∷ SignKind CloseBrace ∷ ks =
    sym (heads-kinds (SignKind OpenBrace) tokens inner opens ∙ ap (λ xs. SignKind OpenBrace ∷ xs) (heads-kinds (SignKind CloseBrace) inner rest closes)) ∙ e in
    let size = ap length both in
    let l = length-kinds rest in omega arith

pub key-there : (o : Option (Bor (List Token))) (x : Option Kinds) (b : Bool) → option_map (λ r. kinds_of r.now) o ≡ x → b ≡ is_some o → is_some x ≡ b
key-there None x b e h = ap is_some (sym e) ∙ sym h
key-there (Some r) x b e h = ap is_some (sym e) ∙ sym h

-- ---- statements that end early

-- what stands behind `else`, as a statement
as-stmt : (e : Else) → (s : Stmt) × (stmt_pieces s ≡ else_pieces e) × (else_is_formed e ≡ true → stmt_is_formed s ≡ true)
as-stmt e = subst (λ x. (s : Stmt) × (stmt_pieces s ≡ else_pieces x) × (else_is_formed x ≡ true → stmt_is_formed s ≡ true)) (roll-out-Else e) (by (out-Else e))
  where
    by : (x : Else-F Else Stmt Block Clause IfStmt) → (s : Stmt) × (stmt_pieces s ≡ else_pieces (roll-Else x)) × (else_is_formed (roll-Else x) ≡ true → stmt_is_formed s ≡ true)
    by (layer.«Else::If» s) =
        let x = layer.«Stmt::If» s in
        (roll-Stmt x, rolled-stmt writing x ∙ sym (rolled-else writing (layer.«Else::If» s)), λ f. rolled-stmt forming x ∙ sym (rolled-else forming (layer.«Else::If» s)) ∙ f)
    by (layer.«Else::Block» b) =
        let x = layer.«Stmt::Block» b in
        (roll-Stmt x, rolled-stmt writing x ∙ sym (rolled-else writing (layer.«Else::Block» b)), λ f. rolled-stmt forming x ∙ sym (rolled-else forming (layer.«Else::Block» b)) ∙ f)

abbrev no-stmts : Vec Stmt
no-stmts = record { ptr = null_ptr; len = 0; cap = 0; alloc = record { memory = _ }; items = []; ok = (refl, omega arith); small = omega arith }

module _ (known : Known) where
  -- no statement begins with `else`
  pub no-else-stmt : (ks : Kinds) → StartsElse ks → NoStmt ks
  no-else-stmt ks starts s behind f e =
      let none = ((stmt-law known s f).ready behind).no_else in
      let both : Some starts.0 ≡ None = sym (ap (take_key ElseKey) starts.1) ∙ ap (take_key ElseKey) e ∙ none in cc both

  -- nor where an expression goes on and no statement of its own stands there
  no-led-stmt : (ks : Kinds) → goes_on ks ≡ true → led ks ≡ None → NoStmt ks
  no-led-stmt ks goes none s behind f e =
      let both : None ≡ Some behind = sym none ∙ ap led e ∙ led-of known s behind f (ap goes_on (sym e) ∙ goes) in cc both

  module _ (room file : ℕ) (tokens after : List Token) (read : IsRead room file tokens after) (fits : length tokens < room) where
    step-at : (s : Stmt) (ks : Kinds) → stmt_is_formed s ≡ true → kinds_of tokens ≡ onto (stmt_pieces s) ks → StepAt room (kinds_of tokens) ks
    step-at s ks f e =
        let l = length-kinds tokens in
        let size = ap length e in
        subst (λ xs. StepAt room xs ks) (sym e) ((stmt-law known s f).step room ks (omega arith))

    left-is : (left : Kinds) → stmt (inside room) (kinds_of tokens) ≡ Some left → left ≡ kinds_of after
    left-is left e = let both : Some left ≡ Some (kinds_of after) = sym e ∙ read.end in cc both

    -- ---- if statements

    else-found : (last : Option (Bor (List Token))) → IfSome last (λ rest. EndsAtElse file tokens rest.now) → IfSome last (λ rest. EndsWanting file tokens rest.now)
    else-found None h = tt
    else-found (Some rest) h =
        let s = as-stmt h.tree in
        record {
          statement = s.0;
          formed = s.2 h.formed;
          spells = subst (λ p. Spells file p tokens rest.now) (sym s.1) h.spells;
          goes_on = ap ends_stmts h.before.1;
          no_stmt = no-else-stmt (kinds_of rest.now) h.before;
        }

    pub within-if : (last : Option (Bor (List Token))) → is_some (take_key IfKey (kinds_of tokens)) ≡ true → IsLastElse file tokens after last → IsStopWithin file tokens after last
    within-if last is_if h = record { found = else-found last h.found; before = h.before; others = others }
      where
        by : (ks : Kinds) → (ks ≡ kinds_of after) ⊎ (IsKept last ks × StartsElse ks) → MayEnd after last ks
        by ks (inl e) = inl e
        by ks (inr k) = inr (inr (k.0, no-else-stmt ks k.1))

        others : (s : Stmt) (ks : Kinds) → stmt_is_formed s ≡ true → kinds_of tokens ≡ onto (stmt_pieces s) ks → MayEnd after last ks
        others s ks f e =
            let t = as-if known s ks f (ap (λ xs. is_some (take_key IfKey xs)) (sym e) ∙ is_if) in
            by ks (h.others t.tree ks t.formed (e ∙ t.is))

    pub answer-if : (r : Result (Option (Bor (List Token))) Memory) (o : Option (Bor (List Token))) → option_map (λ r. kinds_of r.now) o ≡ take_key IfKey (kinds_of tokens) → true ≡ is_some o → IfOk r (λ last. IsLastElse file tokens after last) → IfOk r (λ stop. IsStopWithin file tokens after stop)
    answer-if (Ok last) o e some h = within-if last (key-there o (take_key IfKey (kinds_of tokens)) true e some) h
    answer-if (Err m) o e some h = tt

    -- ---- empty braces

    braces-kinds : (rest : List Token) → BracesThere tokens after rest → kinds_of tokens ≡ SignKind OpenBrace ∷ SignKind CloseBrace ∷ kinds_of rest
    braces-kinds rest h =
        heads-kinds (SignKind OpenBrace) tokens h.inside_braces h.opens ∙ ap (λ ks. SignKind OpenBrace ∷ ks) (heads-kinds (SignKind CloseBrace) h.inside_braces rest h.closes)

    -- where the statement goes on behind them, an expression does, and no statement of its own begins there
    goes-behind : (zs : Kinds) → kinds_of tokens ≡ SignKind OpenBrace ∷ SignKind CloseBrace ∷ zs → length after < length zs → (goes_on zs ≡ true) × (led zs ≡ None)
    goes-behind zs e longer = test (begins_mapping (SignKind CloseBrace ∷ zs)) refl
      where
        no-led : (o : Option Kinds) → not (is_some o) ≡ true → o ≡ None
        no-led None h = refl
        no-led (Some a) h = cc h

        test : (b : Bool) → begins_mapping (SignKind CloseBrace ∷ zs) ≡ b → (goes_on zs ≡ true) × (led zs ≡ None)
        test true is = let b = both_pass (goes_on zs) (not (is_some (led zs))) is in (b.0, no-led (led zs) b.1)
        test false is =
            let same : zs ≡ kinds_of after =
            left-is zs (ap (stmt (inside room)) e ∙ ap (λ b. brace_stmt (inside room) b (SignKind OpenBrace ∷ SignKind CloseBrace ∷ zs)) is ∙ empty-block room zs (omega arith)) in
            let size = ap length same in
            let l = length-kinds after in
            absurd (omega arith)

    abbrev empty : List Token → Block-F Else Stmt Block Clause IfStmt
    empty inner = record { stmts = no-stmts; close = first_place file inner; at = first_place file tokens }

    braces-found : (stop : Option (Bor (List Token))) → IsBehindBraces tokens after stop → IfSome stop (λ rest. EndsWanting file tokens rest.now)
    braces-found None h = tt
    braces-found (Some rest) h =
        let b = roll-Block (empty h.inside_braces) in
        let x = layer.«Stmt::Block» b in
        let l = h.longer in
        let k = length-kinds rest.now in
        let goes = goes-behind (kinds_of rest.now) (braces-kinds rest.now h) (omega arith) in
        record {
          statement = roll-Stmt x;
          formed = rolled-stmt forming x ∙ both-true (block_is_formed b) true (rolled-block forming (empty h.inside_braces)) refl;
          spells =
              subst (λ p. Spells file p tokens rest.now) (sym (rolled-stmt writing x ∙ rolled-block writing (empty h.inside_braces)))
              (tokens, (refl, refl), (h.inside_braces, h.opens, (h.inside_braces, refl, (h.inside_braces, (refl, refl), h.closes))));
          goes_on = goes-no-end (kinds_of rest.now) goes.0;
          no_stmt = no-led-stmt (kinds_of rest.now) goes.0 goes.1;
        }

    braces-before : (stop : Option (Bor (List Token))) → IsBehindBraces tokens after stop → IfSome stop (λ rest. length after < length rest.now)
    braces-before None h = tt
    braces-before (Some rest) h = h.longer

    braces-kept : (stop : Option (Bor (List Token))) → IsBehindBraces tokens after stop → (left ks : Kinds) → left ≡ kinds_of after → GoesOnBehind (kinds_of tokens) left ks → IsKept stop ks
    braces-kept None h left ks same m =
        let less = h ks m.braces in
        let longer = m.longer in
        let size = ap length same in
        let l = length-kinds after in absurd (omega arith)
    braces-kept (Some rest) h left ks same m =
        let both : SignKind OpenBrace ∷ SignKind CloseBrace ∷ kinds_of rest.now ≡ SignKind OpenBrace ∷ SignKind CloseBrace ∷ ks = sym (braces-kinds rest.now h) ∙ m.braces in
        let size = ap length both in
        let l = length-kinds rest.now in omega arith

    pub within-braces : (stop : Option (Bor (List Token))) → is_some (take_key IfKey (kinds_of tokens)) ≡ false → IsBehindBraces tokens after stop → IsStopWithin file tokens after stop
    within-braces stop no_if h = record {
      found = braces-found stop h;
      before = braces-before stop h;
      others = λ s ks f e. let at = step-at s ks f e in by ks at.left (left-is at.left at.is) at.ends;
    }
      where
        by : (ks left : Kinds) → left ≡ kinds_of after → (ks ≡ left) ⊎ ((is_some (take_key IfKey (kinds_of tokens)) ≡ true) ⊎ (GoesOnBehind (kinds_of tokens) left ks ⊎ ReadBehind (kinds_of tokens) left ks)) → MayEnd after stop ks
        by ks left same (inl e) = inl (e ∙ same)
        by ks left same (inr (inl is_if)) = absurd (false≢true (sym no_if ∙ is_if))
        by ks left same (inr (inr (inl m))) = inr (inr (braces-kept stop h left ks same m, no-led-stmt ks m.goes m.no_stmt))
        by ks left same (inr (inr (inr r))) = inr (inl (ap goes_on (sym same) ∙ r.goes, ap led (sym same) ∙ r.own))
