-- The last place in the body of a function at which a statement is wanting: the loop over its statements.
use Rattle.std.proofs.Common.{◌≡◌, ℕ, ◌<◌, ◌≤◌, true, false, List, [], ◌∷◌, ◌++◌, length, map, Option, None, Some, IfSome, Bor, refl, sym, ap, ◌∙◌, subst, arith, inl, inr}
use Rattle.std.specs.List.{list_all}
use Rattle.std.specs.Option.{option_or}
use Rattle.std.specs.Prelude.{◌⊎◌}
use Rattle.std.proofs.lemmas.Bool.{false≢true}
use Rattle.bal_base.specs.declared.token.Token.{Token}
use Rattle.bal_tree.specs.declared.stmt.Stmt.{Stmt}
use Rattle.bal_tree.specs.Pieces.{joined}
use Rattle.bal_tree.specs.Spells.{Spells, kinds_of, onto}
use Rattle.bal_tree.specs.StmtPieces.{stmt_pieces}
use Rattle.bal_tree.specs.StmtRules.{stmt_is_formed}
use Rattle.bal_tree.proofs.Spelling.{spells-onto}
use Rattle.token_steps.specs.Tokens.{Kinds}
use Rattle.parse_types.proofs.Commas.{spells-joined}
use Rattle.parse_types.proofs.Law.{both_pass}
use Rattle.parse_types.proofs.Parsing.{rest-place}
use Rattle.parse_types.proofs.Readings.{all-push, length-kinds}
use Rattle.parse_stmt.specs.Reaches.{goes_on, inside, led, stmt}
use Rattle.parse_stmt.specs.Starts.{ends_stmts}
use Rattle.parse_stmt.specs.inner.Stops.{ComeWanting, EndsWanting, IsKept, IsLastStop, IsRead, IsStopWithin, Leads, MayEnd, NoStmt}
use Rattle.parse_stmt.proofs.Going.{goes-led}
use Rattle.parse_stmt.proofs.Known.{Known}
use Rattle.parse_stmt.proofs.StmtLaw.{stmt-law}

-- a statement of its own stands there, which an empty block before it has cut off, and whole statements behind it
record LeadsOn (ks behind : Kinds) : Type 0 where
  goes : goes_on ks ≡ true
  end : Kinds
  own : led ks ≡ Some end
  leads : Leads end behind

-- the loop has come to the rest: where statements end behind it is told by the rest alone, and where they end before it was found
pub record Walked (file : ℕ) (tokens : List Token) (stop : Option (Bor (List Token))) (rest : List Token) : Type 0 where
  pub no_longer : length rest ≤ length tokens
  statements : List Stmt
  formed : list_all stmt_is_formed statements ≡ true
  spells : Spells file (joined (map stmt_pieces statements)) tokens rest
  found : IfSome stop (λ at. ComeWanting file tokens at.now)
  behind : IfSome stop (λ at. length rest ≤ length at.now)
  others : (ks : Kinds) → Leads (kinds_of tokens) ks → NoStmt ks → (Leads (kinds_of rest) ks ⊎ LeadsOn (kinds_of rest) ks) ⊎ IsKept stop ks

pub none-walked : (file : ℕ) (tokens : List Token) → Walked file tokens None tokens
none-walked file tokens = record {
  no_longer = omega arith;
  statements = [];
  formed = refl;
  spells = refl;
  found = tt;
  behind = tt;
  others = λ ks l n. inl (inl l);
}

module _ (known : Known) (room file : ℕ) where
  -- where a statement stands, the reader takes one
  takes : (s : Stmt) (xs ks : Kinds) → stmt_is_formed s ≡ true → xs ≡ onto (stmt_pieces s) ks → length xs < room → (left : Kinds) × (stmt (inside room) xs ≡ Some left)
  takes s xs ks f e fits =
      let size = ap length e in
      let at = (stmt-law known s f).step room ks (omega arith) in
      (at.left, ap (stmt (inside room)) e ∙ at.is)

  takes-own : (xs end : Kinds) → goes_on xs ≡ true → led xs ≡ Some end → stmt (inside room) xs ≡ Some end
  takes-own xs end goes own = goes-led (inside room) xs goes ∙ own

  module _ (tokens rest : List Token) where
    -- ---- one statement more

    module _ (after : List Token) (read : IsRead room file rest after) (stop inner : Option (Bor (List Token))) (old : Walked file tokens stop rest) (within : IsStopWithin file rest after inner) where
      abbrev front : List Stmt
      front = old.statements ++ read.statement ∷ []

      found-more : (o : Option (Bor (List Token))) → IfSome o (λ at. EndsWanting file rest at.now) → IfSome (option_or o stop) (λ at. ComeWanting file tokens at.now)
      found-more None h = old.found
      found-more (Some at) h = record {
        statements = old.statements ++ h.statement ∷ [];
        formed = all-push stmt_is_formed old.statements h.statement old.formed h.formed;
        spells = spells-joined stmt_pieces file old.statements h.statement tokens rest at.now old.spells h.spells;
        goes_on = h.goes_on;
        no_stmt = h.no_stmt;
      }

      behind-old : (o : Option (Bor (List Token))) → IfSome o (λ at. length rest ≤ length at.now) → IfSome o (λ at. length after ≤ length at.now)
      behind-old None h = tt
      behind-old (Some at) h = let less = read.reads.shorter in omega (arith, h)

      behind-more : (o : Option (Bor (List Token))) → IfSome o (λ at. length after < length at.now) → IfSome (option_or o stop) (λ at. length after ≤ length at.now)
      behind-more None h = behind-old stop old.behind
      behind-more (Some at) h = omega (arith, h)

      kept-old : (o p : Option (Bor (List Token))) (ks : Kinds) → IfSome o (λ at. EndsWanting file rest at.now) → IfSome p (λ at. length rest ≤ length at.now) → IsKept p ks → IsKept (option_or o p) ks
      kept-old None p ks h b k = k
      kept-old (Some at) None ks h b k = absurd k
      kept-old (Some at) (Some z) ks h b k = let less = (rest-place file (stmt_pieces h.statement) rest 0 at.now h.spells).0 in omega (arith, b, k)

      kept-new : (o : Option (Bor (List Token))) (ks : Kinds) → IsKept o ks → IsKept (option_or o stop) ks
      kept-new None ks k = absurd k
      kept-new (Some at) ks k = k

      -- behind the first statement
      led-further : (ks : Kinds) (s : Stmt) (more : List Stmt) → stmt_is_formed s ≡ true → list_all stmt_is_formed more ≡ true → MayEnd after inner (onto (joined (map stmt_pieces more)) ks) → (Leads (kinds_of after) ks ⊎ LeadsOn (kinds_of after) ks) ⊎ IsKept (option_or inner stop) ks
      led-further ks s more f g (inl same) = inl (inl record { statements = more; formed = g; is = sym same })
      led-further ks s more f g (inr (inl own)) = inl (inr record { goes = own.0; end = onto (joined (map stmt_pieces more)) ks; own = own.1; leads = record { statements = more; formed = g; is = refl } })
      led-further ks s [] f g (inr (inr k)) = inr (kept-new inner ks k.0)
      led-further ks s (t ∷ more) f g (inr (inr k)) = absurd (k.1 t (onto (joined (map stmt_pieces more)) ks) (both_pass (stmt_is_formed t) (list_all stmt_is_formed more) g).0 refl)

      leads-more : (ks : Kinds) → NoStmt ks → (ts : List Stmt) → list_all stmt_is_formed ts ≡ true → kinds_of rest ≡ onto (joined (map stmt_pieces ts)) ks → (Leads (kinds_of after) ks ⊎ LeadsOn (kinds_of after) ks) ⊎ IsKept (option_or inner stop) ks
      leads-more ks none [] g e = absurd (none read.statement (kinds_of after) read.reads.formed (sym e ∙ spells-onto file (stmt_pieces read.statement) rest after read.reads.spells))
      leads-more ks none (s ∷ more) g e =
          let b = both_pass (stmt_is_formed s) (list_all stmt_is_formed more) g in
          led-further ks s more b.0 b.1 (within.others s (onto (joined (map stmt_pieces more)) ks) b.0 e)

      others-more : (ks : Kinds) → NoStmt ks → (Leads (kinds_of rest) ks ⊎ LeadsOn (kinds_of rest) ks) ⊎ IsKept stop ks → (Leads (kinds_of after) ks ⊎ LeadsOn (kinds_of after) ks) ⊎ IsKept (option_or inner stop) ks
      others-more ks none (inr k) = inr (kept-old inner stop ks within.found old.behind k)
      others-more ks none (inl (inl l)) = leads-more ks none l.statements l.formed l.is
      others-more ks none (inl (inr l)) =
          let both : Some l.end ≡ Some (kinds_of after) = sym (takes-own (kinds_of rest) l.end l.goes l.own) ∙ read.end in
          let same : l.end ≡ kinds_of after = cc both in
          inl (inl (subst (λ xs. Leads xs ks) same l.leads))

      pub more-walked : Walked file tokens (option_or inner stop) after
      more-walked =
          let less = read.reads.shorter in
          let no_longer = old.no_longer in
          record {
            no_longer = omega arith;
            statements = front;
            formed = all-push stmt_is_formed old.statements read.statement old.formed read.reads.formed;
            spells = spells-joined stmt_pieces file old.statements read.statement tokens rest after old.spells read.reads.spells;
            found = found-more inner within.found;
            behind = behind-more inner within.before;
            others = λ ks l n. others-more ks n (old.others ks l n);
          }

  -- ---- the end: no statement begins with the rest

  module _ (tokens : List Token) (rest : Bor (List Token)) (stop : Option (Bor (List Token))) (old : Walked file tokens stop rest.now) (none : stmt (inside room) (kinds_of rest.now) ≡ None) (fits : length tokens < room) where
    no-stmt : NoStmt (kinds_of rest.now)
    no-stmt s behind f e =
        let l = length-kinds rest.now in
        let no_longer = old.no_longer in
        let r = takes s (kinds_of rest.now) behind f e (omega arith) in
        let both : None ≡ Some r.0 = sym none ∙ r.1 in cc both

    none-leads : (ks : Kinds) (ts : List Stmt) → list_all stmt_is_formed ts ≡ true → kinds_of rest.now ≡ onto (joined (map stmt_pieces ts)) ks → ks ≡ kinds_of rest.now
    none-leads ks [] g e = sym e
    none-leads ks (s ∷ more) g e = absurd (no-stmt s (onto (joined (map stmt_pieces more)) ks) (both_pass (stmt_is_formed s) (list_all stmt_is_formed more) g).0 e)

    -- so nothing but the rest itself is behind it
    only-rest : (ks : Kinds) → (Leads (kinds_of rest.now) ks ⊎ LeadsOn (kinds_of rest.now) ks) ⊎ IsKept stop ks → (ks ≡ kinds_of rest.now) ⊎ IsKept stop ks
    only-rest ks (inr k) = inr k
    only-rest ks (inl (inl l)) = inl (none-leads ks l.statements l.formed l.is)
    only-rest ks (inl (inr l)) = let both : None ≡ Some l.end = sym none ∙ takes-own (kinds_of rest.now) l.end l.goes l.own in cc both

    -- where it may stand behind the last statement, it is the last place that was found
    pub ends-there : ends_stmts (kinds_of rest.now) ≡ true → IsLastStop file tokens stop
    ends-there ends = record { found = old.found; others = λ ks l goes n. by ks goes (only-rest ks (old.others ks l n)) }
      where
        by : (ks : Kinds) → ends_stmts ks ≡ false → (ks ≡ kinds_of rest.now) ⊎ IsKept stop ks → IsKept stop ks
        by ks goes (inl same) = absurd (false≢true (sym goes ∙ ap ends_stmts same ∙ ends))
        by ks goes (inr k) = k

    kept-on : (o : Option (Bor (List Token))) (ks : Kinds) → IfSome o (λ at. length rest.now ≤ length at.now) → IsKept o ks → length rest.now ≤ length ks
    kept-on None ks b k = absurd k
    kept-on (Some z) ks b k = omega (arith, b, k)

    -- and else the rest itself
    pub stops-there : ends_stmts (kinds_of rest.now) ≡ false → IsLastStop file tokens (Some rest)
    stops-there goes = record {
      found = record { statements = old.statements; formed = old.formed; spells = old.spells; goes_on = goes; no_stmt = no-stmt };
      others = λ ks l g n. by ks (only-rest ks (old.others ks l n));
    }
      where
        by : (ks : Kinds) → (ks ≡ kinds_of rest.now) ⊎ IsKept stop ks → length rest.now ≤ length ks
        by ks (inl same) = let size = ap length same in let l = length-kinds rest.now in omega arith
        by ks (inr k) = kept-on stop ks old.behind k
