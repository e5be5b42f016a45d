-- One statement of a list: how the loop over statements goes on behind it.
use Rattle.std.proofs.Common.{◌≡◌, ℕ, zero, suc, ◌<◌, ◌≤◌, Bool, true, false, List, [], ◌∷◌, length, Option, None, Some, refl, sym, ap, ◌∙◌, arith, inl, inr, ◌&&◌}
use Rattle.std.specs.Prelude.{◌⊎◌, not, is_some, if◌then◌else◌, option_and_then}
use Rattle.std.proofs.lemmas.Bool.{le-leb}
use Rattle.bal_base.specs.declared.token.TokenKind.TheVariants.{Word as WordKind, Str as StrKind, Keyword as KeywordKind, Sign as SignKind}
use Rattle.bal_base.specs.declared.token.Keyword.{Keyword}
use Rattle.bal_base.specs.declared.token.Keyword.TheVariants.{If, Else, While, Foreach, Match, Return, Panic, Break, Continue, Final, Var, Is, Worker, Public, «Type», Const, Import}
use Rattle.bal_base.specs.declared.token.Sign.TheVariants.{OpenBrace, CloseBrace, Underscore, OpenBracket}
use Rattle.bal_tree.specs.Pieces.{Pieces, joined}
use Rattle.bal_tree.specs.Spells.{onto}
use Rattle.parse_types.specs.Loops.{many, or_else}
use Rattle.token_steps.specs.Tokens.{Kinds, take_sign, take_key}
use Rattle.parse_types.specs.Nesting.{depth_behind}
use Rattle.parse_types.proofs.Going.{many-stops, many-goes}
use Rattle.parse_types.proofs.Onto.{onto-longer}
use Rattle.parse_stmt.specs.Ahead.{semicolon, is_semicolon, is_outside}
use Rattle.parse_stmt.specs.Reaches.{block, brace_stmt, goes_on, inside, keyword_stmt, led, may_be_mapping, no_more, stmt, stmts}
use Rattle.parse_stmt.proofs.Known.{led_key, leads}
use Rattle.parse_stmt.proofs.LedLaw.{led-end}

-- ---- a semicolon leaves less

behind-less : (xs ks : Kinds) (o : Option ℕ) → ((d : ℕ) → semicolon d xs ≡ Some ks → length ks < length xs) → option_and_then (λ d. semicolon d xs) o ≡ Some ks → length ks < suc (length xs)
behind-less xs ks None h e = cc e
behind-less xs ks (Some d) h e = let less = h d e in omega arith

here-less : (b : Bool) (o : Option ℕ) (xs ks : Kinds) → ((d : ℕ) → semicolon d xs ≡ Some ks → length ks < length xs) → (if b then Some xs else option_and_then (λ d. semicolon d xs) o) ≡ Some ks → length ks < suc (length xs)
here-less true o xs ks h e = let same : length xs ≡ length ks = cc e in omega arith
here-less false o xs ks h e = behind-less xs ks o h e

pub semicolon-less : (depth : ℕ) (xs ks : Kinds) → semicolon depth xs ≡ Some ks → length ks < length xs
semicolon-less depth [] ks e = cc e
semicolon-less depth (k ∷ xs) ks e = here-less (is_semicolon k && is_outside depth) (depth_behind k depth) xs ks (λ d. semicolon-less d xs ks) e

pub led-less : (xs ks : Kinds) → led xs ≡ Some ks → length ks < length xs
led-less xs ks e = semicolon-less 0 xs ks (led-end xs ks e)

-- no statement begins with a closing brace
pub led-closes : (ks : Kinds) → led (SignKind CloseBrace ∷ ks) ≡ None
unfolding led
led-closes ks = refl

pub stmts-is : (inner : Bool → Kinds → Option Kinds) (ks : Kinds) → stmts inner ks ≡ many length (stmt inner) ks
unfolding stmts
stmts-is inner ks = refl

pub stmts-close : (inner : Bool → Kinds → Option Kinds) (ks : Kinds) → many length (stmt inner) (SignKind CloseBrace ∷ ks) ≡ SignKind CloseBrace ∷ ks
stmts-close inner ks = many-stops length (stmt inner) (SignKind CloseBrace ∷ ks) (led-closes ks)

pub block-is : (inner : Bool → Kinds → Option Kinds) (ks : Kinds) → block inner (SignKind OpenBrace ∷ ks) ≡ take_sign CloseBrace (many length (stmt inner) ks)
unfolding stmts
block-is inner ks = refl

pub no_more-passes : (ks a : Kinds) → length a ≤ length ks → no_more ks (Some a) ≡ Some a
no_more-passes ks a h = rw (le-leb (length a) (length ks) h) refl

pub empty-block : (n : ℕ) (zs : Kinds) → 0 < n → inside n false (SignKind OpenBrace ∷ SignKind CloseBrace ∷ zs) ≡ Some zs
empty-block zero zs h = absurd (omega arith)
empty-block (suc n) zs h =
    ap (no_more (SignKind OpenBrace ∷ SignKind CloseBrace ∷ zs)) (block-is (inside n) (SignKind CloseBrace ∷ zs) ∙ ap (take_sign CloseBrace) (stmts-close (inside n) zs))
    ∙ no_more-passes (SignKind OpenBrace ∷ SignKind CloseBrace ∷ zs) zs (omega arith)

-- ---- which form begins here

key-led : (inner : Bool → Kinds → Option Kinds) (k : Keyword) (xs : Kinds) → led_key k ≡ true → keyword_stmt inner k xs ≡ led xs
key-led inner If xs h = cc h
key-led inner Else xs h = cc h
key-led inner While xs h = cc h
key-led inner Foreach xs h = cc h
key-led inner Match xs h = cc h
key-led inner Return xs h = cc h
key-led inner Panic xs h = cc h
key-led inner Break xs h = cc h
key-led inner Continue xs h = cc h
key-led inner Final xs h = cc h
key-led inner Var xs h = cc h
key-led inner Const xs h = cc h
key-led inner Import xs h = cc h
key-led inner «Type» xs h = cc h
key-led inner Public xs h = cc h
key-led inner Worker xs h = cc h
key-led inner k xs h = refl

pub goes-led : (inner : Bool → Kinds → Option Kinds) (zs : Kinds) → goes_on zs ≡ true → stmt inner zs ≡ led zs
goes-led inner [] h = cc h
goes-led inner (KeywordKind Is ∷ zs) h = refl
goes-led inner (KeywordKind k ∷ zs) h = cc h
goes-led inner (SignKind OpenBrace ∷ zs) h = cc h
goes-led inner (SignKind Underscore ∷ zs) h = cc h
goes-led inner (SignKind s ∷ zs) h = refl
goes-led inner (k ∷ zs) h = refl

found : (o : Option Kinds) → is_some o ≡ true → (b : Kinds) × (o ≡ Some b)
found None h = cc h
found (Some b) h = (b, refl)

-- where a statement of its own stands behind empty braces, they are read as a block
braces-alone : (n : ℕ) (zs : Kinds) → is_some (led zs) ≡ true → goes_on zs ≡ true → 0 < n → stmt (inside n) (SignKind OpenBrace ∷ SignKind CloseBrace ∷ zs) ≡ Some zs
braces-alone n zs is may some =
    ap (λ c. brace_stmt (inside n) (goes_on zs && not c) (SignKind OpenBrace ∷ SignKind CloseBrace ∷ zs)) is ∙ ap (λ c. brace_stmt (inside n) (c && false) (SignKind OpenBrace ∷ SignKind CloseBrace ∷ zs)) may ∙ empty-block n zs some

module _ (n : ℕ) where
  abbrev step : Kinds → Option Kinds
  step = stmt (inside n)

  brace-goes : (ys ks : Kinds) → may_be_mapping ys ≡ true → led (SignKind OpenBrace ∷ ys) ≡ Some ks → length (SignKind OpenBrace ∷ ys) ≤ n → many length step (SignKind OpenBrace ∷ ys) ≡ many length step ks
  brace-goes (SignKind CloseBrace ∷ zs) ks may e fits = test (is_some (led zs)) refl
    where
      xs : Kinds
      xs = SignKind OpenBrace ∷ SignKind CloseBrace ∷ zs

      test : (b : Bool) → is_some (led zs) ≡ b → many length step (SignKind OpenBrace ∷ SignKind CloseBrace ∷ zs) ≡ many length step ks
      test true is =
          let b = found (led zs) is in
          let whole : semicolon 0 (SignKind OpenBrace ∷ SignKind CloseBrace ∷ zs) ≡ Some ks = led-end (SignKind OpenBrace ∷ SignKind CloseBrace ∷ zs) ks e in
          let both : Some b.0 ≡ Some ks = sym (led-end zs b.0 b.1) ∙ whole in
          let same : b.0 ≡ ks = cc both in
          let here : led zs ≡ Some ks = b.1 ∙ ap Some same in
          let less = led-less zs ks here in
          many-goes length step (SignKind OpenBrace ∷ SignKind CloseBrace ∷ zs) zs (braces-alone n zs is may (omega arith)) (omega arith)
          ∙ many-goes length step zs ks (goes-led (inside n) zs may ∙ here) less
      test false is =
          many-goes length step (SignKind OpenBrace ∷ SignKind CloseBrace ∷ zs) ks
          (ap (λ c. brace_stmt (inside n) (goes_on zs && not c) (SignKind OpenBrace ∷ SignKind CloseBrace ∷ zs)) is ∙ ap (λ c. brace_stmt (inside n) (c && true) (SignKind OpenBrace ∷ SignKind CloseBrace ∷ zs)) may
          ∙ ap (λ o. or_else o (inside n false (SignKind OpenBrace ∷ SignKind CloseBrace ∷ zs))) e)
          (led-less (SignKind OpenBrace ∷ SignKind CloseBrace ∷ zs) ks e)
  brace-goes [] ks may e fits = cc may
  brace-goes (k ∷ zs) ks may e fits =
      many-goes length step (SignKind OpenBrace ∷ k ∷ zs) ks
      (ap (λ c. brace_stmt (inside n) (c && true) (SignKind OpenBrace ∷ k ∷ zs)) may ∙ ap (λ o. or_else o (inside n false (SignKind OpenBrace ∷ k ∷ zs))) e)
      (led-less (SignKind OpenBrace ∷ k ∷ zs) ks e)

  -- a statement that begins with a type or an expression
  pub led-goes : (xs ks : Kinds) → leads xs ≡ true → led xs ≡ Some ks → length xs ≤ n → many length step xs ≡ many length step ks
  led-goes [] ks h e fits = cc h
  led-goes (KeywordKind k ∷ xs) ks h e fits = many-goes length step (KeywordKind k ∷ xs) ks (key-led (inside n) k (KeywordKind k ∷ xs) h ∙ e) (led-less (KeywordKind k ∷ xs) ks e)
  led-goes (SignKind OpenBrace ∷ xs) ks h e fits = brace-goes xs ks h e fits
  led-goes (SignKind Underscore ∷ xs) ks h e fits = cc h
  led-goes (k ∷ xs) ks h e fits = many-goes length step (k ∷ xs) ks e (led-less (k ∷ xs) ks e)

-- ---- what may stand behind a statement: no `else`, and where an expression could go on, a statement of its own

pub record Ready (ks : Kinds) : Type 0 where
  pub no_else : take_key Else ks ≡ None
  pub of_its_own : goes_on ks ≡ true → is_some (led ks) ≡ true

-- an empty block, behind whose braces an expression goes on and no statement begins
pub record GoesOnBehind (xs left ks : Kinds) : Type 0 where
  pub braces : xs ≡ SignKind OpenBrace ∷ SignKind CloseBrace ∷ ks
  pub longer : length left < length ks
  pub goes : goes_on ks ≡ true
  pub no_stmt : led ks ≡ None

-- a statement that begins with a mapping, of which the empty block is read alone, since a statement of its own stands behind that
pub record ReadBehind (xs left ks : Kinds) : Type 0 where
  pub braces : xs ≡ SignKind OpenBrace ∷ SignKind CloseBrace ∷ left
  pub goes : goes_on left ≡ true
  pub own : led left ≡ Some ks

-- One step of the reader at a statement behind which `ks` stand: it reads one, and that ends where this one does, but for if statements
-- and statements that begin with empty braces.
pub record StepAt (n : ℕ) (xs ks : Kinds) : Type 0 where
  pub left : Kinds
  pub is : stmt (inside n) xs ≡ Some left
  pub ends : (ks ≡ left) ⊎ ((is_some (take_key If xs) ≡ true) ⊎ (GoesOnBehind xs left ks ⊎ ReadBehind xs left ks))

-- `goes` says where the loop comes to behind the statement, `step` what one step of it reads, whatever stands behind it
pub record StmtAt (p : Pieces) : Type 0 where
  pub goes : (n : ℕ) (ks : Kinds) → length (onto p ks) < n → Ready ks → many length (stmt (inside n)) (onto p ks) ≡ many length (stmt (inside n)) ks
  pub step : (n : ℕ) (ks : Kinds) → length (onto p ks) < n → StepAt n (onto p ks) ks
  pub ready : (ks : Kinds) → Ready (onto p ks)
  pub no_mapping : (ks : Kinds) → may_be_mapping (onto p ks) ≡ false
  pub no_worker : (ks : Kinds) → take_key Worker (onto p ks) ≡ None

-- what begins so and has its semicolon begins no mapping behind a brace
led-no-mapping : (xs ks : Kinds) → led xs ≡ Some ks → may_be_mapping xs ≡ false
led-no-mapping [] ks e = refl
led-no-mapping (WordKind w ∷ xs) ks e = ap (λ o. not (is_some o)) (led-end (WordKind w ∷ xs) ks e)
led-no-mapping (StrKind t ∷ xs) ks e = ap (λ o. not (is_some o)) (led-end (StrKind t ∷ xs) ks e)
led-no-mapping (SignKind OpenBracket ∷ xs) ks e = ap (λ o. not (is_some o)) (led-end (SignKind OpenBracket ∷ xs) ks e)
led-no-mapping (SignKind CloseBrace ∷ xs) ks e = let bad : None ≡ Some ks = sym (led-closes xs) ∙ e in cc bad
led-no-mapping (SignKind s ∷ xs) ks e = refl
led-no-mapping (k ∷ xs) ks e = refl

no-else : (xs : Kinds) → leads xs ≡ true → take_key Else xs ≡ None
no-else [] h = refl
no-else (KeywordKind Else ∷ xs) h = cc h
no-else (KeywordKind k ∷ xs) h = refl
no-else (k ∷ xs) h = refl

pub no-worker : (xs : Kinds) → leads xs ≡ true → take_key Worker xs ≡ None
no-worker [] h = refl
no-worker (KeywordKind Worker ∷ xs) h = cc h
no-worker (KeywordKind k ∷ xs) h = refl
no-worker (k ∷ xs) h = refl

-- what is read in one step, and ends where the statement does
pub just : (n : ℕ) (xs ks : Kinds) → stmt (inside n) xs ≡ Some ks → StepAt n xs ks
just n xs ks e = record { left = ks; is = e; ends = inl refl }

-- a statement that begins with a mapping
brace-step : (n : ℕ) (ys ks : Kinds) → may_be_mapping ys ≡ true → led (SignKind OpenBrace ∷ ys) ≡ Some ks → 0 < n → StepAt n (SignKind OpenBrace ∷ ys) ks
brace-step n (SignKind CloseBrace ∷ zs) ks may e some = test (is_some (led zs)) refl
  where
    test : (b : Bool) → is_some (led zs) ≡ b → StepAt n (SignKind OpenBrace ∷ SignKind CloseBrace ∷ zs) ks
    test true is =
        let b = found (led zs) is in
        let whole : semicolon 0 (SignKind OpenBrace ∷ SignKind CloseBrace ∷ zs) ≡ Some ks = led-end (SignKind OpenBrace ∷ SignKind CloseBrace ∷ zs) ks e in
        let both : Some b.0 ≡ Some ks = sym (led-end zs b.0 b.1) ∙ whole in
        let same : b.0 ≡ ks = cc both in
        record {
          left = zs;
          is = braces-alone n zs is may some;
          ends = inr (inr (inr record { braces = refl; goes = may; own = b.1 ∙ ap Some same }));
        }
    test false is =
        just n (SignKind OpenBrace ∷ SignKind CloseBrace ∷ zs) ks
        (ap (λ c. brace_stmt (inside n) (goes_on zs && not c) (SignKind OpenBrace ∷ SignKind CloseBrace ∷ zs)) is ∙ ap (λ c. brace_stmt (inside n) (c && true) (SignKind OpenBrace ∷ SignKind CloseBrace ∷ zs)) may
        ∙ ap (λ o. or_else o (inside n false (SignKind OpenBrace ∷ SignKind CloseBrace ∷ zs))) e)
brace-step n [] ks may e some = cc may
brace-step n (k ∷ zs) ks may e some =
    just n (SignKind OpenBrace ∷ k ∷ zs) ks
    (ap (λ c. brace_stmt (inside n) (c && true) (SignKind OpenBrace ∷ k ∷ zs)) may ∙ ap (λ o. or_else o (inside n false (SignKind OpenBrace ∷ k ∷ zs))) e)

-- a statement that begins with a type or an expression
led-step : (n : ℕ) (xs ks : Kinds) → leads xs ≡ true → led xs ≡ Some ks → 0 < n → StepAt n xs ks
led-step n [] ks h e some = cc h
led-step n (KeywordKind k ∷ xs) ks h e some = just n (KeywordKind k ∷ xs) ks (key-led (inside n) k (KeywordKind k ∷ xs) h ∙ e)
led-step n (SignKind OpenBrace ∷ xs) ks h e some = brace-step n xs ks h e some
led-step n (SignKind Underscore ∷ xs) ks h e some = cc h
led-step n (k ∷ xs) ks h e some = just n (k ∷ xs) ks e

pub led-stmt : (p : Pieces) → ((ks : Kinds) → leads (onto p ks) ≡ true) → ((ks : Kinds) → led (onto p ks) ≡ Some ks) → StmtAt p
led-stmt p first law = record {
  goes = λ n ks fits r. led-goes n (onto p ks) ks (first ks) (law ks) (omega arith);
  step = λ n ks fits. led-step n (onto p ks) ks (first ks) (law ks) (omega arith);
  ready = λ ks. record { no_else = no-else (onto p ks) (first ks); of_its_own = λ h. ap is_some (law ks) };
  no_mapping = λ ks. led-no-mapping (onto p ks) ks (law ks);
  no_worker = λ ks. no-worker (onto p ks) (first ks);
}

-- a statement that is read in one step
pub one-stmt : (p : Pieces) → ((n : ℕ) (ks : Kinds) → length (onto p ks) < n → stmt (inside n) (onto p ks) ≡ Some ks) → ((ks : Kinds) → length ks < length (onto p ks)) → ((ks : Kinds) → Ready (onto p ks)) → ((ks : Kinds) → may_be_mapping (onto p ks) ≡ false) → ((ks : Kinds) → take_key Worker (onto p ks) ≡ None) → StmtAt p
one-stmt p law longer first other key = record {
  goes = λ n ks fits r. many-goes length (stmt (inside n)) (onto p ks) ks (law n ks fits) (longer ks);
  step = λ n ks fits. just n (onto p ks) ks (law n ks fits);
  ready = first;
  no_mapping = other;
  no_worker = key;
}

-- ---- statements one behind the other

abbrev pub StmtsAt : List Pieces → Type 0
StmtsAt [] = Unit {0}
StmtsAt (p ∷ ps) = StmtAt p × StmtsAt ps

pub stmts-ready : (ps : List Pieces) (ks : Kinds) → StmtsAt ps → Ready ks → Ready (onto (joined ps) ks)
stmts-ready [] ks all r = r
stmts-ready (p ∷ ps) ks all r = all.0.ready (onto (joined ps) ks)

pub stmts-go : (n : ℕ) (ps : List Pieces) (ks : Kinds) → StmtsAt ps → length (onto (joined ps) ks) < n → Ready ks → many length (stmt (inside n)) (onto (joined ps) ks) ≡ many length (stmt (inside n)) ks
stmts-go n [] ks all fits r = refl
stmts-go n (p ∷ ps) ks all fits r =
    let zs = onto (joined ps) ks in
    let longer = onto-longer p zs in
    all.0.goes n zs fits (stmts-ready ps ks all.1 r) ∙ stmts-go n ps ks all.1 (omega arith) r

pub close-ready : (ks : Kinds) → Ready (SignKind CloseBrace ∷ ks)
close-ready ks = record { no_else = refl; of_its_own = λ h. cc h }
