-- Lists on which so many stand.
use Rattle.std.proofs.Common.{◌≡◌, ◌≤◌, ◌++◌, ◌+◌, ◌-◌, ℕ, zero, suc, List, [], ◌∷◌, length, drop, take, arith, refl, sym, subst, ap, ◌∙◌, append_assoc, length-append, length-take, append-nil}
use Rattle.std.proofs.Math.Seq.{take-append-add, take-append_seam}
use Rattle.typed_tree.specs.declared.stmt.TypedStmt.{TypedStmt}
use Rattle.check_words.specs.State.{BlockAtWork, CallAtWork, IsLast, UnitAtWork, all_but, replaced}
use Rattle.check_laws.specs.Heights.{plus}
use Rattle.check_laws.specs.Positions.{OnBlock, OnBlocks, OnTop, OnUnits, parts_of_call, parts_of_calls}

pub plus-is : (n k : ℕ) → plus n k ≡ n + k
plus-is n zero = omega arith
plus-is n (suc k) = let more = plus-is n k in omega arith

module _ {A : Type 0} {xs : List A} where
  pub none-on : OnTop xs 0 xs
  none-on = record { more = []; is = sym (append-nil xs); many = refl }

  -- as many, counted otherwise
  pub as-on : {ys : List A} {k n : ℕ} → k ≡ n → OnTop xs k ys → OnTop xs n ys
  as-on e o = record { more = o.more; is = o.is; many = o.many ∙ e }

  pub one-on : {ys : List A} {k : ℕ} (z : A) → OnTop xs k ys → OnTop xs (suc k) (ys ++ z ∷ [])
  one-on {k = k} z o =
      record {
        more = o.more ++ z ∷ [];
        is = ap (λ l. l ++ z ∷ []) o.is ∙ append_assoc xs o.more (z ∷ []);
        many = length-append o.more (z ∷ []) ∙ (let many = o.many in omega arith);
      }

  pub fewer-on : {ys : List A} (count r : ℕ) → OnTop xs (plus r count) ys → OnTop xs r (all_but count ys)
  fewer-on {ys = ys} count r o =
      let long : length ys ≡ length xs + length o.more = ap length o.is ∙ length-append xs o.more in
      let many : length o.more ≡ r + count = o.many ∙ plus-is r count in
      let left : length ys - count ≡ length xs + r = omega arith in
      record {
        more = take r o.more;
        is = ap (λ n. take n ys) left ∙ ap (λ l. take (length xs + r) l) o.is ∙ take-append-add xs o.more r;
        many = length-take r o.more ∙ omega arith;
      }

  pub other-on : {ys : List A} {k : ℕ} (z : A) → OnTop xs (suc k) ys → OnTop xs (suc k) (replaced ys z)
  other-on {k = k} z o = one-on z (fewer-on 1 k o)

pub none-there : {A : Type 0} {xs : List A} → length xs ≡ 0 → xs ≡ []
none-there {xs = []} e = refl
none-there {xs = x ∷ xs} e = absurd (omega arith)

-- nothing stands on it
pub is-same : {A : Type 0} {xs ys : List A} → OnTop xs 0 ys → ys ≡ xs
is-same {xs = xs} o = o.is ∙ ap (λ l. xs ++ l) (none-there o.many) ∙ append-nil xs

first-of : {A : Type 0} (xs more ys : List A) → ys ≡ xs ++ more → length more ≡ 1 → (z : A) × (ys ≡ xs ++ z ∷ [])
first-of xs [] ys is many = absurd (omega arith)
first-of xs (z ∷ []) ys is many = (z, is)
first-of xs (z ∷ y ∷ more) ys is many = absurd (omega arith)

pub one-there : {A : Type 0} {xs ys : List A} → OnTop xs 1 ys → (z : A) × (ys ≡ xs ++ z ∷ [])
one-there {xs = xs} {ys = ys} o = first-of xs o.more ys o.is o.many

-- ---- units

-- the last one, and those before it
split-last : {A : Type 0} (x : A) (xs : List A) → (kept : List A) × (y : A) × (x ∷ xs ≡ kept ++ y ∷ [])
split-last x [] = ([], x, refl)
split-last x (z ∷ xs) = let more = split-last z xs in (x ∷ more.0, more.1, ap (λ l. x ∷ l) more.2)

pub units-there : (us : List UnitAtWork) → 1 ≤ length us → OnUnits us 0 us
units-there [] le = absurd (omega arith)
units-there (u ∷ us) le =
    let last = split-last u us in record { kept = last.0; was = last.1; now = last.1; at_hand = last.2; on = subst (λ l. OnTop l 0 (u ∷ us)) last.2 none-on }

pub all-but-last : {A : Type 0} (xs : List A) (x : A) → all_but 1 (xs ++ x ∷ []) ≡ xs
all-but-last xs x =
    let long : length (xs ++ x ∷ []) ≡ length xs + 1 = length-append xs (x ∷ []) in
    let left : length (xs ++ x ∷ []) - 1 ≡ length xs = omega arith in
    ap (λ n. take n (xs ++ x ∷ [])) left ∙ take-append_seam xs (x ∷ [])

-- the unit at hand in another form
pub other-unit : {us vs : List UnitAtWork} (k : ℕ) (u : UnitAtWork) → OnUnits us k vs → OnUnits us k (replaced vs u)
other-unit zero u o =
    let same = ap (λ l. replaced l u) (is-same o.on) ∙ ap (λ l. l ++ u ∷ []) (all-but-last o.kept o.now) in
    record { kept = o.kept; was = o.was; now = u; at_hand = o.at_hand; on = subst (OnTop (o.kept ++ u ∷ []) 0) (sym same) none-on }
other-unit (suc k) u o = record { kept = o.kept; was = o.was; now = o.now; at_hand = o.at_hand; on = other-on u o.on }

pub unit-on : {us vs : List UnitAtWork} {k : ℕ} (u : UnitAtWork) → OnUnits us k vs → OnUnits us (suc k) (vs ++ u ∷ [])
unit-on u o = record { kept = o.kept; was = o.was; now = o.now; at_hand = o.at_hand; on = one-on u o.on }

pub unit-off : {us vs : List UnitAtWork} {k : ℕ} → OnUnits us (suc k) vs → OnUnits us k (all_but 1 vs)
unit-off {k = k} o = record { kept = o.kept; was = o.was; now = o.now; at_hand = o.at_hand; on = fewer-on 1 k o.on }

-- ---- calls

pub parts-append : (cs ds : List CallAtWork) → parts_of_calls (cs ++ ds) ≡ parts_of_calls cs + parts_of_calls ds
parts-append [] ds = omega arith
parts-append (c ∷ cs) ds = let more = parts-append cs ds in omega arith

-- with one call more
pub parts-more : (cs : List CallAtWork) (c : CallAtWork) → parts_of_calls (cs ++ c ∷ []) ≡ parts_of_calls cs + parts_of_call c
parts-more cs c = parts-append cs (c ∷ []) ∙ omega arith

append-last : {A : Type 0} (xs ys : List A) (x y : A) → xs ++ x ∷ [] ≡ ys ++ y ∷ [] → (xs ≡ ys) × (x ≡ y)
append-last [] [] x y e = (refl, cc)
append-last [] (b ∷ ys) x y e = let long = ap length e in let more = length-append ys (y ∷ []) in absurd (omega arith)
append-last (a ∷ xs) [] x y e = let long = ap length e in let more = length-append xs (x ∷ []) in absurd (omega arith)
append-last (a ∷ xs) (b ∷ ys) x y e =
    let rest = append-last xs ys x y (ap (drop 1) e) in let first : a ≡ b = cc in (cc, rest.1)

-- The last call, and those before it, which stand on these.
pub record LastOn (xs : List CallAtWork) (k : ℕ) (c : CallAtWork) (more ys : List CallAtWork) : Type 0 where
  pub front : List CallAtWork
  pub is : ys ≡ (xs ++ front) ++ c ∷ []
  pub many : length front ≡ k
  pub parts : parts_of_calls more ≡ parts_of_calls front + parts_of_call c

pub last-on : {xs ys : List CallAtWork} {k : ℕ} {c : CallAtWork} (o : OnTop xs (suc k) ys) → IsLast ys c → LastOn xs k c o.more ys
last-on {xs = xs} {ys = ys} {k = k} {c = c} o last = by o.more o.is o.many
  where
    with_last : (more front : List CallAtWork) (d : CallAtWork) → more ≡ front ++ d ∷ [] → ys ≡ xs ++ more → length more ≡ suc k → LastOn xs k c more ys
    with_last more front d split is many =
        let placed : ys ≡ (xs ++ front) ++ d ∷ [] = is ∙ ap (λ l. xs ++ l) split ∙ sym (append_assoc xs front (d ∷ [])) in
        let same : d ≡ c = (append-last (xs ++ front) last.kept d c (sym placed ∙ last.is)).1 in
        let long : length more ≡ length front + 1 = ap length split ∙ length-append front (d ∷ []) in
        record {
          front = front;
          is = placed ∙ ap (λ e. (xs ++ front) ++ e ∷ []) same;
          many = omega arith;
          parts = ap parts_of_calls split ∙ parts-more front d ∙ ap (λ e. parts_of_calls front + parts_of_call e) same;
        }

    by : (more : List CallAtWork) → ys ≡ xs ++ more → length more ≡ suc k → LastOn xs k c more ys
    by [] is many = absurd (omega arith)
    by (x ∷ more) is many = let split = split-last x more in with_last (x ∷ more) split.0 split.1 split.2 is many

-- ---- blocks

pub same-last : {A : Type 0} {xs : List A} {x y : A} → IsLast xs x → IsLast xs y → x ≡ y
same-last l m = (append-last l.kept m.kept _ _ (sym l.is ∙ m.is)).1

pub same-front : {A : Type 0} (xs ys : List A) (x y : A) → xs ++ x ∷ [] ≡ ys ++ y ∷ [] → xs ≡ ys
same-front xs ys x y e = (append-last xs ys x y e).0

-- a statement more in a block
abbrev pub with_more : BlockAtWork → TypedStmt → BlockAtWork
with_more b stmt = record b { stmts = b.stmts ++ stmt ∷ [] }

module _ (bs cs : List BlockAtWork) where
  pub block-on : (k n : ℕ) (b : BlockAtWork) → OnBlocks bs k n cs → OnBlocks bs (suc k) n (cs ++ b ∷ [])
  block-on k zero b o = one-on b o
  block-on k (suc n) b o = record { kept = o.kept; was = o.was; now = o.now; at_hand = o.at_hand; scope = o.scope; stmts = o.stmts; on = one-on b o.on }

  pub block-off : (k n : ℕ) → OnBlocks bs (suc k) n cs → OnBlocks bs k n (all_but 1 cs)
  block-off k zero o = fewer-on 1 k o
  block-off k (suc n) o = record { kept = o.kept; was = o.was; now = o.now; at_hand = o.at_hand; scope = o.scope; stmts = o.stmts; on = fewer-on 1 k o.on }

  -- another block in place of one that stands on them
  pub block-above : (k n : ℕ) (b : BlockAtWork) → OnBlocks bs (suc k) n cs → OnBlocks bs (suc k) n (replaced cs b)
  block-above k zero b o = other-on b o
  block-above k (suc n) b o = record { kept = o.kept; was = o.was; now = o.now; at_hand = o.at_hand; scope = o.scope; stmts = o.stmts; on = other-on b o.on }

  last-replaced : (kept : List BlockAtWork) (was now : BlockAtWork) → cs ≡ kept ++ was ∷ [] → replaced cs now ≡ kept ++ now ∷ []
  last-replaced kept was now is = ap (λ l. replaced l now) is ∙ ap (λ l. l ++ now ∷ []) (all-but-last kept was)

  -- a statement more in the block at hand
  pub stmt-at-hand : (n : ℕ) (b : BlockAtWork) (stmt : TypedStmt) → OnBlocks bs 0 n cs → IsLast cs b → OnBlock bs 0 (suc n) (replaced cs (with_more b stmt))
  stmt-at-hand zero b stmt o last =
      record {
        kept = last.kept;
        was = b;
        now = with_more b stmt;
        at_hand = sym (is-same o) ∙ last.is;
        scope = refl;
        stmts = one-on stmt none-on;
        on = subst (OnTop (last.kept ++ with_more b stmt ∷ []) 0) (sym (last-replaced last.kept b (with_more b stmt) last.is)) none-on;
      }
  stmt-at-hand (suc n) b stmt o last =
      let same : b ≡ o.now = same-last last (record { kept = o.kept; is = is-same o.on }) in
      record {
        kept = o.kept;
        was = o.was;
        now = with_more b stmt;
        at_hand = o.at_hand;
        scope = ap (λ x. x.scope) same ∙ o.scope;
        stmts = one-on stmt (subst (λ (x : BlockAtWork). OnTop o.was.stmts (suc n) x.stmts) (sym same) o.stmts);
        on = subst (OnTop (o.kept ++ with_more b stmt ∷ []) 0) (sym (last-replaced o.kept o.now (with_more b stmt) (is-same o.on))) none-on;
      }

  pub count-blocks : (k n : ℕ) → OnBlocks bs k n cs → length cs ≡ length bs + k
  count-blocks k zero o = let long : length cs ≡ length bs + length o.more = ap length o.is ∙ length-append bs o.more in let many = o.many in omega arith
  count-blocks k (suc n) o =
      let long : length cs ≡ length (o.kept ++ o.now ∷ []) + length o.on.more = ap length o.on.is ∙ length-append (o.kept ++ o.now ∷ []) o.on.more in
      let now = length-append o.kept (o.now ∷ []) in let was : length bs ≡ length o.kept + 1 = ap length o.at_hand ∙ length-append o.kept (o.was ∷ []) in
      let many = o.on.many in omega arith
