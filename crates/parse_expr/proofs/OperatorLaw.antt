-- All operators: those that group to the left, comparisons, `is`, `?:` and `? :`, over readers of what is tighter, of types,
-- and of what is read with less room. Reading an operand and going on is going on with what it leaves.
use Rattle.std.proofs.Common.{◌≡◌, ◌≢◌, ◌⊎◌, eq-eqb, ℕ, zero, suc, ◌-◌, ◌<◌, ◌≤◌, Bool, true, false, List, [], ◌∷◌, length, Option, None, Some, refl, sym, ap, subst, ◌∙◌, arith, inl, inr}
use Rattle.std.specs.Prelude.{◌==◌, leb, option_map, option_and_then, if◌then◌else◌, nat_lt}
use Rattle.std.proofs.lemmas.Bool.{eqb-true, leb-true, leb-false, le-leb, lt-ltb, ltb-true, cases_Bool}
use Rattle.bal_base.specs.declared.token.TokenKind.TheVariants.{Sign as SignKind, Keyword as KeywordKind}
use Rattle.bal_base.specs.declared.token.Keyword.TheVariants.{Is}
use Rattle.bal_base.specs.declared.token.Sign.{Sign}
use Rattle.bal_base.specs.declared.token.Sign.TheVariants.{Question, Colon}
use Rattle.bal_tree.specs.declared.expr.BinaryOp.{BinaryOp}
use Rattle.bal_tree.specs.declared.expr.BinaryOp.TheVariants.{Elvis}
use Rattle.bal_base.specs.declared.place.Place.{Place}
use Rattle.bal_tree.specs.Pieces.{Pieces, ◌&◌, starts, sign, key}
use Rattle.bal_tree.specs.Spells.{onto}
use Rattle.bal_tree.specs.ExprPieces.{binary_sign}
use Rattle.parse_types.specs.Loops.{or_else, many}
use Rattle.token_steps.specs.Tokens.{Kinds, take_sign, take_key}
use Rattle.parse_types.proofs.Going.{many-stops, many-goes, many-less}
use Rattle.parse_types.proofs.Onto.{onto-longer}
use Rattle.parse_expr.specs.Operators.{once, is_chain, single as single_by, loop as loop_by, reads as reads_by}
use Rattle.parse_expr.specs.Ranks.{sign_level, op_rank, take_op}
use Rattle.parse_expr.proofs.Follows.{Ends, TypeEnds, Quiet, Quiet-tighter, Operand, ReadsAs, TypeAt, done, skips, done-below, Follows, differs, op-quiet, op-ends, op-type-ends, is-ends, question-ends}
use Rattle.parse_expr.proofs.Shapes.{op-sign}

once-less : (o : Option Kinds) (ks : Kinds) → length (once o ks) ≤ length ks
once-less None ks = omega arith
once-less (Some a) ks =
    elim (cases_Bool (nat_lt (length a) (length ks))) [
      | inl below ↦ let lt = ltb-true (length a) (length ks) below in rw below (omega arith)
      | inr above ↦ rw above (omega arith)
    ]

pub once-goes : (a ks : Kinds) → length a < length ks → once (Some a) ks ≡ a
once-goes a ks lt = rw (lt-ltb (length a) (length ks) lt) refl

-- the readers of a type, and of the operand of `?:` and the parts of `? :`, which are read with less room
module _ (type elvis between part : Kinds → Option Kinds) where
  abbrev pub single : ℕ → (Kinds → Option Kinds) → Kinds → Option Kinds
  single = single_by type elvis between part

  abbrev pub loop : ℕ → (Kinds → Option Kinds) → Kinds → Kinds
  loop = loop_by type elvis between part

  module _ (tight : Kinds → Option Kinds) where
    abbrev pub reads : ℕ → Kinds → Option Kinds
    reads = reads_by type elvis between part tight

    pub reads-zero : (ks : Kinds) → reads zero ks ≡ tight ks
    unfolding reads_by
    reads-zero ks = refl

    pub reads-suc : (k : ℕ) (ks : Kinds) → reads (suc k) ks ≡ option_map (loop (suc k) (reads k)) (reads k ks)
    unfolding reads_by
    reads-suc k ks = refl

    -- the loops of the levels up to this one, but for those that are skipped
    abbrev pub resume : (ℕ → Bool) → ℕ → Kinds → Kinds
    resume skip zero ks = ks
    resume skip (suc k) ks = if skip (suc k) then resume skip k ks else loop (suc k) (reads k) (resume skip k ks)

    loop-less : (k : ℕ) (r : Kinds → Option Kinds) (b : Bool) (ks : Kinds) → length (if b then many length (λ xs. option_and_then r (take_op k xs)) ks else once (single k r ks) ks) ≤ length ks
    loop-less k r true ks = many-less length (λ xs. option_and_then r (take_op k xs)) ks
    loop-less k r false ks = once-less (single k r ks) ks

    pub resume-less : (skip : ℕ → Bool) (k : ℕ) (ks : Kinds) → length (resume skip k ks) ≤ length ks
    resume-less skip zero ks = omega arith
    resume-less skip (suc k) ks = let a = resume-less skip k ks in let b = loop-less (suc k) (reads k) (is_chain (suc k)) (resume skip k ks) in by_cases (skip (suc k)) a b
      where
        by_cases : (b : Bool) → length (resume skip k ks) ≤ length ks → length (loop (suc k) (reads k) (resume skip k ks)) ≤ length (resume skip k ks) → length (if b then resume skip k ks else loop (suc k) (reads k) (resume skip k ks)) ≤ length ks
        by_cases true x y = x
        by_cases false x y = omega arith

    not-chain : (k : ℕ) → is_chain k ≡ false → (k ≡ 4) ⊎ ((k ≡ 8) ⊎ (k ≡ 9))
    not-chain k e =
        elim (cases_Bool (k == 4)) [
          | inl four ↦ inl (eqb-true k 4 four)
          | inr n4 ↦ elim (cases_Bool (k == 8)) [
            | inl eight ↦ inr (inl (eqb-true k 8 eight))
            | inr n8 ↦ elim (cases_Bool (k == 9)) [
              | inl nine ↦ inr (inr (eqb-true k 9 nine))
              | inr n9 ↦ absurd (let t : is_chain k ≡ true = rw (n4, n8, n9) refl in let bad : true ≡ false = sym t ∙ e in cc bad)
            ]
          ]
        ]

    quiet-loop : (k : ℕ) (r : Kinds → Option Kinds) (ks : Kinds) → take_op k ks ≡ None → (4 ≤ k → take_key Is ks ≡ None) → (9 ≤ k → take_sign Question ks ≡ None) → loop k r ks ≡ ks
    quiet-loop k r ks no_op no_is no_question =
        elim (cases_Bool (is_chain k)) [
          | inl chain ↦ ap (λ b. if b then many length (λ xs. option_and_then r (take_op k xs)) ks else once (single k r ks) ks) chain ∙ many-stops length (λ xs. option_and_then r (take_op k xs)) ks (ap (option_and_then r) no_op)
          | inr other ↦ stops (not-chain k other)
        ]
      where
        stops : (k ≡ 4) ⊎ ((k ≡ 8) ⊎ (k ≡ 9)) → loop k r ks ≡ ks
        stops (inl e) = subst (λ j. loop j r ks ≡ ks) (sym e) (ap (λ o. once (or_else (option_and_then r o) (option_and_then type (take_key Is ks))) ks) (subst (λ j. take_op j ks ≡ None) e no_op) ∙ ap (λ o. once (option_and_then type o) ks) (no_is (omega arith)))
        stops (inr (inl e)) = subst (λ j. loop j r ks ≡ ks) (sym e) (ap (λ o. once (option_and_then elvis o) ks) (subst (λ j. take_op j ks ≡ None) e no_op))
        stops (inr (inr e)) = subst (λ j. loop j r ks ≡ ks) (sym e) (ap (λ o. once (option_and_then part (option_and_then (take_sign Colon) (option_and_then between o))) ks) (no_question (omega arith)))

    pub quiet : (skip : ℕ → Bool) (k : ℕ) (ks : Kinds) → Quiet k ks → resume skip k ks ≡ ks
    quiet skip zero ks q = refl
    quiet skip (suc k) ks q =
        let below : Quiet k ks = record { no_op = λ j pos le. q.no_op j pos (omega arith); no_is = λ le. q.no_is (omega arith); no_question = λ le. q.no_question (omega arith) } in
        let inner = quiet skip k ks below in
        by_cases (skip (suc k)) inner (ap (loop (suc k) (reads k)) inner ∙ quiet-loop (suc k) (reads k) ks (q.no_op (suc k) (omega arith) (omega arith)) q.no_is q.no_question)
      where
        by_cases : (b : Bool) → resume skip k ks ≡ ks → loop (suc k) (reads k) (resume skip k ks) ≡ ks → (if b then resume skip k ks else loop (suc k) (reads k) (resume skip k ks)) ≡ ks
        by_cases true x y = x
        by_cases false x y = y

    pub lift : (skip : ℕ → Bool) (j k : ℕ) (xs ks : Kinds) → j ≤ k → ((m : ℕ) → j < m → skip m ≡ false) → reads j xs ≡ Some (resume skip j ks) → reads k xs ≡ Some (resume skip k ks)
    lift skip j zero xs ks h free e = let same : j ≡ 0 = omega arith in subst (λ i. reads i xs ≡ Some (resume skip i ks)) same e
    lift skip j (suc k) xs ks h free e =
        elim (cases_Bool (leb j k)) [
          | inl below ↦ let le = leb-true j k below in
              reads-suc k xs ∙ ap (option_map (loop (suc k) (reads k))) (lift skip j k xs ks le free e)
              ∙ ap (λ b. Some (if b then resume skip k ks else loop (suc k) (reads k) (resume skip k ks))) (sym (free (suc k) (omega arith)))
          | inr above ↦ let lt = leb-false j k above in let same : j ≡ suc k = omega arith in subst (λ i. reads i xs ≡ Some (resume skip i ks)) same e
        ]

    pub resume-skipped : (skip : ℕ → Bool) (k : ℕ) (ks : Kinds) → ((j : ℕ) → j ≤ k → skip j ≡ true) → resume skip k ks ≡ ks
    resume-skipped skip zero ks h = refl
    resume-skipped skip (suc k) ks h =
        ap (λ b. if b then resume skip k ks else loop (suc k) (reads k) (resume skip k ks)) (h (suc k) (omega arith)) ∙ resume-skipped skip k ks (λ j le. h j (omega arith))

    -- in a middle or not, and for trees of at most so many tokens
    module _ (middle : Bool) (n : ℕ) where
      pub record At (k : ℕ) (e : Operand) (ks : Kinds) : Type 0 where
        pub left : Kinds
        pub is : reads k (onto e.pieces ks) ≡ Some (resume (skips e.rank) k left)
        pub no_more : length left ≤ length ks
        pub just : Follows middle e ks → left ≡ ks

      abbrev pub Law : Operand → Type 0
      Law e = (k : ℕ) (ks : Kinds) → e.rank ≤ k → length (onto e.pieces ks) ≤ n → At k e ks

      -- an operator of level `suc i` behind a left operand; `rest` is what its right side leaves
      pub steps : (left whole : Operand) (i k : ℕ) (mid ks rest : Kinds) → Law left → left.rank ≤ suc i → skips left.rank (suc i) ≡ false → suc i ≤ k → whole.rank ≡ suc i → Ends middle mid → (left.in_type ≡ true → TypeEnds middle left.in_int mid) → Quiet i mid → done left.rank ≤ i → onto whole.pieces ks ≡ onto left.pieces mid → loop (suc i) (reads i) mid ≡ resume (skips whole.rank) (suc i) rest → length rest ≤ length ks → (Follows middle whole ks → rest ≡ ks) → length (onto whole.pieces ks) ≤ n → At k whole ks
      steps left whole i k mid ks rest law le here fits lev ends type_ends calm tighter same goes no_more just size =
          let at = law (suc i) mid le (subst (λ l. length l ≤ n) same size) in
          let follows : Follows middle left mid = record { ends = ends; type_ends = type_ends; calm = Quiet-tighter (done left.rank) i mid tighter calm } in
          record {
            left = rest;
            is = lift (skips whole.rank) (suc i) k (onto whole.pieces ks) rest fits
                (λ m lt. above m (done whole.rank) (let d = done-below whole.rank in omega arith))
                (ap (reads (suc i)) same ∙ at.is ∙ ap (λ l. Some (resume (skips left.rank) (suc i) l)) (at.just follows)
                ∙ ap (λ b. Some (if b then resume (skips left.rank) i mid else loop (suc i) (reads i) (resume (skips left.rank) i mid))) here
                ∙ ap (λ l. Some (loop (suc i) (reads i) l)) (quiet (skips left.rank) i mid calm) ∙ ap Some goes);
            no_more = no_more;
            just = just;
          }
        where
          above : (a b : ℕ) → b < a → leb a b ≡ false
          above a b lt = elim (cases_Bool (leb a b)) [ inl x ↦ absurd (let l = leb-true a b x in omega arith) | inr x ↦ x ]

      above : (a b : ℕ) → b < a → leb a b ≡ false
      above a b lt = elim (cases_Bool (leb a b)) [ inl x ↦ absurd (let l = leb-true a b x in omega arith) | inr x ↦ x ]

      -- operators that group to the left
      pub chain-law : (left right whole : Operand) (op : BinaryOp) (i k : ℕ) (ks : Kinds) → Law left → Law right → (left.rank < 4 → left.in_type ≡ true → ⊥) → is_chain (op_rank op) ≡ true → op_rank op ≡ suc i → whole.rank ≡ op_rank op → left.rank ≤ suc i → right.rank ≤ i → suc i ≤ k → onto whole.pieces ks ≡ onto (left.pieces & sign (binary_sign op) & right.pieces) ks → (whole.in_type ≡ right.in_type) × (whole.in_int ≡ right.in_int) → length (onto whole.pieces ks) ≤ n → At k whole ks
      chain-law left right whole op i k ks law1 law2 no_type chain lev whole_level l r fits same end size =
          let s = binary_sign op in
          let xs = onto right.pieces ks in
          let mid = SignKind s ∷ xs in
          let slev : sign_level s ≡ suc i = op-sign op ∙ lev in
          let before = onto-longer left.pieces mid in
          let length_same = ap length same in
          let at = law2 i ks r (omega arith) in
          let rest = resume (skips right.rank) i at.left in
          let less = resume-less (skips right.rank) i at.left in
          let no_more = at.no_more in
          let longer = onto-longer right.pieces ks in
          let whole_chain : is_chain whole.rank ≡ true = ap is_chain whole_level ∙ chain in
          let whole_done : done whole.rank ≡ i = ap (λ b. if b then whole.rank - 1 else whole.rank) whole_chain ∙ (omega arith) in
          let right_done = done-below right.rank in
          let left_done : done left.rank ≤ i = below_op left i l (subst (λ n. is_chain n ≡ true) lev chain) in
          let behind_op : take_op (suc i) mid ≡ Some xs = ap (λ b. if b then Some xs else None) (eq-eqb (sign_level s) (suc i) slev) in
          let next : option_and_then (reads i) (take_op (suc i) mid) ≡ Some rest = ap (option_and_then (reads i)) behind_op ∙ at.is in
          let many_rest : loop (suc i) (reads i) mid ≡ loop (suc i) (reads i) rest =
          let c : is_chain (suc i) ≡ true = subst (λ n. is_chain n ≡ true) lev chain in
          ap (λ b. if b then many length (λ q. option_and_then (reads i) (take_op (suc i) q)) mid else once (single (suc i) (reads i) mid) mid) c
          ∙ many-goes length (λ q. option_and_then (reads i) (take_op (suc i) q)) mid rest next (omega arith)
          ∙ sym (ap (λ b. if b then many length (λ q. option_and_then (reads i) (take_op (suc i) q)) rest else once (single (suc i) (reads i) rest) rest) c) in
          let resumed : resume (skips whole.rank) (suc i) rest ≡ loop (suc i) (reads i) rest =
          ap (λ b. if b then resume (skips whole.rank) i rest else loop (suc i) (reads i) (resume (skips whole.rank) i rest)) (above (suc i) (done whole.rank) (omega arith))
          ∙ ap (loop (suc i) (reads i)) (resume-skipped (skips whole.rank) i rest (λ j le. le-leb j (done whole.rank) (omega arith))) in
          steps left whole i k mid ks rest law1 l (above (suc i) (done left.rank) (omega arith)) fits (whole_level ∙ lev) (op-ends middle s xs (omega arith)) (λ t. type_end i s xs slev l (λ same4. let bad : true ≡ false = sym (subst (λ n. is_chain n ≡ true) lev chain) ∙ ap is_chain same4 in cc bad) t) (op-quiet i s xs (omega arith)) left_done
          same (many_rest ∙ sym resumed) (omega arith)
          (λ f.
          let here : Quiet i ks = subst (λ n. Quiet n ks) whole_done f.calm in
          let exact : at.left ≡ ks = at.just record { ends = f.ends; type_ends = λ t. subst (λ b. TypeEnds middle b ks) end.1 (f.type_ends (end.0 ∙ t)); calm = Quiet-tighter (done right.rank) i ks (omega arith) here } in
          ap (resume (skips right.rank) i) exact ∙ quiet (skips right.rank) i ks here) size
        where
          type_end : (n : ℕ) (s : Sign) (xs : Kinds) → sign_level s ≡ suc n → left.rank ≤ suc n → (suc n ≡ 4 → ⊥) → left.in_type ≡ true → TypeEnds middle left.in_int (SignKind s ∷ xs)
          type_end n s xs slev le no_four t = elim (cases_Bool (leb left.rank 3)) [ inl x ↦ absurd (no_type (let q = leb-true left.rank 3 x in omega arith) t) | inr x ↦ op-type-ends middle left.in_int s xs (let q = leb-false left.rank 3 x in omega arith) ]

          below_op : (e : Operand) (n : ℕ) → e.rank ≤ suc n → is_chain (suc n) ≡ true → done e.rank ≤ n
          below_op e n le c =
              elim (cases_Bool (leb e.rank n)) [
                | inl x ↦ let q = leb-true e.rank n x in let d = done-below e.rank in omega arith
                | inr x ↦
                    let q = leb-false e.rank n x in
                    let same1 : e.rank ≡ suc n = omega arith in
                    let d : done e.rank ≡ e.rank - 1 = ap (λ b. if b then e.rank - 1 else e.rank) (ap is_chain same1 ∙ c) in
                    omega arith
              ]

      -- operators that stand once: comparisons, `is`, `?:` and `? :`
      pub closed-law : (left whole : Operand) (i k : ℕ) (mid ks rest : Kinds) → Law left → left.rank ≤ i → is_chain (suc i) ≡ false → whole.rank ≡ suc i → suc i ≤ k → Ends middle mid → (left.in_type ≡ true → TypeEnds middle left.in_int mid) → Quiet i mid → onto whole.pieces ks ≡ onto left.pieces mid → single (suc i) (reads i) mid ≡ Some rest → length rest ≤ length ks → length ks < length mid → (Follows middle whole ks → rest ≡ ks) → length (onto whole.pieces ks) ≤ n → At k whole ks
      closed-law left whole i k mid ks rest law l once_only lev fits ends type_ends calm same next no_more shorter just size =
          let left_done = done-below left.rank in
          let whole_done : done whole.rank ≡ suc i = ap (λ b. if b then whole.rank - 1 else whole.rank) (ap is_chain lev ∙ once_only) ∙ lev in
          steps left whole i k mid ks rest law (omega arith) (above (suc i) (done left.rank) (omega arith)) fits lev ends type_ends calm (omega arith) same
          (ap (λ b. if b then many length (λ q. option_and_then (reads i) (take_op (suc i) q)) mid else once (single (suc i) (reads i) mid) mid) once_only
          ∙ ap (λ o. once o mid) next ∙ once-goes rest mid (omega arith)
          ∙ sym (resume-skipped (skips whole.rank) (suc i) rest (λ j le. le-leb j (done whole.rank) (omega arith))))
          no_more just size

      pub compare-law : (left right whole : Operand) (op : BinaryOp) (k : ℕ) (ks : Kinds) → Law left → Law right → (left.rank < 4 → left.in_type ≡ true → ⊥) → op_rank op ≡ 4 → whole.rank ≡ 4 → left.rank < 4 → right.rank < 4 → 4 ≤ k → onto whole.pieces ks ≡ onto (left.pieces & sign (binary_sign op) & right.pieces) ks → (whole.in_type ≡ right.in_type) × (whole.in_int ≡ right.in_int) → length (onto whole.pieces ks) ≤ n → At k whole ks
      compare-law left right whole op k ks law1 law2 no_type lev whole_level l r fits same end size =
          let s = binary_sign op in
          let xs = onto right.pieces ks in
          let mid = SignKind s ∷ xs in
          let slev : sign_level s ≡ 4 = op-sign op ∙ lev in
          let before = onto-longer left.pieces mid in
          let length_same = ap length same in
          let at = law2 3 ks (omega arith) (omega arith) in
          let rest = resume (skips right.rank) 3 at.left in
          let less = resume-less (skips right.rank) 3 at.left in
          let no_more = at.no_more in
          let longer = onto-longer right.pieces ks in
          let right_done = done-below right.rank in
          let behind_op : take_op 4 mid ≡ Some xs = ap (λ b. if b then Some xs else None) (eq-eqb (sign_level s) 4 slev) in
          let next : single 4 (reads 3) mid ≡ Some rest = ap (λ o. or_else (option_and_then (reads 3) o) (option_and_then type (take_key Is mid))) behind_op ∙ ap (λ o. or_else o (option_and_then type (take_key Is mid))) at.is in
          closed-law left whole 3 k mid ks rest law1 (omega arith) refl whole_level fits (op-ends middle s xs (omega arith)) (λ t. absurd (no_type l t)) (op-quiet 3 s xs (omega arith))
          same next (omega arith) (omega arith)
          (λ f.
          let here : Quiet 3 ks = Quiet-tighter 3 (done whole.rank) ks (let d : done whole.rank ≡ 4 = ap done whole_level in omega arith) f.calm in
          let exact : at.left ≡ ks = at.just record { ends = f.ends; type_ends = λ t. subst (λ b. TypeEnds middle b ks) end.1 (f.type_ends (end.0 ∙ t)); calm = Quiet-tighter (done right.rank) 3 ks (omega arith) here } in
          ap (resume (skips right.rank) 3) exact ∙ quiet (skips right.rank) 3 ks here) size

      -- ---- the operators that are no signs of the table, and the one whose right side is read with less room

      module _ (left right : Operand) (at : Place) (k : ℕ) (ks : Kinds) (law : Law left) where
        abbrev Whole : Operand
        Whole = record { pieces = starts at & left.pieces & sign (binary_sign Elvis) & right.pieces; rank = 8; in_type = right.in_type; in_int = right.in_int }

        pub elvis-law : left.rank < 8 → 8 ≤ k → ReadsAs middle elvis 8 right ks → length (onto Whole.pieces ks) ≤ n → At k Whole ks
        elvis-law l fits r size =
            let xs = onto right.pieces ks in
            let mid = SignKind (binary_sign Elvis) ∷ xs in
            let no_more = r.no_more in
            let longer = onto-longer right.pieces ks in
            closed-law left Whole 7 k mid ks r.rest law (omega arith) refl refl fits (op-ends middle (binary_sign Elvis) xs (omega arith)) (λ h. op-type-ends middle left.in_int (binary_sign Elvis) xs (omega arith)) (op-quiet 7 (binary_sign Elvis) xs (omega arith)) refl r.is no_more (omega arith) (λ f. r.just f.ends f.type_ends f.calm) size

      module _ (operand : Operand) (p : Pieces) (in_int : Bool) (at : Place) (k : ℕ) (ks : Kinds) (law : Law operand) (no_type : operand.in_type ≡ true → ⊥) where
        abbrev Test : Operand
        Test = record { pieces = starts at & operand.pieces & key Is & p; rank = 4; in_type = true; in_int = in_int }

        pub test-law : operand.rank < 4 → 4 ≤ k → TypeAt middle type p in_int ks → length (onto Test.pieces ks) ≤ n → At k Test ks
        test-law l fits r size =
            let mid = KeywordKind Is ∷ onto p ks in
            let no_more = r.no_more in
            let longer = onto-longer p ks in
            closed-law operand Test 3 k mid ks r.rest law (omega arith) refl refl fits (is-ends middle (onto p ks)) (λ h. absurd (no_type h))
            record { no_op = λ j pos h. refl; no_is = λ h. absurd (omega arith); no_question = λ h. refl }
            refl (ap (λ o. or_else None o) r.is) no_more (omega arith) (λ f. r.just (f.type_ends refl)) size

      module _ (condition inner last : Operand) (at : Place) (k : ℕ) (ks : Kinds) (law : Law condition) (no_type : condition.in_type ≡ true → ⊥) where
        abbrev Choice : Operand
        Choice = record { pieces = starts at & condition.pieces & sign Question & inner.pieces & sign Colon & last.pieces; rank = 9; in_type = last.in_type; in_int = last.in_int }

        pub conditional-law : condition.rank < 9 → 9 ≤ k → between (onto inner.pieces (SignKind Colon ∷ onto last.pieces ks)) ≡ Some (SignKind Colon ∷ onto last.pieces ks) → ReadsAs middle part 9 last ks → length (onto Choice.pieces ks) ≤ n → At k Choice ks
        conditional-law l fits is r size =
            let xs = onto inner.pieces (SignKind Colon ∷ onto last.pieces ks) in
            let mid = SignKind Question ∷ xs in
            let no_more = r.no_more in
            let longer = onto-longer inner.pieces (SignKind Colon ∷ onto last.pieces ks) in
            let longer2 = onto-longer last.pieces ks in
            closed-law condition Choice 8 k mid ks r.rest law (omega arith) refl refl fits (question-ends middle xs) (λ h. absurd (no_type h))
            record { no_op = λ j pos h. ap (λ b. if b then Some xs else None) (differs 0 j (λ same. omega arith)); no_is = λ h. refl; no_question = λ h. absurd (omega arith) }
            refl (ap (λ o. option_and_then part (option_and_then (take_sign Colon) o)) is ∙ r.is) no_more (omega arith) (λ f. r.just f.ends f.type_ends f.calm) size

      -- what has no operator between operands
      pub tight-law : (e : Operand) (k : ℕ) (ks rest : Kinds) → e.rank ≤ 1 → tight (onto e.pieces ks) ≡ Some rest → length rest ≤ length ks → (Follows middle e ks → rest ≡ ks) → At k e ks
      tight-law e k ks rest low is no_more just = record {
        left = rest;
        is = lift (skips e.rank) 0 k (onto e.pieces ks) rest (omega arith) (λ m pos. above m (done e.rank) (let d = low-done e.rank low in omega arith)) (reads-zero (onto e.pieces ks) ∙ is);
        no_more = no_more;
        just = just;
      }
        where
          low-done : (r : ℕ) → r ≤ 1 → done r ≤ 0
          low-done zero h = omega arith
          low-done (suc r) h = let same : r ≡ 0 = omega arith in subst (λ (i : ℕ). done (suc i) ≤ 0) (sym same) (omega arith)

      -- ---- an operand read up to a level, and what is left then

      pub reached : (e : Operand) (k : ℕ) (ks : Kinds) → e.rank ≤ k → At k e ks → ReadsAs middle (reads k) k e ks
      reached e k ks le at =
          let left = at.left in
          let less = resume-less (skips e.rank) k left in
          let no_more = at.no_more in
          let d = done-below e.rank in
          record {
            rest = resume (skips e.rank) k left;
            is = at.is;
            no_more = omega arith;
            just = λ ends type_ends calm.
                ap (resume (skips e.rank) k) (at.just record { ends = ends; type_ends = type_ends; calm = Quiet-tighter (done e.rank) k ks (omega arith) calm })
                ∙ quiet (skips e.rank) k ks calm;
          }
