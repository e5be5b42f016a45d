-- Rows of a table of traps, one row more.
use Rattle.std.proofs.Common.{◌≡◌, ◌≤◌, ◌<◌, ◌+◌, ◌-◌, ◌⊎◌, ◌++◌, ◌∙◌, ℕ, zero, suc, List, [], ◌∷◌, Option, Some, None, inl, inr, arith, ap, get_or, length, length-append, refl, slice_get, subst, sym}
use Rattle.stack_code.specs.declared.code.Code.{Code}
use Rattle.stack_code.specs.declared.instr.Instr.{Instr}
use Rattle.stack_code.specs.Commands.{command_at, command_in, command_of}
use Rattle.stack_code.specs.Places.{traps_from, traps_then}
use Rattle.code_numbers.specs.inner.Behind.{TellsBehind, outer, trap_step}
use Rattle.code_numbers.specs.Traps.{AreTrapRows, IsChain, TellsTraps}
use Rattle.code_numbers.proofs.Commanded.{told}

abbrev Rows : Type 0
Rows = List (Option ℕ)

get-more : {X : Type 0} (xs : List X) (y : X) (k : ℕ) (x : X) → slice_get xs k ≡ Some x → slice_get (xs ++ y ∷ []) k ≡ Some x
get-more [] y k x e = absurd (let q : ⊥ = cc in q)
get-more (z ∷ xs) y zero x e = e
get-more (z ∷ xs) y (suc k) x e = get-more xs y k x e

get-last : {X : Type 0} (xs : List X) (y : X) → slice_get (xs ++ y ∷ []) (length xs) ≡ Some y
get-last [] y = refl
get-last (z ∷ xs) y = get-last xs y

module _ (first : ℕ) where
  chain-more : (rows : Rows) (x o : Option ℕ) (ts : List ℕ) → IsChain first rows o ts → IsChain first (rows ++ x ∷ []) o ts
  chain-more rows x None [] h = h
  chain-more rows x None (t ∷ ts) h = absurd h
  chain-more rows x (Some s) [] h = absurd h
  chain-more rows x (Some s) (t ∷ ts) (e, le, (o, at, more)) = (e, le, (o, get-more rows x (s - first) o at, chain-more rows x o ts more))

  pub put-own : (rows : Rows) (innermost : Option ℕ) (slice : Rows) (p : ℕ) → slice ≡ rows ++ innermost ∷ [] → length rows + first ≡ p → slice_get slice (p - first) ≡ Some innermost
  put-own rows innermost slice p is e =
      let at : p - first ≡ length rows = omega (arith, e) in
      subst (λ (rs : Rows). slice_get rs (p - first) ≡ Some innermost) (sym is) (subst (λ (k : ℕ). slice_get (rows ++ innermost ∷ []) k ≡ Some innermost) (sym at) (get-last rows innermost))

  -- ---- one instruction

  pub outside-told : (rows : Rows) (s : ℕ) (ts : List ℕ) → IsChain first rows (Some s) ts → TellsBehind first rows (outer ts) (slice_get rows (s - first))
  outside-told rows s [] h = absurd h
  outside-told rows s (t ∷ ts) (e, le, (o, at, more)) = subst (λ r. TellsBehind first rows (Some ts) r) (sym at) (ts, refl, more)

  pub none-outside : (rows : Rows) (ts : List ℕ) → IsChain first rows None ts → TellsBehind first rows (outer ts) None
  none-outside rows [] h = refl
  none-outside rows (t ∷ ts) h = absurd h

  pub from-first : (rows : Rows) (s : ℕ) (ts : List ℕ) → IsChain first rows (Some s) ts → first ≤ s
  from-first rows s [] h = absurd h
  from-first rows s (t ∷ ts) h = h.1

  pub opened : (rows : Rows) (p : ℕ) (innermost : Option ℕ) (ts : List ℕ) → first ≤ p → slice_get rows (p - first) ≡ Some innermost → IsChain first rows innermost ts → TellsBehind first rows (Some (p ∷ ts)) (Some (Some p))
  opened rows p innermost ts le at chain = (p ∷ ts, refl, (refl, le, (innermost, at, chain)))

  -- some traps are told
  abbrev pub HasChain : Rows → Option ℕ → Type 0
  HasChain rows innermost = (ts : List ℕ) × IsChain first rows innermost ts

  pub has-more : (rows : Rows) (x innermost : Option ℕ) → HasChain rows innermost → HasChain (rows ++ x ∷ []) innermost
  has-more rows x innermost (ts, chain) = (ts, chain-more rows x innermost ts chain)

  pub has-next : (rows : Rows) (innermost next : Option ℕ) (h : HasChain rows innermost) (f : List ℕ → Option (List ℕ)) → ((ts : List ℕ) → IsChain first rows innermost ts → TellsBehind first rows (f ts) (Some next)) → HasChain rows next
  has-next rows innermost next (ts, chain) f told = let (us, e, more) = told ts chain in (us, more)

  -- over rows by another name
  pub next-chain : (rows : Rows) (innermost : Option ℕ) (slice all : Rows) → all ≡ rows ++ innermost ∷ [] → slice ≡ all → HasChain rows innermost → (p : ℕ) (i : Instr) (found : Option (Option ℕ)) (next : Option ℕ) → found ≡ Some next
      → ((ts : List ℕ) → IsChain first slice innermost ts → TellsBehind first slice (trap_step p i ts) found) → HasChain all next
  next-chain rows innermost slice all is same h p i found next e tells =
      has-next all innermost next (subst (λ (rs : Rows). HasChain rs innermost) (sym is) (has-more rows innermost innermost h)) (trap_step p i)
      (λ ts chain. subst (λ (rs : Rows). TellsBehind first rs (trap_step p i ts) (Some next)) same
      (subst (TellsBehind first slice (trap_step p i ts)) e (tells ts (subst (λ (rs : Rows). IsChain first rs innermost ts) (sym same) chain))))

-- ---- the table

module _ (code : Code) (first : ℕ) where
  -- what holds before a row is put
  pub record Stands (rows : Rows) (innermost : Option ℕ) : Type 0 where
    pub all : (k : ℕ) → k < length rows → TellsTraps code first rows k
    pub traps : List ℕ
    pub are : traps_from code first (length rows) ≡ Some traps
    pub chain : IsChain first rows innermost traps

  pub begins : Stands [] None
  begins = record { all = λ k lt. absurd (omega (arith, lt)); traps = []; are = refl; chain = tt }

  tells-more : (rows : Rows) (x : Option ℕ) (k : ℕ) → TellsTraps code first rows k → TellsTraps code first (rows ++ x ∷ []) k
  tells-more rows x k (o, ts, at, are, chain) = (o, ts, get-more rows x k o at, are, chain-more first rows x o ts chain)

  -- a row was put
  pub put-tells : (rows : Rows) (innermost : Option ℕ) → Stands rows innermost → (k : ℕ) → k < length (rows ++ innermost ∷ []) → TellsTraps code first (rows ++ innermost ∷ []) k
  put-tells rows innermost s k lt = by (last-or k (length rows) (omega (arith, lt, length-append rows (innermost ∷ []))))
    where
      last-or : (a b : ℕ) → a < b + 1 → (a < b) ⊎ (a ≡ b)
      last-or a b h = grind arith

      by : (k < length rows) ⊎ (k ≡ length rows) → TellsTraps code first (rows ++ innermost ∷ []) k
      by (inl less) = tells-more rows innermost k (s.all k less)
      by (inr e) = subst (λ (n : ℕ). TellsTraps code first (rows ++ innermost ∷ []) n) (sym e) (innermost, s.traps, get-last rows innermost, s.are, chain-more first rows innermost innermost s.traps s.chain)

  pub put-chain : (rows : Rows) (innermost : Option ℕ) → (s : Stands rows innermost) → IsChain first (rows ++ innermost ∷ []) innermost s.traps
  put-chain rows innermost s = chain-more first rows innermost innermost s.traps s.chain

  -- the traps behind the last row
  behind-last : (rows : Rows) (innermost : Option ℕ) (s : Stands rows innermost) (p : ℕ) → length rows + first ≡ p → (i : Instr) → slice_get code.instrs p ≡ Some i
      → traps_from code first (length (rows ++ innermost ∷ [])) ≡ trap_step p i s.traps
  behind-last rows innermost s p e i at =
      let long : length (rows ++ innermost ∷ []) ≡ suc (length rows) = omega (arith, length-append rows (innermost ∷ [])) in
      let place : first + length rows ≡ p = omega (arith, e) in
      ap (traps_from code first) long ∙ ap (λ (n : ℕ). traps_then n (command_at code n) (traps_from code first (length rows))) place
      ∙ ap (λ o. traps_then p (command_in code o) (traps_from code first (length rows))) at ∙ ap (λ o. traps_then p (command_of code i) o) s.are ∙ told p s.traps code i

  -- and a row more stands, or the rows end
  pub goes-on : (rows : Rows) (innermost : Option ℕ) (s : Stands rows innermost) (p : ℕ) → length rows + first ≡ p → (i : Instr) → slice_get code.instrs p ≡ Some i
      → (next : Option ℕ) → TellsBehind first (rows ++ innermost ∷ []) (trap_step p i s.traps) (Some next) → Stands (rows ++ innermost ∷ []) next
  goes-on rows innermost s p e i at next (us, is, chain) = record {
    all = put-tells rows innermost s;
    traps = us;
    are = behind-last rows innermost s p e i at ∙ is;
    chain = chain;
  }

  pub ends : (rows : Rows) (innermost : Option ℕ) (s : Stands rows innermost) (p count : ℕ) → length rows + first ≡ p → length rows < count → (i : Instr) → slice_get code.instrs p ≡ Some i
      → TellsBehind first (rows ++ innermost ∷ []) (trap_step p i s.traps) None → AreTrapRows code first count (rows ++ innermost ∷ [])
  ends rows innermost s p count e lt i at none =
      let long : length (rows ++ innermost ∷ []) ≡ length rows + 1 = length-append rows (innermost ∷ []) in
      (put-tells rows innermost s, inr (omega (arith, lt, long), behind-last rows innermost s p e i at ∙ none))

  pub whole : (rows : Rows) (innermost : Option ℕ) → Stands rows innermost → (count : ℕ) → length rows ≡ count → AreTrapRows code first count (rows ++ innermost ∷ [])
  whole rows innermost s count e = (put-tells rows innermost s, inl (length-append rows (innermost ∷ []) ∙ ap (λ (n : ℕ). n + 1) e))

  -- the same over rows by another name
  module _ (rows : Rows) (innermost : Option ℕ) (slice all : Rows) (is : all ≡ rows ++ innermost ∷ []) (same : slice ≡ all) (s : Stands rows innermost) (p : ℕ) (e : length rows + first ≡ p) (i : Instr) (at : slice_get code.instrs p ≡ Some i) (found : Option (Option ℕ))
      (tells : (ts : List ℕ) → IsChain first slice innermost ts → TellsBehind first slice (trap_step p i ts) found) where
    told-behind : TellsBehind first (rows ++ innermost ∷ []) (trap_step p i s.traps) found
    told-behind =
        let own = subst (λ (rs : Rows). IsChain first rs innermost s.traps) (sym (same ∙ is)) (put-chain rows innermost s) in
        subst (λ (rs : Rows). TellsBehind first rs (trap_step p i s.traps) found) (same ∙ is) (tells s.traps own)

    pub goes-on-so : (next : Option ℕ) → found ≡ Some next → Stands all next
    goes-on-so next o =
        subst (λ (rs : Rows). Stands rs next) (sym is) (goes-on rows innermost s p e i at next (subst (TellsBehind first (rows ++ innermost ∷ []) (trap_step p i s.traps)) o told-behind))

    pub ends-so : (count : ℕ) → length rows < count → found ≡ None → AreTrapRows code first count all
    ends-so count lt o =
        subst (AreTrapRows code first count) (sym is) (ends rows innermost s p count e lt i at (subst (TellsBehind first (rows ++ innermost ∷ []) (trap_step p i s.traps)) o told-behind))

-- the instruction at a place of the code
pub instr-there : (code : Code) (instrs : List Instr) (p : ℕ) (i : Instr) → code.instrs ≡ instrs → p < length instrs → i ≡ get_or instrs p i → slice_get code.instrs p ≡ Some i
instr-there code instrs p i e lt is = ap (λ (is : List Instr). slice_get is p) e ∙ there instrs p i lt ∙ sym (ap (λ (x : Instr). Some x) is)
  where
    there : (is : List Instr) (k : ℕ) (d : Instr) → k < length is → slice_get is k ≡ Some (get_or is k d)
    there [] k d lt = absurd (omega (arith, lt))
    there (x ∷ xs) zero d lt = refl
    there (x ∷ xs) (suc k) d lt = there xs k d (omega (arith, lt))
