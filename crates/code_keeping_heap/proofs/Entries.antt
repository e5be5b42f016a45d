-- Pairs of keys and values that are operands, and the entries that they make.
use Rattle.std.proofs.Common.{◌≡◌, ◌∙◌, ℕ, zero, suc, Bool, true, false, List, [], ◌∷◌, Some, None, inl, inr, length, refl, sym, ap, subst, arith}
use Rattle.std.proofs.lemmas.List.Elements.{All-cons, All-head, All-nil, All-tail}
use Rattle.std.specs.Prelude.{◌⊎◌, All, Any, IsSomeAnd, if◌then◌else◌, option_map, ⊤}
use Rattle.std.specs.List.{AllZip}
use Rattle.bal_base.specs.declared.text.Text.{Text}
use Rattle.type_model.specs.declared.basic.SemType.{SemType}
use Rattle.type_model.specs.Places.{is_same_text}
use Rattle.operations.specs.Kinds.{IsString}
use Rattle.operations.specs.Rows.{InPairs, IsWithin}
use Rattle.value_model.specs.declared.value.Value.{Value}
use Rattle.value_model.specs.declared.value.Value.TheVariants.{Str}
use Rattle.value_model.specs.Heap.{entry_at}
use Rattle.value_model.proofs.EntryKeys.{same-text, text-same}
use Rattle.op_model.specs.Common.{Common}
use Rattle.op_model.specs.Local.{twice}
use Rattle.op_model.specs.Operands.{pairs_of}
use Rattle.op_model.specs.Stores.{entries_from, set_entry}
use Rattle.stack_code.specs.declared.code.Code.{Code}
use Rattle.stack_code.specs.Values.{AllFit, ComeOnce, Fits, GoodHeap}
use Rattle.stack_code.specs.WellTyped.{WellTyped}
use Rattle.code_keeping.specs.Kinds.{Strings}
use Rattle.code_keeping.proofs.OfKind.{of-kind}
use Rattle.code_keeping.proofs.Operands.{a-string, strings}

-- ---- pairs of operands

pub pairs-long : (n : ℕ) (operands : List SemType) (P : List (SemType × SemType) → Type 0) → InPairs n operands P → length operands ≡ twice n
pairs-long zero [] P h = refl
pairs-long zero (a ∷ rest) P h = absurd h
pairs-long (suc n) [] P h = absurd h
pairs-long (suc n) (a ∷ []) P h = absurd h
pairs-long (suc n) (key ∷ value ∷ rest) P h = ap (λ k. suc (suc k)) (pairs-long n rest (λ pairs. P ((key, value) ∷ pairs)) h)

module _ (code : Code) (c : Common) where
  -- values in turn, of these types in pairs
  abbrev pub ArePaired : List Value → List (SemType × SemType) → Type 0
  ArePaired [] [] = ⊤
  ArePaired (k ∷ v ∷ vs) (m ∷ ms) = Fits code c k m.0 × Fits code c v m.1 × ArePaired vs ms
  ArePaired [] (m ∷ ms) = ⊥
  ArePaired (k ∷ []) ms = ⊥
  ArePaired (k ∷ v ∷ vs) [] = ⊥

  pub paired : (n : ℕ) (operands : List SemType) (vs : List Value) (P : List (SemType × SemType) → Type 0) → InPairs n operands P → AllFit code c vs operands → (ms : List (SemType × SemType)) × P ms × ArePaired vs ms
  paired zero [] [] P h fit = ([], h, tt)
  paired zero [] (v ∷ vs) P h fit = absurd fit
  paired zero (a ∷ rest) vs P h fit = absurd h
  paired (suc n) [] vs P h fit = absurd h
  paired (suc n) (a ∷ []) vs P h fit = absurd h
  paired (suc n) (key ∷ value ∷ rest) [] P h fit = absurd fit
  paired (suc n) (key ∷ value ∷ rest) (k ∷ []) P h fit = absurd fit.1
  paired (suc n) (key ∷ value ∷ rest) (k ∷ v ∷ vs) P h (fk, (fv, fit)) =
      let (ms, p, pairs) = paired n rest vs (λ pairs. P ((key, value) ∷ pairs)) h fit in ((key, value) ∷ ms, p, (fk, fv, pairs))

  -- a key and a value fit their types
  abbrev pub PairFits : Text × Value → SemType × SemType → Type 0
  PairFits p m = Fits code c (Str p.0) m.0 × Fits code c p.1 m.1

  pub strings-of : WellTyped code → GoodHeap code c → (vs : List Value) (ms : List (SemType × SemType)) → ArePaired vs ms → All (λ m. IsWithin code.atoms IsString m.0) ms → (ps : List (Text × Value)) × (pairs_of vs ≡ Some ps) × AllZip PairFits ps ms
  strings-of t good [] [] pairs keys = ([], refl, tt)
  strings-of t good [] (m ∷ ms) pairs keys = absurd pairs
  strings-of t good (k ∷ []) ms pairs keys = absurd pairs
  strings-of t good (k ∷ v ∷ vs) [] pairs keys = absurd pairs
  strings-of t good (k ∷ v ∷ vs) (m ∷ ms) (fk, fv, pairs) keys =
      let (ps, e, zip) = strings-of t good vs ms pairs (All-tail (λ (m : SemType × SemType). IsWithin code.atoms IsString m.0) m ms keys) in
      a-string c.world.heap (λ z. Fits code c z m.0 → (ps : List (Text × Value)) × (pairs_of (z ∷ v ∷ vs) ≡ Some ps) × AllZip PairFits ps (m ∷ ms)) k
      (of-kind code t c good (λ k. k ≡ Strings) k m.0 fk (λ x h. strings x (All-head (λ (m : SemType × SemType). IsWithin code.atoms IsString m.0) m ms keys x h)))
      (λ key fits. ((key, v) ∷ ps, ap (λ o. option_map (λ ps. (key, v) ∷ ps) o) e, ((fits, fv), zip))) fk

-- ---- the entries that they make

pub set-all : (P : Text × Value → Type 0) (es : List (Text × Value)) (key : Text) (v : Value) → All P es → P (key, v) → All P (set_entry es key v)
set-all P [] key v h p = All-cons P (key, v) [] p (All-nil P)
set-all P (e ∷ es) key v h p = by (is_same_text e.0 key) refl (set-all P es key v (All-tail P e es h) p)
  where
    by : (b : Bool) → is_same_text e.0 key ≡ b → All P (set_entry es key v) → All P (if b then (e.0, v) ∷ es else e ∷ set_entry es key v)
    by true same more = All-cons P (e.0, v) es (subst (λ k. P (k, v)) (sym (same-text e.0 key same)) p) (All-tail P e es h)
    by false same more = All-cons P e (set_entry es key v) (All-head P e es h) more

pub entries-all : (P : Text × Value → Type 0) (es ps : List (Text × Value)) → All P es → All P ps → All P (entries_from es ps)
entries-all P es [] h k = h
entries-all P es (p ∷ ps) h k = entries-all P (set_entry es p.0 p.1) ps (set-all P es p.0 p.1 h (All-head P p ps k)) (All-tail P p ps k)

-- an entry with this key, among more, or set
abbrev pub IsThereAt : List (Text × Value) → Text → Type 0
IsThereAt es key = IsSomeAnd (entry_at es key) (λ v. ⊤)

pub set-there : (es : List (Text × Value)) (key other : Text) (v : Value) → (key ≡ other) ⊎ IsThereAt es other → IsThereAt (set_entry es key v) other
set-there [] key other v (inl e) = subst (λ b. IsSomeAnd (if b then Some v else None) (λ v. ⊤)) (sym (text-same key other e)) tt
set-there [] key other v (inr h) = absurd h
set-there (e ∷ es) key other v h = by (is_same_text e.0 key) refl (λ k. set-there es key other v k) h
  where
    first : (d : Text × Value) (ds : List (Text × Value)) → (d.0 ≡ other) ⊎ IsThereAt ds other → IsThereAt (d ∷ ds) other
    first d ds (inl same) = subst (λ b. IsSomeAnd (if b then Some d.1 else entry_at ds other) (λ v. ⊤)) (sym (text-same d.0 other same)) tt
    first d ds (inr k) = on (is_same_text d.0 other)
      where
        on : (b : Bool) → IsSomeAnd (if b then Some d.1 else entry_at ds other) (λ v. ⊤)
        on true = tt
        on false = k

    split : IsThereAt (e ∷ es) other → (e.0 ≡ other) ⊎ IsThereAt es other
    split k = on (is_same_text e.0 other) refl k
      where
        on : (b : Bool) → is_same_text e.0 other ≡ b → IsSomeAnd (if b then Some e.1 else entry_at es other) (λ v. ⊤) → (e.0 ≡ other) ⊎ IsThereAt es other
        on true same k = inl (same-text e.0 other same)
        on false same k = inr k

    by : (b : Bool) → is_same_text e.0 key ≡ b → ((key ≡ other) ⊎ IsThereAt es other → IsThereAt (set_entry es key v) other) → (key ≡ other) ⊎ IsThereAt (e ∷ es) other → IsThereAt (if b then (e.0, v) ∷ es else e ∷ set_entry es key v) other
    by true same more (inl k) = first (e.0, v) es (inl (same-text e.0 key same ∙ k))
    by true same more (inr k) = first (e.0, v) es (split k)
    by false same more (inl k) = first e (set_entry es key v) (inr (more (inl k)))
    by false same more (inr k) = on (split k)
      where
        on : (e.0 ≡ other) ⊎ IsThereAt es other → IsThereAt (e ∷ set_entry es key v) other
        on (inl k) = first e (set_entry es key v) (inl k)
        on (inr k) = first e (set_entry es key v) (inr (more (inr k)))

pub entries-there : (es ps : List (Text × Value)) (other : Text) → IsThereAt es other ⊎ Any (λ p. p.0 ≡ other) ps → IsThereAt (entries_from es ps) other
entries-there es [] other (inl h) = h
entries-there es [] other (inr (k, x, l, is, e)) = absurd (omega (arith, l))
entries-there es (p ∷ ps) other (inl h) = entries-there (set_entry es p.0 p.1) ps other (inl (set-there es p.0 other p.1 (inr h)))
entries-there es (p ∷ ps) other (inr (zero, x, l, is, e)) = entries-there (set_entry es p.0 p.1) ps other (inl (set-there es p.0 other p.1 (inl (ap (λ y. y.0) is ∙ e))))
entries-there es (p ∷ ps) other (inr (suc k, x, l, is, e)) = entries-there (set_entry es p.0 p.1) ps other (inr (k, x, omega (arith, l), is, e))

-- their keys are apart
set-other : (es : List (Text × Value)) (key other : Text) (v : Value) → is_same_text key other ≡ false → entry_at es other ≡ None → entry_at (set_entry es key v) other ≡ None
set-other [] key other v ne none = ap (λ b. if b then Some v else None) ne
set-other (e ∷ es) key other v ne none = by (is_same_text e.0 key) refl (λ k. set-other es key other v ne k) (is_same_text e.0 other) refl none
  where
    by : (b : Bool) → is_same_text e.0 key ≡ b → (entry_at es other ≡ None → entry_at (set_entry es key v) other ≡ None) → (o : Bool) → is_same_text e.0 other ≡ o → (if o then Some e.1 else entry_at es other) ≡ None →
        entry_at (if b then (e.0, v) ∷ es else e ∷ set_entry es key v) other ≡ None
    by b same more true is none = absurd (let q : ⊥ = cc in q)
    by true same more false is none = ap (λ o. if o then Some v else entry_at es other) is ∙ none
    by false same more false is none = ap (λ o. if o then Some e.1 else entry_at (set_entry es key v) other) is ∙ more none

pub set-apart : (es : List (Text × Value)) (key : Text) (v : Value) → ComeOnce es → ComeOnce (set_entry es key v)
set-apart [] key v h = (refl, tt)
set-apart (e ∷ es) key v (none, h) = by (is_same_text e.0 key) refl (set-apart es key v h)
  where
    not-same : is_same_text e.0 key ≡ false → is_same_text key e.0 ≡ false
    not-same ne = on (is_same_text key e.0) refl
      where
        on : (b : Bool) → is_same_text key e.0 ≡ b → b ≡ false
        on false k = refl
        on true k = let z : is_same_text e.0 key ≡ true = text-same e.0 key (sym (same-text key e.0 k)) in absurd (let q : ⊥ = cc in q)

    by : (b : Bool) → is_same_text e.0 key ≡ b → ComeOnce (set_entry es key v) → ComeOnce (if b then (e.0, v) ∷ es else e ∷ set_entry es key v)
    by true same more = (none, h)
    by false same more = (set-other es key e.0 v (not-same same) none, more)

pub entries-apart : (es ps : List (Text × Value)) → ComeOnce es → ComeOnce (entries_from es ps)
entries-apart es [] h = h
entries-apart es (p ∷ ps) h = entries-apart (set_entry es p.0 p.1) ps (set-apart es p.0 p.1 h)
