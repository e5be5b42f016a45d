-- Variables that stand in the first slots, one in each, as the slots are declared: so a unit begins.
use Rattle.std.proofs.Common.{◌≡◌, ◌<◌, ◌+◌, ◌∙◌, ◌++◌, ℕ, zero, suc, List, [], ◌∷◌, length, map, Option, None, Some, replicate, arith, refl, sym, subst, ap}
use Rattle.std.proofs.lemmas.List.{replicate-append-replicate}
use Rattle.std.specs.Prelude.{slice_set, ⊤}
use Rattle.std.specs.List.{AllZip}
use Rattle.type_model.specs.declared.basic.SemType.{SemType}
use Rattle.type_model.specs.declared.basic.Ty.{Ty}
use Rattle.typed_tree.specs.SharedTypes.{Shared, sem_of}
use Rattle.flow_narrowing.specs.declared.flow.Variable.{Variable}
use Rattle.flow_narrowing.specs.Flows.{AreSame, now, or_declared}
use Rattle.check_words.specs.Sharing.{SameShared, SameVariable}
use Rattle.tree_promises.specs.Known.{Known}
use Rattle.tree_promises.specs.KnownOf.{known_by}
use Rattle.flow_needs.specs.Slots.{AreApart, AreWithin, HaveSlots, IsSlotOfNone}

-- from this slot on
abbrev pub AreInTurn : ℕ → List Variable → List Shared → Type 0
AreInTurn n [] [] = ⊤
AreInTurn n (v ∷ vs) (t ∷ ts) = (v.slot ≡ n) × (v.narrowed ≡ None) × (v.declared.value ≡ t.value) × AreInTurn (suc n) vs ts
AreInTurn n [] (t ∷ ts) = ⊥
AreInTurn n (v ∷ vs) [] = ⊥

pub turn-more : (n m : ℕ) (vs us : List Variable) (ts xs : List Shared) → m ≡ n + length ts → AreInTurn n vs ts → AreInTurn m us xs → AreInTurn n (vs ++ us) (ts ++ xs)
turn-more n m [] us [] xs is h k = subst (λ i. AreInTurn i us xs) (let e : m ≡ n = omega (arith, is) in e) k
turn-more n m (v ∷ vs) us (t ∷ ts) xs is h k = (h.0, h.1, h.2, turn-more (suc n) m vs us ts xs (omega (arith, is)) h.3 k)
turn-more n m [] us (t ∷ ts) xs is h k = absurd h
turn-more n m (v ∷ vs) us [] xs is h k = absurd h

none-same : (a b : Option Shared) → AreSame a b → a ≡ None → b ≡ None
none-same None None same e = refl
none-same (Some x) (Some y) same e = absurd (let bad : ⊥ = cc in bad)
none-same None (Some y) same e = absurd same
none-same (Some x) None same e = absurd same

-- by other handles
pub turn-same : (n : ℕ) (vs us : List Variable) (ts xs : List Shared) → AllZip SameVariable vs us → AllZip SameShared ts xs → AreInTurn n vs ts → AreInTurn n us xs
turn-same n [] [] [] [] sv st h = tt
turn-same n (v ∷ vs) (u ∷ us) (t ∷ ts) (x ∷ xs) sv st h = (
  sv.0.variable.slot ∙ h.0,
  none-same v.narrowed u.narrowed sv.0.narrowed h.1,
  sv.0.variable.declared ∙ h.2 ∙ sym st.0,
  turn-same (suc n) vs us ts xs sv.1 st.1 h.3,
)
turn-same n [] (u ∷ us) ts xs sv st h = absurd sv
turn-same n (v ∷ vs) [] ts xs sv st h = absurd sv
turn-same n [] [] (t ∷ ts) xs sv st h = absurd h
turn-same n [] [] [] (x ∷ xs) sv st h = absurd st
turn-same n (v ∷ vs) (u ∷ us) [] xs sv st h = absurd h
turn-same n (v ∷ vs) (u ∷ us) (t ∷ ts) [] sv st h = absurd st

turn-apart : (n m : ℕ) (vs : List Variable) (ts : List Shared) → m < n → AreInTurn n vs ts → IsSlotOfNone m vs
turn-apart n m [] ts lt h = tt
turn-apart n m (v ∷ vs) (t ∷ ts) lt h = ((λ e. let is = h.0 in omega (arith, e, is, lt)), turn-apart (suc n) m vs ts (omega (arith, lt)) h.3)
turn-apart n m (v ∷ vs) [] lt h = absurd h

turn-all-apart : (n : ℕ) (vs : List Variable) (ts : List Shared) → AreInTurn n vs ts → AreApart vs
turn-all-apart n [] ts h = tt
turn-all-apart n (v ∷ vs) (t ∷ ts) h = (turn-apart (suc n) v.slot vs ts (let is = h.0 in omega (arith, is)) h.3, turn-all-apart (suc n) vs ts h.3)
turn-all-apart n (v ∷ vs) [] h = absurd h

turn-within : (n k : ℕ) (vs : List Variable) (ts : List Shared) → k ≡ n + length ts → AreInTurn n vs ts → AreWithin k vs
turn-within n k [] ts is h = tt
turn-within n k (v ∷ vs) (t ∷ ts) is h = ((let e = h.0 in omega (arith, e, is)), turn-within (suc n) k vs ts (omega (arith, is)) h.3)
turn-within n k (v ∷ vs) [] is h = absurd h

pub turn-slots : (vs : List Variable) (ts : List Shared) → AreInTurn 0 vs ts → HaveSlots (length ts) vs
turn-slots vs ts h = record { apart = turn-all-apart 0 vs ts h; within = turn-within 0 (length ts) vs ts (omega arith) h }

-- ---- what is known of them

abbrev pub nothing_known : ℕ → Known
nothing_known n = replicate n None

set-next : (n : ℕ) (k : Option SemType) (xs : Known) → slice_set (nothing_known n ++ None ∷ xs) n k ≡ nothing_known n ++ k ∷ xs
set-next zero k xs = refl
set-next (suc n) k xs = ap (λ ys. None ∷ ys) (set-next n k xs)

none-behind : (n : ℕ) (xs : Known) → nothing_known (suc n) ++ xs ≡ nothing_known n ++ None ∷ xs
none-behind zero xs = refl
none-behind (suc n) xs = ap (λ ys. None ∷ ys) (none-behind n xs)

-- the types of these slots are known, and then this
abbrev pub begin_with : List Shared → Known → Known
begin_with [] xs = xs
begin_with (t ∷ ts) xs = Some (sem_of t) ∷ begin_with ts xs

pub begins-typed : (ts : List Shared) (xs : Known) → map Some (map sem_of ts) ++ xs ≡ begin_with ts xs
begins-typed [] xs = refl
begins-typed (t ∷ ts) xs = ap (λ ys. Some (sem_of t) ∷ ys) (begins-typed ts xs)

turn-known : (n r count : ℕ) (vs : List Variable) (ts : List Shared) → count ≡ n + length ts + r → AreInTurn n vs ts
    → known_by count vs ≡ nothing_known n ++ begin_with ts (nothing_known r)
turn-known n r count [] [] is h =
    ap (λ (k : ℕ). nothing_known k) (let e : count ≡ n + r = omega (arith, is) in e) ∙ sym (replicate-append-replicate n r None)
turn-known n r count (v ∷ vs) (t ∷ ts) is h =
    let rest = turn-known (suc n) r count vs ts (omega (arith, is)) h.3 in
    let type : (now v).sem ≡ sem_of t = ap (λ (x : Ty). x.sem) (ap (λ o. or_declared o v.declared) h.1 ∙ h.2) in
    ap (λ ks. slice_set ks v.slot (Some (now v).sem)) (rest ∙ none-behind n (begin_with ts (nothing_known r)))
    ∙ ap (λ i. slice_set (nothing_known n ++ None ∷ begin_with ts (nothing_known r)) i (Some (now v).sem)) h.0
    ∙ set-next n (Some (now v).sem) (begin_with ts (nothing_known r))
    ∙ ap (λ s. nothing_known n ++ Some s ∷ begin_with ts (nothing_known r)) type
turn-known n r count [] (t ∷ ts) is h = absurd h
turn-known n r count (v ∷ vs) [] is h = absurd h

-- where they are the first ones
pub turn-begins : (r count : ℕ) (vs : List Variable) (ts : List Shared) → count ≡ length ts + r → AreInTurn 0 vs ts → known_by count vs ≡ begin_with ts (nothing_known r)
turn-begins r count vs ts is h = turn-known 0 r count vs ts (omega (arith, is)) h
