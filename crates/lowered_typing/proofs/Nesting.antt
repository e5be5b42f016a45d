-- Open traps, by the order of commands.
use Rattle.std.proofs.Common.{◌≡◌, ◌∙◌, ◌≤◌, ◌<◌, ◌+◌, ◌++◌, ◌⊎◌, ℕ, zero, suc, List, [], ◌∷◌, Some, inl, inr, length, refl, sym, subst, ap, arith}
use Rattle.std.specs.Prelude.{slice_get, ⊤}
use Rattle.operations.specs.declared.operation.Operation.TheVariants.{Tick}
use Rattle.stack_code.specs.Commands.{Command, Do, GoTo, GoToIfNot, OpenTrap, CloseTrap}
use Rattle.lower_model.specs.Making.{Making}

-- the places of those that are open, the innermost first
abbrev pub Traps : Type 0
Traps = List ℕ

-- behind the command at a place
abbrev pub traps_past : ℕ → Command → Traps → Traps
traps_past p (Do op) ts = ts
traps_past p (GoTo l) ts = ts
traps_past p (GoToIfNot l) ts = ts
traps_past p (OpenTrap l) ts = p ∷ ts
traps_past p CloseTrap [] = []
traps_past p CloseTrap (t ∷ ts) = ts

-- before the k-th of the commands that stand from a place on
abbrev pub traps_before : ℕ → List Command → Traps → ℕ → Traps
traps_before p cs ts zero = ts
traps_before p [] ts (suc k) = ts
traps_before p (c ∷ cs) ts (suc k) = traps_before (suc p) cs (traps_past p c ts) k

-- the places of its labels are in the reach of the traps that are open here, and what it closes is open
abbrev pub IsNested : List Traps → Command → Traps → Type 0
IsNested wants (Do op) ts = ⊤
IsNested wants (GoTo l) ts = slice_get wants l ≡ Some ts
IsNested wants (GoToIfNot l) ts = slice_get wants l ≡ Some ts
IsNested wants (OpenTrap l) ts = slice_get wants l ≡ Some ts
IsNested wants CloseTrap [] = ⊥
IsNested wants CloseTrap (t ∷ ts) = ⊤

abbrev pub AreNested : List Traps → ℕ → List Command → Traps → Traps → Type 0
AreNested wants p [] ts end = ts ≡ end
AreNested wants p (c ∷ cs) ts end = IsNested wants c ts × AreNested wants (suc p) cs (traps_past p c ts) end

-- the label's place, if it has one, is behind this one, or a tick stands there
abbrev pub IsAhead : Making → ℕ → ℕ → Type 0
IsAhead m p l = (to : ℕ) → slice_get m.labels l ≡ Some (Some to) → (p < to) ⊎ (slice_get m.steps to ≡ Some (Do Tick))

-- P holds of the label that it names
abbrev pub Names : (ℕ → Type 0) → Command → Type 0
Names P (Do op) = ⊤
Names P (GoTo l) = P l
Names P (GoToIfNot l) = P l
Names P (OpenTrap l) = P l
Names P CloseTrap = ⊤

abbrev pub AllName : (ℕ → Type 0) → List Command → Type 0
AllName P [] = ⊤
AllName P (c ∷ cs) = Names P c × AllName P cs

abbrev pub AreAhead : Making → ℕ → List Command → Type 0
AreAhead m p [] = ⊤
AreAhead m p (c ∷ cs) = Names (IsAhead m p) c × AreAhead m (suc p) cs

abbrev pub Grown : List Traps → List Traps → Type 0
Grown wants more = (l : ℕ) (ts : Traps) → slice_get wants l ≡ Some ts → slice_get more l ≡ Some ts

-- ---- names

pub names-so : (P Q : ℕ → Type 0) → ((l : ℕ) → P l → Q l) → (c : Command) → Names P c → Names Q c
names-so P Q f (Do op) h = tt
names-so P Q f (GoTo l) h = f l h
names-so P Q f (GoToIfNot l) h = f l h
names-so P Q f (OpenTrap l) h = f l h
names-so P Q f CloseTrap h = tt

pub all-names-so : (P Q : ℕ → Type 0) → ((l : ℕ) → P l → Q l) → (cs : List Command) → AllName P cs → AllName Q cs
all-names-so P Q f [] h = tt
all-names-so P Q f (c ∷ cs) h = (names-so P Q f c h.0, all-names-so P Q f cs h.1)

pub all-names-both : (P : ℕ → Type 0) (cs ds : List Command) → AllName P cs → AllName P ds → AllName P (cs ++ ds)
all-names-both P [] ds h k = k
all-names-both P (c ∷ cs) ds h k = (h.0, all-names-both P cs ds h.1 k)

pub all-names-at : (P : ℕ → Type 0) (cs : List Command) (k : ℕ) (c : Command) → AllName P cs → slice_get cs k ≡ Some c → Names P c
all-names-at P [] k c h e = absurd (let bad : ⊥ = cc in bad)
all-names-at P (d ∷ cs) zero c h e = subst (Names P) (let is : d ≡ c = cc in is) h.0
all-names-at P (d ∷ cs) (suc k) c h e = all-names-at P cs k c h.1 e

-- ---- further commands

one-on : (p n : ℕ) → p + suc n ≡ suc p + n
one-on p n = omega arith

none-on : (p : ℕ) → p + 0 ≡ p
none-on p = omega arith

pub nested-more : (wants more : List Traps) → Grown wants more → (p : ℕ) (cs : List Command) (ts end : Traps) → AreNested wants p cs ts end → AreNested more p cs ts end
nested-more wants more g p [] ts end h = h
nested-more wants more g p (c ∷ cs) ts end h = (one c ts h.0, nested-more wants more g (suc p) cs (traps_past p c ts) end h.1)
  where
    one : (c : Command) (ts : Traps) → IsNested wants c ts → IsNested more c ts
    one (Do op) ts h = tt
    one (GoTo l) ts h = g l ts h
    one (GoToIfNot l) ts h = g l ts h
    one (OpenTrap l) ts h = g l ts h
    one CloseTrap [] h = absurd h
    one CloseTrap (t ∷ ts) h = tt

pub nested-both : (wants : List Traps) (p : ℕ) (cs ds : List Command) (ts mid end : Traps) → AreNested wants p cs ts mid → AreNested wants (p + length cs) ds mid end → AreNested wants p (cs ++ ds) ts end
nested-both wants p [] ds ts mid end h k = subst (λ q. AreNested wants q ds ts end) (none-on p) (subst (λ s. AreNested wants (p + 0) ds s end) (sym h) k)
nested-both wants p (c ∷ cs) ds ts mid end h k = (h.0, nested-both wants (suc p) cs ds (traps_past p c ts) mid end h.1 (subst (λ q. AreNested wants q ds mid end) (one-on p (length cs)) k))

pub before-front : (p : ℕ) (cs ds : List Command) (ts : Traps) (k : ℕ) → k ≤ length cs → traps_before p (cs ++ ds) ts k ≡ traps_before p cs ts k
before-front p cs ds ts zero le = refl
before-front p [] ds ts (suc k) le = absurd (omega (arith, le))
before-front p (c ∷ cs) ds ts (suc k) le = before-front (suc p) cs ds (traps_past p c ts) k (omega (arith, le))

pub before-behind : (wants : List Traps) (p : ℕ) (cs ds : List Command) (ts mid : Traps) (k : ℕ) → AreNested wants p cs ts mid → traps_before p (cs ++ ds) ts (length cs + k) ≡ traps_before (p + length cs) ds mid k
before-behind wants p [] ds ts mid k h =
    ap (traps_before p ds ts) (let e : 0 + k ≡ k = omega arith in e) ∙ ap (λ q. traps_before q ds ts k) (sym (none-on p)) ∙ ap (λ s. traps_before (p + 0) ds s k) h
before-behind wants p (c ∷ cs) ds ts mid k h =
    ap (traps_before p (c ∷ (cs ++ ds)) ts) (let e : length (c ∷ cs) + k ≡ suc (length cs + k) = omega arith in e) ∙ before-behind wants (suc p) cs ds (traps_past p c ts) mid k h.1
    ∙ ap (λ q. traps_before q ds mid k) (sym (one-on p (length cs)))

pub before-end : (wants : List Traps) (p : ℕ) (cs : List Command) (ts end : Traps) → AreNested wants p cs ts end → traps_before p cs ts (length cs) ≡ end
before-end wants p [] ts end h = h
before-end wants p (c ∷ cs) ts end h = before-end wants (suc p) cs (traps_past p c ts) end h.1

-- the command at a place is nested in the traps that are open before it
pub nested-at : (wants : List Traps) (p : ℕ) (cs : List Command) (ts end : Traps) (k : ℕ) (c : Command) → AreNested wants p cs ts end → slice_get cs k ≡ Some c → IsNested wants c (traps_before p cs ts k)
nested-at wants p [] ts end k c h e = absurd (let bad : ⊥ = cc in bad)
nested-at wants p (d ∷ cs) ts end zero c h e = subst (λ x. IsNested wants x ts) (let is : d ≡ c = cc in is) h.0
nested-at wants p (d ∷ cs) ts end (suc k) c h e = nested-at wants (suc p) cs (traps_past p d ts) end k c h.1 e

pub before-next : (p : ℕ) (cs : List Command) (ts : Traps) (k : ℕ) (c : Command) → slice_get cs k ≡ Some c → traps_before p cs ts (suc k) ≡ traps_past (p + k) c (traps_before p cs ts k)
before-next p [] ts k c e = absurd (let bad : ⊥ = cc in bad)
before-next p (d ∷ cs) ts zero c e = ap (λ x. traps_past p x ts) (let is : d ≡ c = cc in is) ∙ ap (λ q. traps_past q c ts) (sym (none-on p))
before-next p (d ∷ cs) ts (suc k) c e = before-next (suc p) cs (traps_past p d ts) k c e ∙ ap (λ q. traps_past q c (traps_before (suc p) cs (traps_past p d ts) k)) (sym (one-on p k))

-- ---- labels that get their places later

-- what has a place now has had it, or got one that is no less than this
abbrev pub Later : Making → Making → Type 0
Later m n = (l to : ℕ) → slice_get n.labels l ≡ Some (Some to) → (slice_get m.labels l ≡ Some (Some to)) ⊎ (length m.steps ≤ to)

abbrev pub KeepsSteps : Making → Making → Type 0
KeepsSteps m n = (q : ℕ) (c : Command) → slice_get m.steps q ≡ Some c → slice_get n.steps q ≡ Some c

pub ahead-later : (m n : Making) → Later m n → KeepsSteps m n → (p : ℕ) (cs : List Command) → p + length cs ≤ length m.steps → AreAhead m p cs → AreAhead n p cs
ahead-later m n later keeps p [] le h = tt
ahead-later m n later keeps p (c ∷ cs) le h = (names-so (IsAhead m p) (IsAhead n p) ahead c h.0, ahead-later m n later keeps (suc p) cs (omega (arith, le)) h.1)
  where
    behind : (to : ℕ) → (p < to) ⊎ (slice_get m.steps to ≡ Some (Do Tick)) → (p < to) ⊎ (slice_get n.steps to ≡ Some (Do Tick))
    behind to (inl lt) = inl lt
    behind to (inr is) = inr (keeps to (Do Tick) is)

    ahead : (l : ℕ) → IsAhead m p l → IsAhead n p l
    ahead l a to e = by (later l to e)
      where
        by : (slice_get m.labels l ≡ Some (Some to)) ⊎ (length m.steps ≤ to) → (p < to) ⊎ (slice_get n.steps to ≡ Some (Do Tick))
        by (inl was) = behind to (a to was)
        by (inr ge) = inl (omega (arith, le, ge))

pub ahead-both : (m : Making) (p : ℕ) (cs ds : List Command) → AreAhead m p cs → AreAhead m (p + length cs) ds → AreAhead m p (cs ++ ds)
ahead-both m p [] ds h k = subst (λ q. AreAhead m q ds) (none-on p) k
ahead-both m p (c ∷ cs) ds h k = (h.0, ahead-both m (suc p) cs ds h.1 (subst (λ q. AreAhead m q ds) (one-on p (length cs)) k))

pub ahead-at : (m : Making) (p : ℕ) (cs : List Command) (k : ℕ) (c : Command) → AreAhead m p cs → slice_get cs k ≡ Some c → Names (IsAhead m (p + k)) c
ahead-at m p [] k c h e = absurd (let bad : ⊥ = cc in bad)
ahead-at m p (d ∷ cs) zero c h e = subst (λ q. Names (IsAhead m q) c) (sym (none-on p)) (subst (Names (IsAhead m p)) (let is : d ≡ c = cc in is) h.0)
ahead-at m p (d ∷ cs) (suc k) c h e = subst (λ q. Names (IsAhead m q) c) (sym (one-on p k)) (ahead-at m (suc p) cs k c h.1 e)
