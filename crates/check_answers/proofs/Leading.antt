-- Two runs of checks of states: from states that correspond in one way both lead to states that correspond in another one.
use Rattle.std.proofs.Common.{◌≡◌, Bool, true, false, inl, inr, sym, subst, ◌∙◌}
use Rattle.bal_base.specs.declared.fault.FaultCode.{FaultCode}
use Rattle.bal_base.specs.declared.place.Place.{Place}
use Rattle.checks.specs.Agreement.{Alike, BothKeep, Corresponds}
use Rattle.checks.specs.Checks.{Check, Gives, Outcome, Refuses, either, gives, gives_some, refuses, ◌▷◌}
use Rattle.checks.proofs.Alike.{▷-alike}
use Rattle.needs.specs.Needs.{asks, does}
use Rattle.check_words.specs.State.{State}
use Rattle.check_words.specs.Words.{Atoms, asking, becomes, by_handles, done, fails, some_over, unless}

-- which states correspond
abbrev pub Pairs : Type 1
Pairs = State → State → Type 0

-- states that correspond so, and answers that correspond so
abbrev pub Given : {A B : Type 0} → Pairs → (A → B → Type 0) → Corresponds State A B
Given G Q s a t b = G s t × Q a b

abbrev pub Leads : {A B : Type 0} → Pairs → Pairs → (A → B → Type 0) → Check State A → Check State B → Type 0
Leads F G Q c d = (s t : State) → F s t → Alike (Given G Q) s t c d

-- nothing is said of the answers
abbrev pub Any2 : {A B : Type 0} → A → B → Type 0
Any2 a b = Unit {0}

module _ {A B C D : Type 0} where
  pub leads-then : (F G H : Pairs) (Q : A → B → Type 0) (R : C → D → Type 0) (c : Check State A) (d : Check State B) (next : A → Check State C) (other : B → Check State D)
      → Leads F G Q c d → ((a : A) (b : B) → Q a b → Leads G H R (next a) (other b)) → Leads F H R (c ▷ next) (d ▷ other)
  leads-then F G H Q R c d next other f g s t p =
      ▷-alike (Given G Q) (Given H R) c d next other s t (f s t p) (λ a b mid mid2 r. g a b r.1 mid mid2 r.0)

module _ {A B : Type 0} where
  -- what corresponds in more ways
  pub leads-from : (E F G : Pairs) (Q : A → B → Type 0) (c : Check State A) (d : Check State B) → ((s t : State) → E s t → F s t) → Leads F G Q c d → Leads E G Q c d
  leads-from E F G Q c d e f s t p = f s t (e s t p)

  pub leads-to : (F G H : Pairs) (Q R : A → B → Type 0) (c : Check State A) (d : Check State B) → ((s t : State) (a : A) (b : B) → G s t → Q a b → H s t × R a b)
      → Leads F G Q c d → Leads F H R c d
  leads-to F G H Q R c d e f s t p (Gives a) (Gives b) m2 n2 x y = let r = f s t p (Gives a) (Gives b) m2 n2 x y in e m2 n2 a b r.0 r.1
  leads-to F G H Q R c d e f s t p (Gives a) (Refuses g) m2 n2 x y = f s t p (Gives a) (Refuses g) m2 n2 x y
  leads-to F G H Q R c d e f s t p (Refuses g) (Gives b) m2 n2 x y = f s t p (Refuses g) (Gives b) m2 n2 x y
  leads-to F G H Q R c d e f s t p (Refuses g) (Refuses h) m2 n2 x y = f s t p (Refuses g) (Refuses h) m2 n2 x y

  pub leads-some : (F : Pairs) (Q : A → B → Type 0) (P : State → A → Type 0) (R : State → B → Type 0)
      → ((s t : State) (a : A) (b : B) → F s t → P s a → R t b → Q a b) → Leads F F Q (gives_some P) (gives_some R)
  unfolding gives_some
  leads-some F Q P R f s t p (Gives a) (Gives b) m2 n2 x y =
      (subst (λ k. F k n2) (sym x.1) (subst (F s) (sym y.1) p), f s t a b p x.0 y.0)
  leads-some F Q P R f s t p (Gives a) (Refuses g) m2 n2 x y = absurd y
  leads-some F Q P R f s t p (Refuses g) o m2 n2 x y = absurd x

  pub leads-gives : (F : Pairs) (Q : A → B → Type 0) (a : A) (b : B) → Q a b → Leads F F Q (gives a) (gives b)
  leads-gives F Q a b q = leads-some F Q _ _ (λ s t x y p e f. subst (λ k. Q k y) (sym e) (subst (Q a) (sym f) q))

  -- the fault of the one is that of the other
  pub leads-fails : (F G : Pairs) (Q : A → B → Type 0) (code : FaultCode) (at : Place) → Leads F G Q (fails code at) (fails code at)
  unfolding refuses
  leads-fails F G Q code at s t p (Gives a) o m2 n2 x y = absurd x
  leads-fails F G Q code at s t p (Refuses f) (Gives b) m2 n2 x y = absurd y
  leads-fails F G Q code at s t p (Refuses f) (Refuses g) m2 n2 x y =
      inr (inr (record { code = x.0.has_code ∙ sym y.0.has_code; at = x.0.stands ∙ sym y.0.stands }))

  pub leads-nothing : (F G : Pairs) (Q : A → B → Type 0) (d : Check State B) → Leads F G Q (gives_some {S = State} {A = A} (λ s a. ⊥)) d
  unfolding gives_some
  leads-nothing F G Q d s t p (Gives a) o m2 n2 x y = absurd x.0
  leads-nothing F G Q d s t p (Refuses f) o m2 n2 x y = absurd x

  pub leads-either : (F G : Pairs) (Q : A → B → Type 0) (b c : Bool) (x y : Check State A) (u v : Check State B) → c ≡ b → Leads F G Q x u → Leads F G Q y v
      → Leads F G Q (either b x y) (either c u v)
  leads-either F G Q true true x y u v e f g = f
  leads-either F G Q false false x y u v e f g = g
  leads-either F G Q true false x y u v e f g = absurd (cc)
  leads-either F G Q false true x y u v e f g = absurd (cc)

  -- a question over the atoms, which changes nothing else
  pub leads-asks : (m n : Atoms) (F G : Pairs) (Q : A → B → Type 0) (R : Corresponds Atoms A B) (c : Check Atoms A) (d : Check Atoms B)
      → ((s t : State) → F s t → (s.atoms ≡ m) × (t.atoms ≡ n))
      → ((s t : State) (k l : Atoms) (a : A) (b : B) → F s t → R k a l b → G (record s { atoms = k }) (record t { atoms = l }) × Q a b)
      → Alike R m n c d → Leads F G Q (asking c) (asking d)
  unfolding asks
  leads-asks m n F G Q R c d at behind h s t p (Gives a) (Gives b) m2 n2 x y =
      let r = behind s t m2.atoms n2.atoms a b p (h (Gives a) (Gives b) m2.atoms n2.atoms (subst (λ k. c k (Gives a) m2.atoms) (at s t p).0 x.0)
      (subst (λ k. d k (Gives b) n2.atoms) (at s t p).1 y.0)) in
      (subst (λ k. G k n2) (sym x.1) (subst (G (record s { atoms = m2.atoms })) (sym y.1) r.0), r.1)
  leads-asks m n F G Q R c d at behind h s t p (Gives a) (Refuses g) m2 n2 x y =
      h (Gives a) (Refuses g) m2.atoms n2.atoms (subst (λ k. c k (Gives a) m2.atoms) (at s t p).0 x.0)
      (subst (λ k. d k (Refuses g) n2.atoms) (at s t p).1 y.0)
  leads-asks m n F G Q R c d at behind h s t p (Refuses f) (Gives b) m2 n2 x y =
      h (Refuses f) (Gives b) m2.atoms n2.atoms (subst (λ k. c k (Refuses f) m2.atoms) (at s t p).0 x.0)
      (subst (λ k. d k (Gives b) n2.atoms) (at s t p).1 y.0)
  leads-asks m n F G Q R c d at behind h s t p (Refuses f) (Refuses g) m2 n2 x y =
      h (Refuses f) (Refuses g) m2.atoms n2.atoms (subst (λ k. c k (Refuses f) m2.atoms) (at s t p).0 x.0)
      (subst (λ k. d k (Refuses g) n2.atoms) (at s t p).1 y.0)

  atoms-stay : (m n : Atoms) (F : Pairs) (Q : A → B → Type 0) → ((s t : State) → F s t → (s.atoms ≡ m) × (t.atoms ≡ n))
      → (s t : State) (k l : Atoms) (a : A) (b : B) → F s t → BothKeep m n Q k a l b → F (record s { atoms = k }) (record t { atoms = l }) × Q a b
  atoms-stay m n F Q at s t k l a b p r =
      let e : k ≡ s.atoms = r.1 ∙ sym (at s t p).0 in
      let f : l ≡ t.atoms = r.2 ∙ sym (at s t p).1 in
      (subst (λ i. F (record s { atoms = i }) (record t { atoms = l })) (sym e) (subst (λ i. F s (record t { atoms = i })) (sym f) p), r.0)

  -- one behind which the atoms stay too
  pub leads-asking : (m n : Atoms) (F : Pairs) (Q : A → B → Type 0) (c : Check Atoms A) (d : Check Atoms B)
      → ((s t : State) → F s t → (s.atoms ≡ m) × (t.atoms ≡ n)) → Alike (BothKeep m n Q) m n c d → Leads F F Q (asking c) (asking d)
  leads-asking m n F Q c d at h = leads-asks m n F F Q (BothKeep m n Q) c d at (atoms-stay m n F Q at) h

  -- something of which this holds over the atoms
  pub leads-over : (m n : Atoms) (F : Pairs) (Q : A → B → Type 0) (P : Atoms → A → Type 0) (R : Atoms → B → Type 0)
      → ((s t : State) → F s t → (s.atoms ≡ m) × (t.atoms ≡ n)) → ((a : A) (b : B) → P m a → R n b → Q a b)
      → Leads F F Q (some_over P) (some_over R)
  leads-over m n F Q P R at f =
      leads-some F Q _ _ (λ s t a b p x y. f a b (subst (λ k. P k a) (at s t p).0 x) (subst (λ k. R k b) (at s t p).1 y))

  -- by other handles
  pub leads-handles : (F : Pairs) (Q : A → B → Type 0) (Same : A → A → Type 0) (Like : B → B → Type 0) (a : A) (b : B)
      → ((x : A) (y : B) → Same a x → Like b y → Q x y) → Leads F F Q (by_handles Same a) (by_handles Like b)
  unfolding by_handles
  leads-handles F Q Same Like a b f s t p (Gives x) (Gives y) m2 n2 h k =
      (subst (λ i. F i n2) (sym h.1) (subst (F s) (sym k.1) p), f x y h.0 k.0)
  leads-handles F Q Same Like a b f s t p (Gives x) (Refuses g) m2 n2 h k = absurd k
  leads-handles F Q Same Like a b f s t p (Refuses g) o m2 n2 h k = absurd h

-- the states become others
pub leads-does : (F G : Pairs) (P R : State → State → Type 0) → ((s t new other : State) → F s t → P s new → R t other → G new other) → Leads F G Any2 (does P) (does R)
unfolding does
leads-does F G P R f s t p (Gives a) (Gives b) m2 n2 x y = (f s t m2 n2 p x y, tt)
leads-does F G P R f s t p (Gives a) (Refuses g) m2 n2 x y = absurd y
leads-does F G P R f s t p (Refuses g) o m2 n2 x y = absurd x

pub leads-becomes : (F G : Pairs) (change other : State → State) → ((s t : State) → F s t → G (change s) (other t)) → Leads F G Any2 (becomes change) (becomes other)
leads-becomes F G change other f =
    leads-does F G _ _ (λ s t new old p x y. subst (λ k. G k old) (sym x) (subst (G (change s)) (sym y) (f s t p)))

pub leads-done : (F : Pairs) → Leads F F Any2 done done
leads-done F = leads-gives F Any2 tt tt tt

pub leads-unless : (F : Pairs) (b c : Bool) (code : FaultCode) (at : Place) → c ≡ b → Leads F F Any2 (unless b code at) (unless c code at)
leads-unless F true true code at e = leads-done F
leads-unless F false false code at e = leads-fails F F Any2 code at
leads-unless F true false code at e = absurd (cc)
leads-unless F false true code at e = absurd (cc)

-- checks grouped otherwise
module _ {A B C : Type 0} where
  regrouped : (c : Check State A) (next : A → Check State B) (behind : B → Check State C) (s new : State) (o : Outcome C)
      → ((c ▷ next) ▷ behind) s o new → (c ▷ (λ a. next a ▷ behind)) s o new
  unfolding ◌▷◌
  regrouped c next behind s new (Gives z) (b, mid, (a, first, x, y), k) = (a, first, x, (b, mid, y, k))
  regrouped c next behind s new (Refuses f) (inl (inl x)) = inl x
  regrouped c next behind s new (Refuses f) (inl (inr (a, first, x, y))) = inr (a, first, x, inl y)
  regrouped c next behind s new (Refuses f) (inr (b, mid, (a, first, x, y), k)) = inr (a, first, x, inr (b, mid, y, k))

module _ {A B C K L N : Type 0} where
  pub leads-regroup : (F H : Pairs) (R : C → N → Type 0) (c : Check State A) (next : A → Check State B) (behind : B → Check State C)
      (d : Check State K) (other : K → Check State L) (rest : L → Check State N)
      → Leads F H R (c ▷ (λ a. next a ▷ behind)) (d ▷ (λ b. other b ▷ rest)) → Leads F H R ((c ▷ next) ▷ behind) ((d ▷ other) ▷ rest)
  leads-regroup F H R c next behind d other rest f s t p o q m2 n2 x y =
      f s t p o q m2 n2 (regrouped c next behind s m2 o x) (regrouped d other rest t n2 q y)
