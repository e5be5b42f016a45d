-- The words of rows leave one thing at most.
use Rattle.std.proofs.Common.{◌≡◌, ◌⊎◌, ◌↔◌, ℕ, ℤ, Bool, true, false, List, [], ◌∷◌, Option, Some, None, IsSomeAnd, refl, sym, ap, ◌∙◌, ⊎_elim}
use Rattle.std.specs.Prelude.{IsTrue}
use Rattle.bal_base.specs.declared.text.Text.{Text}
use Rattle.value_model.specs.declared.value.Value.{Value}
use Rattle.value_model.specs.declared.value.Value.TheVariants.{Nil, Bool as Truth, Int, Str, Struct, Error, Function, Future}
use Rattle.value_model.specs.Heap.{Structure, Members, Items, Entries}
use Rattle.value_model.specs.World.{World, Came}
use Rattle.op_model.specs.Rows.{Where, Unless, Else, Tells, GivesInt, GivesText, GivesList, HasItems, HasEntries, ListAt, MappingAt, gives}
use Rattle.op_model.specs.Operands.{NoOperand, One, Two, Three, OneAndMore, AnInt, AString, ABoolean, AStructure, AnError, AFunction, AFuture}

-- at most one thing has the property
abbrev pub IsOne : {A : Type 0} → (A → Type 0) → Type 0
IsOne {A} P = (x y : A) → P x → P y → x ≡ y

-- ---- rows

pub Else-one : {A : Type 0} (a : A) → IsOne (Else a)
Else-one a x y h k = h ∙ sym k

pub Where-one : {A : Type 0} (P : Type 0) (a : A) (behind : A → Type 0) → IsOne behind → IsOne (Where P a behind)
Where-one P a behind one x y h k =
    ⊎_elim (λ u. ⊎_elim (λ v. u.1 ∙ sym v.1) (λ v. absurd (v.0 u.0)) k) (λ u. ⊎_elim (λ v. absurd (u.0 v.0)) (λ v. one x y u.1 v.1) k) h

pub Unless-one : {A : Type 0} (P : Type 0) (a : A) (behind : A → Type 0) → IsOne behind → IsOne (Unless P a behind)
Unless-one P a behind one x y h k =
    ⊎_elim (λ u. ⊎_elim (λ v. one x y u.1 v.1) (λ v. absurd (v.0 u.0)) k) (λ u. ⊎_elim (λ v. absurd (u.0 v.0)) (λ v. u.1 ∙ sym v.1) k) h

same-bool : (a b : Bool) → (IsTrue a → IsTrue b) → (IsTrue b → IsTrue a) → a ≡ b
same-bool true true f g = refl
same-bool false false f g = refl
same-bool true false f g = sym (f refl)
same-bool false true f g = g refl

pub Tells-one : (w : World) (P : Type 0) → IsOne (Tells w P)
Tells-one w P x y (a, p, q) (b, r, s) = q ∙ (ap (λ z. gives w (Truth z)) (same-bool a b (λ t. r.1 (p.0 t)) (λ t. p.1 (r.0 t))) ∙ sym s)

-- ---- operands

module _ {A : Type 0} where
  pub Some-one : {X : Type 0} (o : Option X) (P : X → A → Type 0) → ((z : X) → IsOne (P z)) → IsOne (λ a. IsSomeAnd o (λ z. P z a))
  Some-one None P one x y h k = absurd h
  Some-one (Some z) P one x y h k = one z x y h k

  pub HasItems-one : (m : Members) (P : List Value → A → Type 0) → ((vs : List Value) → IsOne (P vs)) → IsOne (λ a. HasItems (λ vs. P vs a) m)
  HasItems-one (Items vs) P one x y h k = one vs x y h k
  HasItems-one (Entries es) P one x y h k = absurd h

  pub HasEntries-one : (m : Members) (P : List (Text × Value) → A → Type 0) → ((es : List (Text × Value)) → IsOne (P es)) → IsOne (λ a. HasEntries (λ es. P es a) m)
  HasEntries-one (Items vs) P one x y h k = absurd h
  HasEntries-one (Entries es) P one x y h k = one es x y h k

  pub NoOperand-one : (vs : List Value) (P : A → Type 0) → IsOne P → IsOne (λ a. NoOperand vs (P a))
  NoOperand-one [] P one x y h k = one x y h k
  NoOperand-one (v ∷ vs) P one x y h k = absurd h

  pub One-one : (vs : List Value) (P : Value → A → Type 0) → ((v : Value) → IsOne (P v)) → IsOne (λ a. One vs (λ v. P v a))
  One-one (v ∷ []) P one x y h k = one v x y h k
  One-one _ P one x y h k = absurd h

  pub Two-one : (vs : List Value) (P : Value → Value → A → Type 0) → ((v w : Value) → IsOne (P v w)) → IsOne (λ a. Two vs (λ v w. P v w a))
  Two-one (v ∷ w ∷ []) P one x y h k = one v w x y h k
  Two-one _ P one x y h k = absurd h

  pub Three-one : (vs : List Value) (P : Value → Value → Value → A → Type 0) → ((v w u : Value) → IsOne (P v w u)) → IsOne (λ a. Three vs (λ v w u. P v w u a))
  Three-one (v ∷ w ∷ u ∷ []) P one x y h k = one v w u x y h k
  Three-one _ P one x y h k = absurd h

  pub OneAndMore-one : (vs : List Value) (P : Value → List Value → A → Type 0) → ((v : Value) (ws : List Value) → IsOne (P v ws)) → IsOne (λ a. OneAndMore vs (λ v ws. P v ws a))
  OneAndMore-one [] P one x y h k = absurd h
  OneAndMore-one (v ∷ ws) P one x y h k = one v ws x y h k

  pub AnInt-one : (v : Value) (P : ℤ → A → Type 0) → ((n : ℤ) → IsOne (P n)) → IsOne (λ a. AnInt v (λ n. P n a))
  AnInt-one (Int n) P one x y h k = one n x y h k
  AnInt-one _ P one x y h k = absurd h

  pub AString-one : (v : Value) (P : Text → A → Type 0) → ((t : Text) → IsOne (P t)) → IsOne (λ a. AString v (λ t. P t a))
  AString-one (Str t) P one x y h k = one t x y h k
  AString-one _ P one x y h k = absurd h

  pub ABoolean-one : (v : Value) (P : Bool → A → Type 0) → ((b : Bool) → IsOne (P b)) → IsOne (λ a. ABoolean v (λ b. P b a))
  ABoolean-one (Truth b) P one x y h k = one b x y h k
  ABoolean-one _ P one x y h k = absurd h

  pub AStructure-one : (v : Value) (P : ℕ → A → Type 0) → ((n : ℕ) → IsOne (P n)) → IsOne (λ a. AStructure v (λ n. P n a))
  AStructure-one (Struct n) P one x y h k = one n x y h k
  AStructure-one _ P one x y h k = absurd h

  pub AnError-one : (v : Value) (P : ℕ → A → Type 0) → ((n : ℕ) → IsOne (P n)) → IsOne (λ a. AnError v (λ n. P n a))
  AnError-one (Error n) P one x y h k = one n x y h k
  AnError-one _ P one x y h k = absurd h

  pub AFunction-one : (v : Value) (P : ℕ → A → Type 0) → ((n : ℕ) → IsOne (P n)) → IsOne (λ a. AFunction v (λ n. P n a))
  AFunction-one (Function n) P one x y h k = one n x y h k
  AFunction-one _ P one x y h k = absurd h

  pub AFuture-one : (v : Value) (P : ℕ → A → Type 0) → ((n : ℕ) → IsOne (P n)) → IsOne (λ a. AFuture v (λ n. P n a))
  AFuture-one (Future strand unit) P one x y h k = one strand x y h k
  AFuture-one _ P one x y h k = absurd h

  pub ListAt-one : (w : World) (n : ℕ) (P : Structure → List Value → A → Type 0) → ((s : Structure) (vs : List Value) → IsOne (P s vs)) → IsOne (λ a. ListAt w n (λ s vs. P s vs a))
  ListAt-one w n P one = Some-one _ (λ s a. HasItems (λ vs. P s vs a) s.members) (λ s. HasItems-one s.members (P s) (one s))

  pub MappingAt-one : (w : World) (n : ℕ) (P : Structure → List (Text × Value) → A → Type 0) → ((s : Structure) (es : List (Text × Value)) → IsOne (P s es)) → IsOne (λ a. MappingAt w n (λ s es. P s es a))
  MappingAt-one w n P one = Some-one _ (λ s a. HasEntries (λ es. P s es a) s.members) (λ s. HasEntries-one s.members (P s) (one s))

-- ---- what is given

pub GivesInt-one : (w : World) (n : ℤ) → IsOne (GivesInt w n)
GivesInt-one w n = Unless-one _ _ _ (Else-one _)

pub GivesText-one : (w : World) (t : Text) → IsOne (GivesText w t)
GivesText-one w t = Unless-one _ _ _ (Else-one _)

pub GivesList-one : (w : World) (atom : ℕ) (vs : List Value) → IsOne (GivesList w atom vs)
GivesList-one w atom vs = Unless-one _ _ _ (Else-one _)
