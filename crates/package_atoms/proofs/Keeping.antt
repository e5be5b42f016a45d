-- Checks of a state that keep what holds of what was found, and take no atom away.
use Rattle.std.proofs.Common.{◌≡◌, ◌≤◌, Bool, true, false, List, Option, length, arith, sym, subst, ap}
use Rattle.bal_base.specs.declared.fault.Fault.{Fault}
use Rattle.bal_base.specs.declared.fault.FaultCode.{FaultCode}
use Rattle.bal_base.specs.declared.place.Place.{Place}
use Rattle.checks.specs.Checks.{Check, Gives, Outcome, either, gives, gives_some, refuses, ◌▷◌}
use Rattle.needs.specs.Needs.{asks, does}
use Rattle.typed_tree.specs.declared.expr.TypedExpr.{TypedExpr}
use Rattle.typed_tree.specs.SharedTypes.{Shared}
use Rattle.check_words.specs.State.{BlockAtWork, Done, InitialiserAtWork, MatchAtWork, State, UnitAtWork}
use Rattle.check_words.specs.Words.{Atoms, asking, becomes, by_handles, unless}

-- what of a state matters here
pub record Core : Type 0 where
  pub found : List TypedExpr
  pub wants : List (Option Shared)
  pub blocks : List BlockAtWork
  pub matches : List MatchAtWork
  pub units : List UnitAtWork
  pub initialiser : Option InitialiserAtWork
  pub done : Done

abbrev pub core : State → Core
core s =
    record {
      found = s.found;
      wants = s.wants;
      blocks = s.blocks;
      matches = s.matches;
      units = s.units;
      initialiser = s.initialiser;
      done = s.done;
    }

abbrev pub Any : {A : Type 0} → A → Type 0
Any a = Unit {0}

-- No atom is taken away; and where this is so, and I holds before, J holds behind, and Q of what it gives.
pub record Keeps {A : Type 0} (I : Core → Type 0) (so : Type 0) (m : Check State A) (Q : A → Type 0) (J : Core → Type 0) : Type 0 where
  pub run : (old new : State) (a : A) → m old (Gives a) new → (length old.atoms ≤ length new.atoms) × (so → I (core old) → J (core new) × Q a)

-- a question takes no atom away, whatever it comes to
abbrev pub Grows : {A : Type 0} → Check Atoms A → Type 0
Grows {A} question = (old new : Atoms) (o : Outcome A) → question old o new → length old ≤ length new

-- ---- one behind another

module _ {A B : Type 0} {I J K : Core → Type 0} {so : Type 0} {m : Check State A} {next : A → Check State B} {Q : A → Type 0} {R : B → Type 0} where
  behind-run : Keeps I so m Q J → ((a : A) → Keeps J so (next a) R K) → (old new : State) (b : B) → (m ▷ next) old (Gives b) new
      → (length old.atoms ≤ length new.atoms) × (so → I (core old) → K (core new) × R b)
  unfolding ◌▷◌
  behind-run f g old new b (a, mid, x, y) =
      let p = f.run old mid a x in
      let q = (g a).run mid new b y in
      (omega (arith, p.0, q.0), λ c i. q.1 c (p.1 c i).0)

  pub behind : Keeps I so m Q J → ((a : A) → Keeps J so (next a) R K) → Keeps I so (m ▷ next) R K
  behind f g = record { run = behind-run f g }

  knowing-run : Keeps I so m Q J → ((a : A) → Keeps J (so × Q a) (next a) R K) → (old new : State) (b : B) → (m ▷ next) old (Gives b) new
      → (length old.atoms ≤ length new.atoms) × (so → I (core old) → K (core new) × R b)
  unfolding ◌▷◌
  knowing-run f g old new b (a, mid, x, y) =
      let p = f.run old mid a x in
      let q = (g a).run mid new b y in
      (omega (arith, p.0, q.0), λ c i. let h = p.1 c i in q.1 (c, h.1) h.0)

  -- where the next one takes what holds of what the first one gives
  pub knowing : Keeps I so m Q J → ((a : A) → Keeps J (so × Q a) (next a) R K) → Keeps I so (m ▷ next) R K
  knowing f g = record { run = knowing-run f g }

-- what holds before may be more than is needed
pub forgetting : {A : Type 0} {I J : Core → Type 0} {so : Type 0} {m : Check State A} {Q : A → Type 0} (K : Core → Type 0) → ((k : Core) → K k → I k)
    → Keeps I so m Q J → Keeps K so m Q J
forgetting K weaker f = record { run = λ old new a x. let p = f.run old new a x in (p.0, λ c i. p.1 c (weaker (core old) i)) }

pub one-of : {A : Type 0} {I J : Core → Type 0} {so : Type 0} {m n : Check State A} {Q : A → Type 0} (b : Bool) → Keeps I so m Q J → Keeps I so n Q J
    → Keeps I so (either b m n) Q J
one-of true f g = f
one-of false f g = g

-- ---- single checks

module _ {A : Type 0} (I : Core → Type 0) (so : Type 0) where
  chosen-run : (P : State → A → Type 0) (Q : A → Type 0) → ((old : State) (a : A) → P old a → so → I (core old) → Q a)
      → (old new : State) (a : A) → gives_some P old (Gives a) new → (length old.atoms ≤ length new.atoms) × (so → I (core old) → I (core new) × Q a)
  unfolding gives_some
  chosen-run P Q f old new a (x, e) =
      (omega (arith, ap (λ (s : State). length s.atoms) e), λ c i. (subst I (sym (ap core e)) i, f old a x c i))

  -- something of which P holds, and Q then
  pub chosen-as : (P : State → A → Type 0) (Q : A → Type 0) → ((old : State) (a : A) → P old a → so → I (core old) → Q a) → Keeps I so (gives_some P) Q I
  chosen-as P Q f = record { run = chosen-run P Q f }

  pub chosen : (P : State → A → Type 0) → Keeps I so (gives_some P) Any I
  chosen P = chosen-as P Any (λ old a x c i. tt)

  pub given : (a : A) (Q : A → Type 0) → (so → Q a) → Keeps I so (gives a) Q I
  given a Q f = chosen-as _ Q (λ old b e c i. subst Q (sym e) (f c))

  refused-run : (P : State → Fault → Type 0) (old new : State) (a : A) → refuses P old (Gives a) new → ⊥
  unfolding refuses
  refused-run P old new a x = x

  pub refused : (P : State → Fault → Type 0) (Q : A → Type 0) (J : Core → Type 0) → Keeps I so (refuses P) Q J
  refused P Q J = record { run = λ old new a x. absurd (refused-run P old new a x) }

  none-run : (old new : State) (a : A) → gives_some {S = State} {A = A} (λ s b. ⊥) old (Gives a) new → ⊥
  unfolding gives_some
  none-run old new a x = x.0

  pub none-chosen : (Q : A → Type 0) (J : Core → Type 0) → Keeps I so (gives_some (λ s b. ⊥)) Q J
  none-chosen Q J = record { run = λ old new a x. absurd (none-run old new a x) }

  handled-run : (Same : A → A → Type 0) (a : A) (Q : A → Type 0) → ((b : A) → Same a b → so → Q b)
      → (old new : State) (b : A) → by_handles Same a old (Gives b) new → (length old.atoms ≤ length new.atoms) × (so → I (core old) → I (core new) × Q b)
  unfolding by_handles
  handled-run Same a Q f old new b (x, e) =
      (omega (arith, ap (λ (s : State). length s.atoms) e), λ c i. (subst I (sym (ap core e)) i, f b x c))

  -- the same thing by other handles
  pub handled : (Same : A → A → Type 0) (a : A) (Q : A → Type 0) → ((b : A) → Same a b → so → Q b) → Keeps I so (by_handles Same a) Q I
  handled Same a Q f = record { run = handled-run Same a Q f }

  asked-run : (question : Check Atoms A) → Grows question
      → (old new : State) (a : A) → asking question old (Gives a) new → (length old.atoms ≤ length new.atoms) × (so → I (core old) → I (core new) × Unit {0})
  unfolding asks
  asked-run question f old new a (x, e) = (f old.atoms new.atoms (Gives a) x, λ c i. (subst I (sym (ap core e)) i, tt))

  -- a question over the atoms
  pub asked : (question : Check Atoms A) → Grows question → Keeps I so (asking question) Any I
  asked question f = record { run = asked-run question f }

module _ (I : Core → Type 0) (so : Type 0) where
  becoming-run : (J : Core → Type 0) (change : State → State) → ((old : State) → (change old).atoms ≡ old.atoms)
      → ((old : State) → so → I (core old) → J (core (change old)))
      → (old new : State) (u : Unit {0}) → becomes change old (Gives u) new → (length old.atoms ≤ length new.atoms) × (so → I (core old) → J (core new) × Unit {0})
  unfolding does
  becoming-run J change same f old new u e =
      (omega (arith, ap (λ (s : State). length s.atoms) e, ap length (same old)), λ c i. (subst J (sym (ap core e)) (f old c i), tt))

  pub becoming : (J : Core → Type 0) (change : State → State) → ((old : State) → (change old).atoms ≡ old.atoms)
      → ((old : State) → so → I (core old) → J (core (change old))) → Keeps I so (becomes change) Any J
  becoming J change same f = record { run = becoming-run J change same f }

  -- what changes is of no account
  pub elsewhere : (change : State → State) → ((old : State) → (change old).atoms ≡ old.atoms) → ((old : State) → core (change old) ≡ core old)
      → Keeps I so (becomes change) Any I
  elsewhere change same others = becoming I change same (λ old c i. subst I (sym (others old)) i)

  pub tested : (code : FaultCode) (at : Place) (b : Bool) → Keeps I so (unless b code at) Any I
  tested code at true = chosen I so _
  tested code at false = refused I so _ Any I
