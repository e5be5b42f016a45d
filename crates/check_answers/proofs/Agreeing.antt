-- From runs of one check to what is said of a need.
use Rattle.std.proofs.Common.{◌⊎◌, ◌<◌, List, length, inl, inr, arith, refl, sym, subst}
use Rattle.bal_base.specs.declared.limits.TheConstants.{MOST_ATOMS}
use Rattle.checks.specs.Agreement.{Alike, Corresponds}
use Rattle.checks.specs.Checks.{Gives, Refuses}
use Rattle.descriptors.specs.declared.names.Names.{Names}
use Rattle.descriptors.specs.Steps.{AreNames}
use Rattle.type_model.specs.declared.answers.TypeLimit.{TypeLimit}
use Rattle.type_model.specs.declared.atoms.AtomDef.{AtomDef}
use Rattle.type_model.specs.Calls.{Asked}
use Rattle.type_model.specs.Defined.{IsClosed}
use Rattle.expr_needs.specs.Needs.{Need}
use Rattle.check_words.specs.Meets.{meets}
use Rattle.check_words.specs.State.{State}
use Rattle.check_words.specs.Words.{Atoms}
use Rattle.check_answers.specs.Answers.{Agrees, Twins, TwinsOver}
use Rattle.check_answers.specs.TwinStates.{StateTwins}
use Rattle.check_answers.specs.TwinTypes.{SettledTwins, TwinAtoms, TwinTypes}
use Rattle.check_answers.proofs.Fixed.{These}
use Rattle.check_answers.proofs.Leading.{Any2, Leads, leads-from, leads-to}
use Rattle.check_answers.proofs.Questions.{Before, Behind, stays}
use Rattle.check_answers.proofs.Settling.{state-settled}

-- where no atoms are added
pub behind-over : (m n : Atoms) (s t : State) → TwinAtoms m n → Behind m n s t → TwinsOver s t
behind-over m n s t twins p =
    record {
      atoms = subst (λ k. TwinAtoms k t.atoms) (sym p.first) (subst (TwinAtoms m) (sym p.second) twins);
      states = subst (λ k. StateTwins (SettledTwins k t.atoms) (TwinTypes k t.atoms) s t) (sym p.first)
          (subst (λ k. StateTwins (SettledTwins m k) (TwinTypes m k) s t) (sym p.second) p.states);
    }

-- more atoms than there may be
abbrev pub HasTooMany : State → Type 0
HasTooMany s = MOST_ATOMS < length s.atoms

-- twins, or one has too many atoms
abbrev pub Within : Corresponds State (Unit {0}) (Unit {0})
Within s u t v = TwinsOver s t ⊎ (HasTooMany s ⊎ HasTooMany t)

module _ (passes : List AtomDef → Asked → TypeLimit → Type 0) (names : Names) (need : Need) where
  -- how a need begins
  begins : (s t : State) → Twins names s t → Before s.atoms t.atoms s t
  begins s t p = record { first = refl; second = refl; states = state-settled s t p.first.stands p.second.stands p.over.states }

  begins-these : (s t i j : State) → Twins names s t → These s t i j → Before s.atoms t.atoms i j
  begins-these s t i j p e = subst (λ k. Before s.atoms t.atoms k j) (sym e.0) (subst (Before s.atoms t.atoms s) (sym e.1) (begins s t p))

  abbrev pub Over : State → State → Type 0
  Over s t = Leads (These s t) TwinsOver Any2 (meets passes names need) (meets passes names need)

  -- a need of which two runs lead to twins
  pub agrees-over : ((s t : State) → Twins names s t → Over s t) → Agrees passes names need
  agrees-over f s t p (Gives a) (Gives b) s2 t2 x y =
      let r = f s t p s t (refl, refl) (Gives a) (Gives b) s2 t2 x.0 y.0 in record { over = r.0; first = x.1 p.first; second = y.1 p.second }
  agrees-over f s t p (Gives a) (Refuses g) s2 t2 x y = f s t p s t (refl, refl) (Gives a) (Refuses g) s2 t2 x.0 y.0
  agrees-over f s t p (Refuses g) (Gives b) s2 t2 x y = f s t p s t (refl, refl) (Refuses g) (Gives b) s2 t2 x.0 y.0
  agrees-over f s t p (Refuses g) (Refuses h) s2 t2 x y = f s t p s t (refl, refl) (Refuses g) (Refuses h) s2 t2 x.0 y.0

  -- one that adds no atoms
  pub agrees-behind : ((m n : Atoms) → TwinAtoms m n → Leads (Before m n) (Behind m n) Any2 (meets passes names need) (meets passes names need)) → Agrees passes names need
  agrees-behind f =
      agrees-over (λ s t p. leads-to (These s t) (Behind s.atoms t.atoms) TwinsOver Any2 Any2 _ _
      (λ i j a b h k. (behind-over s.atoms t.atoms i j p.over.atoms h, tt))
      (leads-from (These s t) (Before s.atoms t.atoms) (Behind s.atoms t.atoms) Any2 _ _ (λ i j e. begins-these s t i j p e) (f s.atoms t.atoms p.over.atoms)))

  -- one behind which types are as settled as before
  pub agrees-before : ((m n : Atoms) → TwinAtoms m n → Leads (Before m n) (Before m n) Any2 (meets passes names need) (meets passes names need)) → Agrees passes names need
  agrees-before f = agrees-behind (λ m n twins. stays m n Any2 _ _ (f m n twins))

  -- one that looks at the states from which it begins
  pub agrees-these : ((s t : State) → Before s.atoms t.atoms s t → TwinAtoms s.atoms t.atoms
      → Leads (These s t) (Behind s.atoms t.atoms) Any2 (meets passes names need) (meets passes names need)) → Agrees passes names need
  agrees-these f =
      agrees-over (λ s t p. leads-to (These s t) (Behind s.atoms t.atoms) TwinsOver Any2 Any2 _ _
      (λ i j a b h k. (behind-over s.atoms t.atoms i j p.over.atoms h, tt)) (f s t (begins s t p) p.over.atoms))

  -- one that adds atoms, and looks up what names stand for
  pub agrees-named : ((m n : Atoms) → IsClosed m → IsClosed n → TwinAtoms m n → AreNames m names → AreNames n names
      → Leads (Before m n) TwinsOver Any2 (meets passes names need) (meets passes names need)) → Agrees passes names need
  agrees-named f =
      agrees-over (λ s t p. leads-from (These s t) (Before s.atoms t.atoms) TwinsOver Any2 _ _ (λ i j e. begins-these s t i j p e)
      (f s.atoms t.atoms p.first.env.closed p.second.env.closed p.over.atoms p.first.named p.second.named))

  -- one that adds atoms
  pub agrees-grown : ((m n : Atoms) → IsClosed m → IsClosed n → TwinAtoms m n → Leads (Before m n) TwinsOver Any2 (meets passes names need) (meets passes names need))
      → Agrees passes names need
  agrees-grown f = agrees-named (λ m n a b c d e. f m n a b c)

  -- one of which one run may add too many atoms, which no run does that is meant
  pub agrees-within : ((m n : Atoms) → IsClosed m → IsClosed n → TwinAtoms m n → AreNames m names → AreNames n names → (s t : State) → Before m n s t
      → Alike Within s t (meets passes names need) (meets passes names need)) → Agrees passes names need
  agrees-within f s t p (Gives a) (Gives b) s2 t2 x y = by (goes (Gives a) (Gives b) s2 t2 x.0 y.0)
    where
      goes : Alike Within s t (meets passes names need) (meets passes names need)
      goes = f s.atoms t.atoms p.first.env.closed p.second.env.closed p.over.atoms p.first.named p.second.named s t (begins s t p)

      by : TwinsOver s2 t2 ⊎ (HasTooMany s2 ⊎ HasTooMany t2) → Twins names s2 t2
      by (inl r) = record { over = r; first = x.1 p.first; second = y.1 p.second }
      by (inr (inl r)) = let w = x.1 p.first in let k = w.env.bound in absurd (omega (arith, r, k))
      by (inr (inr r)) = let w = y.1 p.second in let k = w.env.bound in absurd (omega (arith, r, k))
  agrees-within f s t p (Gives a) (Refuses g) s2 t2 x y =
      f s.atoms t.atoms p.first.env.closed p.second.env.closed p.over.atoms p.first.named p.second.named s t (begins s t p) (Gives a) (Refuses g) s2 t2 x.0 y.0
  agrees-within f s t p (Refuses g) (Gives b) s2 t2 x y =
      f s.atoms t.atoms p.first.env.closed p.second.env.closed p.over.atoms p.first.named p.second.named s t (begins s t p) (Refuses g) (Gives b) s2 t2 x.0 y.0
  agrees-within f s t p (Refuses g) (Refuses h) s2 t2 x y =
      f s.atoms t.atoms p.first.env.closed p.second.env.closed p.over.atoms p.first.named p.second.named s t (begins s t p) (Refuses g) (Refuses h) s2 t2 x.0 y.0
