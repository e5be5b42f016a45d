-- Types that descriptors describe, in the states of two runs: where atoms are added, what was at hand stays.
use Rattle.std.proofs.Common.{◌≡◌, ◌⊎◌, ◌++◌, ◌≤◌, Some, length, inl, inr, refl, sym, subst, ◌∙◌}
use Rattle.std.specs.Global.{Box}
use Rattle.bal_base.specs.declared.fault.Fault.{Fault}
use Rattle.bal_base.specs.declared.fault.FaultCode.TheVariants.{AtomLimit as TooManyAtoms}
use Rattle.bal_tree.specs.declared.types.TypeTree.{TypeTree}
use Rattle.checks.specs.Agreement.{Alike, Corresponds, IsLimit, SameFault}
use Rattle.checks.specs.Checks.{Check, Gives, Outcome, Refuses, gives_some, ◌▷◌}
use Rattle.checks.proofs.Alike.{▷-alike}
use Rattle.descriptors.specs.declared.names.Names.{Names}
use Rattle.descriptors.specs.declared.names.Scope.{Scope}
use Rattle.descriptors.specs.Described.{described_whole}
use Rattle.descriptors.specs.Descriptors.{descriptor_of}
use Rattle.descriptors.specs.Steps.{AreNames}
use Rattle.needs.specs.Needs.{asks}
use Rattle.type_model.specs.declared.basic.Ty.{Ty}
use Rattle.type_model.specs.Defined.{IsClosed}
use Rattle.typed_tree.specs.SharedTypes.{Shared}
use Rattle.check_words.specs.State.{State}
use Rattle.check_words.specs.Units.{descriptor_type}
use Rattle.check_words.specs.Values.{describes}
use Rattle.check_words.specs.Words.{Atoms, Step, asking, wants_some}
use Rattle.check_answers.specs.Answers.{TwinsOver}
use Rattle.check_answers.specs.TwinStates.{StateTwins}
use Rattle.check_answers.specs.TwinTypes.{SettledTwins, TwinAtoms, TwinTypes}
use Rattle.check_answers.proofs.Adding.{defs-later}
use Rattle.check_answers.proofs.Agreeing.{HasTooMany, behind-over}
use Rattle.check_answers.proofs.Descriptors.{go-whole, grows-whole}
use Rattle.check_answers.proofs.Growing.{settled-later}
use Rattle.check_answers.proofs.Lasting.{Fine, From, Go, Lasting, Together, fine-twins, from-same, from-then, now-so}
use Rattle.check_answers.proofs.Leading.{Any2, Given, Leads, leads-some, leads-then, leads-to}
use Rattle.check_answers.proofs.Mapping.{state-map}
use Rattle.check_answers.proofs.Meanings.{itself-twin}
use Rattle.check_answers.proofs.Questions.{Before, Behind, Equal}
use Rattle.check_answers.proofs.Setting.{with-atoms}
use Rattle.check_answers.proofs.Values.{wants-some-weak}

abbrev pub LastingShared : Atoms → Atoms → Shared → Shared → Type 0
LastingShared k l t u = Lasting k l t.value u.value

abbrev pub IsTooMany : Fault → Type 0
IsTooMany f = f.code ≡ TooManyAtoms

module _ (names : Names) where
  -- what the check came to, as what the question came to
  abbrev Ran : TypeTree → State → Outcome Shared → State → Type 0
  Ran tree s (Gives u) new = asking (described_whole names s.site.scope (descriptor_of tree)) s (Gives u.value) new
  Ran tree s (Refuses f) new = asking (described_whole names s.site.scope (descriptor_of tree)) s (Refuses f) new

  ran : (tree : Box TypeTree) (s : State) (o : Outcome Shared) (new : State) → descriptor_type names (Some tree) s o new → Ran tree.value s o new
  unfolding ◌▷◌ gives_some
  ran tree s (Gives u) new (site, mid, x, (t, behind, y, z)) =
      let at : (i : State) → i ≡ s → asking (described_whole names s.site.scope (descriptor_of tree.value)) i (Gives t) behind → asking (described_whole names s.site.scope (descriptor_of tree.value)) s (Gives t) behind =
      λ i e k. subst (λ (j : State). asking (described_whole names s.site.scope (descriptor_of tree.value)) j (Gives t) behind) e k in
      subst (λ (v : Ty). asking (described_whole names s.site.scope (descriptor_of tree.value)) s (Gives v) new) (sym z.0)
      (subst (λ (j : State). asking (described_whole names s.site.scope (descriptor_of tree.value)) s (Gives t) j) (sym z.1)
      (at mid x.1 (subst (λ i. asking (described_whole names i.scope (descriptor_of tree.value)) mid (Gives t) behind) x.0 y)))
  ran tree s (Refuses f) new (inl x) = absurd x
  ran tree s (Refuses f) new (inr (site, mid, x, inl y)) =
      subst (λ (j : State). asking (described_whole names s.site.scope (descriptor_of tree.value)) j (Refuses f) new) x.1
      (subst (λ i. asking (described_whole names i.scope (descriptor_of tree.value)) mid (Refuses f) new) x.0 y)
  ran tree s (Refuses f) new (inr (site, mid, x, inr (t, behind, y, z))) = absurd z

  ran-grows : (tree : TypeTree) (s : State) (o : Outcome Shared) (new : State) → Ran tree s o new → length s.atoms ≤ length new.atoms
  unfolding asks
  ran-grows tree s (Gives u) new x = grows-whole names s.site.scope (descriptor_of tree) s.atoms (Gives u.value) new.atoms x.0
  ran-grows tree s (Refuses f) new x = grows-whole names s.site.scope (descriptor_of tree) s.atoms (Refuses f) new.atoms x.0

  -- what a descriptor's check leaves has no fewer atoms
  pub type-grows : (tree : Box TypeTree) (s : State) (o : Outcome Shared) (new : State) → descriptor_type names (Some tree) s o new → length s.atoms ≤ length new.atoms
  type-grows tree s o new x = ran-grows tree.value s o new (ran tree s o new x)

module _ (names : Names) (m n : Atoms) (first : IsClosed m) (second : IsClosed n) (twins : TwinAtoms m n) (one : AreNames m names) (two : AreNames n names) where
  abbrev pub E : Ty → Ty → Type 0
  E = SettledTwins m n

  fine-first : Fine names m n
  fine-first =
      record {
        defs = λ more others. defs-later m n more others first second twins;
        named = λ scope q t is. λ more others.
            let k = settled-later m n more others first second t t (record { twins = itself-twin m n twins t; first = one.types scope q t is; second = two.types scope q t is }) in k.twins;
      }

  -- states behind atoms that were added
  pub record Onward (s t : State) : Type 0 where
    pub atoms : From names m n s.atoms t.atoms
    pub states : StateTwins E E s t

  -- the same, behind the atoms of two earlier states
  pub record Since (before early s t : State) : Type 0 where
    pub there : Onward s t
    pub atoms : From names before.atoms early.atoms s.atoms t.atoms

  pub onward-first : (s t : State) → Before m n s t → Onward s t
  onward-first s t p =
      record {
        atoms = subst (λ k. From names m n k t.atoms) (sym p.first) (subst (From names m n m) (sym p.second) (from-same names m n fine-first));
        states = p.states;
      }

  settled-there : (s t : State) → Onward s t → (a b : Ty) → E a b → SettledTwins s.atoms t.atoms a b
  settled-there s t p a b h =
      subst (λ k. SettledTwins k t.atoms a b) (sym p.atoms.first)
      (subst (λ k. SettledTwins (m ++ p.atoms.more) k a b) (sym p.atoms.second) (settled-later m n p.atoms.more p.atoms.others first second a b h))

  -- as where a need begins
  pub onward-before : (s t : State) → Onward s t → Before s.atoms t.atoms s t
  onward-before s t p =
      record {
        first = refl;
        second = refl;
        states = state-map E E (SettledTwins s.atoms t.atoms) (SettledTwins s.atoms t.atoms) (settled-there s t p) (settled-there s t p) s t p.states;
      }

  pub onward-twins : (s t : State) → Onward s t → TwinAtoms s.atoms t.atoms
  onward-twins s t p = fine-twins names s.atoms t.atoms p.atoms.fine

  -- what follows there, to the end of a need
  pub ends-there : {A B : Type 0} (Q : A → B → Type 0) (c : Check State A) (d : Check State B) (s t : State) → Onward s t
      → Leads (Before s.atoms t.atoms) (Behind s.atoms t.atoms) Q c d → Alike (Given TwinsOver Q) s t c d
  ends-there Q c d s t p h =
      leads-to (Before s.atoms t.atoms) (Behind s.atoms t.atoms) TwinsOver Q Q c d (λ i j a b k q. (behind-over s.atoms t.atoms i j (onward-twins s t p) k, q)) h s t (onward-before s t p)

  -- ---- two runs that go together

  module _ {A B : Type 0} (Q : Atoms → Atoms → A → B → Type 0) where
    -- behind the states i and j
    abbrev pub TogetherAt : State → State → Outcome A → State → Outcome B → State → Type 0
    TogetherAt i j (Gives a) s (Gives b) t = Since i j s t × Q s.atoms t.atoms a b
    TogetherAt i j (Gives a) s (Refuses g) t = IsTooMany g × HasTooMany s
    TogetherAt i j (Refuses f) s (Gives b) t = IsTooMany f × HasTooMany t
    TogetherAt i j (Refuses f) s (Refuses g) t = (SameFault f g × Since i j s t) ⊎ ((IsTooMany f × HasTooMany t) ⊎ (IsTooMany g × HasTooMany s))

    abbrev pub GoAt : State → State → Check State A → Check State B → Type 0
    GoAt s t c d = (o : Outcome A) (p : Outcome B) (s2 t2 : State) → c s o s2 → d t p t2 → TogetherAt s t o s2 p t2

    abbrev pub Moved : Corresponds State A B
    Moved s a t b = Onward s t × Q s.atoms t.atoms a b

    pub goes-alike : (s t : State) (c : Check State A) (d : Check State B) → GoAt s t c d → Alike Moved s t c d
    goes-alike s t c d h (Gives a) (Gives b) s2 t2 x y = let r = h (Gives a) (Gives b) s2 t2 x y in (r.0.there, r.1)
    goes-alike s t c d h (Gives a) (Refuses g) s2 t2 x y = let r = h (Gives a) (Refuses g) s2 t2 x y in inr r.0
    goes-alike s t c d h (Refuses f) (Gives b) s2 t2 x y = let r = h (Refuses f) (Gives b) s2 t2 x y in inr r.0
    goes-alike s t c d h (Refuses f) (Refuses g) s2 t2 x y = by (h (Refuses f) (Refuses g) s2 t2 x y)
      where
        by : (SameFault f g × Since s t s2 t2) ⊎ ((IsTooMany f × HasTooMany t2) ⊎ (IsTooMany g × HasTooMany s2)) → IsLimit f ⊎ (IsLimit g ⊎ SameFault f g)
        by (inl r) = inr (inr r.0)
        by (inr (inl r)) = inl (inr r.0)
        by (inr (inr r)) = inr (inl (inr r.0))

    -- the states, where the atoms go on
    since-there : (s t s2 t2 : State) → Onward s t → From names s.atoms t.atoms s2.atoms t2.atoms → s2 ≡ record s { atoms = s2.atoms } → t2 ≡ record t { atoms = t2.atoms } → Since s t s2 t2
    since-there s t s2 t2 p f x y =
        record {
          there = record {
            atoms = from-then names m n s.atoms t.atoms s2.atoms t2.atoms p.atoms f;
            states = subst (λ (i : State). StateTwins E E i t2) (sym x)
                (subst (λ (j : State). StateTwins E E (record s { atoms = s2.atoms }) j) (sym y) (with-atoms E E s t p.states s2.atoms t2.atoms));
          };
          atoms = f;
        }

    lifts : (s t : State) → Onward s t → (o : Outcome A) (p : Outcome B) (s2 t2 : State) → s2 ≡ record s { atoms = s2.atoms } → t2 ≡ record t { atoms = t2.atoms }
        → Together names Q s.atoms t.atoms o s2.atoms p t2.atoms → TogetherAt s t o s2 p t2
    lifts s t h (Gives a) (Gives b) s2 t2 x y r = (since-there s t s2 t2 h r.0 x y, r.1)
    lifts s t h (Gives a) (Refuses g) s2 t2 x y r = r
    lifts s t h (Refuses f) (Gives b) s2 t2 x y r = r
    lifts s t h (Refuses f) (Refuses g) s2 t2 x y (inl r) = inl (r.0, since-there s t s2 t2 h r.1 x y)
    lifts s t h (Refuses f) (Refuses g) s2 t2 x y (inr r) = inr r

    -- a question over atoms
    pub asks-go : (s t : State) → Onward s t → (c : Check Atoms A) (d : Check Atoms B) → ((k l : Atoms) → Fine names k l → Go names Q k l c d) → GoAt s t (asking c) (asking d)
    unfolding asks
    asks-go s t h c d f o p s2 t2 x y = lifts s t h o p s2 t2 x.1 y.1 (f s.atoms t.atoms h.atoms.fine o p s2.atoms t2.atoms x.0 y.0)

  -- ---- types that are described

  whole-goes : (scope : Scope) (tree : TypeTree) (s t : State) → Onward s t
      → GoAt Lasting s t (asking (described_whole names scope (descriptor_of tree))) (asking (described_whole names scope (descriptor_of tree)))
  whole-goes scope tree s t h = asks-go Lasting s t h _ _ (λ k l fine. go-whole names scope (descriptor_of tree) k l fine)

  abbrev describing : TypeTree → Scope → Step
  describing tree scope = asking (described_whole names scope (descriptor_of tree)) ▷ λ t. wants_some (λ env u. u ≡ t)

  describing-leads : (tree : TypeTree) (scope : Scope) → Leads (Before m n) TwinsOver Any2 (describing tree scope) (describing tree scope)
  describing-leads tree scope s t p =
      ▷-alike (Moved Lasting) (Given TwinsOver Any2) _ _ _ _ s t
      (goes-alike Lasting s t (asking (described_whole names scope (descriptor_of tree))) (asking (described_whole names scope (descriptor_of tree)))
      (whole-goes scope tree s t (onward-first s t p)))
      (λ a b i j r. ends-there Any2 _ _ i j r.0
      (wants-some-weak i.atoms j.atoms _ _
      (λ v w x y. subst (λ z. TwinTypes i.atoms j.atoms z w) (sym x)
      (subst (TwinTypes i.atoms j.atoms a) (sym y) (now-so (λ k l. TwinTypes k l a b) i.atoms j.atoms r.1)))))

  pub describes-leads : (tree : TypeTree) → Leads (Before m n) TwinsOver Any2 (describes names tree) (describes names tree)
  describes-leads tree =
      leads-then (Before m n) (Before m n) TwinsOver Equal Any2 _ _ _ _
      (leads-some (Before m n) Equal _ _ (λ s t a b p x y. y ∙ p.states.site.scope ∙ sym x))
      (λ a b e. subst (λ i. Leads (Before m n) TwinsOver Any2 (describing tree a) (describing tree i)) (sym e) (describing-leads tree a))

  -- ---- types of constants and of what workers give

  pub type-goes : (tree : Box TypeTree) (s t : State) → Onward s t → GoAt LastingShared s t (descriptor_type names (Some tree)) (descriptor_type names (Some tree))
  type-goes tree s t h o p s2 t2 x y = by o p (ran names tree s o s2 x) (ran names tree t p t2 y)
    where
      scoped : (q : Outcome Ty) → asking (described_whole names t.site.scope (descriptor_of tree.value)) t q t2 → asking (described_whole names s.site.scope (descriptor_of tree.value)) t q t2
      scoped q k = subst (λ (c : Scope). asking (described_whole names c (descriptor_of tree.value)) t q t2) h.states.site.scope k

      by : (o p : Outcome Shared) → Ran names tree.value s o s2 → Ran names tree.value t p t2 → TogetherAt LastingShared s t o s2 p t2
      by (Gives a) (Gives b) i j = whole-goes s.site.scope tree.value s t h (Gives a.value) (Gives b.value) s2 t2 i (scoped (Gives b.value) j)
      by (Gives a) (Refuses g) i j = whole-goes s.site.scope tree.value s t h (Gives a.value) (Refuses g) s2 t2 i (scoped (Refuses g) j)
      by (Refuses f) (Gives b) i j = whole-goes s.site.scope tree.value s t h (Refuses f) (Gives b.value) s2 t2 i (scoped (Gives b.value) j)
      by (Refuses f) (Refuses g) i j = whole-goes s.site.scope tree.value s t h (Refuses f) (Refuses g) s2 t2 i (scoped (Refuses g) j)
