-- The shapes that meet a condition: those of a type, and those of conditions put together.
use Rattle.std.proofs.Common.{Option, Some, None, ◌≡◌, ◌↔◌, ◌⊎◌, ⊎_elim, inl, inr, ℕ, ◌≤◌, ◌==◌, List, length, Bool, true, false, not, ◌&&◌, ◌||◌, IsTrue, MatchBool, refl, sym, subst, ◌∙◌}
use Rattle.std.specs.List.{list_all, All}
use Rattle.std.proofs.lemmas.Bool.{false≢true}
use Rattle.bal_base.specs.declared.shape.Shape.{Shape, Nil, Bool as BoolShape, Int, Str, List', Mapping', Error', Function, Future'}
use Rattle.type_model.specs.declared.basic.SemType.{SemType, Atom}
use Rattle.type_model.specs.declared.atoms.AtomDef.{AtomDef}
use Rattle.type_model.specs.Membership.{In}
use Rattle.type_model.proofs.Decided.{Decided, In-decided}
use Rattle.type_diagrams.specs.declared.kind.Kind.{Kind}
use Rattle.type_diagrams.specs.Kinds.{kind_of, IsOfKind, IsSimple, IsMarked, HoldsOf, Says, the_mark}
use Rattle.type_diagrams.specs.Conditions.{Condition, AreOne, or_of, and_of, without, condition_of, asks, nothing, frozen, Meets}
use Rattle.bal_base.specs.Valid.{IsFrozen, IsValid}
use Rattle.type_diagrams.proofs.Truths.{neither, sure, or_true, and_true, not_true, all_true}
use Rattle.type_diagrams.proofs.SimpleLaws.{In-simple}
use Rattle.type_diagrams.proofs.KindLaws.{In-by_kind}

-- a shape is simple, or it is of a kind
pub by_kind_of : (x : Shape) → IsSimple x ⊎ ((k : Kind) × IsOfKind k x)
by_kind_of x = by (kind_of x)
  where
    by : (o : Option Kind) → (o ≡ None) ⊎ ((k : Kind) × (o ≡ Some k))
    by None = inl refl
    by (Some k) = inr (k, refl)

-- ---- what a shape says, as an assignment

is_left : {A : Type 0} → Decided A → Bool
is_left (inl a) = true
is_left (inr n) = false

left_true : {A : Type 0} (d : Decided A) → (is_left d ≡ true) ↔ A
unfolding is_left
left_true (inl a) = (λ _. a, λ _. refl)
left_true (inr n) = (λ h. absurd (false≢true h), λ a. absurd (n a))

decided_true : (b : Bool) → Decided (IsTrue b)
decided_true true = inl refl
decided_true false = inr (λ h. false≢true h)

marked : (x : Shape) → Decided (IsMarked x)
marked (List' mark _ items) = decided_true mark
marked (Mapping' mark _ fields) = decided_true mark
marked Nil = inr (λ h. h)
marked (BoolShape b) = inr (λ h. h)
marked (Int n) = inr (λ h. h)
marked (Str t) = inr (λ h. h)
marked (Error' _ detail) = inr (λ h. h)
marked (Function isolated graph) = inr (λ h. h)
marked (Future' _ results) = inr (λ h. h)

module _ (env : List AtomDef) where
  holds : (x : Shape) (l : ℕ) → Decided (HoldsOf env x l)
  holds x l = by (l == the_mark)
    where
      by : (b : Bool) → Decided (MatchBool b (IsMarked x) (In env x (Atom l)))
      by true = marked x
      by false = In-decided env x (Atom l)

  pub says_of : Shape → ℕ → Bool
  says_of x l = is_left (holds x l)

  pub Says-says_of : (x : Shape) → Says env x (says_of x)
  unfolding says_of
  Says-says_of x l = left_true (holds x l)

  says_same : (x : Shape) (v w : ℕ → Bool) → Says env x v → Says env x w → (l : ℕ) → v l ≡ w l
  says_same x v w p q l = same (v l) (w l) (λ h. (q l).1 ((p l).0 h)) (λ h. (p l).1 ((q l).0 h))
    where
      same : (a b : Bool) → (a ≡ true → b ≡ true) → (b ≡ true → a ≡ true) → a ≡ b
      same true b f g = sym (f refl)
      same false true f g = g refl
      same false false f g = refl

  -- ---- the shapes of a type

  pub In-condition : length env ≤ the_mark → (x : Shape) (t : SemType) → In env x t ↔ Meets env (condition_of env t) x
  In-condition small x t = (
    λ h. record {
      simple = λ is. (In-simple env x is t).0 h;
      by_kind = λ k v i says. (In-by_kind env small k x v i says t).0 h;
    },
    λ m. ⊎_elim
        (λ (is : IsSimple x). (In-simple env x is t).1 (m.simple is))
        (λ (i : (k : Kind) × IsOfKind k x). (In-by_kind env small i.0 x (says_of x) i.1 (Says-says_of x) t).1 (m.by_kind i.0 (says_of x) i.1 (Says-says_of x)))
        (by_kind_of x),
  )

  -- ---- the shapes of conditions put together

  -- whether a shape meets a condition, where its kind is known
  test_by : Condition → Shape → Option Kind → Bool
  test_by c x None = c.simple x
  test_by c x (Some k) = c.by_kind k (says_of x)

  pub meets : Condition → Shape → Bool
  meets c x = test_by c x (kind_of x)

  some_same : (j k : Kind) → Some j ≡ Some k → j ≡ k
  some_same j k e = cc

  Meets-test_by : (c : Condition) (x : Shape) (o : Option Kind) → kind_of x ≡ o → Meets env c x ↔ (test_by c x o ≡ true)
  unfolding test_by
  Meets-test_by c x None e = (
    λ m. m.simple e,
    λ h. record { simple = λ _. h; by_kind = λ k v i says. absurd (bad k (sym e ∙ i)) },
  )
    where
      bad : (k : Kind) → None ≡ Some k → ⊥
      bad k p = cc
  Meets-test_by c x (Some j) e = (
    λ m. m.by_kind j (says_of x) e (Says-says_of x),
    λ h. record {
      simple = λ is. absurd (bad (sym e ∙ is));
      by_kind = λ k v i says. subst (λ n. c.by_kind n v ≡ true) (some_same j k (sym e ∙ i)) (subst (λ w. c.by_kind j w ≡ true) (λ i l. says_same x (says_of x) v (Says-says_of x) says l i) h);
    },
  )
    where
      bad : Some j ≡ None → ⊥
      bad p = cc

  -- a shape of a kind
  pub Meets-by_kind : (c : Condition) (k : Kind) (x : Shape) → IsOfKind k x → Meets env c x ↔ (c.by_kind k (says_of x) ≡ true)
  unfolding test_by
  Meets-by_kind c k x kind = Meets-test_by c x (Some k) kind

  pub Meets-meets : (c : Condition) (x : Shape) → Meets env c x ↔ (meets c x ≡ true)
  unfolding meets
  Meets-meets c x = Meets-test_by c x (kind_of x) refl

  swap : {A B : Type 0} → A ↔ B → B ↔ A
  swap e = (λ b. e.1 b, λ a. e.0 a)

  through : {A B C : Type 0} → A ↔ B → B ↔ C → A ↔ C
  through e f = (λ a. f.0 (e.0 a), λ c. e.1 (f.1 c))

  test_by-or : (c d : Condition) (x : Shape) (o : Option Kind) → test_by (or_of c d) x o ≡ (test_by c x o || test_by d x o)
  unfolding test_by
  test_by-or c d x None = refl
  test_by-or c d x (Some k) = refl

  test_by-and : (c d : Condition) (x : Shape) (o : Option Kind) → test_by (and_of c d) x o ≡ (test_by c x o && test_by d x o)
  unfolding test_by
  test_by-and c d x None = refl
  test_by-and c d x (Some k) = refl

  test_by-without : (c d : Condition) (x : Shape) (o : Option Kind) → test_by (without c d) x o ≡ (test_by c x o && not (test_by d x o))
  unfolding test_by
  test_by-without c d x None = refl
  test_by-without c d x (Some k) = refl

  -- a test that is another one
  meets-by : (c : Condition) (x : Shape) (b : Bool) → meets c x ≡ b → Meets env c x ↔ (b ≡ true)
  meets-by c x b e = let m = Meets-meets c x in (λ h. sym e ∙ m.0 h, λ h. m.1 (e ∙ h))

  pub Meets-or : (c d : Condition) (x : Shape) → Meets env (or_of c d) x ↔ (Meets env c x ⊎ Meets env d x)
  unfolding meets
  Meets-or c d x =
      through (meets-by (or_of c d) x (meets c x || meets d x) (test_by-or c d x (kind_of x))) (swap (or_true (meets c x) (meets d x) (Meets-meets c x) (Meets-meets d x)))

  pub Meets-and : (c d : Condition) (x : Shape) → Meets env (and_of c d) x ↔ (Meets env c x × Meets env d x)
  unfolding meets
  Meets-and c d x =
      through (meets-by (and_of c d) x (meets c x && meets d x) (test_by-and c d x (kind_of x))) (swap (and_true (meets c x) (meets d x) (Meets-meets c x) (Meets-meets d x)))

  pub Meets-without : (c d : Condition) (x : Shape) → Meets env (without c d) x ↔ (Meets env c x × ¬ Meets env d x)
  unfolding meets
  Meets-without c d x =
      through (meets-by (without c d) x (meets c x && not (meets d x)) (test_by-without c d x (kind_of x))) (swap (and_true (meets c x) (not (meets d x)) (Meets-meets c x) (not_true (meets d x) (Meets-meets d x))))

  -- conditions that count as one have the same valid shapes
  pub Meets-same : (c d : Condition) (x : Shape) → IsValid x → AreOne c d → Meets env c x ↔ Meets env d x
  Meets-same c d x valid e = (
    λ m. record {
      simple = λ is. sym (e.simple x is valid) ∙ m.simple is;
      by_kind = λ k v i says. sym (e.by_kind k v) ∙ m.by_kind k v i says;
    },
    λ m. record {
      simple = λ is. e.simple x is valid ∙ m.simple is;
      by_kind = λ k v i says. e.by_kind k v ∙ m.by_kind k v i says;
    },
  )

  -- ---- questions

  test_by-asks : (wanted unwanted : List Condition) (x : Shape) (o : Option Kind) → test_by (asks wanted unwanted) x o ≡ (list_all (λ c. test_by c x o) wanted && list_all (λ c. not (test_by c x o)) unwanted)
  unfolding test_by
  test_by-asks wanted unwanted x None = refl
  test_by-asks wanted unwanted x (Some k) = refl

  -- the shapes of a question meet all that is wanted and nothing that is unwanted
  pub Meets-asks : (wanted unwanted : List Condition) (x : Shape) → Meets env (asks wanted unwanted) x ↔ (All (λ c. Meets env c x) wanted × All (λ c. ¬ Meets env c x) unwanted)
  unfolding meets
  Meets-asks wanted unwanted x =
      through
      (meets-by (asks wanted unwanted) x (list_all (λ c. meets c x) wanted && list_all (λ c. not (meets c x)) unwanted) (test_by-asks wanted unwanted x (kind_of x)))
      (swap (and_true (list_all (λ c. meets c x) wanted) (list_all (λ c. not (meets c x)) unwanted)
      (all_true (λ c. Meets env c x) (λ c. meets c x) wanted (λ c. Meets-meets c x))
      (all_true (λ c. ¬ Meets env c x) (λ c. not (meets c x)) unwanted (λ c. not_true (meets c x) (Meets-meets c x)))))

  test_by-nothing : (x : Shape) (o : Option Kind) → test_by nothing x o ≡ false
  unfolding test_by
  test_by-nothing x None = refl
  test_by-nothing x (Some k) = refl

  pub Meets-nothing : (x : Shape) → ¬ Meets env nothing x
  unfolding meets
  Meets-nothing x m = false≢true ((meets-by nothing x false (test_by-nothing x (kind_of x))).0 m)

  frozen_test : (x : Shape) → IsFrozen x ↔ (meets frozen x ≡ true)
  unfolding meets test_by
  frozen_test Nil = sure tt
  frozen_test (BoolShape b) = sure tt
  frozen_test (Int i) = sure tt
  frozen_test (Str t) = sure tt
  frozen_test (List' mark size items) = swap (Says-says_of (List' mark size items) the_mark)
  frozen_test (Mapping' mark size fields) = swap (Says-says_of (Mapping' mark size fields) the_mark)
  frozen_test (Error' size detail) = neither
  frozen_test (Function isolated graph) = neither
  frozen_test (Future' size results) = neither

  -- what may stand in something marked
  pub Meets-frozen : (x : Shape) → Meets env frozen x ↔ IsFrozen x
  Meets-frozen x = through (Meets-meets frozen x) (swap (frozen_test x))
