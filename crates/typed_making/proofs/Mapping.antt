-- Maps put together, one piece behind another.
use Rattle.std.proofs.Common.{◌≡◌, ◌≢◌, ◌∙◌, ◌≤◌, ◌<◌, ◌+◌, ◌++◌, ◌⊎◌, ℕ, zero, suc, List, [], ◌∷◌, Option, Some, None, inl, inr, length, refl, sym, subst, ap, arith, length-append}
use Rattle.std.proofs.lemmas.Bool.{cases_lt}
use Rattle.std.proofs.lemmas.List.{append-nil, append_assoc}
use Rattle.std.proofs.lemmas.Option.{slice_get_within}
use Rattle.std.specs.Prelude.{slice_get, slice_set}
use Rattle.type_model.specs.declared.atoms.AtomDef.{AtomDef}
use Rattle.operations.specs.Rows.{AreBelow, Surroundings}
use Rattle.eval_model.specs.Ways.{Turns}
use Rattle.stack_code.specs.Commands.{Command, Do, GoTo, GoToIfNot, OpenTrap, CloseTrap}
use Rattle.tree_promises.specs.Types.{Stack, TakesTypes}
use Rattle.lower_model.specs.Making.{Making, add, bind, fresh, next_label}
use Rattle.lower_model.proofs.Laying.{get-front}
use Rattle.typed_making.specs.Mapped.{AreTyped, InLoop, IsTyped, Leads, Mapped, More, Wants, at_or}

-- ---- lists

get-last : {X : Type 0} (xs : List X) (x : X) → slice_get (xs ++ x ∷ []) (length xs) ≡ Some x
get-last [] x = refl
get-last (y ∷ xs) x = get-last xs x

-- what stood there stands there
pub same-front : {X : Type 0} (xs ys : List X) (l : ℕ) → l < length xs → slice_get (xs ++ ys) l ≡ slice_get xs l
same-front [] ys l lt = absurd (omega (arith, lt))
same-front (x ∷ xs) ys zero lt = refl
same-front (x ∷ xs) ys (suc l) lt = same-front xs ys l (omega (arith, lt))

-- a label that was added has no place yet
pub no-place : (xs : List (Option ℕ)) (l to : ℕ) → length xs ≤ l → slice_get (xs ++ None ∷ []) l ≡ Some (Some to) → ⊥
no-place [] zero to le e = let bad : ⊥ = cc in bad
no-place [] (suc l) to le e = let bad : ⊥ = cc in bad
no-place (x ∷ xs) zero to le e = omega (arith, le)
no-place (x ∷ xs) (suc l) to le e = no-place xs l to (omega (arith, le)) e

pub no-label : (xs : List (Option ℕ)) (l to : ℕ) → length xs ≤ l → slice_get xs l ≡ Some (Some to) → ⊥
no-label xs l to le e = let lt = slice_get_within xs l (Some to) e in omega (arith, lt, le)

pub set-other : (xs : List (Option ℕ)) (i l : ℕ) (x : Option ℕ) → i ≢ l → slice_get (slice_set xs l x) i ≡ slice_get xs i
set-other [] i l x ne = refl
set-other (y ∷ xs) zero zero x ne = absurd (ne refl)
set-other (y ∷ xs) (suc i) zero x ne = refl
set-other (y ∷ xs) zero (suc l) x ne = refl
set-other (y ∷ xs) (suc i) (suc l) x ne = set-other xs i l x (λ e. ne (ap suc e))

pub set-long : (xs : List (Option ℕ)) (l : ℕ) (x : Option ℕ) → length (slice_set xs l x) ≡ length xs
set-long [] l x = refl
set-long (y ∷ xs) zero x = refl
set-long (y ∷ xs) (suc l) x = ap suc (set-long xs l x)

pub set-there : (xs : List (Option ℕ)) (l p to : ℕ) → slice_get (slice_set xs l (Some p)) l ≡ Some (Some to) → p ≡ to
set-there [] l p to e = absurd (let bad : ⊥ = cc in bad)
set-there (y ∷ xs) zero p to e = let is : p ≡ to = cc in is
set-there (y ∷ xs) (suc l) p to e = set-there xs l p to e

pub same-or-not : (i l : ℕ) → (i ≡ l) ⊎ (i ≢ l)
same-or-not zero zero = inl refl
same-or-not zero (suc l) = inr (λ e. omega (arith, e))
same-or-not (suc i) zero = inr (λ e. omega (arith, e))
same-or-not (suc i) (suc l) = elim (same-or-not i l) [ inl e ↦ inl (ap suc e) | inr ne ↦ inr (λ e. ne (omega (arith, e))) ]

-- the types behind some places are those at the first of the next ones
pub at-behind : (ss ts : List Stack) (end : Stack) (k : ℕ) → at_or (ss ++ ts) end (length ss + k) ≡ at_or ts end k
at-behind [] ts end k = ap (at_or ts end) (let q : 0 + k ≡ k = omega arith in q)
at-behind (s ∷ ss) ts end k = ap (at_or (s ∷ (ss ++ ts)) end) (let q : length (s ∷ ss) + k ≡ suc (length ss + k) = omega arith in q) ∙ at-behind ss ts end k

pub at-end : (ss : List Stack) (end : Stack) → at_or ss end (length ss) ≡ end
at-end [] end = refl
at-end (s ∷ ss) end = at-end ss end

module _ (env : List AtomDef) (place : Surroundings) where
  pub below-itself : (ts : Stack) → AreBelow env ts ts
  below-itself [] = tt
  below-itself (t ∷ ts) = ((λ x h. h.1), below-itself ts)

  pub below-then : (rs ss ts : Stack) → AreBelow env rs ss → AreBelow env ss ts → AreBelow env rs ts
  below-then [] [] [] f g = tt
  below-then (r ∷ rs) (s ∷ ss) (t ∷ ts) f g = ((λ x h. g.0 x (h.0, f.0 x h)), below-then rs ss ts f.1 g.1)
  below-then [] [] (t ∷ ts) f g = absurd g
  below-then [] (s ∷ ss) ts f g = absurd f
  below-then (r ∷ rs) [] ts f g = absurd f
  below-then (r ∷ rs) (s ∷ ss) [] f g = absurd g

  pub takes-wider : {p : Stack} (a b : Stack) → TakesTypes env place p a → AreBelow env a b → TakesTypes env place p b
  takes-wider a b t x = record { below = t.below; condition = t.condition; are = t.are; boolean = t.boolean; behind = below-then t.below a b t.behind x }

  -- ---- commands

  typed-more : (wants more : List Stack) (c : Command) (at next : Stack) → More wants more → IsTyped env place wants c at next → IsTyped env place more c at next
  typed-more wants more (Do op) at next k h = h
  typed-more wants more (GoTo l) at next k (want, e, h) = (want, k l want e, h)
  typed-more wants more (GoToIfNot l) at next k (t, (want, e, h)) = (t, (want, k l want e, h))
  typed-more wants more (OpenTrap l) at next k (n, (want, e, h)) = (n, (want, k l want e, h))
  typed-more wants more CloseTrap at next k h = h

  pub all-more : (wants more : List Stack) (cs : List Command) (ss : List Stack) (end : Stack) → More wants more → AreTyped env place wants cs ss end → AreTyped env place more cs ss end
  all-more wants more [] [] end k h = tt
  all-more wants more [] (s ∷ ss) end k h = absurd h
  all-more wants more (c ∷ cs) [] end k h = absurd h
  all-more wants more (c ∷ cs) (s ∷ ss) end k h = (typed-more wants more c s (at_or ss end 0) k h.0, all-more wants more cs ss end k h.1)

  typed-wider : (wants : List Stack) (c : Command) (at next end : Stack) → AreBelow env next end → IsTyped env place wants c at next → IsTyped env place wants c at end
  typed-wider wants (Do op) at next end b d =
      record { below = d.below; operands = d.operands; result = d.result; are = d.are; row = d.row; behind = λ go. below-then _ next end (d.behind go) b }
  typed-wider wants (GoTo l) at next end b h = h
  typed-wider wants (GoToIfNot l) at next end b (t, w) = (takes-wider next end t b, w)
  typed-wider wants (OpenTrap l) at next end b (n, w) = (below-then at next end n b, w)
  typed-wider wants CloseTrap at next end b h = below-then at next end h b

  pub all-append : (wants : List Stack) (cs ds : List Command) (ss ts : List Stack) (mid end : Stack) → AreTyped env place wants cs ss mid → AreBelow env mid (at_or ts end 0) → AreTyped env place wants ds ts end → AreTyped env place wants (cs ++ ds) (ss ++ ts) end
  all-append wants [] ds [] ts mid end h b k = k
  all-append wants [] ds (s ∷ ss) ts mid end h b k = absurd h
  all-append wants (c ∷ cs) ds [] ts mid end h b k = absurd h
  all-append wants (c ∷ cs) ds (s ∷ ss) ts mid end h b k = (first ss h.0, all-append wants cs ds ss ts mid end h.1 b k)
    where
      first : (ss : List Stack) → IsTyped env place wants c s (at_or ss mid 0) → IsTyped env place wants c s (at_or (ss ++ ts) end 0)
      first [] x = typed-wider wants c s mid (at_or ts end 0) b x
      first (r ∷ ss) x = x

  pub all-long : (wants : List Stack) (cs : List Command) (ss : List Stack) (end : Stack) → AreTyped env place wants cs ss end → length cs ≡ length ss
  all-long wants [] [] end h = refl
  all-long wants [] (s ∷ ss) end h = absurd h
  all-long wants (c ∷ cs) [] end h = absurd h
  all-long wants (c ∷ cs) (s ∷ ss) end h = ap suc (all-long wants cs ss end h.1)

  -- what is below the types at a place is so where more places follow
  pub at-append : (ss ts : List Stack) (w mid end : Stack) (k : ℕ) → k ≤ length ss → AreBelow env w (at_or ss mid k) → AreBelow env mid (at_or ts end 0) → AreBelow env w (at_or (ss ++ ts) end k)
  at-append [] ts w mid end zero le h b = below-then w mid (at_or ts end 0) h b
  at-append [] ts w mid end (suc k) le h b = absurd (omega (arith, le))
  at-append (s ∷ ss) ts w mid end zero le h b = h
  at-append (s ∷ ss) ts w mid end (suc k) le h b = at-append ss ts w mid end k (omega (arith, le)) h b

  -- ---- pieces

  -- nothing is added
  abbrev pub comes : (m : Making) (old : List Stack) (p q : Stack) → length m.labels ≡ length old → AreBelow env p q → Mapped env place m m old old p q
  comes m old p q many b =
      record {
        news = [];
        stacks = [];
        steps = sym (append-nil m.steps);
        typed = tt;
        begins = b;
        grown = λ l w e. e;
        many = many;
        fewer = omega arith;
        keeps = λ l lt. refl;
        lands = λ l to le e. absurd (no-label m.labels l to le e);
      }

  -- a command
  abbrev pub added : (c : Command) (m : Making) (old : List Stack) (p q : Stack) → length m.labels ≡ length old → IsTyped env place old c p q → Mapped env place m (add c m) old old p q
  added c m old p q many typed =
      record {
        news = c ∷ [];
        stacks = p ∷ [];
        steps = refl;
        typed = (typed, tt);
        begins = below-itself p;
        grown = λ l w e. e;
        many = many;
        fewer = omega arith;
        keeps = λ l lt. refl;
        lands = λ l to le e. absurd (no-label m.labels l to le e);
      }

  -- a label
  abbrev pub labelled : (want : Stack) (m : Making) (old : List Stack) (p : Stack) → length m.labels ≡ length old → Mapped env place m (fresh m) old (old ++ want ∷ []) p p
  labelled want m old p many =
      record {
        news = [];
        stacks = [];
        steps = sym (append-nil m.steps);
        typed = tt;
        begins = below-itself p;
        grown = λ l w e. get-front old (want ∷ []) l w e;
        many = omega (arith, length-append m.labels (None ∷ []), length-append old (want ∷ []), many);
        fewer = omega (arith, length-append m.labels (None ∷ []));
        keeps = λ l lt. same-front m.labels (None ∷ []) l lt;
        lands = λ l to le e. absurd (no-place m.labels l to le e);
      }

  -- a label's place, among these places or behind them
  abbrev Lands : Making → List Stack → List Stack → Stack → ℕ → ℕ → Type 0
  Lands m wants stacks r l to = (k : ℕ) × (to ≡ length m.steps + k) × (k ≤ length stacks) × Wants env place wants l (λ want. AreBelow env want (at_or stacks r k))

  -- one piece behind another
  abbrev pub mapped-then : {m n o : Making} {old wants more : List Stack} {p q r : Stack} → Mapped env place m n old wants p q → Mapped env place n o wants more q r → Mapped env place m o old more p r
  mapped-then {m} {n} {o} {old} {wants} {more} {p} {q} {r} a b =
      record {
        news = a.news ++ b.news;
        stacks = a.stacks ++ b.stacks;
        steps = b.steps ∙ ap (λ l. l ++ b.news) a.steps ∙ append_assoc m.steps a.news b.news;
        typed = all-append more a.news b.news a.stacks b.stacks q r (all-more wants more a.news a.stacks q b.grown a.typed) b.begins b.typed;
        begins = at-append a.stacks b.stacks p q r 0 (omega arith) a.begins b.begins;
        grown = λ l w e. b.grown l w (a.grown l w e);
        many = b.many;
        fewer = omega (arith, a.fewer, b.fewer);
        keeps = λ l lt. b.keeps l (omega (arith, lt, a.fewer)) ∙ a.keeps l lt;
        lands = λ l to le e. by l to le e (cases_lt l (length n.labels));
      }
    where
      by : (l to : ℕ) → length m.labels ≤ l → slice_get o.labels l ≡ Some (Some to) → (l < length n.labels) ⊎ (length n.labels ≤ l) → Lands m more (a.stacks ++ b.stacks) r l to
      by l to le e (inl lt) =
          let (k, is, few, (want, w, below)) = a.lands l to le (sym (b.keeps l lt) ∙ e) in
          (k, is, omega (arith, few, length-append a.stacks b.stacks), (want, b.grown l want w, at-append a.stacks b.stacks want q r k few below b.begins))
      by l to le e (inr ge) =
          let (k, is, few, (want, w, below)) = b.lands l to ge e in
          let long : length n.steps ≡ length (m.steps ++ a.news) = ap length a.steps in (
            length a.stacks + k,
            omega (arith, is, long, length-append m.steps a.news, all-long wants a.news a.stacks q a.typed),
            omega (arith, few, length-append a.stacks b.stacks),
            (want, w, subst (λ s. AreBelow env want s) (sym (at-behind a.stacks b.stacks r k)) below),
          )

  -- ---- one step more

  abbrev pub then-comes : {m n : Making} {old wants : List Stack} {p q : Stack} → Mapped env place m n old wants p q → (r : Stack) → AreBelow env q r → Mapped env place m n old wants p r
  then-comes {n = n} {wants = wants} {q = q} a r b = mapped-then a (comes n wants q r a.many b)

  abbrev pub then-add : {m n : Making} {old wants : List Stack} {p q : Stack} → Mapped env place m n old wants p q → (c : Command) (r : Stack) → IsTyped env place wants c q r → Mapped env place m (add c n) old wants p r
  then-add {n = n} {wants = wants} {q = q} a c r typed = mapped-then a (added c n wants q r a.many typed)

  abbrev pub then-fresh : {m n : Making} {old wants : List Stack} {p q : Stack} → Mapped env place m n old wants p q → (want : Stack) → Mapped env place m (fresh n) old (wants ++ want ∷ []) p q
  then-fresh {n = n} {wants = wants} {q = q} a want = mapped-then a (labelled want n wants q a.many)

  -- behind a piece what was wanted is wanted
  abbrev pub Behind : Making → Making → List Stack → List Stack → Stack → Stack → Type 0
  Behind m n old wants p r = (more : List Stack) × More wants more × Mapped env place m n old more p r

  pub then-leads : {m n : Making} {old wants : List Stack} {p q : Stack} → Mapped env place m n old wants p q → (labels : Option (Turns ℕ)) (loop : Option (Turns Stack)) → InLoop env place wants labels loop → (F : Making → Making) (r : Stack) →
      Leads env place labels loop F q r → Behind m (F n) old wants p r
  then-leads {n = n} {wants = wants} a labels loop inside F r f = let (more, b) = f n wants a.many inside in (more, b.grown, mapped-then a b)

  -- what was in a loop still is
  pub in-more : (wants more : List Stack) → More wants more → (labels : Option (Turns ℕ)) (loop : Option (Turns Stack)) → InLoop env place wants labels loop → InLoop env place more labels loop
  in-more wants more grown None None inside = tt
  in-more wants more grown None (Some t) inside = absurd inside
  in-more wants more grown (Some l) None inside = absurd inside
  in-more wants more grown (Some l) (Some t) inside = (grown l.head t.head inside.0, grown l.exit t.exit inside.1)

  -- the label that was new is to have these types
  pub wanted : {m n : Making} {old wants : List Stack} {p q : Stack} → Mapped env place m n old wants p q → (want : Stack) → slice_get (wants ++ want ∷ []) (next_label n) ≡ Some want
  wanted {wants = wants} a want = subst (λ l. slice_get (wants ++ want ∷ []) l ≡ Some want) (sym a.many) (get-last wants want)

  -- a label that was added gets its place behind the last command
  abbrev pub bound : {m n : Making} {old wants : List Stack} {p want : Stack} → Mapped env place m n old wants p want → (l : ℕ) → length m.labels ≤ l → slice_get wants l ≡ Some want → Mapped env place m (bind l n) old wants p want
  bound {m} {n} {old} {wants} {p} {want} x l ge w =
      record {
        news = x.news;
        stacks = x.stacks;
        steps = x.steps;
        typed = x.typed;
        begins = x.begins;
        grown = x.grown;
        many = set-long n.labels l (Some (length n.steps)) ∙ x.many;
        fewer = omega (arith, x.fewer, set-long n.labels l (Some (length n.steps)));
        keeps = λ i lt. set-other n.labels i l (Some (length n.steps)) (λ e. omega (arith, e, lt, ge)) ∙ x.keeps i lt;
        lands = λ i to le e. by i to le e (same-or-not i l);
      }
    where
      by : (i to : ℕ) → length m.labels ≤ i → slice_get (slice_set n.labels l (Some (length n.steps))) i ≡ Some (Some to) → (i ≡ l) ⊎ (i ≢ l) → Lands m wants x.stacks want i to
      by i to le e (inl is) =
          let here : length n.steps ≡ to = set-there n.labels l (length n.steps) to (subst (λ j. slice_get (slice_set n.labels l (Some (length n.steps))) j ≡ Some (Some to)) is e) in
          let long : length n.steps ≡ length (m.steps ++ x.news) = ap length x.steps in (
            length x.stacks,
            omega (arith, here, long, length-append m.steps x.news, all-long wants x.news x.stacks want x.typed),
            omega arith,
            (want, subst (λ j. slice_get wants j ≡ Some want) (sym is) w, subst (λ s. AreBelow env want s) (sym (at-end x.stacks want)) (below-itself want)),
          )
      by i to le e (inr other) = x.lands i to le (sym (set-other n.labels i l (Some (length n.steps)) other) ∙ e)

  abbrev pub then-bind : {m n : Making} {old wants : List Stack} {p q : Stack} → Mapped env place m n old wants p q → (l : ℕ) (want : Stack) → length m.labels ≤ l → slice_get wants l ≡ Some want → AreBelow env q want → Mapped env place m (bind l n) old wants p want
  then-bind a l want ge w b = bound (then-comes a want b) l ge w
