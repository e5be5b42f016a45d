-- Calls that are started: two runs of the need agree.
use Rattle.std.proofs.Common.{◌≡◌, ◌++◌, ◌<◌, ℕ, suc, List, [], ◌∷◌, All, length, length-append, Option, Some, None, arith, inl, inr, refl, sym, subst, ◌∙◌}
use Rattle.std.specs.List.{AllZip}
use Rattle.std.proofs.lemmas.List.Elements.{All-append, All-cons, All-nil, All-weaker}
use Rattle.bal_base.specs.declared.place.Place.{Place}
use Rattle.checks.specs.Agreement.{Alike, AreTwins, BothKeep, Corresponds}
use Rattle.checks.specs.Checks.{Check, Gives, Refuses, ◌▷◌}
use Rattle.checks.specs.Questions.{adds, applied}
use Rattle.checks.proofs.Twins.{applied-alike}
use Rattle.descriptors.specs.declared.names.Signature.{Signature}
use Rattle.descriptors.specs.Described.{IsCopy, plain}
use Rattle.type_model.specs.declared.answers.TypeLimit.{TypeLimit}
use Rattle.type_model.specs.declared.atoms.AtomDef.{AtomDef}
use Rattle.type_model.specs.declared.atoms.AtomDef.TheVariants.{List as ListAtom}
use Rattle.type_model.specs.declared.basic.SemType.{Atom, SemType}
use Rattle.type_model.specs.declared.basic.Ty.{Ty}
use Rattle.type_model.specs.Calls.{Asked}
use Rattle.type_model.specs.Defined.{DefBelow, IsClosed, IsDefined, TyBelow}
use Rattle.type_model.proofs.DefinedLaws.{DefBelow-more, TyBelow-more}
use Rattle.type_model.proofs.SameTypes.{NamesBelow-same}
use Rattle.typed_tree.specs.declared.expr.TypedExpr.{TypedExpr}
use Rattle.typed_tree.specs.declared.form.Callee.TheVariants as callee
use Rattle.typed_tree.specs.declared.form.StrictForm.TheVariants as form
use Rattle.typed_tree.specs.Exprs.{type_of}
use Rattle.check_words.specs.Calls.{AreTypesOf, IsFutureAtom, applies_to, callee_unit, starts, starts_of}
use Rattle.check_words.specs.State.{Called, OfFunction, OfLibrary, OfValue, State}
use Rattle.check_words.specs.Words.{Atoms, Step, asking, makes_strict, sem}
use Rattle.check_answers.specs.Answers.{TwinsOver}
use Rattle.check_answers.specs.TwinStates.{CallTwins, CalledTwins, PartTwins}
use Rattle.check_answers.specs.TwinTypes.{SettledTwins, TwinAtoms, TwinDefs}
use Rattle.check_answers.proofs.Adding.{adds-leads, atoms-later, grown-ends, Grown}
use Rattle.check_answers.proofs.CallsMade.{arguments-same, ending}
use Rattle.check_answers.proofs.Growing.{sem-later, settled-later}
use Rattle.check_answers.proofs.Leading.{Any2, Leads, Pairs, leads-asking, leads-asks, leads-nothing, leads-regroup, leads-then}
use Rattle.check_answers.proofs.Made.{group, same-atom}
use Rattle.check_answers.proofs.Mapping.{state-map}
use Rattle.check_answers.proofs.Meanings.{equal-twin, sem-copies}
use Rattle.check_answers.proofs.MemberReads.{plain-twins}
use Rattle.check_answers.proofs.Questions.{Before, D, Equal, before-atoms, strict-leads}
use Rattle.check_answers.proofs.Setting.{with-atoms}
use Rattle.check_answers.proofs.Words.{closes-call-leads, parts-leads}
use Rattle.check_answers.proofs.Zips.{zip-long}

-- copies name the same atoms
copy-below : (n : ℕ) (s t : Ty) → IsCopy s t → TyBelow n s → TyBelow n t
copy-below n s t c h = (
  NamesBelow-same n s.sem t.sem c.sem h.0,
  subst (All (λ k. k.atom < n)) c.lists h.1,
  subst (All (λ k. k.atom < n)) c.maps h.2,
)

-- a group over atoms that are closed closes them again
closed-with : (env group : List AtomDef) → IsClosed env → All (DefBelow (length (env ++ group))) group → IsClosed (env ++ group)
closed-with env group closed h =
    All-append (DefBelow (length (env ++ group))) env group
    (All-weaker (DefBelow (length env)) (DefBelow (length (env ++ group))) (DefBelow-more (length env) (length (env ++ group)) (omega (arith, length-append env group))) env closed) h

-- behind atoms that were added, and that name only those that are there
record Closing (m n : Atoms) (s t : State) : Type 0 where
  pub grown : Grown m n s t
  pub first : IsClosed (m ++ grown.more)
  pub second : IsClosed (n ++ grown.others)

module _ (passes : List AtomDef → Asked → TypeLimit → Type 0) (m n : Atoms) (first : IsClosed m) (second : IsClosed n) (twins : TwinAtoms m n) where
  abbrev B : Pairs
  B = Before m n

  abbrev E : Ty → Ty → Type 0
  E = D m n

  -- ---- the arguments, as an atom

  types-below : (es fs : List TypedExpr) (ts : List Ty) → AllZip (PartTwins E E) es fs → AreTypesOf passes es ts → All (TyBelow (length m)) ts
  types-below [] [] [] h x = All-nil (TyBelow (length m))
  types-below (a ∷ es) (b ∷ fs) (t ∷ ts) h x =
      All-cons (TyBelow (length m)) t ts (copy-below (length m) (type_of a).value t x.0 h.0.ty.first) (types-below es fs ts h.1 x.1)
  types-below [] (b ∷ fs) ts h x = absurd h
  types-below (a ∷ es) [] ts h x = absurd h
  types-below [] [] (t ∷ ts) h x = absurd x
  types-below (a ∷ es) (b ∷ fs) [] h x = absurd x

  others-below : (es fs : List TypedExpr) (ts : List Ty) → AllZip (PartTwins E E) es fs → AreTypesOf passes fs ts → All (TyBelow (length n)) ts
  others-below [] [] [] h x = All-nil (TyBelow (length n))
  others-below (a ∷ es) (b ∷ fs) (t ∷ ts) h x =
      All-cons (TyBelow (length n)) t ts (copy-below (length n) (type_of b).value t x.0 h.0.ty.second) (others-below es fs ts h.1 x.1)
  others-below [] (b ∷ fs) ts h x = absurd h
  others-below (a ∷ es) [] ts h x = absurd h
  others-below [] [] (t ∷ ts) h x = absurd x
  others-below (a ∷ es) (b ∷ fs) [] h x = absurd x

  list-closed : (env d : Atoms) (ts : List Ty) → d ≡ ListAtom ts None ∷ [] → All (TyBelow (length env)) ts → All (DefBelow (length (env ++ d))) d
  list-closed env d ts is h =
      subst (All (DefBelow (length (env ++ d)))) (sym is)
      (All-cons (DefBelow (length (env ++ d))) (ListAtom ts None) []
      (All-weaker (TyBelow (length env)) (TyBelow (length (env ++ d))) (TyBelow-more (length env) (length (env ++ d)) (omega (arith, length-append env d))) ts h, tt)
      (All-nil (DefBelow (length (env ++ d)))))

  abbrev Arguments : List TypedExpr → Atoms → List AtomDef → Type 0
  Arguments args env defs = (ts : List Ty) × AreTypesOf passes args ts × (defs ≡ ListAtom ts None ∷ [])

  abbrev AddedSo : List TypedExpr → List TypedExpr → Corresponds Atoms ℕ ℕ
  AddedSo es fs k a l b = (b ≡ a) × (d : Atoms) × (e : Atoms) × (k ≡ m ++ d) × (l ≡ n ++ e) × Arguments es m d × Arguments fs n e

  added-alike : (es fs : List TypedExpr) (at : Option Place) → Alike (AddedSo es fs) m n (adds (Arguments es) at) (adds (Arguments fs) at)
  unfolding adds
  added-alike es fs at (Gives a) (Gives b) k l (d, p, x, i) (e, r, y, j) = (y ∙ sym (zip-long (TwinDefs m n) m n twins) ∙ sym x, d, e, i, j, p, r)
  added-alike es fs at (Gives a) (Refuses g) k l x (e, r, full, y, j) = inr y.has_code
  added-alike es fs at (Refuses f) (Gives b) k l (d, p, full, x, i) y = inr x.has_code
  added-alike es fs at (Refuses f) (Refuses g) k l (d, p, full, x, i) y = inl (inr x.has_code)

  closes : (es fs : List TypedExpr) → AllZip (PartTwins E E) es fs → (s t : State) (k l : Atoms) (a b : ℕ) → B s t → AddedSo es fs k a l b
      → Closing m n (record s { atoms = k }) (record t { atoms = l }) × Equal a b
  closes es fs h s t k l a b p (i, d, e, x, y, v, w) = (
    record {
      grown = record {
        more = d;
        others = e;
        first = x;
        second = y;
        atoms = atoms-later m n d e first second twins (arguments-same passes m n first second twins es fs d e h v w);
        states = with-atoms _ _ s t (state-map E E (SettledTwins (m ++ d) (n ++ e)) (SettledTwins (m ++ d) (n ++ e)) (settled-later m n d e first second)
            (settled-later m n d e first second) s t p.states) k l;
      };
      first = closed-with m d first (list-closed m d v.0 v.2 (types-below es fs v.0 h v.1));
      second = closed-with n e second (list-closed n e w.0 w.2 (others-below es fs w.0 h w.1));
    },
    i,
  )

  arguments-added : (es fs : List TypedExpr) (at : Place) → AllZip (PartTwins E E) es fs
      → Leads B (Closing m n) Equal (asking (adds (Arguments es) (Some at))) (asking (adds (Arguments fs) (Some at)))
  arguments-added es fs at h = leads-asks m n B (Closing m n) Equal (AddedSo es fs) _ _ (before-atoms m n) (closes es fs h) (added-alike es fs (Some at))

  closing-leads : {X Y : Type 0} (Q : X → Y → Type 0) (c : Check State X) (d : Check State Y)
      → ((more others : Atoms) → IsClosed (m ++ more) → IsClosed (n ++ others) → TwinAtoms (m ++ more) (n ++ others) → Leads (Before (m ++ more) (n ++ others)) TwinsOver Q c d)
      → Leads (Closing m n) TwinsOver Q c d
  closing-leads Q c d f s t p =
      f p.grown.more p.grown.others p.first p.second p.grown.atoms s t (record { first = p.grown.first; second = p.grown.second; states = p.grown.states })

  -- ---- what is given, and the futures of it

  module _ (M N : Atoms) (closed : IsClosed M) (other : IsClosed N) (z : TwinAtoms M N) where
    abbrev Sems : SemType → SemType → Type 0
    Sems r s = AreTwins M r N s × IsDefined M r × IsDefined N s

    applied-settled : (f a g b : SemType) (at : Option Place) → AreTwins M f N g → AreTwins M a N b → Alike (BothKeep M N Sems) M N (applied passes f a at) (applied passes g b at)
    unfolding applied
    applied-settled f a g b at h k (Gives r) (Gives s) m2 n2 x y =
        let o = applied-alike passes M N f a g b at h k (Gives r) (Gives s) m2 n2 x y in ((o.0, x.0, y.0), o.1, o.2)
    applied-settled f a g b at h k (Gives r) (Refuses j) m2 n2 x y = applied-alike passes M N f a g b at h k (Gives r) (Refuses j) m2 n2 x y
    applied-settled f a g b at h k (Refuses i) (Gives s) m2 n2 x y = applied-alike passes M N f a g b at h k (Refuses i) (Gives s) m2 n2 x y
    applied-settled f a g b at h k (Refuses i) (Refuses j) m2 n2 x y = applied-alike passes M N f a g b at h k (Refuses i) (Refuses j) m2 n2 x y

    future-same : (r s : SemType) (d e : List AtomDef) → Sems r s → IsFutureAtom passes r d → IsFutureAtom passes s e → AllZip (TwinDefs (M ++ d) (N ++ e)) d e
    future-same r s d e h (a, x, p) (b, y, q) =
        group M N closed other z d e _ _ p q (sem-copies (M ++ d) (N ++ e) r s a b (sem-later M N d e closed other r s h.1 h.2 h.0) x y, tt)

    pub future-leads : (r s : SemType) (k : ℕ) (at : Place) → Sems r s
        → Leads (Before M N) TwinsOver Any2 (asking (adds (λ env. IsFutureAtom passes r) (Some at)) ▷ λ atom. makes_strict k (form.Start callee.Value) (λ env t. t ≡ plain (Atom atom)) at)
        (asking (adds (λ env. IsFutureAtom passes s) (Some at)) ▷ λ atom. makes_strict k (form.Start callee.Value) (λ env t. t ≡ plain (Atom atom)) at)
    future-leads r s k at h =
        leads-then (Before M N) (Grown M N) TwinsOver Equal Any2 _ _ _ _ (adds-leads M N closed other z _ _ (Some at) (λ d e x y. future-same r s d e h x y))
        (λ a b e. grown-ends M N Any2 _ _ (λ more others y.
        strict-leads (M ++ more) (N ++ others) k (form.Start callee.Value) (form.Start callee.Value) _ _ at refl
        (λ t u p q. plain-twins (M ++ more) (N ++ others) (Atom a) (Atom b) t u (same-atom (M ++ more) (N ++ others) y a b e) p q)))

  abbrev Starting : ℕ → Place → SemType → Step
  Starting k at r = asking (adds (λ env. IsFutureAtom passes r) (Some at)) ▷ λ atom. makes_strict k (form.Start callee.Value) (λ env t. t ≡ plain (Atom atom)) at

  value-started : (es fs : List TypedExpr) (k : ℕ) (here at : Place) → AllZip (PartTwins E E) es fs
      → Leads B TwinsOver Any2 (applies_to passes es here ▷ λ r. Starting k at r) (applies_to passes fs here ▷ λ r. Starting k at r)
  value-started (f ∷ args) (g ∷ others) k here at h =
      leads-regroup B TwinsOver Any2 _ _ _ _ _ _
      (leads-then B (Closing m n) TwinsOver Equal Any2 _ _ _ _ (arguments-added args others here h.1)
      (λ a b e. closing-leads Any2 _ _ (λ more others2 c o z.
      let M = m ++ more in let N = n ++ others2 in
      let t = settled-later m n more others2 first second (type_of f).value (type_of g).value h.0.ty in
      leads-then (Before M N) (Before M N) TwinsOver (Sems M N c o z) Any2 _ _ _ _
      (leads-asking M N (Before M N) (Sems M N c o z) _ _ (before-atoms M N)
      (applied-settled M N c o z (sem f) (Atom a) (sem g) (Atom b) (Some here) t.twins.shapes (same-atom M N z a b e)))
      (λ r s i. future-leads M N c o z r s k at i))))
  value-started [] [] k here at h =
      leads-then B B TwinsOver (Sems m n first second twins) Any2 _ _ _ _ (leads-nothing B B (Sems m n first second twins) _) (λ r s i. future-leads m n first second twins r s k at i)
  value-started [] (g ∷ others) k here at h = absurd h
  value-started (f ∷ args) [] k here at h = absurd h

  function-started : (f : Signature) (k : ℕ) (at : Place)
      → Leads B TwinsOver Any2 (makes_strict k (form.Start (callee_unit f)) (λ env t. t ≡ plain (Atom f.future)) at) (makes_strict k (form.Start (callee_unit f)) (λ env t. t ≡ plain (Atom f.future)) at)
  function-started f k at =
      ending passes m n first second twins _ _ (strict-leads m n k (form.Start (callee_unit f)) (form.Start (callee_unit f)) _ _ at refl
      (λ a b x y. equal-twin m n twins (plain (Atom f.future)) a b x y))

  start-of : (c d : Called) (k : ℕ) (here at : Place) → CalledTwins E E c d → Leads B TwinsOver Any2 (starts_of passes c k here at) (starts_of passes d k here at)
  start-of (OfFunction f) (OfFunction g) k here at h =
      subst (λ i. Leads B TwinsOver Any2 (starts_of passes (OfFunction f) k here at) (starts_of passes (OfFunction i) k here at)) (sym h) (function-started f k at)
  start-of OfValue OfValue k here at h =
      leads-then B B TwinsOver (AllZip (PartTwins E E)) Any2 _ _ _ _ (parts-leads m n E E (suc k)) (λ es fs i. value-started es fs (suc k) here at i)
  start-of (OfLibrary r o) (OfLibrary q p) k here at h = leads-nothing B TwinsOver Any2 _
  start-of (OfFunction f) OfValue k here at h = absurd h
  start-of (OfFunction f) (OfLibrary q p) k here at h = absurd h
  start-of OfValue (OfFunction g) k here at h = absurd h
  start-of OfValue (OfLibrary q p) k here at h = absurd h
  start-of (OfLibrary r o) (OfFunction g) k here at h = absurd h
  start-of (OfLibrary r o) OfValue k here at h = absurd h

  pub starts-leads : (here at : Place) → Leads B TwinsOver Any2 (starts passes here at) (starts passes here at)
  starts-leads here at =
      leads-then B B TwinsOver (CallTwins E E) Any2 _ _ _ _ (closes-call-leads m n E E)
      (λ c d h. subst (λ i. Leads B TwinsOver Any2 (starts_of passes c.callee c.args here at) (starts_of passes d.callee i here at)) (sym h.args)
      (start-of c.callee d.callee c.args here at h.callee))
