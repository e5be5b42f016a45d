-- What comes of small functions: checks that let all through, and the first one that doesn't.
use Rattle.std.proofs.Common.{◌≡◌, ℕ, List, Option, Some, refl, subst, inl, inr, true, false}
use Rattle.std.specs.Prelude.{◌↔◌}
use Rattle.bal_base.specs.declared.fault.Fault.{Fault}
use Rattle.bal_base.specs.declared.fault.FaultCode.{FaultCode}
use Rattle.bal_base.specs.declared.fault.FaultCode.TheVariants.{BadMessage, SuccessBefore}
use Rattle.bal_base.specs.declared.fault.Kept.{Kept}
use Rattle.bal_base.specs.declared.fault.Kept.TheVariants as kept
use Rattle.bal_base.specs.declared.place.Place.{Place}
use Rattle.bal_base.specs.declared.shape.Shape.{Shape, Nil, Bool, Int, Str, List', Mapping', Error', Function, Future'}
use Rattle.bal_base.specs.Valid.{IsValid}
use Rattle.type_model.specs.declared.answers.TypeLimit.{TypeLimit}
use Rattle.type_model.specs.declared.atoms.AtomDef.{AtomDef}
use Rattle.type_model.specs.declared.basic.BasicSet.TheVariants as basic
use Rattle.type_model.specs.declared.basic.BasicSet.{BasicSet}
use Rattle.type_model.specs.declared.basic.SemType.{SemType, Basic, Atom, Or', And', Not'}
use Rattle.type_model.specs.Basic.{InBasic}
use Rattle.type_model.specs.Membership.{In}
use Rattle.type_model.specs.SameType.{IsSameType}
use Rattle.type_model.specs.Calls.{Asked}
use Rattle.typed_tree.specs.declared.event.Plan.{Plan}
use Rattle.checks.specs.Checks.{Check, Outcome, Gives, Refuses, gives, gives_some, refuses, either, ◌▷◌}
use Rattle.checks.specs.Questions.{IsFault, is_below}
use Rattle.worker_pairing.specs.Cases.{here}
use Rattle.worker_pairing.specs.FaultCases.{FailureIsOutside, NoPlanInRing, PlansOneMessage, failing_sender, one_message, one_plan, peers_in_ring, ConditionComesFirst, NamesItself, PairComesFirst, PairsByPeers, PeerComesFirst, ReceivesTooOften, ReturnsBeforeReceive, ReturnsBeforeSend, SendsInBranch, SendsNil, TooManyWorkers, WaitsInitially, nil_as_string, return_before_receive, return_before_send}
use Rattle.worker_pairing.specs.Faults.{Atoms, IsBothOf, IsPlan, all_pass, error_type, failure_fits, fits, member_passes, message_passes, named_first, ordered, plans, rank_in}
use Rattle.worker_pairing.specs.Marks.{Members, in_text, nil_type}
use Rattle.worker_pairing.proofs.Numberings.{message-numbering, ring-has-none}
use Rattle.worker_pairing.proofs.Plans.{plans-pair-up}

-- what gives just this adds nothing
pub skip-by : {A B : Type 0} (m : Check Atoms A) (a : A) (next : A → Check Atoms B) (n : Check Atoms B) → ((old : Atoms) (o : Outcome A) (new : Atoms) → m old o new ↔ gives a old o new) → ((old : Atoms) (o : Outcome B) (new : Atoms) → next a old o new ↔ n old o new)
    → (old : Atoms) (o : Outcome B) (new : Atoms) → (m ▷ next) old o new ↔ n old o new
unfolding ◌▷◌ gives_some
skip-by m a next n head same old (Gives b) new = (forth, (λ h. (a, old, (head old (Gives a) old).1 (refl, refl), (same old (Gives b) new).1 h)))
  where
    forth : (m ▷ next) old (Gives b) new → n old (Gives b) new
    forth (x, mid, h, rest) =
        let is = (head old (Gives x) mid).0 h in
        (same old (Gives b) new).0 (subst (λ y. next y old (Gives b) new) is.0 (subst (λ k. next x k (Gives b) new) is.1 rest))
skip-by m a next n head same old (Refuses f) new = (forth, (λ h. inr (a, old, (head old (Gives a) old).1 (refl, refl), (same old (Refuses f) new).1 h)))
  where
    forth : (m ▷ next) old (Refuses f) new → n old (Refuses f) new
    forth (inl h) = absurd ((head old (Refuses f) new).0 h)
    forth (inr (x, mid, h, rest)) =
        let is = (head old (Gives x) mid).0 h in
        (same old (Refuses f) new).0 (subst (λ y. next y old (Refuses f) new) is.0 (subst (λ k. next x k (Refuses f) new) is.1 rest))

pub itself : {A : Type 0} (m : Check Atoms A) (old : Atoms) (o : Outcome A) (new : Atoms) → m old o new ↔ m old o new
itself m old o new = ((λ h. h), (λ h. h))

pub skip : {A B : Type 0} (a : A) (next : A → Check Atoms B) (n : Check Atoms B) → ((old : Atoms) (o : Outcome B) (new : Atoms) → next a old o new ↔ n old o new) → (old : Atoms) (o : Outcome B) (new : Atoms) → (gives a ▷ next) old o new ↔ n old o new
skip a next n same = skip-by (gives a) a next n (itself (gives a)) same

-- what refuses decides
pub stop : {A B : Type 0} (P : Atoms → Fault → Type 0) (next : A → Check Atoms B) (old : Atoms) (o : Outcome B) (new : Atoms) → (refuses {S = Atoms} {A = A} P ▷ next) old o new ↔ refuses {S = Atoms} {A = B} P old o new
unfolding ◌▷◌ refuses
stop P next old (Gives b) new = ((λ (x, mid, h, rest). absurd h), (λ h. absurd h))
stop P next old (Refuses f) new = (forth, (λ h. inl h))
  where
    forth : (refuses P ▷ next) old (Refuses f) new → P old f × (new ≡ old)
    forth (inl h) = h
    forth (inr (x, mid, h, rest)) = absurd h

module _ (passes : List AtomDef → Asked → TypeLimit → Type 0) where
  pub too-many-workers : TooManyWorkers passes
  too-many-workers = stop _ _

  pub names-itself : NamesItself passes
  names-itself = skip tt _ _ (skip tt _ _ (stop _ _))

  pub waits-initially : WaitsInitially passes
  waits-initially = skip tt _ _ (skip tt _ _ (stop _ _))

  pub peer-comes-first : PeerComesFirst passes
  peer-comes-first = skip tt _ _ (skip tt _ _ (stop _ _))

  pub sends-in-branch : SendsInBranch passes
  sends-in-branch = skip tt _ _ (skip tt _ _ (skip tt _ _ (stop _ _)))

  pub condition-comes-first : ConditionComesFirst passes
  condition-comes-first = skip tt _ _ (skip tt _ _ (skip tt _ _ (stop _ _)))

  pub receives-too-often : ReceivesTooOften passes
  receives-too-often = skip tt _ _ (skip tt _ _ (skip tt _ _ (skip tt _ _ (stop _ _))))

  pub pairs-by-peers : PairsByPeers passes
  pairs-by-peers = skip tt _ _ (skip tt _ _ (skip tt _ _ (skip tt _ _ (stop _ _))))

  pub pair-comes-first : PairComesFirst passes
  pair-comes-first = skip tt _ _ (skip tt _ _ (skip tt _ _ (skip tt _ _ (stop _ _))))

-- ---- what is refused in front of a chain is refused by all of it, and where nothing is given in front nothing is

module _ {A B : Type 0} (m : Check Atoms A) (next : A → Check Atoms B) where
  pub wrap-refuses : (old : Atoms) (f : Fault) (new : Atoms) → m old (Refuses f) new → (m ▷ next) old (Refuses f) new
  unfolding ◌▷◌
  wrap-refuses old f new h = inl h

  pub wrap-gives : ((old : Atoms) (a : A) (new : Atoms) → m old (Gives a) new → ⊥) → (old : Atoms) (b : B) (new : Atoms) → (m ▷ next) old (Gives b) new → ⊥
  unfolding ◌▷◌
  wrap-gives none old b new (a, mid, h, rest) = none old a mid h

module _ (passes : List AtomDef → Asked → TypeLimit → Type 0) where
  -- whether nil is an error is asked, and it isn't
  abbrev asked : ℕ → Check Atoms (Unit {0})
  asked n = is_below passes nil_type error_type (Some (here n)) ▷ λ b. either b (gives tt) (refuses (λ _. IsFault SuccessBefore (Some (here n)) kept.Nothing))

  asked-refuses : (n : ℕ) (old : Atoms) (f : Fault) → IsFault SuccessBefore (Some (here n)) kept.Nothing f → asked n old (Refuses f) old
  unfolding ◌▷◌ is_below refuses
  asked-refuses n old f h = inr (false, old, ((Nil, (tt, tt), λ x. x), refl), (h, refl))

  asked-gives : (n : ℕ) (old : Atoms) (u : Unit {0}) (new : Atoms) → asked n old (Gives u) new → ⊥
  unfolding ◌▷◌ is_below refuses gives_some
  asked-gives n old u new (true, mid, (sub, same), rest) = sub Nil tt tt
  asked-gives n old u new (false, mid, h, rest) = rest

  -- what is left of a plan behind the checks of single events, and behind those of returns
  abbrev messages : Members → Check Atoms Plan
  messages ms = all_pass (message_passes passes ms) (in_text ms) ▷ λ _. ordered ms

  abbrev returns : Members → Check Atoms Plan
  returns ms = all_pass (member_passes passes) (named_first passes ms) ▷ λ _. messages ms

  -- it may refuse so, and gives nothing
  abbrev Refusing : {A : Type 0} → Check Atoms A → FaultCode → ℕ → Kept → Type 0
  Refusing {A} m code n shown = (old : Atoms) → ((f : Fault) → IsFault code (Some (here n)) shown f → m old (Refuses f) old) × ((a : A) (new : Atoms) → m old (Gives a) new → ⊥)

  refused-by : {A : Type 0} (m n : Check Atoms A) (code : FaultCode) (at : ℕ) (shown : Kept) → ((old : Atoms) (o : Outcome A) (new : Atoms) → m old o new ↔ n old o new) → Refusing n code at shown → Refusing m code at shown
  refused-by m n code at shown same h old = ((λ f is. (same old (Refuses f) old).1 ((h old).0 f is)), (λ a new is. (h old).1 a new ((same old (Gives a) new).0 is)))

  in-front : {A B : Type 0} (m : Check Atoms A) (next : A → Check Atoms B) (code : FaultCode) (at : ℕ) (shown : Kept) → Refusing m code at shown → Refusing (m ▷ next) code at shown
  in-front m next code at shown h old = ((λ f is. wrap-refuses m next old f old ((h old).0 f is)), (λ b new is. wrap-gives m next (λ o a n. (h o).1 a n) old b new is))

  asked-refusing : (n : ℕ) → Refusing (asked n) SuccessBefore n kept.Nothing
  asked-refusing n old = ((λ f h. asked-refuses n old f h), (λ u new h. asked-gives n old u new h))

  asked-of : (rest more : Unit {0} → Check Atoms (Unit {0})) (last : Unit {0} → Check Atoms Plan) → Refusing (((asked 9 ▷ rest) ▷ more) ▷ last) SuccessBefore 9 kept.Nothing
  asked-of rest more last = in-front _ last _ _ _ (in-front _ more _ _ _ (in-front _ rest _ _ _ (asked-refusing 9)))

  pub returns-before-send : ReturnsBeforeSend passes
  returns-before-send = refused-by _ (returns return_before_send) SuccessBefore 9 kept.Nothing (skip tt _ _ (skip tt _ _ (skip tt _ _ (skip tt _ _ (skip tt _ _ (itself _)))))) (asked-of _ _ _)

  pub returns-before-receive : ReturnsBeforeReceive passes
  returns-before-receive = refused-by _ (returns return_before_receive) SuccessBefore 9 kept.Nothing (skip tt _ _ (skip tt _ _ (skip tt _ _ (skip tt _ _ (skip tt _ _ (itself _)))))) (asked-of _ _ _)

  -- whether nil is a string is asked, and it isn't
  abbrev fitting : Check Atoms (Unit {0})
  fitting = fits passes nil_type (Basic basic.StringAll) (Some (here 20))

  fitting-refusing : Refusing fitting BadMessage 20 (kept.Shape Nil)
  unfolding fits
  fitting-refusing old = ((λ f h. (inl (Nil, (tt, tt), (λ x. x), h), refl)), (λ u new (sub, same). sub Nil tt tt))

  fitting-of : (rest more last : Unit {0} → Check Atoms (Unit {0})) → Refusing (((fitting ▷ rest) ▷ more) ▷ last) BadMessage 20 (kept.Shape Nil)
  fitting-of rest more last = in-front _ last _ _ _ (in-front _ more _ _ _ (in-front _ rest _ _ _ fitting-refusing))

  -- no return is asked about, and neither is what is sent, or an end
  pub sends-nil : SendsNil passes
  sends-nil =
      refused-by _ (messages nil_as_string) BadMessage 20 (kept.Shape Nil)
      (skip tt _ _ (skip tt _ _ (skip tt _ _ (skip tt _ _ (skip tt _ _ (skip-by _ tt _ _ (skip tt _ _ (skip tt _ _ (skip tt _ _ (itself _)))) (itself _)))))))
      (in-front _ _ _ _ _ (refused-by _ _ _ _ _ (skip tt _ _ (skip tt _ _ (itself _))) (fitting-of _ _ _)))

-- ---- where a plan comes

pub then-gives : {A B : Type 0} (m : Check Atoms A) (next : A → Check Atoms B) (old mid new : Atoms) (a : A) (b : B) → m old (Gives a) mid → next a mid (Gives b) new → (m ▷ next) old (Gives b) new
unfolding ◌▷◌
then-gives m next old mid new a b h k = (a, mid, h, k)

pub just : {A : Type 0} (a : A) (old : Atoms) → gives a old (Gives a) old
unfolding gives_some
just a old = (refl, refl)

module _ (passes : List AtomDef → Asked → TypeLimit → Type 0) where
  nil-fits : (at : Option Place) (old : Atoms) → fits passes nil_type nil_type at old (Gives tt) old
  unfolding fits
  nil-fits at old = ((λ x valid h. h), refl)

  is-plan : (ms : Members) (p : Plan) (old : Atoms) → IsPlan ms p → ordered ms old (Gives p) old
  unfolding ordered
  is-plan ms p old h = (h, refl)

  -- what is sent is nil, and so is what is received
  message-passes : (old : Atoms) → all_pass (message_passes passes one_message) (in_text one_message) old (Gives tt) old
  message-passes old =
      then-gives _ _ old old old tt tt (just tt old) (then-gives _ _ old old old tt tt (just tt old)
      (then-gives _ _ old old old tt tt (then-gives _ _ old old old tt tt (then-gives _ _ old old old tt tt (nil-fits _ old) (just tt old)) (just tt old))
      (then-gives _ _ old old old tt tt (just tt old) (then-gives _ _ old old old tt tt (just tt old) (just tt old)))))

  pub plans-one-message : PlansOneMessage passes
  plans-one-message old =
      (skip tt _ _ (skip tt _ _ (skip tt _ _ (skip tt _ _ (skip tt _ _ (skip-by _ tt _ _ (skip tt _ _ (skip tt _ _ (skip tt _ _ (itself _)))) (itself _)))))) old (Gives one_plan) old).1
      (then-gives (all_pass (message_passes passes one_message) (in_text one_message)) (λ _. ordered one_message) old old old tt one_plan (message-passes old)
      (is-plan one_message one_plan old (record { pairs = refl; long = refl; numbering = message-numbering })))

  pub no-plan-in-ring : NoPlanInRing passes
  no-plan-in-ring old p new h = ring-has-none (rank_in peers_in_ring p.ranks, (plans-pair-up passes (here 1) peers_in_ring old new p h).1)

-- ---- what a sender may fail with

no-nil-error : (x : Shape) → InBasic x basic.ErrorAll → InBasic x basic.Nil → ⊥
no-nil-error Nil h k = h
no-nil-error (Bool b) h k = k
no-nil-error (Int i) h k = k
no-nil-error (Str t) h k = k
no-nil-error (List' mark _ items) h k = k
no-nil-error (Mapping' mark _ fields) h k = k
no-nil-error (Error' _ detail) h k = k
no-nil-error (Function isolated graph) h k = k
no-nil-error (Future' _ results) h k = k

same-basic : (env : Atoms) (x : Shape) (b : BasicSet) (t : SemType) → IsSameType (Basic b) t → InBasic x b → In env x t
same-basic env x b (Basic c) same h = subst (InBasic x) same h
same-basic env x b (Atom n) same h = absurd same
same-basic env x b (Or' _ s _ t) same h = absurd same
same-basic env x b (And' _ s _ t) same h = absurd same
same-basic env x b (Not' _ t) same h = absurd same

both-errors : (env : Atoms) (x : Shape) (fail : SemType) → IsBothOf error_type error_type fail → InBasic x basic.ErrorAll → In env x fail
both-errors env x (And' _ s _ t) (a, b) h = (same-basic env x basic.ErrorAll s a h, same-basic env x basic.ErrorAll t b h)
both-errors env x (Basic b) both h = absurd both
both-errors env x (Atom n) both h = absurd both
both-errors env x (Or' _ s _ t) both h = absurd both
both-errors env x (Not' _ t) both h = absurd both

module _ (passes : List AtomDef → Asked → TypeLimit → Type 0) (x : Shape) (valid : IsValid x) (error : InBasic x basic.ErrorAll) where
  failure-outside : (at : Option Place) (old : Atoms) (u : Unit {0}) (new : Atoms) → failure_fits passes error_type nil_type at old (Gives u) new → ⊥
  unfolding ◌▷◌ gives_some fits
  failure-outside at old u new (fail, mid, (both, stays), (sub, same)) = no-nil-error x error (sub x valid (both-errors mid x fail both error))

  behind-one : {A B : Type 0} (m : Check Atoms A) (next : A → Check Atoms B) → ((a : A) (old : Atoms) (b : B) (new : Atoms) → next a old (Gives b) new → ⊥) → (old : Atoms) (b : B) (new : Atoms) → (m ▷ next) old (Gives b) new → ⊥
  unfolding ◌▷◌
  behind-one m next none old b new (a, mid, h, k) = none a mid b new k

  message-outside : (old : Atoms) (u : Unit {0}) (new : Atoms) → all_pass (message_passes passes failing_sender) (in_text failing_sender) old (Gives u) new → ⊥
  message-outside =
      behind-one _ _ (λ a. behind-one _ _ (λ b. wrap-gives _ _ (wrap-gives _ _ (behind-one _ _ (λ c. failure-outside (Some (here 20)))))))

  pub failure-is-outside : (old : Atoms) (p : Plan) (new : Atoms) → plans passes (here 1) failing_sender old (Gives p) new → ⊥
  failure-is-outside old p new h =
      wrap-gives _ _ message-outside old p new
      ((skip tt _ _ (skip tt _ _ (skip tt _ _ (skip tt _ _ (skip tt _ _ (skip-by _ tt _ _ (skip tt _ _ (skip tt _ _ (skip tt _ _ (itself _)))) (itself _)))))) old (Gives p) new).0 h)

pub failure-outside-so : (passes : List AtomDef → Asked → TypeLimit → Type 0) → FailureIsOutside passes
failure-outside-so passes old x shape p new h = failure-is-outside passes x shape.0 shape.1 old p new h
