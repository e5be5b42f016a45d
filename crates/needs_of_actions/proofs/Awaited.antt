-- Waits: what is known of names, as what the needs mean.
use Rattle.std.proofs.Common.{◌≡◌, ◌+◌, ◌++◌, ◌↔◌, ◌<◌, ◌≢◌, ◌∙◌, ℕ, List, [], ◌∷◌, Any, All, Option, Some, None, Result, Ok, Err, IfOk, OnOk, arith, get_or, length, map, refl, sym, subst, ap}
use Rattle.std.specs.List.{AllZip}
use Rattle.std.proofs.lemmas.List.{length-map}
use Rattle.std.proofs.lemmas.List.Elements.{All-cons, All-head, All-nil, All-tail}
use Rattle.bal_base.specs.declared.fault.Fault.{Fault}
use Rattle.bal_base.specs.declared.place.Place.{Place}
use Rattle.bal_base.specs.declared.stop.Memory.{Memory as NoMemory}
use Rattle.bal_base.specs.declared.stop.Stop.{Stop}
use Rattle.bal_base.specs.declared.stop.Stop.TheVariants.{Memory, Fault as OwnFault}
use Rattle.bal_base.specs.declared.shape.Shape.{Shape}
use Rattle.bal_tree.specs.declared.action.WaitMember.{WaitMember}
use Rattle.bal_tree.specs.declared.name.QualifiedName.{QualifiedName}
use Rattle.checks.specs.Checks.{Comes}
use Rattle.checks.specs.Questions.{adds}
use Rattle.checks.proofs.Steps.{ran_out, stops}
use Rattle.descriptors.specs.Described.{IsCopy, IsPlain, plain}
use Rattle.type_model.specs.declared.basic.SemType.{Atom}
use Rattle.flow_narrowing.specs.Flows.{IfShared}
use Rattle.type_model.specs.declared.atoms.AtomDef.{AtomDef}
use Rattle.type_model.specs.declared.atoms.AtomDef.TheVariants.{Mapping as MappingAtom}
use Rattle.type_model.specs.declared.basic.Ty.{Ty}
use Rattle.type_model.specs.Calls.{KeepsTypes}
use Rattle.type_model.specs.Defined.{TyBelow}
use Rattle.type_model.specs.Membership.{In}
use Rattle.check_kinds.proofs.KindSets.{then-same}
use Rattle.check_kinds.proofs.Shapes.{plain-below}
use Rattle.type_model.proofs.SameTypes.{In-same}
use Rattle.descriptors.specs.Steps.{lifted}
use Rattle.descriptors.proofs.Yielding.{copy-below}
use Rattle.check_work.proofs.Noting.{made-comes}
use Rattle.typed_tree.specs.declared.expr.TypedExpr.{TypedExpr}
use Rattle.typed_tree.specs.declared.form.StrictForm.TheVariants as form
use Rattle.typed_tree.specs.SharedTypes.{Shared, sem_of}
use Rattle.check_words.specs.Actions.{ArePresent, IsOfAll, IsOfAny, awaited, futures, takes_wants, waits_for_all, waits_for_any}
use Rattle.check_words.specs.Constructors.{fields_with}
use Rattle.check_words.specs.Stands.{ConstructorBelow, SharedBelow, Stands}
use Rattle.check_words.specs.State.{AreLast, ConstructorAtWork, State, all_but}
use Rattle.check_words.specs.Words.{Atoms, closes_constructor}
use Rattle.check_words.proofs.Coming.{asked-over, became-this, given, next}
use Rattle.check_words.proofs.Growing.{stands-grows}
use Rattle.check_words.proofs.LastOnes.{kept-is}
use Rattle.check_words.proofs.Standing.{front-have, others-have, shared-below, stands-constructors, stands-wants}
use Rattle.check_work.specs.Parts.{Gathered}
use Rattle.check_work.proofs.Making.{strict-made, strict-stands}
use Rattle.needs_of_actions.specs.Awaited.{AddsAll, IsCopyIf, IsOfSeveral, IsOfSome, IsRecordOf, IsSingle, futures_in, puts_wait}
use Rattle.needs_of_actions.proofs.PeersNamed.{site-now}
use Rattle.needs_of_actions.proofs.Zipped.{any-back, any-there}

-- ---- what is wanted of the names is taken

module _ (s : State) (count : ℕ) (ws ks : List (Option Shared)) (last : AreLast s.wants count ws) (kept : ks ≡ all_but count s.wants) where
  pub wants-taken : (ts : List Shared) → ArePresent ws ts → Comes (takes_wants count) s (Ok ts) (record s { wants = ks })
  wants-taken ts there = let new : State = record s { wants = ks } in
      next _ _ _ _ _ ws s (given _ s ws last)
      (next _ _ _ _ _ ts s (given _ s ts there) (next _ _ _ _ _ tt new (became-this _ s new (ap (λ xs. record s { wants = xs }) kept)) (given _ new ts refl)))

  pub untaken-stand : Stands s → Stands (record s { wants = ks })
  untaken-stand h = let n : ℕ = length s.atoms in
      stands-wants s h ks (subst (All (IfShared (TyBelow n))) (sym kept) (others-have (IfShared (TyBelow n)) count s.wants h.wants))

  -- ---- a wait for one of them

  module _ (names : List QualifiedName) (at : Place) (many : count ≡ length names) (numbers : List (Option ℕ)) (are : numbers ≡ awaited s.site names) (futures_ : ℕ)
      (so-many : futures_ ≡ futures numbers) (t : Shared) (es : List TypedExpr) (g : Gathered (form.WaitAny numbers) futures_ t at s.found es) where
    pub wait-stands : Stands s → SharedBelow (length s.atoms) t → Stands (record s { wants = ks; found = es; ways = None })
    wait-stands h below = strict-stands (form.WaitAny numbers) futures_ t at (record s { wants = ks }) es g (untaken-stand h) below

    pub waits-come : IsOfSome ws s.atoms t → Comes (waits_for_any names at) s (Ok tt) (record s { wants = ks; found = es; ways = None })
    waits-come (ts, there, of) =
        let mid : State = record s { wants = ks } in
        let new : State = record s { wants = ks; found = es; ways = None } in
        next _ _ _ _ _ s.site s (site-now s)
        (next _ _ _ _ _ ts mid (subst (λ n. Comes (takes_wants n) s (Ok ts) mid) many (wants-taken ts there))
        (strict-made (form.WaitAny (awaited s.site names)) (futures (awaited s.site names)) t at mid es
        (subst (λ ns. Gathered (form.WaitAny ns) (futures ns) t at s.found es) are (subst (λ n. Gathered (form.WaitAny numbers) n t at s.found es) so-many g)) (IsOfAny ts) of))

-- ---- types that are there

pub copies-present : (ws : List (Option Shared)) (us : List Ty) → AllZip IsCopyIf ws us → (ts : List Shared) × ArePresent ws ts × AllZip (λ t u. IsCopy t.value u) ts us
copies-present [] [] h = ([], refl, tt)
copies-present [] (u ∷ us) h = absurd h
copies-present (w ∷ ws) [] h = absurd h
copies-present (None ∷ ws) (u ∷ us) h = absurd h.0
copies-present (Some t ∷ ws) (u ∷ us) h = let more = copies-present ws us h.1 in (t ∷ more.0, ap (λ xs. Some t ∷ xs) more.1, (h.0, more.2))

module _ (n : ℕ) where
  pub copies-below : (ws : List (Option Shared)) (us : List Ty) → AllZip IsCopyIf ws us → All (IfShared (TyBelow n)) ws → All (TyBelow n) us
  copies-below [] [] h k = All-nil (TyBelow n)
  copies-below [] (u ∷ us) h k = absurd h
  copies-below (w ∷ ws) [] h k = absurd h
  copies-below (None ∷ ws) (u ∷ us) h k = absurd h.0
  copies-below (Some t ∷ ws) (u ∷ us) h k =
      All-cons (TyBelow n) u us (copy-below n t.value u h.0 (All-head (IfShared (TyBelow n)) (Some t) ws k)) (copies-below ws us h.1 (All-tail (IfShared (TyBelow n)) (Some t) ws k))

module _ (env : Atoms) where
  copied-any : (x : Shape) (ts : List Shared) (us : List Ty) → AllZip (λ t u. IsCopy t.value u) ts us → Any (λ u. In env x u.sem) us ↔ Any (λ w. In env x (sem_of w)) ts
  copied-any x ts us h = (
    any-back (λ t u. IsCopy t.value u) (λ w. In env x (sem_of w)) (λ u. In env x u.sem) (λ t u e. (In-same env x t.value.sem u.sem e.sem).1) ts us h,
    any-there (λ t u. IsCopy t.value u) (λ w. In env x (sem_of w)) (λ u. In env x u.sem) (λ t u e. (In-same env x t.value.sem u.sem e.sem).0) ts us h,
  )

  pub several-is : (ws : List (Option Shared)) (us : List Ty) (u : Ty) (t : Shared) → AllZip IsCopyIf ws us → IsPlain (λ x. Any (λ v. In env x v.sem) us) env u → t.value ≡ u → IsOfSeveral ws env t
  several-is ws us u t h is same = let there = copies-present ws us h in (
    there.0,
    there.1,
    subst (IsPlain (λ x. Any (λ w. In env x (sem_of w)) there.0) env) (sym same)
        (record { shapes = λ x v. then-same (is.shapes x v) (copied-any x there.0 us there.2); lists = is.lists; maps = is.maps }),
  )

  -- where there isn't just one
  some-or-several : (ts : List Shared) (t : Shared) → length ts ≢ 1 → IsPlain (λ x. Any (λ w. In env x (sem_of w)) ts) env t.value → IsOfAny ts env t.value
  some-or-several [] t many is = record { shapes = λ x v. then-same (is.shapes x v) (none x); lists = is.lists; maps = is.maps }
    where
      none : (x : Shape) → Any (λ (w : Shared). In env x (sem_of w)) [] ↔ ⊥
      none x = (λ a. let far : a.0 < 0 = a.2 in absurd (omega (arith, far)), λ e. absurd e)
  some-or-several (a ∷ []) t many is = absurd (many refl)
  some-or-several (a ∷ b ∷ ts) t many is = is

  pub some-of : (ws : List (Option Shared)) (t : Shared) → length ws ≢ 1 → IsOfSeveral ws env t → IsOfSome ws env t
  some-of ws t many (ts, there, is) = (ts, there, some-or-several ts t (λ e. many (ap length there ∙ length-map ts Some ∙ e)) is)

  pub one-of : (w : Option Shared) (t : Shared) → IsSingle w t → IsOfSome (w ∷ []) env t
  one-of (Some u) t same = (u ∷ [], refl, same)
  one-of None t same = absurd same

-- ---- a wait for all of them

module _ (keys : List (Option (List ℕ))) (ws : List (Option Shared)) where
  pub record-is : (us : List Ty) (def : AtomDef) → AllZip IsCopyIf ws us → def ≡ MappingAtom (fields_with keys us) None → IsRecordOf keys ws def
  record-is us def h is = let there = copies-present ws us h in (there.0, there.1, (us, there.2, ap (λ d. d ∷ []) is))

  pub record-adds : (at : Place) (old new : Atoms) (def : AtomDef) (r : Result ℕ (Stop Fault)) → IsRecordOf keys ws def → Comes (adds (λ env defs. defs ≡ def ∷ []) (Some at)) old r new
      → AddsAll keys ws at old r new
  unfolding Comes adds
  record-adds at old new def (Ok atom) (ts, there, of) (defs, is, first, more) = (ts, there, (defs, subst (IsOfAll keys ts) (sym is) of, first, more))
  record-adds at old new def (Err (OwnFault f)) (ts, there, of) (defs, is, many, fault, same) = (ts, there, (defs, subst (IsOfAll keys ts) (sym is) of, many, fault, same))
  record-adds at old new def (Err Memory) made h = tt

module _ (s : State) (cs : List ConstructorAtWork) (c : ConstructorAtWork) (is : s.constructors ≡ cs ++ c ∷ []) (names : List QualifiedName) (count : ℕ) (many : count ≡ length names)
    (ws ks : List (Option Shared)) (last : AreLast s.wants count ws) (kept : ks ≡ all_but count s.wants) (at : Place) (env : Atoms) where
  closed-comes : Comes closes_constructor s (Ok c) (record s { constructors = cs })
  closed-comes =
      next _ _ _ _ _ c s (given _ s c (record { kept = cs; is = is }))
      (next _ _ _ _ _ tt (record s { constructors = cs })
      (became-this _ s (record s { constructors = cs }) (ap (λ ds. record s { constructors = ds }) (sym (kept-is 1 s.constructors cs (c ∷ []) is refl)))) (given _ (record s { constructors = cs }) c refl))

  pub all-stand : Stands s → KeepsTypes s.atoms env → Stands (record s { constructors = cs; wants = ks; atoms = env })
  all-stand h grows = let n : ℕ = length s.atoms in
      stands-grows (record s { constructors = cs; wants = ks }) env grows
      (untaken-stand (record s { constructors = cs }) count ws ks last kept
      (stands-constructors s h cs (front-have (ConstructorBelow n) cs (c ∷ []) (subst (All (ConstructorBelow n)) is h.constructors))))

  all-come : (atom : ℕ) (r : Result (Unit {0}) (Stop Fault)) (new : State) → AddsAll c.keys ws at s.atoms (Ok atom) env
      → Comes (puts_wait atom (awaited s.site names) at) (record s { constructors = cs; wants = ks; atoms = env }) r new → Comes (waits_for_all names at) s r new
  all-come atom r new (ts, there, h) k =
      let one : State = record s { constructors = cs } in
      let two : State = record s { constructors = cs; wants = ks } in
      next _ _ _ _ _ s.site s (site-now s)
      (next _ _ _ _ _ c one closed-comes
      (next _ _ _ _ _ ts two (subst (λ n. Comes (takes_wants n) one (Ok ts) two) many (wants-taken one count ws ks last kept ts there))
      (next _ _ _ _ _ atom (record two { atoms = env }) (asked-over (adds (λ old. IsOfAll c.keys ts) (Some at)) two env (Ok atom) (record two { atoms = env }) h refl) k)))

  pub all-made : (atom : ℕ) (ns : List (Option ℕ)) (made : Result (Unit {0}) NoMemory) (r : Result (Unit {0}) (Stop Fault)) (new : State) → r ≡ lifted made → ns ≡ awaited s.site names
      → AddsAll c.keys ws at s.atoms (Ok atom) env → OnOk made (Comes (puts_wait atom ns at) (record s { constructors = cs; wants = ks; atoms = env }) (Ok tt) new) → Comes (waits_for_all names at) s r new
  all-made atom ns made r new is are added h = let three : State = record s { constructors = cs; wants = ks; atoms = env } in
      subst (λ q. Comes (waits_for_all names at) s q new) (sym is)
      (all-come atom (lifted made) new added
      (made-comes (puts_wait atom (awaited s.site names) at) three new made (subst (λ ms. OnOk made (Comes (puts_wait atom ms at) three (Ok tt) new)) are h)))

  pub all-refused : (stop : Stop Fault) → AddsAll c.keys ws at s.atoms (Err stop) env → Comes (waits_for_all names at) s (Err stop) (record s { constructors = cs; wants = ks; atoms = env })
  all-refused Memory h = ran_out _ s _
  all-refused (OwnFault f) (ts, there, h) =
      let one : State = record s { constructors = cs } in
      let two : State = record s { constructors = cs; wants = ks } in
      next _ _ _ _ _ s.site s (site-now s)
      (next _ _ _ _ _ c one closed-comes
      (next _ _ _ _ _ ts two (subst (λ n. Comes (takes_wants n) one (Ok ts) two) many (wants-taken one count ws ks last kept ts there))
      (stops _ _ two (record two { atoms = env }) (OwnFault f) (asked-over (adds (λ old. IsOfAll c.keys ts) (Some at)) two env (Err (OwnFault f)) (record two { atoms = env }) h refl))))

module _ (s : State) (atom : ℕ) (ws row : List (Option ℕ)) (count : ℕ) (t : Shared) (at : Place) (es : List TypedExpr) (g : Gathered (form.WaitAll atom row) count t at s.found es)
    (is : t.value ≡ plain (Atom atom)) where
  pub put-comes : row ≡ ws → count ≡ futures_in ws → Comes (puts_wait atom ws at) s (Ok tt) (record s { found = es; ways = None })
  put-comes same many =
      strict-made (form.WaitAll atom ws) (futures_in ws) t at s es
      (subst (λ n. Gathered (form.WaitAll atom ws) n t at s.found es) many (subst (λ r. Gathered (form.WaitAll atom r) count t at s.found es) same g)) (λ env u. u ≡ plain (Atom atom)) is

  pub put-stands : Stands s → atom < length s.atoms → Stands (record s { found = es; ways = None })
  put-stands h lt = strict-stands (form.WaitAll atom row) count t at s es g h (subst (TyBelow (length s.atoms)) (sym is) (plain-below (length s.atoms) (Atom atom) lt))

pub named-members : (f : QualifiedName → Option ℕ) (ms : List WaitMember) → map (λ m. f m.name) ms ≡ map f (map (λ m. m.name) ms)
named-members f [] = refl
named-members f (m ∷ ms) = ap (λ ks. f m.name ∷ ks) (named-members f ms)

module _ (env : Atoms) where
  pub one-of-all : (ws : List (Option Shared)) (w : Option Shared) (r : Result Shared NoMemory) → length ws ≡ 1 → w ≡ get_or ws 0 w → IfOk r (IsSingle w) → IfOk r (IsOfSome ws env)
  one-of-all ws w (Err e) many is h = tt
  one-of-all [] w (Ok t) many is h = absurd (omega (arith, many))
  one-of-all (x ∷ []) w (Ok t) many is h = one-of env x t (subst (λ v. IsSingle v t) is h)
  one-of-all (x ∷ y ∷ ws) w (Ok t) many is h = absurd (omega (arith, many))

  pub several-of-all : (ws : List (Option Shared)) (r : Result Shared NoMemory) → length ws ≢ 1 → IfOk r (IsOfSeveral ws env) → IfOk r (IsOfSome ws env)
  several-of-all ws (Ok t) many h = some-of env ws t many h
  several-of-all ws (Err e) many h = tt

one-below : (n : ℕ) (w : Option Shared) (t : Shared) → IsSingle w t → IfShared (TyBelow n) w → SharedBelow n t
one-below n (Some u) t same below = shared-below n u t same below
one-below n None t same below = absurd same

pub only-below : (n : ℕ) (ws : List (Option Shared)) (w : Option Shared) (r : Result Shared NoMemory) → length ws ≡ 1 → w ≡ get_or ws 0 w → IfOk r (IsSingle w) → All (IfShared (TyBelow n)) ws
    → IfOk r (SharedBelow n)
only-below n ws w (Err e) many is h all = tt
only-below n [] w (Ok t) many is h all = absurd (omega (arith, many))
only-below n (x ∷ []) w (Ok t) many is h all = one-below n x t (subst (λ v. IsSingle v t) is h) (All-head (IfShared (TyBelow n)) x [] all)
only-below n (x ∷ y ∷ ws) w (Ok t) many is h all = absurd (omega (arith, many))
