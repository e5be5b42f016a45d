-- Waits and messages: two runs of each need agree, but for waits that add an atom and those of futures.
use Rattle.std.proofs.Common.{◌≡◌, ℕ, zero, suc, Bool, true, false, List, [], ◌∷◌, Any, length, map, Option, Some, None, Result, Ok, Err, arith, inr, refl, sym, subst, ap, ◌∙◌}
use Rattle.std.specs.List.{AllZip}
use Rattle.bal_base.specs.declared.fault.Fault.{Fault}
use Rattle.bal_base.specs.declared.fault.FaultCode.TheVariants.{NeedsType}
use Rattle.bal_base.specs.declared.place.Place.{Place}
use Rattle.bal_tree.specs.declared.action.Peer.{Peer}
use Rattle.bal_tree.specs.declared.name.QualifiedName.{QualifiedName}
use Rattle.checks.specs.Agreement.{AreTwins, SameFault}
use Rattle.checks.specs.Checks.{Gives, Refuses, refuses}
use Rattle.type_model.specs.declared.basic.SemType.{SemType}
use Rattle.type_model.specs.declared.basic.Ty.{Ty}
use Rattle.type_model.specs.Membership.{In}
use Rattle.type_model.proofs.Same.{both, either, itself}
use Rattle.typed_tree.specs.declared.event.SeenEvent.{SeenEvent}
use Rattle.typed_tree.specs.declared.form.StrictForm.{StrictForm}
use Rattle.typed_tree.specs.declared.form.StrictForm.TheVariants as form
use Rattle.typed_tree.specs.SharedTypes.{Shared, sem_of}
use Rattle.expr_needs.specs.declared.expected.Expected.{Expected}
use Rattle.expr_needs.specs.declared.expected.Expected.TheVariants as expected
use Rattle.expr_needs.specs.declared.kind.Kind.TheVariants as kind
use Rattle.check_words.specs.Actions.{ArePresent, IsOfAny, NilOrErrors, awaited, flush_fails, flushes, futures, known_result, makes_message, may_fail, message_to, peer_named, peer_of, receives, receives_as, result_of, sends, sends_and_waits, sent_before, site_now, takes_wants, waits_for_any}
use Rattle.check_words.specs.Sharing.{SameOption}
use Rattle.check_words.specs.State.{Site}
use Rattle.check_words.specs.Seen.{worker_named}
use Rattle.check_words.specs.Words.{Atoms, Step, makes_strict}
use Rattle.check_answers.specs.Pieces.{DoesForm, SamePieces, form_pieces}
use Rattle.check_answers.specs.TwinStates.{ResultTwins, SharedTwins, SiteTwins}
use Rattle.check_answers.proofs.Leading.{Any2, Leads, Pairs, leads-fails, leads-gives, leads-nothing, leads-some, leads-then}
use Rattle.check_answers.proofs.Meanings.{AlikeShapes, plain-twin}
use Rattle.check_answers.proofs.Questions.{Before, Behind, D, Equal, W, kind-strict-leads, strict-leads, typed-leads}
use Rattle.check_answers.proofs.Words.{last-wants-leads, no-more-leads, unit-leads, want-leads}
use Rattle.check_answers.proofs.Zips.{zip-get}

-- ---- one of a list

any-later : {X : Type 0} (Q : X → Type 0) (y : X) (ys : List X) → Any Q ys → Any Q (y ∷ ys)
any-later Q y ys (k, x, lt, is, q) = (suc k, x, omega (arith, lt), is, q)

pub any-zip : {X : Type 0} (R : X → X → Type 0) (P Q : X → Type 0) → ((x y : X) → R x y → P x → Q y) → (xs ys : List X) → AllZip R xs ys → Any P xs → Any Q ys
any-zip R P Q f (x ∷ xs) (y ∷ ys) h (zero, z, lt, is, p) = (zero, y, omega arith, refl, f x y h.0 (subst P (sym is) p))
any-zip R P Q f (x ∷ xs) (y ∷ ys) h (suc k, z, lt, is, p) = any-later Q y ys (any-zip R P Q f xs ys h.1 (k, z, omega (arith, lt), is, p))
any-zip R P Q f [] [] h (k, z, lt, is, p) = absurd (omega (arith, lt))
any-zip R P Q f [] (y ∷ ys) h a = absurd h
any-zip R P Q f (x ∷ xs) [] h a = absurd h

pub any-zip-back : {X : Type 0} (R : X → X → Type 0) (P Q : X → Type 0) → ((x y : X) → R x y → Q y → P x) → (xs ys : List X) → AllZip R xs ys → Any Q ys → Any P xs
any-zip-back R P Q f (x ∷ xs) (y ∷ ys) h (zero, z, lt, is, p) = (zero, x, omega arith, refl, f x y h.0 (subst Q (sym is) p))
any-zip-back R P Q f (x ∷ xs) (y ∷ ys) h (suc k, z, lt, is, p) = any-later P x xs (any-zip-back R P Q f xs ys h.1 (k, z, omega (arith, lt), is, p))
any-zip-back R P Q f [] [] h (k, z, lt, is, p) = absurd (omega (arith, lt))
any-zip-back R P Q f [] (y ∷ ys) h a = absurd h
any-zip-back R P Q f (x ∷ xs) [] h a = absurd h

module _ (m n : Atoms) where
  abbrev B : Pairs
  B = Before m n

  abbrev A : Pairs
  A = Behind m n

  abbrev E : Ty → Ty → Type 0
  E = D m n

  abbrev V : Ty → Ty → Type 0
  V = W m n

  -- ---- the workers of the function

  equal-sites : (a b c d : Site) → c ≡ a → d ≡ b → SiteTwins E E a b → SiteTwins E E c d
  equal-sites a b c d e f h = subst (λ k. SiteTwins E E k d) (sym e) (subst (SiteTwins E E a) (sym f) h)

  pub site-leads : Leads B B (SiteTwins E E) site_now site_now
  site-leads = leads-some B _ _ _ (λ s t a b p x y. equal-sites s.site t.site a b x y p.states.site)

  same-refusal : (f g : Fault) → SameFault f g → Leads B B (SharedTwins E E) (refuses (λ s h. h ≡ f)) (refuses (λ s h. h ≡ g))
  unfolding refuses
  same-refusal f g h s t p (Gives a) o m2 n2 x y = absurd x
  same-refusal f g h s t p (Refuses i) (Gives b) m2 n2 x y = absurd y
  same-refusal f g h s t p (Refuses i) (Refuses j) m2 n2 x y =
      inr (inr (record { code = ap (λ (k : Fault). k.code) x.0 ∙ h.code ∙ sym (ap (λ (k : Fault). k.code) y.0); at = ap (λ (k : Fault). k.at) x.0 ∙ h.at ∙ sym (ap (λ (k : Fault). k.at) y.0) }))

  known-leads : (o p : Option (Result Shared Fault)) → SameOption (ResultTwins E E) o p → Leads B B (SharedTwins E E) (known_result o) (known_result p)
  known-leads (Some (Ok t)) (Some (Ok u)) h = leads-gives B _ t u h
  known-leads (Some (Err f)) (Some (Err g)) h = same-refusal f g h
  known-leads None None h = leads-nothing B B (SharedTwins E E) _
  known-leads None (Some r) h = absurd h
  known-leads (Some r) None h = absurd h
  known-leads (Some (Ok t)) (Some (Err g)) h = absurd h
  known-leads (Some (Err f)) (Some (Ok u)) h = absurd h

  pub result-leads : (w : ℕ) → Leads B B (SharedTwins E E) (result_of w) (result_of w)
  result-leads w =
      leads-then B B B _ (SharedTwins E E) _ _ _ _ site-leads
      (λ s t h. known-leads _ _ (zip-get (ResultTwins E E) s.results t.results w h.results))

  pub peer-leads : (p : Peer) → Leads B B Equal (peer_of p) (peer_of p)
  peer-leads p =
      leads-then B B B _ Equal _ _ _ _ site-leads
      (λ s t h. leads-then B B B _ Equal _ _ _ _ (unit-leads m n E E)
      (λ u v k. leads-gives B Equal _ _ (ap (λ ws. peer_named ws v.worker p) h.workers ∙ ap (λ w. peer_named s.workers w p) k.worker)))

  -- ---- waits

  wanted-same : (ts us : List Shared) → AllZip (SameOption (SharedTwins E E)) (map Some ts) (map Some us) → AllZip (SharedTwins E E) ts us
  wanted-same [] [] h = tt
  wanted-same (t ∷ ts) (u ∷ us) h = (h.0, wanted-same ts us h.1)
  wanted-same [] (u ∷ us) h = absurd h
  wanted-same (t ∷ ts) [] h = absurd h

  present-same : (ws xs : List (Option Shared)) (ts us : List Shared) → AllZip (SameOption (SharedTwins E E)) ws xs → ArePresent ws ts → ArePresent xs us
      → AllZip (SharedTwins E E) ts us
  present-same ws xs ts us h x y =
      wanted-same ts us (subst (λ k. AllZip (SameOption (SharedTwins E E)) k (map Some us)) x (subst (AllZip (SameOption (SharedTwins E E)) ws) y h))

  pub takes-wants-leads : (count : ℕ) → Leads B B (AllZip (SharedTwins E E)) (takes_wants count) (takes_wants count)
  takes-wants-leads count =
      leads-then B B B _ (AllZip (SharedTwins E E)) _ _ _ _ (last-wants-leads m n E E count)
      (λ ws xs h. leads-then B B B (AllZip (SharedTwins E E)) (AllZip (SharedTwins E E)) _ _ _ _
      (leads-some B _ _ _ (λ s t a b p x y. present-same ws xs a b h x y))
      (λ ts us k. leads-then B B B Any2 (AllZip (SharedTwins E E)) _ _ _ _ (no-more-leads m n E E count) (λ x y z. leads-gives B _ ts us k)))

  any-same : (ts us : List Shared) → AllZip (SharedTwins E E) ts us
      → AlikeShapes m n (λ x. Any (λ w. In m x (sem_of w)) ts) (λ x. Any (λ w. In n x (sem_of w)) us)
  any-same ts us h x valid = (
    any-zip (SharedTwins E E) _ _ (λ t u k i. (k.twins.shapes x valid).0 i) ts us h,
    any-zip-back (SharedTwins E E) _ _ (λ t u k i. (k.twins.shapes x valid).1 i) ts us h,
  )

  of-any : (ts us : List Shared) (a b : Ty) → AllZip (SharedTwins E E) ts us → IsOfAny ts m a → IsOfAny us n b → V a b
  of-any [] [] a b h x y = plain-twin m n _ _ a b (λ i v. itself) x y
  of-any (t ∷ []) (u ∷ []) a b h x y = subst (λ k. V k b) (sym x) (subst (V t.value) (sym y) h.0.twins)
  of-any (t ∷ s ∷ ts) (u ∷ v ∷ us) a b h x y = plain-twin m n _ _ a b (any-same (t ∷ s ∷ ts) (u ∷ v ∷ us) h) x y
  of-any [] (u ∷ us) a b h x y = absurd h
  of-any (t ∷ ts) [] a b h x y = absurd h
  of-any (t ∷ []) (u ∷ v ∷ us) a b h x y = absurd h.1
  of-any (t ∷ s ∷ ts) (u ∷ []) a b h x y = absurd h.1

  awaited-same : (s t : Site) (qs : List QualifiedName) → SiteTwins E E s t → awaited t qs ≡ awaited s qs
  awaited-same s t qs h = ap (λ ws. map (worker_named ws) qs) h.workers

  pub waits-any-leads : (qs : List QualifiedName) (at : Place) → Leads B A Any2 (waits_for_any qs at) (waits_for_any qs at)
  waits-any-leads qs at =
      leads-then B B A _ Any2 _ _ _ _ site-leads
      (λ s t h. leads-then B B A _ Any2 _ _ _ _ (takes-wants-leads (length qs))
      (λ ts us k. subst (λ ws. Leads B A Any2 (makes_strict (futures (awaited s qs)) (form.WaitAny (awaited s qs)) (IsOfAny ts) at) (makes_strict (futures ws) (form.WaitAny ws) (IsOfAny us) at))
      (sym (awaited-same s t qs h))
      (strict-leads m n (futures (awaited s qs)) (form.WaitAny (awaited s qs)) (form.WaitAny (awaited s qs)) (IsOfAny ts) (IsOfAny us) at refl
      (λ a b x y. of-any ts us a b k x y))))

  -- ---- receives

  as-leads : (o p : Option Shared) (peer : Peer) (at : Place) → SameOption (SharedTwins E E) o p → Leads B A Any2 (receives_as o peer at) (receives_as p peer at)
  as-leads None None peer at h = leads-fails B A Any2 NeedsType at
  as-leads (Some t) (Some u) peer at h =
      leads-then B B A Equal Any2 _ _ _ _ (peer-leads peer)
      (λ a b e. typed-leads m n 0 (form.Receive a) (form.Receive b) t u at (ap (λ k. DoesForm (form.Receive k)) e) h.twins)
  as-leads None (Some u) peer at h = absurd h
  as-leads (Some t) None peer at h = absurd h

  pub receives-leads : (e : Expected) (peer : Peer) (at : Place) → Leads B A Any2 (receives e peer at) (receives e peer at)
  receives-leads expected.Nothing peer at = as-leads None None peer at tt
  receives-leads expected.Immutable peer at = as-leads None None peer at tt
  receives-leads expected.Wanted peer at = leads-then B B A _ Any2 _ _ _ _ (want-leads m n E E) (λ w x h. as-leads w x peer at h)

  -- ---- messages

  errors-twin : (s t : SemType) (a b : Ty) → AreTwins m s n t → NilOrErrors s m a → NilOrErrors t n b → V a b
  errors-twin s t a b h x y = plain-twin m n _ _ a b (λ i v. either itself (both (h i v) itself)) x y

  message-leads : (b c : Bool) (count : ℕ) (f : StrictForm) (peer : ℕ) (at : Place) → c ≡ b → SamePieces E (form_pieces f) (form_pieces f)
      → Leads B A Any2 (makes_message b count f peer at) (makes_message c count f peer at)
  message-leads false false count f peer at e h = kind-strict-leads m n count f f kind.Nothing at h
  message-leads true true count f peer at e h =
      leads-then B B A (SharedTwins E E) Any2 _ _ _ _ (result-leads peer)
      (λ t u k. strict-leads m n count f f (NilOrErrors (sem_of t)) (NilOrErrors (sem_of u)) at h (λ a b x y. errors-twin (sem_of t) (sem_of u) a b k.twins.shapes x y))
  message-leads true false count f peer at e h = absurd (cc)
  message-leads false true count f peer at e h = absurd (cc)

  to-leads : (fails_by : ℕ → ℕ → List SeenEvent → Bool) (count : ℕ) (f : StrictForm) (p : Option ℕ) (at : Place) → SamePieces E (form_pieces f) (form_pieces f)
      → Leads B A Any2 (message_to fails_by count f p at) (message_to fails_by count f p at)
  to-leads fails_by count f None at h = kind-strict-leads m n count f f kind.Nothing at h
  to-leads fails_by count f (Some peer) at h =
      leads-then B B A _ Any2 _ _ _ _ site-leads
      (λ s t k. leads-then B B A _ Any2 _ _ _ _ (unit-leads m n E E)
      (λ u v i. message-leads _ _ count f peer at (ap (λ w. fails_by w peer t.events) i.worker ∙ ap (fails_by u.worker peer) k.events) h))

  -- to a worker that is the same in both
  by-peer : (P : Option ℕ → Step) (a b : Option ℕ) → b ≡ a → ((a : Option ℕ) → Leads B A Any2 (P a) (P a)) → Leads B A Any2 (P a) (P b)
  by-peer P a b e f = subst (λ k. Leads B A Any2 (P a) (P k)) (sym e) (f a)

  pub sends-leads : (p : Peer) (at : Place) → Leads B A Any2 (sends p at) (sends p at)
  sends-leads p at =
      leads-then B B A Equal Any2 _ _ _ _ (peer-leads p)
      (λ a b e. kind-strict-leads m n 1 (form.Send a) (form.Send b) kind.Nothing at (ap (λ k. DoesForm (form.Send k)) e))

  pub sends-and-waits-leads : (p : Peer) (at : Place) → Leads B A Any2 (sends_and_waits p at) (sends_and_waits p at)
  sends-and-waits-leads p at =
      leads-then B B A Equal Any2 _ _ _ _ (peer-leads p)
      (λ a b e. by-peer (λ k. message_to (λ own w events. may_fail own w (sent_before own w at events) events) 1 (form.SyncSend k) k at) a b e
      (λ k. to-leads _ 1 (form.SyncSend k) k at refl))

  pub flushes-leads : (p : Peer) (at : Place) → Leads B A Any2 (flushes p at) (flushes p at)
  flushes-leads p at =
      leads-then B B A Equal Any2 _ _ _ _ (peer-leads p)
      (λ a b e. by-peer (λ k. message_to (λ own w events. flush_fails own w (sent_before own w at events) events) 0 (form.Flush k) k at) a b e
      (λ k. to-leads _ 0 (form.Flush k) k at refl))
