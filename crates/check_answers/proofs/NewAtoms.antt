-- Waits for several, and parameters that take the rest, which add an atom: two runs of each need agree.
use Rattle.std.proofs.Common.{◌≡◌, ◌++◌, ℕ, suc, false, List, [], ◌∷◌, length, map, Option, Some, refl, sym, subst, ap, ◌∙◌}
use Rattle.std.specs.List.{AllZip}
use Rattle.bal_base.specs.declared.place.Place.{Place}
use Rattle.bal_base.specs.declared.text.Name.{Name}
use Rattle.bal_base.specs.declared.text.Text.{Text}
use Rattle.bal_tree.specs.declared.name.QualifiedName.{QualifiedName}
use Rattle.bal_tree.specs.declared.name.Word.{Word}
use Rattle.checks.specs.Checks.{◌▷◌}
use Rattle.descriptors.specs.Described.{IsCopy, choice_of, list_of, plain}
use Rattle.type_model.specs.declared.atoms.AtomDef.{AtomDef}
use Rattle.type_model.specs.declared.atoms.AtomDef.TheVariants.{List as ListAtom}
use Rattle.type_model.specs.declared.basic.SemType.{Atom}
use Rattle.type_model.specs.declared.basic.Ty.{Ty}
use Rattle.type_model.specs.Defined.{IsClosed}
use Rattle.typed_tree.specs.declared.form.StrictForm.TheVariants as form
use Rattle.typed_tree.specs.SharedTypes.{Shared}
use Rattle.check_words.specs.Actions.{IsOfAll, awaited, futures, waits_for_all}
use Rattle.check_words.specs.Calls.{has_rest, parameter, with_rest}
use Rattle.check_words.specs.Seen.{worker_named}
use Rattle.check_words.specs.State.{UnitAtWork}
use Rattle.check_words.specs.Words.{Atoms, Step, makes_strict, sets_unit, some_over, unit_now}
use Rattle.check_answers.specs.Answers.{TwinsOver}
use Rattle.check_answers.specs.Pieces.{DoesForm}
use Rattle.check_answers.specs.TwinStates.{SharedTwins, UnitTwins, VariableTwins}
use Rattle.check_answers.specs.TwinTypes.{SettledTwins, TwinAtoms, TwinDefs, TwinTypes}
use Rattle.check_answers.proofs.Actions.{site-leads, takes-wants-leads}
use Rattle.check_answers.proofs.Adding.{Grown, adds-leads, grown-ends}
use Rattle.check_answers.proofs.Calls.{new-leads}
use Rattle.check_answers.proofs.Growing.{settled-later}
use Rattle.check_answers.proofs.Leading.{Any2, Leads, Pairs, leads-from, leads-over, leads-then}
use Rattle.check_answers.proofs.Made.{fields-equal, group, same-atom}
use Rattle.check_answers.proofs.Mapping.{unit-map}
use Rattle.check_answers.proofs.Meanings.{copies-twin}
use Rattle.check_answers.proofs.MemberReads.{plain-twins}
use Rattle.check_answers.proofs.Questions.{Before, Behind, D, Equal, W, before-atoms, before-behind, settled-twins, strict-leads}
use Rattle.check_answers.proofs.Words.{closes-constructor-leads, no-more-leads, sets-unit-leads, unit-leads, wanted-leads}
use Rattle.check_answers.proofs.Zips.{zip-long, zip-one}

-- a list of an atom that has one number in both
pub lists-of : (m n : Atoms) → TwinAtoms m n → (a b : ℕ) (s t : Ty) → b ≡ a → s ≡ list_of a → t ≡ list_of b → TwinTypes m n s t
lists-of m n twins a b s t e x y =
    subst (λ k. TwinTypes m n k t) (sym x) (subst (TwinTypes m n (list_of a)) (sym y)
    (record { shapes = same-atom m n twins a b e; lists = ap (λ k. choice_of k ∷ []) e; maps = refl }))

-- a parameter that takes the rest
module _ (E V : Ty → Ty → Type 0) where
  rest-variable : (name : Name) (k l : ℕ) (t w : Shared) → l ≡ k → SharedTwins E V t w → VariableTwins E V (parameter name k t false) (parameter name l w false)
  rest-variable name k l t w e h =
      record { name = refl; slot = e; declared = h; narrowed = tt; fixed = refl; assigned = refl; captured = refl }

  with-rest-same : (name : Name) (t w : Shared) (a b : ℕ) (r s : Shared) (u v : UnitAtWork) → SharedTwins E V t w → b ≡ a → SharedTwins E V r s → UnitTwins E V u v
      → UnitTwins E V (with_rest name t a r u) (with_rest name w b s v)
  with-rest-same name t w a b r s u v k e i h =
      record {
        number = h.number;
        worker = h.worker;
        slots = zip-one (SharedTwins E V) u.slots v.slots t w h.slots k;
        params = ap suc h.params;
        rest = ap Some e;
        rest_member = i;
        result = h.result;
        arrow = h.arrow;
        future = h.future;
        captured = h.captured;
        flow = record {
          variables = zip-one (VariableTwins E V) u.flow.variables v.flow.variables _ _ h.flow.variables
              (rest-variable name (length u.slots) (length v.slots) t w (sym (zip-long (SharedTwins E V) u.slots v.slots h.slots)) k);
          reached = h.flow.reached;
        };
      }

-- what becomes of a rest parameter, where its atom is there
abbrev TakesRest : Name → Shared → ℕ → Step
TakesRest name t atom = some_over (λ env (l : Shared). l.value ≡ list_of atom) ▷ λ l. unit_now ▷ λ unit. sets_unit (with_rest name l atom t unit)

module _ (m n : Atoms) (first : IsClosed m) (second : IsClosed n) (twins : TwinAtoms m n) where
  abbrev B : Pairs
  B = Before m n

  abbrev E : Ty → Ty → Type 0
  E = D m n

  later : (d e : Atoms) (s t : Ty) → SettledTwins m n s t → SettledTwins (m ++ d) (n ++ e) s t
  later d e s t h = settled-later m n d e first second s t h

  -- ---- copies

  pub copies-zip : (d e : Atoms) (ts us : List Shared) (bs cs : List Ty) → AllZip (SharedTwins E E) ts us → AllZip (λ t u. IsCopy t.value u) ts bs
      → AllZip (λ t u. IsCopy t.value u) us cs → AllZip (TwinTypes (m ++ d) (n ++ e)) bs cs
  copies-zip d e [] [] [] [] h x y = tt
  copies-zip d e (t ∷ ts) (u ∷ us) (b ∷ bs) (c ∷ cs) h x y = (
    (let k = later d e t.value u.value h.0 in copies-twin (m ++ d) (n ++ e) t.value u.value b c k.twins x.0 y.0),
    copies-zip d e ts us bs cs h.1 x.1 y.1,
  )
  copies-zip d e [] (u ∷ us) bs cs h x y = absurd h
  copies-zip d e (t ∷ ts) [] bs cs h x y = absurd h
  copies-zip d e [] [] (b ∷ bs) cs h x y = absurd x
  copies-zip d e [] [] [] (c ∷ cs) h x y = absurd y
  copies-zip d e (t ∷ ts) (u ∷ us) [] cs h x y = absurd x
  copies-zip d e (t ∷ ts) (u ∷ us) (b ∷ bs) [] h x y = absurd y

  -- ---- waits for several

  all-same : (ks ls : List (Option Text)) (ts us : List Shared) (d e : List AtomDef) → ls ≡ ks → AllZip (SharedTwins E E) ts us → IsOfAll ks ts d → IsOfAll ls us e
      → AllZip (TwinDefs (m ++ d) (n ++ e)) d e
  all-same ks ls ts us d e i h (bs, x, p) (cs, y, q) =
      group m n first second twins d e _ _ p q ((fields-equal m n first second twins d e ks ls bs cs i (copies-zip d e ts us bs cs h x y), tt), tt)

  all-form : (a b : ℕ) (ws xs : List (Option ℕ)) → b ≡ a → xs ≡ ws → DoesForm (form.WaitAll b xs) ≡ DoesForm (form.WaitAll a ws)
  all-form a b ws xs e f = ap (λ k. DoesForm (form.WaitAll k xs)) e ∙ ap (λ k. DoesForm (form.WaitAll a k)) f

  pub waits-all-leads : (qs : List QualifiedName) (at : Place) → Leads B TwinsOver Any2 (waits_for_all qs at) (waits_for_all qs at)
  waits-all-leads qs at =
      leads-then B B TwinsOver _ Any2 _ _ _ _ (site-leads m n)
      (λ s t h. let same : awaited t qs ≡ awaited s qs = ap (λ ws. map (worker_named ws) qs) h.workers in
      leads-then B B TwinsOver _ Any2 _ _ _ _ (closes-constructor-leads m n E E)
      (λ c d k. leads-then B B TwinsOver (AllZip (SharedTwins E E)) Any2 _ _ _ _ (takes-wants-leads m n (length qs))
      (λ ts us i. leads-then B (Grown m n) TwinsOver Equal Any2 _ _ _ _
      (adds-leads m n first second twins (λ env. IsOfAll c.keys ts) (λ env. IsOfAll d.keys us) (Some at) (λ p q x y. all-same c.keys d.keys ts us p q k.keys i x y))
      (λ a b e. grown-ends m n Any2 _ _ (λ more others z.
      subst (λ ws. Leads (Before (m ++ more) (n ++ others)) (Behind (m ++ more) (n ++ others)) Any2
      (makes_strict (futures (awaited s qs)) (form.WaitAll a (awaited s qs)) (λ env t. t ≡ plain (Atom a)) at) (makes_strict (futures ws) (form.WaitAll b ws) (λ env t. t ≡ plain (Atom b)) at)) (sym same)
      (strict-leads (m ++ more) (n ++ others) (futures (awaited s qs)) (form.WaitAll a (awaited s qs)) (form.WaitAll b (awaited s qs)) _ _ at
      (all-form a b (awaited s qs) (awaited s qs) e refl)
      (λ x y p q. plain-twins (m ++ more) (n ++ others) (Atom a) (Atom b) x y (same-atom (m ++ more) (n ++ others) z a b e) p q)))))))

  -- ---- what takes the rest

  rest-same : (t u : Shared) (d e : List AtomDef) → SharedTwins E E t u → (x : Ty) × IsCopy t.value x × (d ≡ ListAtom [] (Some x) ∷ [])
      → (y : Ty) × IsCopy u.value y × (e ≡ ListAtom [] (Some y) ∷ []) → AllZip (TwinDefs (m ++ d) (n ++ e)) d e
  rest-same t u d e h (x, p, i) (y, q, j) =
      group m n first second twins d e _ _ i j
      ((tt, (let k = later d e t.value u.value h in copies-twin (m ++ d) (n ++ e) t.value u.value x y k.twins p q)), tt)

  pub has-rest-leads : (w : Word) → Leads B TwinsOver Any2 (has_rest w) (has_rest w)
  has-rest-leads w =
      leads-then B B TwinsOver Any2 Any2 _ _ _ _ (new-leads m n w)
      (λ a1 a2 a3. leads-then B B TwinsOver (SharedTwins E E) Any2 _ _ _ _ (wanted-leads m n E E)
      (λ t u h. leads-then B B TwinsOver Any2 Any2 _ _ _ _ (no-more-leads m n E E 1)
      (λ b1 b2 b3. leads-then B (Grown m n) TwinsOver Equal Any2 _ _ _ _
      (adds-leads m n first second twins _ _ (Some w.at) (λ d e x y. rest-same t u d e h x y))
      (λ a b e. grown-ends m n Any2 _ _ (λ more others z. behind-rest w.name t u a b more others h e z)))))
    where
      behind-rest : (name : Name) (t u : Shared) (a b : ℕ) (more others : Atoms) → SharedTwins E E t u → b ≡ a → TwinAtoms (m ++ more) (n ++ others)
          → Leads (Before (m ++ more) (n ++ others)) (Behind (m ++ more) (n ++ others)) Any2 (TakesRest name t a) (TakesRest name u b)
      behind-rest name t u a b more others h e z =
          let M = m ++ more in let N = n ++ others in
          leads-then (Before M N) (Before M N) (Behind M N) (SharedTwins (D M N) (W M N)) Any2 _ _ _ _
          (leads-over M N (Before M N) _ _ _ (before-atoms M N) (λ l r x y. lists-of M N z a b l.value r.value e x y))
          (λ l r k. leads-then (Before M N) (Before M N) (Behind M N) (UnitTwins (D M N) (D M N)) Any2 _ _ _ _ (unit-leads M N (D M N) (D M N))
          (λ v o i. leads-from (Before M N) (Behind M N) (Behind M N) Any2 _ _ (before-behind M N)
          (sets-unit-leads M N (D M N) (W M N) _ _ (with-rest-same (D M N) (W M N) name l r a b t u v o k e
          (let q = later more others t.value u.value h in q.twins) (unit-map (D M N) (D M N) (D M N) (W M N) (λ x y f. f) (settled-twins M N) v o i)))))
