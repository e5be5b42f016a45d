-- The results of several strands that have ended are collected, one after another.
use Rattle.std.proofs.Common.{◌≡◌, ◌+◌, ◌∙◌, ℕ, Bool, true, false, List, [], ◌∷◌, Option, Some, None, suc, length, refl, sym, ap, subst}
use Rattle.std.specs.Prelude.{◌&&◌, if◌then◌else◌, is_some, not, option_to_list}
use Rattle.type_model.specs.declared.basic.SemType.{SemType}
use Rattle.operations.specs.Kinds.{IsError}
use Rattle.operations.specs.Rows.{ResultHas}
use Rattle.value_model.specs.declared.value.Value.{Value}
use Rattle.value_model.specs.PanicName.{future_taken}
use Rattle.op_model.specs.Common.{Common, End, Panicked, Returned, Role}
use Rattle.op_model.specs.Effects.{lifted}
use Rattle.op_model.specs.Rows.{gives_error}
use Rattle.op_model.specs.Strands.{end_of, has_ended, strand_at}
use Rattle.op_model.specs.Waits.{Collected, FirstPanic, Results, Target, behind, collects, collects_end, ends_with, gives_end, is_taken, took, waits, waits_for}
use Rattle.machine_model.specs.Keeping.{KeepsStrands}
use Rattle.machine_model.specs.Runs.{Running}
use Rattle.stack_code.specs.declared.code.Code.{Code}
use Rattle.stack_code.specs.Good.{GoodCommon, IsLater, NearlyCommon}
use Rattle.stack_code.specs.Values.{AllFit, IsMadeError}
use Rattle.code_keeping.proofs.Staying.{all-later, same}
use Rattle.code_keeping_talk.proofs.Following.{later-follows}
use Rattle.code_keeping_talk.proofs.Lasting.{what-held-holds}
use Rattle.code_keeping_waits.proofs.Waiting.{WaitTyped}

module _ (code : Code) (result : ℕ → Option SemType) where
  -- what is given by the strands from the k-th on is in the results, now and later
  abbrev pub AreReady : Common → ℕ → List Target → Type 0
  AreReady c k [] = Unit {0}
  AreReady c k (t ∷ ts) =
      ((d : Common) → GoodCommon code d Running → IsLater None c d → WaitTyped code d (result k) (waits d t)) × (t.is_worker ≡ false → ResultHas code.atoms (result k) IsError) × AreReady c (k + 1) ts

  abbrev pub HaveEnded : Common → List Target → Type 0
  HaveEnded c [] = Unit {0}
  HaveEnded c (t ∷ ts) = (has_ended c t.strand ≡ true) × HaveEnded c ts

  -- values are in the results; an error is where one was taken
  abbrev pub ResultsFit : Common → ℕ → List (Option Value) → Type 0
  ResultsFit d k [] = Unit {0}
  ResultsFit d k (Some v ∷ vs) = AllFit code d (v ∷ []) (option_to_list (result k)) × ResultsFit d (k + 1) vs
  ResultsFit d k (None ∷ vs) = ResultHas code.atoms (result k) IsError × ResultsFit d (k + 1) vs

  -- results are taken, and nothing else changes
  abbrev pub Goes : Common → Common → Type 0
  Goes c d = KeepsStrands c d × ((q : Option Role) → IsLater q c d)

  abbrev pub CollectedFits : Common → ℕ → Collected → Type 0
  CollectedFits c k (Results vs d) = Goes c d × GoodCommon code d Running × ResultsFit d k vs
  CollectedFits c k (FirstPanic e d) = Goes c d × NearlyCommon code d Running × IsMadeError code d e

  goes-then : (c d e : Common) → Goes c d → Goes d e → Goes c e
  goes-then c d e (keeps, later) (more, still) = ((more.0 ∙ keeps.0, more.1 ∙ keeps.1), (λ q. later-follows q c d e (later q) (still q)))

  goes-same : (c : Common) → Goes c c
  goes-same c = ((refl, refl), (λ q. same q c))

  ready-later : (c d : Common) → IsLater None c d → (k : ℕ) (ts : List Target) → AreReady c k ts → AreReady d k ts
  ready-later c d l k [] h = tt
  ready-later c d l k (t ∷ ts) (now, errors, more) = ((λ e good m. now e good (later-follows None c d e l m)), errors, ready-later c d l (k + 1) ts more)

  ended-later : (c d : Common) → IsLater None c d → (ts : List Target) → HaveEnded c ts → HaveEnded d ts
  ended-later c d l [] h = tt
  ended-later c d l (t ∷ ts) (e, more) = (((what-held-holds code c d).2 l).3 t.strand e, ended-later c d l ts more)

  -- one result more in front
  with-value : (c d : Common) (k : ℕ) (v : Value) → Goes c d → AllFit code d (v ∷ []) (option_to_list (result k)) → (x : Collected) → CollectedFits d (k + 1) x → CollectedFits c k (behind (Some v) x)
  with-value c d k v goes fit (Results vs e) (more, good, fits) = (goes-then c d e goes more, good, (all-later code None d e (more.1 None) (v ∷ []) (option_to_list (result k)) fit, fits))
  with-value c d k v goes fit (FirstPanic w e) (more, nearly, error) = (goes-then c d e goes more, nearly, error)

  with-none : (c : Common) (k : ℕ) → ResultHas code.atoms (result k) IsError → (x : Collected) → CollectedFits c (k + 1) x → CollectedFits c k (behind None x)
  with-none c k has (Results vs e) (more, good, fits) = (more, good, (has, fits))
  with-none c k has (FirstPanic w e) (more, nearly, error) = (more, nearly, error)

  -- only the result of a future is taken
  taken-future : (worker taken : Bool) → (not worker && taken) ≡ true → worker ≡ false
  taken-future false taken e = refl
  taken-future true taken e = absurd (let q : ⊥ = cc in q)

  module _ (c : Common) (good : GoodCommon code c Running) (k : ℕ) (t : Target) (ts : List Target) (ready : AreReady c k (t ∷ ts)) (ended : has_ended c t.strand ≡ true)
      (rest : (d : Common) → GoodCommon code d Running → IsLater None c d → CollectedFits d (k + 1) (collects ts d)) where
    -- what its end gives
    given : (end : End) → end_of c t.strand ≡ Some end → is_taken c t ≡ false → WaitTyped code c (result k) (ends_with (took c t) end)
    given end e free =
        let w : WaitTyped code c (result k) (waits c t) = ready.0 c good (same None c) in
        let at-end : WaitTyped code c (result k) (gives_end c t end) = subst (λ o. WaitTyped code c (result k) (waits_for c t o)) e w in
        subst (λ b. WaitTyped code c (result k) (if b then lifted c (gives_error c.world future_taken) else ends_with (took c t) end)) free at-end

    on-end : (end : End) → end_of c t.strand ≡ Some end → (b : Bool) → is_taken c t ≡ b → CollectedFits c k (collects_end (collects ts) c t (Some end))
    on-end (Returned v) e true eb =
        subst (λ b. CollectedFits c k (if b then behind None (collects ts c) else behind (Some v) (collects ts (took c t)))) (sym eb)
        (with-none c k (ready.1 (taken-future t.is_worker (strand_at c t.strand).taken eb)) (collects ts c) (rest c good (same None c)))
    on-end (Returned v) e false eb =
        let (better, keeps, later, fit) = given (Returned v) e eb in
        subst (λ b. CollectedFits c k (if b then behind None (collects ts c) else behind (Some v) (collects ts (took c t)))) (sym eb)
        (with-value c (took c t) k v (keeps, later) fit (collects ts (took c t)) (rest (took c t) better (later None)))
    on-end (Panicked w) e true eb =
        subst (λ b. CollectedFits c k (if b then behind None (collects ts c) else FirstPanic w (took c t))) (sym eb)
        (with-none c k (ready.1 (taken-future t.is_worker (strand_at c t.strand).taken eb)) (collects ts c) (rest c good (same None c)))
    on-end (Panicked w) e false eb =
        let (nearly, keeps, later, error) = given (Panicked w) e eb in
        subst (λ b. CollectedFits c k (if b then behind None (collects ts c) else FirstPanic w (took c t))) (sym eb) ((keeps, later), nearly, error)

    one-collected : CollectedFits c k (collects (t ∷ ts) c)
    one-collected = by (end_of c t.strand) refl
      where
        by : (o : Option End) → end_of c t.strand ≡ o → CollectedFits c k (collects_end (collects ts) c t o)
        by (Some end) e = on-end end e (is_taken c t) refl
        by None e = absurd (let z : is_some {T = End} None ≡ true = ap (λ (o : Option End). is_some o) (sym e) ∙ ended in let q : ⊥ = cc in q)

  pub all-collected : (ts : List Target) (k : ℕ) (c : Common) → GoodCommon code c Running → AreReady c k ts → HaveEnded c ts → CollectedFits c k (collects ts c)
  all-collected [] k c good ready ended = (goes-same c, good, tt)
  all-collected (t ∷ ts) k c good ready ended =
      one-collected c good k t ts ready ended.0 (λ d gd l. all-collected ts (k + 1) d gd (ready-later c d l (k + 1) ts ready.2) (ended-later c d l ts ended.1))

-- as many results as strands
behind-long : (v : Option Value) (x : Collected) (n : ℕ) → ((vs : List (Option Value)) (e : Common) → x ≡ Results vs e → length vs ≡ n) → (vs : List (Option Value)) (e : Common) → behind v x ≡ Results vs e → length vs ≡ suc n
behind-long v (Results us d) n h vs e is = let same : v ∷ us ≡ vs = cc in ap length (sym same) ∙ ap suc (h us d refl)
behind-long v (FirstPanic w d) n h vs e is = absurd (let q : ⊥ = cc in q)

end-long : (more : Common → Collected) (n : ℕ) → ((d : Common) (vs : List (Option Value)) (e : Common) → more d ≡ Results vs e → length vs ≡ n) → (c : Common) (t : Target) (o : Option End) → (vs : List (Option Value)) (e : Common) → collects_end more c t o ≡ Results vs e → length vs ≡ suc n
end-long more n h c t None vs e is = behind-long None (more c) n (h c) vs e is
end-long more n h c t (Some (Returned v)) vs e is = by (is_taken c t) is
  where
    by : (b : Bool) → (if b then behind None (more c) else behind (Some v) (more (took c t))) ≡ Results vs e → length vs ≡ suc n
    by true is = behind-long None (more c) n (h c) vs e is
    by false is = behind-long (Some v) (more (took c t)) n (h (took c t)) vs e is
end-long more n h c t (Some (Panicked v)) vs e is = by (is_taken c t) is
  where
    by : (b : Bool) → (if b then behind None (more c) else FirstPanic v (took c t)) ≡ Results vs e → length vs ≡ suc n
    by true is = behind-long None (more c) n (h c) vs e is
    by false is = absurd (let q : ⊥ = cc in q)

pub as-many : (ts : List Target) (c : Common) (vs : List (Option Value)) (e : Common) → collects ts c ≡ Results vs e → length vs ≡ length ts
as-many [] c vs e is = let same : [] ≡ vs = cc in ap length (sym same)
as-many (t ∷ ts) c vs e is = end-long (collects ts) (length ts) (as-many ts) c t (end_of c t.strand) vs e is
