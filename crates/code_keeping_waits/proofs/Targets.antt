-- What a wait for one strand comes to: for a future, and for a worker of the activation.
use Rattle.std.proofs.Common.{◌≡◌, ◌≢◌, ◌<◌, ◌∙◌, ℕ, Bool, true, false, [], ◌∷◌, Option, Some, None, inl, inr, length, refl, sym, ap, subst}
use Rattle.std.proofs.lemmas.Option.{slice_get_within}
use Rattle.std.specs.Prelude.{◌&&◌, All, IsTrue, if◌then◌else◌, is_some, option_to_list, slice_get}
use Rattle.std.proofs.lemmas.List.Elements.{All-cons, All-nil}
use Rattle.type_model.specs.declared.basic.SemType.{SemType}
use Rattle.type_model.specs.Membership.{In}
use Rattle.operations.specs.Rows.{ResultHas}
use Rattle.operations.specs.Structures.{GivenByFuture}
use Rattle.value_model.specs.declared.value.Value.{Value}
use Rattle.value_model.specs.declared.value.Value.TheVariants.{Future}
use Rattle.value_model.specs.PanicName.{future_taken}
use Rattle.value_model.specs.World.{Came, Gave, PassesCells, Threw}
use Rattle.op_model.specs.Common.{AllEnded, Common, End, Panicked, Returned, Strand}
use Rattle.op_model.specs.Effects.{Effect, lifted}
use Rattle.op_model.specs.Rows.{gives_error}
use Rattle.op_model.specs.Strands.{end_in, end_of, met, no_strand, strand_at}
use Rattle.op_model.specs.Waits.{Target, ends_with, future_target, is_taken, took, waits, waits_for}
use Rattle.machine_model.specs.Runs.{Running}
use Rattle.stack_code.specs.declared.code.Code.{Code}
use Rattle.stack_code.specs.declared.code.Unit.{Unit as CodeUnit}
use Rattle.stack_code.specs.Good.{EndFits, GoodCommon}
use Rattle.stack_code.specs.Values.{AllFit, Fits, IsStarted}
use Rattle.stack_code.specs.WellTyped.{WellTyped}
use Rattle.code_keeping.specs.Rows.{EffectTyped}
use Rattle.code_keeping.proofs.Changing.{or-there}
use Rattle.code_keeping.proofs.Lists.{of-some, some-there}
use Rattle.code_keeping.proofs.Staying.{all-later, error-later, same}
use Rattle.code_keeping_waits.proofs.Results.{among-results, taken-typed}
use Rattle.code_keeping_waits.proofs.Taken.{keeps, later, taken-good}
use Rattle.code_keeping_waits.proofs.Waiting.{WaitTyped}

-- one that has not ended is waited for
not-met : (c : Common) (n : ℕ) → end_of c n ≡ None → met c (AllEnded (n ∷ [])) ≡ false
not-met c n e = ap (λ (o : Option End). is_some o && true) e

module _ (code : Code) (t : WellTyped code) (c : Common) (good : GoodCommon code c Running) (result : Option SemType) where
  abbrev Typed : Effect → Type 0
  Typed effect = WaitTyped code c result effect

  one-there : (n : ℕ) → n < length c.strands → All (λ k. k < length c.strands) (n ∷ [])
  one-there n l = All-cons (λ k. k < length c.strands) n [] l (All-nil (λ k. k < length c.strands))

  -- ---- a future

  module _ (n unit : ℕ) (a : SemType) (fits : Fits code c (Future n unit) a) (has : ResultHas code.atoms result (GivenByFuture code.atoms a)) where
    started : IsStarted code c n unit
    started = fits.1.2

    record Its : Type 0 where
      strand : Strand
      there : slice_get c.strands n ≡ Some strand
      unit-is : strand.unit ≡ unit
      u : CodeUnit
      unit-there : slice_get code.units unit ≡ Some u

    its : Its
    its =
        let (s, es, is) = some-there (λ (s : Strand). (s.unit ≡ unit) × (s.role ≡ None)) (slice_get c.strands n) started.1 in
        let (u, eu, inherent) = some-there _ (slice_get code.units unit) started.2.0 in
        record { strand = s; there = es; unit-is = is.0; u = u; unit-there = eu }

    pub there : n < length c.strands
    there = slice_get_within c.strands n its.strand its.there

    at-it : strand_at c n ≡ its.strand
    at-it = or-there c.strands n its.strand no_strand its.there

    end-is : (end : End) → end_of c n ≡ Some end → EndFits code c n its.strand.unit (Some end) × IsTrue (is_some (end_in its.strand.status))
    end-is end e =
        let is : end_in its.strand.status ≡ Some end = sym (ap (λ (s : Strand). end_in s.status) at-it) ∙ e in (
          subst (λ o. EndFits code c n its.strand.unit o) is (good.nearly.strands n its.strand its.there).end,
          subst (λ o. IsTrue (is_some o)) (sym is) refl,
        )

    given-fits : (v : Value) → EndFits code c n its.strand.unit (Some (Returned v)) → AllFit code c (v ∷ []) (option_to_list result)
    given-fits v (made, fit, nil) = by result has
      where
        in-unit : Fits code c v its.u.result
        in-unit = of-some (λ u. Fits code c v u.result) (slice_get code.units its.strand.unit) its.u (ap (λ k. slice_get code.units k) its.unit-is ∙ its.unit-there) (fit started.0)

        by : (r : Option SemType) → ResultHas code.atoms r (GivenByFuture code.atoms a) → AllFit code c (v ∷ []) (option_to_list r)
        by None has = absurd has
        by (Some r) has =
            ((good.nearly.heap.closed, made, (λ x valid stands. has x valid (inl (among-results code t c n unit started.2 its.u its.unit-there a fits x valid (in-unit.2 x valid stands))))), tt)

    ended : (end : End) → end_of c n ≡ Some end → Typed (ends_with (took c (future_target n)) end)
    ended (Returned v) e =
        let (fit, is-end) = end-is (Returned v) e in
        let d = took c (future_target n) in (
          taken-good code c good n its.strand its.there is-end,
          keeps code c good n its.strand its.there is-end,
          later code c good n its.strand its.there is-end,
          all-later code None c d (later code c good n its.strand its.there is-end None) (v ∷ []) (option_to_list result) (given-fits v fit),
        )
    ended (Panicked w) e =
        let (fit, is-end) = end-is (Panicked w) e in
        let d = took c (future_target n) in (
          (taken-good code c good n its.strand its.there is-end).nearly,
          keeps code c good n its.strand its.there is-end,
          later code c good n its.strand its.there is-end,
          error-later code None c d (later code c good n its.strand its.there is-end None) w fit,
        )

    as-wait : EffectTyped code c result (lifted c (gives_error c.world future_taken)) → Typed (lifted c (gives_error c.world future_taken))
    as-wait h = by (gives_error c.world future_taken) h
      where
        by : (came : Came) → EffectTyped code c result (lifted c came) → Typed (lifted c came)
        by (Gave vs w) h = h
        by (Threw v w) h = h
        by PassesCells h = tt

    pub future-waits : Typed (waits c (future_target n))
    future-waits = by (end_of c n) refl
      where
        on : (end : End) → end_of c n ≡ Some end → (b : Bool) → Typed (if b then lifted c (gives_error c.world future_taken) else ends_with (took c (future_target n)) end)
        on end e true = as-wait (taken-typed code c good result (GivenByFuture code.atoms a) (λ x h. inr h) has)
        on end e false = ended end e

        by : (o : Option End) → end_of c n ≡ o → Typed (waits_for c (future_target n) o)
        by None e = (one-there n there, not-met c n e)
        by (Some end) e = on end e (is_taken c (future_target n))

  -- ---- a worker

  module _ (n : ℕ) (s : Strand) (es : slice_get c.strands n ≡ Some s) (not-main : n ≢ 0) (u : CodeUnit) (eu : slice_get code.units s.unit ≡ Some u) (has : ResultHas code.atoms result (λ x. In code.atoms x u.result)) where
    abbrev target : Target
    target = record { strand = n; is_worker = true }

    worker-given : (v : Value) → EndFits code c n s.unit (Some (Returned v)) → AllFit code c (v ∷ []) (option_to_list result)
    worker-given v (made, fit, nil) = by result has
      where
        in-unit : Fits code c v u.result
        in-unit = of-some (λ u. Fits code c v u.result) (slice_get code.units s.unit) u eu (fit not-main)

        by : (r : Option SemType) → ResultHas code.atoms r (λ x. In code.atoms x u.result) → AllFit code c (v ∷ []) (option_to_list r)
        by None has = absurd has
        by (Some r) has = ((good.nearly.heap.closed, made, (λ x valid stands. has x valid (in-unit.2 x valid stands))), tt)

    worker-ended : (end : End) → end_of c n ≡ Some end → Typed (ends_with c end)
    worker-ended end e =
        let is : end_in s.status ≡ Some end = sym (ap (λ (s : Strand). end_in s.status) (or-there c.strands n s no_strand es)) ∙ e in
        by end (subst (λ o. EndFits code c n s.unit o) is (good.nearly.strands n s es).end)
      where
        by : (end : End) → EndFits code c n s.unit (Some end) → Typed (ends_with c end)
        by (Returned v) fit = (good, (refl, refl), (λ q. same q c), worker-given v fit)
        by (Panicked w) fit = (good.nearly, (refl, refl), (λ q. same q c), fit)

    pub worker-waits : Typed (waits c target)
    worker-waits = by (end_of c n) refl
      where
        by : (o : Option End) → end_of c n ≡ o → Typed (waits_for c target o)
        by None e = (one-there n (slice_get_within c.strands n s es), not-met c n e)
        by (Some end) e = worker-ended end e
