-- What a future may give stands among the results of its type; and an error is given where it was taken.
use Rattle.std.proofs.Common.{◌≡◌, ◌<◌, ◌^◌, ◌∙◌, ℕ, [], ◌∷◌, Option, Some, None, length, refl, sym, ap, subst, arith}
use Rattle.std.specs.Prelude.{Contains, option_map, slice_get}
use Rattle.std.proofs.lemmas.List.Elements.{All-cons, All-nil}
use Rattle.bal_base.specs.declared.shape.Shape.{Shape, Nil as NilShape, Bool as BoolShape, Int as IntShape, Str as StrShape, List', Mapping', Error', Function as FunctionShape, Future as AFuture, Future', items_hidden-the_row-Shape-0}
use Rattle.bal_base.specs.Valid.{IsText, IsValid}
use Rattle.bal_base.proofs.Rows.{IsValid-Future}
use Rattle.type_model.specs.declared.answers.Keys.TheVariants.{Results}
use Rattle.type_model.specs.declared.atoms.AtomDef.{AtomDef}
use Rattle.type_model.specs.declared.atoms.AtomDef.TheVariants.{List as ListAtom, Mapping as MappingAtom, Arrow, Error as ErrorAtom, Future as FutureAtom}
use Rattle.type_model.specs.declared.basic.SemType.{SemType, Atom}
use Rattle.type_model.specs.Inclusion.{HaveSameShapes}
use Rattle.type_model.specs.Membership.{Fits as ShapeFits, In}
use Rattle.type_model.specs.Parts.{StandsAt}
use Rattle.type_model.proofs.Unfolding.{Fits-Future}
use Rattle.operations.specs.Kinds.{IsError}
use Rattle.operations.specs.Rows.{ResultHas}
use Rattle.value_model.specs.declared.value.Value.TheVariants.{Error, Future}
use Rattle.value_model.specs.Heap.{Heap}
use Rattle.value_model.specs.PanicName.{future_taken}
use Rattle.value_model.specs.Stands.{HasShape, Stands}
use Rattle.op_model.specs.Common.{Common}
use Rattle.op_model.specs.Effects.{lifted, with_world}
use Rattle.op_model.specs.Rows.{gives_error, makes_error, next_error}
use Rattle.machine_model.specs.Runs.{Running}
use Rattle.stack_code.specs.declared.code.Code.{Code}
use Rattle.stack_code.specs.declared.code.Unit.{Unit as CodeUnit}
use Rattle.stack_code.specs.Good.{GoodCommon}
use Rattle.stack_code.specs.Tables.{IsCallable, IsFutureOf}
use Rattle.stack_code.specs.Values.{Fits, code_types}
use Rattle.stack_code.specs.WellTyped.{WellTyped}
use Rattle.code_keeping.specs.Rows.{EffectTyped}
use Rattle.code_keeping.proofs.Growing.{good-so, one-given, within-gave}
use Rattle.code_keeping.proofs.Lists.{at-some, some-there}
use Rattle.code_keeping.proofs.Making.{error-made, heap-so, later}
use Rattle.code_keeping.proofs.Shapes.{get-map}
use Rattle.code_keeping_heap.proofs.Shaping.{shapes-of}

-- ---- futures

of-future : (code : Code) (u : CodeUnit) (d : AtomDef) → IsFutureOf code u d → (outcome : SemType) × (d ≡ FutureAtom outcome) × HaveSameShapes code.atoms outcome u.result
of-future code u (FutureAtom outcome) h = (outcome, refl, h)
of-future code u (ListAtom fixed rest) h = absurd h
of-future code u (MappingAtom fields rest) h = absurd h
of-future code u (Arrow args outcome alone) h = absurd h
of-future code u (ErrorAtom detail) h = absurd h

module _ (code : Code) (t : WellTyped code) (c : Common) (n unit : ℕ) (callable : IsCallable code unit) (u : CodeUnit) (eu : slice_get code.units unit ≡ Some u) (a : SemType) (fits : Fits code c (Future n unit) a) (x : Shape) (valid : IsValid x) (inside : In code.atoms x u.result) where
  one-small : length (x ∷ []) < 2 ^ 63
  one-small = omega arith

  -- a future with this one result
  abbrev whole : Shape
  whole = AFuture (shapes-of (x ∷ []) one-small)

  whole-valid : IsValid whole
  whole-valid = (IsValid-Future (shapes-of (x ∷ []) one-small)).1 (All-cons IsValid x [] valid (All-nil IsValid))

  whole-in : In code.atoms whole (Atom u.future)
  whole-in =
      let (d, ed, of) = some-there (IsFutureOf code u) (slice_get code.atoms u.future) (((t.fields.atoms unit u eu).1 callable.1 callable.2).1) in
      let (outcome, is, same) = of-future code u d of in
      at-some (ShapeFits code.atoms whole) (slice_get code.atoms u.future) d ed
      (subst (λ d. ShapeFits code.atoms whole d) (sym is)
      ((Fits-Future code.atoms (shapes-of (x ∷ []) one-small) (FutureAtom outcome)).1 (All-cons (λ y. In code.atoms y outcome) x [] ((same x valid).1 inside) (All-nil (λ y. In code.atoms y outcome)))))

  stands-so : Stands (code_types code) c.world.heap (Future n unit) whole
  stands-so =
      at-some (λ q. In code.atoms whole (Atom q.1)) (slice_get (code_types code).units unit) (u.arrow, u.future)
      (get-map (λ (u : CodeUnit). (u.arrow, u.future)) code.units unit ∙ ap (λ o. option_map (λ (u : CodeUnit). (u.arrow, u.future)) o) eu) whole-in

  -- so the result stands among those of the future's type
  pub among-results : StandsAt code.atoms a Results x
  among-results =
      (whole, (whole-valid, fits.2 whole whole-valid stands-so), subst (λ ys. Contains ys x) (sym (items_hidden-the_row-Shape-0 (shapes-of (x ∷ []) one-small).items)) (0, omega arith, refl))

-- ---- errors

-- an error stands for errors alone
pub stands-error : (h : Heap) (n : ℕ) (x : Shape) → HasShape h x (Error n) → IsError x
stands-error h n (Error' _ detail) k = tt
stands-error h n NilShape k = absurd (let q : ⊥ = cc in q)
stands-error h n (BoolShape b) k = absurd (let q : ⊥ = cc in q)
stands-error h n (IntShape i) k = absurd (let q : ⊥ = cc in q)
stands-error h n (StrShape s) k = absurd (let q : ⊥ = cc in q)
stands-error h n (List' mark _ items) k = absurd k.1
stands-error h n (Mapping' mark _ fields) k = absurd k.1
stands-error h n (FunctionShape isolated graph) k = absurd k
stands-error h n (Future' _ results) k = absurd k

-- the error that takes the place of a result that was taken
pub taken-typed : (code : Code) (c : Common) (good : GoodCommon code c Running) (result : Option SemType) (P : Shape → Type 0) → ((x : Shape) → IsError x → P x) → ResultHas code.atoms result P → EffectTyped code c result (lifted c (gives_error c.world future_taken))
taken-typed code c good result P of has =
    within-gave code c result (Error (next_error c.world) ∷ []) (makes_error c.world future_taken None [])
    (λ small. (
      good-so code c (makes_error c.world future_taken None []) Running (later code c future_taken text good.nearly.heap None) (heap-so code c future_taken text good.nearly.heap) good,
      (refl, refl),
      (λ q. later code c future_taken text good.nearly.heap q),
      one-given code (with_world c (makes_error c.world future_taken None [])) result P (Error (next_error c.world)) has ((later code c future_taken text good.nearly.heap None).closed good.nearly.heap.closed) (error-made code c future_taken text good.nearly.heap).1
          (λ x valid s. of x (stands-error (makes_error c.world future_taken None []).heap (next_error c.world) x s)),
    ))
  where
    text : IsText future_taken
    text = refl
