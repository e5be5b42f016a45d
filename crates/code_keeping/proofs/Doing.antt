-- A frame behind an operation that it did: what is left of its operands, and what was given.
use Rattle.std.proofs.Common.{◌≡◌, ◌≤◌, ◌∙◌, ◌+◌, ℕ, List, [], ◌∷◌, ◌++◌, Option, Some, None, length, reverse, refl, sym, ap, subst, arith}
use Rattle.std.proofs.lemmas.List.{length-reverse, reverse-append}
use Rattle.std.specs.Prelude.{All, IsSomeAnd, option_to_list, slice_get}
use Rattle.std.specs.List.{AllZip}
use Rattle.type_model.specs.declared.basic.SemType.{SemType}
use Rattle.operations.specs.declared.operation.Operation.{Operation}
use Rattle.operations.specs.Talk.{NoTalk, talk_of}
use Rattle.value_model.specs.declared.value.Value.{Value}
use Rattle.op_model.specs.Common.{Common, Role}
use Rattle.op_model.specs.Local.{Local, with_stack}
use Rattle.machine_model.specs.Following.{EndsFrame}
use Rattle.machine_model.specs.Machine.{Frame, goes_to}
use Rattle.stack_code.specs.declared.code.Code.{Code}
use Rattle.stack_code.specs.declared.code.Unit.{Unit as CodeUnit}
use Rattle.stack_code.specs.CodeMachine.{OpenedTrap, Standing, standing}
use Rattle.stack_code.specs.Commands.{Do, command_at}
use Rattle.stack_code.specs.Flow.{DoesTyped, tally_behind, tally_then}
use Rattle.stack_code.specs.Frames.{IsOfItsUnit, StandsIn, StandsWell, TallyIs, TopFits, TrapFits, TrapsFit}
use Rattle.stack_code.specs.Good.{IsLater}
use Rattle.stack_code.specs.Places.{Station, crew, stack_at, tally_at, traps_at}
use Rattle.stack_code.specs.Values.{AllFit, Fits}
use Rattle.code_keeping.proofs.Lists.{assoc, at-some, ends-in, of-some, zip-all, zip-both}
use Rattle.code_keeping.proofs.Places.{done-behind}
use Rattle.code_keeping.proofs.Staying.{above, all-later, for-none, slots-later, tally-later, unit-later}
use Rattle.code_keeping.proofs.Taking.{zip-length}

-- a trap keeps what it kept while operands above are taken off and others put there
pub trap-stays : (code : Code) (c d : Common) (q : Option Role) → IsLater q c d → (gone below vs : List Value) (n : ℕ) → n ≤ length below → (trap : OpenedTrap) (t : ℕ) →
    TrapFits code c (gone ++ below) trap t → length (stack_at code t) ≤ n → TrapFits code d (vs ++ below) trap t
trap-stays code c d q l gone below vs n le trap t (opened, fit, (more, e)) small =
    let same : length trap.below ≡ length (stack_at code t) = sym (length-reverse trap.below) ∙ zip-length (Fits code c) (reverse trap.below) (stack_at code t) fit in
    let (front, is) = ends-in gone below more trap.below e (omega (arith, same, small, le)) in
    (opened, all-later code q c d l (reverse trap.below) (stack_at code t) fit, (vs ++ front, ap (λ xs. vs ++ xs) is ∙ sym (assoc vs front trap.below)))

module _ (code : Code) (f : Frame Standing) (u : CodeUnit) (eu : slice_get code.units f.unit ≡ Some u) (station : Station) (o : Operation) where
  abbrev p : ℕ
  p = f.control.place

  abbrev l : Local
  l = f.control.local

  module _ (ec : command_at code p ≡ Some (Do o)) (t : DoesTyped code u station p o) (goes : ¬ (EndsFrame o)) where
    traps-behind : (c d : Common) → IsLater None c d → (gone below vs : List Value) → length below ≡ length t.rest → l.stack ≡ gone ++ below → u.first ≤ p → (r : Option (List ℕ)) → traps_at code u p ≡ r →
        IsSomeAnd r (λ ts. AllZip (TrapFits code c l.stack) f.control.traps ts) → IsSomeAnd r (λ ts. All (λ k. length (stack_at code k) ≤ length t.rest) ts) → TrapsFit code d u (p + 1) (vs ++ below) f.control.traps
    traps-behind c d later gone below vs as-many is le None e h k = absurd h
    traps-behind c d later gone below vs as-many is le (Some ts) e h k =
        at-some (λ ts. AllZip (TrapFits code d (vs ++ below)) f.control.traps ts) (traps_at code u (p + 1)) ts (done-behind code u p le o ts ec e)
        (zip-all (TrapFits code c (gone ++ below)) (TrapFits code d (vs ++ below)) (λ k. length (stack_at code k) ≤ length t.rest)
        (λ trap k held small. trap-stays code c d None later gone below vs (length t.rest) (omega (arith, as-many)) trap k held small)
        f.control.traps ts (subst (λ s. AllZip (TrapFits code c s) f.control.traps ts) is h) k)

    -- it stands well behind the operation, where its numbers and its unit are as they should be
    pub well-behind : (c d : Common) → IsLater None c d → (gone below vs : List Value) → l.stack ≡ gone ++ below → AllFit code c (reverse below) t.rest → StandsWell code c f →
        TallyIs code d f.role (tally_at code (p + 1)) → IsOfItsUnit code d f.unit f.role → StandsWell code d (goes_to f (standing (p + 1) f.control.traps (with_stack l (vs ++ below))))
    well-behind c d later gone below vs is fit (unit, tally, own) numbers still =
        let (here, slots, traps) = of-some (StandsIn code c p l.slots l.stack f.control.traps) (slice_get code.units f.unit) u eu unit in (
          at-some (StandsIn code d (p + 1) l.slots (vs ++ below) f.control.traps) (slice_get code.units f.unit) u eu
              ((t.next goes).0, slots-later code None c d later u l.slots slots, traps-behind c d later gone below vs as-many is here.0 (traps_at code u p) refl traps t.kept),
          numbers,
          still,
        )
      where
        as-many : length below ≡ length t.rest
        as-many = sym (length-reverse below) ∙ zip-length (Fits code c) (reverse below) t.rest fit

    of-one : (result : Option SemType) (d : Common) (vs : List Value) → AllFit code d vs (option_to_list result) → reverse vs ≡ vs
    of-one None d [] h = refl
    of-one None d (v ∷ vs) h = absurd h
    of-one (Some r) d [] h = absurd h
    of-one (Some r) d (v ∷ []) h = refl
    of-one (Some r) d (v ∷ w ∷ vs) (h, more) = absurd more

    -- and fits there with what it was given
    pub fits-behind : (c d : Common) → IsLater None c d → (gone below vs : List Value) → l.stack ≡ gone ++ below → AllFit code c (reverse below) t.rest → AllFit code d vs (option_to_list t.result) → StandsWell code c f →
        TallyIs code d f.role (tally_behind (length (crew code station.function)) o (tally_at code p)) → IsOfItsUnit code d f.unit f.role → TopFits code d (goes_to f (standing (p + 1) f.control.traps (with_stack l (vs ++ below))))
    fits-behind c d later gone below vs is fit given well numbers own = (
      well-behind c d later gone below vs is fit well (subst (λ k. TallyIs code d f.role k) (sym (t.next goes).2) numbers) own,
      subst (λ xs. AllFit code d xs (stack_at code (p + 1))) (sym turned)
          (above code d (reverse below ++ vs) (t.rest ++ option_to_list t.result) (stack_at code (p + 1)) (zip-both (Fits code d) (reverse below) vs t.rest (option_to_list t.result) (all-later code None c d later (reverse below) t.rest fit) given) (t.next goes).1),
    )
      where
        turned : reverse (vs ++ below) ≡ reverse below ++ vs
        turned = reverse-append vs below ∙ ap (λ xs. reverse below ++ xs) (of-one t.result d vs given)

    -- where the operation says nothing to workers, and nothing of its own worker changed
    pub quietly-behind : talk_of o ≡ NoTalk → (c d : Common) → IsLater f.role c d → (gone below vs : List Value) → l.stack ≡ gone ++ below → AllFit code c (reverse below) t.rest → AllFit code d vs (option_to_list t.result) → StandsWell code c f →
        TopFits code d (goes_to f (standing (p + 1) f.control.traps (with_stack l (vs ++ below))))
    quietly-behind quiet c d later gone below vs is fit given well =
        fits-behind c d (for-none f.role c d later) gone below vs is fit given well
        (subst (λ k. TallyIs code d f.role k) (sym (ap (λ k. tally_then (length (crew code station.function)) k (tally_at code p)) quiet)) (tally-later code c d f.role (tally_at code p) later well.1))
        (unit-later code f.role c d later f.unit well.2)
