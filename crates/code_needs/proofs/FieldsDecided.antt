-- The fields of a code hold exactly where their numbers pass and their needs are met.
use Rattle.std.proofs.Common.{◌≡◌, ◌≢◌, ◌⊎◌, ◌↔◌, ◌++◌, ◌+◌, ◌∙◌, ℕ, List, [], ◌∷◌, Option, Some, None, get_or, inl, inr, length, map, refl, sym, ap, subst, take, arith, ◌==◌}
use Rattle.std.specs.Prelude.{All, IsSomeAnd, slice_get}
use Rattle.std.proofs.lemmas.Bool.{eqb-true, eq-eqb}
use Rattle.bal_base.specs.declared.shape.Shape.{Shape}
use Rattle.bal_base.specs.Valid.{IsValid}
use Rattle.type_model.specs.declared.atoms.AtomDef.{AtomDef}
use Rattle.type_model.specs.declared.atoms.AtomDef.TheVariants.{List as ListAtom, Mapping as MappingAtom, Arrow, Error as ErrorAtom, Future as FutureAtom}
use Rattle.type_model.specs.declared.basic.SemType.{SemType, Basic, Atom, Or', And', Not'}
use Rattle.type_model.specs.declared.basic.Ty.{Ty}
use Rattle.type_model.specs.Inclusion.{HaveSameShapes}
use Rattle.type_model.specs.Membership.{In}
use Rattle.operations.specs.Kinds.{IsString}
use Rattle.operations.specs.Structures.{IsListAtom}
use Rattle.stack_code.specs.declared.code.Code.{Code}
use Rattle.stack_code.specs.declared.code.Spawn.{Spawn}
use Rattle.stack_code.specs.declared.code.Unit.{Unit as CodeUnit}
use Rattle.stack_code.specs.Flow.{AreSame}
use Rattle.stack_code.specs.Tables.{AreArguments, CapturesWell, HasFields, HasRest, HasSlots, IsArrowOf, IsFutureOf, IsInitialiserWell, IsMain, IsRestOf, LastIs, single_params}
use Rattle.code_needs.specs.Combining.{AreMet, Needs, ◌&◌, of_list, of_some, test}
use Rattle.code_needs.specs.FieldNeeds.{FieldsPass, argument_needs, arrow_needs, captures_needs, future_needs, initialiser_needs, items_needs, main_needs, main_params, own_needs, rest_needs, same, slot_needs, strings_needs, unit_needs}
use Rattle.code_needs.specs.Laws.{NeedsDecideFields}
use Rattle.code_needs.specs.declared.kind.Kind.TheVariants.{NilsOrErrors, Strings}
use Rattle.code_needs.specs.Needs.{Below, Has, Within}
use Rattle.code_needs.specs.Stacks.{front_of, last_of}
use Rattle.code_needs.proofs.Combined.{Decided, and-three, and-two, met-absent, met-each, met-each_zip, met-list, met-need, met-none, met-nothing, met-some, met-test, never, otherwise}
use Rattle.code_needs.proofs.Counted.{some-to}
use Rattle.code_needs.proofs.Ends.{last-is, with-last}
use Rattle.code_needs.proofs.Places.{same-decided}

module _ (code : Code) where
  same-one : (s t : SemType) → Decided code.atoms (HaveSameShapes code.atoms s t) (same s t)
  same-one s t =
      otherwise code.atoms (λ h. ((λ x k. (h x k.0).0 k.1), (λ x k. (h x k.0).1 k.1))) (λ h x v. ((λ i. h.0 x (v, i)), (λ i. h.1 x (v, i))))
      (and-two code.atoms (met-need code.atoms (Below s t)) (met-need code.atoms (Below t s)))

  -- ---- units

  slots-met : (u : CodeUnit) → Decided code.atoms (HasSlots code u) (slot_needs code u)
  slots-met u = same-decided code (take (length u.params + length u.captured) u.slots) (u.params ++ u.captured)

  last-met : (P : SemType → Type 0) (f : SemType → Needs) (types : List SemType) → ((t : SemType) → Decided code.atoms (P t) (f t)) → Decided code.atoms (LastIs code types P) (of_some (last_of types) f)
  last-met P f types d = record { so = so; back = by (last_of types) refl }
    where
      so : LastIs code types P → AreMet code.atoms (of_some (last_of types) f)
      so (front, t, e, h) = subst (λ o. AreMet code.atoms (of_some o f)) (sym (ap last_of e ∙ last-is front t)) ((d t).so h)

      by : (o : Option SemType) → last_of types ≡ o → AreMet code.atoms (of_some o f) → LastIs code types P
      by (Some t) e m = (front_of types, t, with-last types t e, (d t).back m)
      by None e m = absurd m

  rest-met : (u : CodeUnit) (rest : Option ℕ) → Decided code.atoms (HasRest code u rest) (rest_needs code u rest)
  rest-met u (Some atom) = and-two code.atoms (met-list code.atoms (slice_get code.atoms atom) (λ fixed rest. met-none code.atoms fixed)) (last-met (HaveSameShapes code.atoms (Atom atom)) (λ t. same (Atom atom) t) u.params (λ t. same-one (Atom atom) t))
  rest-met u None = met-nothing code.atoms

  captures-met : (u : CodeUnit) (w : Spawn) → Decided code.atoms (CapturesWell code u w) (captures_needs code u w)
  captures-met u w =
      met-some code.atoms (slice_get code.units w.unit) (λ x. met-each_zip code.atoms _ _ w.slots x.captured (λ slot t. met-some code.atoms (slice_get u.slots slot) (λ s. met-need code.atoms (Below s t))))

  unit-met : (u : CodeUnit) → Decided code.atoms (HasSlots code u × HasRest code u u.rest × All (CapturesWell code u) u.workers) (unit_needs code u)
  unit-met u = and-three code.atoms (slots-met u) (rest-met u u.rest) (met-each code.atoms _ _ u.workers (captures-met u))

  -- ---- own atoms

  items-met : (atom : Option ℕ) (rest : Option Ty) → Decided code.atoms (IsRestOf code atom rest) (items_needs code atom rest)
  items-met (Some atom) rest = met-list code.atoms (slice_get code.atoms atom) (λ fixed items. met-some code.atoms items (λ t. met-some code.atoms rest (λ s. same-one s.sem t.sem)))
  items-met None rest = met-absent code.atoms rest

  abbrev ListsOf : CodeUnit → ℕ → Type 0
  ListsOf u lists = IsListAtom code.atoms lists (λ fixed rest. AreSame code (map (λ t. t.sem) fixed) (single_params code u) × IsRestOf code u.rest rest)

  lists-met : (u : CodeUnit) (lists : ℕ) → Decided code.atoms (ListsOf u lists) (argument_needs code u (Atom lists))
  lists-met u lists = met-list code.atoms (slice_get code.atoms lists) (λ fixed rest. and-two code.atoms (same-decided code (map (λ t. t.sem) fixed) (single_params code u)) (items-met u.rest rest))

  arguments-met : (u : CodeUnit) (args : SemType) → Decided code.atoms (AreArguments code u args) (argument_needs code u args)
  arguments-met u (Atom n) = otherwise code.atoms so (λ h. (n, refl, h)) (lists-met u n)
    where
      so : AreArguments code u (Atom n) → ListsOf u n
      so (lists, e, h) = let q : n ≡ lists = cc in subst (λ m. ListsOf u m) (sym q) h
  arguments-met u (Basic b) = never code.atoms (λ h. let e = h.1 in let q : ⊥ = cc in q)
  arguments-met u (Or' a s b t) = never code.atoms (λ h. let e = h.1 in let q : ⊥ = cc in q)
  arguments-met u (And' a s b t) = never code.atoms (λ h. let e = h.1 in let q : ⊥ = cc in q)
  arguments-met u (Not' a t) = never code.atoms (λ h. let e = h.1 in let q : ⊥ = cc in q)

  arrow-met : (u : CodeUnit) (d : AtomDef) → Decided code.atoms (IsArrowOf code u d) (arrow_needs code u d)
  arrow-met u (Arrow args outcome alone) = and-two code.atoms (arguments-met u args) (same-one outcome u.result)
  arrow-met u (ListAtom fixed rest) = never code.atoms (λ h. h)
  arrow-met u (MappingAtom fields rest) = never code.atoms (λ h. h)
  arrow-met u (ErrorAtom detail) = never code.atoms (λ h. h)
  arrow-met u (FutureAtom outcome) = never code.atoms (λ h. h)

  future-met : (u : CodeUnit) (d : AtomDef) → Decided code.atoms (IsFutureOf code u d) (future_needs code u d)
  future-met u (FutureAtom outcome) = same-one outcome u.result
  future-met u (ListAtom fixed rest) = never code.atoms (λ h. h)
  future-met u (MappingAtom fields rest) = never code.atoms (λ h. h)
  future-met u (Arrow args outcome alone) = never code.atoms (λ h. h)
  future-met u (ErrorAtom detail) = never code.atoms (λ h. h)

  own-met : (u : CodeUnit) → Decided code.atoms (IsSomeAnd (slice_get code.atoms u.arrow) (IsArrowOf code u) × IsSomeAnd (slice_get code.atoms u.future) (IsFutureOf code u)) (own_needs code u)
  own-met u = and-two code.atoms (met-some code.atoms (slice_get code.atoms u.arrow) (arrow-met u)) (met-some code.atoms (slice_get code.atoms u.future) (future-met u))

  -- ---- initialisers and main

  initialiser-met : (n : ℕ) (u : CodeUnit) → IsInitialiserWell code n u ↔ ((code.start ≢ n) × AreMet code.atoms (initialiser_needs code u))
  initialiser-met n u =
      let d = and-three code.atoms (met-none code.atoms u.params) (met-none code.atoms u.captured) (met-need code.atoms (Within u.result NilsOrErrors)) in
      ((λ h. (h.2, d.so (h.0, h.1, h.3))), (λ h. let k = d.back h.1 in (k.0, k.1, h.0, k.2)))

  met-equal : (m n : ℕ) → Decided code.atoms (m ≡ n) (test (m == n))
  met-equal m n = met-test code.atoms (m ≡ n) (m == n) (eq-eqb m n) (eqb-true m n)

  abbrev Words : CodeUnit → Type 0
  Words u = (u.rest ≡ Some code.words) × IsListAtom code.atoms code.words (λ fixed rest. IsSomeAnd rest (λ t. (x : Shape) → IsValid x → (In code.atoms x t.sem ↔ IsString x)))

  rest-is-met : (rest : Option ℕ) → Decided code.atoms (rest ≡ Some code.words) (of_some rest (λ a. test (a == code.words)))
  rest-is-met (Some a) = otherwise code.atoms (λ e. let q : a ≡ code.words = cc in q) (λ e. ap (λ n. Some n) e) (met-equal a code.words)
  rest-is-met None = never code.atoms (λ e. let q : ⊥ = cc in q)

  abbrev words_needs : CodeUnit → Needs
  words_needs u = of_some u.rest (λ a. test (a == code.words)) & of_list (slice_get code.atoms code.words) (strings_needs code)

  words-met : (u : CodeUnit) → Decided code.atoms (Words u) (words_needs u)
  words-met u =
      and-two code.atoms (rest-is-met u.rest) (met-list code.atoms (slice_get code.atoms code.words) (λ fixed rest. met-some code.atoms rest (λ t.
      otherwise code.atoms (λ h. ((λ x k. (h x k.0).0 k.1), (λ x v k. (h x v).1 k))) (λ h x v. ((λ i. h.0 x (v, i)), (λ i. h.1 x v i)))
      (and-two code.atoms (met-need code.atoms (Within t.sem Strings)) (met-need code.atoms (Has t.sem Strings))))))

  abbrev Params : CodeUnit → List SemType → Type 0
  Params u params = ((params ≡ []) × (code.words ≡ 0)) ⊎ ((length params ≡ 1) × Words u)

  params-met : (u : CodeUnit) (params : List SemType) → Decided code.atoms (Params u params) (main_params code u params)
  params-met u [] = otherwise code.atoms so (λ e. inl (refl, e)) (met-equal code.words 0)
    where
      so : Params u [] → code.words ≡ 0
      so (inl h) = h.1
      so (inr h) = absurd (omega (arith, h.0))
  params-met u (t ∷ []) = otherwise code.atoms so (λ h. inr (refl, h)) (words-met u)
    where
      so : Params u (t ∷ []) → Words u
      so (inl h) = absurd (let e = h.0 in let q : ⊥ = cc in q)
      so (inr h) = h.1
  params-met u (t ∷ s ∷ more) = never code.atoms so
    where
      so : Params u (t ∷ s ∷ more) → ⊥
      so (inl h) = let e = h.0 in let q : ⊥ = cc in q
      so (inr h) = omega (arith, h.0)

  main-met : (u : CodeUnit) → IsMain code u ↔ AreMet code.atoms (main_needs code u)
  main-met u =
      let d = and-three code.atoms (met-none code.atoms u.captured) (met-need code.atoms (Within u.result NilsOrErrors)) (params-met u u.params) in
      ((λ h. d.so (h.0, h.1, to h.2)), (λ m. let k = d.back m in (k.0, k.1, from k.2)))
    where
      to : ((u.params ≡ []) × (code.words ≡ 0)) ⊎ ((length u.params ≡ 1) × (u.rest ≡ Some code.words) × IsListAtom code.atoms code.words (λ fixed rest. IsSomeAnd rest (λ t. (x : Shape) → IsValid x → (In code.atoms x t.sem ↔ IsString x)))) → Params u u.params
      to (inl h) = inl h
      to (inr h) = inr (h.0, (h.1, h.2))

      from : Params u u.params → ((u.params ≡ []) × (code.words ≡ 0)) ⊎ ((length u.params ≡ 1) × (u.rest ≡ Some code.words) × IsListAtom code.atoms code.words (λ fixed rest. IsSomeAnd rest (λ t. (x : Shape) → IsValid x → (In code.atoms x t.sem ↔ IsString x))))
      from (inl h) = inl h
      from (inr h) = inr (h.0, h.1.0, h.1.1)

  -- ---- all fields

  so-fields : HasFields code → FieldsPass code
  so-fields h =
      record {
        types = h.types;
        constants = h.constants;
        places = h.places;
        maps = h.maps;
        stacks = h.stacks;
        units = (λ n u is. (unit-met u).so (h.slots n u is, (h.rests n u is).0, h.spawns n u is));
        rests = (λ n u is. (h.rests n u is).1);
        without = (λ n u is. (h.atoms n u is).0);
        own = (λ n u is worker initialiser. (own-met u).so ((h.atoms n u is).1 worker initialiser));
        workers = h.workers;
        initialisers = (λ k d l. some-to (slice_get code.units (get_or code.initialisers k d)) (λ u i. (initialiser-met (get_or code.initialisers k d) u).0 i) (h.initialisers k d l));
        main = some-to (slice_get code.units code.start) (λ u i. (main-met u).0 i) h.main;
        inherent = h.inherent;
      }

  back-fields : FieldsPass code → HasFields code
  back-fields h =
      record {
        types = h.types;
        constants = h.constants;
        places = h.places;
        maps = h.maps;
        stacks = h.stacks;
        slots = (λ n u is. ((unit-met u).back (h.units n u is)).0);
        rests = (λ n u is. (((unit-met u).back (h.units n u is)).1, h.rests n u is));
        atoms = (λ n u is. (h.without n u is, (λ worker initialiser. (own-met u).back (h.own n u is worker initialiser))));
        spawns = (λ n u is. ((unit-met u).back (h.units n u is)).2);
        workers = h.workers;
        initialisers = (λ k d l. some-to (slice_get code.units (get_or code.initialisers k d)) (λ u i. (initialiser-met (get_or code.initialisers k d) u).1 i) (h.initialisers k d l));
        main = some-to (slice_get code.units code.start) (λ u i. (main-met u).1 i) h.main;
        inherent = h.inherent;
      }

pub fields-decided : NeedsDecideFields
fields-decided code = (so-fields code, back-fields code)
