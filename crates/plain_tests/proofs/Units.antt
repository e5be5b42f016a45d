-- The atoms of a unit that is there.
use Rattle.std.proofs.Common.{◌≡◌, ◌∙◌, ℕ, Some, map, option_map, slice_get, ap}
use Rattle.std.proofs.lemmas.Option.{slice_get-map}
use Rattle.op_model.specs.ProgramFacts.{own_types}
use Rattle.plain_run.specs.declared.facts.ProgramFacts.{ProgramFacts}
use Rattle.plain_run.specs.declared.facts.UnitFacts.{UnitFacts}
use Rattle.plain_run.specs.ProgramFacts.{facts_of, unit_facts_of}
use Rattle.plain_tests.specs.Own.{arrow_of, future_of}

module _ (facts : ProgramFacts) (n : ℕ) (u : UnitFacts) (there : slice_get facts.units.items n ≡ Some u) where
  atoms-there : slice_get (own_types (facts_of facts)).units n ≡ Some (u.arrow, u.future)
  atoms-there =
      slice_get-map (λ u. (u.arrow, u.future)) (map unit_facts_of facts.units.items) n
      ∙ ap (option_map (λ u. (u.arrow, u.future))) (slice_get-map unit_facts_of facts.units.items n ∙ ap (option_map unit_facts_of) there)

  pub arrow_there : arrow_of (own_types (facts_of facts)) n ≡ Some u.arrow
  arrow_there = ap (option_map (λ u. u.0)) atoms-there

  pub future_there : future_of (own_types (facts_of facts)) n ≡ Some u.future
  future_there = ap (option_map (λ u. u.1)) atoms-there
