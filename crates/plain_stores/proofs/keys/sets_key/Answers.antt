use Rattle.std.proofs.Common.{[], subst, sym}
use Rattle.op_model.specs.ProgramFacts.{own_types}
use Rattle.op_model.specs.Rows.{gives_nothing, within}
use Rattle.op_model.specs.Stores.{StoresKey, set_entry, stored}
use Rattle.value_model.specs.Heap.{Entries}
use Rattle.plain_run.specs.ProgramFacts.{facts_of}
use Rattle.plain_run.specs.Held.{world_of}
use Rattle.plain_structures.specs.Rows.{IsTried}
use Rattle.store_tests.specs.Questions.{EntryIsBeyond}
use Rattle.store_tests.specs.Tests.{EntryComes, IsTested, StoresEntry}
use Rattle.plain_stores.proofs.Tried.{mapping-other, tried-row}
use Rattle.plain_stores.proofs.keys.sets_key.Goals as goal

pub returns-in_ok-came-in-Panics-clause-row : goal.returns-in_ok-came-in-Panics-clause-row
returns-in_ok-came-in-Panics-clause-row c =
    let facts = c.args.facts.now in
    let w = c.args.world.now in
    let n = c.args.n in
    let key = c.args.key.now in
    let v = c.args.v.now in
    let tested = subst (IsTested (StoresEntry facts w n key v) (EntryComes w n key v) (world_of w) (EntryIsBeyond facts w n key v)) c.in-Panics.is c.in_ok-tests_entry.ensures in
    subst (StoresEntry facts w n key v) (sym c.in_ok-came-in-Panics.ensures.row) tested

pub returns-in_ok-came-in-Passed-clause-row : goal.returns-in_ok-came-in-Passed-clause-row
returns-in_ok-came-in-Passed-clause-row c =
    let facts = c.args.facts.now in
    let w = c.args.world.now in
    let n = c.args.n in
    let key = c.args.key.now in
    let v = c.args.v.now in
    let new = c.stores.new.world in
    let tested = subst (IsTested (StoresEntry facts w n key v) (EntryComes w n key v) (world_of w) (EntryIsBeyond facts w n key v)) c.in-Passed.is c.in_ok-tests_entry.ensures in
    subst (IsTried (StoresEntry facts w n key v) (EntryIsBeyond facts w n key v) new) (sym c.tried_of.ensures)
    (tried-row (StoresEntry facts w n key v) (EntryComes w n key v) (EntryIsBeyond facts w n key v) new c.in_ok-came-in-Passed.came tested
    (λ came row. mapping-other (world_of w) n (λ s es. StoresKey (own_types (facts_of facts)) (facts_of facts).fillers (world_of w) n s es key v came) (λ s es. within (gives_nothing (stored (world_of w) n s (Entries (set_entry es key v)) []))) row)
    c.in_ok-came-in-Passed.ensures.row)
