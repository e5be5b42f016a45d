use Rattle.std.proofs.Common.{◌≡◌, ◌≤◌, ◌<◌, ◌∙◌, IsSomeAnd, List, ap, arith, length, slice_get, subst}
use Rattle.type_model.specs.declared.atoms.AtomDef.{AtomDef}
use Rattle.list_fillers.specs.declared.candidate.Candidate.{Candidate}
use Rattle.list_fillers.specs.Candidates.{AreCandidates}
use Rattle.filler_tables.specs.Asked.{AsksFillers, AsksOfAtom}
use Rattle.filler_tables.proofs.Leading.{stops-on}
use Rattle.filler_tables.proofs.Rows.{all-known, as-many, row-more}
use Rattle.filler_tables.proofs.candidates.all_candidates.Goals as goal

pub returns-in_err-row-clause-limit : goal.returns-in_err-row-clause-limit
returns-in_err-row-clause-limit g c =
    let old = g.T.Types.atoms c.args.types.now in
    stops-on g.T.Types.passes old (g.T.Types.atoms c.loop-a.types) c.loop-a.invariant.0 (λ env asked. AsksOfAtom env c.loop-a.a asked) (AsksFillers old) (λ asked h. (c.loop-a.a, h)) (List Candidate) _ _ _ c.from_residual.ensures
    c.in_err-row.ensures.limit

pub loop-a-preserved : goal.loop-a-preserved
loop-a-preserved g c =
    let old = g.T.Types.atoms c.args.types.now in
    let as-long : length c.defs-count.result.now ≡ length old = ap length (c.defs-count.ensures.value ∙ c.env.ensures) in
    let less : c.loop-a.a < length old = omega (arith, as-long, c.loop-a-test.true) in (
      c.atom_candidates.ensures.atoms ∙ c.loop-a.invariant.0,
      row-more old c.loop-a.a c.loop-a.rows.items _ c.in_ok-row.row less c.loop-a.invariant.1
          (subst (λ (env : List AtomDef). IsSomeAnd (slice_get env c.loop-a.a) (λ d. AreCandidates env d c.in_ok-row.row)) c.loop-a.invariant.0 c.in_ok-row.ensures.candidates) c.in_ok-push.ensures.items,
    )

pub returns-clause-candidates : goal.returns-clause-candidates
returns-clause-candidates g c =
    let old = g.T.Types.atoms c.args.types.now in
    let as-long : length c.defs-count.result.now ≡ length old = ap length (c.defs-count.ensures.value ∙ c.env.ensures) in
    let le : length old ≤ c.loop-a.a = omega (arith, as-long, c.loop-a-test.false) in
    all-known old c.loop-a.a c.loop-a.rows.items le c.loop-a.invariant.1

pub returns-clause-rows : goal.returns-clause-rows
returns-clause-rows g c =
    let old = g.T.Types.atoms c.args.types.now in
    let as-long : length c.defs-count.result.now ≡ length old = ap length (c.defs-count.ensures.value ∙ c.env.ensures) in
    let le : length old ≤ c.loop-a.a = omega (arith, as-long, c.loop-a-test.false) in
    as-many old c.loop-a.a c.loop-a.rows.items le c.loop-a.invariant.1
