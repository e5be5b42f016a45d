use Rattle.std.proofs.Common.{◌≡◌, ◌≤◌, ◌⊎◌, ℕ, Err, inr, false, None, length, drop, sym, ap, subst, ◌∙◌}
use Rattle.bal_base.specs.declared.fault.FaultCode.TheVariants.{Syntax}
use Rattle.bal_tree.specs.Spells.{Spells, first_place, kinds_of}
use Rattle.bal_tree.specs.declared.types.TypeTree.{TypeTree}
use Rattle.bal_tree.specs.TypePieces.{type_pieces}
use Rattle.parse_types.specs.Nesting.{first_too_deep, enclosed}
use Rattle.bal_base.specs.Stops.{IfFault}
use Rattle.parse_types.specs.Starts.{StartsType, IsTooDeep, HasNoType, refusal}
use Rattle.token_steps.specs.Tokens.{Kinds}
use Rattle.parse_types.proofs.Parsing.{rest-place}
use Rattle.parse_types.proofs.parse_type.Goals as goal

pub returns-in-Ok-clause-reads : goal.returns-in-Ok-clause-reads
returns-in-Ok-clause-reads c =
    let reads = rw c.rest_from-front.ensures at c.in-Ok.ensures.reads in
    let place = rest-place c.args.file (type_pieces c.in-Ok.tree) c.args.tokens.now c.args.from c.in-Ok.rest.now reads.spells in
    (reads.formed, subst (λ l. Spells c.args.file (type_pieces c.in-Ok.tree) (drop c.args.from c.args.tokens.now) l) (sym place.1) reads.spells)

pub returns-in-Ok-clause-longest : goal.returns-in-Ok-clause-longest
returns-in-Ok-clause-longest c rest h =
    let reads = rw c.rest_from-front.ensures at c.in-Ok.ensures.reads in
    let place = rest-place c.args.file (type_pieces c.in-Ok.tree) c.args.tokens.now c.args.from c.in-Ok.rest.now reads.spells in
    subst (λ l. length l ≤ length rest) (sym place.1) (c.in-Ok.ensures.longest rest (subst (λ l. StartsType false l rest) (sym c.rest_from-front.ensures) h))

pub returns-in-Err-Fault-clause-refused : goal.returns-in-Err-Fault-clause-refused
returns-in-Err-Fault-clause-refused c =
    let file = c.args.file in
    let tokens = drop c.args.from c.args.tokens.now in
    let front = c.rest_from-front.ensures in
    let shallow : first_too_deep (enclosed 0 (kinds_of tokens)) ≡ None =
    ap (λ ts. first_too_deep (enclosed 0 (kinds_of ts))) (sym front) ∙ ap first_too_deep (sym c.enclosed.ensures.front) ∙ sym c.in_ok-deep.ensures.first ∙ c.in_default.is
    in
    let none = rw c.in-Err-Fault.field-0-is at c.in-Err-Fault.ensures.none in
    let at = c.place.ensures ∙ ap (first_place file) front in
    subst (λ stop. IfFault {T = TypeTree × ℕ} (Err stop) (λ f. IsTooDeep file tokens f ⊎ HasNoType file tokens f)) (sym c.refused-in-Err-Fault.ensures)
    (inr (shallow, subst (λ ts. (rest : Kinds) → StartsType false ts rest → ⊥) front none, ap (refusal Syntax) at))
