use Rattle.std.proofs.Common.{◌∙◌, ◌+◌, ap, subst, sym}
use Rattle.std.specs.Prelude.{count_by}
use Rattle.plain_run.specs.Came.{IsLeft}
use Rattle.plain_stores.specs.Changes.{filler_cells}
use Rattle.store_tests.specs.Fillers.{is_there}
use Rattle.plain_stores.proofs.made.less_one.Goals as goal

pub returns-in-List : goal.returns-in-List
returns-in-List c = λ room taken h.
    subst (λ n. IsLeft room (taken + n) c.left_beside.result)
    (ap (λ n. n + 1) (c.count.ensures ∙ ap (count_by is_there) c.fixed_fillers.ensures) ∙ ap (filler_cells c.args.facts.now) (sym c.in-List.is))
    (c.left_beside.ensures room taken h)

pub returns-in-Mapping : goal.returns-in-Mapping
returns-in-Mapping c = λ room taken h.
    subst (λ n. IsLeft room (taken + n) c.left_beside-in-Mapping.result) (ap (filler_cells c.args.facts.now) (sym c.in-Mapping.is)) (c.left_beside-in-Mapping.ensures room taken h)
