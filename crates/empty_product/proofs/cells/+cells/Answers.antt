use Rattle.std.proofs.Common.{[], ◌∷◌, ◌++◌, length, sym, subst, arith}
use Rattle.type_diagrams.specs.declared.projection.Projection.TheVariants.{Ask}
use Rattle.type_diagrams.specs.Conditions.{LooksAtKinds, or_of, without}
use Rattle.type_diagrams.specs.Tables.{condition}
use Rattle.type_diagrams.specs.Whole.{Gives}
use Rattle.type_diagrams.proofs.AskedDiagrams.{gives_itself, then_all}
use Rattle.type_diagrams.proofs.Keeping.{length-grows}
use Rattle.type_diagrams.proofs.Shapes.{IfOk-map, gives-keeps}
use Rattle.type_diagrams.proofs.Tellings.{sound-keeps}
use Rattle.empty_product.specs.Cells.{AreCells, GivesDiagram, IsAimed, LooksAtParts, TellsCells, aim_of, aims_of}
use Rattle.empty_product.specs.Products.{AreUnwanted, TellsFilling, all_askings, askings_of, places_of}
use Rattle.empty_product.proofs.AvoidedFirst.{no_items, rest-shorter, rest_of}
use Rattle.empty_product.proofs.CellSteps.{aimed-keep, asked-TellsCells, both-TellsCells, elsewhere-TellsCells, empty-AreCells, first-All, first-aims, last-AreCells, looks-keep, one_more-AreUnwanted, or-Looks, rest-Looks, told-TellsFilling, told-elsewhere, told-there, within-AreCells, without-Looks}
use Rattle.empty_product.proofs.GrownPlaces.{slots-keep, unwanted-keep}
use Rattle.empty_product.proofs.Nothing.{is-nothing}
use Rattle.empty_product.proofs.cells.+cells.Goals as goal

pub returns-then-is_nothing-clause-tells : goal.returns-then-is_nothing-clause-tells
returns-then-is_nothing-clause-tells g t c =
    let old = c.args.dia.now in
    let new = c.diff.new.self in
    let keeps = c.diff.ensures.extends.keeps in
    let d = without (condition old c.args.sought.part) (condition old c.args.sought.found) in
    let none = (is-nothing new d c.in_ok-left.left c.is_nothing.result c.in_ok-left.ensures.condition c.is_nothing.ensures).0 c.if-is_nothing.true in
    λ env sound. within-AreCells env (places_of old c.args.slots.now) new (g.M.Member.kept c.args.context.now.m.now) (condition old c.args.sought.part) (condition old c.args.sought.found) (aims_of old c.args.undecided.now) (all_askings old c.args.decided.now) c.args.sought.found
    (gives-keeps old new (condition old c.args.sought.found) c.args.sought.found keeps (gives_itself old c.args.sought.found c.requires.found)) none

pub returns-in_err-avoid-clause-extends : goal.returns-in_err-avoid-clause-extends
returns-in_err-avoid-clause-extends g t c = then_all _ _ _ _ c.diff.ensures.extends c.avoid.ensures.extends

pub returns-in-Empty-clause-extends : goal.returns-in-Empty-clause-extends
returns-in-Empty-clause-extends g t c = then_all _ _ _ _ c.diff.ensures.extends c.avoid.ensures.extends

pub returns-in-Empty-clause-tells : goal.returns-in-Empty-clause-tells
returns-in-Empty-clause-tells g t c =
    let old = c.args.dia.now in
    let mid = c.diff.new.self in
    let new = c.avoid.new.dia in
    let kept = g.M.Member.kept c.args.context.now.m.now in
    let slots = c.args.slots.now in
    let us = c.args.decided.now in
    let on = then_all 0 old mid new c.diff.ensures.extends c.avoid.ensures.extends in
    λ env sound.
    let told = told-TellsFilling env old mid new kept c.diff.ensures.extends.keeps slots c.requires.slots us c.in_ok-avoid.field-0 c.requires.decided (c.in_ok-avoid.ensures.tells env (sound-keeps env old mid kept c.diff.ensures.extends.keeps sound)) in
    empty-AreCells env (places_of old slots) new kept (condition old c.args.sought.part) (condition old c.args.sought.found) (aims_of old c.args.undecided.now) (all_askings old us) c.args.sought.found
    (gives-keeps old new (condition old c.args.sought.found) c.args.sought.found on.keeps (gives_itself old c.args.sought.found c.requires.found))
    (subst (TellsFilling env new kept (places_of old slots) (all_askings old us)) c.in-Empty.is told)

pub returns-in-Ask-clause-extends : goal.returns-in-Ask-clause-extends
returns-in-Ask-clause-extends g t c = then_all _ _ _ _ c.diff.ensures.extends c.avoid.ensures.extends

pub returns-in-Ask-clause-tells : goal.returns-in-Ask-clause-tells
returns-in-Ask-clause-tells g t c =
    let old = c.args.dia.now in
    let mid = c.diff.new.self in
    let new = c.avoid.new.dia in
    let kept = g.M.Member.kept c.args.context.now.m.now in
    let slots = c.args.slots.now in
    let us = c.args.decided.now in
    λ env sound.
    let told = told-TellsFilling env old mid new kept c.diff.ensures.extends.keeps slots c.requires.slots us c.in_ok-avoid.field-0 c.requires.decided (c.in_ok-avoid.ensures.tells env (sound-keeps env old mid kept c.diff.ensures.extends.keeps sound)) in
    asked-TellsCells env (places_of old slots) new kept (condition old c.args.sought.part) (condition old c.args.sought.found) (aims_of old c.args.undecided.now) (all_askings old us) c.in-Ask.question
    (subst (TellsFilling env new kept (places_of old slots) (all_askings old us)) c.in-Ask.is told)

pub returns-in_err-union-in-empty-clause-extends : goal.returns-in_err-union-in-empty-clause-extends
returns-in_err-union-in-empty-clause-extends g t c = then_all _ _ _ _ (then_all _ _ _ _ c.diff.ensures.extends c.avoid.ensures.extends) c.union.ensures.extends

pub returns-in_ok-union-in-empty-clause-extends : goal.returns-in_ok-union-in-empty-clause-extends
returns-in_ok-union-in-empty-clause-extends g t c = then_all _ _ _ _ (then_all _ _ _ _ c.diff.ensures.extends c.avoid.ensures.extends) c.union.ensures.extends

pub returns-in_ok-union-in-empty-clause-tells : goal.returns-in_ok-union-in-empty-clause-tells
returns-in_ok-union-in-empty-clause-tells g t c =
    let old = c.args.dia.now in
    let mid = c.diff.new.self in
    let new = c.avoid.new.dia in
    let fin = c.union.new.self in
    let kept = g.M.Member.kept c.args.context.now.m.now in
    let slots = c.args.slots.now in
    let us = c.args.decided.now in
    let on = then_all 0 old mid new c.diff.ensures.extends c.avoid.ensures.extends in
    let q = c.in_ok-union-in-empty.field-0 in
    let gives : Gives fin (or_of (condition old c.args.sought.found) (condition old c.args.sought.part)) q =
    subst (λ d. Gives fin (or_of d (condition old c.args.sought.part)) q) (on.keeps.conditions c.args.sought.found c.requires.found)
    (subst (λ d. Gives fin (or_of (condition new c.args.sought.found) d) q) (on.keeps.conditions c.args.sought.part c.requires.part) c.in_ok-union-in-empty.ensures.condition) in
    λ env sound.
    let told = told-TellsFilling env old mid new kept c.diff.ensures.extends.keeps slots c.requires.slots us c.in_ok-avoid.field-0 c.requires.decided (c.in_ok-avoid.ensures.tells env (sound-keeps env old mid kept c.diff.ensures.extends.keeps sound)) in
    let parts = subst (TellsFilling env new kept (places_of old slots) (all_askings old us)) c.in-Parts.is told in
    subst (λ es. AreCells env (places_of old slots) fin kept (aims_of old es) (all_askings old us) (condition old c.args.sought.part) (condition old c.args.sought.found) q) (sym (no_items c.args.undecided.now (omega (arith, c.in-empty.len_below))))
    (last-AreCells env (places_of old slots) fin kept (condition old c.args.sought.part) (condition old c.args.sought.found) (all_askings old us) q c.in-Parts.field-0.items gives parts.0 parts.1)

pub returns-in_err-more-in-len1-up-clause-extends : goal.returns-in_err-more-in-len1-up-clause-extends
returns-in_err-more-in-len1-up-clause-extends g t c = then_all _ _ _ _ c.diff.ensures.extends c.avoid.ensures.extends

pub cells-requires : goal.cells-requires
cells-requires g t c κs within =
    let old = c.args.dia.now in
    let new = c.avoid.new.dia in
    let slots = c.args.slots.now in
    let us = c.args.undecided.now in
    let f = c.first-item.result in
    let some = c.in-len1-up.len_at_least in
    let on = then_all 0 old c.diff.new.self new c.diff.ensures.extends c.avoid.ensures.extends in
    let aimed = aimed-keep old new on.keeps (length slots) us c.requires.undecided in
    let both = first-All (IsAimed new (length slots)) us f some c.first-item.is aimed in
    let decided = one_more-AreUnwanted new (length slots) c.args.decided.now c.in_ok-more-in-len1-up.more.items f.elsewhere.demands.items c.in_ok-more-in-len1-up.ensures (unwanted-keep old new on.keeps (length slots) c.args.decided.now c.requires.decided) both.0.elsewhere both.0.count in
    let shorter = rest-shorter us f some in (
      omega (arith, shorter),
      (
        within,
        (
          slots-keep old new on.keeps slots c.requires.slots,
          (
            both.1,
            (
              subst (AreUnwanted new (length slots)) (sym c.deref.ensures.value) decided,
              (
                length-grows old.diagrams new.diagrams c.args.sought.part on.keeps.diagrams c.requires.part,
                length-grows old.diagrams new.diagrams c.args.sought.found on.keeps.diagrams c.requires.found,
              ),
            ),
          ),
        ),
      ),
    )

pub returns-in_err-found-in-len1-up-clause-extends : goal.returns-in_err-found-in-len1-up-clause-extends
returns-in_err-found-in-len1-up-clause-extends g t c = then_all _ _ _ _ (then_all _ _ _ _ c.diff.ensures.extends c.avoid.ensures.extends) c.cells.ensures.extends

pub returns-in-Ask-2-clause-extends : goal.returns-in-Ask-2-clause-extends
returns-in-Ask-2-clause-extends g t c = then_all _ _ _ _ (then_all _ _ _ _ c.diff.ensures.extends c.avoid.ensures.extends) c.cells.ensures.extends

pub returns-in-Ask-2-clause-tells : goal.returns-in-Ask-2-clause-tells
returns-in-Ask-2-clause-tells g t c =
    let old = c.args.dia.now in
    let mid = c.avoid.new.dia in
    let new = c.cells.new.dia in
    let kept = g.M.Member.kept c.args.context.now.m.now in
    let slots = c.args.slots.now in
    let us = c.args.undecided.now in
    let decided = c.args.decided.now in
    let f = c.first-item.result in
    let some = c.in-len1-up.len_at_least in
    let part = condition old c.args.sought.part in
    let found = condition old c.args.sought.found in
    let on = then_all 0 old c.diff.new.self mid c.diff.ensures.extends c.avoid.ensures.extends in
    λ env sound.
    let told = told-elsewhere env old mid new kept on.keeps slots c.requires.slots us f some c.first-item.is c.requires.undecided decided c.requires.decided c.in_ok-more-in-len1-up.more.items c.deref.result.now c.deref.ensures.value c.in_ok-more-in-len1-up.ensures
    c.args.sought.part c.args.sought.found c.requires.part c.requires.found c.in_ok-found-in-len1-up.field-0 (c.in_ok-found-in-len1-up.ensures.tells env (sound-keeps env old mid kept on.keeps sound)) in
    let asks = subst (TellsCells env (places_of old slots) new kept (aims_of old (rest_of us)) (all_askings old decided ++ askings_of old f.elsewhere ∷ []) part found) c.in-Ask-2.is told in
    subst (λ es. TellsCells env (places_of old slots) new kept es (all_askings old decided) part found (Ask c.in-Ask-2.question)) (sym (first-aims old us f some c.first-item.is))
    (elsewhere-TellsCells env (places_of old slots) new kept part found (aim_of old f) (aims_of old (rest_of us)) (all_askings old decided) c.in-Ask-2.question asks)

pub diff-requires-in-len1-up-clause-b : goal.diff-requires-in-len1-up-clause-b
diff-requires-in-len1-up-clause-b g t c =
    let old = c.args.dia.now in
    let us = c.args.undecided.now in
    let f = c.first-item.result in
    let places = length c.args.slots.now in
    let on = then_all 0 old c.avoid.new.dia c.cells.new.dia (then_all 0 old c.diff.new.self c.avoid.new.dia c.diff.ensures.extends c.avoid.ensures.extends) c.cells.ensures.extends in
    length-grows old.diagrams c.cells.new.dia.diagrams f.there on.keeps.diagrams (first-All (IsAimed old places) us f c.in-len1-up.len_at_least c.first-item.is c.requires.undecided).0.there

pub returns-in_err-part-in-len1-up-clause-extends : goal.returns-in_err-part-in-len1-up-clause-extends
returns-in_err-part-in-len1-up-clause-extends g t c =
    then_all _ _ _ _ (then_all _ _ _ _ (then_all _ _ _ _ c.diff.ensures.extends c.avoid.ensures.extends) c.cells.ensures.extends) c.diff-in-len1-up.ensures.extends

pub cells-requires-in-len1-up : goal.cells-requires-in-len1-up
cells-requires-in-len1-up g t c κs within =
    let old = c.args.dia.now in
    let mid = c.cells.new.dia in
    let new = c.diff-in-len1-up.new.self in
    let slots = c.args.slots.now in
    let us = c.args.undecided.now in
    let f = c.first-item.result in
    let some = c.in-len1-up.len_at_least in
    let on = then_all 0 old mid new (then_all 0 old c.avoid.new.dia mid (then_all 0 old c.diff.new.self c.avoid.new.dia c.diff.ensures.extends c.avoid.ensures.extends) c.cells.ensures.extends) c.diff-in-len1-up.ensures.extends in
    let aimed = aimed-keep old new on.keeps (length slots) us c.requires.undecided in
    let both = first-All (IsAimed new (length slots)) us f some c.first-item.is aimed in
    let found = subst (GivesDiagram mid) c.in-Parts-2.is c.in_ok-found-in-len1-up.ensures.diagram in
    let shorter = rest-shorter us f some in (
      omega (arith, shorter),
      (
        within,
        (
          slots-keep old new on.keeps slots c.requires.slots,
          (
            both.1,
            (
              unwanted-keep old new on.keeps (length slots) c.args.decided.now c.requires.decided,
              (
                c.in_ok-part-in-len1-up.ensures.condition.diagram,
                length-grows mid.diagrams new.diagrams c.in-Parts-2.found c.diff-in-len1-up.ensures.extends.keeps.diagrams found,
              ),
            ),
          ),
        ),
      ),
    )

pub returns-in_ok-part-in-len1-up-clause-extends : goal.returns-in_ok-part-in-len1-up-clause-extends
returns-in_ok-part-in-len1-up-clause-extends g t c =
    then_all _ _ _ _ (then_all _ _ _ _ (then_all _ _ _ _ (then_all _ _ _ _ c.diff.ensures.extends c.avoid.ensures.extends) c.cells.ensures.extends) c.diff-in-len1-up.ensures.extends) c.cells-in-len1-up.ensures.extends

pub returns-in_ok-part-in-len1-up-clause-tells : goal.returns-in_ok-part-in-len1-up-clause-tells
returns-in_ok-part-in-len1-up-clause-tells g t c =
    let old = c.args.dia.now in
    let first = c.avoid.new.dia in
    let mid = c.cells.new.dia in
    let next = c.diff-in-len1-up.new.self in
    let new = c.cells-in-len1-up.new.dia in
    let kept = g.M.Member.kept c.args.context.now.m.now in
    let slots = c.args.slots.now in
    let us = c.args.undecided.now in
    let decided = c.args.decided.now in
    let f = c.first-item.result in
    let some = c.in-len1-up.len_at_least in
    let part = condition old c.args.sought.part in
    let found = condition old c.args.sought.found in
    let p = c.in-Parts-2.found in
    let on = then_all 0 old c.diff.new.self first c.diff.ensures.extends c.avoid.ensures.extends in
    let to_mid = then_all 0 old first mid on c.cells.ensures.extends in
    let to_next = then_all 0 old mid next to_mid c.diff-in-len1-up.ensures.extends in
    let last = then_all 0 mid next new c.diff-in-len1-up.ensures.extends c.cells-in-len1-up.ensures.extends in
    let is_diagram = subst (GivesDiagram mid) c.in-Parts-2.is c.in_ok-found-in-len1-up.ensures.diagram in
    let there = (first-All (IsAimed old (length slots)) us f some c.first-item.is c.requires.undecided).0.there in
    let without_is : Gives next (without part (condition old f.there)) c.in_ok-part-in-len1-up.part =
    subst (λ d. Gives next (without d (condition old f.there)) c.in_ok-part-in-len1-up.part) (to_mid.keeps.conditions c.args.sought.part c.requires.part)
    (subst (λ d. Gives next (without (condition mid c.args.sought.part) d) c.in_ok-part-in-len1-up.part) (to_mid.keeps.conditions f.there there) c.in_ok-part-in-len1-up.ensures.condition) in
    IfOk-map _ _ (λ r h env sound.
    let told = told-elsewhere env old first mid kept on.keeps slots c.requires.slots us f some c.first-item.is c.requires.undecided decided c.requires.decided c.in_ok-more-in-len1-up.more.items c.deref.result.now c.deref.ensures.value c.in_ok-more-in-len1-up.ensures
    c.args.sought.part c.args.sought.found c.requires.part c.requires.found c.in_ok-found-in-len1-up.field-0 (c.in_ok-found-in-len1-up.ensures.tells env (sound-keeps env old first kept on.keeps sound)) in
    let cells = subst (TellsCells env (places_of old slots) mid kept (aims_of old (rest_of us)) (all_askings old decided ++ askings_of old f.elsewhere ∷ []) part found) c.in-Parts-2.is told in
    let rest = told-there env old next new kept to_next.keeps slots c.requires.slots us f some c.first-item.is c.requires.undecided decided c.requires.decided (without part (condition old f.there)) c.in_ok-part-in-len1-up.part (condition next p) (condition mid p)
    without_is.condition (c.diff-in-len1-up.ensures.extends.keeps.conditions p is_diagram) r (h env (sound-keeps env old next kept to_next.keeps sound)) in
    subst (λ es. TellsCells env (places_of old slots) new kept es (all_askings old decided) part found r) (sym (first-aims old us f some c.first-item.is))
    (both-TellsCells env (places_of old slots) mid new kept last.keeps (sound-keeps env old mid kept to_mid.keeps sound) (aim_of old f) (aims_of old (rest_of us)) (all_askings old decided) part found p cells r rest))
    c.cells-in-len1-up.result c.cells-in-len1-up.ensures.tells

pub returns-then-is_nothing-clause-looks : goal.returns-then-is_nothing-clause-looks
returns-then-is_nothing-clause-looks g t c =
    λ env part found there. looks-keep env c.args.dia.now c.diff.new.self c.args.sought.found c.diff.ensures.extends.keeps c.requires.found found

pub returns-in-Empty-clause-looks : goal.returns-in-Empty-clause-looks
returns-in-Empty-clause-looks g t c =
    let on = then_all 0 c.args.dia.now c.diff.new.self c.avoid.new.dia c.diff.ensures.extends c.avoid.ensures.extends in
    λ env part found there. looks-keep env c.args.dia.now c.avoid.new.dia c.args.sought.found on.keeps c.requires.found found

pub returns-in_ok-union-in-empty-clause-looks : goal.returns-in_ok-union-in-empty-clause-looks
returns-in_ok-union-in-empty-clause-looks g t c =
    let old = c.args.dia.now in
    let new = c.avoid.new.dia in
    let on = then_all 0 old c.diff.new.self new c.diff.ensures.extends c.avoid.ensures.extends in
    λ env part found there. or-Looks env c.union.new.self (condition new c.args.sought.found) (condition new c.args.sought.part) c.in_ok-union-in-empty.field-0 c.in_ok-union-in-empty.ensures.condition
    (looks-keep env old new c.args.sought.found on.keeps c.requires.found found) (looks-keep env old new c.args.sought.part on.keeps c.requires.part part)

pub returns-in_ok-part-in-len1-up-clause-looks : goal.returns-in_ok-part-in-len1-up-clause-looks
returns-in_ok-part-in-len1-up-clause-looks g t c =
    let old = c.args.dia.now in
    let first = c.avoid.new.dia in
    let mid = c.cells.new.dia in
    let next = c.diff-in-len1-up.new.self in
    let us = c.args.undecided.now in
    let f = c.first-item.result in
    let some = c.in-len1-up.len_at_least in
    let places = length c.args.slots.now in
    let p = c.in-Parts-2.found in
    let on = then_all 0 old c.diff.new.self first c.diff.ensures.extends c.avoid.ensures.extends in
    let to_mid = then_all 0 old first mid on c.cells.ensures.extends in
    let to_next = then_all 0 old mid next to_mid c.diff-in-len1-up.ensures.extends in
    let is_diagram = subst (GivesDiagram mid) c.in-Parts-2.is c.in_ok-found-in-len1-up.ensures.diagram in
    let first_is = (first-All (IsAimed old places) us f some c.first-item.is c.requires.undecided).0.there in
    IfOk-map _ _ (λ r h env part found there.
    let before = subst (LooksAtParts env mid) c.in-Parts-2.is
    (c.in_ok-found-in-len1-up.ensures.looks env (looks-keep env old first c.args.sought.part on.keeps c.requires.part part) (looks-keep env old first c.args.sought.found on.keeps c.requires.found found) (rest-Looks env old first places us f some c.first-item.is on.keeps c.requires.undecided there)) in
    let first_looks = (first-All (λ a. LooksAtKinds env (condition old a.there)) us f some c.first-item.is there).0 in
    h env
    (without-Looks env next (condition mid c.args.sought.part) (condition mid f.there) c.in_ok-part-in-len1-up.part c.in_ok-part-in-len1-up.ensures.condition
    (looks-keep env old mid c.args.sought.part to_mid.keeps c.requires.part part) (looks-keep env old mid f.there to_mid.keeps first_is first_looks))
    (looks-keep env mid next p c.diff-in-len1-up.ensures.extends.keeps is_diagram before)
    (rest-Looks env old next places us f some c.first-item.is to_next.keeps c.requires.undecided there))
    c.cells-in-len1-up.result c.cells-in-len1-up.ensures.looks
