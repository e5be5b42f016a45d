use Rattle.std.proofs.Common.{◌≡◌, ◌+◌, Some, Ok, Err, map, slice_get, sym, ap, subst, ◌∙◌, arith}
use Rattle.descriptors.specs.Drafts.{AreNamesBelow, Drafts}
use Rattle.descriptors.specs.Steps.{MeaningBelow}
use Rattle.name_resolution.specs.Definitions.{definitions_of}
use Rattle.type_builder.specs.Meanings.{meaning_drafted}
use Rattle.type_builder.specs.Listing.{placed_of}
use Rattle.type_builder.proofs.DefEnds.{all-below, all-defined, all-long, all-sound, nothing-defined}
use Rattle.type_builder.proofs.DefStages.{IsDefinedTo, none-stopped, one-defined, unit-fits}
use Rattle.type_builder.proofs.Listed.{all-listed, listed-at, of-package, sites-placed}
use Rattle.type_builder.proofs.Noted.{home-there}
use Rattle.type_builder.proofs.defining.define.Goals as goal

-- src/defining.rt:45:5
pub loop-site-init : goal.loop-site-init
loop-site-init g c =
    (c.requires.1.1.1.0, nothing-defined g.whole c.args.names.now.own c.args.listing.now.first c.args.names.now c.requires.1.1.1.0 c.requires.0 c.requires.1.1.1.1 c.new_draft-draft.result c.new_draft-draft.ensures)

-- src/defining.rt:46:21
pub returns-in_err-meant-clause-faultless : goal.returns-in_err-meant-clause-faultless
returns-in_err-meant-clause-faultless g c =
    let pack = g.whole in
    let i = c.loop-site.site-index in
    let q = placed_of c.site-item.result in
    let at : slice_get (definitions_of pack) i ≡ Some q =
    listed-at (definitions_of pack) c.deref-site-items.result.now i c.site-item.result
    (ap (λ xs. map placed_of xs) c.deref-site-items.ensures.value ∙ sites-placed (definitions_of pack) c.args.listing.now c.requires.1.0) c.loop-site-test.true c.site-item.is in
    none-stopped pack c.args.names.now.own c.args.listing.now.first c.args.names.now c.loop-site.invariant.0 c.requires.0 c.requires.1.1.0 c.requires.1.1.1.1 (of-package pack)
    i c.loop-site.draft c.meaning.new.draft c.loop-site.before c.loop-site.names q at c.loop-site.invariant.1 c.in_err-meant.field-0.0 c.from_residual.result c.from_residual.ensures
    (subst (λ s. Drafts (AreNamesBelow c.loop-site.names) MeaningBelow (meaning_drafted c.loop-site.names s c.loop-site.before c.site-item.result.def.now) c.loop-site.draft (Err c.in_err-meant.field-0.0) c.meaning.new.draft)
    c.scope.ensures c.in_err-meant.ensures)

-- src/defining.rt:47:9
pub note_value-requires : goal.note_value-requires
note_value-requires g c =
    let pack = g.whole in
    let i = c.loop-site.site-index in
    home-there pack c.args.names.now.own c.loop-site.invariant.1.es c.loop-site.names i (placed_of c.site-item.result) c.loop-site.invariant.1.entries
    (listed-at (definitions_of pack) c.deref-site-items.result.now i c.site-item.result
    (ap (λ xs. map placed_of xs) c.deref-site-items.ensures.value ∙ sites-placed (definitions_of pack) c.args.listing.now c.requires.1.0) c.loop-site-test.true c.site-item.is)

pub with-requires : goal.with-requires
with-requires g c =
    let pack = g.whole in
    let i = c.loop-site.site-index in
    let q = placed_of c.site-item.result in
    let at : slice_get (definitions_of pack) i ≡ Some q =
    listed-at (definitions_of pack) c.deref-site-items.result.now i c.site-item.result
    (ap (λ xs. map placed_of xs) c.deref-site-items.ensures.value ∙ sites-placed (definitions_of pack) c.args.listing.now c.requires.1.0) c.loop-site-test.true c.site-item.is in
    unit-fits pack c.args.names.now.own c.args.listing.now.first c.args.names.now c.loop-site.invariant.0 c.requires.0 c.requires.1.1.0 c.requires.1.1.1.1 (of-package pack)
    i c.loop-site.draft c.loop-site.draft c.loop-site.before c.loop-site.names q at c.loop-site.invariant.1

-- src/defining.rt:45:5
pub loop-site-preserved : goal.loop-site-preserved
loop-site-preserved g c =
    let pack = g.whole in
    let own = c.args.names.now.own in
    let first = c.args.listing.now.first in
    let i = c.loop-site.site-index in
    let q = placed_of c.site-item.result in
    let kept = c.loop-site.invariant.0 in
    let at : slice_get (definitions_of pack) i ≡ Some q =
    listed-at (definitions_of pack) c.deref-site-items.result.now i c.site-item.result
    (ap (λ xs. map placed_of xs) c.deref-site-items.ensures.value ∙ sites-placed (definitions_of pack) c.args.listing.now c.requires.1.0) c.loop-site-test.true c.site-item.is in (
      kept,
      subst (λ n. IsDefinedTo pack own first c.args.names.now kept (i + 1) c.meaning.new.draft n c.note_value.new.names) (sym c.in_ok-before.ensures)
          (one-defined pack own first c.args.names.now kept c.requires.0 c.requires.1.1.0 c.requires.1.1.1.1 (of-package pack) i c.loop-site.draft c.meaning.new.draft c.loop-site.before c.loop-site.names q at
          c.loop-site.invariant.1 c.in_ok-meant.meant c.note_value.new.names
          (subst (λ s. Drafts (AreNamesBelow c.loop-site.names) MeaningBelow (meaning_drafted c.loop-site.names s c.loop-site.before c.site-item.result.def.now) c.loop-site.draft (Ok c.in_ok-meant.meant) c.meaning.new.draft)
          c.scope.ensures c.in_ok-meant.ensures) c.in_ok-note_value.ensures),
    )

pub returns-clause-defined : goal.returns-clause-defined
returns-clause-defined g c =
    all-defined g.whole c.args.names.now.own c.args.listing.now.first c.args.names.now c.loop-site.invariant.0 c.requires.0 c.requires.1.1.1.1 (of-package g.whole) c.loop-site.site-index
    c.loop-site.draft c.loop-site.before c.loop-site.names (all-listed (definitions_of g.whole) c.deref-site-items.result.now c.args.listing.now c.loop-site.site-index c.requires.1.0 c.deref-site-items.ensures.value (omega arith)) c.loop-site.invariant.1

pub returns-clause-long : goal.returns-clause-long
returns-clause-long g c =
    all-long g.whole c.args.names.now.own c.args.listing.now.first c.args.names.now c.loop-site.invariant.0 c.requires.0 c.requires.1.1.1.1 (of-package g.whole) c.loop-site.site-index
    c.loop-site.draft c.loop-site.before c.loop-site.names (all-listed (definitions_of g.whole) c.deref-site-items.result.now c.args.listing.now c.loop-site.site-index c.requires.1.0 c.deref-site-items.ensures.value (omega arith)) c.loop-site.invariant.1

pub returns-clause-sound : goal.returns-clause-sound
returns-clause-sound g c =
    all-sound g.whole c.args.names.now.own c.args.listing.now.first c.args.names.now c.loop-site.invariant.0 c.requires.0 c.requires.1.1.1.1 (of-package g.whole) c.loop-site.site-index
    c.loop-site.draft c.loop-site.before c.loop-site.names (all-listed (definitions_of g.whole) c.deref-site-items.result.now c.args.listing.now c.loop-site.site-index c.requires.1.0 c.deref-site-items.ensures.value (omega arith)) c.loop-site.invariant.1

pub returns-clause-meanings : goal.returns-clause-meanings
returns-clause-meanings g c =
    all-below g.whole c.args.names.now.own c.args.listing.now.first c.args.names.now c.loop-site.invariant.0 c.requires.0 c.requires.1.1.1.1 (of-package g.whole) c.loop-site.site-index
    c.loop-site.draft c.loop-site.before c.loop-site.names (all-listed (definitions_of g.whole) c.deref-site-items.result.now c.args.listing.now c.loop-site.site-index c.requires.1.0 c.deref-site-items.ensures.value (omega arith)) c.loop-site.invariant.1
