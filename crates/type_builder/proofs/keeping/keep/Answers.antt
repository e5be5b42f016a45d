use Rattle.type_builder.specs.Listing.{placed_of}
use Rattle.type_builder.proofs.Keeps.{type-kept, type-stops}
use Rattle.type_builder.proofs.keeping.keep.Goals as goal

-- src/keeping.rt:55:21
pub returns-in_err-t-in-Type : goal.returns-in_err-t-in-Type
returns-in_err-t-in-Type c =
    type-stops c.args.site.now.first (placed_of c.args.site.now) c.args.names.now c.in-Type.d c.in-Type.is c.scope.result c.scope.ensures c.deref.result.now c.deref.ensures
    c.new_draft-draft.result c.type_tree.new.draft c.new_draft-draft.ensures c.args.names.now c.in_err-t-in-Type.field-0.0 c.from_residual.result c.from_residual.ensures c.in_err-t-in-Type.ensures

-- src/keeping.rt:47:1
pub returns-in_ok-note-in-Type : goal.returns-in_ok-note-in-Type
returns-in_ok-note-in-Type c =
    type-kept c.args.site.now.first (placed_of c.args.site.now) c.args.names.now c.in-Type.d c.in-Type.is c.scope.result c.scope.ensures c.deref.result.now c.deref.ensures
    c.new_draft-draft.result c.type_tree.new.draft c.new_draft-draft.ensures c.note.new.names c.in_ok-t-in-Type.t c.in_ok-kept-in-Type.kept tt c.in_ok-t-in-Type.ensures c.in_ok-kept-in-Type.ensures c.in_ok-note-in-Type.ensures
