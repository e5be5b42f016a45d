use Rattle.std.proofs.Common.{◌≡◌, ◌≢◌, AllPairs}
use Rattle.type_model.specs.declared.atoms.FieldDef.{FieldDef}
use Rattle.descriptors.specs.Described.{names_of}
use Rattle.descriptors.specs.Descriptors.{descriptor_of, of_param}
use Rattle.descriptors.proofs.Walks.{FieldsSoFar, TypesSoFar}
use Rattle.descriptors.proofs.+types.Given as goal

abbrev pub invariant-lists::field_list-loop-tree : goal.invariant-lists::field_list-loop-tree
invariant-lists::field_list-loop-tree l = record {
  walked : FieldsSoFar l.names l.scope l.trees l.tree-index l.done.items l.fn.draft l.draft;
  taken : l.taken.keys ≡ names_of l.done.items;
  distinct : AllPairs (λ (a b : FieldDef). a.name ≢ b.name) l.done.items;
}

abbrev pub invariant-lists::param_list-loop-tree : goal.invariant-lists::param_list-loop-tree
invariant-lists::param_list-loop-tree l = TypesSoFar l.names l.scope of_param l.trees l.tree-index l.done.items l.fn.draft l.draft

abbrev pub invariant-lists::type_list-loop-tree : goal.invariant-lists::type_list-loop-tree
invariant-lists::type_list-loop-tree l = TypesSoFar l.names l.scope descriptor_of l.trees l.tree-index l.done.items l.fn.draft l.draft
