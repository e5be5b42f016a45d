use Rattle.type_builder.proofs.building.define_all.Given as goal

abbrev pub ghost-kept_types : goal.ghost-kept_types
ghost-kept_types g a = g.whole

abbrev pub ghost-define : goal.ghost-define
ghost-define g a = g.whole
