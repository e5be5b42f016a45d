use Rattle.type_builder.proofs.building.define_package.Given as goal

abbrev pub ghost-define_all : goal.ghost-define_all
ghost-define_all g a = a.«package».now
