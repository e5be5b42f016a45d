use Rattle.type_builder.proofs.main_in_place.question.Given as goal

abbrev pub ghost-define_all : goal.ghost-define_all
ghost-define_all g a = g.whole

abbrev pub ghost-listed_fits : goal.ghost-listed_fits
ghost-listed_fits g a = g.whole
