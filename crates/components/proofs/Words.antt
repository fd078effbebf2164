-- Each component is found by its word.
use Rattle.std.proofs.Common.{refl}
use Rattle.components.specs.declared.component.Component.TheVariants.{Entry, Exit, Buffer, Fork, Join, Split, Operator, Constant, Source, Sink, Pure, Mux, Branch, Merge, CtrlMerge, Init, Tagger}
use Rattle.components.specs.Component.{component_of, WordsReadBack}

pub words_read_back : WordsReadBack
unfolding component_of
words_read_back Entry = refl
words_read_back Exit = refl
words_read_back Buffer = refl
words_read_back Fork = refl
words_read_back Join = refl
words_read_back Split = refl
words_read_back Operator = refl
words_read_back Constant = refl
words_read_back Source = refl
words_read_back Sink = refl
words_read_back Pure = refl
words_read_back Mux = refl
words_read_back Branch = refl
words_read_back Merge = refl
words_read_back CtrlMerge = refl
words_read_back Init = refl
words_read_back Tagger = refl
