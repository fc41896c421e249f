-- What a word is where a type may begin.
use Rattle.js_grammar.specs.Machine.{TypeWord as Class, type_name, null_word, void_word, truth_of, array_word, other_word}
use Rattle.type_parser.specs.declared.words.TypeWord.{TypeWord}
use Rattle.type_parser.specs.declared.words.TypeWord.TheVariants.{Name, Null, Void, Truth, Array, Other}

-- what the reader says of a word, in the grammar's terms
abbrev pub word_view : TypeWord → Class
word_view Name = type_name
word_view Null = null_word
word_view Void = void_word
word_view (Truth b) = truth_of b
word_view (Array o) = array_word o
word_view Other = other_word
